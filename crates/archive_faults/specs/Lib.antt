pub mod FaultIn
