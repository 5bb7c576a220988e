pub mod Wanted
pub mod RecordBytes
pub mod AnswerLine
