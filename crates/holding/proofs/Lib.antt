pub mod AnswerLine
pub mod RecordBytes
pub mod Wanted
