-- Which inputs a call accepts, and what comes back.
--
-- The guards of the calls, one by one: Guards. The calls that begin from a vector: FromVector; from a table: FromTable; from a record:
-- record_laws FromRecord. What an answer reads as fixes it: Answers.reads_unique. The ends of a call, by which every promise is kept: Kept.
pub mod FromVector
