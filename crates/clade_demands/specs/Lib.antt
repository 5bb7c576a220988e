-- CR 4's sentences about the clade table, as theorems over its public promise. The page of the crate `demands` goes through them one by one; here is what
-- each file has.
--
-- Occurs: a clade of tree r, as the reader of the archive reads it (HasClade); in how many trees (HowMany, one number: how_many_once); how many
--     leaves it has (leaves_in).
-- CladeTable: CladeTableOf has the four sentences about the entries, each in terms of these; made_table: what the rules make of an archive is so;
--     table_made_exactly: and only that is, of an archive in which nothing is wrong. Sums: add_up and bounds (made_sums). order_does_not_count.
-- Answered: the answer and the lent list. done_table; reordered_answers; refused_15_exactly and done_exactly, by how many different clades there are,
--     whatever list has them (DifferentClades; there is one: different_clades); right_exactly; no_trees_done and one_leaf_done.
pub mod Occurs
pub mod CladeTable
pub mod Answered
