-- The clade table by passes: each goes over all records of an archive and finds the next batch of entries.
--
-- One pass, from the vectors' merges
--     Collected.collected_batch: any list in which each leaf set stands as often as it occurs gives the batch; Merged.vector_sets_lem,
--     archive_batch: the merges of vectors are such a list.
-- Record by record
--     Archive.vectors_made, vectors_next, vectors_stay, vectors_refused; collected_append, archive_sets_append; so one_pass.
-- Pass by pass
--     Passes.table_from and Batches.first_batch, next_batch: the bound of each pass; last_batch, full_batch: how many entries there are;
--     batch_entry: where an entry stands.
-- Records without bytes
--     NoBytes.vectors_of_one, one_leaf_table; vectors_of_two, no_trees_table, two_leaves_table.
-- How great the numbers are
--     Bounds.length_vector_sets, length_archive_sets, set_at_bounds; collected_rises, collected_length, collected_counts; trees_sets_bounds, trees_counts, trees_table_length.
pub mod Passes
pub mod Batches
pub mod Collected
pub mod Merged
pub mod NoBytes
