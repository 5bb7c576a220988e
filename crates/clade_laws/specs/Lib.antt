-- The laws of the clade table, and which sentence of CR 4 each answers.
--
-- "its leaf set as a 64-bit number (leaf x is bit x)"
--     Numbers.leaf_bit, same_number, bits_equal; below 2^n: Inner.inner_lt.
-- "each different clade of two leaves or more"
--     Inner.inner_clades, pair_occurs; n-1 of them in a tree, different: InnerLength.inner_length_below, Inner.inner_different.
-- "its size, and in how many trees it occurs"
--     Entries.table_sizes, table_counts, count_in_table; by clades as sets: Counted.occurs_counted, pair_counted, counted_once.
-- "Entries rise by leaf set."
--     Entries.table_is, table_rises; the only such table: only_table.
-- "The counts .. add up to trees times (n-1)."
--     Totals.counts_add_up; so table_length; the order of the trees does not count: reordered_table.
pub mod Numbers
pub mod Inner
pub mod Rising
pub mod Entries
pub mod Counted
pub mod Totals
