-- The laws of the archive, and which sentence of CR 1 each answers.
--
-- "n in 11 bits, tree count in 21 bits"
--     Header.leaves_read, trees_read: they are read back; header_again: and the first four bytes are theirs; leaves_lt, trees_lt: how great they can be.
-- "then the records without their own n, each padded with zero bits to a byte"
--     BareFields.bare_bits, Bare.bare_length_bits; entries_behind_count, padding_behind_count: where they stand. from_bare: such a record makes its vector.
-- "a writer into a lent buffer, from n and the vectors' entries in one list, tree after tree (an empty list: no trees)"
--     Writer.written_exactly: what is taken, and what is made of it. Again.written_then_read: header, length, each tree and each part are read back.
-- "a reader of tree r"
--     Reader.only_accepted, tree_accepted: exactly which trees are read, and as which vectors; read_vector: these are valid. Only.only_archive,
--     only_written, same_archive: no two archives have the same n and the same trees.
-- "a view, the part of the lent archive that is record r, empty where the reader gives 1, 2 or 12"
--     ReaderView.view_inside, view_refused; the same of the part: Reader.part_inside, part_refused.
-- "The answer about tree r depends on the header, the archive's length, r, the output's length and record r's bytes only."
--     Local.read_local, part_local.
-- "Demands 2 and 3 read archive records as packed records with that n."
--     AsPacked.read_as_packed, packed_of_bare.
-- "Refusals": each over what the earlier ones leave
--     the reader: Framed.framed_cases, frame_refuses, then Reader.entry_refused, padding_refused; the writer: Writer.write_no_leaf, write_many_leaves,
--     write_too_many, write_in_parts (next_multiple), write_above; else write_accepted.
pub mod Framed
pub mod Bare
pub mod Reader
pub mod Local
pub mod Written
pub mod Writer
pub mod Again
pub mod AsPacked
pub mod Only
pub mod Cut
