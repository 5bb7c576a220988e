-- The three demands, each sentence with the theorem that answers it. Everything here is stated over the definitions of the crate `rules` and
-- over the promises of the public calls that stand there, never over code; the crate `tie` has the functions under these same promises.
--
-- The promise. rules, Promise.Keeps c old a new: the answer a, and what the lent buffers hold afterwards, are those that what the call c makes of
-- its input (rules, Call*) and the room lent give. Calls.Public has the twelve calls, each with its input; Lent the buffers lent to each (Shapes);
-- Kept its promise.
--
-- Demand 1. "Every input gets a finished answer;"
--     DemandOne.every_input_answered: for every input and all lent buffers one answer, and one thing that the buffers then hold, meet the promise,
--     and no others do; promise_unique: two results that meet it are equal. An answer is done or refused: done_or_refused.
-- "a refusal carries its number and place from the table,"
--     DemandOne.refused_exactly: a call refuses with a number and a place exactly when the condition holds that 01 gives. There is a line for each
--     number and each kind of input, in 01's order: LawVector.VectorRefused (1, 4), LawRelabel.RelabelRefused (then 2, 11),
--     LawFromTable.TableRefused (1, 2, rows upward with 5, 6, 7 in each), LawFromNewick.TextRefused (2, 2, 8, 1, 9 and 13), LawUnpack.RecordRefused
--     (2, 1, 2, 4, 10), LawWriteArchive.ArchiveRefused (1, 21, 2, 4), LawReadTree.TreeRefused (2, 1, 2, 12, 4, 10), LawCladeTable.CladesRefused
--     (2, 1, 14, 2, tree by tree 4 and 10); "Of one number, the first place counts": rules First, Conditions.FirstRow. 3 comes last, for the clade
--     table 15: room_exactly. No two conditions hold at once: one_refusal. Done: done_exactly, with the count.
-- "and every lent buffer then holds what it held."
--     DemandOne.refusal_writes_nothing.
--
-- Demand 2. "The tree of a vector is the one the paper's building rule gives;"
--     rules: Building has the rule word for word, Tree.tree_of the tree that its merges build; laws: what follows from it.
-- "vector, table, packed record and text of a tree are the ones the rules fix;"
--     DemandTwo.demand_two: table_written, text_written, record_written: where there is room the call is done with the number of elements, the
--     buffer holds the elements and behind them what it held. tree_turned_back: the vector of a valid vector's tree is that vector.
--     table_of_the_tree: the rows make the vector's tree, in the order of merges, "the child with the smaller least leaf first" (WrittenTable).
--     text_of_the_tree: the text is one of the grammar and reads as that tree, the smaller least leaf first, with no blank (WrittenText).
-- "turned back, each gives the vector it came from."
--     DemandTwo.demand_two: table_turned_back, text_turned_back, record_turned_back; as equations of the rules: table_back, text_back,
--     record_back. For all valid vectors of 1 to 1,024 entries.
-- "The result is the permutation new and the vector of the relabelled tree, which has v(i) < i"; "leaf x becoming p(x)"
--     DemandTwo.demand_two: shuffled_written, relabelled_written: the answer and what each buffer holds. shuffled_tree, relabelled_tree: new is a
--     permutation, the vector is valid and has as many entries, the clades of its tree are the new names of the tree's clades, v(i) < i (Relabelled).
--
-- Demand 3. Accepted inputs of any notation "lead to the same vector exactly when they have the same clades";
--     DemandThree.demand_three. Input has the five kinds, Leads says that one is accepted and to which vector it leads, which is the one that
--     the public call leaves in the buffer (Leads.done_leads, leads_done). CladeOf has its clades, worked out in its own notation: by the
--     building rule, by the rows alone, by the brackets of a text's signs, by the entries in the bits, in an archive by those in the bits of record r.
-- "every rooted binary tree with leaves 0 to n-1 .. is the tree of a vector".
--     DemandThree.every_tree_has_a_vector, for n up to 1,024: the vector is accepted.
--
-- "How tight the statements are". A wrong library breaks the promise where only one call or one buffer is wrong, and only where it is done:
--     "One that refuses everything": Tight.not_refuse_everything. "One fixed vector for all": not_one_vector; by demand 3 too:
--     TightByThree.not_one_vector_of_tables, not_one_vector_of_texts, not_one_vector_of_records, not_one_vector_of_archives. "One that answers done
--     and writes nothing": not_write_nothing. "One that merges properly once": every_row, not_one_row. "A count of elements not tied to what was written":
--     done_is_written, count_is_written, not_one_count. No buffer is left out of these: EachCall.no_buffer_missed.
--     One library, and only one, keeps the promises: one_library_keeps, no_two_libraries.
--
-- CR 1, the archive. "a writer into a lent buffer, from n and the vectors' entries in one list, tree after tree (an empty list: no trees)"
--     DemandTwo.demand_two: archive_written, for every run of vectors, none too; exactly these are taken: archive_laws Writer.written_exactly.
-- "a reader of tree r"
--     DemandTwo.demand_two: archive_turned_back; as an equation of the rules: archive_back. An archive whose trees are all accepted is the one that
--     is written of them: archive_laws Only.only_archive, same_archive.
-- "a view, the part of the lent archive that is record r, empty where the reader gives 1, 2 or 12"
--     View.view_is_the_record, view_empty_exactly, beside the reader's promise; one or the other: record_or_empty. What the part of a written archive
--     holds: DemandTwo.demand_two, archive_part.
-- "The answer about tree r depends on the header, the archive's length, r, the output's length and record r's bytes only."
--     Depends.answer_depends: the same answer and the same elements written; DependsWhole.output_depends: into one output the whole of it. The view:
--     part_depends, view_depends.
-- "Demands 2 and 3 read archive records as packed records with that n."
--     DemandTwo.demand_two: archive_as_packed. DemandThree: an archive and a number r are the fifth kind of input (archived); archived_as_packed:
--     it leads where the packed record leads and has its clades. Whether accepted or not: archive_laws AsPacked.read_as_packed.
-- "Refusals: the reader gives 2 under 4 bytes (place 4), 1, 2 .., 12 .., then 4 and 10 .., then 3; the writer gives 1, 21 .., 2 .., 4 .., 3."
--     LawReadTree.TreeRefused and LawWriteArchive.ArchiveRefused, in DemandOne.refused_exactly and room_exactly as those of every call. The place of the
--     writer's 2 is the first multiple of n above the length: LawWriteArchive.next_multiple_first; that of its 4: FirstEntry.first_entry_found.
--
-- CR 2, a stray label and a double one. "9 is now only "not below n"; 13 is "used before"; label by label in text order, 9 before 13 at the same label."
--     LawFromNewick.TextRefused, text_9 and text_13, in DemandOne.refused_exactly: FirstUnfit is the first label at fault, by either of the two, Stray
--     and Double are the two. The first label at fault never is both: not_both.
--
-- CR 3, blanks in a text. "Accept spaces, tabs, carriage returns and line feeds anywhere except inside a label"
--     Blanks.blanks_anywhere: bytes that have the signs of an accepted text, and no blank inside a label, lead to the same vector.
-- "Places of 8, 9 and 13 are in the bytes as sent."
--     LawFromNewick.TextRefused, text_8, text_9 and text_13: rules Newick.BreaksAt SentText and labels_of are of the bytes as sent.
-- "The writer still writes none."
--     DemandTwo.demand_two: text_of_the_tree, no_blank of WrittenText.
-- "Demand 3 reads such a text as its signs without blanks."
--     BlanksSigns.text_as_signs: an accepted text leads where its signs lead, and has their clades; same_signs_same_vector: two accepted texts that differ
--     in blanks only lead to the same vector.
-- "2 is now given first for a text above 65,536 bytes (place 65536), then for more than 6,056 bytes that aren't blanks (place 6056)."
--     LawFromNewick.TextRefused, text_2 and text_2_signs.
--
-- CR 4, the clade table. What the table is stands in the crate clade_demands, which is above this one.
-- "build a table in a lent list of entries: one entry for each different clade of two leaves or more, its leaf set as a 64-bit number (leaf x is bit x),
-- its size, and in how many trees it occurs. Entries rise by leaf set."
--     clade_demands Answered.done_table: where the call is done the first entries of the lent list are the clade table, as many as the answer says:
--     CladeTable.CladeTableOf with each_clade, rises, sizes, counts. No other list is one: table_made_exactly. "archive": the trees are those that the
--     reader of tree r reads, TreesRead.each_tree_read; of an archive that is written, those of its vectors: TreesRead.table_written.
-- "The counts, each defined from the trees and not from the table, add up to trees times (n-1)."
--     clade_demands CladeTable.Sums, add_up; a count is defined by the reader and by 01's clades: Occurs.HasClade, HowMany. In whatever order the trees
--     stand: CladeTable.order_does_not_count, Reordered.reordered_answers.
-- "Refusals: the archive's header refusals, with 14 for n above 64 (place n) directly after 1; then 4 and 10 tree by tree;"
--     LawCladeTable.CladesRefused, in DemandOne.refused_exactly as those of every call. None is given exactly where n is up to 64, the length is the
--     implied one and the reader reads every tree: clade_demands Answered.right_exactly.
-- "and last 15, exactly when there are more different clades than entries lent (place: entries needed)."
--     DemandOne.room_exactly, in these words: clade_demands Answered.refused_15_exactly; done: done_exactly. No trees, or one leaf: no_trees_done,
--     one_leaf_done.
--
-- The other files are on the way there: FirstPlace, FirstEntry and FirstWrongRow (the searches of the rules find the first place), Cases (each condition
-- holds or not), Law (demand 1 for any call), Law* (when each call refuses, and that it makes what is wanted), Long (how many elements that is),
-- TreesRead (the trees of an archive are those that are read), EachCall (for every vector an input of each call that is done, for the clade table for
-- every one of up to 64 entries).
pub mod Conditions
pub mod FirstPlace
pub mod FirstWrongRow
pub mod Law
pub mod FirstEntry
pub mod LawVector
pub mod LawFromTable
pub mod LawFromNewick
pub mod LawUnpack
pub mod LawWriteArchive
pub mod LawReadTree
pub mod LawCladeTable
pub mod LawRelabel
pub mod Shapes
pub mod Calls
pub mod Relabelled
pub mod WrittenTable
pub mod WrittenText
pub mod DemandTwo
pub mod TreesRead
pub mod View
pub mod Depends
pub mod Leads
pub mod DemandThree
pub mod EachCall
