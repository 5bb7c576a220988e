-- `check_trees` meets its contract: a tree that is refused is what the archive is refused for.
use Rattle.clade_calls.specs.Checked.{passed_first, tree_stopped}
use Rattle.clade_calls.proofs.check_trees.Goals as goal

pub returns-in-Some : goal.returns-in-Some
returns-in-Some c = tree_stopped c.args.trees.now.archive.now _ _ c.args.trees.now.given c.requires c.in-Some.ensures c.read_tree.ensures c.clear.ensures

pub check_room-requires : goal.check_room-requires
check_room-requires c = passed_first c.args.trees.now.given c.requires c.in_default.ensures
