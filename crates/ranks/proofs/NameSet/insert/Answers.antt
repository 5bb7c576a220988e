-- `insert` meets its contract: i counts for each later block, and for each later name of its block.
use Rattle.ranks.specs.Ranks.{block_le, name_le, ranks_also}
use Rattle.ranks.proofs.NameSet.insert.Goals as goal

pub add_to_blocks-requires-clause-by_index : goal.add_to_blocks-requires-clause-by_index
add_to_blocks-requires-clause-by_index c = block_le c.requires.by_index.1

pub add_to_names-requires-clause-by_index : goal.add_to_names-requires-clause-by_index
add_to_names-requires-clause-by_index c = name_le c.requires.by_index.1

pub returns : goal.returns
returns c = λ f R e. ranks_also R e c.requires.i_bound c.add_to_blocks.ensures c.add_to_names.ensures
