use Rattle.std.proofs.Common.{◌-◌, ◌+◌, ◌*◌}
use Rattle.text_nodes.proofs.+node_pair.Given as goal

abbrev pub decreases-node : goal.decreases-node
decreases-node l = 2 * (6144 - l.at) + 1

abbrev pub decreases-pair : goal.decreases-pair
decreases-pair l = 2 * (6144 - l.at)
