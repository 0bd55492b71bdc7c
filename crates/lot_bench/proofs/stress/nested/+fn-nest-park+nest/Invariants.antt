use Rattle.std.proofs.Common.{◌+◌, ◌*◌}
use Rattle.lot_bench.proofs.stress.nested.+fn-nest-park+nest.Given as goal

abbrev pub decreases-park : goal.decreases-park
decreases-park g l = 2 * l.left + 2

abbrev pub decreases-nest : goal.decreases-nest
decreases-nest g l = 2 * l.depth + 1
