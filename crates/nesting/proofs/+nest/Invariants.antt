-- Each call has fewer records from its number on.
use Rattle.std.proofs.Common.{◌-◌, length}
use Rattle.nesting.proofs.+nest.Given as goal

abbrev pub decreases-nest : goal.decreases-nest
decreases-nest l = length l.exprs.now - l.number
