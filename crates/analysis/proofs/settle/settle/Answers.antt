-- After the last round the answers are the settled ones.
use Rattle.std.proofs.Common.{rules}
use Rattle.form.specs.Tables.{settled}
use Rattle.analysis.proofs.settle.settle.Goals as goal

pub returns : goal.returns
unfolding settled
returns g c = search rules
