-- The filled table is the answer.
use Rattle.std.proofs.Common.{rules}
use Rattle.form.specs.Tables.{record_table}
use Rattle.analysis.proofs.settle.answer_all.Goals as goal

pub returns : goal.returns
unfolding record_table
returns g c = search rules
