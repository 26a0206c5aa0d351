-- The answers for the records from e on are in the table, and no mark stands before them.
use Rattle.std.proofs.Common.{◌≡◌, ◌-◌, length}
use Rattle.form.specs.Records.{at}
use Rattle.form.specs.Tables.{filled, blank}
use Rattle.analysis.proofs.settle.answer_all.Given as goal

abbrev pub invariant-loop-e : goal.invariant-loop-e
invariant-loop-e g l =
    l.table ≡ filled (λ e t. g.Q.Question.test l.question l.marks t (at l.exprs e)) l.e (length l.exprs - l.e) (blank (length l.exprs))
