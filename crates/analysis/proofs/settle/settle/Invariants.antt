-- The marks are those after so many rounds.
use Rattle.std.proofs.Common.{◌≡◌}
use Rattle.form.specs.Tables.{turns, round}
use Rattle.analysis.proofs.settle.settle.Given as goal

abbrev pub invariant-loop-round : goal.invariant-loop-round
invariant-loop-round g l =
    l.marks ≡ turns (round (g.Q.Question.test l.question) l.rules.exprs.now l.rules.bodies.now) l._round l.initial.marks
