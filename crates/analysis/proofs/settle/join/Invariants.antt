-- The rules before the one that is looked at have been joined, and the others are as they were.
use Rattle.std.proofs.Common.{◌≡◌, ℕ, ◌<◌, ◌≤◌}
use Rattle.form.specs.Tables.{marked}
use Rattle.analysis.specs.Entries.{joins}
use Rattle.analysis.proofs.settle.join.Given as goal

abbrev pub invariant-loop-rule : goal.invariant-loop-rule
invariant-loop-rule l =
    ((k : ℕ) → k < l.rule → marked l.marks k ≡ joins l.rules.exprs.now l.rules.bodies.now l.table k l.initial.marks)
    × ((k : ℕ) → l.rule ≤ k → marked l.marks k ≡ marked l.initial.marks k)
