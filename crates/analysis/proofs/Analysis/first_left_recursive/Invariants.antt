-- No rule below the one that is asked is left recursive, so that a look from it on gives the answer; the tables keep their sizes.
use Rattle.std.proofs.Common.{◌≡◌, ◌-◌, length, vec_len}
use Rattle.form.specs.Tables.{first_from, left_recursive}
use Rattle.form.specs.Verdict.{first_left_recursive}
use Rattle.analysis.proofs.Analysis.first_left_recursive.Given as goal

abbrev pub invariant-loop-rule : goal.invariant-loop-rule
invariant-loop-rule l =
    let exprs = l.self.rules.exprs.now in
    let bodies = l.self.rules.bodies.now in
    (first_from (left_recursive exprs bodies) l.rule (length bodies - l.rule) ≡ first_left_recursive exprs bodies)
    × (vec_len l.marks ≡ length bodies) × (vec_len l.table ≡ length exprs)
