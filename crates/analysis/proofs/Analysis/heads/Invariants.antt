-- The rules before the one that is asked have been asked, and the tables keep their sizes.
use Rattle.std.proofs.Common.{◌≡◌, ℕ, ◌<◌, length, vec_len}
use Rattle.form.specs.Tables.{marked}
use Rattle.analysis.specs.Entries.{is_head}
use Rattle.analysis.proofs.Analysis.heads.Given as goal

abbrev pub invariant-loop-rule : goal.invariant-loop-rule
invariant-loop-rule l =
    let exprs = l.self.rules.exprs.now in
    let bodies = l.self.rules.bodies.now in
    (vec_len l.marks ≡ length bodies) × (vec_len l.table ≡ length exprs)
    × ((k : ℕ) → k < l.rule → marked l.head-items k ≡ is_head exprs bodies l.number k)
