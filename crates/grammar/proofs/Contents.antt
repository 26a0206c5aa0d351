-- What was read of the sections is in order, so there is little of it; and once the laws hold it has the form.
use Rattle.std.proofs.Common.{◌≡◌, ℕ, ◌≤◌, List, length, Ok, sym}
use Rattle.form.specs.declared.expr.Expr.{Expr}
use Rattle.form.specs.Form.{Laid, Form, holding}
use Rattle.form.specs.Verdict.{Layout, counts, record_at, body_at, each, lawful}
use Rattle.form.proofs.Meaning.{form_read}
use Rattle.form.proofs.Read.{laid_read}
use Rattle.grammar.specs.Views.{Split}

module _ (l : Layout) (cut : Split l) (es : List Expr) (exprs : Ok es ≡ each (record_at (counts l)) 5 l.exprs.count 0 l.exprs.bytes)
    (rs : List ℕ) (rules : Ok rs ≡ each (body_at l.exprs.count) 2 l.rules.count 0 l.rules.bytes)
    (xs : List Expr) (same_exprs : xs ≡ es) (ys : List ℕ) (same_rules : ys ≡ rs) where
  laid : Laid (holding l.text.bytes es rs)
  laid = laid_read cut.from cut.are_bytes l cut.is es (sym exprs) rs (sym rules)

  pub few : (length xs ≤ 512) × (length ys ≤ 64)
  few = rw (same_exprs, same_rules) (laid.exprs_most, laid.rules_most)

  pub formed : Ok tt ≡ lawful xs ys → (text : List ℕ) → text ≡ l.text.bytes → ∥ Form (holding text es rs) ∥₁
  formed hold text t = rw t (∣ form_read (holding l.text.bytes es rs) laid tt (sym (rw (same_exprs, same_rules) at hold)) ∣₁)
