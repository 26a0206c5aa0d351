-- The tables tell what they are said to tell.
use Rattle.std.proofs.Common.{◌≡◌, ℕ, Bool, List, Decides, sym, subst}
use Rattle.form.specs.declared.expr.Expr.{Expr}
use Rattle.form.specs.Nullable.{Nullable}
use Rattle.form.specs.Heads.{Head}
use Rattle.form.specs.Tables.{marked, nullables}
use Rattle.form.proofs.Nullable.{nullable_decided}
use Rattle.form.proofs.Heads.{head_decided}
use Rattle.analysis.specs.Tells.{MarksNullable, HeadMarks, MarksHeads}

pub marks_nullable : (es : List Expr) (rs : List ℕ) (v : List Bool) → v ≡ nullables es rs → MarksNullable es rs v
marks_nullable es rs v q ord e = subst (λ t. Decides (marked t e) (Nullable es rs e)) (sym q) (nullable_decided es rs ord e)

pub marks_heads : (es : List Expr) (rs : List ℕ) (e : ℕ) (v : List Bool) → HeadMarks es rs e v → MarksHeads es rs e v
marks_heads es rs e v h ord q l = subst (λ b. Decides b (Head es rs q e)) (sym (h.1 q l)) (head_decided es rs ord q l e)
