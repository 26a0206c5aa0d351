-- The table tells how deep each record is nested.
use Rattle.std.proofs.Common.{◌≡◌, ℕ, List, get_or, sym, subst}
use Rattle.form.specs.declared.expr.Expr.{Expr}
use Rattle.form.specs.Nesting.{Nested}
use Rattle.form.specs.Tables.{nestings}
use Rattle.form.proofs.Nesting.{nested_at}
use Rattle.nesting.specs.Nesting.{TellsNesting}

pub tells_nesting : (es : List Expr) (v : List ℕ) → v ≡ nestings es → TellsNesting es v
tells_nesting es v q ord e l = subst (λ t. Nested es e (get_or t e 0)) (sym q) (nested_at es ord e l)
