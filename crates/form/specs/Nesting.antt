-- Nested: how deep an expression is nested, one more than its deepest part, and 1 where it has none.
use Rattle.std.specs.Prelude.{◌≡◌, ℕ, ◌+◌, ◌<◌, max, List, [], ◌∷◌}
use Rattle.form.specs.declared.expr.Expr.{Expr}
use Rattle.form.specs.Records.{at, parts}

-- record e is nested d deep
pub data Nested (es : List Expr) : ℕ → ℕ → Type 0 where
  leaf : {e : ℕ} → parts (at es e) ≡ [] → Nested es e 1
  one : {e a d : ℕ} → parts (at es e) ≡ a ∷ [] → Nested es a d → Nested es e (d + 1)
  two : {e a b c d : ℕ} → parts (at es e) ≡ a ∷ b ∷ [] → Nested es a c → Nested es b d → Nested es e (max c d + 1)

-- record k is nested more than 32 deep
pub record TooDeep (es : List Expr) (k : ℕ) : Type 0 where
  pub depth : ℕ
  pub nested : Nested es k depth
  pub deep : 32 < depth
