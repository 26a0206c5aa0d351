-- Nullable: an expression that may take nothing, where a finite use of these rules shows it.
use Rattle.std.specs.Prelude.{◌≡◌, ℕ, List}
use Rattle.form.specs.declared.expr.Expr.{Expr}
use Rattle.form.specs.declared.expr.Expr.TheVariants.{Empty, Rule, Sequence, Choice, Repeat, Ahead, Absent, Node, Link, Fold, Tag}
use Rattle.form.specs.Records.{at, body}

-- record e, in the records es with the rules rs
pub data Nullable (es : List Expr) (rs : List ℕ) : ℕ → Type 0 where
  empty : {e : ℕ} → at es e ≡ Empty → Nullable es rs e
  repeat : {e a : ℕ} → at es e ≡ Repeat a → Nullable es rs e
  ahead : {e a : ℕ} → at es e ≡ Ahead a → Nullable es rs e
  absent : {e a : ℕ} → at es e ≡ Absent a → Nullable es rs e
  tag : {e a : ℕ} → at es e ≡ Tag a → Nullable es rs e
  rule : {e r : ℕ} → at es e ≡ Rule r → Nullable es rs (body es rs r) → Nullable es rs e
  node : {e a : ℕ} → at es e ≡ Node a → Nullable es rs a → Nullable es rs e
  link : {e a : ℕ} → at es e ≡ Link a → Nullable es rs a → Nullable es rs e
  fold : {e a : ℕ} → at es e ≡ Fold a → Nullable es rs a → Nullable es rs e
  both : {e a b : ℕ} → at es e ≡ Sequence a b → Nullable es rs a → Nullable es rs b → Nullable es rs e
  first : {e a b : ℕ} → at es e ≡ Choice a b → Nullable es rs a → Nullable es rs e
  second : {e a b : ℕ} → at es e ≡ Choice a b → Nullable es rs b → Nullable es rs e

-- record k is a repeat of what may take nothing
pub record NullablePart (es : List Expr) (rs : List ℕ) (k : ℕ) : Type 0 where
  pub part : ℕ
  pub repeats : at es k ≡ Repeat part
  pub nullable : Nullable es rs part
