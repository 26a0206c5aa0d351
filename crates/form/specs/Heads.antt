-- Head: a rule that an expression can ask before a byte is taken.
-- Reaches: a rule comes to another through heads of bodies, in one step or more.
-- LeftRecursive: a rule that so reaches itself.
use Rattle.std.specs.Prelude.{◌≡◌, ℕ, List}
use Rattle.form.specs.declared.expr.Expr.{Expr}
use Rattle.form.specs.declared.expr.Expr.TheVariants.{Rule, Sequence, Choice, Repeat, Ahead, Absent, Node, Link, Fold}
use Rattle.form.specs.Records.{at, body}
use Rattle.form.specs.Nullable.{Nullable}

-- rule r is a head of record e
pub data Head (es : List Expr) (rs : List ℕ) (r : ℕ) : ℕ → Type 0 where
  rule : {e : ℕ} → at es e ≡ Rule r → Head es rs r e
  first : {e a b : ℕ} → at es e ≡ Sequence a b → Head es rs r a → Head es rs r e
  second : {e a b : ℕ} → at es e ≡ Sequence a b → Nullable es rs a → Head es rs r b → Head es rs r e
  either : {e a b : ℕ} → at es e ≡ Choice a b → Head es rs r a → Head es rs r e
  other : {e a b : ℕ} → at es e ≡ Choice a b → Head es rs r b → Head es rs r e
  repeat : {e a : ℕ} → at es e ≡ Repeat a → Head es rs r a → Head es rs r e
  ahead : {e a : ℕ} → at es e ≡ Ahead a → Head es rs r a → Head es rs r e
  absent : {e a : ℕ} → at es e ≡ Absent a → Head es rs r a → Head es rs r e
  node : {e a : ℕ} → at es e ≡ Node a → Head es rs r a → Head es rs r e
  link : {e a : ℕ} → at es e ≡ Link a → Head es rs r a → Head es rs r e
  fold : {e a : ℕ} → at es e ≡ Fold a → Head es rs r a → Head es rs r e

-- rule q reaches rule r
pub data Reaches (es : List Expr) (rs : List ℕ) (r : ℕ) : ℕ → Type 0 where
  once : {q : ℕ} → Head es rs r (body es rs q) → Reaches es rs r q
  through : {q s : ℕ} → Head es rs s (body es rs q) → Reaches es rs r s → Reaches es rs r q

abbrev pub LeftRecursive : List Expr → List ℕ → ℕ → Type 0
LeftRecursive es rs r = Reaches es rs r r
