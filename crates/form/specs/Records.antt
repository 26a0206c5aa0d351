-- at: the expression of a record, by its number.
-- body: the record that is the body of a rule, by the rule's number.
-- parts: the records that an expression is made of.
-- Later: each of some parts stands behind record k, and is one of n records.
-- Ordered: the parts of every record stand behind it.
use Rattle.std.specs.Prelude.{ℕ, ◌<◌, List, [], ◌∷◌, length, slice_index_or}
use Rattle.form.specs.declared.expr.Expr.{Expr}
use Rattle.form.specs.declared.expr.Expr.TheVariants.{Empty, Text, Range, Rule, Sequence, Choice, Repeat, Ahead, Absent, Node, Link, Fold, Tag}

-- a number past the records names none, and stands for a range: it has no part, asks no rule and takes a byte
abbrev pub at : List Expr → ℕ → Expr
at es e = slice_index_or es e (Range 0 0)

-- a rule past the rules has a body past the records
abbrev pub body : List Expr → List ℕ → ℕ → ℕ
body es rs r = slice_index_or rs r (length es)

abbrev pub parts : Expr → List ℕ
parts Empty = []
parts (Text a b) = []
parts (Range a b) = []
parts (Rule r) = []
parts (Sequence a b) = a ∷ b ∷ []
parts (Choice a b) = a ∷ b ∷ []
parts (Repeat a) = a ∷ []
parts (Ahead a) = a ∷ []
parts (Absent a) = a ∷ []
parts (Node a) = a ∷ []
parts (Link a) = a ∷ []
parts (Fold a) = a ∷ []
parts (Tag a) = []

abbrev pub Later : ℕ → ℕ → List ℕ → Type 0
Later k n [] = Unit {0}
Later k n (a ∷ rest) = (k < a) × (a < n) × Later k n rest

abbrev pub Ordered : List Expr → Type 0
Ordered es = (k : ℕ) → k < length es → Later k (length es) (parts (at es k))
