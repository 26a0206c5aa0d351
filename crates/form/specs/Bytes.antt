-- encode: the bytes of a grammar file with given contents.
use Rattle.std.specs.Prelude.{ℕ, ◌/◌, ◌%◌, ◌<◌, List, [], ◌∷◌, ◌++◌, length, All}
use Rattle.form.specs.declared.expr.Expr.{Expr}
use Rattle.form.specs.declared.expr.Expr.TheVariants.{Empty, Text, Range, Rule, Sequence, Choice, Repeat, Ahead, Absent, Node, Link, Fold, Tag}
use Rattle.form.specs.Form.{Contents}

-- a number of 16 bits, high byte first, in front of what follows
abbrev pub wide : ℕ → List ℕ → List ℕ
wide n bs = n / 256 ∷ n % 256 ∷ bs

-- a record: its kind, then its two fields
abbrev pub fields : ℕ → ℕ → ℕ → List ℕ → List ℕ
fields kind a b bs = kind ∷ wide a (wide b bs)

abbrev pub expression : Expr → List ℕ → List ℕ
expression Empty = fields 0 0 0
expression (Text start len) = fields 1 start len
expression (Range low high) = fields 2 low high
expression (Rule r) = fields 3 r 0
expression (Sequence a b) = fields 4 a b
expression (Choice a b) = fields 5 a b
expression (Repeat a) = fields 6 a 0
expression (Ahead a) = fields 7 a 0
expression (Absent a) = fields 8 a 0
expression (Node a) = fields 9 a 0
expression (Link a) = fields 10 a 0
expression (Fold a) = fields 11 a 0
expression (Tag a) = fields 12 a 0

abbrev pub written : {A : Type 0} → (A → List ℕ → List ℕ) → List A → List ℕ
written put [] = []
written put (x ∷ xs) = put x (written put xs)

-- three sections, each behind its count
abbrev pub encode : Contents → List ℕ
encode c =
    wide (length c.text) (c.text ++
    wide (length c.exprs) (written expression c.exprs ++
    wide (length c.rules) (written wide c.rules)))

abbrev pub AllBytes : List ℕ → Type 0
AllBytes bs = All (λ b. b < 256) bs
