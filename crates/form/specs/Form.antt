-- Contents: what a grammar file says: its text, its records and the bodies of its rules.
-- Fields: the fields of a record that are no parts are in range.
-- Laid: contents are in order section by section. Form: they have the form of a grammar.
use Rattle.std.specs.Prelude.{ℕ, ◌+◌, ◌<◌, ◌≤◌, List, length, slice_index}
use Rattle.form.specs.declared.expr.Expr.{Expr}
use Rattle.form.specs.declared.expr.Expr.TheVariants.{Empty, Text, Range, Rule, Sequence, Choice, Repeat, Ahead, Absent, Node, Link, Fold, Tag}
use Rattle.form.specs.Records.{at, Ordered}
use Rattle.form.specs.Nullable.{NullablePart}
use Rattle.form.specs.Heads.{LeftRecursive}
use Rattle.form.specs.Nesting.{TooDeep}

pub record Contents : Type 0 where
  pub text : List ℕ
  pub exprs : List Expr
  pub rules : List ℕ

abbrev pub holding : List ℕ → List Expr → List ℕ → Contents
holding t es rs = record { text = t; exprs = es; rules = rs }

-- with s bytes of text and m rules
abbrev pub Fields : ℕ → ℕ → Expr → Type 0
Fields s m Empty = Unit {0}
Fields s m (Text start len) = (1 ≤ len) × (len ≤ 255) × (start + len ≤ s)
Fields s m (Range low high) = (low ≤ high) × (high ≤ 255)
Fields s m (Rule r) = r < m
Fields s m (Sequence a b) = Unit {0}
Fields s m (Choice a b) = Unit {0}
Fields s m (Repeat a) = Unit {0}
Fields s m (Ahead a) = Unit {0}
Fields s m (Absent a) = Unit {0}
Fields s m (Node a) = Unit {0}
Fields s m (Link a) = Unit {0}
Fields s m (Fold a) = Unit {0}
Fields s m (Tag a) = (1 ≤ a) × (a ≤ 65535)

-- the counts are in their limits, and records and rules stand as they should
pub record Laid (c : Contents) : Type 0 where
  pub text_most : length c.text ≤ 1024
  pub exprs_least : 1 ≤ length c.exprs
  pub exprs_most : length c.exprs ≤ 512
  pub rules_least : 1 ≤ length c.rules
  pub rules_most : length c.rules ≤ 64
  pub fields : (k : ℕ) → k < length c.exprs → Fields (length c.text) (length c.rules) (at c.exprs k)
  pub ordered : Ordered c.exprs
  pub bodies : (r : ℕ) → r < length c.rules → slice_index c.rules r < length c.exprs

-- and no record is nested too deep, no repeat has a part that may take nothing, and no rule is left recursive
pub record Form (c : Contents) : Type 0 where
  pub laid : Laid c
  pub shallow : (k : ℕ) → k < length c.exprs → TooDeep c.exprs k → ⊥
  pub repeats_take : (k : ℕ) → k < length c.exprs → NullablePart c.exprs c.rules k → ⊥
  pub no_left_recursion : (r : ℕ) → r < length c.rules → LeftRecursive c.exprs c.rules r → ⊥
