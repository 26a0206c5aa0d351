-- Tree: an expression with its parts in place, and the text that it is to match.
-- trees: the trees of a grammar's records. bodies: the trees of its rules' bodies. body: the tree of one rule's body.
use Rattle.std.specs.Prelude.{◌≡◌, ℕ, ◌<◌, ◌⊎◌, List, map, length, take, drop, slice_index_or}
use Rattle.form.specs.declared.expr.Expr.{Expr}
use Rattle.form.specs.declared.expr.Expr.TheVariants.{Empty, Text, Range, Rule, Sequence, Choice, Repeat, Ahead, Absent, Node, Link, Fold, Tag}
use Rattle.form.specs.Form.{Contents}
use Rattle.form.specs.Tables.{record_table}

pub data Tree : Type 0 where
  empty : Tree
  text : List ℕ → Tree
  range : ℕ → ℕ → Tree
  rule : ℕ → Tree
  sequence : Tree → Tree → Tree
  choice : Tree → Tree → Tree
  repeat : Tree → Tree
  ahead : Tree → Tree
  absent : Tree → Tree
  node : Tree → Tree
  link : Tree → Tree
  fold : Tree → Tree
  tag : ℕ → Tree

-- a tree by its number; past the trees stands a range, as past the records
abbrev pub pick : List Tree → ℕ → Tree
pick ts n = slice_index_or ts n (range 0 0)

-- the tree of a record, from the trees of its parts
abbrev pub plant : List ℕ → List Tree → Expr → Tree
plant txt ts Empty = empty
plant txt ts (Text start len) = text (take len (drop start txt))
plant txt ts (Range low high) = range low high
plant txt ts (Rule r) = rule r
plant txt ts (Sequence a b) = sequence (pick ts a) (pick ts b)
plant txt ts (Choice a b) = choice (pick ts a) (pick ts b)
plant txt ts (Repeat a) = repeat (pick ts a)
plant txt ts (Ahead a) = ahead (pick ts a)
plant txt ts (Absent a) = absent (pick ts a)
plant txt ts (Node a) = node (pick ts a)
plant txt ts (Link a) = link (pick ts a)
plant txt ts (Fold a) = fold (pick ts a)
plant txt ts (Tag a) = tag a

abbrev pub trees : Contents → List Tree
trees c = record_table (range 0 0) (plant c.text) c.exprs

abbrev pub bodies : Contents → List Tree
bodies c = map (pick (trees c)) c.rules

abbrev pub body : List Tree → ℕ → Tree
body g r = pick g r

-- rule r is asked by an expression
abbrev pub Asks : ℕ → Tree → Type 0
Asks r empty = ⊥
Asks r (text cs) = ⊥
Asks r (range low high) = ⊥
Asks r (rule q) = r ≡ q
Asks r (sequence a b) = Asks r a ⊎ Asks r b
Asks r (choice a b) = Asks r a ⊎ Asks r b
Asks r (repeat a) = Asks r a
Asks r (ahead a) = Asks r a
Asks r (absent a) = Asks r a
Asks r (node a) = Asks r a
Asks r (link a) = Asks r a
Asks r (fold a) = Asks r a
Asks r (tag n) = ⊥

-- the rules that the bodies ask are among themselves
abbrev pub Closed : List Tree → Type 0
Closed g = (r q : ℕ) → Asks q (body g r) → q < length g
