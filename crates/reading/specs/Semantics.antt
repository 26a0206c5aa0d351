-- Parsing expressions as a relation, with a rule or two for each kind and no budget: what `read` is held against.
-- Came: what an expression comes to: a match or no match.
-- Comes: expression e, at position p, comes to x. Reads: rule r, at position p, reads as d.
-- Allowed: what the relation allows to be answered where k rules may be open one inside another.
use Rattle.std.specs.Prelude.{◌≡◌, ℕ, suc, ◌+◌, ◌≤◌, min, max, true, false, List, [], ◌∷◌, Some, ◌≢◌}
use Rattle.reading.specs.declared.answer.Reading.{Reading}
use Rattle.reading.specs.Tree.{Tree, body}
use Rattle.reading.specs.Reading.{Answer, byte_at, cap}
use Rattle.reading.specs.Reading.Answer.{too_deep, done}

-- a match: its end, the greatest height among the rules asked, one past the highest position looked at (0 for none), the nodes;
-- no match: the same height and position
pub data Came : Type 0 where
  matched : (end height looked nodes : ℕ) → Came
  failed : (height looked : ℕ) → Came

-- what comes of a whole, where a part before had this height, looked so far and made so many nodes
abbrev pub behind : ℕ → ℕ → ℕ → Came → Came
behind h l n (matched q h' l' n') = matched q (max h h') (max l l') (n + n')
behind h l n (failed h' l') = failed (max h h') (max l l')

-- what comes of asking a rule at p whose body comes to x
abbrev pub closed : ℕ → Came → Came
closed p (matched q h l n) = matched q (suc h) (max p l) (min cap n)
closed p (failed h l) = failed (suc h) (max p l)

-- by the rules' bodies g, on the input w
pub data Comes (g : List Tree) (w : List ℕ) : Tree → ℕ → Came → Type 0 where
  empty : {p : ℕ} → Comes g w Tree.empty p (matched p 0 0 0)
  tag : {t p : ℕ} → Comes g w (Tree.tag t) p (matched p 0 0 0)
  -- a text, byte by byte
  text_end : {p : ℕ} → Comes g w (Tree.text []) p (matched p 0 0 0)
  text_same : {c p : ℕ} {cs : List ℕ} {x : Came} → byte_at w p ≡ Some c → Comes g w (Tree.text cs) (suc p) x
      → Comes g w (Tree.text (c ∷ cs)) p (behind 0 (suc p) 0 x)
  text_other : {c p : ℕ} {cs : List ℕ} → (byte_at w p ≢ Some c) → Comes g w (Tree.text (c ∷ cs)) p (failed 0 (suc p))
  range_in : {low high p c : ℕ} → byte_at w p ≡ Some c → low ≤ c → c ≤ high → Comes g w (Tree.range low high) p (matched (suc p) 0 (suc p) 0)
  range_out : {low high p : ℕ} → ((c : ℕ) → byte_at w p ≡ Some c → low ≤ c → c ≤ high → ⊥)
      → Comes g w (Tree.range low high) p (failed 0 (suc p))
  rule : {r p : ℕ} {x : Came} → Comes g w (body g r) p x → Comes g w (Tree.rule r) p (closed p x)
  sequence_fails : {a b : Tree} {p h l : ℕ} → Comes g w a p (failed h l) → Comes g w (Tree.sequence a b) p (failed h l)
  sequence : {a b : Tree} {p q h l n : ℕ} {x : Came} → Comes g w a p (matched q h l n) → Comes g w b q x
      → Comes g w (Tree.sequence a b) p (behind h l n x)
  choice_first : {a b : Tree} {p q h l n : ℕ} → Comes g w a p (matched q h l n) → Comes g w (Tree.choice a b) p (matched q h l n)
  choice_second : {a b : Tree} {p h l : ℕ} {x : Came} → Comes g w a p (failed h l) → Comes g w b p x
      → Comes g w (Tree.choice a b) p (behind h l 0 x)
  repeat_ends : {a : Tree} {p h l : ℕ} → Comes g w a p (failed h l) → Comes g w (Tree.repeat a) p (matched p h l 0)
  repeat : {a : Tree} {p q h l n : ℕ} {x : Came} → Comes g w a p (matched q h l n) → Comes g w (Tree.repeat a) q x
      → Comes g w (Tree.repeat a) p (behind h l n x)
  ahead : {a : Tree} {p q h l n : ℕ} → Comes g w a p (matched q h l n) → Comes g w (Tree.ahead a) p (matched p h l 0)
  ahead_fails : {a : Tree} {p h l : ℕ} → Comes g w a p (failed h l) → Comes g w (Tree.ahead a) p (failed h l)
  absent : {a : Tree} {p h l : ℕ} → Comes g w a p (failed h l) → Comes g w (Tree.absent a) p (matched p h l 0)
  absent_fails : {a : Tree} {p q h l n : ℕ} → Comes g w a p (matched q h l n) → Comes g w (Tree.absent a) p (failed h l)
  node : {a : Tree} {p : ℕ} {x : Came} → Comes g w a p x → Comes g w (Tree.node a) p (behind 0 0 1 x)
  link : {a : Tree} {p : ℕ} {x : Came} → Comes g w a p x → Comes g w (Tree.link a) p x
  fold : {a : Tree} {p : ℕ} {x : Came} → Comes g w a p x → Comes g w (Tree.fold a) p (behind 0 0 1 x)

-- what comes of a rule at p, as a reading
abbrev pub reading_of : ℕ → Came → Reading
reading_of p (matched q h l n) = record { matched = true; end = q; height = h; reach = l; nodes = n }
reading_of p (failed h l) = record { matched = false; end = p; height = h; reach = l; nodes = 0 }

pub record Reads (g : List Tree) (w : List ℕ) (r p : ℕ) (d : Reading) : Type 0 where
  pub came : Came
  pub comes : Comes g w (Tree.rule r) p came
  pub is : d ≡ reading_of p came

-- a reading no higher than k; or too deep, where there is none
abbrev pub Allowed : List Tree → List ℕ → ℕ → ℕ → ℕ → Answer → Type 0
Allowed g w k r p (done d) = Reads g w r p d × (d.height ≤ k)
Allowed g w k r p too_deep = (d : Reading) → Reads g w r p d → d.height ≤ k → ⊥
