-- What is proved of plain reading.
-- Placed: a reading stays inside the input. Budgeted: what its height says of the budgets.
-- Inner, Insides: the pairs strictly inside a reading. InGrid, PairsAtMost: how many pairs there are.
-- AnswersAllowed, ReadAllowed: what the relation of Semantics allows. ChoiceDecided, RepeatEnds: what users know of choice and repeat.
use Rattle.std.specs.Prelude.{◌≡◌, ℕ, suc, ◌<◌, ◌≤◌, Bool, true, false, List, length, All}
use Rattle.form.specs.declared.expr.Expr.TheVariants.{Repeat}
use Rattle.form.specs.Records.{at}
use Rattle.form.specs.Form.{Contents, Form}
use Rattle.reading.specs.declared.answer.Reading.{Reading}
use Rattle.reading.specs.Lists.{In, Front, Exactly}
use Rattle.reading.specs.Tree.{Tree, pick, trees, bodies}
use Rattle.reading.specs.Tree.Tree.{choice}
use Rattle.reading.specs.Reading.{Progress, Outcome, Answer, left, work, read, cap, depth}
use Rattle.reading.specs.Reading.Outcome.{deep, hit, miss}
use Rattle.reading.specs.Reading.Answer.{too_deep, done}
use Rattle.reading.specs.Reached.{Pair, reached, reached_from, inside, different}
use Rattle.reading.specs.Semantics.{Allowed}

-- d began at position p of an input of n bytes
pub record Placed (n p : ℕ) (d : Reading) : Type 0 where
  pub forward : p ≤ d.end
  pub ends : d.end ≤ n
  pub seen : d.end ≤ d.reach
  pub reaches : d.reach ≤ suc n
  pub counts : d.nodes ≤ cap

-- d was read where k rules may be open: a budget from its height on gives the same, and a smaller one is too deep;
-- the pairs that are reached are the same, or the first of them
pub record Budgeted (g : List Tree) (w : List ℕ) (k r p : ℕ) (d : Reading) : Type 0 where
  pub least : 1 ≤ d.height
  pub most : d.height ≤ k
  pub enough : (j : ℕ) → d.height ≤ j → read g w j r p ≡ done d
  pub short : (j : ℕ) → j < d.height → read g w j r p ≡ too_deep
  pub all_pairs : (j : ℕ) → d.height ≤ j → reached g w j r p ≡ reached g w k r p
  pub first_pairs : (j : ℕ) → j < d.height → Front (reached g w j r p) (reached g w k r p)

-- the pair x is read too, and less high than d
pub record Inner (g : List Tree) (w : List ℕ) (k : ℕ) (d : Reading) (x : Pair) : Type 0 where
  pub reading : Reading
  pub is : read g w k x.0 x.1 ≡ done reading
  pub lower : reading.height < d.height

-- so no pair lies strictly inside itself
pub record Insides (g : List Tree) (w : List ℕ) (k r p : ℕ) (d : Reading) : Type 0 where
  pub inner : (x : Pair) → In x (inside g w k r p) → Inner g w k d x
  pub apart : In (r, p) (inside g w k r p) → ⊥

-- a pair of one of m rules and a position of an input of n bytes
abbrev pub InGrid : ℕ → ℕ → Pair → Type 0
InGrid m n x = (x.0 < m) × (x.1 ≤ n)

-- however many readings of a grammar of m rules there are on an input of n bytes
abbrev pub PairsAtMost : ℕ → ℕ → ℕ → Type 0
PairsAtMost m n limit = (c : Contents) → Form c → length c.rules ≡ m → (w : List ℕ) → length w ≡ n → (xs : List Pair)
    → All (InGrid m n) xs → All (InGrid m n) (reached_from (bodies c) w xs) × (different (reached_from (bodies c) w xs) ≤ limit)

-- for a rule of a grammar at a position of an input the relation allows n answers
abbrev pub AnswersAllowed : ℕ → Type 0
AnswersAllowed n = (c : Contents) → Form c → (w : List ℕ) (r p : ℕ) → p ≤ length w → Exactly n (Allowed (bodies c) w depth r p)

-- and what `read` answers is allowed
abbrev pub ReadAllowed : Type 0
ReadAllowed = (c : Contents) → Form c → (w : List ℕ) (r p : ℕ) → p ≤ length w → Allowed (bodies c) w depth r p (read (bodies c) w depth r p)

-- the second part decides a choice whose first gave no match, and has no say where the first matched
abbrev pub ChoiceDecided : Bool → Type 0
ChoiceDecided true = (w : List ℕ) (ask : ℕ → ℕ → Answer) (a b : Tree) (p : ℕ) (s t : Progress)
    → work w ask a p s ≡ miss t → work w ask (choice a b) p s ≡ work w ask b p (left s.nodes t)
ChoiceDecided false = (w : List ℕ) (ask : ℕ → ℕ → Answer) (a b : Tree) (p : ℕ) (s : Progress) (q : ℕ) (t : Progress)
    → work w ask a p s ≡ hit q t → work w ask (choice a b) p s ≡ hit q t

abbrev pub NoMatch : Outcome → Type 0
NoMatch deep = ⊥
NoMatch (hit q t) = ⊥
NoMatch (miss t) = Unit {0}

-- where a repeat of a grammar ends, its part gives no match: it never gives back what it took
abbrev pub RepeatEnds : Type 0
RepeatEnds = (c : Contents) → Form c → (e a : ℕ) → at c.exprs e ≡ Repeat a → (w : List ℕ) (k p : ℕ) (s : Progress) (q : ℕ) (t : Progress)
    → p ≤ length w → work w (read (bodies c) w k) (pick (trees c) e) p s ≡ hit q t
    → (u : Progress) → NoMatch (work w (read (bodies c) w k) (pick (trees c) a) q u)
