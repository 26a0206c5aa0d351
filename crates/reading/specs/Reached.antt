-- Pair: a rule and a position.
-- visited: the pairs that plain reading of an expression reaches, in order, also where it ends too deep.
-- reached: those of a rule at a position, itself first. inside: those strictly inside it.
-- reached_from: those of several rules at positions. different: how many different pairs a list has.
use Rattle.std.specs.Prelude.{ℕ, zero, suc, ◌-◌, Bool, true, false, cond, ◌&&◌, ◌||◌, List, [], ◌∷◌, ◌++◌, length, ◌==◌, nat_lt}
use Rattle.reading.specs.Tree.{Tree, body}
use Rattle.reading.specs.Tree.Tree.{empty, text, range, rule, sequence, choice, repeat, ahead, absent, node, link, fold, tag}
use Rattle.reading.specs.Reading.{Progress, Outcome, Answer, Work, left, made, work, start, read, depth}
use Rattle.reading.specs.Reading.Outcome.{deep, hit, miss}

abbrev pub Pair : Type 0
Pair = ℕ × ℕ

-- the pairs that a work reaches from a position and the progress so far
abbrev pub Visits : Type 0
Visits = ℕ → Progress → List Pair

-- those that are reached behind a match, or behind no match
abbrev pub visited_after : Visits → (Progress → List Pair) → Outcome → List Pair
visited_after matched missed deep = []
visited_after matched missed (hit q s) = matched q s
visited_after matched missed (miss s) = missed s

abbrev pub visited_back_at : ℕ → ℕ → Visits → Progress → List Pair
visited_back_at p n next s = next p (left n s)

abbrev pub visited_onward : Bool → Visits → Visits
visited_onward true next q s = next q s
visited_onward false next q s = []

abbrev pub visited_in_turns : ℕ → Work → Visits → Visits
visited_in_turns zero part pairs p s = []
visited_in_turns (suc m) part pairs p s =
    pairs p s ++ visited_after (λ q. visited_onward (nat_lt p q) (visited_in_turns m part pairs) q) (λ t. []) (part p s)

-- where `below r p` are the pairs that rule r reaches at position p
abbrev pub visited : List ℕ → (ℕ → ℕ → Answer) → (ℕ → ℕ → List Pair) → Tree → Visits
visited w ask below empty p s = []
visited w ask below (text cs) p s = []
visited w ask below (range low high) p s = []
visited w ask below (rule r) p s = below r p
visited w ask below (sequence a b) p s =
    visited w ask below a p s ++ visited_after (visited w ask below b) (λ t. []) (work w ask a p s)
visited w ask below (choice a b) p s =
    visited w ask below a p s ++ visited_after (λ q t. []) (visited_back_at p s.nodes (visited w ask below b)) (work w ask a p s)
visited w ask below (repeat a) p s = visited_in_turns (suc (length w - p)) (work w ask a) (visited w ask below a) p s
visited w ask below (ahead a) p s = visited w ask below a p s
visited w ask below (absent a) p s = visited w ask below a p s
visited w ask below (node a) p s = visited w ask below a p (made s)
visited w ask below (link a) p s = visited w ask below a p s
visited w ask below (fold a) p s = visited w ask below a p (made s)
visited w ask below (tag n) p s = []

-- a rule that is asked too deep is not worked, and reaches nothing
abbrev pub reached : List Tree → List ℕ → ℕ → ℕ → ℕ → List Pair
reached g w zero r p = []
reached g w (suc k) r p = (r, p) ∷ visited w (read g w k) (reached g w k) (body g r) p (start p)

abbrev pub inside : List Tree → List ℕ → ℕ → ℕ → ℕ → List Pair
inside g w zero r p = []
inside g w (suc k) r p = visited w (read g w k) (reached g w k) (body g r) p (start p)

-- those of several rules at positions, one after the other
abbrev pub reached_from : List Tree → List ℕ → List Pair → List Pair
reached_from g w [] = []
reached_from g w (x ∷ xs) = reached g w depth x.0 x.1 ++ reached_from g w xs

-- Counting.

abbrev pub same : Pair → Pair → Bool
same x y = x.0 == y.0 && x.1 == y.1

abbrev pub among : Pair → List Pair → Bool
among x [] = false
among x (y ∷ ys) = same x y || among x ys

abbrev pub add : Pair → List Pair → List Pair
add x xs = cond (among x xs) xs (x ∷ xs)

-- each pair once
abbrev pub once : List Pair → List Pair
once [] = []
once (x ∷ xs) = add x (once xs)

abbrev pub different : List Pair → ℕ
different xs = length (once xs)
