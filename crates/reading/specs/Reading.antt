-- byte_at: what is found at a position: the byte that stands there, or the end of the input.
-- Progress: what the rule being worked has come to so far: the greatest height among the rules that it asked, its reach,
--   and the nodes made on the path that it is on.
-- Outcome: what an expression hands up: too deep, a match with its end, or no match.
-- work: plain reading of an expression. read: plain reading of a rule at a position. Answer: what that answers.
use Rattle.std.specs.Prelude.{ℕ, zero, suc, ◌+◌, ◌-◌, min, max, Bool, true, false, ◌&&◌, List, [], ◌∷◌, length, Some, None, Option, nat_eq, nat_le, nat_lt}
use Rattle.std.specs.List.{slice_get}
use Rattle.reading.specs.declared.answer.Reading.{Reading}
use Rattle.reading.specs.Tree.{Tree, body}
use Rattle.reading.specs.Tree.Tree.{empty, text, range, rule, sequence, choice, repeat, ahead, absent, node, link, fold, tag}

abbrev pub byte_at : List ℕ → ℕ → Option ℕ
byte_at w p = slice_get w p

pub record Progress : Type 0 where
  pub height : ℕ
  pub reach : ℕ
  pub nodes : ℕ

pub data Outcome : Type 0 where
  deep : Outcome
  hit : ℕ → Progress → Outcome
  miss : Progress → Outcome

pub data Answer : Type 0 where
  too_deep : Answer
  done : Reading → Answer

-- the most nodes that are counted
abbrev pub cap : ℕ
cap = 65535

-- Progress.

abbrev pub start : ℕ → Progress
start p = record { height = 0; reach = p; nodes = 0 }

-- position p was looked at
abbrev pub looked : ℕ → Progress → Progress
looked p s = record { height = s.height; reach = max s.reach (suc p); nodes = s.nodes }

-- a node was made
abbrev pub made : Progress → Progress
made s = record { height = s.height; reach = s.reach; nodes = min cap (suc s.nodes) }

-- the path was left, and with it the nodes made on it: n stood there before
abbrev pub left : ℕ → Progress → Progress
left n s = record { height = s.height; reach = s.reach; nodes = n }

-- Expressions: a position and the progress so far are worked to an outcome.

abbrev pub Work : Type 0
Work = ℕ → Progress → Outcome

abbrev pub fits : (ℕ → Bool) → Option ℕ → Bool
fits test None = false
fits test (Some byte) = test byte

-- the position is looked at; where what is found fits, the work goes on behind it
abbrev pub look : Bool → Work → Work
look true next p s = next (suc p) (looked p s)
look false next p s = miss (looked p s)

-- byte by byte, up to the first that differs
abbrev pub spell : List ℕ → List ℕ → Work
spell w [] p s = hit p s
spell w (c ∷ cs) p s = look (fits (λ x. nat_eq x c) (byte_at w p)) (spell w cs) p s

abbrev pub between : List ℕ → ℕ → ℕ → Work
between w low high p s = look (fits (λ x. nat_le low x && nat_le x high) (byte_at w p)) hit p s

-- what follows a match, and what follows no match; too deep stays too deep
abbrev pub after : Work → (Progress → Outcome) → Outcome → Outcome
after matched missed deep = deep
after matched missed (hit q s) = matched q s
after matched missed (miss s) = missed s

-- back to position p, where the path had n nodes
abbrev pub back_to : ℕ → ℕ → Work → Progress → Outcome
back_to p n next s = next p (left n s)

-- on where something was taken
abbrev pub onward : Bool → Work → Work
onward true next q s = next q s
onward false next q s = hit q s

-- a repeat's part as often as it matches, in at most so many turns
abbrev pub turns : ℕ → Work → Work
turns zero part p s = hit p s
turns (suc m) part p s = after (λ q. onward (nat_lt p q) (turns m part) q) (back_to p s.nodes hit) (part p s)

-- a rule's answer is taken into the progress of the rule that asked
abbrev pub taken : Progress → Reading → Bool → Outcome
taken s d true =
    hit d.end (record { height = max s.height d.height; reach = max s.reach d.reach; nodes = min cap (s.nodes + d.nodes) })
taken s d false = miss (record { height = max s.height d.height; reach = max s.reach d.reach; nodes = s.nodes })

abbrev pub take : Progress → Answer → Outcome
take s too_deep = deep
take s (done d) = taken s d d.matched

-- on the input w, where `ask r p` is what rule r answers at position p;
-- a repeat has turns enough: each but the last takes a byte
abbrev pub work : List ℕ → (ℕ → ℕ → Answer) → Tree → Work
work w ask empty p s = hit p s
work w ask (text cs) p s = spell w cs p s
work w ask (range low high) p s = between w low high p s
work w ask (rule r) p s = take s (ask r p)
work w ask (sequence a b) p s = after (work w ask b) miss (work w ask a p s)
work w ask (choice a b) p s = after hit (back_to p s.nodes (work w ask b)) (work w ask a p s)
work w ask (repeat a) p s = turns (suc (length w - p)) (work w ask a) p s
work w ask (ahead a) p s = after (λ q. back_to p s.nodes hit) miss (work w ask a p s)
work w ask (absent a) p s = after (λ q. miss) (back_to p s.nodes hit) (work w ask a p s)
work w ask (node a) p s = work w ask a p (made s)
work w ask (link a) p s = work w ask a p s
work w ask (fold a) p s = work w ask a p (made s)
work w ask (tag n) p s = hit p s

-- Rules.

abbrev pub close : ℕ → Outcome → Answer
close p deep = too_deep
close p (hit q s) = done (record { matched = true; end = q; height = suc s.height; reach = s.reach; nodes = s.nodes })
close p (miss s) = done (record { matched = false; end = p; height = suc s.height; reach = s.reach; nodes = 0 })

-- rule r at position p, where k rules may be open one inside another, this one among them; g has the rules' bodies
abbrev pub read : List Tree → List ℕ → ℕ → ℕ → ℕ → Answer
read g w zero r p = too_deep
read g w (suc k) r p = close p (work w (read g w k) (body g r) p (start p))

-- the most rules that may be open one inside another: the first is at depth 1, and one at depth 65 is too deep
abbrev pub depth : ℕ
depth = 64
