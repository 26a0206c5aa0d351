-- judged: what is answered for a rule and a position: a reading, or a refusal.
-- number: the number of a refusal. numbers: an answer as numbers: 0 and the reading's, or the refusal's number and zeros.
use Rattle.std.specs.Prelude.{ℕ, Bool, true, false, cond, List, [], ◌∷◌, length, Ok, Err, Result, nat_lt}
use Rattle.reading.specs.declared.answer.Reading.{Reading}
use Rattle.reading.specs.declared.answer.Refusal.{Refusal}
use Rattle.reading.specs.declared.answer.Refusal.TheVariants.{NoSuchRule, NoSuchPosition, TooDeep}
use Rattle.reading.specs.Tree.{Tree}
use Rattle.reading.specs.Reading.{Answer, read, depth}
use Rattle.reading.specs.Reading.Answer.{too_deep, done}

abbrev pub number : Refusal → ℕ
number NoSuchRule = 11
number NoSuchPosition = 12
number TooDeep = 14

abbrev pub told : Answer → Result Reading Refusal
told too_deep = Err TooDeep
told (done d) = Ok d

-- by the rules' bodies g, on the input w
abbrev pub judged : List Tree → List ℕ → ℕ → ℕ → Result Reading Refusal
judged g w r p =
    cond (nat_lt r (length g))
    (cond (nat_lt (length w) p) (Err NoSuchPosition) (told (read g w depth r p)))
    (Err NoSuchRule)

-- 1 for a match, 0 for none
abbrev pub bit : Bool → ℕ
bit true = 1
bit false = 0

-- refusal, outcome, end, height, reach and nodes
abbrev pub numbers : Result Reading Refusal → List ℕ
numbers (Ok d) = 0 ∷ bit d.matched ∷ d.end ∷ d.height ∷ d.reach ∷ d.nodes ∷ []
numbers (Err f) = number f ∷ 0 ∷ 0 ∷ 0 ∷ 0 ∷ 0 ∷ []
