-- The same facts as tables that can be computed. Each table is worked out from its last entry to its first.
-- filled: a table whose entry is worked out from the entries behind it. turns: a function used again and again.
-- nullables: the records that may take nothing. headed: those that have one of some rules as a head.
-- left_recursive: a rule that reaches itself. nestings: how deep each record is nested.
-- first_from: the lowest number at which a test holds.
use Rattle.std.specs.Prelude.{ℕ, zero, suc, ◌+◌, max, Bool, true, false, cond, ◌&&◌, ◌||◌, List, [], ◌∷◌, length, replicate, Some, None, Option, slice_index, slice_index_or, slice_set}
use Rattle.form.specs.declared.expr.Expr.{Expr}
use Rattle.form.specs.declared.expr.Expr.TheVariants.{Empty, Text, Range, Rule, Sequence, Choice, Repeat, Ahead, Absent, Node, Link, Fold, Tag}
use Rattle.form.specs.Records.{at, body, parts}

abbrev pub marked : List Bool → ℕ → Bool
marked t e = slice_index_or t e false

abbrev pub blank : ℕ → List Bool
blank n = replicate n false

-- number r alone is marked
abbrev pub only : ℕ → ℕ → List Bool
only n r = slice_set (blank n) r true

abbrev pub put : {A : Type 0} → (ℕ → List A → A) → ℕ → List A → List A
put f n t = slice_set t n (f n t)

-- k entries, from n on
abbrev pub filled : {A : Type 0} → (ℕ → List A → A) → ℕ → ℕ → List A → List A
filled f n zero t = t
filled f n (suc k) t = put f n (filled f (n + 1) k t)

abbrev pub turns : {A : Type 0} → (A → A) → ℕ → A → A
turns f zero v = v
turns f (suc k) v = f (turns f k v)

-- a table over the records: each entry comes from the record and the entries of later ones, which before are all d
unfoldable pub record_table : {A : Type 0} → A → (List A → Expr → A) → List Expr → List A
record_table d by es = filled (λ e t. by t (at es e)) 0 (length es) (replicate (length es) d)

-- a test of one record, by the rules that are marked (v) and the later records that are (t)
abbrev pub Test : Type 0
Test = List Bool → List Bool → Expr → Bool

abbrev pub takes_nothing : Test
takes_nothing v t Empty = true
takes_nothing v t (Text a b) = false
takes_nothing v t (Range a b) = false
takes_nothing v t (Rule r) = marked v r
takes_nothing v t (Sequence a b) = marked t a && marked t b
takes_nothing v t (Choice a b) = marked t a || marked t b
takes_nothing v t (Repeat a) = true
takes_nothing v t (Ahead a) = true
takes_nothing v t (Absent a) = true
takes_nothing v t (Node a) = marked t a
takes_nothing v t (Link a) = marked t a
takes_nothing v t (Fold a) = marked t a
takes_nothing v t (Tag a) = true

-- whether a marked rule is a head, with m the records that may take nothing
abbrev pub has_head : List Bool → Test
has_head m v t Empty = false
has_head m v t (Text a b) = false
has_head m v t (Range a b) = false
has_head m v t (Rule r) = marked v r
has_head m v t (Sequence a b) = marked t a || (marked m a && marked t b)
has_head m v t (Choice a b) = marked t a || marked t b
has_head m v t (Repeat a) = marked t a
has_head m v t (Ahead a) = marked t a
has_head m v t (Absent a) = marked t a
has_head m v t (Node a) = marked t a
has_head m v t (Link a) = marked t a
has_head m v t (Fold a) = marked t a
has_head m v t (Tag a) = false

-- the records for which the test holds
abbrev pub tested : Test → List Expr → List Bool → List Bool
tested by es v = record_table false (by v) es

-- the rules of v, and those whose body is marked
unfoldable pub joined : List Expr → List ℕ → List Bool → List Bool → List Bool
joined es rs t v = filled (λ q w. marked w q || marked t (body es rs q)) 0 (length rs) v

abbrev pub round : Test → List Expr → List ℕ → List Bool → List Bool
round by es rs v = joined es rs (tested by es v) v

-- as many rounds as there are rules: then a further one adds none
unfoldable pub settled : Test → List Expr → List ℕ → List Bool → List Bool
settled by es rs v = turns (round by es rs) (length rs) v

abbrev pub nullables : List Expr → List ℕ → List Bool
nullables es rs = tested takes_nothing es (settled takes_nothing es rs (blank (length rs)))

abbrev pub headed : List Expr → List ℕ → List Bool → List Bool
headed es rs v = tested (has_head (nullables es rs)) es v

-- rule r, and the rules that reach it
abbrev pub reaching : List Expr → List ℕ → ℕ → List Bool
reaching es rs r = settled (has_head (nullables es rs)) es rs (only (length rs) r)

abbrev pub left_recursive : List Expr → List ℕ → ℕ → Bool
left_recursive es rs r = marked (headed es rs (reaching es rs r)) (body es rs r)

-- whether a record is a repeat of a marked one
abbrev pub repeats_marked : List Bool → Expr → Bool
repeats_marked m Empty = false
repeats_marked m (Text a b) = false
repeats_marked m (Range a b) = false
repeats_marked m (Rule r) = false
repeats_marked m (Sequence a b) = false
repeats_marked m (Choice a b) = false
repeats_marked m (Repeat a) = marked m a
repeats_marked m (Ahead a) = false
repeats_marked m (Absent a) = false
repeats_marked m (Node a) = false
repeats_marked m (Link a) = false
repeats_marked m (Fold a) = false
repeats_marked m (Tag a) = false

abbrev pub deepest : List ℕ → List ℕ → ℕ
deepest t [] = 0
deepest t (a ∷ rest) = max (slice_index t a) (deepest t rest)

abbrev pub nestings : List Expr → List ℕ
nestings es = record_table 0 (λ t x. deepest t (parts x) + 1) es

-- among the n numbers from k on
abbrev pub first_from : (ℕ → Bool) → ℕ → ℕ → Option ℕ
first_from f k zero = None
first_from f k (suc n) = cond (f k) (Some k) (first_from f (k + 1) n)
