-- The tables of heads tell exactly which rules are heads, and which rules are left recursive.
use Rattle.std.proofs.Common.{◌≡◌, ℕ, zero, suc, ◌<◌, Bool, true, false, ◌&&◌, ◌||◌, ◌⊎◌, List, length, Decides, refl, ap, ◌∙◌, ap₂, inl, inr, length-set, get_or-set_same}
use lib.ListN.{length-replicate}
use Rattle.std.proofs.lemmas.Bool.{false≢true, and_parts, and_from, or_cases, or_left, or_right}
use Rattle.form.specs.declared.expr.Expr.{Expr}
use Rattle.form.specs.declared.expr.Expr.TheVariants.{Empty, Text, Range, Rule, Sequence, Choice, Repeat, Ahead, Absent, Node, Link, Fold, Tag}
use Rattle.form.specs.Records.{at, body, Ordered}
use Rattle.form.specs.Heads.{Head, Reaches, LeftRecursive}
use Rattle.form.specs.Heads.Head.{rule, first, second, either, other, repeat, ahead, absent, node, link, fold}
use Rattle.form.specs.Heads.Reaches.{once, through}
use Rattle.form.specs.Tables.{marked, blank, only, has_head, nullables, headed, reaching, left_recursive}
use Rattle.form.proofs.Filled.{Local}
use Rattle.form.proofs.Rounds.{blank_unmarked, tested_sound, tested_at, settled_more, settled_sound, settled_closed}
use Rattle.form.proofs.Nullable.{nullable_sound, nullable_complete}

local : (m v : List Bool) → Local false (has_head m v)
local m v t u k n (Sequence a b) l h = ap₂ (λ x y. x || (marked m a && y)) (h a l.0) (h b l.2.0)
local m v t u k n (Choice a b) l h = ap₂ ◌||◌ (h a l.0) (h b l.2.0)
local m v t u k n (Repeat a) l h = h a l.0
local m v t u k n (Ahead a) l h = h a l.0
local m v t u k n (Absent a) l h = h a l.0
local m v t u k n (Node a) l h = h a l.0
local m v t u k n (Link a) l h = h a l.0
local m v t u k n (Fold a) l h = h a l.0
local m v t u k n _ l h = refl

only_is : (n r j : ℕ) → marked (only n r) j ≡ true → j ≡ r
only_is zero r j m = absurd (false≢true m)
only_is (suc n) zero zero m = refl
only_is (suc n) zero (suc j) m = absurd (blank_unmarked n j m)
only_is (suc n) (suc r) zero m = absurd (false≢true m)
only_is (suc n) (suc r) (suc j) m = ap suc (only_is n r j m)

only_marked : (n r : ℕ) → r < n → marked (only n r) r ≡ true
only_marked n r l = get_or-set_same (blank n) r true false (simp length-replicate l)

only_length : (n r : ℕ) → length (only n r) ≡ n
only_length n r = length-set (blank n) r true ∙ length-replicate n false

module _ (es : List Expr) (rs : List ℕ) where
  -- some rule of v is a head of e
  record Headed (v : List Bool) (e : ℕ) : Type 0 where
    pub asked : ℕ
    pub head : Head es rs asked e
    pub held : marked v asked ≡ true

  up : (v : List Bool) (e a : ℕ) → ((r : ℕ) → Head es rs r a → Head es rs r e) → Headed v a → Headed v e
  up v e a f s = record { asked = s.asked; head = f s.asked s.head; held = s.held }

  -- a derivation for what the test says of one record
  derived : (v : List Bool) (e : ℕ) (t : List Bool) → ((j : ℕ) → marked t j ≡ true → Headed v j)
      → (x : Expr) → at es e ≡ x → has_head (nullables es rs) v t x ≡ true → Headed v e
  derived v e t h Empty q m = absurd (false≢true m)
  derived v e t h (Text a b) q m = absurd (false≢true m)
  derived v e t h (Range a b) q m = absurd (false≢true m)
  derived v e t h (Rule r) q m = record { asked = r; head = rule q; held = m }
  derived v e t h (Sequence a b) q m = elim (or_cases (marked t a) (marked (nullables es rs) a && marked t b) m) [
    | inl p ↦ up v e a (λ r. first q) (h a p)
    | inr p ↦
        let w = and_parts (marked (nullables es rs) a) (marked t b) p in
        up v e b (λ r. second q (nullable_sound es rs a w.0)) (h b w.1)
  ]
  derived v e t h (Choice a b) q m = elim (or_cases (marked t a) (marked t b) m) [
    | inl p ↦ up v e a (λ r. either q) (h a p)
    | inr p ↦ up v e b (λ r. other q) (h b p)
  ]
  derived v e t h (Repeat a) q m = up v e a (λ r. repeat q) (h a m)
  derived v e t h (Ahead a) q m = up v e a (λ r. ahead q) (h a m)
  derived v e t h (Absent a) q m = up v e a (λ r. absent q) (h a m)
  derived v e t h (Node a) q m = up v e a (λ r. node q) (h a m)
  derived v e t h (Link a) q m = up v e a (λ r. link q) (h a m)
  derived v e t h (Fold a) q m = up v e a (λ r. fold q) (h a m)
  derived v e t h (Tag a) q m = absurd (false≢true m)

  headed_sound : (v : List Bool) (e : ℕ) → marked (headed es rs v) e ≡ true → Headed v e
  headed_sound v = tested_sound es (has_head (nullables es rs)) v (Headed v) (λ e t h m. derived v e t h (at es e) refl m)

  -- a rule whose body has a head in v reaches r, if those of v are r or reach it
  reached : (r : ℕ) (v : List Bool) → ((s : ℕ) → marked v s ≡ true → (s ≡ r) ⊎ Reaches es rs r s)
      → (q : ℕ) → marked (headed es rs v) (body es rs q) ≡ true → Reaches es rs r q
  reached r v h q m =
      let s = headed_sound v (body es rs q) m in
      elim (h s.asked s.held) [
        | inl e ↦ once (rw e at s.head)
        | inr p ↦ through s.head p
      ]

  recursive_sound : (r : ℕ) → left_recursive es rs r ≡ true → LeftRecursive es rs r
  recursive_sound r =
      reached r (reaching es rs r)
      (settled_sound es rs (has_head (nullables es rs)) (λ q. (q ≡ r) ⊎ Reaches es rs r q) (λ v h q m. inr (reached r v h q m))
      (only (length rs) r) (λ j m. inl (only_is (length rs) r j m)))
      r

  module _ (ord : Ordered es) where
    module _ (v : List Bool) where
      abbrev table : List Bool
      table = headed es rs v

      entry : (e : ℕ) (x : Expr) → at es e ≡ x → marked table e ≡ has_head (nullables es rs) v table x
      entry e x q =
          tested_at es (has_head (nullables es rs)) v (local (nullables es rs) v) (λ t. refl) ord e ∙ ap (has_head (nullables es rs) v table) q

      headed_complete : (r : ℕ) → marked v r ≡ true → (e : ℕ) → Head es rs r e → marked table e ≡ true
      headed_complete r m e (rule q) = entry e (Rule r) q ∙ m
      headed_complete r m e (first {a} {b} q d) =
          entry e (Sequence a b) q ∙ or_left (marked table a) (marked (nullables es rs) a && marked table b) (headed_complete r m a d)
      headed_complete r m e (second {a} {b} q n d) =
          entry e (Sequence a b) q ∙ or_right (marked table a) (marked (nullables es rs) a && marked table b)
          (and_from (marked (nullables es rs) a) (marked table b) (nullable_complete es rs ord a n) (headed_complete r m b d))
      headed_complete r m e (either {a} {b} q d) = entry e (Choice a b) q ∙ or_left (marked table a) (marked table b) (headed_complete r m a d)
      headed_complete r m e (other {a} {b} q d) = entry e (Choice a b) q ∙ or_right (marked table a) (marked table b) (headed_complete r m b d)
      headed_complete r m e (repeat {a} q d) = entry e (Repeat a) q ∙ headed_complete r m a d
      headed_complete r m e (ahead {a} q d) = entry e (Ahead a) q ∙ headed_complete r m a d
      headed_complete r m e (absent {a} q d) = entry e (Absent a) q ∙ headed_complete r m a d
      headed_complete r m e (node {a} q d) = entry e (Node a) q ∙ headed_complete r m a d
      headed_complete r m e (link {a} q d) = entry e (Link a) q ∙ headed_complete r m a d
      headed_complete r m e (fold {a} q d) = entry e (Fold a) q ∙ headed_complete r m a d

    module _ (r : ℕ) (lt : r < length rs) where
      pub head_decided : (e : ℕ) → Decides (marked (headed es rs (only (length rs) r)) e) (Head es rs r e)
      head_decided e = (
        λ m. let s = headed_sound (only (length rs) r) e m in rw (only_is (length rs) r s.asked s.held) at s.head,
        headed_complete (only (length rs) r) r (only_marked (length rs) r lt) e,
      )

      reaching_complete : (q : ℕ) → Reaches es rs r q → marked (headed es rs (reaching es rs r)) (body es rs q) ≡ true
      reaching_complete q (once h) =
          headed_complete (reaching es rs r) r
          (settled_more es rs (has_head (nullables es rs)) (only (length rs) r) r (only_marked (length rs) r lt)) (body es rs q) h
      reaching_complete q (through {s} h p) =
          headed_complete (reaching es rs r) s
          (settled_closed es rs (has_head (nullables es rs)) (only (length rs) r) (only_length (length rs) r) s (reaching_complete s p))
          (body es rs q) h

      pub recursive_decided : Decides (left_recursive es rs r) (LeftRecursive es rs r)
      recursive_decided = (recursive_sound r, reaching_complete r)
