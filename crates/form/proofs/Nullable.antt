-- The table of nullable records tells exactly which records may take nothing.
use Rattle.std.proofs.Common.{◌≡◌, ℕ, Bool, true, false, ◌&&◌, ◌||◌, List, length, Decides, refl, ap, ◌∙◌, ap₂, inl, inr}
use lib.ListN.{length-replicate}
use Rattle.std.proofs.lemmas.Bool.{false≢true, and_parts, and_from, or_cases, or_left, or_right}
use Rattle.form.specs.declared.expr.Expr.{Expr}
use Rattle.form.specs.declared.expr.Expr.TheVariants.{Empty, Text, Range, Rule, Sequence, Choice, Repeat, Ahead, Absent, Node, Link, Fold, Tag}
use Rattle.form.specs.Records.{at, body, Ordered}
use Rattle.form.specs.Nullable.{Nullable}
use Rattle.form.specs.Nullable.Nullable.{empty, repeat, ahead, absent, tag, rule, node, link, fold, both, first, second}
use Rattle.form.specs.Tables.{marked, blank, takes_nothing, tested, settled, nullables}
use Rattle.form.proofs.Filled.{Local}
use Rattle.form.proofs.Rounds.{blank_unmarked, tested_sound, tested_at, settled_sound, settled_closed}

local : (v : List Bool) → Local false (takes_nothing v)
local v t u k n (Sequence a b) l h = ap₂ ◌&&◌ (h a l.0) (h b l.2.0)
local v t u k n (Choice a b) l h = ap₂ ◌||◌ (h a l.0) (h b l.2.0)
local v t u k n (Node a) l h = h a l.0
local v t u k n (Link a) l h = h a l.0
local v t u k n (Fold a) l h = h a l.0
local v t u k n _ l h = refl

module _ (es : List Expr) (rs : List ℕ) where
  -- a derivation for what the test says of one record
  derived : (v : List Bool) → ((r : ℕ) → marked v r ≡ true → Nullable es rs (body es rs r))
      → (e : ℕ) (t : List Bool) → ((j : ℕ) → marked t j ≡ true → Nullable es rs j)
      → (x : Expr) → at es e ≡ x → takes_nothing v t x ≡ true → Nullable es rs e
  derived v R e t h Empty q m = empty q
  derived v R e t h (Text a b) q m = absurd (false≢true m)
  derived v R e t h (Range a b) q m = absurd (false≢true m)
  derived v R e t h (Rule r) q m = rule q (R r m)
  derived v R e t h (Sequence a b) q m = let p = and_parts (marked t a) (marked t b) m in both q (h a p.0) (h b p.1)
  derived v R e t h (Choice a b) q m = elim (or_cases (marked t a) (marked t b) m) [ inl p ↦ first q (h a p) | inr p ↦ second q (h b p) ]
  derived v R e t h (Repeat a) q m = repeat q
  derived v R e t h (Ahead a) q m = ahead q
  derived v R e t h (Absent a) q m = absent q
  derived v R e t h (Node a) q m = node q (h a m)
  derived v R e t h (Link a) q m = link q (h a m)
  derived v R e t h (Fold a) q m = fold q (h a m)
  derived v R e t h (Tag a) q m = tag q

  table_sound : (v : List Bool) → ((r : ℕ) → marked v r ≡ true → Nullable es rs (body es rs r))
      → (e : ℕ) → marked (tested takes_nothing es v) e ≡ true → Nullable es rs e
  table_sound v R = tested_sound es takes_nothing v (Nullable es rs) (λ e t h m. derived v R e t h (at es e) refl m)

  abbrev rules : List Bool
  rules = settled takes_nothing es rs (blank (length rs))

  pub nullable_sound : (e : ℕ) → marked (nullables es rs) e ≡ true → Nullable es rs e
  nullable_sound =
      table_sound rules
      (settled_sound es rs takes_nothing (λ q. Nullable es rs (body es rs q)) (λ v R q m. table_sound v R (body es rs q) m)
      (blank (length rs)) (λ j m. absurd (blank_unmarked (length rs) j m)))

  module _ (ord : Ordered es) where
    entry : (e : ℕ) (x : Expr) → at es e ≡ x → marked (nullables es rs) e ≡ takes_nothing rules (nullables es rs) x
    entry e x q = tested_at es takes_nothing rules (local rules) (λ t. refl) ord e ∙ ap (takes_nothing rules (nullables es rs)) q

    pub nullable_complete : (e : ℕ) → Nullable es rs e → marked (nullables es rs) e ≡ true
    nullable_complete e (empty q) = entry e Empty q
    nullable_complete e (repeat {a} q) = entry e (Repeat a) q
    nullable_complete e (ahead {a} q) = entry e (Ahead a) q
    nullable_complete e (absent {a} q) = entry e (Absent a) q
    nullable_complete e (tag {a} q) = entry e (Tag a) q
    nullable_complete e (rule {r} q d) =
        entry e (Rule r) q
        ∙ settled_closed es rs takes_nothing (blank (length rs)) (length-replicate (length rs) false) r (nullable_complete (body es rs r) d)
    nullable_complete e (node {a} q d) = entry e (Node a) q ∙ nullable_complete a d
    nullable_complete e (link {a} q d) = entry e (Link a) q ∙ nullable_complete a d
    nullable_complete e (fold {a} q d) = entry e (Fold a) q ∙ nullable_complete a d
    nullable_complete e (both {a} {b} q c d) =
        entry e (Sequence a b) q
        ∙ and_from (marked (nullables es rs) a) (marked (nullables es rs) b) (nullable_complete a c) (nullable_complete b d)
    nullable_complete e (first {a} {b} q d) =
        entry e (Choice a b) q ∙ or_left (marked (nullables es rs) a) (marked (nullables es rs) b) (nullable_complete a d)
    nullable_complete e (second {a} {b} q d) =
        entry e (Choice a b) q ∙ or_right (marked (nullables es rs) a) (marked (nullables es rs) b) (nullable_complete b d)

    pub nullable_decided : (e : ℕ) → Decides (marked (nullables es rs) e) (Nullable es rs e)
    nullable_decided e = (nullable_sound e, nullable_complete e)
