-- What matches without taking a byte may take nothing. So in a grammar the part of a repeat takes a byte wherever it matches.
use Rattle.std.proofs.Common.{◌≡◌, ℕ, zero, suc, ◌<◌, ◌≤◌, Bool, true, false, ◌&&◌, eqb, leb, List, [], ◌∷◌, length, take, drop, refl, inl, inr, arith, length-drop, length-take}
use Rattle.std.proofs.lemmas.Bool.{cases_lt}
use lib.ListN.{get_or-eq_default}
use Rattle.form.specs.declared.expr.Expr.{Expr}
use Rattle.form.specs.declared.expr.Expr.TheVariants.{Empty, Text, Range, Rule, Sequence, Choice, Repeat, Ahead, Absent, Node, Link, Fold, Tag}
use Rattle.form.specs.Records.{at}
use Rattle.form.specs.Records as records
use Rattle.form.specs.Nullable.{Nullable}
use Rattle.form.specs.Form.{Contents, Form, Laid, Fields}
use Rattle.reading.specs.declared.answer.Reading.{Reading}
use Rattle.reading.specs.Tree.{Tree, pick, plant, trees, bodies, body}
use Rattle.reading.specs.Reading.{Progress, Outcome, Answer, Work, byte_at, looked, left, made, start, fits, look, spell, between, after, back_to, taken, take as take_in, work, close, read}
use Rattle.reading.specs.Reading.Outcome.{deep, hit, miss}
use Rattle.reading.specs.Reading.Answer.{too_deep, done}
use Rattle.reading.proofs.Positions.{Stayed, PlacedIf, work_stays, read_stays}
use Rattle.reading.proofs.Records.{each_tree, rule_tree, fields_at}

-- the end of a match lies behind p
abbrev Beyond : ℕ → Outcome → Type 0
Beyond p (hit q t) = p < q
Beyond p _ = Unit {0}

look_beyond : (m : ℕ) (v : Bool) (f : Work) (p : ℕ) (s : Progress) → Beyond m (f (suc p) (looked p s)) → Beyond m (look v f p s)
look_beyond m true f p s h = h
look_beyond m false f p s h = tt

spell_beyond : (w cs : List ℕ) (m p : ℕ) (s : Progress) → m < p → Beyond m (spell w cs p s)
spell_beyond w [] m p s l = l
spell_beyond w (x ∷ cs) m p s l =
    look_beyond m (fits (λ y. eqb y x) (byte_at w p)) (spell w cs) p s (spell_beyond w cs m (suc p) (looked p s) (omega arith))

text_beyond : (w cs : List ℕ) (p : ℕ) (s : Progress) → 1 ≤ length cs → Beyond p (spell w cs p s)
text_beyond w [] p s l = absurd (omega arith)
text_beyond w (x ∷ cs) p s l =
    look_beyond p (fits (λ y. eqb y x) (byte_at w p)) (spell w cs) p s (spell_beyond w cs p (suc p) (looked p s) (omega arith))

module _ (c : Contents) where
  abbrev MayTakeNothing : ℕ → Type 0
  MayTakeNothing e = Nullable c.exprs c.rules e

  -- record e, worked at p, comes to an outcome: to a match that takes nothing only if it may take nothing
  abbrev Still : ℕ → ℕ → Outcome → Type 0
  Still e p (hit q t) = q ≤ p → MayTakeNothing e
  Still e p _ = Unit {0}

  always : (e p : ℕ) (o : Outcome) → MayTakeNothing e → Still e p o
  always e p (hit q t) h = λ l. h
  always e p _ h = tt

  still_part : (e a p : ℕ) (o : Outcome) → (MayTakeNothing a → MayTakeNothing e) → Still a p o → Still e p o
  still_part e a p (hit q t) f h = λ l. f (h l)
  still_part e a p _ f h = tt

  beyond_still : (e p : ℕ) (o : Outcome) → Beyond p o → Still e p o
  beyond_still e p (hit q t) h = λ l. absurd (omega arith)
  beyond_still e p _ h = tt

  -- the second part of a sequence, worked behind the first: both took nothing
  second_still : (e a b n p q : ℕ) (t : Progress) (o : Outcome) → p ≤ q → (q ≤ p → MayTakeNothing a)
      → (MayTakeNothing a → MayTakeNothing b → MayTakeNothing e) → Stayed n q t o → Still b q o → Still e p o
  second_still e a b n p q t (hit r u) l h f m k = λ j. f (h (omega arith)) (k (omega arith))
  second_still e a b n p q t _ l h f m k = tt

  abbrev RuleStill : ℕ → ℕ → Answer → Type 0
  RuleStill r p too_deep = Unit {0}
  RuleStill r p (done d) = d.matched ≡ true → d.end ≤ p → MayTakeNothing (records.body c.exprs c.rules r)

  taken_still : (e r p : ℕ) (s : Progress) (d : Reading) (v : Bool) → d.matched ≡ v
      → (MayTakeNothing (records.body c.exprs c.rules r) → MayTakeNothing e) → RuleStill r p (done d) → Still e p (taken s d v)
  taken_still e r p s d true i f h = λ l. f (h i l)
  taken_still e r p s d false i f h = tt

  take_still : (e r p : ℕ) (s : Progress) (x : Answer) → (MayTakeNothing (records.body c.exprs c.rules r) → MayTakeNothing e)
      → RuleStill r p x → Still e p (take_in s x)
  take_still e r p s too_deep f h = tt
  take_still e r p s (done d) f h = taken_still e r p s d d.matched refl f h

  module _ (L : Laid c) (w : List ℕ) (ask : ℕ → ℕ → Answer) (A : (r p : ℕ) → p ≤ length w → PlacedIf (length w) p (ask r p))
      (R : (r p : ℕ) → p ≤ length w → RuleStill r p (ask r p)) where
    abbrev StillTree : ℕ → Tree → Type 0
    StillTree e t = (p : ℕ) (s : Progress) → p ≤ length w → Still e p (work w ask t p s)

    sequence_still : (e a b : ℕ) (x y : Tree) → (MayTakeNothing a → MayTakeNothing b → MayTakeNothing e) → StillTree a x → StillTree b y
        → StillTree e (Tree.sequence x y)
    sequence_still e a b x y f X Y p s l = by (work w ask x p s) (work_stays w ask A x p s l) (X p s l)
      where
        by : (o : Outcome) → Stayed (length w) p s o → Still a p o → Still e p (after (work w ask y) miss o)
        by (hit q t) m h =
            second_still e a b (length w) p q t (work w ask y q t) m.forward h f (work_stays w ask A y q t m.ends) (Y q t m.ends)
        by _ m h = tt

    choice_still : (e a b : ℕ) (x y : Tree) → (MayTakeNothing a → MayTakeNothing e) → (MayTakeNothing b → MayTakeNothing e) → StillTree a x → StillTree b y
        → StillTree e (Tree.choice x y)
    choice_still e a b x y f g X Y p s l = by (work w ask x p s) (X p s l)
      where
        by : (o : Outcome) → Still a p o → Still e p (after hit (back_to p s.nodes (work w ask y)) o)
        by deep h = tt
        by (hit q t) h = λ i. f (h i)
        by (miss t) h = still_part e b p _ g (Y p (left s.nodes t) l)

    range_still : (e low high : ℕ) → StillTree e (Tree.range low high)
    range_still e low high p s l =
        beyond_still e p (between w low high p s)
        (look_beyond p (fits (λ x. leb low x && leb x high) (byte_at w p)) hit p s (omega arith))

    plant_still : (e : ℕ) (ts : List Tree) → ((j : ℕ) → StillTree j (pick ts j)) → (x : Expr) → at c.exprs e ≡ x
        → Fields (length c.text) (length c.rules) x → StillTree e (plant c.text ts x)
    plant_still e ts S Empty i f p s l = always e p (hit p s) (Nullable.empty i)
    plant_still e ts S (Text start len) i f p s l =
        beyond_still e p (spell w (take len (drop start c.text)) p s)
        (text_beyond w (take len (drop start c.text)) p s (simp (length-take, length-drop) (omega arith)))
    plant_still e ts S (Range low high) i f p s l = range_still e low high p s l
    plant_still e ts S (Rule r) i f p s l = take_still e r p s _ (λ h. Nullable.rule i h) (R r p l)
    plant_still e ts S (Sequence a b) i f p s l = sequence_still e a b (pick ts a) (pick ts b) (λ h k. Nullable.both i h k) (S a) (S b) p s l
    plant_still e ts S (Choice a b) i f p s l =
        choice_still e a b (pick ts a) (pick ts b) (λ h. Nullable.first i h) (λ h. Nullable.second i h) (S a) (S b) p s l
    plant_still e ts S (Repeat a) i f p s l = always e p _ (Nullable.repeat i)
    plant_still e ts S (Ahead a) i f p s l = always e p _ (Nullable.ahead i)
    plant_still e ts S (Absent a) i f p s l = always e p _ (Nullable.absent i)
    plant_still e ts S (Node a) i f p s l = still_part e a p _ (λ h. Nullable.node i h) (S a p (made s) l)
    plant_still e ts S (Link a) i f p s l = still_part e a p _ (λ h. Nullable.link i h) (S a p s l)
    plant_still e ts S (Fold a) i f p s l = still_part e a p _ (λ h. Nullable.fold i h) (S a p (made s) l)
    plant_still e ts S (Tag a) i f p s l = always e p (hit p s) (Nullable.tag i)

    work_still : (e : ℕ) → StillTree e (pick (trees c) e)
    work_still = each_tree c StillTree (λ e. range_still e 0 0) (λ e ts S. plant_still e ts S (at c.exprs e) refl (fields_at c L e))

  close_still : (r p : ℕ) (o : Outcome) → Still (records.body c.exprs c.rules r) p o → RuleStill r p (close p o)
  close_still r p deep h = tt
  close_still r p (hit q t) h = λ i. h
  close_still r p (miss t) h = λ i. cc

  read_still : Laid c → (w : List ℕ) (k r p : ℕ) → p ≤ length w → RuleStill r p (read (bodies c) w k r p)
  read_still L w zero r p l = tt
  read_still L w (suc k) r p l =
      close_still r p (work w (read (bodies c) w k) (body (bodies c) r) p (start p))
      (rw (rule_tree c r)
      (work_still L w (read (bodies c) w k) (read_stays (bodies c) w k) (read_still L w k) (records.body c.exprs c.rules r) p (start p) l))

-- wherever the tree matches, it takes a byte
abbrev pub Moves : List Tree → Tree → Type 0
Moves g t = (w : List ℕ) (k p : ℕ) (s : Progress) (q : ℕ) (u : Progress) → p ≤ length w → work w (read g w k) t p s ≡ hit q u → p < q

-- each part of a repeat does
abbrev pub Moving : List Tree → Tree → Type 0
Moving g (Tree.sequence a b) = Moving g a × Moving g b
Moving g (Tree.choice a b) = Moving g a × Moving g b
Moving g (Tree.repeat a) = Moves g a × Moving g a
Moving g (Tree.ahead a) = Moving g a
Moving g (Tree.absent a) = Moving g a
Moving g (Tree.node a) = Moving g a
Moving g (Tree.link a) = Moving g a
Moving g (Tree.fold a) = Moving g a
Moving g _ = Unit {0}

module _ (c : Contents) (F : Form c) where
  -- only a record of the file is a repeat
  repeat_inside : (e a : ℕ) → at c.exprs e ≡ Repeat a → e < length c.exprs
  repeat_inside e a i =
      elim (cases_lt e (length c.exprs)) [
        | inl l ↦ l
        | inr l ↦ let past : at c.exprs e ≡ Range 0 0 = get_or-eq_default c.exprs (Range 0 0) l in cc
      ]

  abbrev g : List Tree
  g = bodies c

  abbrev StillIn : ℕ → Tree → Type 0
  StillIn e t = (w : List ℕ) (k p : ℕ) (s : Progress) → p ≤ length w → Still c e p (work w (read g w k) t p s)

  -- the part a of the repeat e takes a byte, since it may not take nothing
  part_moves : (e a : ℕ) (t : Tree) → at c.exprs e ≡ Repeat a → StillIn a t → Moves g t
  part_moves e a t i S w k p s q u l h =
      let still : q ≤ p → Nullable c.exprs c.rules a = rw h at (S w k p s l) in
      elim (cases_lt p q) [
        | inl m ↦ m
        | inr m ↦ absurd (F.repeats_take e (repeat_inside e a i) (record { part = a; repeats = i; nullable = still m }))
      ]

  plant_moving : (e : ℕ) (ts : List Tree) → ((j : ℕ) → StillIn j (pick ts j)) → ((j : ℕ) → Moving g (pick ts j))
      → (x : Expr) → at c.exprs e ≡ x → Moving g (plant c.text ts x)
  plant_moving e ts S M (Sequence a b) i = (M a, M b)
  plant_moving e ts S M (Choice a b) i = (M a, M b)
  plant_moving e ts S M (Repeat a) i = (part_moves e a (pick ts a) i (S a), M a)
  plant_moving e ts S M _ i = search

  abbrev Both : ℕ → Tree → Type 0
  Both e t = StillIn e t × Moving g t

  plant_both : (e : ℕ) (ts : List Tree) → ((j : ℕ) → Both j (pick ts j)) → Both e (plant c.text ts (at c.exprs e))
  plant_both e ts B = (
    λ w k p s l.
        plant_still c F.laid w (read g w k) (read_stays g w k) (read_still c F.laid w k) e ts (λ j q u m. (B j).0 w k q u m)
        (at c.exprs e) refl (fields_at c F.laid e) p s l,
    plant_moving e ts (λ j. (B j).0) (λ j. (B j).1) (at c.exprs e) refl,
  )

  range_both : (e : ℕ) → Both e (Tree.range 0 0)
  range_both e = (λ w k p s l. range_still c F.laid w (read g w k) (read_stays g w k) (read_still c F.laid w k) e 0 0 p s l, tt)

  pub moving : (r : ℕ) → Moving g (body g r)
  moving r =
      rw (rule_tree c r)
      (each_tree c Both range_both plant_both (records.body c.exprs c.rules r)).1
