-- A smaller budget cuts a reading short or leaves it as it is, and the pairs that it then reaches are the first of the others.
use Rattle.std.proofs.Common.{◌≡◌, ℕ, zero, suc, ◌-◌, ◌<◌, ◌≤◌, Bool, true, false, ◌&&◌, eqb, ltb, leb, ◌⊎◌, List, [], ◌∷◌, ◌++◌, length, sym, refl, ap, ◌∙◌, subst, inl, inr, append_assoc, append-nil, arith}
use Rattle.std.proofs.lemmas.Bool.{leb-true, leb-false, le-leb, lt-leb, cases_lt}
use lib.Dec.{leb-suc-suc, leb-suc-zero}
use Rattle.reading.specs.declared.answer.Reading.{Reading}
use Rattle.reading.specs.Tree.{Tree, body}
use Rattle.reading.specs.Tree.Tree.{text, range, rule, sequence, choice, repeat, ahead, absent, node, link, fold}
use Rattle.reading.specs.Reading.{Progress, Outcome, Answer, Work, byte_at, looked, left, made, start, fits, look, spell, after, back_to, onward, turns, taken, take, work, close, read}
use Rattle.reading.specs.Reading.Outcome.{deep, hit, miss}
use Rattle.reading.specs.Reading.Answer.{too_deep, done}
use Rattle.reading.specs.Reached.{Pair, Visits, visited_after, visited_back_at, visited_onward, visited_in_turns, visited, reached}
use Rattle.reading.specs.Lists.{Front}
use Rattle.reading.specs.ReadingLaws.{Budgeted}
use Rattle.reading.proofs.Positions.{Rises, onward_rises, turns_rises, work_rises}

-- what a budget leaves of an outcome, and of an answer
abbrev kept : Bool → Outcome → Outcome
kept true o = o
kept false o = deep

abbrev cut : ℕ → Outcome → Outcome
cut k deep = deep
cut k (hit q t) = kept (leb t.height k) (hit q t)
cut k (miss t) = kept (leb t.height k) (miss t)

abbrev kept_answer : Bool → Reading → Answer
kept_answer true d = done d
kept_answer false d = too_deep

abbrev cut_answer : ℕ → Answer → Answer
cut_answer k too_deep = too_deep
cut_answer k (done d) = kept_answer (leb d.height k) d

-- the pairs of a reading that was cut are the first of all, and those of one that was not are all
abbrev Short : {A : Type 0} → A → A → List Pair → List Pair → Type 0
Short o none xs ys = ((o ≡ none) × Front xs ys) ⊎ (xs ≡ ys)

front_more : (xs ys zs : List Pair) → Front xs ys → Front xs (ys ++ zs)
front_more xs ys zs f = (f.0 ++ zs, rw (f.1, append_assoc))

front_both : (vs xs ys : List Pair) → Front xs ys → Front (vs ++ xs) (vs ++ ys)
front_both vs xs ys f = (f.0, rw (f.1, append_assoc))

-- the outcome o and the pairs xs under the budget k, where o' and xs' come under a greater one
record Cut (k : ℕ) (o o' : Outcome) (xs xs' : List Pair) : Type 0 where
  is : o ≡ cut k o'
  pairs : Short o deep xs xs'

abbrev Cuts : ℕ → Work → Work → Visits → Visits → Type 0
Cuts k f f' c c' = (p : ℕ) (s : Progress) → s.height ≤ k → Cut k (f p s) (f' p s) (c p s) (c' p s)

-- what rises from above the budget is cut
late : (k p : ℕ) (t : Progress) (o : Outcome) → k < t.height → Rises p t o → deep ≡ cut k o
late k p t deep l h = refl
late k p t _ l h = grind (arith, lt-leb)

-- a part was not cut, and what follows it goes on
on_cut : {k : ℕ} {x x' : Outcome} {ys ys' : List Pair} (o : Outcome) (xs xs' : List Pair) → (o ≡ deep → ⊥) → Short o deep xs xs' → Cut k x x' ys ys'
    → Cut k x x' (xs ++ ys) (xs' ++ ys')
on_cut o xs xs' whole (inl h) C = absurd (whole h.0)
on_cut {x = x} {ys = ys} {ys' = ys'} o xs xs' whole (inr h) C = record { is = C.is; pairs = rw (sym h) (both C.pairs) }
  where
    both : Short x deep ys ys' → Short x deep (xs ++ ys) (xs ++ ys')
    both (inl f) = inl (f.0, front_both xs ys ys' f.1)
    both (inr e) = inr (ap (λ (v : List Pair). xs ++ v) e)

-- a part was cut, and nothing follows it
end_cut : (k : ℕ) (x' : Outcome) (xs xs' zs : List Pair) → Short deep deep xs xs' → deep ≡ cut k x' → Cut k deep x' (xs ++ []) (xs' ++ zs)
end_cut k x' xs xs' zs h e = record { is = e; pairs = rw append-nil (inl (refl, front h)) }
  where
    front : Short deep deep xs xs' → Front xs (xs' ++ zs)
    front (inl f) = front_more xs xs' zs f.1
    front (inr i) = rw (sym i) (zs, refl)

-- what follows a match is cut alike, and so is what follows no match
module _ (k : ℕ) (f f' : Work) (n n' : Progress → Outcome) (c c' : Visits) (m m' : Progress → List Pair)
    (F : Cuts k f f' c c') (N : (t : Progress) → t.height ≤ k → Cut k (n t) (n' t) (m t) (m' t))
    (rises : (q : ℕ) (t : Progress) → Rises q t (f' q t)) (rises_miss : (t : Progress) → Rises 0 t (n' t)) where
  abbrev Follows : Outcome → Outcome → List Pair → List Pair → Type 0
  Follows o o' xs xs' = Cut k (after f n o) (after f' n' o') (xs ++ visited_after c m o) (xs' ++ visited_after c' m' o')

  kept_cut : (o : Outcome) (t : Progress) → (o ≡ deep → ⊥)
      → (t.height ≤ k → Cut k (after f n o) (after f' n' o) (visited_after c m o) (visited_after c' m' o)) → (k < t.height → deep ≡ cut k (after f' n' o))
      → (xs xs' : List Pair) (v : Bool) → leb t.height k ≡ v → Short (kept v o) deep xs xs' → Follows (kept v o) o xs xs'
  kept_cut o t whole F L xs xs' true e h = on_cut o xs xs' whole h (F (leb-true t.height k e))
  kept_cut o t whole F L xs xs' false e h = end_cut k (after f' n' o) xs xs' (visited_after c' m' o) h (L (leb-false t.height k e))

  by_cut : (o' : Outcome) (xs xs' : List Pair) → Short (cut k o') deep xs xs' → Follows (cut k o') o' xs xs'
  by_cut deep xs xs' h = end_cut k deep xs xs' [] h refl
  by_cut (hit q t) xs xs' h =
      kept_cut (hit q t) t (λ e. cc) (F q t) (λ l. late k q t (f' q t) l (rises q t)) xs xs' (leb t.height k) refl h
  by_cut (miss t) xs xs' h =
      kept_cut (miss t) t (λ e. cc) (N t) (λ l. late k 0 t (n' t) l (rises_miss t)) xs xs' (leb t.height k) refl h

  after_cut : {o o' : Outcome} {xs xs' : List Pair} → Cut k o o' xs xs' → Follows o o' xs xs'
  after_cut {o' = o'} {xs = xs} {xs' = xs'} C =
      subst (λ (x : Outcome). Short x deep xs xs' → Follows x o' xs xs') (sym C.is) (by_cut o' xs xs') C.pairs

-- what follows reaches no further pair
quiet : (o : Outcome) (xs : List Pair) → xs ++ visited_after (λ q t. []) (λ t. []) o ≡ xs
quiet deep xs = append-nil xs
quiet _ xs = append-nil xs

module _ (k : ℕ) (f f' : Work) (n n' : Progress → Outcome)
    (F : Cuts k f f' (λ q t. []) (λ q t. [])) (N : (t : Progress) → t.height ≤ k → Cut k (n t) (n' t) [] [])
    (rises : (q : ℕ) (t : Progress) → Rises q t (f' q t)) (rises_miss : (t : Progress) → Rises 0 t (n' t)) where
  quiet_cut : {o o' : Outcome} {xs xs' : List Pair} → Cut k o o' xs xs' → Cut k (after f n o) (after f' n' o') xs xs'
  quiet_cut {o = o} {o' = o'} {xs = xs} {xs' = xs'} C =
      rw (quiet o xs, quiet o' xs') at
      (after_cut k f f' n n' (λ q t. []) (λ q t. []) (λ t. []) (λ t. []) F N rises rises_miss C)

module _ (k : ℕ) where
  hit_stays : (p : ℕ) (t : Progress) (xs : List Pair) → t.height ≤ k → Cut k (hit p t) (hit p t) xs xs
  hit_stays p t xs l = record { is = rw (le-leb t.height k l); pairs = inr refl }

  miss_stays : (t : Progress) (xs : List Pair) → t.height ≤ k → Cut k (miss t) (miss t) xs xs
  miss_stays t xs l = record { is = rw (le-leb t.height k l); pairs = inr refl }

  look_cut : (v : Bool) (f : Work) → Cuts k f f (λ p s. []) (λ p s. []) → Cuts k (look v f) (look v f) (λ p s. []) (λ p s. [])
  look_cut true f F p s l = F (suc p) (looked p s) l
  look_cut false f F p s l = miss_stays (looked p s) [] l

  spell_cut : (w cs : List ℕ) → Cuts k (spell w cs) (spell w cs) (λ p s. []) (λ p s. [])
  spell_cut w [] p s l = hit_stays p s [] l
  spell_cut w (c ∷ cs) p s l = look_cut (fits (λ x. eqb x c) (byte_at w p)) (spell w cs) (spell_cut w cs) p s l

  onward_cut : (v : Bool) (f f' : Work) (c c' : Visits) → Cuts k f f' c c'
      → Cuts k (onward v f) (onward v f') (visited_onward v c) (visited_onward v c')
  onward_cut true f f' c c' F p s l = F p s l
  onward_cut false f f' c c' F p s l = hit_stays p s [] l

  turns_cut : (m : ℕ) (f f' : Work) (c c' : Visits) → Cuts k f f' c c' → ((p : ℕ) (s : Progress) → Rises p s (f' p s))
      → Cuts k (turns m f) (turns m f') (visited_in_turns m f c) (visited_in_turns m f' c')
  turns_cut zero f f' c c' F R p s l = hit_stays p s [] l
  turns_cut (suc m) f f' c c' F R p s l =
      after_cut k (λ q. onward (ltb p q) (turns m f) q) (λ q. onward (ltb p q) (turns m f') q)
      (back_to p s.nodes hit) (back_to p s.nodes hit)
      (λ q. visited_onward (ltb p q) (visited_in_turns m f c) q) (λ q. visited_onward (ltb p q) (visited_in_turns m f' c') q) (λ t. []) (λ t. [])
      (λ q. onward_cut (ltb p q) (turns m f) (turns m f') (visited_in_turns m f c) (visited_in_turns m f' c') (turns_cut m f f' c c' F R) q)
      (λ t. hit_stays p (left s.nodes t) [])
      (λ q. onward_rises (ltb p q) (turns m f') (turns_rises m f' R) q) (λ t. omega arith) (F p s l)

  taken_cut : (s : Progress) (d : Reading) (v : Bool) (xs : List Pair) → s.height ≤ k → d.height ≤ k → Cut k (taken s d v) (taken s d v) xs xs
  taken_cut s d true xs l m = hit_stays d.end _ xs (omega arith)
  taken_cut s d false xs l m = miss_stays _ xs (omega arith)

  taken_late : (s : Progress) (d : Reading) (v : Bool) → k < d.height → deep ≡ cut k (taken s d v)
  taken_late s d true l = grind (arith, lt-leb)
  taken_late s d false l = grind (arith, lt-leb)

-- the answer x of a rule and the pairs xs under the budget k, where x' and xs' come under a greater one
record RuleCut (k : ℕ) (x x' : Answer) (xs xs' : List Pair) : Type 0 where
  is : x ≡ cut_answer k x'
  pairs : Short x too_deep xs xs'

-- which outcome was cut does not matter to the pairs
short_deep : (xs ys : List Pair) → Short too_deep too_deep xs ys → Short deep deep xs ys
short_deep xs ys (inl f) = inl (refl, f.1)
short_deep xs ys (inr e) = inr e

short_whole : (d : Reading) (xs ys : List Pair) → Short (done d) too_deep xs ys → xs ≡ ys
short_whole d xs ys (inl f) = cc
short_whole d xs ys (inr e) = e

module _ (k : ℕ) (s : Progress) (l : s.height ≤ k) where
  done_cut : (d : Reading) (xs xs' : List Pair) (v : Bool) → leb d.height k ≡ v → Short (kept_answer v d) too_deep xs xs'
      → Cut k (take s (kept_answer v d)) (take s (done d)) xs xs'
  done_cut d xs xs' true e h = rw (short_whole d xs xs' h) (taken_cut k s d d.matched xs' l (leb-true d.height k e))
  done_cut d xs xs' false e h = record { is = taken_late k s d d.matched (leb-false d.height k e); pairs = short_deep xs xs' h }

  by_answer : (x' : Answer) (xs xs' : List Pair) → Short (cut_answer k x') too_deep xs xs' → Cut k (take s (cut_answer k x')) (take s x') xs xs'
  by_answer too_deep xs xs' h = record { is = refl; pairs = short_deep xs xs' h }
  by_answer (done d) xs xs' h = done_cut d xs xs' (leb d.height k) refl h

  take_cut : {x x' : Answer} {xs xs' : List Pair} → RuleCut k x x' xs xs' → Cut k (take s x) (take s x') xs xs'
  take_cut {x' = x'} {xs = xs} {xs' = xs'} C =
      subst (λ (y : Answer). Short y too_deep xs xs' → Cut k (take s y) (take s x') xs xs') (sym C.is) (by_answer x' xs xs') C.pairs

module _ (k : ℕ) (w : List ℕ) (ask ask' : ℕ → ℕ → Answer) (c c' : ℕ → ℕ → List Pair)
    (A : (r p : ℕ) → RuleCut k (ask r p) (ask' r p) (c r p) (c' r p)) where
  work_cut : (t : Tree) → Cuts k (work w ask t) (work w ask' t) (visited w ask c t) (visited w ask' c' t)
  work_cut (text cs) p s l = spell_cut k w cs p s l
  work_cut (range low high) p s l =
      look_cut k (fits (λ x. leb low x && leb x high) (byte_at w p)) hit (λ q t m. hit_stays k q t [] m) p s l
  work_cut (rule r) p s l = take_cut k s l (A r p)
  work_cut (sequence a b) p s l =
      after_cut k (work w ask b) (work w ask' b) miss miss (visited w ask c b) (visited w ask' c' b) (λ t. []) (λ t. [])
      (work_cut b) (λ t. miss_stays k t []) (work_rises w ask' b) (λ t. omega arith) (work_cut a p s l)
  work_cut (choice a b) p s l =
      after_cut k hit hit (back_to p s.nodes (work w ask b)) (back_to p s.nodes (work w ask' b)) (λ q t. []) (λ q t. [])
      (visited_back_at p s.nodes (visited w ask c b)) (visited_back_at p s.nodes (visited w ask' c' b))
      (λ q t. hit_stays k q t []) (λ t. work_cut b p (left s.nodes t)) (λ q t. omega arith) (λ t. work_rises w ask' b p (left s.nodes t))
      (work_cut a p s l)
  work_cut (repeat a) p s l =
      turns_cut k (suc (length w - p)) (work w ask a) (work w ask' a) (visited w ask c a) (visited w ask' c' a) (work_cut a) (work_rises w ask' a) p s l
  work_cut (ahead a) p s l =
      quiet_cut k (λ q. back_to p s.nodes hit) (λ q. back_to p s.nodes hit) miss miss
      (λ q t. hit_stays k p (left s.nodes t) []) (λ t. miss_stays k t []) (λ q t. omega arith) (λ t. omega arith) (work_cut a p s l)
  work_cut (absent a) p s l =
      quiet_cut k (λ q. miss) (λ q. miss) (back_to p s.nodes hit) (back_to p s.nodes hit)
      (λ q t. miss_stays k t []) (λ t. hit_stays k p (left s.nodes t) []) (λ q t. omega arith) (λ t. omega arith) (work_cut a p s l)
  work_cut (node a) p s l = work_cut a p (made s) l
  work_cut (link a) p s l = work_cut a p s l
  work_cut (fold a) p s l = work_cut a p (made s) l
  work_cut _ p s l = hit_stays k p s [] l

-- Rules.

close_kept : (p : ℕ) (o : Outcome) (d : Reading) → close p o ≡ done d → (v : Bool) → close p (kept v o) ≡ kept_answer v d
close_kept p o d e true = e
close_kept p o d e false = refl

close_cut : (k p : ℕ) (o : Outcome) → close p (cut k o) ≡ cut_answer (suc k) (close p o)
close_cut k p deep = refl
close_cut k p (hit q t) = rw leb-suc-suc (close_kept p (hit q t) _ refl (leb t.height k))
close_cut k p (miss t) = rw leb-suc-suc (close_kept p (miss t) _ refl (leb t.height k))

close_none : (p : ℕ) (o : Outcome) → too_deep ≡ cut_answer 0 (close p o)
close_none p deep = refl
close_none p _ = rw leb-suc-zero

close_short : (r p : ℕ) (o : Outcome) (xs ys : List Pair) → Short o deep xs ys → Short (close p o) too_deep ((r, p) ∷ xs) ((r, p) ∷ ys)
close_short r p o xs ys (inl f) = inl (ap (close p) f.0, front_both ((r, p) ∷ []) xs ys f.1)
close_short r p o xs ys (inr e) = inr (ap (λ (zs : List Pair). (r, p) ∷ zs) e)

read_none : (g : List Tree) (w : List ℕ) (j r p : ℕ) → too_deep ≡ cut_answer 0 (read g w j r p)
read_none g w zero r p = refl
read_none g w (suc j) r p = close_none p (work w (read g w j) (body g r) p (start p))

read_cut : (g : List Tree) (w : List ℕ) (k j : ℕ) → k ≤ j → (r p : ℕ) → RuleCut k (read g w k r p) (read g w j r p) (reached g w k r p) (reached g w j r p)
read_cut g w zero j l r p = record { is = read_none g w j r p; pairs = inl (refl, (reached g w j r p, refl)) }
read_cut g w (suc k) zero l r p = absurd (omega arith)
read_cut g w (suc k) (suc j) l r p =
    let C : Cut k (work w (read g w k) (body g r) p (start p)) (work w (read g w j) (body g r) p (start p))
    (visited w (read g w k) (reached g w k) (body g r) p (start p)) (visited w (read g w j) (reached g w j) (body g r) p (start p)) =
    work_cut k w (read g w k) (read g w j) (reached g w k) (reached g w j) (read_cut g w k j (omega arith)) (body g r) p (start p) (omega arith) in
    record {
      is = ap (close p) C.is ∙ close_cut k p (work w (read g w j) (body g r) p (start p));
      pairs = close_short r p (work w (read g w k) (body g r) p (start p))
          (visited w (read g w k) (reached g w k) (body g r) p (start p)) (visited w (read g w j) (reached g w j) (body g r) p (start p)) C.pairs;
    }

-- What the height says.

module _ (g : List Tree) (w : List ℕ) (k r p : ℕ) (d : Reading) (e : read g w k r p ≡ done d) where
  -- an answer that a budget left whole
  whole : (j : ℕ) (x : Answer) → done d ≡ cut_answer j x → (x ≡ done d) × (d.height ≤ j)
  whole j too_deep c = cc
  whole j (done f) c = elim (cases_lt j f.height) [
    | inl l ↦ cc (lt-leb f.height j l)
    | inr l ↦ grind (arith, le-leb f.height j l)
  ]

  most : d.height ≤ k
  most = (whole k (read g w k r p) (sym e ∙ (read_cut g w k k (omega arith) r p).is)).1

  -- under a smaller budget and under a greater one
  under : (j : ℕ) → j ≤ k → read g w j r p ≡ kept_answer (leb d.height j) d
  under j l = (read_cut g w j k l r p).is ∙ ap (cut_answer j) e

  over : (j : ℕ) → k ≤ j → read g w j r p ≡ done d
  over j l = (whole k (read g w j r p) (sym e ∙ (read_cut g w k j l r p).is)).0

  enough : (j : ℕ) → d.height ≤ j → read g w j r p ≡ done d
  enough j l = elim (cases_lt j k) [ inl m ↦ under j (omega arith) ∙ rw (le-leb d.height j l) | inr m ↦ over j m ]

  short : (j : ℕ) → j < d.height → read g w j r p ≡ too_deep
  short j l = under j (omega (arith, most)) ∙ rw (lt-leb d.height j l)

  least : 1 ≤ d.height
  least = elim (cases_lt 0 d.height) [ inl l ↦ l | inr l ↦ cc (enough 0 l) ]

  -- pairs of a reading that is whole under both budgets
  equal : (i j : ℕ) → i ≤ j → read g w i r p ≡ done d → reached g w i r p ≡ reached g w j r p
  equal i j l f =
      short_whole d (reached g w i r p) (reached g w j r p)
      (rw f at (read_cut g w i j l r p).pairs)

  all_pairs : (j : ℕ) → d.height ≤ j → reached g w j r p ≡ reached g w k r p
  all_pairs j l = elim (cases_lt j k) [ inl m ↦ equal j k (omega arith) (enough j l) | inr m ↦ sym (equal k j m e) ]

  first_pairs : (j : ℕ) → j < d.height → Front (reached g w j r p) (reached g w k r p)
  first_pairs j l = by (read_cut g w j k (omega (arith, most)) r p).pairs
    where
      by : Short (read g w j r p) too_deep (reached g w j r p) (reached g w k r p) → Front (reached g w j r p) (reached g w k r p)
      by (inl f) = f.1
      by (inr i) = rw i ([], sym (append-nil (reached g w k r p)))

  pub budget : Budgeted g w k r p d
  budget = record { least = least; most = most; enough = enough; short = short; all_pairs = all_pairs; first_pairs = first_pairs }
