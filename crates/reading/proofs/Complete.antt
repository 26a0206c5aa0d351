-- What the relation derives, plain reading comes to under every budget that is high enough.
use Rattle.std.proofs.Common.{◌≡◌, ℕ, zero, suc, ◌-◌, ◌<◌, ◌≤◌, max, Bool, true, false, ◌&&◌, eqb, ltb, leb, List, [], ◌∷◌, length, Some, refl, ap, ◌∙◌, inl, inr, arith}
use Rattle.std.proofs.lemmas.Bool.{eqb-true, eq-eqb, leb-true, le-leb, lt-ltb, le-ltb, cases_lt, and_parts, and_from}
use Rattle.std.proofs.lemmas.Option.{slice_get_within}
use Rattle.reading.specs.Tree.{Tree, body}
use Rattle.reading.specs.Reading.{Progress, Outcome, Work, cap, byte_at, looked, left, made, start, fits, look, spell, after, back_to, onward, turns, take, work, close, read}
use Rattle.reading.specs.Reading.Outcome.{hit, miss}
use Rattle.reading.specs.Semantics.{Came, Comes, behind, closed}
use Rattle.reading.specs.Semantics.Came.{matched, failed}
use Rattle.reading.proofs.Positions.{Stayed, part_stays, part_ends}
use Rattle.reading.proofs.Moves.{Moves, Moving}
use Rattle.reading.proofs.Sound.{Grown, stay, grow_on, look_grown, made_grown, back_grown, Fits, fitting}

-- an outcome is what the relation says, behind the progress s
abbrev pub Agrees : Progress → Came → Outcome → Type 0
Agrees s (matched q h l n) (hit r u) = (r ≡ q) × Grown s u h l n
Agrees s (failed h l) (miss u) = (u.height ≡ max s.height h) × (u.reach ≡ max s.reach l)
Agrees s _ _ = ⊥

abbrev pub height_of : Came → ℕ
height_of (matched q h l n) = h
height_of (failed h l) = h

behind_height : (h l n : ℕ) (x : Came) → height_of (behind h l n x) ≡ max h (height_of x)
behind_height h l n (matched q h' l' n') = refl
behind_height h l n (failed h' l') = refl

pub closed_height : (p : ℕ) (x : Came) → height_of (closed p x) ≡ suc (height_of x)
closed_height p (matched q h l n) = refl
closed_height p (failed h l) = refl

-- a part came before
agrees_behind : {s u : Progress} {h l n : ℕ} → Grown s u h l n → (x : Came) (o : Outcome) → Agrees u x o → Agrees s (behind h l n x) o
agrees_behind {s = s} {u = u} {h = h} {l = l} {n = n} G (matched q h' l' n') (hit r v) E = (E.0, grow_on s u v h l n h' l' n' G E.1)
agrees_behind G (failed h' l') (miss v) E = (omega arith, omega arith)
agrees_behind G _ _ E = absurd E

close_agrees : (p : ℕ) (s : Progress) (x : Came) (o : Outcome) → Agrees (start p) x o → Agrees s (closed p x) (take s (close p o))
close_agrees p s (matched q h l n) (hit r u) E = (E.0, record { height = omega arith; reach = omega arith; nodes = omega arith })
close_agrees p s (failed h l) (miss u) E = (omega arith, omega arith)
close_agrees p s _ _ E = absurd E

-- More turns than there are bytes left make no difference.

onward_same : (p q : ℕ) (u : Progress) (f g : Work) → (p < q → f q u ≡ g q u) → onward (ltb p q) f q u ≡ onward (ltb p q) g q u
onward_same p q u f g e = elim (cases_lt p q) [ inl l ↦ rw (lt-ltb p q l) (e l) | inr l ↦ rw (le-ltb p q l) ]

turns_same : (n : ℕ) (f : Work) → ((p : ℕ) (s : Progress) → p ≤ n → Stayed n p s (f p s))
    → (m m' p : ℕ) (s : Progress) → p ≤ n → n - p < m → n - p < m' → turns m f p s ≡ turns m' f p s
turns_same n f S zero m' p s l h h' = absurd (omega arith)
turns_same n f S (suc m) zero p s l h h' = absurd (omega arith)
turns_same n f S (suc m) (suc m') p s l h h' =
    by (f p s) (S p s l) (λ q u i j. turns_same n f S m m' q u j (omega arith) (omega arith))
  where
    by : (o : Outcome) → Stayed n p s o → ((q : ℕ) (u : Progress) → p < q → q ≤ n → turns m f q u ≡ turns m' f q u)
        → after (λ q. onward (ltb p q) (turns m f) q) (back_to p s.nodes hit) o ≡ after (λ q. onward (ltb p q) (turns m' f) q) (back_to p s.nodes hit) o
    by (hit q u) Y e = onward_same p q u (turns m f) (turns m' f) (λ i. e q u i Y.ends)
    by _ Y e = refl

module _ (g : List Tree) (w : List ℕ) (M : (r : ℕ) → Moving g (body g r)) where
  -- t at p comes to x under every budget that is high enough
  abbrev pub Full : Tree → ℕ → Came → Type 0
  Full t p x = (k : ℕ) (s : Progress) → height_of x ≤ k → p ≤ length w → s.nodes ≤ cap → Agrees s x (work w (read g w k) t p s)

  -- Leaves: what is found at the position decides.

  found : (test : ℕ → Bool) (f : Work) (p x : ℕ) (s : Progress) → byte_at w p ≡ Some x → test x ≡ true
      → look (fits test (byte_at w p)) f p s ≡ f (suc p) (looked p s)
  found test f p x s e i = ap (λ (v : Bool). look v f p s) (ap (fits test) e ∙ i)

  unfound : (test : ℕ → Bool) (f : Work) (p : ℕ) (s : Progress) → ((x : ℕ) → byte_at w p ≡ Some x → test x ≡ true → ⊥)
      → look (fits test (byte_at w p)) f p s ≡ miss (looked p s)
  unfound test f p s e = by (fits test (byte_at w p)) refl
    where
      by : (v : Bool) → fits test (byte_at w p) ≡ v → look v f p s ≡ miss (looked p s)
      by true i = let F : Fits [] w test p = fitting [] w test p i in absurd (e F.byte F.there F.passes)
      by false i = refl

  text_same_full : (b p : ℕ) (cs : List ℕ) (x : Came) → byte_at w p ≡ Some b → Full (Tree.text cs) (suc p) x
      → Full (Tree.text (b ∷ cs)) p (behind 0 (suc p) 0 x)
  text_same_full b p cs x e F k s h l c =
      rw (found (λ y. eqb y b) (spell w cs) p b s e (eq-eqb b b refl))
      (agrees_behind (look_grown p s c) x _
      (F k (looked p s) (omega (arith, behind_height 0 (suc p) 0 x)) (slice_get_within w p b e) c))

  missed : (t : Tree) (p : ℕ) (k : ℕ) (s : Progress) → work w (read g w k) t p s ≡ miss (looked p s) → Agrees s (failed 0 (suc p)) (work w (read g w k) t p s)
  missed t p k s e = rw e (omega arith, refl)

  range_in_full : (low high p b : ℕ) → byte_at w p ≡ Some b → low ≤ b → b ≤ high → Full (Tree.range low high) p (matched (suc p) 0 (suc p) 0)
  range_in_full low high p b e i j k s h l c =
      rw (found (λ y. leb low y && leb y high) hit p b s e (and_from (leb low b) (leb b high) (le-leb low b i) (le-leb b high j)))
      (refl, look_grown p s c)

  range_out_full : (low high p : ℕ) → ((x : ℕ) → byte_at w p ≡ Some x → low ≤ x → x ≤ high → ⊥) → Full (Tree.range low high) p (failed 0 (suc p))
  range_out_full low high p e k s h l c =
      missed (Tree.range low high) p k s (unfound (λ y. leb low y && leb y high) hit p s
      (λ x i t. let v = and_parts (leb low x) (leb x high) t in e x i (leb-true low x v.0) (leb-true x high v.1)))

  -- Rules: a budget is left for the body.

  rule_full : (r p : ℕ) (x : Came) → Full (body g r) p x → Full (Tree.rule r) p (closed p x)
  rule_full r p x F zero s h l c = absurd (omega (arith, closed_height p x))
  rule_full r p x F (suc k) s h l c =
      close_agrees p s x _ (F k (start p) (omega (arith, closed_height p x)) l (omega arith))

  -- Expressions: the part's outcome is known, and what follows it.

  behind_match : (f : Work) (n : Progress → Outcome) (q : ℕ) (s : Progress) (h l m : ℕ) (x : Came) (o : Outcome) → Agrees s (matched q h l m) o
      → ((u : Progress) → o ≡ hit q u → Grown s u h l m → Agrees s x (f q u)) → Agrees s x (after f n o)
  behind_match f n q s h l m x (hit r u) E F = rw E.0 (F u (ap (λ (v : ℕ). hit v u) E.0) E.1)
  behind_match f n q s h l m x _ E F = absurd E

  behind_fail : (f : Work) (n : Progress → Outcome) (s : Progress) (h l : ℕ) (x : Came) (o : Outcome) → Agrees s (failed h l) o
      → ((u : Progress) → (u.height ≡ max s.height h) × (u.reach ≡ max s.reach l) → Agrees s x (n u)) → Agrees s x (after f n o)
  behind_fail f n s h l x (miss u) E N = N u E
  behind_fail f n s h l x _ E N = absurd E

  sequence_full : (a b : Tree) (p q h l n : ℕ) (x : Came) → Full a p (matched q h l n) → Full b q x → Full (Tree.sequence a b) p (behind h l n x)
  sequence_full a b p q h l n x A B k s i j c =
      behind_match (work w (read g w k) b) miss q s h l n (behind h l n x) (work w (read g w k) a p s) (A k s (omega (arith, behind_height h l n x)) j c)
      (λ u e G. agrees_behind G x _
      (B k u (omega (arith, behind_height h l n x)) (part_ends g w k a p s q u j e) (omega arith)))

  choice_second_full : (a b : Tree) (p h l : ℕ) (x : Came) → Full a p (failed h l) → Full b p x → Full (Tree.choice a b) p (behind h l 0 x)
  choice_second_full a b p h l x A B k s i j c =
      behind_fail hit (back_to p s.nodes (work w (read g w k) b)) s h l (behind h l 0 x) (work w (read g w k) a p s) (A k s (omega (arith, behind_height h l 0 x)) j c)
      (λ u E. agrees_behind (back_grown s u h l c E.0 E.1) x _
      (B k (left s.nodes u) (omega (arith, behind_height h l 0 x)) j c))

  repeat_full : (a : Tree) (p q h l n : ℕ) (x : Came) → Moves g a → Full a p (matched q h l n) → Full (Tree.repeat a) q x → Full (Tree.repeat a) p (behind h l n x)
  repeat_full a p q h l n x m A B k s i j c =
      behind_match (λ r. onward (ltb p r) (turns (length w - p) part) r) (back_to p s.nodes hit) q s h l n (behind h l n x) (part p s)
      (A k s (omega (arith, behind_height h l n x)) j c) next
    where
      part : Work
      part = work w (read g w k) a

      next : (u : Progress) → part p s ≡ hit q u → Grown s u h l n → Agrees s (behind h l n x) (onward (ltb p q) (turns (length w - p) part) q u)
      next u e G =
          let moved : p < q = m w k p s q u j e in
          let in-input : q ≤ length w = part_ends g w k a p s q u j e in
          let same : turns (length w - p) part q u ≡ turns (suc (length w - q)) part q u =
          turns_same (length w) part (part_stays g w k a) (length w - p) (suc (length w - q)) q u in-input (omega arith) (omega arith) in
          rw (lt-ltb p q moved, same)
          (agrees_behind G x _
          (B k u (omega (arith, behind_height h l n x)) in-input (omega arith)))

  -- a node is counted before its part
  made_full : (a : Tree) (p : ℕ) (x : Came) → Full a p x → (k : ℕ) (s : Progress) → height_of (behind 0 0 1 x) ≤ k → p ≤ length w → s.nodes ≤ cap
      → Agrees s (behind 0 0 1 x) (work w (read g w k) a p (made s))
  made_full a p x F k s h l c =
      agrees_behind (made_grown s c) x _
      (F k (made s) (omega (arith, behind_height 0 0 1 x)) l (omega arith))

  pub complete : {t : Tree} {p : ℕ} {x : Came} → Comes g w t p x → Moving g t → Full t p x
  complete Comes.empty N k s h l c = (refl, stay s c)
  complete Comes.tag N k s h l c = (refl, stay s c)
  complete Comes.text_end N k s h l c = (refl, stay s c)
  complete (Comes.text_same {c = b} {p = p} {cs = cs} {x = x} e D) N k s h l c = text_same_full b p cs x e (complete D tt) k s h l c
  complete (Comes.text_other {c = b} {p = p} {cs = cs} e) N k s h l c =
      missed (Tree.text (b ∷ cs)) p k s (unfound (λ y. eqb y b) (spell w cs) p s (λ x i t. e (i ∙ ap Some (eqb-true x b t))))
  complete (Comes.range_in {low = low} {high = high} {p = p} {c = b} e i j) N k s h l c = range_in_full low high p b e i j k s h l c
  complete (Comes.range_out {low = low} {high = high} {p = p} e) N k s h l c = range_out_full low high p e k s h l c
  complete (Comes.rule {r = r} {p = p} {x = x} D) N k s h l c = rule_full r p x (complete D (M r)) k s h l c
  complete (Comes.sequence_fails {b = b} {h = i} {l = j} D) N k s h l c =
      behind_fail (work w (read g w k) b) miss s _ _ (failed i j) _ (complete D N.0 k s h l c) (λ u E. E)
  complete (Comes.sequence {a = a} {b = b} {p = p} {q = q} {h = i} {l = j} {n = n} {x = x} D E) N k s h l c =
      sequence_full a b p q i j n x (complete D N.0) (complete E N.1) k s h l c
  complete (Comes.choice_first {b = b} {p = p} {q = q} {h = i} {l = j} {n = n} D) N k s h l c =
      behind_match hit (back_to p s.nodes (work w (read g w k) b)) _ s _ _ _ (matched q i j n) _ (complete D N.0 k s h l c) (λ u e G. (refl, G))
  complete (Comes.choice_second {a = a} {b = b} {p = p} {h = i} {l = j} {x = x} D E) N k s h l c =
      choice_second_full a b p i j x (complete D N.0) (complete E N.1) k s h l c
  complete (Comes.repeat_ends {a = a} {p = p} {h = i} {l = j} D) N k s h l c =
      behind_fail (λ r. onward (ltb p r) (turns (length w - p) (work w (read g w k) a)) r) (back_to p s.nodes hit) s _ _ (matched p i j 0) _
      (complete D N.1 k s h l c) (λ u E. (refl, back_grown s u i j c E.0 E.1))
  complete (Comes.repeat {a = a} {p = p} {q = q} {h = i} {l = j} {n = n} {x = x} D E) N k s h l c =
      repeat_full a p q i j n x N.0 (complete D N.1) (complete E N) k s h l c
  complete (Comes.ahead {p = p} {h = i} {l = j} D) N k s h l c =
      behind_match (λ r. back_to p s.nodes hit) miss _ s _ _ _ (matched p i j 0) _ (complete D N k s h l c)
      (λ u e G. (refl, back_grown s u i j c G.height G.reach))
  complete (Comes.ahead_fails {p = p} {h = i} {l = j} D) N k s h l c =
      behind_fail (λ r. back_to p s.nodes hit) miss s _ _ (failed i j) _ (complete D N k s h l c) (λ u E. E)
  complete (Comes.absent {p = p} {h = i} {l = j} D) N k s h l c =
      behind_fail (λ r. miss) (back_to p s.nodes hit) s _ _ (matched p i j 0) _ (complete D N k s h l c)
      (λ u E. (refl, back_grown s u i j c E.0 E.1))
  complete (Comes.absent_fails {p = p} {h = i} {l = j} D) N k s h l c =
      behind_match (λ r. miss) (back_to p s.nodes hit) _ s _ _ _ (failed i j) _ (complete D N k s h l c) (λ u e G. (G.height, G.reach))
  complete (Comes.node {a = a} {p = p} {x = x} D) N k s h l c = made_full a p x (complete D N) k s h l c
  complete (Comes.link D) N k s h l c = complete D N k s h l c
  complete (Comes.fold {a = a} {p = p} {x = x} D) N k s h l c = made_full a p x (complete D N) k s h l c
