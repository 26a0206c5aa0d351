-- A property of outcomes that each step of plain reading keeps is one of every expression's outcome.
use Rattle.std.proofs.Common.{◌≡◌, ℕ, zero, suc, ◌-◌, ◌<◌, Bool, true, false, ◌&&◌, eqb, ltb, leb, List, [], ◌∷◌, length, refl, arith}
use Rattle.reading.specs.Tree.{Tree}
use Rattle.reading.specs.Tree.Tree.{text, range, rule, sequence, choice, repeat, ahead, absent, node, link, fold}
use Rattle.reading.specs.Reading.{Progress, Outcome, Answer, Work, byte_at, looked, left, made, fits, look, spell, after, back_to, onward, turns, take, work}
use Rattle.reading.specs.Reading.Outcome.{deep, hit, miss}

-- only a byte of the input fits
pub fits_inside : (w : List ℕ) (p : ℕ) (test : ℕ → Bool) → fits test (byte_at w p) ≡ true → p < length w
fits_inside [] p test e = cc
fits_inside (x ∷ w) zero test e = omega arith
fits_inside (x ∷ w) (suc p) test e = omega (arith, fits_inside w p test e)

-- a property of a position, the progress there, and an outcome
pub record Kept (w : List ℕ) (P : ℕ → Progress → Outcome → Type 0) : Type 0 where
  pub stays : (p : ℕ) (s : Progress) → P p s (hit p s)
  pub found : (p : ℕ) (s : Progress) (o : Outcome) → p < length w → P (suc p) (looked p s) o → P p s o
  pub unfound : (p : ℕ) (s : Progress) → P p s (miss (looked p s))
  pub goes_on : (p q : ℕ) (s t : Progress) (o : Outcome) → P p s (hit q t) → P q t o → P p s o
  pub goes_back : (p : ℕ) (s t : Progress) (o : Outcome) → P p s (miss t) → P p (left s.nodes t) o → P p s o
  pub looks_ahead : (p q : ℕ) (s t : Progress) → P p s (hit q t) → P p s (hit p (left s.nodes t))
  pub is_there : (p q : ℕ) (s t : Progress) → P p s (hit q t) → P p s (miss t)
  pub makes : (p : ℕ) (s : Progress) (o : Outcome) → P p (made s) o → P p s o

module _ (w : List ℕ) (P : ℕ → Progress → Outcome → Type 0) (K : Kept w P) where
  abbrev pub Has : Work → Type 0
  Has f = (p : ℕ) (s : Progress) → P p s (f p s)

  look_has : (f : Work) → Has f → (p : ℕ) (s : Progress) (v : Bool) → (v ≡ true → p < length w) → P p s (look v f p s)
  look_has f F p s true inside = K.found p s (f (suc p) (looked p s)) (inside refl) (F (suc p) (looked p s))
  look_has f F p s false inside = K.unfound p s

  spell_has : (cs : List ℕ) → Has (spell w cs)
  spell_has [] p s = K.stays p s
  spell_has (c ∷ cs) p s =
      look_has (spell w cs) (spell_has cs) p s (fits (λ x. eqb x c) (byte_at w p)) (fits_inside w p (λ x. eqb x c))

  -- what follows a match and what follows no match have the property, and so has the outcome
  after_has : (f : Work) (n : Progress → Outcome) (p : ℕ) (s : Progress) → ((q : ℕ) (t : Progress) → P p s (hit q t) → P p s (f q t))
      → ((t : Progress) → P p s (miss t) → P p s (n t)) → (o : Outcome) → P p s o → P p s (after f n o)
  after_has f n p s F N deep h = h
  after_has f n p s F N (hit q t) h = F q t h
  after_has f n p s F N (miss t) h = N t h

  pub onward_has : (v : Bool) (f : Work) → Has f → Has (onward v f)
  onward_has true f F q t = F q t
  onward_has false f F q t = K.stays q t

  pub turns_has : (m : ℕ) (f : Work) → Has f → Has (turns m f)
  turns_has zero f F p s = K.stays p s
  turns_has (suc m) f F p s =
      after_has (λ q. onward (ltb p q) (turns m f) q) (back_to p s.nodes hit) p s
      (λ q t h. K.goes_on p q s t (onward (ltb p q) (turns m f) q t) h (onward_has (ltb p q) (turns m f) (turns_has m f F) q t))
      (λ t h. K.goes_back p s t (hit p (left s.nodes t)) h (K.stays p (left s.nodes t)))
      _ (F p s)

  module _ (ask : ℕ → ℕ → Answer) (A : (r p : ℕ) (s : Progress) → P p s (take s (ask r p))) where
    pub work_has : (t : Tree) → Has (work w ask t)
    work_has (text cs) p s = spell_has cs p s
    work_has (range low high) p s =
        look_has hit K.stays p s (fits (λ x. leb low x && leb x high) (byte_at w p)) (fits_inside w p (λ x. leb low x && leb x high))
    work_has (rule r) p s = A r p s
    work_has (sequence a b) p s =
        after_has (work w ask b) miss p s (λ q t h. K.goes_on p q s t (work w ask b q t) h (work_has b q t)) (λ t h. h)
        _ (work_has a p s)
    work_has (choice a b) p s =
        after_has hit (back_to p s.nodes (work w ask b)) p s (λ q t h. h)
        (λ t h. K.goes_back p s t (work w ask b p (left s.nodes t)) h (work_has b p (left s.nodes t)))
        _ (work_has a p s)
    work_has (repeat a) p s = turns_has (suc (length w - p)) (work w ask a) (work_has a) p s
    work_has (ahead a) p s =
        after_has (λ q. back_to p s.nodes hit) miss p s (λ q t h. K.looks_ahead p q s t h) (λ t h. h) _ (work_has a p s)
    work_has (absent a) p s =
        after_has (λ q. miss) (back_to p s.nodes hit) p s (λ q t h. K.is_there p q s t h)
        (λ t h. K.goes_back p s t (hit p (left s.nodes t)) h (K.stays p (left s.nodes t)))
        _ (work_has a p s)
    work_has (node a) p s = K.makes p s _ (work_has a p (made s))
    work_has (link a) p s = work_has a p s
    work_has (fold a) p s = K.makes p s _ (work_has a p (made s))
    work_has _ p s = K.stays p s
