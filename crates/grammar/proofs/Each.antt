-- One turn of a loop that reads items: those in hand, and what is still to be read, come to the same.
use Rattle.std.proofs.Common.{◌≡◌, ℕ, suc, ◌+◌, ◌-◌, ◌*◌, ◌<◌, ◌≤◌, List, [], ◌∷◌, ◌++◌, length, drop, Ok, Err, Result, refl, ap, ◌∙◌, append_assoc, length-drop, arith}
use Rattle.std.proofs.lemmas.List.{append-nil}
use Rattle.form.specs.declared.fault.Fault.{Fault}
use Rattle.form.specs.Faults.{and_then}
use Rattle.form.specs.Verdict.{each}

-- the items in hand before those that come
abbrev pub behind : {A : Type 0} → List A → Result (List A) Fault → Result (List A) Fault
behind seen (Ok xs) = Ok (seen ++ xs)
behind seen (Err f) = Err f

one_less : (count n : ℕ) → n < count → count - n ≡ suc (count - (n + 1))
one_less count n more = omega arith

-- the bytes that are left are those of the items that are left
pub bytes_left : (size count n : ℕ) (bs rest : List ℕ) → n < count → length bs ≡ (count - n) * size → rest ≡ drop size bs
    → length rest ≡ (count - (n + 1)) * size
bytes_left size count n bs rest more h d = rw (d, length-drop size bs, h, one_less count n more) (omega arith)

module _ {A : Type 0} (one : ℕ → List ℕ → Result A Fault) (size count n : ℕ) (seen : List A) (bs : List ℕ) (d : Result (List A) Fault)
    (same : behind seen (each one size (count - n) n bs) ≡ d) where
  join : (x : A) (r : Result (List A) Fault) → behind (seen ++ x ∷ []) r ≡ behind seen (and_then r (λ xs. Ok (x ∷ xs)))
  join x (Ok xs) = ap Ok (append_assoc seen (x ∷ []) xs)
  join x (Err f) = refl

  pub one_read : (x : A) → Ok x ≡ one n bs → n < count → (rest : List ℕ) → rest ≡ drop size bs → (grown : List A) → grown ≡ seen ++ x ∷ []
      → behind grown (each one size (count - (n + 1)) (n + 1) rest) ≡ d
  one_read x q more rest r grown g =
      rw (r, g) (join x (each one size (count - (n + 1)) (n + 1) (drop size bs)) ∙ rw (one_less count n more, ← q) at same)

  pub one_at_fault : (f : Fault) → Err f ≡ one n bs → n < count → Err f ≡ d
  one_at_fault f q more = rw (one_less count n more, ← q) at same

  pub none_left : count ≤ n → Ok seen ≡ d
  none_left end = let z : count - n ≡ 0 = omega arith in rw (z, append-nil seen) at same
