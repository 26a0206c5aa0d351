-- Marks that only grow are at rest after as many turns as there are places for them.
use Rattle.std.proofs.Common.{◌≡◌, ℕ, zero, suc, ◌+◌, ◌<◌, ◌≤◌, Bool, true, false, ◌⊎◌, List, [], ◌∷◌, length, sym, refl, ap, inl, inr, arith}
use Rattle.std.proofs.lemmas.Bool.{true≢false}
use Rattle.form.specs.Tables.{marked, turns}

pub turns_keep : {A : Type 0} (f : A → A) (P : A → Type 0) → ((v : A) → P v → P (f v)) → (k : ℕ) (v : A) → P v → P (turns f k v)
turns_keep f P F zero v p = p
turns_keep f P F (suc k) v p = F (turns f k v) (turns_keep f P F k v p)

pub record Grown (v w : List Bool) : Type 0 where
  pub long : length w ≡ length v
  pub more : (j : ℕ) → marked v j ≡ true → marked w j ≡ true

abbrev unmarked : List Bool → ℕ
unmarked [] = 0
unmarked (true ∷ v) = unmarked v
unmarked (false ∷ v) = suc (unmarked v)

unmarked_le : (v : List Bool) → unmarked v ≤ length v
unmarked_le [] = omega arith
unmarked_le (true ∷ v) = omega (arith, unmarked_le v)
unmarked_le (false ∷ v) = omega (arith, unmarked_le v)

tail : (x y : Bool) (v w : List Bool) → Grown (x ∷ v) (y ∷ w) → Grown v w
tail x y v w g = record { long = omega (arith, g.long); more = λ j. g.more (suc j) }

-- fewer are unmarked, or nothing changed
fewer : (v w : List Bool) → Grown v w → (unmarked w < unmarked v) ⊎ (w ≡ v)
fewer [] [] g = inr refl
fewer [] (y ∷ w) g = absurd (omega (arith, g.long))
fewer (x ∷ v) [] g = absurd (omega (arith, g.long))
fewer (true ∷ v) (true ∷ w) g = elim (fewer v w (tail true true v w g)) [ inl h ↦ inl h | inr h ↦ inr (ap (λ t. true ∷ t) h) ]
fewer (true ∷ v) (false ∷ w) g = absurd (true≢false (sym (g.more 0 refl)))
fewer (false ∷ v) (true ∷ w) g =
    elim (fewer v w (tail false true v w g)) [ inl h ↦ inl (omega arith) | inr h ↦ inl (omega (arith, ap unmarked h)) ]
fewer (false ∷ v) (false ∷ w) g =
    elim (fewer v w (tail false false v w g)) [ inl h ↦ inl (omega arith) | inr h ↦ inr (ap (λ t. false ∷ t) h) ]

module _ (f : List Bool → List Bool) (grows : (v : List Bool) → Grown v (f v)) where
  -- each turn marks one more, until one marks none
  slower : (k : ℕ) (v : List Bool) → (unmarked (turns f k v) + k ≤ unmarked v) ⊎ (f (turns f k v) ≡ turns f k v)
  slower zero v = inl (omega arith)
  slower (suc k) v = elim (slower k v) [
    | inr e ↦ inr (ap f e)
    | inl h ↦ elim (fewer (turns f k v) (f (turns f k v)) (grows (turns f k v))) [ inl l ↦ inl (omega arith) | inr e ↦ inr (ap f e) ]
  ]

  pub at_rest : (k : ℕ) (v : List Bool) → length v ≤ k → f (turns f k v) ≡ turns f k v
  at_rest k v h = elim (slower k v) [
    | inr e ↦ e
    | inl s ↦ elim (fewer (turns f k v) (f (turns f k v)) (grows (turns f k v))) [ inl l ↦ absurd (omega (arith, unmarked_le v)) | inr e ↦ e ]
  ]
