-- In: something stands in a list. Within: all of one list stands in another. Apart: nothing stands twice.
-- Front: one list is the beginning of another. Exactly: so many things have a property.
use Rattle.std.specs.Prelude.{◌≡◌, ℕ, ◌⊎◌, List, [], ◌∷◌, ◌++◌, length}

abbrev pub In : {A : Type 0} → A → List A → Type 0
In x [] = ⊥
In x (y ∷ ys) = (x ≡ y) ⊎ In x ys

abbrev pub Within : {A : Type 0} → List A → List A → Type 0
Within {A} xs ys = (x : A) → In x xs → In x ys

abbrev pub Apart : {A : Type 0} → List A → Type 0
Apart [] = Unit {0}
Apart (x ∷ xs) = (In x xs → ⊥) × Apart xs

abbrev pub Front : {A : Type 0} → List A → List A → Type 0
Front {A} xs ys = (rest : List A) × (ys ≡ xs ++ rest)

pub record Exactly {A : Type 0} (n : ℕ) (P : A → Type 0) : Type 0 where
  pub all : List A
  pub count : length all ≡ n
  pub apart : Apart all
  pub each : (x : A) → In x all → P x
  pub only : (x : A) → P x → In x all
