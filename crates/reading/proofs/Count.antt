-- Counting different pairs: those of a grammar and an input are no more than rules times positions.
use Rattle.std.proofs.Common.{◌≡◌, ℕ, zero, suc, ◌*◌, ◌<◌, ◌≤◌, true, false, eqb, ◌⊎◌, List, [], ◌∷◌, ◌++◌, length, sym, refl, ap, ◌∙◌, subst, inl, inr, suc-mul, zero-mul, arith, length-append}
use Rattle.std.proofs.lemmas.Bool.{eqb-true, eq-eqb, both_ways, and_parts, or_cases, or_parts, cond_both, cases_eq}
use Rattle.reading.specs.Lists.{In, Apart, Within}
use Rattle.reading.specs.Reached.{Pair, same, among, add, once, different}
use Rattle.reading.specs.ReadingLaws.{InGrid}
use Rattle.reading.proofs.Visits.{in_left, in_right}

same_true : (x y : Pair) → same x y ≡ true → x ≡ y
same_true x y e =
    let v : (eqb x.0 y.0 ≡ true) × (eqb x.1 y.1 ≡ true) = and_parts (eqb x.0 y.0) (eqb x.1 y.1) e in
    λ i. (eqb-true x.0 y.0 v.0 i, eqb-true x.1 y.1 v.1 i)

true_same : (x y : Pair) → x ≡ y → same x y ≡ true
true_same x y e = rw (eq-eqb x.0 y.0 (ap (λ (z : Pair). z.0) e)) (eq-eqb x.1 y.1 (ap (λ (z : Pair). z.1) e))

-- the test tells what is in a list
among_in : (x : Pair) (ys : List Pair) → among x ys ≡ true → In x ys
among_in x [] e = cc
among_in x (y ∷ ys) e = elim (or_cases (same x y) (among x ys) e) [ inl f ↦ inl (same_true x y f) | inr f ↦ inr (among_in x ys f) ]

among_out : (x : Pair) (ys : List Pair) → among x ys ≡ false → In x ys → ⊥
among_out x [] e i = i
among_out x (y ∷ ys) e (inl i) = both_ways (same x y) (or_parts (same x y) (among x ys) e).0 (true_same x y i)
among_out x (y ∷ ys) e (inr i) = among_out x ys (or_parts (same x y) (among x ys) e).1 i

-- Lists in which no pair stands twice.

pub once_apart : (xs : List Pair) → Apart (once xs)
once_apart [] = tt
once_apart (x ∷ xs) =
    let rest : Apart (once xs) = once_apart xs in
    cond_both (among x (once xs)) (once xs) (x ∷ once xs) Apart (λ e. rest) (λ e. (among_out x (once xs) e, rest))

add_from : (x : Pair) (xs : List Pair) → Within (add x xs) (x ∷ xs)
add_from x xs = cond_both (among x xs) xs (x ∷ xs) (λ (zs : List Pair). Within zs (x ∷ xs)) (λ e y i. inr i) (λ e y i. i)

add_in : (x : Pair) (xs : List Pair) → Within (x ∷ xs) (add x xs)
add_in x xs =
    cond_both (among x xs) xs (x ∷ xs) (Within (x ∷ xs)) (λ e y i. elim i [ inl f ↦ rw f (among_in x xs e) | inr j ↦ j ]) (λ e y i. i)

-- the same pairs stand in it
pub once_from : (xs : List Pair) → Within (once xs) xs
once_from [] y i = i
once_from (x ∷ xs) y i = elim (add_from x (once xs) y i) [ inl j ↦ inl j | inr j ↦ inr (once_from xs y j) ]

pub once_in : (xs : List Pair) → Within xs (once xs)
once_in [] y i = i
once_in (x ∷ xs) y (inl i) = add_in x (once xs) y (inl i)
once_in (x ∷ xs) y (inr i) = add_in x (once xs) y (inr (once_in xs y i))

-- a list without one of its pairs
record Cut (x : Pair) (ys : List Pair) : Type 0 where
  rest : List Pair
  longer : length ys ≡ suc (length rest)
  other : (y : Pair) → In y ys → (y ≡ x) ⊎ In y rest

cut : (x : Pair) (ys : List Pair) → In x ys → Cut x ys
cut x [] i = absurd i
cut x (y ∷ ys) (inl e) = record { rest = ys; longer = refl; other = λ z j. elim j [ inl f ↦ inl (f ∙ sym e) | inr k ↦ inr k ] }
cut x (y ∷ ys) (inr i) =
    let c : Cut x ys = cut x ys i in
    record {
      rest = y ∷ c.rest;
      longer = ap suc c.longer;
      other = λ z j. elim j [ inl f ↦ inr (inl f) | inr k ↦ elim (c.other z k) [ inl f ↦ inl f | inr l ↦ inr (inr l) ] ];
    }

-- pairs that are apart are no more than the pairs that they are among
pub apart_length : (zs ys : List Pair) → Apart zs → Within zs ys → length zs ≤ length ys
apart_length [] ys d h = omega arith
apart_length (z ∷ zs) ys d h =
    let c : Cut z ys = cut z ys (h z (inl refl)) in
    let less : length zs ≤ length c.rest =
    apart_length zs c.rest d.1
    (λ y i. elim (c.other y (h y (inr i))) [ inl e ↦ absurd (d.0 (subst (λ (u : Pair). In u zs) e i)) | inr j ↦ j ]) in
    omega (arith, c.longer)

pub different_most : (xs ys : List Pair) → Within xs ys → different xs ≤ length ys
different_most xs ys h = apart_length (once xs) ys (once_apart xs) (λ x i. h x (once_from xs x i))

pub different_least : (zs xs : List Pair) → Apart zs → Within zs xs → length zs ≤ different xs
different_least zs xs d h = apart_length zs (once xs) d (λ x i. once_in xs x (h x i))

-- All pairs of m rules and n positions.

row : ℕ → ℕ → List Pair
row r zero = []
row r (suc n) = (r, n) ∷ row r n

grid : ℕ → ℕ → List Pair
grid zero n = []
grid (suc m) n = row m n ++ grid m n

row_length : (r n : ℕ) → length (row r n) ≡ n
unfolding row
row_length r zero = refl
row_length r (suc n) = ap suc (row_length r n)

grid_length : (m n : ℕ) → length (grid m n) ≡ m * n
unfolding grid
grid_length zero n = sym (zero-mul n)
grid_length (suc m) n = omega (arith, length-append (row m n) (grid m n), row_length m n, grid_length m n, suc-mul m n)

in_row : (r n : ℕ) (x : Pair) → x.0 ≡ r → x.1 < n → In x (row r n)
unfolding row
in_row r zero x e l = absurd (omega arith)
in_row r (suc n) x e l = elim (cases_eq x.1 n) [ inl f ↦ inl (λ i. (e i, f i)) | inr f ↦ inr (in_row r n x e (omega arith)) ]

in_all : (m n : ℕ) (x : Pair) → x.0 < m → x.1 < n → In x (grid m n)
unfolding grid
in_all zero n x l k = absurd (omega arith)
in_all (suc m) n x l k =
    elim (cases_eq x.0 m) [
      | inl f ↦ in_left x (row m n) (grid m n) (in_row m n x f k)
      | inr f ↦ in_right x (row m n) (grid m n) (in_all m n x (omega arith) k)
    ]

pub different_grid : (m n : ℕ) (xs : List Pair) → ((x : Pair) → In x xs → InGrid m n x) → different xs ≤ m * suc n
different_grid m n xs h =
    let l : different xs ≤ length (grid m (suc n)) =
    different_most xs (grid m (suc n)) (λ x i. in_all m (suc n) x (h x i).0 (omega (arith, (h x i).1))) in
    omega (arith, grid_length m (suc n))
