-- No record is nested deeper than there are records from it on, so that one more fits.
use Rattle.std.proofs.Common.{◌≡◌, ℕ, zero, suc, ◌+◌, ◌-◌, ◌≤◌, List, [], ◌∷◌, length, get_or, replicate, arith}
use Rattle.std.specs.List.{All}
use Rattle.std.proofs.lemmas.List.Elements.{All-replicate, All-set, All-tail, All-weaker}
use Rattle.form.specs.declared.expr.Expr.{Expr}
use Rattle.form.specs.Records.{at, parts}
use Rattle.form.specs.Tables.{deepest, filled}
use Rattle.nesting.specs.Nesting.{one_more}

-- every entry is at most d
abbrev Most : ℕ → List ℕ → Type 0
Most d t = All (λ x. x ≤ d) t

most_at : (d a : ℕ) (t : List ℕ) → Most d t → get_or t a 0 ≤ d
most_at d a [] h = omega arith
most_at d zero (x ∷ t) h = h zero 0 (omega arith)
most_at d (suc a) (x ∷ t) h = most_at d a t (All-tail (λ y. y ≤ d) x t h)

deepest_most : (d : ℕ) (t : List ℕ) → Most d t → (ps : List ℕ) → deepest t ps ≤ d
deepest_most d t h [] = omega arith
deepest_most d t h (a ∷ rest) = omega (arith, most_at d a t h, deepest_most d t h rest)

nesting_most : (es : List Expr) (n d : ℕ) (t : List ℕ) → Most d t → one_more es n t ≤ d + 1
nesting_most es n d t h = omega (arith, deepest_most d t h (parts (at es n)))

-- where each entry is at most one more than those behind it
filled_most : (f : ℕ → List ℕ → ℕ) → ((n d : ℕ) (t : List ℕ) → Most d t → f n t ≤ d + 1)
    → (n k m : ℕ) → Most k (filled f n k (replicate m 0))
filled_most f grows n zero m =
    All-replicate (λ x. x ≤ 0) m 0 (omega arith)
filled_most f grows n (suc k) m =
    let behind = filled_most f grows (n + 1) k m in
    All-set (λ x. x ≤ suc k) _ n _ (omega (arith, grows n k _ behind)) (All-weaker (λ x. x ≤ k) (λ x. x ≤ suc k) (λ x le. omega arith) _ behind)

-- the table as it is when the records from n on are filled
pub deepest_fits : (es : List Expr) (n : ℕ) (t u ps : List ℕ) → t ≡ replicate (length es) 0
    → u ≡ filled (one_more es) n (length es - n) t → deepest u ps ≤ length es - n
deepest_fits es n t u ps et eu =
    rw (eu, et) (deepest_most (length es - n) _ (filled_most (one_more es) (nesting_most es) n (length es - n) (length es)) ps)
