-- What stands in a table that was filled from its last entry to its first.
use Rattle.std.proofs.Common.{◌≡◌, ℕ, zero, suc, ◌+◌, ◌<◌, ◌≤◌, ◌≢◌, List, [], ◌∷◌, length, get_or, set, replicate, sym, refl, ◌∙◌, inl, inr, arith, length-set, get_or-set_other, get_or-set_same}
use lib.ListN.{length-replicate}
use Rattle.std.proofs.lemmas.Bool.{cases_eq}
use Rattle.form.specs.Records.{at, parts, Later, Ordered}
use Rattle.form.specs.Tables.{filled, record_table}
use Rattle.form.specs.declared.expr.Expr.{Expr}

-- what each entry has, and the new one, each entry has after a write
set_all : {A : Type 0} (d : A) (P : ℕ → A → Type 0) (t : List A) (n : ℕ) (x : A) → ((j : ℕ) → P j (get_or t j d)) → P n x
    → (j : ℕ) → P j (get_or (set t n x) j d)
set_all d P [] n x h p j = h j
set_all d P (y ∷ t) zero x h p zero = p
set_all d P (y ∷ t) zero x h p (suc j) = h (suc j)
set_all d P (y ∷ t) (suc n) x h p zero = h 0
set_all d P (y ∷ t) (suc n) x h p (suc j) = set_all d (λ i. P (suc i)) t n x (λ i. h (suc i)) p j

module _ {A : Type 0} (d : A) (f : ℕ → List A → A) where
  pub filled_length : (n k : ℕ) (t : List A) → length (filled f n k t) ≡ length t
  filled_length n zero t = refl
  filled_length n (suc k) t = length-set (filled f (n + 1) k t) n (f n (filled f (n + 1) k t)) ∙ filled_length (n + 1) k t

  -- entry e comes from a table that behind e is as the whole one
  pub filled_at : (n k : ℕ) (t : List A) (e : ℕ) → n ≤ e → e < n + k → n + k ≤ length t
      → (u : List A) × (get_or (filled f n k t) e d ≡ f e u) × ((j : ℕ) → e < j → get_or u j d ≡ get_or (filled f n k t) j d)
  filled_at n zero t e low high fits = absurd (omega arith)
  filled_at n (suc k) t e low high fits =
      let u : List A = filled f (n + 1) k t in
      elim (cases_eq e n) [
        | inl same ↦
            let l : n < length u = omega (arith, filled_length (n + 1) k t) in (
              u,
              rw same (get_or-set_same u n (f n u) d l),
              λ j lt. let ne : j ≢ n = omega arith in sym (get_or-set_other u n j (f n u) d ne),
            )
        | inr ne ↦
            let i = filled_at (n + 1) k t e (omega arith) (omega arith) (omega arith) in (
              i.0,
              get_or-set_other u n e (f n u) d ne ∙ i.1,
              λ j lt. let ne' : j ≢ n = omega arith in i.2 j lt ∙ sym (get_or-set_other u n j (f n u) d ne'),
            )
      ]

  -- entries before the first that is worked out stay
  filled_before : (n k : ℕ) (t : List A) (e : ℕ) → e < n → get_or (filled f n k t) e d ≡ get_or t e d
  filled_before n zero t e l = refl
  filled_before n (suc k) t e l =
      let ne : e ≢ n = omega arith in
      get_or-set_other (filled f (n + 1) k t) n e _ d ne ∙ filled_before (n + 1) k t e (omega arith)

  -- where an entry comes from what stood in its own place, each is worked out from the table at first
  pub filled_own : ((n : ℕ) (t u : List A) → get_or t n d ≡ get_or u n d → f n t ≡ f n u)
      → (n k : ℕ) (t : List A) (e : ℕ) → n ≤ e → e < n + k → n + k ≤ length t → get_or (filled f n k t) e d ≡ f e t
  filled_own own n zero t e low high fits = absurd (omega arith)
  filled_own own n (suc k) t e low high fits =
      let u : List A = filled f (n + 1) k t in
      elim (cases_eq e n) [
        | inl same ↦
            let l : n < length u = omega (arith, filled_length (n + 1) k t) in
            rw same (get_or-set_same u n (f n u) d l ∙ own n u t (filled_before (n + 1) k t n (omega arith)))
        | inr ne ↦ get_or-set_other u n e (f n u) d ne ∙ filled_own own (n + 1) k t e (omega arith) (omega arith) (omega arith)
      ]

  -- what each entry has at first, and each that is worked out, each has in the end
  pub filled_all : (P : ℕ → A → Type 0) → ((n : ℕ) (t : List A) → ((j : ℕ) → P j (get_or t j d)) → P n (f n t))
      → (n k : ℕ) (t : List A) → ((j : ℕ) → P j (get_or t j d)) → (j : ℕ) → P j (get_or (filled f n k t) j d)
  filled_all P F n zero t h = h
  filled_all P F n (suc k) t h =
      let u : List A = filled f (n + 1) k t in
      let i : (j : ℕ) → P j (get_or u j d) = filled_all P F (n + 1) k t h in
      set_all d P u n (f n u) i (F n u i)

module _ {A : Type 0} (d : A) (by : List A → Expr → A) where
  -- an entry depends on no entries but those of later records
  abbrev pub Local : Type 0
  Local = (t u : List A) (k n : ℕ) (x : Expr) → Later k n (parts x) → ((j : ℕ) → k < j → get_or t j d ≡ get_or u j d) → by t x ≡ by u x

  pub table_length : (es : List Expr) → length (record_table d by es) ≡ length es
  unfolding record_table
  table_length es = filled_length d (λ e t. by t (at es e)) 0 (length es) (replicate (length es) d) ∙ length-replicate (length es) d

  -- each entry is what its record and the finished table give
  pub table_at : Local → (es : List Expr) → Ordered es → (e : ℕ) → e < length es → get_or (record_table d by es) e d ≡ by (record_table d by es) (at es e)
  unfolding record_table
  table_at local es ord e l =
      let s = filled_at d (λ k t. by t (at es k)) 0 (length es) (replicate (length es) d) e (omega arith) (omega arith) (simp length-replicate (omega arith)) in
      s.1 ∙ local s.0 (record_table d by es) e (length es) (at es e) (ord e l) s.2
