-- A look through a list for the first entry that passes a test is a look through its numbers.
use Rattle.std.proofs.Common.{◌≡◌, ℕ, suc, ◌+◌, ◌-◌, ◌<◌, Bool, false, cond, List, [], ◌∷◌, length, get_or, Some, Option, ltb, sym, refl, ◌∙◌, ap, ap₂, arith, position}
use Rattle.std.specs.List.{position_from}
use Rattle.std.proofs.lemmas.Iterator.Adapters.{position_from-zero}
use Rattle.form.specs.Tables.{first_from, nestings, nullables, repeats_marked}
use Rattle.form.specs.Verdict.{first_too_deep, first_nullable_repeat}
use Rattle.form.specs.declared.expr.Expr.{Expr}
use Rattle.form.specs.declared.expr.Expr.TheVariants.{Range}
use Rattle.form.specs.Records.{at}
use Rattle.form.proofs.Filled.{table_length}

first_from_list : {A : Type 0} (d : A) (t : A → Bool) (f : ℕ → Bool) (i : ℕ) (xs : List A)
    → ((k : ℕ) → k < length xs → f (i + k) ≡ t (get_or xs k d)) → first_from f i (length xs) ≡ position_from t i xs
first_from_list d t f i [] same = refl
first_from_list d t f i (x ∷ xs) same =
    let here : f i ≡ t x = ap f (omega arith) ∙ same 0 (omega arith) in
    let later = first_from_list d t f (i + 1) xs (λ k l. ap f (omega arith) ∙ same (suc k) (omega arith)) in
    ap₂ (λ b o. cond b (Some i) o) here later

-- from the front on
pub first_is_position : {A : Type 0} (d : A) (t : A → Bool) (f : ℕ → Bool) (n : ℕ) (xs : List A)
    → length xs ≡ n → ((k : ℕ) → k < n → f k ≡ t (get_or xs k d)) → first_from f 0 n ≡ position t xs
first_is_position d t f n xs same_length same =
    ap (first_from f 0) (sym same_length)
    ∙ first_from_list d t f 0 xs (λ k l. ap f (omega arith) ∙ same k (omega arith))
    ∙ sym (position_from-zero t xs)

pub deep_position : (es : List Expr) → first_too_deep es ≡ position (λ n. ltb 32 n) (nestings es)
deep_position es = first_is_position 0 (λ n. ltb 32 n) (λ k. ltb 32 (get_or (nestings es) k 0)) (length es) (nestings es) (table_length 0 _ es) (λ k l. refl)

pub repeat_position : (es : List Expr) (rs : List ℕ) → first_nullable_repeat es rs ≡ position (repeats_marked (nullables es rs)) es
repeat_position es rs =
    first_is_position (Range 0 0) (repeats_marked (nullables es rs)) (λ k. repeats_marked (nullables es rs) (at es k)) (length es) es refl (λ k l. refl)

-- one turn of such a look, where the test does not hold
pub first_later : (f : ℕ → Bool) (k m : ℕ) (o : Option ℕ) → k < m → false ≡ f k → first_from f k (m - k) ≡ o
    → first_from f (k + 1) (m - (k + 1)) ≡ o
first_later f k m o lt gone look =
    let one : m - k ≡ suc (m - (k + 1)) = omega arith in
    rw (one, ← gone) at look
