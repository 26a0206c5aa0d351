-- What a value has that a chain of checks lets through, and what a fault has that it stops with.
use Rattle.std.proofs.Common.{◌≡◌, ℕ, Bool, true, false, cond, Ok, Err, Result, sym, refl, ap, ◌∙◌, subst, arith}
use Rattle.form.specs.declared.fault.Fault.{Fault}
use Rattle.form.specs.Faults.{and_then}

pub ok_is : {A : Type 0} (x y : A) → ◌≡◌ {A = Result A Fault} (Ok x) (Ok y) → x ≡ y
ok_is x y e = cc

pub err_ok : {A : Type 0} (f : Fault) (y : A) → ◌≡◌ {A = Result A Fault} (Err f) (Ok y) → ⊥
err_ok f y e = let z : ◌≡◌ {A = ℕ} 0 1 = cc in omega arith

pub then_ok : {A B : Type 0} (d : Result A Fault) (next : A → Result B Fault) (y : B) → and_then d next ≡ Ok y → (x : A) × (d ≡ Ok x) × (next x ≡ Ok y)
then_ok (Ok x) next y q = (x, refl, q)
then_ok (Err f) next y q = absurd (err_ok f y q)

-- a check that lets x through, before the next
pub then_is : {A B : Type 0} {d : Result A Fault} {x : A} (next : A → Result B Fault) {r : Result B Fault} → d ≡ Ok x → next x ≡ r → and_then d next ≡ r
then_is next e h = ap (λ y. and_then y next) e ∙ h

abbrev pub Yields : {A : Type 0} → (A → Type 0) → Result A Fault → Type 0
Yields {A} P r = (x : A) → r ≡ Ok x → P x

pub of_cond : {A : Type 0} (P : A → Type 0) (b : Bool) (r s : Result A Fault) → (b ≡ true → Yields P r) → (b ≡ false → Yields P s) → Yields P (cond b r s)
of_cond P true r s h k = h refl
of_cond P false r s h k = k refl

pub of_ok : {A : Type 0} (P : A → Type 0) (x : A) → P x → Yields P (Ok x)
of_ok P x p y q = subst P (ok_is x y q) p

pub of_err : {A : Type 0} (P : A → Type 0) (f : Fault) → Yields P (Err f)
of_err P f y q = absurd (err_ok f y q)

abbrev pub Only : {A : Type 0} → (Fault → Type 0) → Result A Fault → Type 0
Only Q r = (f : Fault) → r ≡ Err f → Q f

pub only_cond : {A : Type 0} (Q : Fault → Type 0) (b : Bool) (r s : Result A Fault) → Only Q r → Only Q s → Only Q (cond b r s)
only_cond Q true r s h k = h
only_cond Q false r s h k = k

pub only_ok : {A : Type 0} (Q : Fault → Type 0) (x : A) → Only Q (Ok x)
only_ok Q x f q = absurd (err_ok f x (sym q))

pub only_err : {A : Type 0} (Q : Fault → Type 0) (f : Fault) → Q f → Only {A = A} Q (Err f)
only_err {A} Q f h g q = let same : f ≡ g = cc in subst Q same h

pub only_then : {A B : Type 0} (Q : Fault → Type 0) (d : Result A Fault) (next : A → Result B Fault)
    → Only Q d → ((x : A) → d ≡ Ok x → Only Q (next x)) → Only Q (and_then d next)
only_then Q (Ok x) next h k = k x refl
only_then {A} Q (Err f) next h k = only_err Q f (h f refl)
