-- What a call told of a verdict has the verdict's meaning.
use Rattle.std.proofs.Common.{◌≡◌, ℕ, ◌<◌, List, Ok, Err, Result, get_or, sym, subst}
use Rattle.std.specs.Result.{IsErrAnd}
use Rattle.std.proofs.lemmas.Result.{err_from_is_err_and}
use Rattle.form.specs.declared.fault.Fault.{Fault}
use Rattle.form.specs.Verdict.{verdict, front_verdict}
use Rattle.form.specs.Meaning.{Meant, FrontMeant}
use Rattle.form.proofs.Meaning.{meant, front_meant}
use Rattle.grammar.specs.declared.error.CheckError.{CheckError}
use Rattle.grammar.specs.declared.error.CheckError.TheVariants.{OutOfMemory, Faulty}
use Rattle.grammar.specs.declared.grammar.Grammar.{Grammar}
use Rattle.grammar.specs.Views.{Told, contents_of, front_of}
use Rattle.grammar.proofs.Bytes.{all_bytes}

-- what is true of a verdict is true of a call that told it
pub told_as : {A B : Type 0} (view : A → B) (d : Result B Fault) (M : Result B Fault → Type 0) → M d
    → (r : Result A CheckError) → Told view (λ v. v ≡ d) r → Told view M r
told_as view d M m (Ok x) e = subst M (sym e) m
told_as view d M m (Err OutOfMemory) e = tt
told_as view d M m (Err (Faulty f)) e = subst M (sym e) m

-- the fault that a `?` passes on
pub told_fault : {A B : Type 0} (view : A → B) (d : Result B Fault) (f : Fault) (r : Result A CheckError) → IsErrAnd r (λ e. e ≡ Faulty f) → Err f ≡ d
    → Told view (λ v. v ≡ d) r
told_fault view d f r passed e = let p = err_from_is_err_and r passed in rw (p.1, p.2) e

module _ (bs : List ℕ) (bytes : (i : ℕ) → get_or bs i 0 < 256) where
  pub told_meant : (r : Result Grammar CheckError) → Told contents_of (λ v. v ≡ verdict bs) r → Told contents_of (Meant bs) r
  told_meant = told_as contents_of (verdict bs) (Meant bs) (meant bs (all_bytes bs bytes))

  pub told_front_meant : (r : Result (Grammar × ℕ) CheckError) → Told front_of (λ v. v ≡ front_verdict bs) r → Told front_of (FrontMeant bs) r
  told_front_meant = told_as front_of (front_verdict bs) (FrontMeant bs) (front_meant bs (all_bytes bs bytes))
