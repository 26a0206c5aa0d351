-- The three looks through records and rules find the lowest number at fault.
use Rattle.std.proofs.Common.{◌≡◌, ℕ, zero, suc, ◌+◌, ◌<◌, Bool, true, false, cond, ltb, List, length, get_or, Some, None, Decides, Option, sym, refl, ap, ◌∙◌, subst, inl, inr, arith}
use Rattle.std.proofs.lemmas.Bool.{false≢true, cases_eq}
use Rattle.form.specs.declared.expr.Expr.{Expr}
use Rattle.form.specs.declared.expr.Expr.TheVariants.{Repeat}
use Rattle.form.specs.Records.{at, Ordered}
use Rattle.form.specs.Nullable.{NullablePart}
use Rattle.form.specs.Heads.{LeftRecursive}
use Rattle.form.specs.Nesting.{TooDeep}
use Rattle.form.specs.Tables.{nullables, repeats_marked, left_recursive, nestings, first_from}
use Rattle.form.specs.Verdict.{first_too_deep, first_nullable_repeat, first_left_recursive}
use Rattle.form.specs.Meaning.{Found}
use Rattle.form.proofs.Nullable.{nullable_decided}
use Rattle.form.proofs.Heads.{recursive_decided}
use Rattle.form.proofs.Nesting.{deep_decided}

module _ (P : ℕ → Type 0) where
  later : (k n : ℕ) → (P k → ⊥) → (o : Option ℕ) → Found P (k + 1) n o → Found P k (suc n) o
  later k n not_here None f = λ j l h p. elim (cases_eq j k) [ inl e ↦ not_here (subst P e p) | inr ne ↦ f j (omega arith) (omega arith) p ]
  later k n not_here (Some i) f = (
    omega (arith, f.0),
    omega (arith, f.1),
    f.2,
    λ j l h p. elim (cases_eq j k) [ inl e ↦ not_here (subst P e p) | inr ne ↦ f.3 j (omega arith) h p ],
  )

  here : (k n : ℕ) (b : Bool) → Decides b (P k) → (o : Option ℕ) → Found P (k + 1) n o → Found P k (suc n) (cond b (Some k) o)
  here k n true d o f = (omega arith, omega arith, d.0 refl, λ j l h p. absurd (omega arith))
  here k n false d o f = later k n (λ p. false≢true (d.1 p)) o f

  lowest : (f : ℕ → Bool) (k n : ℕ) → ((j : ℕ) → j < k + n → Decides (f j) (P j)) → Found P k n (first_from f k n)
  lowest f k zero d = λ j l h p. absurd (omega arith)
  lowest f k (suc n) d = here k n (f k) (d k (omega arith)) (first_from f (k + 1) n) (lowest f (k + 1) n (λ j h. d j (omega arith)))

abbrev is_repeat : Expr → Bool
is_repeat (Repeat a) = true
is_repeat _ = false

module _ (es : List Expr) (rs : List ℕ) (ord : Ordered es) (k : ℕ) where
  -- no other kind of record is a repeat
  no_repeat : (x : Expr) → at es k ≡ x → is_repeat x ≡ false → Decides false (NullablePart es rs k)
  no_repeat x q other = (λ e. absurd (false≢true e), λ w. absurd (false≢true (sym other ∙ ap is_repeat (sym q ∙ w.repeats))))

  repeat_is : (a b : ℕ) → ◌≡◌ {A = Expr} (Repeat a) (Repeat b) → a ≡ b
  repeat_is a b e = cc

  repeat_decided : (x : Expr) → at es k ≡ x → Decides (repeats_marked (nullables es rs) x) (NullablePart es rs k)
  repeat_decided (Repeat a) q =
      let d = nullable_decided es rs ord a in (
        λ e. record { part = a; repeats = q; nullable = d.0 e },
        λ w. d.1 (rw (← repeat_is a w.part (sym q ∙ w.repeats)) at w.nullable),
      )
  repeat_decided x q = no_repeat x q refl

module _ (es : List Expr) (ord : Ordered es) where
  pub deep_found : Found (TooDeep es) 0 (length es) (first_too_deep es)
  deep_found = lowest (TooDeep es) (λ k. ltb 32 (get_or (nestings es) k 0)) 0 (length es) (λ j h. deep_decided es ord j (omega arith))

  pub repeats_found : (rs : List ℕ) → Found (NullablePart es rs) 0 (length es) (first_nullable_repeat es rs)
  repeats_found rs =
      lowest (NullablePart es rs) (λ k. repeats_marked (nullables es rs) (at es k)) 0 (length es)
      (λ j h. repeat_decided es rs ord j (at es j) refl)

  pub recursion_found : (rs : List ℕ) → Found (LeftRecursive es rs) 0 (length rs) (first_left_recursive es rs)
  recursion_found rs = lowest (LeftRecursive es rs) (left_recursive es rs) 0 (length rs) (λ j h. recursive_decided es rs ord j (omega arith))
