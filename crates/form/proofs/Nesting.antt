-- The table of nestings tells how deep each record is nested, and no record is nested to two depths.
use Rattle.std.proofs.Common.{◌≡◌, ℕ, zero, suc, ◌+◌, ◌<◌, ◌≤◌, max, ltb, List, [], ◌∷◌, length, get_or, Decides, sym, refl, ap, ◌∙◌, subst, ap₂, arith}
use Rattle.std.proofs.lemmas.Bool.{ltb-true, lt-ltb}
use Rattle.form.specs.declared.expr.Expr.{Expr}
use Rattle.form.specs.declared.expr.Expr.TheVariants.{Sequence, Choice}
use Rattle.form.specs.Records.{at, parts, Later, Ordered}
use Rattle.form.specs.Nesting.{Nested, TooDeep}
use Rattle.form.specs.Nesting.Nested.{leaf, one, two}
use Rattle.form.specs.Tables.{deepest, nestings}
use Rattle.form.proofs.Filled.{table_at}

deepest_local : (t u : List ℕ) (k n : ℕ) (ps : List ℕ) → Later k n ps → ((j : ℕ) → k < j → get_or t j 0 ≡ get_or u j 0) → deepest t ps ≡ deepest u ps
deepest_local t u k n [] l h = refl
deepest_local t u k n (p ∷ ps) l h = ap₂ max (h p l.0) (deepest_local t u k n ps l.2 h)

at_most_two : (x : Expr) → length (parts x) ≤ 2
at_most_two (Sequence a b) = omega arith
at_most_two (Choice a b) = omega arith
at_most_two _ = omega arith

module _ (es : List Expr) (ord : Ordered es) where
  abbrev nesting : ℕ → ℕ
  nesting e = get_or (nestings es) e 0

  entry : (e : ℕ) → e < length es → (ps : List ℕ) → parts (at es e) ≡ ps → nesting e ≡ deepest (nestings es) ps + 1
  entry e l ps q =
      table_at 0 (λ t x. deepest t (parts x) + 1) (λ t u k n x later h. ap (λ d. d + 1) (deepest_local t u k n (parts x) later h)) es ord e l
      ∙ ap (λ given. deepest (nestings es) given + 1) q

  -- two depths of one record are equal: each is the table's
  pub nested_is : (e d : ℕ) → e < length es → Nested es e d → d ≡ nesting e
  nested_is e d l (leaf q) = sym (entry e l [] q)
  nested_is e d l (one {a} {d = c} q n) =
      let later : Later e (length es) (a ∷ []) = subst (Later e (length es)) q (ord e l) in
      omega (arith, entry e l (a ∷ []) q, nested_is a c later.1 n)
  nested_is e d l (two {a} {b} {c} {d = c'} q n n') =
      let later : Later e (length es) (a ∷ b ∷ []) = subst (Later e (length es)) q (ord e l) in
      omega (arith, entry e l (a ∷ b ∷ []) q, nested_is a c later.1 n, nested_is b c' later.2.1 n')

  by_parts : (e : ℕ) → e < length es → ((a : ℕ) → e < a → a < length es → Nested es a (nesting a))
      → (ps : List ℕ) → parts (at es e) ≡ ps → length ps ≤ 2 → Nested es e (nesting e)
  by_parts e l inner [] q few = subst (Nested es e) (sym (entry e l [] q)) (leaf q)
  by_parts e l inner (a ∷ []) q few =
      let later : Later e (length es) (a ∷ []) = subst (Later e (length es)) q (ord e l) in
      let same : nesting a + 1 ≡ nesting e = omega (arith, entry e l (a ∷ []) q) in
      subst (Nested es e) same (one q (inner a later.0 later.1))
  by_parts e l inner (a ∷ b ∷ []) q few =
      let later : Later e (length es) (a ∷ b ∷ []) = subst (Later e (length es)) q (ord e l) in
      let same : max (nesting a) (nesting b) + 1 ≡ nesting e = omega (arith, entry e l (a ∷ b ∷ []) q) in
      subst (Nested es e) same (two q (inner a later.0 later.1) (inner b later.2.0 later.2.1))
  by_parts e l inner (a ∷ b ∷ c ∷ ps) q few = absurd (omega arith)

  from_end : (k e : ℕ) → length es ≤ e + k → e < length es → Nested es e (nesting e)
  from_end zero e h l = absurd (omega arith)
  from_end (suc k) e h l = by_parts e l (λ a lt below. from_end k a (omega arith) below) (parts (at es e)) refl (at_most_two (at es e))

  pub nested_at : (e : ℕ) → e < length es → Nested es e (nesting e)
  nested_at e l = from_end (length es) e (omega arith) l

  pub deep_decided : (k : ℕ) → k < length es → Decides (ltb 32 (nesting k)) (TooDeep es k)
  deep_decided k l = (
    λ t. record { depth = nesting k; nested = nested_at k l; deep = ltb-true 32 (nesting k) t },
    λ d. lt-ltb 32 (nesting k) (omega (arith, d.deep, nested_is k d.depth l d.nested)),
  )
