-- What a test marks among the records, and what rounds of it mark among the rules.
use Rattle.std.proofs.Common.{◌≡◌, ℕ, zero, suc, Bool, true, false, ◌||◌, List, length, sym, ap, ◌∙◌, inl, inr, arith}
use Rattle.std.proofs.lemmas.Bool.{cases_lt, false≢true, or_left, or_right, or_cases}
use Rattle.std.proofs.lemmas.List.{get_or_past}
use Rattle.form.specs.declared.expr.Expr.{Expr}
use Rattle.form.specs.declared.expr.Expr.TheVariants.{Range}
use Rattle.form.specs.Records.{at, body, Ordered}
use Rattle.form.specs.Tables.{marked, blank, Test, tested, round, settled, record_table, joined}
use Rattle.form.proofs.Filled.{filled_length, filled_at, filled_all, Local, table_length, table_at}
use Rattle.form.proofs.Settled.{turns_keep, Grown, at_rest}

pub blank_unmarked : (n j : ℕ) → marked (blank n) j ≡ true → ⊥
blank_unmarked zero j e = false≢true e
blank_unmarked (suc n) zero e = false≢true e
blank_unmarked (suc n) (suc j) e = blank_unmarked n j e

module _ (es : List Expr) (by : Test) (v : List Bool) where
  -- what a record has that the test marks, if later marked records have it
  pub tested_sound : (P : ℕ → Type 0) → ((e : ℕ) (t : List Bool) → ((j : ℕ) → marked t j ≡ true → P j) → by v t (at es e) ≡ true → P e)
      → (e : ℕ) → marked (tested by es v) e ≡ true → P e
  unfolding record_table
  tested_sound P F =
      filled_all false (λ e t. by v t (at es e)) (λ j b. b ≡ true → P j) F
      0 (length es) (blank (length es)) (λ j m. absurd (blank_unmarked (length es) j m))

  -- each mark is the test's answer over the finished table
  pub tested_at : Local false (by v) → ((t : List Bool) → by v t (Range 0 0) ≡ false) → Ordered es
      → (e : ℕ) → marked (tested by es v) e ≡ by v (tested by es v) (at es e)
  tested_at local none ord e = elim (cases_lt e (length es)) [
    | inl lt ↦ table_at false (by v) local es ord e lt
    | inr ge ↦
        let past : at es e ≡ Range 0 0 = get_or_past es e (Range 0 0) ge in
        get_or_past (tested by es v) e false (omega (arith, table_length false (by v) es)) ∙ sym (ap (by v (tested by es v)) past ∙ none (tested by es v))
  ]

module _ (es : List Expr) (rs : List ℕ) (by : Test) where
  abbrev rule_test : List Bool → ℕ → List Bool → Bool
  rule_test v q w = marked w q || marked (tested by es v) (body es rs q)

  round_grows : (v : List Bool) → Grown v (round by es rs v)
  unfolding joined
  round_grows v = record {
    long = filled_length false (rule_test v) 0 (length rs) v;
    more = filled_all false (rule_test v) (λ j b. marked v j ≡ true → b ≡ true)
        (λ q w h m. or_left (marked w q) (marked (tested by es v) (body es rs q)) (h q m)) 0 (length rs) v (λ j m. m);
  }

  settled_length : (v : List Bool) → length v ≡ length rs → length (settled by es rs v) ≡ length rs
  unfolding settled
  settled_length v l = turns_keep (round by es rs) (λ w. length w ≡ length rs) (λ w e. (round_grows w).long ∙ e) (length rs) v l

  pub settled_more : (v : List Bool) (j : ℕ) → marked v j ≡ true → marked (settled by es rs v) j ≡ true
  unfolding settled
  settled_more v j m = turns_keep (round by es rs) (λ w. marked w j ≡ true) (λ w e. (round_grows w).more j e) (length rs) v m

  -- what each marked rule has: it holds at the start, and a round keeps it
  pub settled_sound : (P : ℕ → Type 0)
      → ((v : List Bool) → ((q : ℕ) → marked v q ≡ true → P q) → (q : ℕ) → marked (tested by es v) (body es rs q) ≡ true → P q)
      → (v : List Bool) → ((q : ℕ) → marked v q ≡ true → P q) → (q : ℕ) → marked (settled by es rs v) q ≡ true → P q
  unfolding settled joined
  settled_sound P F =
      turns_keep (round by es rs) (λ w. (q : ℕ) → marked w q ≡ true → P q)
      (λ v h. filled_all false (rule_test v) (λ j b. b ≡ true → P j)
      (λ q w i m. elim (or_cases (marked w q) (marked (tested by es v) (body es rs q)) m) [ inl a ↦ i q a | inr b ↦ F v h q b ])
      0 (length rs) v h)
      (length rs)

  -- in the end a rule is marked if its body is
  pub settled_closed : (v : List Bool) → length v ≡ length rs
      → (q : ℕ) → marked (tested by es (settled by es rs v)) (body es rs q) ≡ true → marked (settled by es rs v) q ≡ true
  unfolding settled joined
  settled_closed v l q m =
      let w : List Bool = settled by es rs v in
      elim (cases_lt q (length rs)) [
        | inl lt ↦
            let s = filled_at false (rule_test w) 0 (length rs) w q (omega arith) (omega arith) (omega (arith, settled_length v l)) in
            ap (λ u. marked u q) (sym (at_rest (round by es rs) round_grows (length rs) v (omega arith)))
            ∙ s.1 ∙ or_right (marked s.0 q) (marked (tested by es w) (body es rs q)) m
        | inr ge ↦
            let past : body es rs q ≡ length es = get_or_past rs q (length es) ge in
            absurd (false≢true (sym (get_or_past (tested by es w) (body es rs q) false (omega (arith, past, table_length false (by w) es))) ∙ m))
      ]
