-- A file is accepted exactly when it has the form, and a fault that tables told is one in words.
use Rattle.std.proofs.Common.{◌≡◌, ℕ, zero, suc, ◌+◌, ◌-◌, ◌*◌, ◌<◌, Bool, true, ◌||◌, eqb, ltb, List, [], ◌∷◌, ◌++◌, length, get_or, take, drop, Some, None, Ok, Err, Option, Result}
use Rattle.std.proofs.Common.{sym, refl, ap, ◌∙◌, subst, arith, length-append}
use Rattle.std.proofs.lemmas.List.{append-nil, take_at}
use Rattle.std.proofs.lemmas.Bool.{lt-ltb, cond-true}
use Rattle.form.specs.declared.expr.Counts.{Counts}
use Rattle.form.specs.declared.expr.Expr.{Expr}
use Rattle.form.specs.declared.expr.Expr.TheVariants.{Repeat, Ahead, Absent, Node, Link, Fold}
use Rattle.form.specs.declared.fault.Fault.{Fault}
use Rattle.form.specs.declared.fault.FaultKind.{FaultKind}
use Rattle.form.specs.declared.fault.FaultKind.TheVariants.{EndsEarly, TrailingBytes, CountOutOfLimits, UnknownKind, FieldOutOfRange, PartNotAllowed, NestedTooDeep, NullableRepeat, LeftRecursion}
use Rattle.form.specs.declared.fault.Section.{Section}
use Rattle.form.specs.declared.fault.Section.TheVariants as section
use Rattle.form.specs.Faults.{fault, and_then}
use Rattle.form.specs.Nullable.{NullablePart}
use Rattle.form.specs.Heads.{LeftRecursive}
use Rattle.form.specs.Nesting.{TooDeep}
use Rattle.form.specs.Form.{Contents, Laid, Form}
use Rattle.form.specs.Bytes.{encode, AllBytes}
use Rattle.form.specs.Verdict.{piece, Layout, layout, ended, wide_at, allow, is_part, one_part, expression, record_at, body_at, each, counts}
use Rattle.form.specs.Verdict.{unless, lawful, first_too_deep, first_nullable_repeat, first_left_recursive, contents, verdict, front_verdict}
use Rattle.form.specs.Meaning.{Found, Explained, Meant, FrontMeant}
use Rattle.form.proofs.Yields.{ok_is, err_ok, then_ok, then_is, Only, only_cond, only_then, only_ok, only_err}
use Rattle.form.proofs.Lowest.{deep_found, repeats_found, recursion_found}
use Rattle.form.proofs.Read.{laid_read, bytes_read}
use Rattle.form.proofs.Written.{layout_written, contents_written}

-- Accepted is what has the form.

unless_none : (k : FaultKind) (s : Section) (o : Option ℕ) (t : Unit {0}) → unless k s o ≡ Ok t → o ≡ None
unless_none k s None t q = refl
unless_none k s (Some i) t q = absurd (err_ok (fault k s i) t q)

found_none : (P : ℕ → Type 0) (n : ℕ) (o : Option ℕ) → o ≡ None → Found P 0 n o → (j : ℕ) → j < n → P j → ⊥
found_none P n None e f j l p = f j (omega arith) (omega arith) p
found_none P n (Some i) e f j l p = let z : ◌≡◌ {A = ℕ} 0 1 = cc in omega arith

pub form_read : (c : Contents) → Laid c → (t : Unit {0}) → lawful c.exprs c.rules ≡ Ok t → Form c
form_read c laid t q =
    let es = c.exprs in
    let rs = c.rules in
    let u = then_ok (unless NestedTooDeep section.Expressions (first_too_deep es)) _ t q in
    let v = then_ok (unless NullableRepeat section.Expressions (first_nullable_repeat es rs)) _ t u.2 in
    record {
      laid = laid;
      shallow = found_none (TooDeep es) (length es) _ (unless_none _ _ _ u.0 u.1) (deep_found es laid.ordered);
      repeats_take = found_none (NullablePart es rs) (length es) _ (unless_none _ _ _ v.0 v.1) (repeats_found es laid.ordered rs);
      no_left_recursion = found_none (LeftRecursive es rs) (length rs) _ (unless_none _ _ _ t v.2) (recursion_found es laid.ordered rs);
    }

record ContentsRead (bs : List ℕ) (l : Layout) (c : Contents) : Type 0 where
  pub is : bs ≡ encode c ++ l.rules.after
  pub form : Form c

contents_read : (bs : List ℕ) → AllBytes bs → (l : Layout) → layout bs ≡ Ok l → (c : Contents) → contents l ≡ Ok c → ContentsRead bs l c
contents_read bs h l ql c q =
    let u = then_ok (each (record_at (counts l)) 5 l.exprs.count 0 l.exprs.bytes) _ c q in
    let v = then_ok (each (body_at l.exprs.count) 2 l.rules.count 0 l.rules.bytes) _ c u.2 in
    let w = then_ok (lawful u.0 v.0) _ c v.2 in
    let read : Contents = record { text = l.text.bytes; exprs = u.0; rules = v.0 } in
    subst (ContentsRead bs l) (ok_is read c w.2)
    (record {
      is = bytes_read bs h l ql u.0 u.1 v.0 v.1;
      form = form_read read (laid_read bs h l ql u.0 u.1 v.0 v.1) w.0 w.1;
    })

-- What has the form is accepted.

form_accepted : (c : Contents) → Form c → verdict (encode c) ≡ Ok c
form_accepted c ok =
    ap verdict (sym (append-nil (encode c)))
    ∙ then_is (λ l. and_then (ended l.rules.after) (λ _. contents l)) (layout_written c ok []) (contents_written c ok [])

front_accepted : (c : Contents) → Form c → (rest : List ℕ) → front_verdict (encode c ++ rest) ≡ Ok (c, length (encode c ++ rest) - length rest)
front_accepted c ok rest =
    then_is (λ l. and_then (contents l) (λ d. Ok (d, length (encode c ++ rest) - length l.rules.after))) (layout_written c ok rest)
    (then_is (λ d. Ok (d, length (encode c ++ rest) - length rest)) (contents_written c ok rest) refl)

-- Faults in words.

only_each : {A : Type 0} (Q : Fault → Type 0) (one : ℕ → List ℕ → Result A Fault) (size : ℕ) → ((n : ℕ) (s : List ℕ) → Only Q (one n s))
    → (m n : ℕ) (s : List ℕ) → Only Q (each one size m n s)
only_each Q one size h zero n s = only_ok Q []
only_each Q one size h (suc m) n s =
    only_then Q (one n s) _ (h n s) (λ x e. only_then Q (each one size m (n + 1) (drop size s)) _ (only_each Q one size h m (n + 1) (drop size s)) (λ xs e'. only_ok Q (x ∷ xs)))

only_unless : (Q : Fault → Type 0) (k : FaultKind) (s : Section) (P : ℕ → Type 0) (n : ℕ) → ((i : ℕ) → Found P 0 n (Some i) → Q (fault k s i))
    → (o : Option ℕ) → Found P 0 n o → Only Q (unless k s o)
only_unless Q k s P n h None f = only_ok Q tt
only_unless Q k s P n h (Some i) f = only_err Q (fault k s i) (h i f)

module _ (bs : List ℕ) (are_bytes : AllBytes bs) where
  abbrev Q : Fault → Type 0
  Q f = Explained bs f.kind f.index

  -- what is read off the bytes wants no word
  piece_only : (s : Section) (low high size : ℕ) (s' : List ℕ) → Only Q (piece s low high size s')
  piece_only s low high size s' =
      only_cond Q (ltb (length s') 2) _ _ (only_err Q (fault EndsEarly s 0) tt)
      (only_cond Q (ltb (wide_at s' 0) low || ltb high (wide_at s' 0)) _ _ (only_err Q (fault CountOutOfLimits s 0) tt)
      (only_cond Q (ltb (length (drop 2 s')) (wide_at s' 0 * size)) _ _ (only_err Q (fault EndsEarly s 0) tt) (only_ok Q _)))

  layout_only : Only Q (layout bs)
  layout_only =
      only_then Q (piece section.Text 0 1024 1 bs) _ (piece_only section.Text 0 1024 1 bs) (λ t e.
      only_then Q (piece section.Expressions 1 512 5 t.after) _ (piece_only section.Expressions 1 512 5 t.after) (λ x e'.
      only_then Q (piece section.Rules 1 64 2 x.after) _ (piece_only section.Rules 1 64 2 x.after) (λ r e''. only_ok Q _)))

  allow_only : (t : Bool) (k : FaultKind) (n : ℕ) (x : Expr) → Explained bs k n → Only Q (allow t k n x)
  allow_only t k n x q = only_cond Q t (Ok x) (Err (fault k section.Expressions n)) (only_ok Q x) (only_err Q (fault k section.Expressions n) q)

  record_only : (c : Counts) (n kind a b : ℕ) → Only Q (expression c n kind a b)
  record_only c n kind a b =
      only_cond Q (eqb kind 0) _ _ (allow_only _ _ n _ tt) (
      only_cond Q (eqb kind 1) _ _ (allow_only _ _ n _ tt) (
      only_cond Q (eqb kind 2) _ _ (allow_only _ _ n _ tt) (
      only_cond Q (eqb kind 3) _ _ (allow_only _ _ n _ tt) (
      only_cond Q (eqb kind 4) _ _ (allow_only _ _ n _ tt) (
      only_cond Q (eqb kind 5) _ _ (allow_only _ _ n _ tt) (
      only_cond Q (eqb kind 6) _ _ (one_only (Repeat a)) (
      only_cond Q (eqb kind 7) _ _ (one_only (Ahead a)) (
      only_cond Q (eqb kind 8) _ _ (one_only (Absent a)) (
      only_cond Q (eqb kind 9) _ _ (one_only (Node a)) (
      only_cond Q (eqb kind 10) _ _ (one_only (Link a)) (
      only_cond Q (eqb kind 11) _ _ (one_only (Fold a)) (
      only_cond Q (eqb kind 12) _ _ (allow_only _ _ n _ tt) (only_err Q (fault UnknownKind section.Expressions n) tt)))))))))))))
    where
      one_only : (x : Expr) → Only Q (one_part c n a b x)
      one_only x = only_cond Q (eqb b 0) _ _ (allow_only (is_part c n a) PartNotAllowed n x tt) (only_err Q (fault FieldOutOfRange section.Expressions n) tt)

  body_only : (n r : ℕ) (s : List ℕ) → Only Q (body_at n r s)
  body_only n r s = only_cond Q (ltb (wide_at s 0) n) _ _ (only_ok Q (wide_at s 0)) (only_err Q (fault PartNotAllowed section.Rules r) tt)

  module _ (l : Layout) (laid_out : layout bs ≡ Ok l) where
    -- the three laws, with what was read in hand
    lawful_only : (es : List Expr) → each (record_at (counts l)) 5 l.exprs.count 0 l.exprs.bytes ≡ Ok es
        → (rs : List ℕ) → each (body_at l.exprs.count) 2 l.rules.count 0 l.rules.bytes ≡ Ok rs → Only Q (lawful es rs)
    lawful_only es qe rs qr =
        let laid = laid_read bs are_bytes l laid_out es qe rs qr in
        let is = bytes_read bs are_bytes l laid_out es qe rs qr in
        let c : Contents = record { text = l.text.bytes; exprs = es; rules = rs } in
        only_then Q (unless NestedTooDeep section.Expressions (first_too_deep es)) _
        (only_unless Q NestedTooDeep section.Expressions (TooDeep es) (length es)
        (λ i f. record { begun = c; rest = l.rules.after; is = is; laid = laid; has = f }) (first_too_deep es) (deep_found es laid.ordered)) (λ _ e.
        only_then Q (unless NullableRepeat section.Expressions (first_nullable_repeat es rs)) _
        (only_unless Q NullableRepeat section.Expressions (NullablePart es rs) (length es)
        (λ i f. record { begun = c; rest = l.rules.after; is = is; laid = laid; has = f }) (first_nullable_repeat es rs) (repeats_found es laid.ordered rs)) (λ _ e'.
        only_unless Q LeftRecursion section.Rules (LeftRecursive es rs) (length rs)
        (λ i f. record { begun = c; rest = l.rules.after; is = is; laid = laid; has = f }) (first_left_recursive es rs) (recursion_found es laid.ordered rs)))

    contents_only : Only Q (contents l)
    contents_only =
        only_then Q (each (record_at (counts l)) 5 l.exprs.count 0 l.exprs.bytes) _
        (only_each Q (record_at (counts l)) 5 (λ n s. record_only (counts l) n (get_or s 0 0) (wide_at s 1) (wide_at s 3)) l.exprs.count 0 l.exprs.bytes) (λ es qe.
        only_then Q (each (body_at l.exprs.count) 2 l.rules.count 0 l.rules.bytes) _
        (only_each Q (body_at l.exprs.count) 2 (body_only l.exprs.count) l.rules.count 0 l.rules.bytes) (λ rs qr.
        only_then Q (lawful es rs) _ (lawful_only es qe rs qr) (λ _ e. only_ok Q _)))

  verdict_only : Only Q (verdict bs)
  verdict_only =
      only_then Q (layout bs) _ layout_only (λ l ql.
      only_then Q (ended l.rules.after) _ (only_cond Q (ltb 0 (length l.rules.after)) _ _ (only_err Q (fault TrailingBytes section.File 0) tt) (only_ok Q tt)) (λ _ e. contents_only l ql))

  front_only : Only Q (front_verdict bs)
  front_only = only_then Q (layout bs) _ layout_only (λ l ql. only_then Q (contents l) _ (contents_only l ql) (λ c e. only_ok Q _))

  -- The verdicts.

  ended_is : (s : List ℕ) (t : Unit {0}) → ended s ≡ Ok t → s ≡ []
  ended_is [] t q = refl
  ended_is (b ∷ s) t q =
      let more : ltb 0 (length (b ∷ s)) ≡ true = lt-ltb 0 (length (b ∷ s)) (omega arith) in
      absurd (err_ok (fault TrailingBytes section.File 0) t (sym (cond-true (ltb 0 (length (b ∷ s))) _ _ more) ∙ q))

  meant_by : (v : Result Contents Fault) → verdict bs ≡ v → Only Q v → Meant bs v
  meant_by (Ok c) q o =
      let u = then_ok (layout bs) _ c q in
      let e = then_ok (ended u.0.rules.after) _ c u.2 in
      let r = contents_read bs are_bytes u.0 u.1 c e.2 in
      (r.is ∙ ap (λ s. encode c ++ s) (ended_is u.0.rules.after e.0 e.1) ∙ append-nil (encode c), r.form)
  meant_by (Err f) q o = (λ c ok is. err_ok f c (sym q ∙ ap verdict is ∙ form_accepted c ok), o f refl)

  pub meant : Meant bs (verdict bs)
  meant = meant_by (verdict bs) refl verdict_only

  front_meant_by : (v : Result (Contents × ℕ) Fault) → front_verdict bs ≡ v → Only Q v → FrontMeant bs v
  front_meant_by (Ok (c, n)) q o =
      let u = then_ok (layout bs) _ (c, n) q in
      let d = then_ok (contents u.0) _ (c, n) u.2 in
      let same = ok_is (d.0, length bs - length u.0.rules.after) (c, n) d.2 in
      let r = contents_read bs are_bytes u.0 u.1 d.0 d.1 in
      let rest : List ℕ = u.0.rules.after in
      let long : length bs ≡ length (encode d.0) + length rest = ap length r.is ∙ length-append (encode d.0) rest in
      subst (λ (p : Contents × ℕ). FrontMeant bs (Ok p)) same
      (omega arith, ap (take (length bs - length rest)) r.is ∙ take_at (encode d.0) rest (length bs - length rest) (omega arith), r.form)
  front_meant_by (Err f) q o =
      (λ c rest ok is. err_ok f (c, length (encode c ++ rest) - length rest) (sym q ∙ ap front_verdict is ∙ front_accepted c ok rest), o f refl)

  pub front_meant : FrontMeant bs (front_verdict bs)
  front_meant = front_meant_by (front_verdict bs) refl front_only
