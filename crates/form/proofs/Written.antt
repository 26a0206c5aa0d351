-- Contents that have the form, written as bytes in front of any others, are read again as they are.
use Rattle.std.proofs.Common.{◌≡◌, ℕ, suc, ◌+◌, ◌*◌, ◌/◌, ◌%◌, ◌<◌, ◌≤◌, Bool, true, false, ◌&&◌, ◌||◌, ltb, leb, List, [], ◌∷◌, ◌++◌, length, get_or, take, drop, Some, None, Ok, Option, Result}
use Rattle.std.proofs.Common.{sym, refl, ap, ◌∙◌, subst, arith, length-append}
use Rattle.std.proofs.lemmas.List.{take_at, drop_at, append_assoc}
use Rattle.std.proofs.lemmas.Bool.{and_from, or_from, lt-ltb, le-ltb, le-leb}
use Rattle.form.specs.declared.expr.Counts.{Counts}
use Rattle.form.specs.declared.expr.Expr.{Expr}
use Rattle.form.specs.declared.expr.Expr.TheVariants.{Empty, Text, Range, Rule, Sequence, Choice, Repeat, Ahead, Absent, Node, Link, Fold, Tag}
use Rattle.form.specs.declared.fault.Fault.{Fault}
use Rattle.form.specs.declared.fault.FaultKind.{FaultKind}
use Rattle.form.specs.declared.fault.FaultKind.TheVariants.{FieldOutOfRange, PartNotAllowed, NestedTooDeep, NullableRepeat, LeftRecursion}
use Rattle.form.specs.declared.fault.Section.{Section}
use Rattle.form.specs.declared.fault.Section.TheVariants as section
use Rattle.form.specs.Records.{at, parts, Later}
use Rattle.form.specs.Nullable.{NullablePart}
use Rattle.form.specs.Heads.{LeftRecursive}
use Rattle.form.specs.Nesting.{TooDeep}
use Rattle.form.specs.Form.{Contents, Fields, Form}
use Rattle.form.specs.Bytes.{wide, written, encode}
use Rattle.form.specs.Bytes as bytes
use Rattle.form.specs.Verdict.{Piece, wide_at, piece, Layout, layout, allow, is_part, record_at, body_at, each, counts, unless, lawful, first_too_deep, first_nullable_repeat, first_left_recursive, contents}
use Rattle.form.specs.Meaning.{Found}
use Rattle.form.proofs.Yields.{then_is}
use Rattle.form.proofs.Lowest.{deep_found, repeats_found, recursion_found}

wide_read : (n : ℕ) → n / 256 * 256 + n % 256 ≡ n
wide_read n = omega arith

-- A section.

abbrev cut : ℕ → List ℕ → List ℕ → Piece
cut n body rest = record { count = n; bytes = body; after = rest }

-- a section whose count is there and in its limits, and whose bytes are there
pub piece_is : (s : Section) (low high size n : ℕ) (bs body rest : List ℕ) → 2 ≤ length bs → n ≡ wide_at bs 0 → low ≤ n → n ≤ high
    → n * size ≤ length (drop 2 bs) → body ≡ take (n * size) (drop 2 bs) → rest ≡ drop (n * size) (drop 2 bs)
    → Ok (cut n body rest) ≡ piece s low high size bs
piece_is s low high size n bs body rest two count lo hi present p q =
    let t : ltb (length bs) 2 ≡ false = le-ltb (length bs) 2 two in
    let u : (ltb n low || ltb high n) ≡ false = or_from (ltb n low) (ltb high n) (le-ltb n low lo) (le-ltb high n hi) in
    let v : ltb (length (drop 2 bs)) (n * size) ≡ false = le-ltb (length (drop 2 bs)) (n * size) present in
    rw (p, q, t, ← count, u, v)

piece_written : (s : Section) (low high size n : ℕ) (body rest : List ℕ) → length body ≡ n * size → low ≤ n → n ≤ high
    → piece s low high size (wide n (body ++ rest)) ≡ Ok (cut n body rest)
piece_written s low high size n body rest l lo hi =
    sym (piece_is s low high size n (wide n (body ++ rest)) body rest (omega arith) (sym (wide_read n)) lo hi
    (omega (arith, length-append body rest)) (sym (take_at body rest (n * size) l)) (sym (drop_at body rest (n * size) l)))

-- A record.

module _ (c : Counts) (n : ℕ) (s : List ℕ) where
  allowed : (t : Bool) (k : FaultKind) (x : Expr) → t ≡ true → allow t k n x ≡ Ok x
  allowed t k x h = rw h

  is_part_lem : (a : ℕ) → n < a → a < c.exprs → is_part c n a ≡ true
  is_part_lem a low high = and_from (ltb n a) (ltb a c.exprs) (lt-ltb n a low) (lt-ltb a c.exprs high)

  one_part_lem : (a : ℕ) (x : Expr) → Later n c.exprs (a ∷ []) → allow (is_part c n a) PartNotAllowed n x ≡ Ok x
  one_part_lem a x l = allowed (is_part c n a) PartNotAllowed x (is_part_lem a l.0 l.1)

  two_parts_lem : (a b : ℕ) (x : Expr) → Later n c.exprs (a ∷ b ∷ []) → allow (is_part c n a && is_part c n b) PartNotAllowed n x ≡ Ok x
  two_parts_lem a b x l =
      allowed (is_part c n a && is_part c n b) PartNotAllowed x
      (and_from (is_part c n a) (is_part c n b) (is_part_lem a l.0 l.1) (is_part_lem b l.2.0 l.2.1))

  record_written : (x : Expr) → Fields c.text c.rules x → Later n c.exprs (parts x) → record_at c n (bytes.expression x s) ≡ Ok x
  record_written Empty f l = refl
  record_written (Text a b) f l =
      rw (wide_read a, wide_read b) (allowed _ FieldOutOfRange (Text a b)
      (and_from (leb 1 b) _ (le-leb 1 b f.0) (and_from (leb b 255) _ (le-leb b 255 f.1) (le-leb (a + b) c.text f.2))))
  record_written (Range a b) f l =
      rw (wide_read a, wide_read b) (allowed _ FieldOutOfRange (Range a b) (and_from (leb a b) _ (le-leb a b f.0) (le-leb b 255 f.1)))
  record_written (Rule r) f l =
      rw (wide_read r) (allowed _ FieldOutOfRange (Rule r) (and_from (ltb r c.rules) true (lt-ltb r c.rules f) refl))
  record_written (Sequence a b) f l = rw (wide_read a, wide_read b) (two_parts_lem a b (Sequence a b) l)
  record_written (Choice a b) f l = rw (wide_read a, wide_read b) (two_parts_lem a b (Choice a b) l)
  record_written (Repeat a) f l = rw (wide_read a) (one_part_lem a (Repeat a) l)
  record_written (Ahead a) f l = rw (wide_read a) (one_part_lem a (Ahead a) l)
  record_written (Absent a) f l = rw (wide_read a) (one_part_lem a (Absent a) l)
  record_written (Node a) f l = rw (wide_read a) (one_part_lem a (Node a) l)
  record_written (Link a) f l = rw (wide_read a) (one_part_lem a (Link a) l)
  record_written (Fold a) f l = rw (wide_read a) (one_part_lem a (Fold a) l)
  record_written (Tag a) f l = rw (wide_read a) (allowed _ FieldOutOfRange (Tag a) (and_from (leb 1 a) true (le-leb 1 a f.0) refl))

  -- a record takes five bytes
  record_long : (x : Expr) → (drop 5 (bytes.expression x s) ≡ s) × (length (bytes.expression x s) ≡ 5 + length s)
  record_long Empty = (refl, omega arith)
  record_long (Text a b) = (refl, omega arith)
  record_long (Range a b) = (refl, omega arith)
  record_long (Rule r) = (refl, omega arith)
  record_long (Sequence a b) = (refl, omega arith)
  record_long (Choice a b) = (refl, omega arith)
  record_long (Repeat a) = (refl, omega arith)
  record_long (Ahead a) = (refl, omega arith)
  record_long (Absent a) = (refl, omega arith)
  record_long (Node a) = (refl, omega arith)
  record_long (Link a) = (refl, omega arith)
  record_long (Fold a) = (refl, omega arith)
  record_long (Tag a) = (refl, omega arith)

-- Items one by one.

each_written : {A : Type 0} (one : ℕ → List ℕ → Result A Fault) (size : ℕ) (put : A → List ℕ → List ℕ) (P : ℕ → A → Type 0)
    → ((n : ℕ) (x : A) (s : List ℕ) → P n x → one n (put x s) ≡ Ok x) → ((x : A) (s : List ℕ) → drop size (put x s) ≡ s)
    → (d : A) (xs : List A) (n : ℕ) → ((i : ℕ) → i < length xs → P (n + i) (get_or xs i d)) → each one size (length xs) n (written put xs) ≡ Ok xs
each_written one size put P R D d [] n h = refl
each_written one size put P R D d (x ∷ xs) n h =
    let z : n + 0 ≡ n = omega arith in
    let p : P n x = subst (λ m. P m x) z (h 0 (omega arith)) in
    let later : each one size (length xs) (n + 1) (written put xs) ≡ Ok xs =
    each_written one size put P R D d xs (n + 1)
    (λ i l. let z' : n + suc i ≡ (n + 1) + i = omega arith in subst (λ m. P m (get_or xs i d)) z' (h (suc i) (omega arith))) in
    rw (R n x (written put xs) p, D x (written put xs), later)

written_long : {A : Type 0} (put : A → List ℕ → List ℕ) (size : ℕ) → ((m : ℕ) → suc m * size ≡ size + m * size)
    → ((x : A) (s : List ℕ) → length (put x s) ≡ size + length s) → (xs : List A) → length (written put xs) ≡ length xs * size
written_long put size grown h [] = omega arith
written_long put size grown h (x ∷ xs) = omega (arith, h x (written put xs), grown (length xs), written_long put size grown h xs)

none_found : (P : ℕ → Type 0) (n : ℕ) → ((j : ℕ) → j < n → P j → ⊥) → (o : Option ℕ) → Found P 0 n o → o ≡ None
none_found P n h None f = refl
none_found P n h (Some i) f = absurd (h i (omega (arith, f.1)) f.2)

-- The whole.

module _ (c : Contents) (ok : Form c) (rest : List ℕ) where
  abbrev es : List Expr
  es = c.exprs

  abbrev rs : List ℕ
  rs = c.rules

  abbrev from_rules : List ℕ
  from_rules = wide (length rs) (written wide rs ++ rest)

  abbrev from_exprs : List ℕ
  from_exprs = wide (length es) (written bytes.expression es ++ from_rules)

  abbrev pub whole : Layout
  whole = record {
    text = cut (length c.text) c.text from_exprs;
    exprs = cut (length es) (written bytes.expression es) from_rules;
    rules = cut (length rs) (written wide rs) rest;
  }

  -- the bytes, section by section
  regrouped : encode c ++ rest ≡ wide (length c.text) (c.text ++ from_exprs)
  regrouped =
      ap (wide (length c.text))
      (append_assoc c.text (wide (length es) (written bytes.expression es ++ wide (length rs) (written wide rs))) rest
      ∙ ap (λ s. c.text ++ wide (length es) s) (append_assoc (written bytes.expression es) (wide (length rs) (written wide rs)) rest))

  pub layout_written : layout (encode c ++ rest) ≡ Ok whole
  layout_written =
      let laid = ok.laid in
      let text = piece_written section.Text 0 1024 1 (length c.text) c.text from_exprs (omega arith) (omega arith) laid.text_most in
      let exprs = piece_written section.Expressions 1 512 5 (length es) (written bytes.expression es) from_rules
      (written_long bytes.expression 5 (λ m. omega arith) (λ x s. (record_long (counts whole) 0 s x).1) es) laid.exprs_least laid.exprs_most in
      let rules = piece_written section.Rules 1 64 2 (length rs) (written wide rs) rest
      (written_long wide 2 (λ m. omega arith) (λ x s. omega arith) rs) laid.rules_least laid.rules_most in
      ap layout regrouped ∙ then_is _ text (then_is _ exprs (then_is _ rules refl))

  records_written : each (record_at (counts whole)) 5 (length es) 0 (written bytes.expression es) ≡ Ok es
  records_written =
      each_written (record_at (counts whole)) 5 bytes.expression
      (λ n x. Fields (length c.text) (length rs) x × Later n (length es) (parts x))
      (λ n x s p. record_written (counts whole) n s x p.0 p.1) (λ x s. (record_long (counts whole) 0 s x).0) (Range 0 0) es 0
      (λ i l. let z : i ≡ 0 + i = omega arith in
      (ok.laid.fields i l, subst (λ m. Later m (length es) (parts (at es i))) z (ok.laid.ordered i l)))

  bodies_written : each (body_at (length es)) 2 (length rs) 0 (written wide rs) ≡ Ok rs
  bodies_written =
      each_written (body_at (length es)) 2 wide (λ r b. b < length es)
      (λ r b s h. let t : ltb b (length es) ≡ true = lt-ltb b (length es) h in rw (wide_read b, t)) (λ b s. refl) 0 rs 0 ok.laid.bodies

  laws_hold : lawful es rs ≡ Ok tt
  laws_hold =
      let ord = ok.laid.ordered in
      let deep : first_too_deep es ≡ None = none_found (TooDeep es) (length es) ok.shallow (first_too_deep es) (deep_found es ord) in
      let repeats : first_nullable_repeat es rs ≡ None =
      none_found (NullablePart es rs) (length es) ok.repeats_take (first_nullable_repeat es rs) (repeats_found es ord rs) in
      let recursion : first_left_recursive es rs ≡ None =
      none_found (LeftRecursive es rs) (length rs) ok.no_left_recursion (first_left_recursive es rs) (recursion_found es ord rs) in
      then_is _ (ap (unless NestedTooDeep section.Expressions) deep)
      (then_is _ (ap (unless NullableRepeat section.Expressions) repeats) (ap (unless LeftRecursion section.Rules) recursion))

  pub contents_written : contents whole ≡ Ok c
  contents_written = then_is _ records_written (then_is _ bodies_written (then_is _ laws_hold refl))
