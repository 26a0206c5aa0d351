-- What the sections, records and rules that were read are: contents in order, and these are the bytes.
use Rattle.std.proofs.Common.{◌≡◌, ℕ, zero, suc, ◌+◌, ◌*◌, ◌/◌, ◌%◌, ◌<◌, ◌≤◌, Bool, true, ◌&&◌, ◌||◌, eqb, ltb, leb, List, [], ◌∷◌, ◌++◌, length, get_or, take, drop, Ok, Err, Result}
use Rattle.std.proofs.Common.{sym, refl, ap, ◌∙◌, subst, ap₂, inl, inr, arith, length-append, length-drop}
use Rattle.std.proofs.lemmas.List.{length-take-le, take-append-drop, append_assoc, nil_from_length, get_or_past}
use Rattle.std.proofs.lemmas.List.Elements.{All-take, All-drop}
use Rattle.std.proofs.lemmas.Bool.{cases_lt, ltb-true, ltb-false, leb-true, eqb-true, and_parts, or_parts}
use Rattle.form.specs.declared.expr.Counts.{Counts}
use Rattle.form.specs.declared.expr.Expr.{Expr}
use Rattle.form.specs.declared.expr.Expr.TheVariants.{Empty, Text, Range, Rule, Sequence, Choice, Repeat, Ahead, Absent, Node, Link, Fold, Tag}
use Rattle.form.specs.declared.fault.Fault.{Fault}
use Rattle.form.specs.declared.fault.FaultKind.{FaultKind}
use Rattle.form.specs.declared.fault.FaultKind.TheVariants.{EndsEarly, CountOutOfLimits, UnknownKind, FieldOutOfRange, PartNotAllowed}
use Rattle.form.specs.declared.fault.Section.{Section}
use Rattle.form.specs.declared.fault.Section.TheVariants as section
use Rattle.form.specs.Faults.{fault, and_then}
use Rattle.form.specs.Records.{at, parts, Later}
use Rattle.form.specs.Form.{Contents, Fields, Laid}
use Rattle.form.specs.Bytes.{wide, fields, written, encode, AllBytes}
use Rattle.form.specs.Bytes as bytes
use Rattle.form.specs.Verdict.{Piece, wide_at, piece, Layout, layout, allow, is_part, one_part, expression, record_at, body_at, each, counts}
use Rattle.form.proofs.Yields.{ok_is, then_ok, Yields, of_cond, of_ok, of_err}

byte_at : (s : List ℕ) → AllBytes s → (i : ℕ) → get_or s i 0 < 256
byte_at s h i = elim (cases_lt i (length s)) [ inl l ↦ h i 0 l | inr past ↦ rw (get_or_past s i 0 past) (omega arith) ]

wide_fits : (s : List ℕ) → AllBytes s → (i : ℕ) → wide_at s i ≤ 65535
wide_fits s h i = omega (arith, byte_at s h i, byte_at s h (i + 1))

wide_is : (h l : ℕ) (s : List ℕ) → l < 256 → wide (h * 256 + l) s ≡ h ∷ l ∷ s
wide_is h l s b =
    let high : (h * 256 + l) / 256 ≡ h = omega arith in
    let low : (h * 256 + l) % 256 ≡ l = omega arith in
    ap₂ (λ x y. x ∷ y ∷ s) high low

wide_front : (s : List ℕ) → 2 ≤ length s → AllBytes s → wide (wide_at s 0) (drop 2 s) ≡ s
wide_front [] l h = absurd (omega arith)
wide_front (x ∷ []) l h = absurd (omega arith)
wide_front (x ∷ y ∷ s) l h = wide_is x y s (h 1 0 (omega arith))

fields_front : (s : List ℕ) → 5 ≤ length s → AllBytes s → fields (get_or s 0 0) (wide_at s 1) (wide_at s 3) (drop 5 s) ≡ s
fields_front [] l h = absurd (omega arith)
fields_front (k ∷ []) l h = absurd (omega arith)
fields_front (k ∷ a ∷ []) l h = absurd (omega arith)
fields_front (k ∷ a ∷ b ∷ s) l h =
    ap (λ t. k ∷ wide (wide_at (a ∷ b ∷ s) 0) t) (wide_front s (omega arith) (All-drop (λ x. x < 256) 3 (k ∷ a ∷ b ∷ s) h))
    ∙ ap (λ t. k ∷ t) (wide_is a b s (h 2 0 (omega arith)))

-- A section.

pub record PieceRead (low high size : ℕ) (bs : List ℕ) (p : Piece) : Type 0 where
  pub long : length p.bytes ≡ p.count * size
  pub least : low ≤ p.count
  pub most : p.count ≤ high
  pub is : bs ≡ wide p.count (p.bytes ++ p.after)
  pub bytes_are : AllBytes p.bytes
  pub after_are : AllBytes p.after

piece_read : (s : Section) (low high size : ℕ) (bs : List ℕ) → AllBytes bs → Yields (PieceRead low high size bs) (piece s low high size bs)
piece_read s low high size bs h =
    let P : Piece → Type 0 = PieceRead low high size bs in
    let n : ℕ = wide_at bs 0 in
    let rest : List ℕ = drop 2 bs in
    of_cond P (ltb (length bs) 2) _ _ (λ q. of_err P (fault EndsEarly s 0)) (λ q.
    of_cond P (ltb n low || ltb high n) _ _ (λ t. of_err P (fault CountOutOfLimits s 0)) (λ t.
    of_cond P (ltb (length rest) (n * size)) _ _ (λ u. of_err P (fault EndsEarly s 0)) (λ u.
    of_ok P (record { count = n; bytes = take (n * size) rest; after = drop (n * size) rest })
    (record {
      long = length-take-le (n * size) rest (ltb-false (length rest) (n * size) u);
      least = ltb-false n low (or_parts (ltb n low) (ltb high n) t).0;
      most = ltb-false high n (or_parts (ltb n low) (ltb high n) t).1;
      is = sym (ap (wide n) (take-append-drop (n * size) rest) ∙ wide_front bs (ltb-false (length bs) 2 q) h);
      bytes_are = All-take (λ b. b < 256) (n * size) rest (All-drop (λ b. b < 256) 2 bs h);
      after_are = All-drop (λ b. b < 256) (n * size) rest (All-drop (λ b. b < 256) 2 bs h);
    }))))

pub record LayoutRead (bs : List ℕ) (l : Layout) : Type 0 where
  pub text : PieceRead 0 1024 1 bs l.text
  pub exprs : PieceRead 1 512 5 l.text.after l.exprs
  pub rules : PieceRead 1 64 2 l.exprs.after l.rules

layout_read : (bs : List ℕ) → AllBytes bs → Yields (LayoutRead bs) (layout bs)
layout_read bs h l q =
    let u = then_ok (piece section.Text 0 1024 1 bs) _ l q in
    let v = then_ok (piece section.Expressions 1 512 5 u.0.after) _ l u.2 in
    let w = then_ok (piece section.Rules 1 64 2 v.0.after) _ l v.2 in
    let a = piece_read section.Text 0 1024 1 bs h u.0 u.1 in
    let b = piece_read section.Expressions 1 512 5 u.0.after a.after_are v.0 v.1 in
    let c = piece_read section.Rules 1 64 2 v.0.after b.after_are w.0 w.1 in
    of_ok (LayoutRead bs) (record { text = u.0; exprs = v.0; rules = w.0 }) (record { text = a; exprs = b; rules = c }) l w.2

pub rest_short : (bs : List ℕ) → AllBytes bs → Yields (λ l. length l.rules.after ≤ length bs) (layout bs)
rest_short bs h l q =
    let s = layout_read bs h l q in
    omega (
      arith,
      ap length s.text.is,
      length-append l.text.bytes l.text.after,
      ap length s.exprs.is,
      length-append l.exprs.bytes l.exprs.after,
      ap length s.rules.is,
      length-append l.rules.bytes l.rules.after,
    )

-- A record.

module _ (c : Counts) (n kind a b : ℕ) (fits : a ≤ 65535) where
  pub record RecordRead (x : Expr) : Type 0 where
    pub in_range : Fields c.text c.rules x
    pub later : Later n c.exprs (parts x)
    pub is : (s : List ℕ) → fields kind a b s ≡ bytes.expression x s

  kind_is : (i : ℕ) → eqb kind i ≡ true → (s : List ℕ) → fields kind a b s ≡ fields i a b s
  kind_is i q s = ap (λ j. fields j a b s) (eqb-true kind i q)

  -- the second field is not used
  one_is : (i : ℕ) → eqb kind i ≡ true → eqb b 0 ≡ true → (s : List ℕ) → fields kind a b s ≡ fields i a 0 s
  one_is i q z s = ap₂ (λ j d. fields j a d s) (eqb-true kind i q) (eqb-true b 0 z)

  is_part_lem : (d : ℕ) → is_part c n d ≡ true → (n < d) × (d < c.exprs)
  is_part_lem d t = let p = and_parts (ltb n d) (ltb d c.exprs) t in (ltb-true n d p.0, ltb-true d c.exprs p.1)

  allowed : (t : Bool) (k : FaultKind) (x : Expr) → (t ≡ true → RecordRead x) → Yields RecordRead (allow t k n x)
  allowed t k x h =
      of_cond RecordRead t (Ok x) (Err (fault k section.Expressions n)) (λ q. of_ok RecordRead x (h q)) (λ q. of_err RecordRead (fault k section.Expressions n))

  one_part_lem : (i : ℕ) (x : Expr) → eqb kind i ≡ true
      → (Later n c.exprs (a ∷ []) → ((s : List ℕ) → fields kind a b s ≡ fields i a 0 s) → RecordRead x) → Yields RecordRead (one_part c n a b x)
  one_part_lem i x q h =
      of_cond RecordRead (eqb b 0) (allow (is_part c n a) PartNotAllowed n x) (Err (fault FieldOutOfRange section.Expressions n))
      (λ z. allowed (is_part c n a) PartNotAllowed x (λ t. let p = is_part_lem a t in h (p.0, p.1, tt) (one_is i q z)))
      (λ z. of_err RecordRead (fault FieldOutOfRange section.Expressions n))

  two_parts_lem : (i : ℕ) (x : Expr) → eqb kind i ≡ true
      → (Later n c.exprs (a ∷ b ∷ []) → ((s : List ℕ) → fields kind a b s ≡ fields i a b s) → RecordRead x)
      → Yields RecordRead (allow (is_part c n a && is_part c n b) PartNotAllowed n x)
  two_parts_lem i x q h =
      allowed (is_part c n a && is_part c n b) PartNotAllowed x
      (λ t. let p = and_parts (is_part c n a) (is_part c n b) t in
      let first = is_part_lem a p.0 in
      let second = is_part_lem b p.1 in
      h (first.0, first.1, (second.0, second.1, tt)) (kind_is i q))

  pub record_read : Yields RecordRead (expression c n kind a b)
  record_read =
      let R : Expr → Type 0 = RecordRead in
      of_cond R (eqb kind 0) _ _ (λ q. allowed (eqb a 0 && eqb b 0) FieldOutOfRange Empty (λ t.
      let p = and_parts (eqb a 0) (eqb b 0) t in
      record { in_range = tt; later = tt; is = λ s. one_is 0 q p.1 s ∙ ap (λ d. fields 0 d 0 s) (eqb-true a 0 p.0) })) (λ _.
      of_cond R (eqb kind 1) _ _ (λ q. allowed (leb 1 b && (leb b 255 && leb (a + b) c.text)) FieldOutOfRange (Text a b) (λ t.
      let p = and_parts (leb 1 b) (leb b 255 && leb (a + b) c.text) t in
      let r = and_parts (leb b 255) (leb (a + b) c.text) p.1 in
      record { in_range = (leb-true 1 b p.0, leb-true b 255 r.0, leb-true (a + b) c.text r.1); later = tt; is = kind_is 1 q })) (λ _.
      of_cond R (eqb kind 2) _ _ (λ q. allowed (leb a b && leb b 255) FieldOutOfRange (Range a b) (λ t.
      let p = and_parts (leb a b) (leb b 255) t in
      record { in_range = (leb-true a b p.0, leb-true b 255 p.1); later = tt; is = kind_is 2 q })) (λ _.
      of_cond R (eqb kind 3) _ _ (λ q. allowed (ltb a c.rules && eqb b 0) FieldOutOfRange (Rule a) (λ t.
      let p = and_parts (ltb a c.rules) (eqb b 0) t in
      record { in_range = ltb-true a c.rules p.0; later = tt; is = one_is 3 q p.1 })) (λ _.
      of_cond R (eqb kind 4) _ _ (λ q. two_parts_lem 4 (Sequence a b) q (λ l w. record { in_range = tt; later = l; is = w })) (λ _.
      of_cond R (eqb kind 5) _ _ (λ q. two_parts_lem 5 (Choice a b) q (λ l w. record { in_range = tt; later = l; is = w })) (λ _.
      of_cond R (eqb kind 6) _ _ (λ q. one_part_lem 6 (Repeat a) q (λ l w. record { in_range = tt; later = l; is = w })) (λ _.
      of_cond R (eqb kind 7) _ _ (λ q. one_part_lem 7 (Ahead a) q (λ l w. record { in_range = tt; later = l; is = w })) (λ _.
      of_cond R (eqb kind 8) _ _ (λ q. one_part_lem 8 (Absent a) q (λ l w. record { in_range = tt; later = l; is = w })) (λ _.
      of_cond R (eqb kind 9) _ _ (λ q. one_part_lem 9 (Node a) q (λ l w. record { in_range = tt; later = l; is = w })) (λ _.
      of_cond R (eqb kind 10) _ _ (λ q. one_part_lem 10 (Link a) q (λ l w. record { in_range = tt; later = l; is = w })) (λ _.
      of_cond R (eqb kind 11) _ _ (λ q. one_part_lem 11 (Fold a) q (λ l w. record { in_range = tt; later = l; is = w })) (λ _.
      of_cond R (eqb kind 12) _ _ (λ q. allowed (leb 1 a && eqb b 0) FieldOutOfRange (Tag a) (λ t.
      let p = and_parts (leb 1 a) (eqb b 0) t in
      record { in_range = (leb-true 1 a p.0, fits); later = tt; is = one_is 12 q p.1 })) (λ _.
      of_err R (fault UnknownKind section.Expressions n))))))))))))))

-- Items one by one: each has a property at its number, and they are the bytes.

pub record ItemsRead {A : Type 0} (put : A → List ℕ → List ℕ) (P : ℕ → A → Type 0) (d : A) (m n : ℕ) (bs : List ℕ) (xs : List A) : Type 0 where
  pub long : length xs ≡ m
  pub all : (i : ℕ) → i < length xs → P (n + i) (get_or xs i d)
  pub is : bs ≡ written put xs

module _ {A : Type 0} (one : ℕ → List ℕ → Result A Fault) (size : ℕ) (put : A → List ℕ → List ℕ) (P : ℕ → A → Type 0) (d : A)
    (grown : (m : ℕ) → suc m * size ≡ size + m * size)
    (item : (n : ℕ) (bs : List ℕ) → AllBytes bs → size ≤ length bs → Yields (λ x. P n x × (bs ≡ put x (drop size bs))) (one n bs)) where
  abbrev Items : ℕ → ℕ → List ℕ → List A → Type 0
  Items = ItemsRead put P d

  none_read : (n : ℕ) (bs : List ℕ) → length bs ≡ 0 → Items 0 n bs []
  none_read n bs l = record { long = refl; all = λ i h. absurd (omega arith); is = nil_from_length bs l }

  one_more : (n : ℕ) (x : A) (xs : List A) → P n x → ((i : ℕ) → i < length xs → P ((n + 1) + i) (get_or xs i d))
      → (i : ℕ) → i < length (x ∷ xs) → P (n + i) (get_or (x ∷ xs) i d)
  one_more n x xs p h zero l = let z : n ≡ n + zero = omega arith in subst (λ j. P j x) z p
  one_more n x xs p h (suc i) l = let z : (n + 1) + i ≡ n + suc i = omega arith in subst (λ j. P j (get_or xs i d)) z (h i (omega arith))

  items_read : (m n : ℕ) (bs : List ℕ) → length bs ≡ m * size → AllBytes bs → Yields (Items m n bs) (each one size m n bs)
  items_read zero n bs l h xs q = of_ok (Items zero n bs) [] (none_read n bs (omega arith)) xs q
  items_read (suc m) n bs l h xs q =
      let u = then_ok (one n bs) (λ x. and_then (each one size m (n + 1) (drop size bs)) (λ ys. Ok (x ∷ ys))) xs q in
      let v = then_ok (each one size m (n + 1) (drop size bs)) (λ ys. Ok (u.0 ∷ ys)) xs u.2 in
      let front = item n bs h (omega (arith, grown m)) u.0 u.1 in
      let rest = items_read m (n + 1) (drop size bs) (length-drop size bs ∙ omega (arith, grown m)) (All-drop (λ b. b < 256) size bs h) v.0 v.1 in
      subst (Items (suc m) n bs) (ok_is (u.0 ∷ v.0) xs v.2)
      (record {
        long = ap suc rest.long;
        all = one_more n u.0 v.0 front.0 rest.all;
        is = front.1 ∙ ap (put u.0) rest.is;
      })

-- record n of a file with these counts stands as it should
abbrev Stands : Counts → ℕ → Expr → Type 0
Stands c n x = Fields c.text c.rules x × Later n c.exprs (parts x)

records_read : (c : Counts) (m : ℕ) (bs : List ℕ) → length bs ≡ m * 5 → AllBytes bs
    → Yields (ItemsRead bytes.expression (Stands c) (Range 0 0) m 0 bs) (each (record_at c) 5 m 0 bs)
records_read c m bs =
    items_read (record_at c) 5 bytes.expression (Stands c) (Range 0 0) (λ k. omega arith)
    (λ n s h l x q.
    let r = record_read c n (get_or s 0 0) (wide_at s 1) (wide_at s 3) (wide_fits s h 1) x q in
    ((r.in_range, r.later), sym (fields_front s l h) ∙ r.is (drop 5 s)))
    m 0 bs

bodies_read : (n m : ℕ) (bs : List ℕ) → length bs ≡ m * 2 → AllBytes bs
    → Yields (ItemsRead wide (λ r b. b < n) 0 m 0 bs) (each (body_at n) 2 m 0 bs)
bodies_read n m bs =
    items_read (body_at n) 2 wide (λ r b. b < n) 0 (λ k. omega arith)
    (λ r s h l.
    let P : ℕ → Type 0 = λ b. (b < n) × (s ≡ wide b (drop 2 s)) in
    of_cond P (ltb (wide_at s 0) n) _ _
    (λ t. of_ok P (wide_at s 0) (ltb-true (wide_at s 0) n t, sym (wide_front s l h)))
    (λ t. of_err P (fault PartNotAllowed section.Rules r)))
    m 0 bs

-- The three sections together.

module _ (bs : List ℕ) (are_bytes : AllBytes bs) (l : Layout) (laid_out : layout bs ≡ Ok l)
    (es : List Expr) (es_are : each (record_at (counts l)) 5 l.exprs.count 0 l.exprs.bytes ≡ Ok es)
    (rs : List ℕ) (rs_are : each (body_at l.exprs.count) 2 l.rules.count 0 l.rules.bytes ≡ Ok rs) where
  abbrev c : Contents
  c = record { text = l.text.bytes; exprs = es; rules = rs }

  sections : LayoutRead bs l
  sections = layout_read bs are_bytes l laid_out

  records : ItemsRead bytes.expression (Stands (counts l)) (Range 0 0) l.exprs.count 0 l.exprs.bytes es
  records = records_read (counts l) l.exprs.count l.exprs.bytes sections.exprs.long sections.exprs.bytes_are es es_are

  bodies : ItemsRead wide (λ r b. b < l.exprs.count) 0 l.rules.count 0 l.rules.bytes rs
  bodies = bodies_read l.exprs.count l.rules.count l.rules.bytes sections.rules.long sections.rules.bytes_are rs rs_are

  text_long : length l.text.bytes ≡ l.text.count
  text_long = omega (arith, sections.text.long)

  stands : (k : ℕ) → k < length es → Fields (length l.text.bytes) (length rs) (at es k) × Later k (length es) (parts (at es k))
  stands k h =
      let z : 0 + k ≡ k = omega arith in
      let s : Stands (counts l) k (at es k) = subst (λ j. Stands (counts l) j (at es k)) z (records.all k h) in (
        rw (text_long, bodies.long) s.0,
        subst (λ n. Later k n (parts (at es k))) (sym records.long) s.1,
      )

  pub laid_read : Laid c
  laid_read = record {
    text_most = omega (arith, text_long, sections.text.most);
    exprs_least = omega (arith, records.long, sections.exprs.least);
    exprs_most = omega (arith, records.long, sections.exprs.most);
    rules_least = omega (arith, bodies.long, sections.rules.least);
    rules_most = omega (arith, bodies.long, sections.rules.most);
    fields = λ k h. (stands k h).0;
    ordered = λ k h. (stands k h).1;
    bodies = λ r h. omega (arith, bodies.all r h, records.long);
  }

  pub bytes_read : bs ≡ encode c ++ l.rules.after
  bytes_read =
      let W : List ℕ = written bytes.expression es in
      let V : List ℕ = written wide rs in
      let rest : List ℕ = l.rules.after in
      let r : l.exprs.after ≡ wide (length rs) V ++ rest =
      sections.rules.is ∙ ap₂ (λ n s. wide n (s ++ rest)) (sym bodies.long) bodies.is in
      let e : l.text.after ≡ wide (length es) (W ++ wide (length rs) V) ++ rest =
      sections.exprs.is ∙ ap₂ wide (sym records.long) (ap₂ (λ s t. s ++ t) records.is r ∙ sym (append_assoc W (wide (length rs) V) rest)) in
      sections.text.is
      ∙ ap₂ wide (sym text_long) (ap (λ t. l.text.bytes ++ t) e ∙ sym (append_assoc l.text.bytes (wide (length es) (W ++ wide (length rs) V)) rest))
