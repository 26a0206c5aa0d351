-- verdict: what the check of a grammar file answers: its contents, or the first fault in the order of the checks.
-- front_verdict: the same of a grammar at the front of longer bytes, with the number of its bytes.
use Rattle.std.specs.Prelude.{ℕ, zero, suc, ◌+◌, ◌-◌, ◌*◌, Bool, cond, ◌&&◌, ◌||◌, ltb, List, [], ◌∷◌, length, take, drop, Some, None, Ok, Err, Option, Result, ◌==◌, nat_le, nat_lt, slice_index}
use Rattle.form.specs.declared.expr.Counts.{Counts}
use Rattle.form.specs.declared.expr.Expr.{Expr}
use Rattle.form.specs.declared.expr.Expr.TheVariants.{Empty, Text, Range, Rule, Sequence, Choice, Repeat, Ahead, Absent, Node, Link, Fold, Tag}
use Rattle.form.specs.declared.fault.Fault.{Fault}
use Rattle.form.specs.declared.fault.FaultKind.{FaultKind}
use Rattle.form.specs.declared.fault.FaultKind.TheVariants.{EndsEarly, TrailingBytes, CountOutOfLimits, UnknownKind, FieldOutOfRange, PartNotAllowed, NestedTooDeep, NullableRepeat, LeftRecursion}
use Rattle.form.specs.declared.fault.Section.{Section}
use Rattle.form.specs.declared.fault.Section.TheVariants as section
use Rattle.form.specs.Faults.{fault, and_then}
use Rattle.form.specs.Records.{at}
use Rattle.form.specs.Form.{Contents}
use Rattle.form.specs.Tables.{nullables, repeats_marked, left_recursive, nestings, first_from}

-- Sections: in order, each for its count, the count's limits, and its bytes.

-- a section's count and bytes, and what follows them
pub record Piece : Type 0 where
  pub count : ℕ
  pub bytes : List ℕ
  pub after : List ℕ

-- two bytes as a number, high byte first
abbrev pub wide_at : List ℕ → ℕ → ℕ
wide_at bs i = slice_index bs i * 256 + slice_index bs (i + 1)

abbrev pub counted : Section → ℕ → ℕ → ℕ → ℕ → List ℕ → Result Piece Fault
counted s low high size n bs =
    cond (nat_lt n low || nat_lt high n) (Err (fault CountOutOfLimits s 0))
    (cond (nat_lt (length bs) (n * size)) (Err (fault EndsEarly s 0))
    (Ok (record { count = n; bytes = take (n * size) bs; after = drop (n * size) bs })))

-- low to high items of `size` bytes each
abbrev pub piece : Section → ℕ → ℕ → ℕ → List ℕ → Result Piece Fault
piece s low high size bs =
    cond (nat_lt (length bs) 2) (Err (fault EndsEarly s 0)) (counted s low high size (wide_at bs 0) (drop 2 bs))

pub record Layout : Type 0 where
  pub text : Piece
  pub exprs : Piece
  pub rules : Piece

abbrev pub layout : List ℕ → Result Layout Fault
layout bs =
    and_then (piece section.Text 0 1024 1 bs) (λ t.
    and_then (piece section.Expressions 1 512 5 t.after) (λ e.
    and_then (piece section.Rules 1 64 2 e.after) (λ r.
    Ok (record { text = t; exprs = e; rules = r }))))

abbrev pub ended : List ℕ → Result (Unit {0}) Fault
ended bs = cond (nat_lt 0 (length bs)) (Err (fault TrailingBytes section.File 0)) (Ok tt)

-- Records: in order, each for its kind, its fields and its parts.

abbrev pub allow : Bool → FaultKind → ℕ → Expr → Result Expr Fault
allow ok kind n e = cond ok (Ok e) (Err (fault kind section.Expressions n))

abbrev pub is_part : Counts → ℕ → ℕ → Bool
is_part c n a = nat_lt n a && nat_lt a c.exprs

abbrev pub one_part : Counts → ℕ → ℕ → ℕ → Expr → Result Expr Fault
one_part c n a b e = cond (b == 0) (allow (is_part c n a) PartNotAllowed n e) (Err (fault FieldOutOfRange section.Expressions n))

abbrev pub two_parts : Counts → ℕ → ℕ → ℕ → Expr → Result Expr Fault
two_parts c n a b e = allow (is_part c n a && is_part c n b) PartNotAllowed n e

abbrev pub text_record : Counts → ℕ → ℕ → ℕ → Result Expr Fault
text_record c n start len = allow (nat_le 1 len && (nat_le len 255 && nat_le (start + len) c.text)) FieldOutOfRange n (Text start len)

abbrev pub range_record : ℕ → ℕ → ℕ → Result Expr Fault
range_record n low high = allow (nat_le low high && nat_le high 255) FieldOutOfRange n (Range low high)

-- record n, of a kind, with the fields a and b
abbrev pub expression : Counts → ℕ → ℕ → ℕ → ℕ → Result Expr Fault
expression c n kind a b =
    cond (kind == 0) (allow (a == 0 && b == 0) FieldOutOfRange n Empty)
    (cond (kind == 1) (text_record c n a b)
    (cond (kind == 2) (range_record n a b)
    (cond (kind == 3) (allow (nat_lt a c.rules && b == 0) FieldOutOfRange n (Rule a))
    (cond (kind == 4) (two_parts c n a b (Sequence a b))
    (cond (kind == 5) (two_parts c n a b (Choice a b))
    (cond (kind == 6) (one_part c n a b (Repeat a))
    (cond (kind == 7) (one_part c n a b (Ahead a))
    (cond (kind == 8) (one_part c n a b (Absent a))
    (cond (kind == 9) (one_part c n a b (Node a))
    (cond (kind == 10) (one_part c n a b (Link a))
    (cond (kind == 11) (one_part c n a b (Fold a))
    (cond (kind == 12) (allow (nat_le 1 a && b == 0) FieldOutOfRange n (Tag a))
    (Err (fault UnknownKind section.Expressions n))))))))))))))

abbrev pub record_at : Counts → ℕ → List ℕ → Result Expr Fault
record_at c n bs = expression c n (slice_index bs 0) (wide_at bs 1) (wide_at bs 3)

-- Rules: the body of rule r is one of n records.

abbrev pub rule_body : ℕ → ℕ → ℕ → Result ℕ Fault
rule_body n r b = cond (nat_lt b n) (Ok b) (Err (fault PartNotAllowed section.Rules r))

abbrev pub body_at : ℕ → ℕ → List ℕ → Result ℕ Fault
body_at n r bs = rule_body n r (wide_at bs 0)

-- m items of `size` bytes each, from number n on: all of them, or the first fault
abbrev pub each : {A : Type 0} → (ℕ → List ℕ → Result A Fault) → ℕ → ℕ → ℕ → List ℕ → Result (List A) Fault
each one size zero n bs = Ok []
each one size (suc m) n bs =
    and_then (one n bs) (λ x. and_then (each one size m (n + 1) (drop size bs)) (λ xs. Ok (x ∷ xs)))

-- The whole: nesting, then repeats, then left recursion, each for the lowest number at fault.

abbrev pub unless : FaultKind → Section → Option ℕ → Result (Unit {0}) Fault
unless kind s None = Ok tt
unless kind s (Some i) = Err (fault kind s i)

abbrev pub first_too_deep : List Expr → Option ℕ
first_too_deep es = first_from (λ k. ltb 32 (slice_index (nestings es) k)) 0 (length es)

abbrev pub first_nullable_repeat : List Expr → List ℕ → Option ℕ
first_nullable_repeat es rs = first_from (λ k. repeats_marked (nullables es rs) (at es k)) 0 (length es)

abbrev pub first_left_recursive : List Expr → List ℕ → Option ℕ
first_left_recursive es rs = first_from (left_recursive es rs) 0 (length rs)

abbrev pub lawful : List Expr → List ℕ → Result (Unit {0}) Fault
lawful es rs =
    and_then (unless NestedTooDeep section.Expressions (first_too_deep es)) (λ _.
    and_then (unless NullableRepeat section.Expressions (first_nullable_repeat es rs)) (λ _.
    unless LeftRecursion section.Rules (first_left_recursive es rs)))

abbrev pub counts : Layout → Counts
counts l = record { text = l.text.count; exprs = l.exprs.count; rules = l.rules.count }

abbrev pub contents : Layout → Result Contents Fault
contents l =
    and_then (each (record_at (counts l)) 5 l.exprs.count 0 l.exprs.bytes) (λ es.
    and_then (each (body_at l.exprs.count) 2 l.rules.count 0 l.rules.bytes) (λ rs.
    and_then (lawful es rs) (λ _.
    Ok (record { text = l.text.bytes; exprs = es; rules = rs }))))

abbrev pub verdict : List ℕ → Result Contents Fault
verdict bs = and_then (layout bs) (λ l. and_then (ended l.rules.after) (λ _. contents l))

abbrev pub front_verdict : List ℕ → Result (Contents × ℕ) Fault
front_verdict bs = and_then (layout bs) (λ l. and_then (contents l) (λ c. Ok (c, length bs - length l.rules.after)))
