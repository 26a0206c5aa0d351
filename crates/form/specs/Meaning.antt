-- Found: the answer of a look through numbers: the lowest that has a property, or none where none has.
-- Explained: a fault that was worked out by tables is one in words: the lowest record or rule at fault.
-- Meant: what the verdict on a whole file means. FrontMeant: what the verdict on the front of longer bytes means.
use Rattle.std.specs.Prelude.{◌≡◌, ℕ, ◌+◌, ◌<◌, ◌≤◌, List, ◌++◌, length, take, Some, None, Ok, Err, Option, Result, ◌≢◌}
use Rattle.form.specs.declared.fault.Fault.{Fault}
use Rattle.form.specs.declared.fault.FaultKind.{FaultKind}
use Rattle.form.specs.declared.fault.FaultKind.TheVariants.{EndsEarly, TrailingBytes, CountOutOfLimits, UnknownKind, FieldOutOfRange, PartNotAllowed, NestedTooDeep, NullableRepeat, LeftRecursion}
use Rattle.form.specs.Nullable.{NullablePart}
use Rattle.form.specs.Heads.{LeftRecursive}
use Rattle.form.specs.Nesting.{TooDeep}
use Rattle.form.specs.Form.{Contents, Laid, Form}
use Rattle.form.specs.Bytes.{encode}

-- among the n numbers from k on
abbrev pub Found : (ℕ → Type 0) → ℕ → ℕ → Option ℕ → Type 0
Found P k n None = (j : ℕ) → k ≤ j → j < k + n → P j → ⊥
Found P k n (Some i) = (k ≤ i) × (i < k + n) × P i × ((j : ℕ) → k ≤ j → j < i → P j → ⊥)

-- the bytes begin with contents that are in order, and have a property
pub record Begins (bs : List ℕ) (P : Contents → Type 0) : Type 0 where
  pub begun : Contents
  pub rest : List ℕ
  pub is : bs ≡ encode begun ++ rest
  pub laid : Laid begun
  pub has : P begun

-- a fault in records or rules as a whole is at the lowest number; a fault of another kind is read off the bytes
abbrev pub Explained : List ℕ → FaultKind → ℕ → Type 0
Explained bs EndsEarly i = Unit {0}
Explained bs TrailingBytes i = Unit {0}
Explained bs CountOutOfLimits i = Unit {0}
Explained bs UnknownKind i = Unit {0}
Explained bs FieldOutOfRange i = Unit {0}
Explained bs PartNotAllowed i = Unit {0}
Explained bs NestedTooDeep i = Begins bs (λ c. Found (TooDeep c.exprs) 0 (length c.exprs) (Some i))
Explained bs NullableRepeat i = Begins bs (λ c. Found (NullablePart c.exprs c.rules) 0 (length c.exprs) (Some i))
Explained bs LeftRecursion i = Begins bs (λ c. Found (LeftRecursive c.exprs c.rules) 0 (length c.rules) (Some i))

-- accepted exactly when the bytes are those of contents that have the form
abbrev pub Meant : List ℕ → Result Contents Fault → Type 0
Meant bs (Ok c) = (bs ≡ encode c) × Form c
Meant bs (Err f) = ((c : Contents) → Form c → bs ≢ encode c) × Explained bs f.kind f.index

-- the same of the first n bytes
abbrev pub FrontMeant : List ℕ → Result (Contents × ℕ) Fault → Type 0
FrontMeant bs (Ok (c, n)) = (n ≤ length bs) × (take n bs ≡ encode c) × Form c
FrontMeant bs (Err f) = ((c : Contents) (rest : List ℕ) → Form c → bs ≢ encode c ++ rest) × Explained bs f.kind f.index
