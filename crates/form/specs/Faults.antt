-- fault: a fault of a kind, in a section, at a record or rule.
-- number: the number of a kind of fault, 1 to 9. section_number: that of a section, 0 to 3.
-- fault_text: a fault as it is printed.
-- and_then: the next check, where the one before found no fault.
use Rattle.std.specs.Prelude.{ℕ, List, ◌++◌, codes, Ok, Err, Result}
use Rattle.std.specs.Fmt.{decimal}
use Rattle.form.specs.declared.fault.Fault.{Fault}
use Rattle.form.specs.declared.fault.FaultKind.{FaultKind}
use Rattle.form.specs.declared.fault.FaultKind.TheVariants.{EndsEarly, TrailingBytes, CountOutOfLimits, UnknownKind, FieldOutOfRange, PartNotAllowed, NestedTooDeep, NullableRepeat, LeftRecursion}
use Rattle.form.specs.declared.fault.Section.{Section}
use Rattle.form.specs.declared.fault.Section.TheVariants.{File, Text, Expressions, Rules}

abbrev pub fault : FaultKind → Section → ℕ → Fault
fault k s i = record { kind = k; section = s; index = i }

abbrev pub number : FaultKind → ℕ
number EndsEarly = 1
number TrailingBytes = 2
number CountOutOfLimits = 3
number UnknownKind = 4
number FieldOutOfRange = 5
number PartNotAllowed = 6
number NestedTooDeep = 7
number NullableRepeat = 8
number LeftRecursion = 9

abbrev pub section_number : Section → ℕ
section_number File = 0
section_number Text = 1
section_number Expressions = 2
section_number Rules = 3

abbrev pub fault_text : Fault → List ℕ
fault_text f = codes "book " ++ decimal (number f.kind) ++ codes " " ++ decimal (section_number f.section) ++ codes " " ++ decimal f.index

abbrev pub and_then : {A B : Type 0} → Result A Fault → (A → Result B Fault) → Result B Fault
and_then (Ok a) next = next a
and_then (Err f) next = Err f
