-- Told: what a call told, where memory did not fail, has a property, seen as the definitions see it.
-- contents_of: what a grammar holds. front_of: the same, with the number of its bytes.
-- piece_of, layout_of: the sections of a file, as the definitions see them. Split: sections that some bytes were cut into.
-- error_text: why a check gave no grammar, as it is printed.
use Rattle.std.specs.Prelude.{◌≡◌, ℕ, List, codes, Ok, Err, vec_items, Result}
use Rattle.form.specs.declared.fault.Fault.{Fault}
use Rattle.form.specs.Faults.{fault_text}
use Rattle.form.specs.Form.{Contents, holding}
use Rattle.form.specs.Bytes.{AllBytes}
use Rattle.form.specs.Verdict as verdict
use Rattle.grammar.specs.declared.error.CheckError.{CheckError}
use Rattle.grammar.specs.declared.error.CheckError.TheVariants.{OutOfMemory, Faulty}
use Rattle.grammar.specs.declared.grammar.Grammar.{Grammar}
use Rattle.grammar.specs.declared.sections.Piece.{Piece}
use Rattle.grammar.specs.declared.sections.Layout.{Layout}

abbrev pub Told : {A B : Type 0} → (A → B) → (Result B Fault → Type 0) → Result A CheckError → Type 0
Told view P (Ok x) = P (Ok (view x))
Told view P (Err OutOfMemory) = Unit {0}
Told view P (Err (Faulty f)) = P (Err f)

abbrev pub contents_of : Grammar → Contents
contents_of g = holding (vec_items g.text) (vec_items g.exprs) (vec_items g.rules)

abbrev pub front_of : Grammar × ℕ → Contents × ℕ
front_of x = (contents_of x.0, x.1)

abbrev pub same : {A : Type 0} → A → A
same x = x

abbrev pub piece_of : Piece → verdict.Piece
piece_of p = record { count = p.count; bytes = p.bytes.now; after = p.after.now }

abbrev pub layout_of : Layout → verdict.Layout
layout_of l = record { text = piece_of l.text; exprs = piece_of l.exprs; rules = piece_of l.rules }

abbrev pub piece_told : Result Piece Fault → Result verdict.Piece Fault
piece_told (Ok p) = Ok (piece_of p)
piece_told (Err f) = Err f

abbrev pub layout_told : Result Layout Fault → Result verdict.Layout Fault
layout_told (Ok l) = Ok (layout_of l)
layout_told (Err f) = Err f

pub record Split (l : verdict.Layout) : Type 0 where
  pub from : List ℕ
  pub are_bytes : AllBytes from
  pub is : verdict.layout from ≡ Ok l

abbrev pub error_text : CheckError → List ℕ
error_text OutOfMemory = codes "out of memory"
error_text (Faulty f) = fault_text f
