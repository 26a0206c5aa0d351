-- Question: a grammar file, and what is asked of it.
-- answer: what the definitions answer, as numbers. worked: questions with the answers that are expected.
use Rattle.std.specs.Prelude.{◌≡◌, ℕ, Bool, true, false, List, [], ◌∷◌, ◌++◌, map, Ok, Err, Result}
use Rattle.form.specs.declared.expr.Expr.TheVariants.{Empty, Text, Range, Rule, Sequence, Repeat, Node, Link, Fold, Tag}
use Rattle.form.specs.declared.fault.Fault.{Fault}
use Rattle.form.specs.Faults.{number, section_number}
use Rattle.form.specs.Form.{Contents, holding}
use Rattle.form.specs.Bytes.{encode}
use Rattle.form.specs.Verdict.{verdict}
use Rattle.reading.specs.declared.answer.Reading.{Reading}
use Rattle.reading.specs.declared.answer.Refusal.{Refusal}
use Rattle.reading.specs.declared.node.Node.{Node as TableNode}
use Rattle.reading.specs.Tree.{Tree, bodies}
use Rattle.reading.specs.Building.{Draft, tree, none}
use Rattle.reading.specs.Answer.{judged, numbers}

-- what is asked: whether the file is a grammar, or what a rule reads at a position of an input
pub data Question : Type 0 where
  checked : List ℕ → Question
  asked : List ℕ → List ℕ → ℕ → ℕ → Question

-- a node's seven numbers, node after node
abbrev pub listed : List TableNode → List ℕ
listed [] = []
listed (x ∷ xs) = x.tag ∷ x.from ∷ x.to ∷ x.up ∷ x.first ∷ x.last ∷ x.next ∷ listed xs

-- of a match, the root and the table
abbrev pub built_if : Bool → Draft → List ℕ
built_if true h = h.current ∷ listed h.table
built_if false h = []

abbrev pub built : Result Reading Refusal → Draft → List ℕ
built (Ok d) h = built_if d.matched h
built (Err f) h = []

abbrev pub reading : List Tree → List ℕ → ℕ → ℕ → List ℕ
reading g w r p = numbers (judged g w r p) ++ built (judged g w r p) (tree g w r p)

-- a fault as its number, its section and its index
abbrev pub faulty : Fault → List ℕ
faulty f = number f.kind ∷ section_number f.section ∷ f.index ∷ []

abbrev pub check_answer : Result Contents Fault → List ℕ
check_answer (Ok c) = []
check_answer (Err f) = faulty f

abbrev pub ask_answer : Result Contents Fault → List ℕ → ℕ → ℕ → List ℕ
ask_answer (Ok c) w r p = reading (bodies c) w r p
ask_answer (Err f) w r p = faulty f

abbrev pub answer : Question → List ℕ
answer (checked file) = check_answer (verdict file)
answer (asked file w r p) = ask_answer (verdict file) w r p

-- Grammars and inputs.

-- rule 0: rule 1, then a repeat of fold of (`+`, link of rule 1, tag 2). Rule 1: node of (a digit, tag 1).
abbrev pub sum_grammar : List ℕ
sum_grammar = encode (holding (43 ∷ [])
    (Sequence 1 2 ∷ Rule 1 ∷ Repeat 3 ∷ Fold 4 ∷ Sequence 5 6 ∷ Text 0 1 ∷ Sequence 7 9 ∷ Link 8 ∷ Rule 1 ∷ Tag 2
    ∷ Node 11 ∷ Sequence 12 13 ∷ Range 48 57 ∷ Tag 1 ∷ [])
    (0 ∷ 10 ∷ []))

-- `1+2+3`, `1+` and `aaa`
abbrev pub sum : List ℕ
sum = 49 ∷ 43 ∷ 50 ∷ 43 ∷ 51 ∷ []

abbrev pub half_sum : List ℕ
half_sum = 49 ∷ 43 ∷ []

abbrev pub three_as : List ℕ
three_as = 97 ∷ 97 ∷ 97 ∷ []

-- a repeat of `a`, then `a`
abbrev pub greedy_grammar : List ℕ
greedy_grammar = encode (holding (97 ∷ []) (Sequence 1 3 ∷ Repeat 2 ∷ Text 0 1 ∷ Text 0 1 ∷ []) (0 ∷ []))

-- a repeat of empty, and a rule whose body is itself
abbrev pub empty_repeat : List ℕ
empty_repeat = encode (holding [] (Repeat 1 ∷ Empty ∷ []) (0 ∷ []))

abbrev pub own_body : List ℕ
own_body = encode (holding [] (Rule 0 ∷ []) (0 ∷ []))

-- The worked readings.

pub record Worked : Type 0 where
  pub question : Question
  pub expected : List ℕ

abbrev pub expects : Question → List ℕ → Worked
expects q e = record { question = q; expected = e }

abbrev pub worked : List Worked
worked =
    expects (asked sum_grammar sum 0 0) (0 ∷ 1 ∷ 5 ∷ 2 ∷ 6 ∷ 5 ∷ 3 ∷
    1 ∷ 0 ∷ 1 ∷ 1 ∷ none ∷ none ∷ 2 ∷
    2 ∷ 1 ∷ 3 ∷ 3 ∷ 0 ∷ 2 ∷ 4 ∷
    1 ∷ 2 ∷ 3 ∷ 1 ∷ none ∷ none ∷ none ∷
    2 ∷ 3 ∷ 5 ∷ none ∷ 1 ∷ 4 ∷ none ∷
    1 ∷ 4 ∷ 5 ∷ 3 ∷ none ∷ none ∷ none ∷ []) ∷
    expects (asked sum_grammar half_sum 0 0) (0 ∷ 1 ∷ 1 ∷ 2 ∷ 3 ∷ 1 ∷ 0 ∷
    1 ∷ 0 ∷ 1 ∷ none ∷ none ∷ none ∷ none ∷ []) ∷
    expects (asked sum_grammar [] 0 0) (0 ∷ 0 ∷ 0 ∷ 2 ∷ 1 ∷ 0 ∷ []) ∷
    expects (asked sum_grammar sum 0 5) (0 ∷ 0 ∷ 5 ∷ 2 ∷ 6 ∷ 0 ∷ []) ∷
    expects (asked sum_grammar sum 0 6) (12 ∷ 0 ∷ 0 ∷ 0 ∷ 0 ∷ 0 ∷ []) ∷
    expects (asked greedy_grammar three_as 0 0) (0 ∷ 0 ∷ 0 ∷ 1 ∷ 4 ∷ 0 ∷ []) ∷
    expects (checked empty_repeat) (8 ∷ 2 ∷ 0 ∷ []) ∷
    expects (checked own_body) (9 ∷ 3 ∷ 0 ∷ []) ∷ []

-- the definitions answer what is expected
abbrev pub Stand : List Worked → Type 0
Stand xs = map (λ x. answer x.question) xs ≡ map (λ x. x.expected) xs
