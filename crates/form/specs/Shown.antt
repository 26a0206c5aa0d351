-- expr_text: an expression as it is printed: its kind's name, then its fields.
use Rattle.std.specs.Prelude.{ℕ, List, ◌++◌, codes}
use Rattle.std.specs.Fmt.{decimal}
use Rattle.form.specs.declared.expr.Expr.{Expr}
use Rattle.form.specs.declared.expr.Expr.TheVariants.{Empty, Text, Range, Rule, Sequence, Choice, Repeat, Ahead, Absent, Node, Link, Fold, Tag}

-- a name and one number, or two
abbrev pub with_one : List ℕ → ℕ → List ℕ
with_one name a = name ++ codes " " ++ decimal a

abbrev pub with_two : List ℕ → ℕ → ℕ → List ℕ
with_two name a b = name ++ codes " " ++ decimal a ++ codes " " ++ decimal b

abbrev pub expr_text : Expr → List ℕ
expr_text Empty = codes "empty"
expr_text (Text start len) = with_two (codes "text") start len
expr_text (Range low high) = with_two (codes "range") low high
expr_text (Rule r) = with_one (codes "rule") r
expr_text (Sequence a b) = with_two (codes "sequence") a b
expr_text (Choice a b) = with_two (codes "choice") a b
expr_text (Repeat a) = with_one (codes "repeat") a
expr_text (Ahead a) = with_one (codes "ahead") a
expr_text (Absent a) = with_one (codes "absent") a
expr_text (Node a) = with_one (codes "node") a
expr_text (Link a) = with_one (codes "link") a
expr_text (Fold a) = with_one (codes "fold") a
expr_text (Tag a) = with_one (codes "tag") a
