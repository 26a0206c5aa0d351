-- one_more: how deep a record is nested, by how deep later ones are.
-- TellsNesting: the numbers are how deep the records are nested, where parts stand behind the records that have them.
use Rattle.std.specs.Prelude.{ℕ, ◌+◌, ◌<◌, List, length, slice_index}
use Rattle.form.specs.declared.expr.Expr.{Expr}
use Rattle.form.specs.Records.{at, parts, Ordered}
use Rattle.form.specs.Nesting.{Nested}
use Rattle.form.specs.Tables.{deepest}

abbrev pub one_more : List Expr → ℕ → List ℕ → ℕ
one_more es e t = deepest t (parts (at es e)) + 1

abbrev pub TellsNesting : List Expr → List ℕ → Type 0
TellsNesting es v = Ordered es → (e : ℕ) → e < length es → Nested es e (slice_index v e)
