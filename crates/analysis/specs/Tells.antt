-- What the tables tell in words, of records whose parts stand behind them.
-- MarksNullable: the marked records are those that may take nothing.
-- HeadMarks: marks by rule number, worked out for a record. MarksHeads: the marked rules are the heads of a record.
use Rattle.std.specs.Prelude.{◌≡◌, ℕ, ◌<◌, Bool, List, length, Decides}
use Rattle.form.specs.declared.expr.Expr.{Expr}
use Rattle.form.specs.Records.{Ordered}
use Rattle.form.specs.Nullable.{Nullable}
use Rattle.form.specs.Heads.{Head}
use Rattle.form.specs.Tables.{marked}
use Rattle.analysis.specs.Entries.{is_head}

abbrev pub MarksNullable : List Expr → List ℕ → List Bool → Type 0
MarksNullable es rs v = Ordered es → (e : ℕ) → Decides (marked v e) (Nullable es rs e)

abbrev pub HeadMarks : List Expr → List ℕ → ℕ → List Bool → Type 0
HeadMarks es rs e v = (length v ≡ length rs) × ((q : ℕ) → q < length rs → marked v q ≡ is_head es rs e q)

abbrev pub MarksHeads : List Expr → List ℕ → ℕ → List Bool → Type 0
MarksHeads es rs e v = Ordered es → (q : ℕ) → q < length rs → Decides (marked v q) (Head es rs q e)
