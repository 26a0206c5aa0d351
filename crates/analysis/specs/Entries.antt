-- settled_records: the records for which a test holds, once as many rounds as there are rules have marked rules.
-- joins: whether a round marks a rule, by the rules that are marked and the records that are.
-- is_head: whether a rule is a head of a record.
use Rattle.std.specs.Prelude.{ℕ, Bool, ◌||◌, List, length}
use Rattle.form.specs.declared.expr.Expr.{Expr}
use Rattle.form.specs.Records.{body}
use Rattle.form.specs.Tables.{Test, marked, only, tested, settled, headed}

abbrev pub settled_records : Test → List Expr → List ℕ → List Bool → List Bool
settled_records by es rs v = tested by es (settled by es rs v)

abbrev pub joins : List Expr → List ℕ → List Bool → ℕ → List Bool → Bool
joins es rs t r v = marked v r || marked t (body es rs r)

-- record e, rule r
abbrev pub is_head : List Expr → List ℕ → ℕ → ℕ → Bool
is_head es rs e r = marked (headed es rs (only (length rs) r)) e
