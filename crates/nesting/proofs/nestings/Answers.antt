-- The filled table is the answer, and so tells what nestings tell.
use Rattle.std.proofs.Common.{rules}
use native.Mathlib.Nat.{sub-zero}
use Rattle.std.proofs.lemmas.List.{with_items_is}
use Rattle.form.specs.Tables.{record_table}
use Rattle.nesting.proofs.Tells.{tells_nesting}
use Rattle.nesting.proofs.nestings.Goals as goal

pub returns-clause-is : goal.returns-clause-is
unfolding record_table
returns-clause-is c =
    let start = c.in_ok-table.ensures.items_if_clones_equal (λ y e. e) in
    search (rules, with_items_is, sub-zero)

pub returns-clause-tells : goal.returns-clause-tells
returns-clause-tells c = tells_nesting c.args.exprs.now _ (returns-clause-is c)
