-- The look through the table is the look through the records.
use Rattle.std.proofs.Common.{rules, tests, nat_lt, ◌∙◌, sym}
use Rattle.std.proofs.lemmas.Iterator.{YieldsList-from_slice}
use Rattle.std.proofs.lemmas.Iterator.Search.{position_from_yields_List}
use Rattle.form.specs.Tables.{nestings}
use Rattle.form.proofs.Looks.{deep_position}
use Rattle.nesting.proofs.first_too_deep.Goals as goal

pub returns-clause-is : goal.returns-clause-is
returns-clause-is c =
    let table = c.iter.ensures.rest ∙ c.deref.ensures.value ∙ c.in_ok-table.ensures.is in
    let items = YieldsList-from_slice (nestings c.args.exprs.now) table in
    position_from_yields_List (nat_lt 32) _ _ _ c.position.ensures.ran items (λ x b q k. search (rules, tests))
    ∙ sym (deep_position c.args.exprs.now)
