-- The look through the records is the look through their numbers.
use Rattle.std.proofs.Common.{rules, tests, ◌∙◌, sym}
use Rattle.std.proofs.lemmas.Iterator.{YieldsList-from_slice}
use Rattle.std.proofs.lemmas.Iterator.Search.{position_from_yields_List}
use Rattle.form.specs.Tables.{nullables, repeats_marked}
use Rattle.form.proofs.Looks.{repeat_position}
use Rattle.analysis.proofs.Analysis.first_nullable_repeat.Goals as goal

pub returns-clause-is : goal.returns-clause-is
returns-clause-is c =
    let exprs = c.args.self.now.rules.exprs.now in
    let bodies = c.args.self.now.rules.bodies.now in
    let items = YieldsList-from_slice exprs c.iter.ensures.rest in
    position_from_yields_List (repeats_marked (nullables exprs bodies)) _ _ _ c.position.ensures.ran items (λ x b q k. search (rules, tests))
    ∙ sym (repeat_position exprs bodies)
