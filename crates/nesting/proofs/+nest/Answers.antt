-- The sum fits, since no record is nested deeper than there are records.
use Rattle.std.proofs.Common.{◌+◌, get_or, arith}
use Rattle.form.specs.declared.expr.Expr.TheVariants.{Empty}
use Rattle.form.specs.Records.{parts}
use Rattle.nesting.proofs.Most.{deepest_fits}
use Rattle.nesting.proofs.+nest.Goals as goal

pub overflow_add-table : goal.overflow_add-table
overflow_add-table t c =
    let most = deepest_fits c.args.exprs.now (c.args.number + 1) _ _ (parts (get_or c.args.exprs.now c.args.number Empty)) c.requires c.nest.ensures in
    omega arith
