-- The look ends where the test holds, and else goes on.
use Rattle.std.proofs.Common.{length, rules}
use Rattle.form.specs.Tables.{left_recursive}
use Rattle.form.proofs.Looks.{first_later}
use Rattle.analysis.proofs.Analysis.first_left_recursive.Goals as goal

pub loop-rule-preserved : goal.loop-rule-preserved
loop-rule-preserved c =
    let exprs = c.args.self.now.rules.exprs.now in
    let bodies = c.args.self.now.rules.bodies.now in (
      first_later (left_recursive exprs bodies) c.loop-rule.rule (length bodies) _ c.loop-rule-test.true (search rules) c.loop-rule.invariant.0,
      search rules,
      search rules,
    )
