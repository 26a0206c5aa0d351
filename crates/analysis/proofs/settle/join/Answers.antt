-- In the end every rule has been joined.
use Rattle.std.proofs.Common.{arith}
use Rattle.analysis.proofs.Joined.{joined_is}
use Rattle.analysis.proofs.settle.join.Goals as goal

pub returns : goal.returns
returns c =
    joined_is c.args.rules.now.exprs.now c.args.rules.now.bodies.now c.args.table.now c.args.marks.now c.loop-rule.marks
    c.requires (omega (arith, c.loop-rule.auto.marks)) (λ k l. c.loop-rule.invariant.0 k (omega arith))
