-- What the marks are, and so what they tell.
use Rattle.std.proofs.Common.{arith}
use Rattle.std.proofs.lemmas.Grind.{common_steps}
use Rattle.analysis.proofs.Tells.{marks_heads}
use Rattle.analysis.proofs.Analysis.heads.Goals as goal

pub returns-clause-tells : goal.returns-clause-tells
returns-clause-tells c = marks_heads _ _ c.args.number _ (grind (arith, common_steps), λ q l. grind (arith, common_steps))
