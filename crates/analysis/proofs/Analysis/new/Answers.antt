-- What the settled table is, and so what it tells.
use Rattle.std.proofs.Common.{rules}
use Rattle.analysis.proofs.Tells.{marks_nullable}
use Rattle.analysis.proofs.Analysis.new.Goals as goal

pub returns-clause-tells : goal.returns-clause-tells
returns-clause-tells c = marks_nullable c.args.rules.exprs.now c.args.rules.bodies.now _ (search rules)
