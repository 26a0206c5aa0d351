-- Each turn reads one item, or ends with its fault, and in the end all are read.
use Rattle.std.proofs.Common.{vec_items, rules}
use Rattle.grammar.proofs.Each.{bytes_left, one_read, one_at_fault, none_left}
use Rattle.grammar.proofs.Told.{told_fault}
use Rattle.grammar.proofs.items.read_items.Goals as goal

pub returns-in_err-item : goal.returns-in_err-item
returns-in_err-item g c =
    told_fault _ _ _ _ c.from_residual.ensures.1
    (one_at_fault _ _ _ _ _ _ _ c.loop-number.invariant.1 _ c.in_err-item.ensures.fault c.loop-number-test.true)

pub loop-number-preserved : goal.loop-number-preserved
loop-number-preserved g c = (
  bytes_left _ _ _ _ _ c.loop-number-test.true c.loop-number.invariant.0 c.in_ok-item.ensures.rest,
  one_read _ _ _ _ _ _ _ c.loop-number.invariant.1 _ c.in_ok-item.ensures.item c.loop-number-test.true _ c.in_ok-item.ensures.rest
      (vec_items c.push.new.self) (search rules),
)

pub returns : goal.returns
returns g c = none_left _ _ _ _ _ _ _ c.loop-number.invariant.1 c.loop-number-test.false
