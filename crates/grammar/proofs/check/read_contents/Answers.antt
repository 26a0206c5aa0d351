-- What was read is little enough for the laws, and once they hold it has the form.
use Rattle.grammar.proofs.Contents.{few, formed}
use Rattle.grammar.proofs.check.read_contents.Goals as goal

pub hold_laws-requires : goal.hold_laws-requires
hold_laws-requires c =
    few _ c.requires _ c.in_ok-exprs.ensures _ c.in_ok-rules.ensures _ c.deref.ensures.value _ c.deref-2.ensures.value

pub invariant_of-result : goal.invariant_of-result
invariant_of-result c =
    let text = c.in_ok-text.ensures.items_if_clones_equal (λ x y e. e) in
    record {
      form =
          formed _ c.requires _ c.in_ok-exprs.ensures _ c.in_ok-rules.ensures _ c.deref.ensures.value _ c.deref-2.ensures.value
          c.in_ok-hold_laws.ensures _ text;
    }
