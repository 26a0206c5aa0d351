-- The items in hand, and those still to be read, come to the same.
use Rattle.std.proofs.Common.{◌≡◌, ◌-◌, ◌*◌, length, vec_items}
use Rattle.form.specs.Verdict.{each}
use Rattle.grammar.proofs.Each.{behind}
use Rattle.grammar.proofs.items.read_items.Given as goal

abbrev pub invariant-loop-number : goal.invariant-loop-number
invariant-loop-number g l =
    let item = g.T.Item in
    let read = item.read l.counts in
    (length l.rest ≡ (l.section.count - l.number) * item.SIZE)
    × (behind (vec_items l.items) (each read item.SIZE (l.section.count - l.number) l.number l.rest) ≡ each read item.SIZE l.section.count 0 l.section.bytes.now)
