use Rattle.std.proofs.Common.{◌+◌, arith, ap}
use Rattle.sorted_table.proofs.Placing.{start_is, start_there, slot_within, part_at}
use Rattle.sorted_table.proofs.part.place_among.Goals as goal

pub bounds-starts-slot : goal.bounds-starts-slot
bounds-starts-slot g c = start_there c.args.parts.now c.args.starts.now c.args.slot.part c.requires.kept c.requires.slot.there

pub overflow_add-result : goal.overflow_add-result
overflow_add-result g c = omega (arith, start_is c.args.parts.now c.args.starts.now c.args.slot.part 0 c.requires.kept c.requires.slot.there, slot_within c.args.parts.now c.args.slot.part c.args.slot.place (part_at c.args.parts.now c.args.slot.part c.requires.slot.there) c.requires.slot.there (c.requires.slot.within _), c.requires.few)

pub returns : goal.returns
returns g c = ap (λ z. z + c.args.slot.place) (start_is c.args.parts.now c.args.starts.now c.args.slot.part 0 c.requires.kept c.requires.slot.there)
