use Rattle.std.proofs.Common.{All, subst, sym}
use Rattle.desk_links.specs.Memory.{IsBlank}
use Rattle.desk_links.proofs.Doors.{each_is_blank}
use Rattle.desk_links.proofs.mem_door.MemDoor.new.Goals as goal

pub invariant_of-result : goal.invariant_of-result
invariant_of-result c = subst (All IsBlank) (sym c.in_ok-conversations.ensures) (each_is_blank c.args.room c.args.inputs.items)
