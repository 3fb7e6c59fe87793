use Rattle.std.proofs.Common.{Ok, Some, map, subst}
use Rattle.desk_links.specs.Links.{Reads}
use Rattle.desk_callers.specs.Memory.{CallerState, made, reply_of, told_by_caller}
use Rattle.desk_callers.specs.contracts.mem_caller.MemCaller.{the_view}
use Rattle.desk_callers.proofs.mem_caller.MemCallerLink.read.Goals as goal

pub returns-clause-told : goal.returns-clause-told
returns-clause-told c =
    let before = c.self.inside in
    subst (λ (m : CallerState). Reads (Some (told_by_caller m)) (Some (told_by_caller (the_view (record { ended = before.ended; present = c.read_from.new.present; left = before.left; missed = before.missed; calls = c.count.new.self })))) c.args.room.now c.read_from.new.room (Ok c.read_from.result)) c.self.view_is
    (c.read_from.ensures.told (made before.ended.items) (map reply_of before.left.items) before.missed)
