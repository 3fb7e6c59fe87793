use Rattle.std.proofs.Common.{Some, map, subst}
use Rattle.desk_links.specs.Links.{Writes}
use Rattle.desk_callers.specs.Memory.{CallerState, made, reply_of, told_by_caller}
use Rattle.desk_callers.specs.contracts.mem_caller.MemCaller.{the_view}
use Rattle.desk_callers.proofs.mem_caller.MemCallerLink.write.Goals as goal

pub returns-clause-told : goal.returns-clause-told
returns-clause-told c =
    let before = c.self.inside in
    subst (λ (m : CallerState). Writes (Some (told_by_caller m)) (Some (told_by_caller (the_view (record { ended = before.ended; present = c.write_to-written.new.present; left = before.left; missed = before.missed; calls = c.count-2.new.self })))) c.args.bytes.now c.write_to-written.result) c.self.view_is
    (c.write_to-written.ensures.told (made before.ended.items) (map reply_of before.left.items) before.missed)
