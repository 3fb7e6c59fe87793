use Rattle.std.proofs.Common.{◌≡◌, ◌∷◌, ◌++◌, [], ◌∙◌, cond, Some, Ok, true, All, ap, subst}
use Rattle.std.proofs.lemmas.List.Elements.{All-head, All-tail}
use Rattle.desk_links.specs.Links.{OpensTold}
use Rattle.desk_links.specs.Memory.{DoorState, IsBlank, told_by_door}
use Rattle.desk_links.specs.contracts.mem_door.MemDoor.{the_view}
use Rattle.desk_links.proofs.Doors.{opens_next}
use Rattle.desk_links.proofs.mem_door.MemDoorDoor.next.Goals as goal

pub invariant_of-self-in-Some : goal.invariant_of-self-in-Some
invariant_of-self-in-Some c =
    All-tail IsBlank c.in-Some.next c.pop_front.new.self.items (subst (All IsBlank) c.in-Some.ensures.items c.self.invariant)

pub returns-in-Some-clause-told : goal.returns-in-Some-clause-told
returns-in-Some-clause-told c =
    let before = c.self.inside in
    let rest = c.pop_front.new.self.items in
    let blank : IsBlank c.in-Some.next = All-head IsBlank c.in-Some.next rest (subst (All IsBlank) c.in-Some.ensures.items c.self.invariant) in
    let over : c.turn_to.new.ended.items ≡ cond before.begun (before.ended.items ++ before.present ∷ []) before.ended.items =
    c.turn_to.ensures.ended ∙ ap (λ ended. cond before.begun (ended ++ before.present ∷ []) ended) c.try_reserve.ensures.items in
    subst (λ (door : DoorState). OpensTold (told_by_door door) (Some (told_by_door (the_view (record { present = c.turn_to.new.present; begun = true; ended = c.turn_to.new.ended; left = c.pop_front.new.self; missed = before.missed; sizes = before.sizes; calls = c.fails.new.self })))) (Ok true)) c.self.view_is
    (opens_next (the_view before) c.turn_to.new.present c.in-Some.next rest c.turn_to.new.ended.items c.fails.new.self c.in-Some.ensures.items blank c.turn_to.ensures.present over)
