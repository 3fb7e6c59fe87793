use Rattle.std.proofs.Common.{◌≡◌, ◌++◌, ◌∙◌, List, Option, Some, None, Ok, Err, map, ap, sym, subst}
use Rattle.std.proofs.lemmas.List.{append-nil}
use Rattle.desk_links.specs.Memory.{LinkState}
use Rattle.desk_callers.specs.declared.caller.DialFault.TheVariants.{Failed}
use Rattle.desk_callers.specs.Dials.{DialledTold}
use Rattle.desk_callers.specs.Memory.{CallerState, made, reply_of, hung, failed_of, told_by, told_by_caller}
use Rattle.desk_callers.specs.contracts.mem_caller.MemCaller.{the_view}
use Rattle.desk_callers.proofs.Calling.{dial_made, dial_failed}
use Rattle.desk_callers.proofs.mem_caller.MemCallerCaller.dial.Goals as goal

pub returns-in-Some-clause-told : goal.returns-in-Some-clause-told
returns-in-Some-clause-told c =
    let before = c.self.inside in
    let left = c.next_line.new.left.items in
    let now = c.next_line.new.ended.items in
    let over : now ≡ hung before.ended.items before.present = c.in-Some.ensures.ended ∙ append-nil c.hang_up.new.ended.items ∙ c.hang_up.ensures.ended in
    let tell = λ (ended : List (Option LinkState)). told_by (made ended) (Some c.in-Some.link) (map reply_of left) before.missed in
    subst (λ (m : CallerState). DialledTold (told_by_caller m) (Some (tell now)) (Ok tt)) c.self.view_is
    (subst (λ (ended : List (Option LinkState)). DialledTold (told_by_caller (the_view before)) (Some (tell ended)) (Ok tt)) (sym over)
    (dial_made before.ended.items before.left.items left c.in-Some.ensures.made.0 before.present c.in-Some.link before.missed c.in-Some.ensures.made.1 c.in-Some.ensures.left c.in-Some.ensures.waiting))

pub returns-in-None-clause-told : goal.returns-in-None-clause-told
returns-in-None-clause-told c =
    let before = c.self.inside in
    let left = c.next_line.new.left.items in
    let now = c.next_line.new.ended.items in
    let missed = c.saturating_add-self-inside.result in
    let over : now ≡ hung before.ended.items before.present ++ failed_of None before.left.items =
    c.in-None.ensures.ended ∙ ap (λ (ended : List (Option LinkState)). ended ++ failed_of None before.left.items) c.hang_up.ensures.ended in
    let tell = λ (present : Option LinkState). told_by (made now) present (map reply_of left) missed in
    subst (λ (m : CallerState). DialledTold (told_by_caller m) (Some (tell c.hang_up.new.present)) (Err Failed)) c.self.view_is
    (subst (λ (present : Option LinkState). DialledTold (told_by_caller (the_view before)) (Some (tell present)) (Err Failed)) (sym c.hang_up.ensures.present)
    (dial_failed before.ended.items before.left.items left now before.present before.missed missed c.in-None.ensures.left over c.saturating_add-self-inside.ensures))
