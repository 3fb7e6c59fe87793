use Rattle.std.proofs.Common.{◌≡◌, ◌<◌, List, length, get_or, subst}
use Rattle.app_machine.specs.declared.app.Class.{Class}
use Rattle.event_index.proofs.Listing.{no_comings, one_more_class}
use Rattle.event_index.proofs.comings.comings_of.Goals as goal

pub loop-number-init : goal.loop-number-init
loop-number-init c = rw c.new-all.ensures.items (no_comings c.args.table.now.app.now c.args.table.now.listed.lists.now)

pub loop-number-preserved : goal.loop-number-preserved
loop-number-preserved c =
    let i = c.loop-number.number in
    let class = c.class-item.result in
    rw c.in_ok-push.ensures.items (one_more_class c.args.table.now.app.now c.args.table.now.listed.lists.now c.loop-number.all.items c.in_ok-comings_to.field-0 i class
    (subst (λ (classes : List Class). i < length classes) c.as_slice-class-items.ensures c.loop-number-test.true)
    (subst (λ (classes : List Class). class ≡ get_or classes i class) c.as_slice-class-items.ensures c.class-item.is)
    c.in_ok-comings_to.ensures c.loop-number.invariant)

pub returns : goal.returns
returns c = c.loop-number.invariant.has
