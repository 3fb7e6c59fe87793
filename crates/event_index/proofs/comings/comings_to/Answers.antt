use Rattle.std.proofs.Common.{sym, ap, ◌∙◌}
use Rattle.event_index.proofs.Listing.{one_more_comes, one_more_does_not}
use Rattle.event_index.proofs.comings.comings_to.Goals as goal
use Rattle.event_index.proofs.comings.comings_to.Goals.{in-Some+else-left-place+in-Some-find_body+in_ok-push, in-Some+else-left-place+in_default-find_body, in_default}

pub loop-row-init : goal.loop-row-init
loop-row-init c = c.new-own.ensures.items

pub loop-row-preserved : goal.loop-row-preserved
loop-row-preserved c =
    let app = c.args.table.now.app.now in
    let lists = c.args.table.now.listed.lists.now in
    let name = c.args.place.class.now.name in
    let own = c.loop-row.own.items in
    let row = c.loop-row.row in
    elim c.match-row_of.branch [
      | in-Some+else-left-place+in-Some-find_body+in_ok-push w ↦
          ap (λ v. v.items) w.own-is ∙ (w.in_ok-push.ensures.items
          ∙ one_more_comes app lists name own row w.in-Some-find_body.body (sym w.in-Some-find_body.is ∙ (w.find_body.ensures ∙ w.in-Some.ensures.some)) c.loop-row.invariant)
      | in-Some+else-left-place+in_default-find_body w ↦
          ap (λ v. v.items) w.own-is ∙ one_more_does_not app lists name own row (sym w.in_default-find_body.is ∙ (w.find_body.ensures ∙ w.in-Some.ensures.some)) c.loop-row.invariant
      | in_default w ↦ ap (λ v. v.items) w.own-is ∙ one_more_does_not app lists name own row w.in_default.ensures.none c.loop-row.invariant
    ]
