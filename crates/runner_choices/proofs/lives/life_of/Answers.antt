use Rattle.std.proofs.Common.{map, sym, ap, ◌∙◌, arith}
use Rattle.app_model.specs.EventTable.{shown_event}
use Rattle.app_model.specs.declared.answers.EventRow.{EventRow}
use Rattle.runner_choices.specs.Choices.{row_on}
use Rattle.runner_choices.proofs.Lists.{all_there, map-map, one_more}
use Rattle.runner_choices.proofs.lives.life_of.Goals as goal

pub loop-i-init : goal.loop-i-init
loop-i-init c = c.new-rows.ensures.items

pub loop-i-preserved : goal.loop-i-preserved
loop-i-preserved c =
    one_more (λ (event : EventRow). row_on c.args.app.now c.args.component.now.class (shown_event event)) c.event_rows-events.result.now c.loop-i.rows.items c.push.new.self.items c.loop-i.i _ c.row_of.result (omega arith)
    c.row_of.ensures c.in_ok-push.ensures.items c.loop-i.invariant

pub returns : goal.returns
returns c =
    all_there (λ (event : EventRow). row_on c.args.app.now c.args.component.now.class (shown_event event)) c.event_rows-events.result.now c.loop-i.rows.items c.loop-i.i (omega arith) c.loop-i.invariant
    ∙ (sym (map-map (row_on c.args.app.now c.args.component.now.class) shown_event c.event_rows-events.result.now)
    ∙ ap (map (row_on c.args.app.now c.args.component.now.class)) c.event_rows-events.ensures)
