use Rattle.std.proofs.Common.{◌==◌, ◌||◌, Bool, sym, ap, ◌∙◌}
use Rattle.std.specs.List.{list_any}
use Rattle.vet_base.proofs.Lists.{list_any-map}
use Rattle.app_machine.specs.LifeEvents.{LifeEvent}
use Rattle.app_model.specs.EventTable.{shown_event}
use Rattle.app_rows.specs.Tests.{is_state_of}
use Rattle.app_rows.proofs.rows.is_state_in.Goals as goal

pub returns-in-Some : goal.returns-in-Some
returns-in-Some c =
    let leads : LifeEvent → Bool = λ (life : LifeEvent). c.args.state == life.to in
    c.is_state_of.ensures
    ∙ (ap (λ z. c.args.state == 0 || z) (sym (list_any-map shown_event leads c.event_rows.result.now) ∙ ap (list_any leads) c.event_rows.ensures)
    ∙ ap (is_state_of c.args.state) c.in-Some.ensures)
