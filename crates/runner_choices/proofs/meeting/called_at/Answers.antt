use Rattle.std.proofs.Common.{slice_get, ap, ◌∙◌, arith}
use Rattle.app_model.specs.declared.lookups.events.CalledBack.{CalledBack}
use Rattle.app_model.specs.EventBodies.{shown_callback}
use Rattle.runner_choices.specs.Choices.{called_back}
use Rattle.runner_choices.proofs.Lists.{map-map}
use Rattle.runner_choices.proofs.Lived.{at_index}
use Rattle.runner_choices.proofs.meeting.called_at.Goals as goal

pub returns-then-index-called : goal.returns-then-index-called
returns-then-index-called c w =
    ap (λ events. slice_get events c.args.index) (map-map (called_back w c.args.place) shown_callback c.args.called.now)
    ∙ at_index w (λ (one : CalledBack). called_back w c.args.place (shown_callback one)) c.args.called.now c.args.index _ (omega arith)
