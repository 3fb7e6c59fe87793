use Rattle.std.proofs.Common.{Option, sym, subst}
use Rattle.std.specs.Prelude.{option_map, option_to_list}
use Rattle.runner_choices.specs.declared.choice.Choice.{Choice}
use Rattle.runner_choices.specs.Choices.{event_of}
use Rattle.runner_stands.specs.Stands.{MarksMore}
use Rattle.runner_stands.proofs.Marked.{nothing_yet}
use Rattle.runner_stands.proofs.bodies.mark_found.Goals as goal

pub returns-in-None : goal.returns-in-None
returns-in-None c w = subst (λ (o : Option Choice). MarksMore c.args.app.now (option_to_list (option_map (event_of w) o)) c.args.marks.now.items c.args.marks.now.items) (sym c.in-None.is) (nothing_yet c.args.app.now c.args.marks.now.items)

pub returns-in-Some : goal.returns-in-Some
returns-in-Some c w = subst (λ (o : Option Choice). MarksMore c.args.app.now (option_to_list (option_map (event_of w) o)) c.args.marks.now.items c.mark.new.marks.items) (sym c.in-Some.is) (c.mark.ensures w)
