use Rattle.std.proofs.Common.{option_map, ap}
use Rattle.runner_choices.specs.Choices.{event_of}
use Rattle.runner_choices.proofs.Lived.{no_event}
use Rattle.runner_choices.proofs.meeting.met.Goals as goal

pub returns-in-None : goal.returns-in-None
returns-in-None c w = no_event w (option_map (event_of w) c.args.choice) c.args.index (ap (option_map (event_of w)) c.in-None.is)
