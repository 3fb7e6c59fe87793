-- The law is proved over definitions alone.
use Rattle.cell_event_witness.proofs.Refusing.{wrong_lists_of_events_are_refused}
use Rattle.cell_event_witness.proofs.wrong_lists_of_events_are_refused.Goals as goal

pub returns : goal.returns
returns c = wrong_lists_of_events_are_refused
