use Rattle.machine_witness.proofs.Eventing.{from_event_to_event}
use Rattle.machine_witness.proofs.labels_flow_from_event_to_event.Goals as goal

pub returns : goal.returns
returns c = from_event_to_event
