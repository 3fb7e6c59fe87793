use Rattle.desk_client.proofs.Trying.{Continues}
use Rattle.desk_client.proofs.submission.submit.Given as goal

abbrev pub invariant-loop : goal.invariant-loop
invariant-loop g l = Continues l.request l.client.tries l.counter
    (record { told = g.N.Link.told l.initial.caller; faults = g.N.Link.fault_count l.initial.caller })
    (record { told = g.N.Link.told l.caller; faults = g.N.Link.fault_count l.caller })
