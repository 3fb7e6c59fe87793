use Rattle.std.proofs.Common.{refl}
use Rattle.client_service.specs.Submitting.{seen}
use Rattle.vet_program.proofs.Running.{of_submitting, of_vetting}
use Rattle.vet_program.proofs.answered_without_desk.Goals as goal

pub returns-in-Some : goal.returns-in-Some
returns-in-Some g c = of_submitting _ _ _ _ _ c.in-Some.ensures.answers

pub returns-in-None : goal.returns-in-None
returns-in-None g c =
    of_vetting _ _ _
    (seen (g.F.Files.told c.submitted.new.files) (g.F.Files.fault_count c.submitted.new.files) (g.F.Files.heard c.submitted.new.files) (g.O.Sink.taken c.submitted.new.out) (g.O.Sink.fault_count c.submitted.new.out) (g.O.Sink.handed c.submitted.new.out) (g.N.Link.told c.submitted.new.caller) (g.N.Link.fault_count c.submitted.new.caller))
    _ _ c.in-None.ensures.answers
    (record { ends = c.vetted.ensures.ends; reads = c.vetted.ensures.reads; only = c.vetted.ensures.only; sound = c.vetted.ensures.sound; clear = c.vetted.ensures.clear; handed = c.vetted.ensures.handed; full = c.vetted.ensures.full })
    refl
