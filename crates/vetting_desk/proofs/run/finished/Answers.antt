use Rattle.std.specs.Prelude.{refl}
use Rattle.vetting_desk.specs.Top.{Finishes}
use Rattle.vetting_desk.proofs.run.finished.Goals as goal

pub returns-in-Ok-written-clause-finishes : goal.returns-in-Ok-written-clause-finishes
returns-in-Ok-written-clause-finishes g c =
    Finishes.put c.in-Ok.status c.in-Ok.text.items c.in-Ok.ensures (record { files = c.in-Ok-written.ensures.writes.0; count = c.in-Ok-written.ensures.writes.1 })
    (rw c.deref.ensures.value at c.printed.ensures)

pub returns-in-Ok-clause-finishes : goal.returns-in-Ok-clause-finishes
returns-in-Ok-clause-finishes g c = Finishes.unwritten c.in-Err-written.ensures.writes (record { printed = refl; count = refl; handed = refl })

pub returns-clause-finishes : goal.returns-clause-finishes
returns-clause-finishes g c = Finishes.memory refl (record { files = refl; count = refl }) (record { printed = refl; count = refl; handed = refl })
