use Rattle.std.proofs.Common.{refl}
use Rattle.desk_words.specs.Serve.{asked_words}
use Rattle.desk_program.proofs.Running.{of_no_memory}
use Rattle.desk_program.proofs.served_at_place.Goals as goal

pub served-requires : goal.served-requires
served-requires g c = (c.type_bounds.sync-T, rw c.placed.ensures.told c.requires.docket)

pub returns-in-Ok-clause-ends : goal.returns-in-Ok-clause-ends
returns-in-Ok-clause-ends g c = rw (c.placed.ensures.told, c.placed.ensures.faults) at c.served.ensures.ends

pub returns-in-Err-clause-ends : goal.returns-in-Err-clause-ends
returns-in-Err-clause-ends g c =
    of_no_memory (asked_words c.args.asked.now) (g.C.Clock.told c.args.outside.now.clock) _ _ _
    (rw (c.placed.ensures.told, c.placed.ensures.faults) refl) c.from.ensures

pub returns-in-Err-clause-docket : goal.returns-in-Err-clause-docket
returns-in-Err-clause-docket g c = rw c.placed.ensures.told c.requires.docket
