use Rattle.std.proofs.Common.{refl}
use Rattle.client_service.specs.Words.{asked_words}
use Rattle.client_service.proofs.Ended.{said_of_ready, said_of_halt}
use Rattle.client_service.proofs.saying.said.Goals as goal

pub returns-in-Ok : goal.returns-in-Ok
returns-in-Ok g c =
    said_of_ready (asked_words c.args.asked.now) _ _ c.in-Ok.ready _ c.submit-end.result _
    c.in-Ok.ensures.readies c.in-Ok.ensures.leaves c.deref.ensures.value c.submit-end.ensures c.ended.ensures

pub returns-in-Err : goal.returns-in-Err
returns-in-Err g c =
    said_of_halt (asked_words c.args.asked.now) _ _ c.in-Err.halt _
    c.in-Err.ensures.readies c.in-Err.ensures.leaves refl c.halted.ensures
