use Rattle.std.proofs.Common.{refl}
use Rattle.client_service.specs.Submitting.{Ends}
use Rattle.client_service.specs.Words.{asked_words}
use Rattle.client_service.proofs.Ended.{ends_put}
use Rattle.client_service.proofs.run.run.Goals as goal

pub returns-in-Ok : goal.returns-in-Ok
returns-in-Ok g c =
    ends_put (asked_words c.args.asked.now) _ _ _ _ _ _ _ _ _ _ c.in-Ok.status c.printed.result c.in-Ok.text.items c.deref.result.now
    c.deref.ensures.value c.in-Ok.ensures c.printed.ensures

pub returns-in-Err : goal.returns-in-Err
returns-in-Err g c = Ends.memory c.in-Err.ensures (record { printed = refl; count = refl; handed = refl })
