use Rattle.std.proofs.lemmas.Result.{IfOk-weaker}
use Rattle.vetting_desk.specs.Due.{due_of}
use Rattle.vetting_desk.specs.PartsDue.{RechecksBy}
use Rattle.vetting_desk.specs.Answer.{ComesByRows}
use Rattle.vetting_desk.specs.Found.{FindsOfParts, IsUnreadable}
use Rattle.vetting_desk.proofs.PartsDue.{finds_unreadable}
use Rattle.vetting_desk.proofs.asked.rechecked.Goals as goal

pub returns-in-Ok : goal.returns-in-Ok
returns-in-Ok c = c.rechecked_by.ensures c.args.bytes.now c.in-Ok.ensures.found

pub returns-in-Err : goal.returns-in-Err
returns-in-Err c =
    IfOk-weaker c.unreadable.result (λ a. IsUnreadable c.in-Err.stop a) (λ a. FindsOfParts (Unit {0}) (RechecksBy c.args.bytes.now) ComesByRows c.args.parts.now (due_of a))
    (λ a says. finds_unreadable c.certificates_keep_their_laws.ensures c.args.bytes.now c.args.parts.now c.in-Err.stop a c.in-Err.ensures.fault says)
    c.unreadable.ensures
