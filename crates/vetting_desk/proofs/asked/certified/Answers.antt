use Rattle.vetting_desk.specs.Due.{due_of}
use Rattle.vetting_desk.proofs.PartsDue.{finds_certified}
use Rattle.vetting_desk.proofs.asked.certified.Goals as goal

pub returns : goal.returns
returns g c =
    finds_certified c.args.path.now c.args.parts.now c.in_ok-judged.judged (due_of c.in_ok-answer.answer)
    c.in_ok-judged.ensures.value c.in_ok-judged.ensures.safe c.in_ok-judged.ensures.told c.in_ok-judged.ensures.one c.in_ok-answer.ensures
