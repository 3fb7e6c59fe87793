use Rattle.vetting_desk.proofs.PartsDue.{finds_checked}
use Rattle.vetting_desk.proofs.asked.checked.Goals as goal

pub returns : goal.returns
returns g c =
    finds_checked c.args.parts.now c.in_ok-judged.judged c.in_ok-judged.ensures.value c.in_ok-judged.ensures.safe c.in_ok-judged.ensures.told c.in_ok-judged.ensures.one
