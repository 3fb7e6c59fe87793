use Rattle.vetting_desk.proofs.Stories.{finds_stories}
use Rattle.vetting_desk.proofs.asked.storied.Goals as goal

pub returns : goal.returns
returns g c =
    finds_stories c.args.parts.now c.in_ok-told.told.outcome c.in_ok-told.told.stories c.in_ok-told.ensures.value c.in_ok-told.ensures.one c.in_ok-told.ensures.told c.in_ok-told.ensures.safe
