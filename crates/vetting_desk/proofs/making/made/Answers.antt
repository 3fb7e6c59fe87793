use Rattle.vetting_desk.specs.Due.{due_of}
use Rattle.vetting_desk.proofs.Generated.{finds_made}
use Rattle.vetting_desk.proofs.making.made.Goals as goal

pub returns : goal.returns
returns g c = λ told heard.
    finds_made c.args.app_seed c.args.size c.args.workers c.in_ok-parts.parts c.in_ok-judged.judged (due_of c.made_as.result) told heard
    c.in_ok-parts.ensures c.in_ok-judged.ensures.value c.in_ok-judged.ensures.safe c.in_ok-judged.ensures.one c.made_as.ensures
