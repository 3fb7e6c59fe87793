use Rattle.std.proofs.Common.{List, is_ok, subst}
use Rattle.vet_base.specs.Members.{In}
use Rattle.judged_ahead.specs.declared.found.Found.{Found}
use Rattle.judged_ahead.proofs.Removed.{in_pushed}
use Rattle.judged_ahead.proofs.found.add.Goals as goal

pub returns : goal.returns
returns c = λ f is.
    in_pushed (is_ok c.push.result) c.args.found.now.items c.args.one f
    (subst (λ (z : List Found). In f z) c.push.ensures.items is)
