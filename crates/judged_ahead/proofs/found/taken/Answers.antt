use Rattle.std.proofs.Common.{rules, ◌<◌, List, length, subst}
use Rattle.vet_base.specs.Members.{In}
use Rattle.vet_base.proofs.Members.{in_read}
use Rattle.judged_ahead.specs.declared.found.Found.{Found}
use Rattle.judged_ahead.proofs.Removed.{in_removed}
use Rattle.judged_ahead.proofs.found.taken.Goals as goal

pub returns-in-Some-clause-there : goal.returns-in-Some-clause-there
returns-in-Some-clause-there c =
    let below : c.in-Some.i < length c.args.found.now.items = search rules in
    in_read c.args.found.now.items c.in-Some.i c.remove.result below c.remove.ensures.value

pub returns-in-Some-clause-left : goal.returns-in-Some-clause-left
returns-in-Some-clause-left c = λ f is.
    in_removed c.in-Some.i c.args.found.now.items f (subst (λ (z : List Found). In f z) c.remove.ensures.items is)
