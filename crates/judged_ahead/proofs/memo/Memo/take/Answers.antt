use Rattle.std.proofs.Common.{List, subst}
use Rattle.vet_base.specs.Members.{In}
use Rattle.judged_ahead.specs.declared.found.Found.{Found}
use Rattle.judged_ahead.proofs.memo.Memo.take.Goals as goal

pub invariant_of-self : goal.invariant_of-self
invariant_of-self g c = λ f is. c.self.invariant f (c.taken.ensures.left f is)

pub returns-clause-left : goal.returns-clause-left
returns-clause-left g c = λ f is. subst (λ (z : List Found). In f z) c.self.view_is (c.taken.ensures.left f is)
