use Rattle.std.proofs.Common.{◌≡◌, ◌⊎◌, List, subst}
use Rattle.vet_base.specs.Members.{In}
use Rattle.judged_ahead.specs.declared.found.Found.{Found}
use Rattle.judged_ahead.proofs.Kept.{are_with}
use Rattle.judged_ahead.proofs.memo.Memo.put.Goals as goal

pub invariant_of-self : goal.invariant_of-self
invariant_of-self g c =
    are_with g.B.Finding.finds c.self.inside.found.items c.add.new.found.items
    (record { content = c.args.content; judged = c.args.judged }) c.self.invariant c.requires c.add.ensures

pub returns : goal.returns
returns g c = λ f is.
    let one : Found = record { content = c.args.content; judged = c.args.judged } in
    subst (λ (z : List Found). In f z ⊎ (f ≡ one)) c.self.view_is (c.add.ensures f is)
