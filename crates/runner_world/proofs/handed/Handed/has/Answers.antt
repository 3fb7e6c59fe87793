use Rattle.std.proofs.Common.{sym, subst, ◌∙◌}
use Rattle.vet_base.specs.Members.{In}
use Rattle.runner_world.proofs.handed.Handed.has.Goals as goal

pub returns : goal.returns
returns c = (
  λ h. subst (In c.args.place) c.self.view_is ((c.self.invariant.same c.args.place).0 (sym c.contains.ensures ∙ h)),
  λ h. c.contains.ensures ∙ (c.self.invariant.same c.args.place).1 (subst (In c.args.place) (sym c.self.view_is) h),
)
