use Rattle.std.proofs.Common.{sym, subst, refl}
use Rattle.runner_choices.specs.declared.choice.Met.{Met}
use Rattle.runner_stands.specs.Stands.{MarksMet}
use Rattle.runner_stands.proofs.bodies.mark_met.Goals as goal

pub returns-in-Here : goal.returns-in-Here
returns-in-Here c w = subst (λ (met : Met). MarksMet c.args.app.now w met c.args.marks.now.items c.mark.new.marks.items) (sym c.in-Here.is) (c.mark.ensures w)

pub returns-in-Past : goal.returns-in-Past
returns-in-Past c w = subst (λ (met : Met). MarksMet c.args.app.now w met c.args.marks.now.items c.args.marks.now.items) (sym c.in-Past.is) refl
