use Rattle.std.proofs.Common.{refl, sym, ◌∙◌, arith}
use Rattle.played_machine.proofs.Ordered.{false_true}
use Rattle.runner_begin.proofs.Labelled.{none_at_all, none_more, none_yet, one_there}
use Rattle.runner_begin.proofs.labelling.is_none.Goals as goal

pub loop-label-init : goal.loop-label-init
loop-label-init c = none_yet c.args.labels

pub loop-label-preserved : goal.loop-label-preserved
loop-label-preserved c = none_more c.args.labels c.loop-label.label (λ h. false_true (sym c.if-has.false ∙ c.has.ensures.1 h)) c.loop-label.invariant

pub returns-then-has : goal.returns-then-has
returns-then-has c = (λ h. absurd (false_true h), λ none. absurd (one_there c.args.labels c.loop-label.label (c.has.ensures.0 c.if-has.true) none))

pub returns : goal.returns
returns c = (λ h. none_at_all c.args.labels c.loop-label.label (omega arith) c.loop-label.invariant, λ none. refl)
