use Rattle.std.proofs.Common.{◌≡◌, List, sym, ap, subst, ◌∙◌}
use Rattle.case_rules.specs.declared.case.Decision.{Decision}
use Rattle.case_rules.specs.declared.reply.Change.{Change}
use Rattle.case_rules.specs.declared.reply.Reply.{Reply}
use Rattle.case_rules.specs.Docket.{TakesDecision, Fits}
use Rattle.case_rules.specs.Plans.{settled}
use Rattle.desk_serving.specs.Obeying.{judgement_of}
use Rattle.desk_serving.proofs.obeying.decided.Goals as goal

pub settle-requires : goal.settle-requires
settle-requires g c = subst (λ (d : Decision). TakesDecision d c.args.case.now) (sym c.in_ok-decision.ensures)
    (c.requires.takes (judgement_of c.in_ok-judged.judged))

pub apply-requires : goal.apply-requires
apply-requires g c = λ cases is.
    subst (λ (change : Change). Fits change cases)
    (sym (ap (λ (s : Change × Reply). s.0) c.in_ok-change.ensures
    ∙ ap (λ (d : Decision). (settled c.args.case.now d).0) c.in_ok-decision.ensures))
    (c.requires.fits (judgement_of c.in_ok-judged.judged) cases is)
