use Rattle.std.proofs.Common.{ℕ, List, fold, sym, ap, ◌∙◌, add-one}
use Rattle.std.proofs.lemmas.List.Sums.{fold-append}
use Rattle.rule_ground.specs.declared.conclusion.Conclusion.{Conclusion}
use Rattle.rule_ground.specs.Below.{for_below}
use Rattle.event_rules.specs.EventGiven.{other_lives}
use Rattle.event_rules.proofs.application.others.Goals as goal

pub loop-component-preserved : goal.loop-component-preserved
loop-component-preserved g c =
    let f : ℕ → List Conclusion = other_lives c.args.application in
    let i = c.loop-component.component in
    c.in_ok-other.ensures
    ∙ ap (λ z. fold g.S.Sink.then z (f i)) c.loop-component.invariant
    ∙ sym (fold-append g.S.Sink.then c.args.out.now (for_below f i) (f i))
    ∙ ap (λ k. fold g.S.Sink.then c.args.out.now (for_below f k)) (sym (add-one i))
