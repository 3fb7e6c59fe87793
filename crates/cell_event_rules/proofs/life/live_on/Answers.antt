use Rattle.std.proofs.Common.{ℕ, List, fold, sym, ap, ◌∙◌, add-one}
use Rattle.std.proofs.lemmas.List.Sums.{fold-append}
use Rattle.rule_ground.specs.declared.conclusion.Conclusion.{Conclusion}
use Rattle.rule_ground.specs.Below.{for_below}
use Rattle.cell_event_rules.specs.CellEventGiven.{event_gives}
use Rattle.cell_event_rules.proofs.life.live_on.Goals as goal

pub loop-event-preserved : goal.loop-event-preserved
loop-event-preserved g c =
    let f : ℕ → List Conclusion = event_gives c.args.by.now.index.now.0 c.args.by.now.readers.now c.args.component c.args.state in
    let i = c.loop-event.event in
    c.in_ok-by_event.ensures
    ∙ ap (λ z. fold g.S.Sink.then z (f i)) c.loop-event.invariant
    ∙ sym (fold-append g.S.Sink.then c.args.out.now (for_below f i) (f i))
    ∙ ap (λ k. fold g.S.Sink.then c.args.out.now (for_below f k)) (sym (add-one i))
