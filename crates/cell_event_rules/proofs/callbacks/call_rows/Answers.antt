use Rattle.std.proofs.Common.{ℕ, List, fold, sym, ap, ◌∙◌, add-one}
use Rattle.std.proofs.lemmas.List.Sums.{fold-append}
use Rattle.rule_ground.specs.declared.conclusion.Conclusion.{Conclusion}
use Rattle.rule_ground.specs.Below.{for_below}
use Rattle.cell_event_rules.specs.CellEventGiven.{callback_gives}
use Rattle.cell_event_rules.proofs.callbacks.call_rows.Goals as goal

pub loop-row-preserved : goal.loop-row-preserved
loop-row-preserved g c =
    let f : ℕ → List Conclusion = callback_gives c.args.by.now.index.now.0 c.args.by.now.readers.now c.args.by.now.index.now.1 c.args.receiver c.args.class.now in
    let i = c.loop-row.row in
    c.in_ok-call_row.ensures
    ∙ ap (λ z. fold g.S.Sink.then z (f i)) c.loop-row.invariant
    ∙ sym (fold-append g.S.Sink.then c.args.out.now (for_below f i) (f i))
    ∙ ap (λ k. fold g.S.Sink.then c.args.out.now (for_below f k)) (sym (add-one i))
