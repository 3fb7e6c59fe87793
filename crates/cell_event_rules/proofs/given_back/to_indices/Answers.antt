use Rattle.std.proofs.Common.{ℕ, List, fold, sym, ap, ◌∙◌, add-one}
use Rattle.std.proofs.lemmas.List.Sums.{fold-append}
use Rattle.rule_ground.specs.declared.conclusion.Conclusion.{Conclusion}
use Rattle.rule_ground.specs.Below.{for_below}
use Rattle.cell_event_rules.specs.CellGivenBack.{back_index}
use Rattle.cell_event_rules.proofs.given_back.to_indices.Goals as goal

pub loop-index-preserved : goal.loop-index-preserved
loop-index-preserved g c =
    let f : ℕ → List Conclusion = back_index c.args.with.now.taker.now.0 c.args.with.now.readers.now c.args.with.now.taker.now.1 c.args.with.now.site c.args.with.now.taker.now.2 c.args.with.now.by c.args.method.now in
    let i = c.loop-index.index in
    c.in_ok-to_index.ensures
    ∙ ap (λ z. fold g.S.Sink.then z (f i)) c.loop-index.invariant
    ∙ sym (fold-append g.S.Sink.then c.args.out.now (for_below f i) (f i))
    ∙ ap (λ k. fold g.S.Sink.then c.args.out.now (for_below f k)) (sym (add-one i))
