use Rattle.std.proofs.Common.{◌≡◌, ℕ, ◌+◌, List, fold, sym, ap, ◌∙◌, add-one}
use Rattle.std.proofs.lemmas.List.Sums.{fold-append}
use Rattle.rule_ground.specs.declared.conclusion.Conclusion.{Conclusion}
use Rattle.rule_ground.specs.Below.{for_below}
use Rattle.library_value_rules.specs.StaticGiven.{static_row}
use Rattle.library_value_rules.proofs.statics.to_users.Goals as goal

one_more : {S : Type 0} (then : S → Conclusion → S) (f : ℕ → List Conclusion) (i : ℕ) (s t u : S) → t ≡ fold then s (for_below f i) →
    u ≡ fold then t (f i) → u ≡ fold then s (for_below f (i + 1))
one_more then f i s t u before now =
    now
    ∙ ap (λ z. fold then z (f i)) before
    ∙ sym (fold-append then s (for_below f i) (f i))
    ∙ ap (λ k. fold then s (for_below f k)) (sym (add-one i))

pub loop-row-preserved : goal.loop-row-preserved
loop-row-preserved g c =
    let from = c.args.from.now in
    one_more g.S.Sink.then (static_row from.app.now from.lists.now (g.F.Facts.hits c.args.facts.now) from.number from.path from.label)
    c.loop-row.row _ _ _ c.loop-row.invariant c.in_ok-users_of.ensures
