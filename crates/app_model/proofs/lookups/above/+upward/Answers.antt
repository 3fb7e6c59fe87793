use Rattle.std.proofs.Common.{refl, sym, ◌∙◌}
use Rattle.app_model.specs.Above.{has}
use Rattle.app_model.proofs.Above.{any_at, any_in_order}
use Rattle.app_model.proofs.lookups.above.+upward.Goals as goal
use Rattle.std.proofs.lemmas.Bool.{or_left}
use Rattle.vet_base.proofs.Bools.{or_skip}

pub any_within-returns-then-has : goal.any_within-returns-then-has
any_within-returns-then-has t c =
    let rest = any_at c.args.app.now c.args.class.now c.in-Some.class.now (has c.args.quality) c.args.steps c.if-steps-eq0.false (sym c.in-Some.ensures) in
    sym (rest ∙ or_left _ _ (sym c.has.ensures ∙ c.if-has.true))

pub any_within-returns-then-any_of : goal.any_within-returns-then-any_of
any_within-returns-then-any_of t c =
    let whole = any_in_order c.args.app.now c.args.class.now c.in-Some.class.now (has c.args.quality) c.args.steps c.as_slice.result.now c.in-Some.class.now.interfaces c.if-steps-eq0.false c.in-Some.ensures c.as_slice.ensures refl in
    sym (whole ∙ (or_skip _ _ (sym c.has.ensures ∙ c.if-has.false) ∙ or_left _ _ (sym c.any_of.ensures ∙ c.if-any_of.true)))

pub any_within-returns-else-any_of : goal.any_within-returns-else-any_of
any_within-returns-else-any_of t c =
    let whole = any_in_order c.args.app.now c.args.class.now c.in-Some.class.now (has c.args.quality) c.args.steps c.as_slice.result.now c.as_slice-in-Some.result.now c.if-steps-eq0.false c.in-Some.ensures c.as_slice.ensures c.as_slice-in-Some.ensures in
    sym (whole ∙ (or_skip _ _ (sym c.has.ensures ∙ c.if-has.false) ∙ (or_skip _ _ (sym c.any_of.ensures ∙ c.if-any_of.false) ∙ sym c.any_of-in-Some.ensures)))
