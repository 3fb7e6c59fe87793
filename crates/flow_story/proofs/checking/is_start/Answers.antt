use Rattle.std.proofs.Common.{◌≤◌, length, refl, arith}
use Rattle.flow_story.proofs.Checked.{stands_nowhere}
use Rattle.vet_base.proofs.Members.{in_slice_get}
use Rattle.flow_story.proofs.checking.is_start.Goals as goal

pub returns-then-starts_at : goal.returns-then-starts_at
returns-then-starts_at g c =
    let starts = g.R.RuleSet.starts c.args.rules.now in
    let row = c.args.row.now in
    (λ t. (g.met.R.RuleSet.just_starts c.args.rules.now c.requires row).1 (in_slice_get starts c.in-Live.component row (c.starts_at.ensures.0 c.if-starts_at.true)), λ s. refl)

pub returns-then-starts_at-2 : goal.returns-then-starts_at-2
returns-then-starts_at-2 g c =
    let starts = g.R.RuleSet.starts c.args.rules.now in
    let row = c.args.row.now in
    (λ t. (g.met.R.RuleSet.just_starts c.args.rules.now c.requires row).1 (in_slice_get starts c.loop-place.place row (c.starts_at-in-loop-place.ensures.0 c.if-starts_at-2.true)), λ s. refl)

pub returns : goal.returns
returns g c =
    let starts = g.R.RuleSet.starts c.args.rules.now in
    let row = c.args.row.now in
    let all : length starts ≤ c.loop-place.place = omega (arith, c.start_count-place-end.ensures, c.loop-place-test.false) in
    (λ t. absurd cc, λ s. absurd (stands_nowhere starts row c.loop-place.place all c.loop-place.invariant ((g.met.R.RuleSet.just_starts c.args.rules.now c.requires row).0 s)))
