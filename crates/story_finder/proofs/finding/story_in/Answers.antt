use Rattle.std.proofs.Common.{◌≡◌, ◌≤◌, ◌<◌, ◌^◌, length, filter_map, sym, subst, ◌∙◌, arith}
use Rattle.flow_trail.specs.Trails.{lines_of, number_in}
use Rattle.story_finder.specs.Retelling.{retold}
use Rattle.story_finder.proofs.Told.{no_row, before, there, tells, few_numbers, few_lines}
use Rattle.story_finder.proofs.finding.story_in.Goals as goal

pub returns-then-number-eq0-clause-none : goal.returns-then-number-eq0-clause-none
returns-then-number-eq0-clause-none g c =
    let none : number_in c.args.trail.now c.args.goal.now ≡ 0 = omega (arith, c.number_of-number.ensures, c.if-number-eq0.true) in
    no_row (g.R.Rules.rule c.args.rules.now) (g.R.RuleSet.is_start c.args.rules.now) c.args.trail.now c.requires c.args.goal.now none

pub lines_needed-requires-clause-before : goal.lines_needed-requires-clause-before
lines_needed-requires-clause-before g c = before (g.R.Rules.rule c.args.rules.now) (g.R.RuleSet.is_start c.args.rules.now) c.args.trail.now c.requires

pub lines_needed-requires-clause-there : goal.lines_needed-requires-clause-there
lines_needed-requires-clause-there g c =
    subst (λ z. z ≤ length (lines_of c.args.trail.now)) (sym c.number_of-number.ensures)
    (there (g.R.Rules.rule c.args.rules.now) (g.R.RuleSet.is_start c.args.rules.now) c.args.trail.now c.requires c.args.goal.now
    (λ e. omega (arith, e, c.number_of-number.ensures, c.if-number-eq0.false)))

pub retold-requires-clause-few : goal.retold-requires-clause-few
retold-requires-clause-few g c =
    let fits : c.number_of-number.result < 2 ^ 32 = omega arith in
    subst (λ z. length z < 2 ^ 32) (sym c.deref.ensures.value)
    (few_numbers (g.R.Rules.rule c.args.rules.now) (g.R.RuleSet.is_start c.args.rules.now) c.args.trail.now c.requires c.number_of-number.result c.in_ok-numbers.numbers.items fits c.in_ok-numbers.ensures)

pub returns-clause-some : goal.returns-clause-some
returns-clause-some g c =
    let f = lines_of c.args.trail.now in
    let lines = subst (λ z. c.in_ok-lines.lines.items ≡ filter_map (retold f z) z) c.deref.ensures.value c.in_ok-lines.ensures in
    tells (g.R.Rules.rule c.args.rules.now) (g.R.RuleSet.is_start c.args.rules.now) c.args.trail.now c.requires c.args.goal.now c.number_of-number.result c.in_ok-numbers.numbers.items c.new.result
    c.number_of-number.ensures (λ e. omega (arith, e, c.if-number-eq0.false)) c.in_ok-numbers.ensures (c.new.ensures ∙ lines)

pub returns-clause-few : goal.returns-clause-few
returns-clause-few g c =
    let f = lines_of c.args.trail.now in
    let fits : c.number_of-number.result < 2 ^ 32 = omega arith in
    let lines = subst (λ z. c.in_ok-lines.lines.items ≡ filter_map (retold f z) z) c.deref.ensures.value c.in_ok-lines.ensures in
    few_lines (g.R.Rules.rule c.args.rules.now) (g.R.RuleSet.is_start c.args.rules.now) c.args.trail.now c.requires c.number_of-number.result c.in_ok-numbers.numbers.items c.new.result fits c.in_ok-numbers.ensures (c.new.ensures ∙ lines)
