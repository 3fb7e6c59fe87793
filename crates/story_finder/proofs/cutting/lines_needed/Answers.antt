use Rattle.std.proofs.Common.{◌<◌, ◌-◌, sym, subst, arith}
use Rattle.flow_trail.specs.Trails.{lines_of}
use Rattle.story_finder.specs.Cutting.{AreNeeded}
use Rattle.story_finder.proofs.Resting.{Cutting, cutting_begins, cutting_goes_on, cutting_is_done, greatest_some, greatest_upto}
use Rattle.story_finder.proofs.WantedNumbers.{more_from}
use Rattle.story_finder.proofs.cutting.lines_needed.Goals as goal

pub loop-number-init : goal.loop-number-init
loop-number-init g c =
    let lines = lines_of c.args.trail.now in
    cutting_begins lines c.args.goal c.want.new.wanted.keys c.new-needed.result.items c.requires.some c.requires.there
    (more_from _ c.new-wanted.result.keys c.want.new.wanted.keys c.new-wanted.ensures.empty c.in_ok-want.ensures) c.new-needed.ensures.items

pub loop-number-preserved : goal.loop-number-preserved
loop-number-preserved g c =
    let lines = lines_of c.args.trail.now in
    let needed = c.loop-number.needed.items in
    let number = c.in-Some.number in
    subst (λ z. Cutting lines c.args.goal c.want_premises.new.wanted.keys z (number - 1)) (sym c.in_ok-push.ensures.items)
    (cutting_goes_on lines c.args.goal c.loop-number.wanted.keys c.greatest.new.wanted.keys c.want_premises.new.wanted.keys needed c.loop-number.upto number
    c.requires.before c.loop-number.invariant c.in-Some.ensures c.in_ok-want_premises.ensures)

pub loop-number-smaller : goal.loop-number-smaller
loop-number-smaller g c =
    let lines = lines_of c.args.trail.now in
    let number = c.in-Some.number in
    let some = greatest_some lines c.args.goal c.loop-number.wanted.keys c.greatest.new.wanted.keys c.loop-number.needed.items c.loop-number.upto number c.loop-number.invariant c.in-Some.ensures in
    let within = greatest_upto lines c.args.goal c.loop-number.wanted.keys c.greatest.new.wanted.keys c.loop-number.needed.items c.loop-number.upto number c.loop-number.invariant c.in-Some.ensures in
    omega (arith, some, within)

pub returns : goal.returns
returns g c =
    let lines = lines_of c.args.trail.now in
    subst (AreNeeded lines c.args.goal) (sym c.reverse.ensures.items)
    (cutting_is_done lines c.args.goal c.loop-number.wanted.keys c.loop-number.needed.items c.loop-number.upto c.loop-number.invariant c.in_default.ensures)

pub overflow_sub-upto : goal.overflow_sub-upto
overflow_sub-upto g c =
    let lines = lines_of c.args.trail.now in
    let some : 0 < c.in-Some.number = greatest_some lines c.args.goal c.loop-number.wanted.keys c.greatest.new.wanted.keys c.loop-number.needed.items c.loop-number.upto c.in-Some.number c.loop-number.invariant c.in-Some.ensures in
    omega (arith, some)
