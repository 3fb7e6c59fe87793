use Rattle.std.proofs.Common.{◌-◌, ◌<◌, ◌≤◌, List, length, get_or, Some, sym, ap, subst, ◌∙◌, arith}
use Rattle.played_machine.specs.Coming.{Event}
use Rattle.runner_handed.specs.declared.adding.Reached.{Reached}
use Rattle.runner_handed.specs.Reached.{reached_event}
use Rattle.runner_handed.proofs.Walked.{met_further, met_here, met_none}
use Rattle.runner_handed.proofs.menu.HandedMenu.at.Goals as goal

pub loop-row-init : goal.loop-row-init
loop-row-init c w = omega arith

pub returns-then-left-places : goal.returns-then-left-places
returns-then-left-places c w =
    let same = c.as_slice-places.ensures.value in
    ap (λ (event : Event). Some event) (c.called.ensures w ∙ ap (λ (xs : List Reached). reached_event w c.args.lists.now c.loop-row.row (get_or xs c.loop-row.left (record { place = 0; body = 0 }))) same)
    ∙ sym (met_here c.args.self.now.rows.items w c.args.lists.now c.loop-row.row c.args.index c.loop-row.left c.index.result.now (record { place = 0; body = 0 }) (omega arith) c.index.ensures (c.loop-row.invariant w)
    (subst (λ (xs : List Reached). c.loop-row.left < length xs) same c.if-left-places.true))

pub loop-row-preserved : goal.loop-row-preserved
loop-row-preserved c w =
    let same = c.as_slice-places.ensures.value in
    met_further c.args.self.now.rows.items w c.args.lists.now c.loop-row.row c.args.index c.loop-row.left (c.loop-row.left - length c.as_slice-places.result.now) c.index.result.now (omega arith) c.index.ensures
    (subst (λ (xs : List Reached). length xs ≤ c.loop-row.left) same c.if-left-places.false) (ap (λ (xs : List Reached). c.loop-row.left - length xs) same) (c.loop-row.invariant w)

pub returns : goal.returns
returns c w = met_none c.args.self.now.rows.items w c.args.lists.now c.loop-row.row c.args.index c.loop-row.left (omega arith) (omega arith) (c.loop-row.invariant w)
