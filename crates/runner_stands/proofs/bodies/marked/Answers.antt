use Rattle.std.proofs.Common.{◌≡◌, length, map, ap, ◌∙◌, arith}
use Rattle.runner_stands.specs.Stands.{at_body, marked_below}
use Rattle.runner_stands.proofs.Listed.{listed_next}
use Rattle.runner_stands.proofs.bodies.marked.Goals as goal

pub loop-method-preserved : goal.loop-method-preserved
loop-method-preserved c = listed_next c.args.marks.now c.loop-method.method c.loop-method.stands.items c.add_if.new.stands.items c.in_ok-add_if.ensures c.loop-method.invariant

pub returns : goal.returns
returns c =
    let same : c.loop-method.method ≡ length c.args.app.now.methods = omega (arith, c.method_count-method-end.ensures) in
    c.loop-method.invariant ∙ ap (λ n. map at_body (marked_below c.args.marks.now n)) same
