use Rattle.std.proofs.Common.{map, ap, ◌∙◌, arith}
use Rattle.std.proofs.lemmas.List.{map_push}
use Rattle.std.specs.Borrow.{Bor}
use Rattle.app_machine.specs.Names.{Name}
use Rattle.runner_begin.proofs.Picked.{all_classes, one_class}
use Rattle.runner_begin.proofs.drawing.classes_of_all.Goals as goal

pub loop-one-init : goal.loop-one-init
loop-one-init c = ap (map (λ (n : Bor Name). n.now)) c.new-classes.ensures.items

pub loop-one-preserved : goal.loop-one-preserved
loop-one-preserved c =
    one_class c.args.fresh.now c.loop-one.one-index _ _ c.one-item.result c.loop-one-test.true c.one-item.is (ap (map (λ (n : Bor Name). n.now)) c.in_ok-push.ensures.items ∙ map_push (λ (n : Bor Name). n.now) c.loop-one.classes.items _) c.loop-one.invariant

pub returns : goal.returns
returns c = all_classes c.args.fresh.now c.loop-one.one-index _ (omega arith) c.loop-one.invariant
