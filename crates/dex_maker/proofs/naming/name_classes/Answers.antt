use Rattle.std.proofs.Common.{refl}
use Rattle.dex_maker.specs.Naming.{with_class, with_classes}
use Rattle.dex_writer.proofs.Passes.{pass_step, pass_done}
use Rattle.dex_maker.proofs.naming.name_classes.Goals as goal

pub loop-class-preserved : goal.loop-class-preserved
loop-class-preserved c = pass_step with_classes with_class (λ t x xs. refl) c.loop-class.class-index c.args.classes.now c.class-item.result _ _ _ c.loop-class-test.true c.class-item.is c.loop-class.invariant c.in_ok-name_class.ensures

pub returns : goal.returns
returns c = pass_done with_classes with_class (λ t. refl) c.loop-class.class-index c.args.classes.now _ _ c.loop-class-test.false c.loop-class.invariant
