use Rattle.std.proofs.Common.{refl}
use Rattle.dex_writer.specs.declared.tables.Tables.{Tables}
use Rattle.dex_maker.specs.declared.listing.ListedClass.{ListedClass}
use Rattle.dex_maker.specs.Naming.{with_bodies, with_all_bodies}
use Rattle.dex_writer.proofs.Passes.{pass_step, pass_done}
use Rattle.dex_maker.proofs.naming.name_all_bodies.Goals as goal

pub loop-class-preserved : goal.loop-class-preserved
loop-class-preserved c = pass_step with_all_bodies (λ (t : Tables) (class : ListedClass). with_bodies t class.methods) (λ t x xs. refl) c.loop-class.class-index c.args.classes.now c.class-item.result _ _ _ c.loop-class-test.true c.class-item.is c.loop-class.invariant (rw c.as_slice.ensures at c.in_ok-name_bodies.ensures)

pub returns : goal.returns
returns c = pass_done with_all_bodies (λ (t : Tables) (class : ListedClass). with_bodies t class.methods) (λ t. refl) c.loop-class.class-index c.args.classes.now _ _ c.loop-class-test.false c.loop-class.invariant
