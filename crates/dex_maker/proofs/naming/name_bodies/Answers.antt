use Rattle.std.proofs.Common.{refl}
use Rattle.dex_writer.specs.declared.tables.Tables.{Tables}
use Rattle.dex_maker.specs.declared.listing.ListedMethod.{ListedMethod}
use Rattle.dex_maker.specs.Naming.{with_code, with_bodies}
use Rattle.dex_writer.proofs.Passes.{pass_step, pass_done}
use Rattle.dex_maker.proofs.naming.name_bodies.Goals as goal

pub loop-method-preserved : goal.loop-method-preserved
loop-method-preserved c = pass_step with_bodies (λ (t : Tables) (m : ListedMethod). with_code t m.code) (λ t x xs. refl) c.loop-method.method-index c.args.methods.now c.method-item.result _ _ _ c.loop-method-test.true c.method-item.is c.loop-method.invariant c.in_ok-name_code.ensures

pub returns : goal.returns
returns c = pass_done with_bodies (λ (t : Tables) (m : ListedMethod). with_code t m.code) (λ t. refl) c.loop-method.method-index c.args.methods.now _ _ c.loop-method-test.false c.loop-method.invariant
