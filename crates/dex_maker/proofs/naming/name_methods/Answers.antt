use Rattle.std.proofs.Common.{List, refl}
use Rattle.dex_writer.specs.declared.tables.Tables.{Tables}
use Rattle.dex_maker.specs.declared.listing.ListedMethod.{ListedMethod}
use Rattle.dex_writer.specs.Tables.{and_method}
use Rattle.dex_maker.specs.Naming.{with_methods}
use Rattle.dex_writer.proofs.Passes.{pass_step, pass_done}
use Rattle.dex_maker.proofs.naming.name_methods.Goals as goal

pub loop-method-preserved : goal.loop-method-preserved
loop-method-preserved c = pass_step (λ (t : Tables) (ms : List ListedMethod). with_methods t c.args.class.now ms) (λ (t : Tables) (m : ListedMethod). and_method t c.args.class.now m.name m.params m.ret) (λ t x xs. refl) c.loop-method.method-index c.args.methods.now c.method-item.result _ _ _ c.loop-method-test.true c.method-item.is c.loop-method.invariant (rw c.as_slice-params.ensures at c.in_ok-push_method.ensures)

pub returns : goal.returns
returns c = pass_done (λ (t : Tables) (ms : List ListedMethod). with_methods t c.args.class.now ms) (λ (t : Tables) (m : ListedMethod). and_method t c.args.class.now m.name m.params m.ret) (λ t. refl) c.loop-method.method-index c.args.methods.now _ _ c.loop-method-test.false c.loop-method.invariant
