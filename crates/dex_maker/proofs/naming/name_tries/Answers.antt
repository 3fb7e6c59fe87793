use Rattle.std.proofs.Common.{refl}
use Rattle.dex_writer.specs.declared.tables.Tables.{Tables}
use Rattle.dex_maker.specs.declared.listing.ListedTry.{ListedTry}
use Rattle.dex_maker.specs.Naming.{with_handlers, with_tries}
use Rattle.dex_writer.proofs.Passes.{pass_step, pass_done}
use Rattle.dex_maker.proofs.naming.name_tries.Goals as goal

pub loop-item-preserved : goal.loop-item-preserved
loop-item-preserved c = pass_step with_tries (λ (t : Tables) (x : ListedTry). with_handlers t x.handlers) (λ t x xs. refl) c.loop-item.item-index c.args.tries.now c.item-item.result _ _ _ c.loop-item-test.true c.item-item.is c.loop-item.invariant (rw c.as_slice.ensures at c.in_ok-name_handlers.ensures)

pub returns : goal.returns
returns c = pass_done with_tries (λ (t : Tables) (x : ListedTry). with_handlers t x.handlers) (λ t. refl) c.loop-item.item-index c.args.tries.now _ _ c.loop-item-test.false c.loop-item.invariant
