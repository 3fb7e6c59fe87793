use Rattle.std.proofs.Common.{ℕ, List, refl}
use Rattle.dex_writer.specs.declared.tables.Tables.{Tables}
use Rattle.dex_writer.specs.Tables.{with_type}
use Rattle.dex_maker.specs.Naming.{with_handlers}
use Rattle.dex_writer.proofs.Passes.{pass_step, pass_done}
use Rattle.dex_maker.proofs.naming.name_handlers.Goals as goal

pub loop-handler-preserved : goal.loop-handler-preserved
loop-handler-preserved c = pass_step with_handlers (λ (t : Tables) (h : List ℕ × ℕ). with_type t h.0) (λ t x xs. refl) c.loop-handler.handler-index c.args.handlers.now c.handler-item.result _ _ _ c.loop-handler-test.true c.handler-item.is c.loop-handler.invariant c.in_ok-add_type.ensures

pub returns : goal.returns
returns c = pass_done with_handlers (λ (t : Tables) (h : List ℕ × ℕ). with_type t h.0) (λ t. refl) c.loop-handler.handler-index c.args.handlers.now _ _ c.loop-handler-test.false c.loop-handler.invariant
