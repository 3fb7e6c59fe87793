use Rattle.std.proofs.Common.{refl}
use Rattle.dex_writer.specs.Tables.{with_type, with_types}
use Rattle.dex_writer.proofs.Passes.{pass_step, pass_done}
use Rattle.dex_writer.proofs.tables.Tables.add_types.Goals as goal

pub loop-name-preserved : goal.loop-name-preserved
loop-name-preserved c = pass_step with_types with_type (λ t name names. refl) c.loop-name.name-index c.args.names.now c.name-item.result _ _ _ c.loop-name-test.true c.name-item.is c.loop-name.invariant c.in_ok-add_type.ensures

pub returns : goal.returns
returns c = pass_done with_types with_type (λ t. refl) c.loop-name.name-index c.args.names.now _ _ c.loop-name-test.false c.loop-name.invariant
