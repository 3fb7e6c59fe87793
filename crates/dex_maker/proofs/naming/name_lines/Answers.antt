use Rattle.std.proofs.Common.{refl}
use Rattle.dex_maker.specs.Naming.{with_line, with_lines}
use Rattle.dex_writer.proofs.Passes.{pass_step, pass_done}
use Rattle.dex_maker.proofs.naming.name_lines.Goals as goal

pub loop-line-preserved : goal.loop-line-preserved
loop-line-preserved c = pass_step with_lines with_line (λ t x xs. refl) c.loop-line.line-index c.args.lines.now c.line-item.result _ _ _ c.loop-line-test.true c.line-item.is c.loop-line.invariant c.in_ok-name_line.ensures

pub returns : goal.returns
returns c = pass_done with_lines with_line (λ t. refl) c.loop-line.line-index c.args.lines.now _ _ c.loop-line-test.false c.loop-line.invariant
