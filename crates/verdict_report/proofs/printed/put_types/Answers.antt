use Rattle.printed_text.proofs.Names.{escaped_nothing}
use Rattle.verdict_report.proofs.Texts.{types_go_on}
use Rattle.verdict_report.proofs.printed.put_types.Goals as goal

pub loop-kind-init : goal.loop-kind-init
loop-kind-init c = escaped_nothing c.args.text.now.items

pub loop-kind-preserved : goal.loop-kind-preserved
loop-kind-preserved c =
    types_go_on c.args.text.now.items c.loop-kind.text.items c.put_name.new.text.items c.args.types.now c.loop-kind.kind-index c.kind-item.result c.loop-kind-test.true c.kind-item.is
    c.loop-kind.invariant (rw c.as_bytes.ensures at c.in_ok-put_name.ensures)
