use Rattle.verdict_report.proofs.Texts.{descriptor_parts}
use Rattle.verdict_report.proofs.printed.put_descriptor.Goals as goal

pub returns : goal.returns
returns c =
    descriptor_parts c.args.text.now.items c.put_name.new.text.items c.put_types.new.text.items c.put_name-2.new.text.items c.put_name-3.new.text.items c.args.proto.now
    (rw c.as_slice.ensures at c.in_ok-put_name.ensures) (rw c.as_slice-2.ensures at c.in_ok-put_types.ensures) (rw c.as_slice-3.ensures at c.in_ok-put_name-2.ensures) (rw c.as_bytes.ensures at c.in_ok-put_name-3.ensures)
