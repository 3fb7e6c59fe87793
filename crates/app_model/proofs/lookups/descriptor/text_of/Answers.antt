use Rattle.app_model.proofs.Descriptors.{descriptor_parts}
use Rattle.app_model.proofs.lookups.descriptor.text_of.Goals as goal

pub returns : goal.returns
returns c = rw (c.as_slice.ensures, c.as_bytes.ensures) (descriptor_parts c.args.proto.now)
