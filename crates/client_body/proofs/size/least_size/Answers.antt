use Rattle.std.proofs.Common.{length, ap, arith}
use Rattle.std.specs.List.{sum_by}
use Rattle.client_body.proofs.Sizes.{body_is_longer}
use Rattle.client_body.proofs.size.least_size.Goals as goal

pub returns : goal.returns
returns c reference = omega (arith, ap (sum_by length) c.as_slice.ensures, body_is_longer reference c.args.content.now)
