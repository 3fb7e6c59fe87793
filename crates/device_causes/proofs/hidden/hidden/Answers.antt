use Rattle.std.proofs.Common.{◌≡◌, ◌<◌, length, get_or, ap, arith}
use Rattle.device_causes.proofs.Upward.{own_class}
use Rattle.device_causes.proofs.hidden.hidden.Goals as goal

pub add_hidden-requires-clause-own : goal.add_hidden-requires-clause-own
add_hidden-requires-clause-own c =
    let is : c.class-item.result ≡ get_or c.args.app.now.classes c.loop-class.class-index c.class-item.result = cc in
    let within : c.loop-class.class-index < length c.args.app.now.classes = omega (arith, ap length c.as_slice-class-items.ensures) in
    own_class c.args.app.now c.requires c.loop-class.class-index c.class-item.result is within
