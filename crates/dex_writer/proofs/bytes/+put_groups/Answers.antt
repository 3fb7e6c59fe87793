use Rattle.std.proofs.Common.{◌<◌, ◌≤◌, arith, append_assoc, refl}
use Rattle.dex_writer.proofs.ByteLemmas.{groups_step}
use Rattle.dex_writer.proofs.bytes.+put_groups.Goals as goal

pub returns : goal.returns
returns t c =
    let some : 0 < c.args.more = omega arith in
    let big : 128 ≤ c.args.number = omega arith in
    rw (groups_step c.args.more c.args.number some big, c.in_ok-put_groups.ensures, c.in_ok-push-3.ensures.items, append_assoc) refl
