use Rattle.std.proofs.Common.{refl}
use Rattle.std.proofs.lemmas.Bool.{false≢true}
use Rattle.std.proofs.lemmas.List.{map_push}
use Rattle.dex_code.proofs.Covering.{try_shared, try_left, try_dropped}
use Rattle.dex_code.proofs.handlers.part_one.Goals as goal

pub returns-in_ok-push_addresses : goal.returns-in_ok-push_addresses
returns-in_ok-push_addresses c tries parted =
    let both = c.if-covers_both.ensures.0 refl in
    rw c.in_ok-push_addresses.ensures (try_shared _ _ tries _ _ c.args.item.now parted both.0 both.1)

pub returns-in_ok-push : goal.returns-in_ok-push
returns-in_ok-push c tries parted = rw (c.in_ok-push.ensures.items, map_push) (try_left _ _ tries _ _ c.args.item.now parted)

pub returns-else-meets : goal.returns-else-meets
returns-else-meets c tries parted = try_dropped _ _ tries _ _ c.args.item.now parted (λ meets. false≢true (c.if-meets.ensures.1 meets))
