use Rattle.std.proofs.lemmas.Result.{on_ok_weaker}
use Rattle.device_causes.proofs.Known.{above_added}
use Rattle.device_causes.proofs.libraries.add_above.Goals as goal

pub returns : goal.returns
returns c =
    on_ok_weaker c.add_unlisted-2.result
    (λ then. above_added c.args.app.now c.args.lists.now c.args.class.now c.args.found.now.items c.add_unlisted.new.found.items c.add_unlisted-2.new.found.items c.as_slice.result.now c.as_slice-2.result.now c.as_slice.ensures c.as_slice-2.ensures c.in_ok-add_unlisted.ensures then)
    c.add_unlisted-2.ensures
