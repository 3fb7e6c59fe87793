use Rattle.std.proofs.lemmas.Result.{on_ok_weaker}
use Rattle.device_causes.specs.Path.{known_in}
use Rattle.device_causes.proofs.Paths.{enter_seen_by}
use Rattle.device_causes.proofs.path.enter_seen.Goals as goal

pub returns : goal.returns
returns c =
    on_ok_weaker c.note.result
    (λ more methods start. enter_seen_by c.args.class.now c.args.method.now (known_in c.args.known.now) (known_in c.put.new.known) c.in_ok-before.before c.in_ok-seen.seen c.args.undo.now.items c.note.new.undo.items
    c.requires c.in_ok-seen.ensures c.in_ok-before.ensures.before c.in_ok-before.ensures.known more methods start)
    c.note.ensures
