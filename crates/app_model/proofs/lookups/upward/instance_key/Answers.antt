use Rattle.std.proofs.Common.{sym}
use Rattle.app_model.proofs.Fields.{key_found, key_of_all}
use Rattle.app_model.proofs.lookups.upward.instance_key.Goals as goal

pub returns-in-Some : goal.returns-in-Some
returns-in-Some c = sym (key_found c.args.app.now c.args.class.now c.args.name.now c.args.kind.now c.in-Some.key (rw (← c.as_bytes.ensures, ← c.as_bytes-2.ensures, ← c.as_bytes-3.ensures) (sym c.in-Some.ensures)))

pub returns-in-None : goal.returns-in-None
returns-in-None c = sym (key_of_all c.args.app.now c.args.class.now c.args.name.now c.args.kind.now (rw (← c.as_bytes.ensures, ← c.as_bytes-2.ensures, ← c.as_bytes-3.ensures) (sym c.in-None.ensures)))
