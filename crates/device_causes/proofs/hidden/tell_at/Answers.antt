use Rattle.std.proofs.Common.{sym, ap, ◌∙◌}
use Rattle.std.specs.Option.{option_copied}
use Rattle.device_causes.proofs.Upward.{own_at}
use Rattle.device_causes.proofs.hidden.tell_at.Goals as goal

pub tell-requires-clause-own : goal.tell-requires-clause-own
tell-requires-clause-own c = own_at c.args.app.now c.requires.sound c.args.i c.in-Some.class.now (sym c.get.ensures ∙ ap (λ o. option_copied o) c.in-Some.is)
