use Rattle.std.proofs.Common.{sym, ap, ◌∙◌}
use Rattle.std.specs.Option.{option_copied}
use Rattle.begin_rules.specs.Fits.{fits}
use Rattle.cell_begin_rules.proofs.beginning.begin.Goals as goal

pub with_code-requires : goal.with_code-requires
with_code-requires g c = fits c.args.app.now c.args.begun.now.start.body c.in-Some.method.now c.requires (sym c.get.ensures ∙ ap (λ o. option_copied o) c.in-Some.is) c.if-method.false
