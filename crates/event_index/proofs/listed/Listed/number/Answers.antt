use Rattle.std.proofs.Common.{sym, ap, ◌∙◌}
use Rattle.std.specs.Option.{option_copied}
use Rattle.event_index.proofs.ListedRows.{class_found, no_class}
use Rattle.event_index.proofs.listed.Listed.number.Goals as goal

pub returns-in-Some-clause-some : goal.returns-in-Some-clause-some
returns-in-Some-clause-some c =
    class_found c.args.self.now c.requires (record { name = c.args.name }) c.in-Some.number.now (sym c.get.ensures.value ∙ ap (λ o. option_copied o) c.in-Some.is)

pub returns-in-None-clause-none : goal.returns-in-None-clause-none
returns-in-None-clause-none c =
    no_class c.args.self.now c.requires (record { name = c.args.name }) (sym c.get.ensures.value ∙ ap (λ o. option_copied o) c.in-None.is)
