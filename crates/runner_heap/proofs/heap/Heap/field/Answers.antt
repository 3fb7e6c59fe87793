use Rattle.std.proofs.Common.{sym, ap, ◌∙◌}
use Rattle.std.specs.Option.{option_copied}
use Rattle.played_machine.specs.Local.{first_or_blank}
use Rattle.runner_heap.specs.Shown.{field_key}
use Rattle.runner_heap.proofs.Places.{values_of_place, no_values}
use Rattle.runner_heap.proofs.heap.Heap.field.Goals as goal

pub returns-in-Some : goal.returns-in-Some
returns-in-Some c =
    c.field.ensures
    ∙ ap first_or_blank (values_of_place c.args.self.now.objects.items c.args.place c.in-Some.entity.now (ap (λ o. option_copied o) (sym c.in-Some.is) ∙ c.entity.ensures) (field_key c.args.number))

pub returns-in-None : goal.returns-in-None
returns-in-None c =
    c.blank.ensures
    ∙ ap first_or_blank (sym (no_values c.args.self.now.objects.items c.args.place (ap (λ o. option_copied o) (sym c.in-None.is) ∙ c.entity.ensures) (field_key c.args.number)))
