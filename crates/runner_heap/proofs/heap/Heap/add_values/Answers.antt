use Rattle.std.proofs.Common.{List, refl, sym, ap, subst, ◌∙◌}
use Rattle.std.specs.Option.{option_copied}
use Rattle.vet_base.specs.declared.key_id.KeyId.{KeyId}
use Rattle.app_machine.specs.Heap.{Value}
use Rattle.played_machine.specs.Reading.{values_at}
use Rattle.runner_heap.specs.Objects.{heap_of}
use Rattle.runner_heap.specs.Shown.{AddsValues}
use Rattle.runner_heap.proofs.Added.{adds_none}
use Rattle.runner_heap.proofs.Places.{values_of_place, no_values}
use Rattle.runner_heap.proofs.heap.Heap.add_values.Goals as goal

pub returns-in_ok-add_values-in-Some-clause-values : goal.returns-in_ok-add_values-in-Some-clause-values
returns-in_ok-add_values-in-Some-clause-values c =
    subst (λ (under : KeyId → List Value). AddsValues under c.args.out.now.items c.add_values.new.out.items)
    (λ i k. values_of_place c.args.self.now.objects.items c.args.place c.in-Some.entity.now (ap (λ o. option_copied o) (sym c.in-Some.is) ∙ c.entity.ensures) k i)
    c.in_ok-add_values-in-Some.ensures.values

pub returns-in-None-clause-values : goal.returns-in-None-clause-values
returns-in-None-clause-values c =
    adds_none (values_at (heap_of c.args.self.now) c.args.place) (no_values c.args.self.now.objects.items c.args.place (ap (λ o. option_copied o) (sym c.in-None.is) ∙ c.entity.ensures))
    c.args.out.now.items c.args.out.now.items refl
