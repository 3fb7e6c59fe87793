use Rattle.std.proofs.Common.{Some, None, sym, ap, ◌∙◌}
use Rattle.std.specs.Option.{option_copied}
use Rattle.runner_heap.proofs.Places.{class_of_place}
use Rattle.runner_heap.proofs.heap.Heap.class.Goals as goal

pub returns-in-Some : goal.returns-in-Some
returns-in-Some c =
    ap (λ x. Some x) c.class.ensures
    ∙ class_of_place c.args.self.now.objects.items c.args.place (Some c.in-Some.entity.now) (ap (λ o. option_copied o) (sym c.in-Some.is) ∙ c.entity.ensures)

pub returns-in-None : goal.returns-in-None
returns-in-None c = class_of_place c.args.self.now.objects.items c.args.place None (ap (λ o. option_copied o) (sym c.in-None.is) ∙ c.entity.ensures)
