use Rattle.std.proofs.Common.{◌∷◌, [], map, ap, ◌∙◌}
use Rattle.std.proofs.lemmas.List.{map-append}
use Rattle.runner_heap.specs.Shown.{object_of}
use Rattle.runner_heap.proofs.heap.Heap.add.Goals as goal

pub returns-clause-ok : goal.returns-clause-ok
returns-clause-ok c = ap (λ xs. map object_of xs) c.in_ok-push.ensures.items ∙ map-append object_of c.args.self.now.objects.items (c.args.entity ∷ [])
