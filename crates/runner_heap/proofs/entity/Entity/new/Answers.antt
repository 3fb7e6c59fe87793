use Rattle.std.proofs.Common.{◌++◌, map, reverse, refl, ap, ◌∙◌}
use Rattle.std.proofs.lemmas.List.{append-nil}
use Rattle.runner_heap.specs.Shown.{element_of, fields_of, object_of}
use Rattle.runner_heap.proofs.entity.Entity.new.Goals as goal

pub returns : goal.returns
unfolding object_of
returns c = record {
  class = refl;
  entries = ap (λ fs. map element_of (reverse c.args.elements.items) ++ fields_of fs) c.new-fields.ensures.empty ∙ append-nil (map element_of (reverse c.args.elements.items));
}
