-- The interfaces of the classes upward, as a walk gathers them.
use Rattle.std.proofs.Common.{◌≡◌, List, [], ◌∷◌, ◌++◌, append_assoc, sym, ◌∙◌, ap}
use Rattle.std.specs.Prelude.{flat_map}
use Rattle.std.proofs.lemmas.List.{append-nil}
use Rattle.app_machine.specs.declared.app.Class.{Class}
use Rattle.app_machine.specs.Names.{Name}
use Rattle.link_code.specs.Statics.{own_interfaces}

-- these interfaces, and then those of the classes that are left, are those of all
pub record Gathers (all left : List Class) (queue : List Name) : Type 0 where
  pub is : queue ++ flat_map own_interfaces left ≡ flat_map own_interfaces all

module _ (all left : List Class) where
  pub gather_begins : left ≡ all → Gathers all left []
  gather_begins same = record { is = ap (flat_map own_interfaces) same }

  module _ (queue : List Name) (so_far : Gathers all left queue) where
    pub gather_next : (c : Class) (rest : List Class) → left ≡ c ∷ rest → Gathers all rest (queue ++ c.interfaces)
    gather_next c rest front = record { is = append_assoc queue c.interfaces (flat_map own_interfaces rest) ∙ (ap (λ cs. queue ++ flat_map own_interfaces cs) (sym front) ∙ so_far.is) }

    pub gather_end : left ≡ [] → queue ≡ flat_map own_interfaces all
    gather_end nothing = sym (append-nil queue) ∙ (ap (λ cs. queue ++ flat_map own_interfaces cs) (sym nothing) ∙ so_far.is)
