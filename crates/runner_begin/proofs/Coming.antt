-- Events with a receiver as they are chosen.
use Rattle.std.proofs.Common.{◌≡◌, ℕ, [], ◌∷◌, ◌++◌, length, Option, Some, ap, ◌∙◌}
use Rattle.app_machine.specs.Events.{set_component}
use Rattle.app_machine.specs.Names.{Name}
use Rattle.app_machine.specs.State.{ComponentState, World, new_object}
use Rattle.played_machine.specs.Coming.{Receives}
use Rattle.runner_choices.specs.Choices.{born_by, in_state, lived_by}

module _ (w : World) (c to : ℕ) (body : Option ℕ) (life : ComponentState) where
  pub born_is : (class : Name) (n : ℕ) → life ≡ in_state to (Some n) → n ≡ length w.heap →
      Receives body (Some n) [] (record w { heap = w.heap ++ new_object class ∷ []; components = set_component w.components c life }) ≡ born_by w c class to body
  born_is class n is next =
      ap (λ (s : ComponentState). Receives body (Some n) [] (record w { heap = w.heap ++ new_object class ∷ []; components = set_component w.components c s })) is
      ∙ ap (λ (m : ℕ). Receives body (Some m) [] (record w { heap = w.heap ++ new_object class ∷ []; components = set_component w.components c (in_state to (Some m)) })) next

  pub lived_is : (place : Option ℕ) → life ≡ in_state to place → place ≡ (w.components c).place →
      Receives body place [] (record w { components = set_component w.components c life }) ≡ lived_by w c to body
  lived_is place is there =
      ap (λ (s : ComponentState). Receives body place [] (record w { components = set_component w.components c s })) is
      ∙ ap (λ (p : Option ℕ). Receives body p [] (record w { components = set_component w.components c (in_state to p) })) there
