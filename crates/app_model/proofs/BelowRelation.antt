-- The answer to whether a class or interface is below a type is that of the relation.
use Rattle.std.proofs.Common.{◌≡◌, ℕ, zero, suc, Bool, true, ◌||◌, [], ◌∷◌, length, Option, Some, None, refl, sym, ◌∙◌, ap, subst, inl, inr}
use Rattle.std.specs.Prelude.{IsTrue, ◌↔◌, flat_map}
use Rattle.std.specs.List.{list_any}
use Rattle.app_machine.specs.declared.app.App.{App}
use Rattle.app_machine.specs.declared.app.Class.{Class}
use Rattle.app_machine.specs.declared.lists.Lists.{Lists}
use Rattle.vet_base.specs.Members.{In}
use Rattle.app_machine.specs.Names.{Name, same_name, object_class}
use Rattle.app_machine.specs.Lookups.{class_among, class_named, above_within, all_above, directly_above}
use Rattle.app_machine.specs.Summaries.{listed_above, ClassBelow}
use Rattle.app_machine.specs.Summaries.ClassBelow.{is_same, is_object, is_through, is_listed}
use Rattle.app_machine.specs.Sound.{IsAbove}
use Rattle.app_model.specs.Above.{is_among, is_listed_below, any_listed_below, has_below, is_class_below}
use Rattle.app_model.proofs.Reach.{within_all}
use Rattle.std.proofs.lemmas.Bool.{or_cases, or_left, or_right}
use Rattle.vet_base.proofs.Members.{passes_if, one_passes, in_flat, from_flat}
use Rattle.vet_base.proofs.Texts.{same_equal, same_itself}

module _ (app : App) (lists : Lists) (type : Name) where
  listed_so : (class : Name) → is_listed_below lists class type ≡ true → ClassBelow app lists class type
  unfolding is_listed_below is_among
  listed_so class holds = elim (or_cases (same_name class type) (is_among (listed_above lists class) type) holds) [
    | inl same ↦ subst (λ x. ClassBelow app lists class x) (same_equal class type same) is_same
    | inr among ↦ let one = one_passes (λ other. same_name other type) (listed_above lists class) among in is_listed (subst (λ x. In x (listed_above lists class)) (same_equal one.0 type one.2) one.1)
  ]

  above_so : (c : Class) → has_below c lists type ≡ true → (a : Name) × In a (directly_above c) × ClassBelow app lists a type
  unfolding has_below any_listed_below
  above_so c holds = let one = one_passes (λ class. is_listed_below lists class type) (directly_above c) holds in (one.0, one.1, listed_so one.0 one.2)

  -- through the classes on the way
  way_so : (n : ℕ) (class : Name) (c : Class) → In c (above_within n app.classes class) → has_below c lists type ≡ true → ClassBelow app lists class type
  unfolding class_named
  way_so zero class c at holds = absurd at
  way_so (suc n) class c at holds = by_class (class_among app.classes class) refl (λ a at'. way_so n a c at' holds) at
    where
      through : (d : Class) → class_among app.classes class ≡ Some d → ((a : Name) → In c (above_within n app.classes a) → ClassBelow app lists a type) → In c (d ∷ flat_map (λ above. above_within n app.classes above) (directly_above d)) → ClassBelow app lists class type
      through d there again (inl same) = let up = above_so c holds in is_through d there (subst (λ (x : Class). In up.0 (directly_above x)) same up.1) up.2
      through d there again (inr later) = let up = from_flat (λ above. above_within n app.classes above) (directly_above d) c later in is_through d there up.1 (again up.0 up.2)

      by_class : (o : Option Class) → class_among app.classes class ≡ o → ((a : Name) → In c (above_within n app.classes a) → ClassBelow app lists a type) →
          In c (elim (class_among app.classes class) [ None ↦ [] | Some d ↦ d ∷ flat_map (λ above. above_within n app.classes above) (directly_above d) ]) → ClassBelow app lists class type
      by_class None is again at = absurd (subst (λ o. In c (elim o [ None ↦ [] | Some d ↦ d ∷ flat_map (λ above. above_within n app.classes above) (directly_above d) ])) is at)
      by_class (Some d) is again at = through d is again (subst (λ o. In c (elim o [ None ↦ [] | Some d ↦ d ∷ flat_map (λ above. above_within n app.classes above) (directly_above d) ])) is at)

  pub class_below_if : (class : Name) → is_class_below app lists class type ≡ true → ClassBelow app lists class type
  unfolding is_class_below all_above
  class_below_if class holds = elim (or_cases (same_name type object_class) (is_listed_below lists class type || list_any (λ (c : Class). has_below c lists type) (all_above app class)) holds) [
    | inl object ↦ is_object (same_equal type object_class object)
    | inr rest ↦ elim (or_cases (is_listed_below lists class type) (list_any (λ (c : Class). has_below c lists type) (all_above app class)) rest) [
      | inl here ↦ listed_so class here
      | inr up ↦ let one = one_passes (λ (c : Class). has_below c lists type) (all_above app class) up in way_so (length app.classes) class one.0 one.1 one.2
    ]
  ]

  -- the classes directly above a class of the app lead on
  module _ (no_circle : (class : Name) → IsAbove app class class → ⊥) where
    answer_here : (class : Name) → is_listed_below lists class type ≡ true → is_class_below app lists class type ≡ true
    unfolding is_class_below
    answer_here class holds = or_right (same_name type object_class) (is_listed_below lists class type || list_any (λ (c : Class). has_below c lists type) (all_above app class)) (or_left (is_listed_below lists class type) (list_any (λ (c : Class). has_below c lists type) (all_above app class)) holds)

    answer_above : (class : Name) (c : Class) → In c (all_above app class) → has_below c lists type ≡ true → is_class_below app lists class type ≡ true
    unfolding is_class_below
    answer_above class c at holds = or_right (same_name type object_class) (is_listed_below lists class type || list_any (λ (c : Class). has_below c lists type) (all_above app class))
        (or_right (is_listed_below lists class type) (list_any (λ (c : Class). has_below c lists type) (all_above app class)) (passes_if (λ (c : Class). has_below c lists type) (all_above app class) c at holds))

    -- a class that is met one step further up is met
    met : (n : ℕ) (class above : Name) (c d : Class) → class_named app class ≡ Some d → In above (directly_above d) → In c (above_within n app.classes above) → In c (all_above app class)
    unfolding class_named
    met n class above c d there up at =
        within_all app no_circle (suc n) class c (subst (λ o. In c (elim o [ None ↦ [] | Some d ↦ d ∷ flat_map (λ above. above_within n app.classes above) (directly_above d) ])) (sym there)
        (inr (in_flat (λ above. above_within n app.classes above) (directly_above d) above c up at)))

    met_itself : (class : Name) (d : Class) → class_named app class ≡ Some d → In d (all_above app class)
    unfolding class_named
    met_itself class d there =
        within_all app no_circle 1 class d (subst (λ o. In d (elim o [ None ↦ [] | Some d ↦ d ∷ flat_map (λ above. above_within 0 app.classes above) (directly_above d) ])) (sym there) (inl refl))

    one_further : (class above : Name) (d : Class) → class_named app class ≡ Some d → In above (directly_above d) → is_class_below app lists above type ≡ true → is_class_below app lists class type ≡ true
    unfolding is_class_below all_above has_below any_listed_below
    one_further class above d there up holds = elim (or_cases (same_name type object_class) (is_listed_below lists above type || list_any (λ (c : Class). has_below c lists type) (all_above app above)) holds) [
      | inl object ↦ or_left (same_name type object_class) (is_listed_below lists class type || list_any (λ (c : Class). has_below c lists type) (all_above app class)) object
      | inr rest ↦ elim (or_cases (is_listed_below lists above type) (list_any (λ (c : Class). has_below c lists type) (all_above app above)) rest) [
        | inl here ↦ answer_above class d (met_itself class d there) (passes_if (λ a. is_listed_below lists a type) (directly_above d) above up here)
        | inr higher ↦ let one = one_passes (λ (c : Class). has_below c lists type) (all_above app above) higher in answer_above class one.0 (met (length app.classes) class above one.0 d there up one.1) one.2
      ]
    ]

    pub class_below_only_if : (class : Name) → ClassBelow app lists class type → is_class_below app lists class type ≡ true
    unfolding is_class_below is_listed_below is_among
    class_below_only_if class is_same = answer_here class (or_left (same_name class class) (is_among (listed_above lists class) class) (same_itself class))
    class_below_only_if class (is_object object) = or_left (same_name type object_class) (is_listed_below lists class type || list_any (λ (c : Class). has_below c lists type) (all_above app class)) (ap (λ x. same_name x object_class) object ∙ same_itself object_class)
    class_below_only_if class (is_through {above} d there up rest) = one_further class above d there up (class_below_only_if above rest)
    class_below_only_if class (is_listed among) = answer_here class (or_right (same_name class type) (is_among (listed_above lists class) type) (passes_if (λ other. same_name other type) (listed_above lists class) type among (same_itself type)))
