-- The answer to whether a class or an array is below a type is that of the relation.
use Rattle.std.proofs.Common.{◌≡◌, ◌==◌, Bool, true, false, ◌&&◌, ◌||◌, [], ◌∷◌, refl, sym, ◌∙◌, ap, subst, inl, inr, eqb-true}
use Rattle.std.specs.Prelude.{IsTrue, ◌↔◌}
use Rattle.app_machine.specs.declared.app.App.{App}
use Rattle.app_machine.specs.declared.lists.Lists.{Lists}
use Rattle.vet_base.specs.Members.{In}
use Rattle.app_machine.specs.Names.{Name, same_name, is_array, is_reference, array_types}
use Rattle.app_machine.specs.Summaries.{Below}
use Rattle.app_machine.specs.Summaries.Below.{of_class, of_array, of_elements}
use Rattle.app_machine.specs.Sound.{IsAbove}
use Rattle.app_model.specs.Above.{is_among, is_class_below, is_array_below, is_below}
use Rattle.app_model.proofs.BelowRelation.{class_below_if, class_below_only_if}
use Rattle.std.proofs.lemmas.Bool.{and_parts, and_from, or_cases, or_left, or_right}
use Rattle.vet_base.proofs.Members.{passes_if, one_passes}
use Rattle.vet_base.proofs.Texts.{same_equal, same_itself}

-- the type is one of those above all arrays
array_type : (type : Name) → is_among array_types type ≡ true → In type array_types
unfolding is_among
array_type type among = let one = one_passes (λ other. same_name other type) array_types among in subst (λ x. In x array_types) (same_equal one.0 type one.2) one.1

is_array_type : (type : Name) → In type array_types → is_among array_types type ≡ true
unfolding is_among
is_array_type type among = passes_if (λ other. same_name other type) array_types type among (same_itself type)

module _ (app : App) (lists : Lists) where
  -- what an array is below by its elements
  abbrev by_elements : Name → Name → Bool
  by_elements class type = is_reference class && (is_class_below app lists class type || is_array_below app lists class type)

  array_below_if : (class type : Name) → is_array_below app lists class type ≡ true → Below app lists class type
  unfolding is_array_below is_array
  array_below_if [] type holds = absurd cc
  array_below_if (c ∷ class) [] holds = let both = and_parts (c == 91) (is_among array_types []) holds in of_array both.0 (array_type [] both.1)
  array_below_if (c ∷ class) (t ∷ type) holds =
      let both = and_parts (c == 91) (is_among array_types (t ∷ type) || ((t == 91) && by_elements class type)) holds in
      elim (or_cases (is_among array_types (t ∷ type)) ((t == 91) && by_elements class type) both.1) [
        | inl among ↦ of_array both.0 (array_type (t ∷ type) among)
        | inr arrays ↦
            let is = and_parts (t == 91) (by_elements class type) arrays in
            let elements = and_parts (is_reference class) (is_class_below app lists class type || is_array_below app lists class type) is.1 in
            subst (λ x. Below app lists (x ∷ class) (t ∷ type)) (sym (eqb-true c 91 both.0)) (subst (λ x. Below app lists (91 ∷ class) (x ∷ type)) (sym (eqb-true t 91 is.0)) (of_elements elements.0
            (elim (or_cases (is_class_below app lists class type) (is_array_below app lists class type) elements.1) [
              | inl here ↦ of_class (class_below_if app lists type class here)
              | inr further ↦ array_below_if class type further
            ])))
      ]

  pub below_if : (class type : Name) → is_below app lists class type ≡ true → Below app lists class type
  unfolding is_below
  below_if class type holds = elim (or_cases (is_class_below app lists class type) (is_array_below app lists class type) holds) [
    | inl class_below ↦ of_class (class_below_if app lists type class class_below)
    | inr array_below ↦ array_below_if class type array_below
  ]

  array_below : (class type : Name) → is_array class ≡ true → is_among array_types type ≡ true → is_array_below app lists class type ≡ true
  unfolding is_array_below is_array
  array_below [] type array among = array
  array_below (c ∷ class) [] array among = and_from (c == 91) (is_among array_types []) array among
  array_below (c ∷ class) (t ∷ type) array among =
      and_from (c == 91) (is_among array_types (t ∷ type) || ((t == 91) && by_elements class type)) array (or_left (is_among array_types (t ∷ type)) ((t == 91) && by_elements class type) among)

  elements_below : (class type : Name) → is_reference class ≡ true → is_below app lists class type ≡ true → is_array_below app lists (91 ∷ class) (91 ∷ type) ≡ true
  unfolding is_array_below is_below
  elements_below class type reference holds =
      or_right (is_among array_types (91 ∷ type)) (by_elements class type) (and_from (is_reference class) (is_class_below app lists class type || is_array_below app lists class type) reference holds)

  module _ (no_circle : (class : Name) → IsAbove app class class → ⊥) where
    as_array : (class type : Name) → is_array_below app lists class type ≡ true → is_below app lists class type ≡ true
    unfolding is_below
    as_array class type holds = or_right (is_class_below app lists class type) (is_array_below app lists class type) holds

    pub below_only_if : {class type : Name} → Below app lists class type → is_below app lists class type ≡ true
    unfolding is_below
    below_only_if {class} {type} (of_class below) = or_left (is_class_below app lists class type) (is_array_below app lists class type) (class_below_only_if app lists type no_circle class below)
    below_only_if {class} {type} (of_array array among) = as_array class type (array_below class type array (is_array_type type among))
    below_only_if (of_elements {class} {type} reference below) = as_array (91 ∷ class) (91 ∷ type) (elements_below class type reference (below_only_if below))

    pub below_exactly : (class type : Name) (result : Bool) → result ≡ is_below app lists class type → IsTrue result ↔ Below app lists class type
    below_exactly class type result is = (λ holds. below_if class type (sym is ∙ holds), λ below. is ∙ below_only_if below)

-- How the answer is found, from the array to its elements.
module _ (app : App) (lists : Lists) (class type : Name) where
  pub no_array : is_array class ≡ false → is_array_below app lists class type ≡ false
  unfolding is_array is_array_below
  no_array other = by_class class type other
    where
      by_class : (class type : Name) → is_array class ≡ false → is_array_below app lists class type ≡ false
      by_class [] type other = refl
      by_class (c ∷ class) [] other = ap (λ b. b && is_among array_types []) other
      by_class (c ∷ class) (t ∷ type) other = ap (λ b. b && (is_among array_types (t ∷ type) || ((t == 91) && by_elements app lists class type))) other

  pub any_array : (elements : Name) → class ≡ 91 ∷ elements → is_among array_types type ≡ true → is_array_below app lists class type ≡ true
  unfolding is_array
  any_array elements class_is among = array_below app lists class type (ap is_array class_is) among

  pub array_alone : is_among array_types type ≡ false → is_array type ≡ false → is_array_below app lists class type ≡ false
  unfolding is_array is_array_below
  array_alone other alone = by_class class type other alone
    where
      and_false : (a : Bool) → (a && false) ≡ false
      and_false true = refl
      and_false false = refl

      by_class : (class type : Name) → is_among array_types type ≡ false → is_array type ≡ false → is_array_below app lists class type ≡ false
      by_class [] type other alone = refl
      by_class (c ∷ class) [] other alone = ap (λ b. (c == 91) && b) other ∙ and_false (c == 91)
      by_class (c ∷ class) (t ∷ type) other alone =
          ap (λ b. (c == 91) && (b || ((t == 91) && by_elements app lists class type))) other
          ∙ (ap (λ b. (c == 91) && (b && by_elements app lists class type)) alone ∙ and_false (c == 91))

  -- both are arrays, of these elements, and the type is not above all arrays
  module _ (elements asked : Name) (class_is : class ≡ 91 ∷ elements) (type_is : type ≡ 91 ∷ asked) (other : is_among array_types type ≡ false) where
    by_theirs : is_array_below app lists class type ≡ by_elements app lists elements asked
    unfolding is_array_below
    by_theirs =
        ap (λ c. is_array_below app lists c type) class_is
        ∙ (ap (λ t. is_array_below app lists (91 ∷ elements) t) type_is
        ∙ ap (λ b. b || by_elements app lists elements asked) (ap (is_among array_types) (sym type_is) ∙ other))

    pub no_reference : is_reference elements ≡ false → is_array_below app lists class type ≡ false
    no_reference number = by_theirs ∙ ap (λ b. b && (is_class_below app lists elements asked || is_array_below app lists elements asked)) number

    pub elements_so : is_reference elements ≡ true → is_class_below app lists elements asked ≡ true → is_array_below app lists class type ≡ true
    elements_so reference so =
        by_theirs ∙ and_from (is_reference elements) (is_class_below app lists elements asked || is_array_below app lists elements asked) reference
        (or_left (is_class_below app lists elements asked) (is_array_below app lists elements asked) so)

    pub elements_further : is_reference elements ≡ true → is_class_below app lists elements asked ≡ false → is_array_below app lists class type ≡ is_array_below app lists elements asked
    elements_further reference not_so =
        by_theirs ∙ (ap (λ b. b && (is_class_below app lists elements asked || is_array_below app lists elements asked)) reference
        ∙ ap (λ b. b || is_array_below app lists elements asked) not_so)
