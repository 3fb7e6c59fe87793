-- The classes upward from a class are itself and those upward from its superclass.
use Rattle.std.proofs.Common.{◌≡◌, ℕ, zero, suc, ◌+◌, ◌-◌, ◌<◌, ◌≤◌, List, [], ◌∷◌, ◌++◌, map, length, get_or, Option, Some, None, slice_get, refl, sym, ◌∙◌, ap, subst, inl, inr, arith}
use Rattle.std.specs.Prelude.{option_to_list}
use Rattle.std.proofs.lemmas.Cmp.{nat_list_cmp_total, tied_itself}
use Rattle.std.proofs.lemmas.List.{length-map}
use Rattle.std.proofs.lemmas.Option.{same_Some, slice_get_within, slice_get-get_or}
use Rattle.app_machine.specs.declared.app.App.{App}
use Rattle.app_machine.specs.declared.app.Class.{Class}
use Rattle.app_machine.specs.Names.{Name}
use Rattle.app_machine.specs.Lookups.{class_among, class_named, up, up_within, directly_above}
use Rattle.app_machine.specs.Sound.{IsAbove, name_order, SoundApp}
use Rattle.app_machine.specs.Sound.IsAbove.{directly, beyond}
use Rattle.app_model.specs.ClassWalks.{classes_from}
use Rattle.app_model.proofs.Classes.{class_there}
use Rattle.app_model.proofs.Reach.{found_is_in}
use Rattle.vet_base.specs.Apart.{Apart}
use Rattle.vet_base.specs.Members.{In}
use Rattle.vet_base.proofs.Apart.{no_more}
use Rattle.vet_base.proofs.Members.{in_map}

-- a class of the app is the one of its name
pub own_class : (app : App) → SoundApp app → (i : ℕ) (x : Class) → x ≡ get_or app.classes i x → i < length app.classes → class_named app x.name ≡ Some x
unfolding class_named
own_class app sound i x is within =
    class_there app.classes sound.classes x.name i x within is (ap (λ (c : Class). name_order c.name x.name) (sym is) ∙ tied_itself nat_list_cmp_total x.name)

pub own_at : (app : App) → SoundApp app → (i : ℕ) (x : Class) → slice_get app.classes i ≡ Some x → class_named app x.name ≡ Some x
own_at app sound i x is =
    let within : i < length app.classes = slice_get_within app.classes i x is in
    own_class app sound i x (same_Some x (get_or app.classes i x) (sym is ∙ slice_get-get_or app.classes i x within)) within

class_names : App → List Name
class_names app = map (λ (c : Class). c.name) app.classes

-- what was gone through on the way to a name: each once, of the app, and below the name
record Passed (app : App) (name : Name) (used : List Name) : Type 0 where
  apart : Apart used
  of_app : (u : Name) → In u used → In u (class_names app)
  below : (u : Name) → In u used → IsAbove app u name

module _ (app : App) (no_circle : (class : Name) → IsAbove app class class → ⊥) where
  here_too : (name : Name) (used : List Name) (d : Class) → class_among app.classes name ≡ Some d → Passed app name used → Apart (name ∷ used) × ((u : Name) → In u (name ∷ used) → In u (class_names app))
  unfolding class_names
  here_too name used d there passed =
      let is = found_is_in app.classes name d there in
      let listed : In name (class_names app) = subst (λ x. In x (class_names app)) is.1 (in_map (λ (c : Class). c.name) app.classes d is.0) in
      ((λ at. no_circle name (passed.below name at), passed.apart), λ u at. in_cases u listed at)
    where
      in_cases : (u : Name) → In name (class_names app) → In u (name ∷ used) → In u (class_names app)
      in_cases u listed (inl same) = subst (λ x. In x (class_names app)) (sym same) listed
      in_cases u listed (inr later) = passed.of_app u later

  one_up : (name : Name) (used : List Name) (d : Class) (a : Name) → class_among app.classes name ≡ Some d → d.superclass ≡ Some a → Passed app name used → Passed app a (name ∷ used)
  one_up name used d a there is_up passed =
      let is = found_is_in app.classes name d there in
      let both = here_too name used d there passed in
      let at : In a (directly_above d) = subst (λ o. In a (option_to_list o ++ d.interfaces)) (sym is_up) (inl refl) in
      let step : IsAbove app name a = subst (λ x. IsAbove app x a) is.1 (directly d is.0 at) in
      record { apart = both.0; of_app = both.1; below = λ u at. below_cases u step at }
    where
      below_cases : (u : Name) → IsAbove app name a → In u (name ∷ used) → IsAbove app u a
      below_cases u step (inl same) = subst (λ x. IsAbove app x a) (sym same) step
      below_cases u step (inr later) = beyond (passed.below u later) step

  not_all : (name : Name) (used : List Name) (d : Class) → class_among app.classes name ≡ Some d → Passed app name used → length used < length app.classes
  unfolding class_names
  not_all name used d there passed =
      let both = here_too name used d there passed in
      let fits : suc (length used) ≤ length (class_names app) = no_more (name ∷ used) (class_names app) both.0 both.1 in
      let as_many : length (class_names app) ≡ length app.classes = length-map app.classes (λ (c : Class). c.name) in
      omega arith

  none_above : (n : ℕ) → up_within n app.classes None ≡ []
  none_above zero = refl
  none_above (suc n) = refl

  none_here : (n : ℕ) (name : Name) → class_among app.classes name ≡ None → up_within n app.classes (Some name) ≡ []
  none_here zero name absent = refl
  none_here (suc n) name absent = ap (λ o. elim o as (λ (o : Option Class). List Class) [ None ↦ [] | Some c ↦ c ∷ up_within n app.classes c.superclass ]) absent

  some_here : (n : ℕ) (name : Name) (d : Class) → class_among app.classes name ≡ Some d → up_within (suc n) app.classes (Some name) ≡ d ∷ up_within n app.classes d.superclass
  some_here n name d there = ap (λ o. elim o as (λ (o : Option Class). List Class) [ None ↦ [] | Some c ↦ c ∷ up_within n app.classes c.superclass ]) there

  -- more steps than there are classes lead no further
  enough : (m k : ℕ) (name : Name) (used : List Name) → Passed app name used → length app.classes ≤ m + length used → length app.classes ≤ k + length used → up_within m app.classes (Some name) ≡ up_within k app.classes (Some name)
  enough zero k name used passed one two = by_class (class_among app.classes name) refl
    where
      by_class : (o : Option Class) → class_among app.classes name ≡ o → [] ≡ up_within k app.classes (Some name)
      by_class None is = sym (none_here k name is)
      by_class (Some d) is = let some : length used < length app.classes = not_all name used d is passed in absurd (omega arith)
  enough (suc m) k name used passed one two = by_class k two (class_among app.classes name) refl (λ j a passed' one' two'. enough m j a (name ∷ used) passed' one' two')
    where
      above : (j : ℕ) (d : Class) → class_among app.classes name ≡ Some d → length app.classes ≤ suc j + length used →
          ((j : ℕ) (a : Name) → Passed app a (name ∷ used) → length app.classes ≤ m + length (name ∷ used) → length app.classes ≤ j + length (name ∷ used) → up_within m app.classes (Some a) ≡ up_within j app.classes (Some a)) →
          (o : Option Name) → d.superclass ≡ o → up_within m app.classes o ≡ up_within j app.classes o
      above j d is left again None over = none_above m ∙ sym (none_above j)
      above j d is left again (Some a) is_up = again j a (one_up name used d a is is_up passed) (omega arith) (omega arith)

      by_class : (k : ℕ) → length app.classes ≤ k + length used → (o : Option Class) → class_among app.classes name ≡ o →
          ((j : ℕ) (a : Name) → Passed app a (name ∷ used) → length app.classes ≤ m + length (name ∷ used) → length app.classes ≤ j + length (name ∷ used) → up_within m app.classes (Some a) ≡ up_within j app.classes (Some a)) →
          up_within (suc m) app.classes (Some name) ≡ up_within k app.classes (Some name)
      by_class k left None is again = none_here (suc m) name is ∙ sym (none_here k name is)
      by_class zero left (Some d) is again = let some : length used < length app.classes = not_all name used d is passed in absurd (omega arith)
      by_class (suc j) left (Some d) is again = some_here m name d is ∙ ap (λ ks. d ∷ ks) (above j d is left again d.superclass refl) ∙ sym (some_here j name d is)

  nothing_passed : (name : Name) → Passed app name []
  nothing_passed name = record { apart = tt; of_app = λ u at. absurd at; below = λ u at. absurd at }

  pub up_step : (name : Name) (d : Class) → class_named app name ≡ Some d → up app name ≡ d ∷ classes_from app d.superclass
  unfolding up class_named
  up_step name d there =
      let some : 0 < length app.classes = not_all name [] d there (nothing_passed name) in
      let n : suc (length app.classes - 1) ≡ length app.classes = omega arith in
      ap (λ m. up_within m app.classes (Some name)) (sym n) ∙ some_here (length app.classes - 1) name d there ∙ ap (λ ks. d ∷ ks) (above d.superclass refl)
    where
      above : (o : Option Name) → d.superclass ≡ o → up_within (length app.classes - 1) app.classes o ≡ classes_from app o
      above None over = none_above (length app.classes - 1)
      above (Some a) is_up = enough (length app.classes - 1) (length app.classes) a (name ∷ []) (one_up name [] d a there is_up (nothing_passed name)) (omega arith) (omega arith)

  -- where no class has the name there is none upward
  up_none : (name : Name) → class_named app name ≡ None → up app name ≡ []
  unfolding up class_named
  up_none name absent = none_here (length app.classes) name absent

  not_empty : (way : List Class) (k : Class) (rest : List Class) → [] ≡ way ++ k ∷ rest → ⊥
  not_empty [] k rest is = cc
  not_empty (x ∷ way) k rest is = cc

  -- what is upward from a name begins with its class
  begins : (name : Name) (x : Class) (rest : List Class) → up app name ≡ x ∷ rest → (x.name ≡ name) × (classes_from app x.superclass ≡ rest)
  unfolding class_named
  begins name x rest is = by_class (class_named app name) refl
    where
      by_class : (o : Option Class) → class_named app name ≡ o → (x.name ≡ name) × (classes_from app x.superclass ≡ rest)
      by_class None absent = let none : [] ≡ x ∷ rest = sym (up_none name absent) ∙ is in absurd cc
      by_class (Some d) there =
          let same : d ∷ classes_from app d.superclass ≡ x ∷ rest = sym (up_step name d there) ∙ is in
          let one : d ≡ x = cc in
          let later : classes_from app d.superclass ≡ rest = cc in
          (ap (λ (c : Class). c.name) (sym one) ∙ (found_is_in app.classes name d there).1, ap (λ (c : Class). classes_from app c.superclass) (sym one) ∙ later)

  further : (way : List Class) (k : Class) (rest : List Class) (o : Option Name) → classes_from app o ≡ way ++ k ∷ rest
      → ((a : Name) → up app a ≡ way ++ k ∷ rest → up app k.name ≡ k ∷ rest) → up app k.name ≡ k ∷ rest
  further way k rest None is again = absurd (not_empty way k rest is)
  further way k rest (Some a) is again = again a is

  -- and what is met on the way is where its own way begins
  pub suffix_up : (way : List Class) (name : Name) (k : Class) (rest : List Class) → up app name ≡ way ++ k ∷ rest → up app k.name ≡ k ∷ rest
  suffix_up [] name k rest is = ap (up app) (begins name k rest is).0 ∙ is
  suffix_up (x ∷ way) name k rest is = further way k rest x.superclass (begins name x (way ++ k ∷ rest) is).1 (λ a later. suffix_up way a k rest later)
