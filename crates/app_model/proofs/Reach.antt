-- However far one goes upward, one meets the classes that stand within as many steps as there are classes.
use Rattle.std.proofs.Common.{◌≡◌, ℕ, zero, suc, ◌+◌, ◌<◌, ◌≤◌, Bool, true, false, if◌then◌else◌, List, [], ◌∷◌, map, length, Option, Some, None, refl, sym, ◌∙◌, ap, subst, ◌⊎◌, inl, inr, arith}
use Rattle.std.specs.Prelude.{flat_map}
use Rattle.std.proofs.lemmas.List.{length-map}
use Rattle.app_machine.specs.declared.app.App.{App}
use Rattle.app_machine.specs.declared.app.Class.{Class}
use Rattle.vet_base.specs.Members.{In}
use Rattle.app_machine.specs.Names.{Name, same_name}
use Rattle.app_machine.specs.Lookups.{class_among, above_within, all_above, directly_above}
use Rattle.app_machine.specs.Sound.{IsAbove}
use Rattle.app_machine.specs.Sound.IsAbove.{directly, beyond}
use Rattle.vet_base.proofs.Members.{in_flat, from_flat, in_map}
use Rattle.vet_base.specs.Apart.{Apart}
use Rattle.vet_base.proofs.Apart.{no_more}
use Rattle.vet_base.proofs.Texts.{same_equal}

first_or : (b : Bool) (d : Class) (rest : Option Class) (c : Class) → (if b then Some d else rest) ≡ Some c → ((b ≡ true) × (d ≡ c)) ⊎ (rest ≡ Some c)
first_or true d rest c is = inl (refl, cc)
first_or false d rest c is = inr is

-- a class that is found is one of the classes, and has the name
pub found_is_in : (classes : List Class) (name : Name) (c : Class) → class_among classes name ≡ Some c → In c classes × (c.name ≡ name)
found_is_in [] name c there = absurd (cc)
found_is_in (d ∷ classes) name c there = elim (first_or (same_name d.name name) d (class_among classes name) c there) [
  | inl here ↦ (inl (sym here.1), ap (λ (x : Class). x.name) (sym here.1) ∙ same_equal d.name name here.0)
  | inr later ↦ let rest = found_is_in classes name c later in (inr rest.0, rest.1)
]

class_names : App → List Name
class_names app = map (λ (c : Class). c.name) app.classes

-- what was gone through on the way to a name: each once, of the app, and below the name
record Passed (app : App) (name : Name) (used : List Name) : Type 0 where
  pub apart : Apart used
  pub of_app : (u : Name) → In u used → In u (class_names app)
  pub below : (u : Name) → In u used → IsAbove app u name

module _ (app : App) (no_circle : (class : Name) → IsAbove app class class → ⊥) where
  abbrev goes : ℕ → Name → Option Class → List Class
  goes n name o = elim o [ None ↦ [] | Some c ↦ c ∷ flat_map (λ above. above_within n app.classes above) (directly_above c) ]

  here_too : (name : Name) (used : List Name) (d : Class) → class_among app.classes name ≡ Some d → Passed app name used → Apart (name ∷ used) × ((u : Name) → In u (name ∷ used) → In u (class_names app))
  unfolding class_names
  here_too name used d there passed =
      let is = found_is_in app.classes name d there in
      let listed : In name (class_names app) = subst (λ x. In x (class_names app)) is.1 (in_map (λ (c : Class). c.name) app.classes d is.0) in
      ((λ at. no_circle name (passed.below name at), passed.apart), λ u at. in_cases u listed at)
    where
      in_cases : (u : Name) → In name (class_names app) → In u (name ∷ used) → In u (class_names app)
      in_cases u listed (inl same) = subst (λ x. In x (class_names app)) (sym same) listed
      in_cases u listed (inr later) = passed.of_app u later

  one_up : (name : Name) (used : List Name) (d : Class) (a : Name) → class_among app.classes name ≡ Some d → In a (directly_above d) → Passed app name used → Passed app a (name ∷ used)
  one_up name used d a there up passed =
      let is = found_is_in app.classes name d there in
      let both = here_too name used d there passed in
      let step : IsAbove app name a = subst (λ x. IsAbove app x a) is.1 (directly d is.0 up) in
      record { apart = both.0; of_app = both.1; below = λ u at. below_cases u step at }
    where
      below_cases : (u : Name) → IsAbove app name a → In u (name ∷ used) → IsAbove app u a
      below_cases u step (inl same) = subst (λ x. IsAbove app x a) (sym same) step
      below_cases u step (inr later) = beyond (passed.below u later) step

  not_all : (name : Name) (used : List Name) (d : Class) → class_among app.classes name ≡ Some d → Passed app name used → length used < length app.classes
  unfolding class_names
  not_all name used d there passed =
      let both = here_too name used d there passed in
      let fits : suc (length used) ≤ length (class_names app) = no_more (name ∷ used) (class_names app) both.0 both.1 in
      let as_many : length (class_names app) ≡ length app.classes = length-map app.classes (λ (c : Class). c.name) in
      omega arith

  within_left : (m k : ℕ) (name : Name) (used : List Name) → Passed app name used → k + length used ≡ length app.classes → (c : Class) → In c (above_within m app.classes name) → In c (above_within k app.classes name)
  within_left zero k name used passed left c at = absurd at
  within_left (suc m) k name used passed left c at =
      by_class k left (class_among app.classes name) refl (λ j a used' passed' left' at'. within_left m j a used' passed' left' c at') at
    where
      from_step : (k : ℕ) (d : Class) → k + suc (length used) ≡ length app.classes → class_among app.classes name ≡ Some d →
          ((j : ℕ) (a : Name) (used' : List Name) → Passed app a used' → j + length used' ≡ length app.classes → In c (above_within m app.classes a) → In c (above_within j app.classes a)) →
          In c (goes m name (Some d)) → In c (goes k name (Some d))
      from_step k d left there again (inl same) = inl same
      from_step k d left there again (inr later) =
          let way = from_flat (λ above. above_within m app.classes above) (directly_above d) c later in
          inr (in_flat (λ above. above_within k app.classes above) (directly_above d) way.0 c way.1 (again k way.0 (name ∷ used) (one_up name used d way.0 there way.1 passed) left way.2))

      by_class : (k : ℕ) → k + length used ≡ length app.classes → (o : Option Class) → class_among app.classes name ≡ o →
          ((j : ℕ) (a : Name) (used' : List Name) → Passed app a used' → j + length used' ≡ length app.classes → In c (above_within m app.classes a) → In c (above_within j app.classes a)) →
          In c (goes m name (class_among app.classes name)) → In c (above_within k app.classes name)
      by_class k left None is again at = absurd (subst (λ o. In c (goes m name o)) is at)
      by_class zero left (Some d) is again at = let some : length used < length app.classes = not_all name used d is passed in absurd (omega arith)
      by_class (suc k) left (Some d) is again at = subst (λ o. In c (goes k name o)) (sym is) (from_step k d (omega arith) is again (subst (λ o. In c (goes m name o)) is at))

  -- the classes met within any number of steps
  pub within_all : (m : ℕ) (name : Name) (c : Class) → In c (above_within m app.classes name) → In c (all_above app name)
  unfolding all_above
  within_all m name c at = within_left m (length app.classes) name [] (record { apart = tt; of_app = λ u at. absurd at; below = λ u at. absurd at }) (omega arith) c at
