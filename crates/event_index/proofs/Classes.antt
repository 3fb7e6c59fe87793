-- Classes of an app by name, as halving over them finds them, and what is above one that is not of the app.
use Rattle.std.proofs.Common.{◌≡◌, ℕ, zero, suc, ◌<◌, ◌≤◌, List, [], ◌∷◌, length, get_or, Option, Some, None, Err, slice_get, refl, sym, ap, ◌∙◌}
use Rattle.std.specs.Prelude.{flat_map}
use Rattle.std.specs.declared.cmp.Ordering.TheVariants.{Equal}
use Rattle.std.specs.List.Sorted.{IsBinarySearchResult}
use Rattle.std.proofs.lemmas.Cmp.{nat_list_cmp_total}
use Rattle.std.proofs.lemmas.Option.{slice_get_read, slice_get_within, same_Some}
use Rattle.vet_base.specs.Ascending.{Ascends}
use Rattle.vet_base.proofs.Halving.{found_at, found_nowhere}
use Rattle.vet_base.proofs.Lists.{element_at}
use Rattle.vet_base.proofs.Members.{found_passes}
use Rattle.vet_base.proofs.Texts.{same_tie, tied_same, same_equal, same_itself}
use Rattle.app_machine.specs.declared.app.App.{App}
use Rattle.app_machine.specs.declared.app.Class.{Class}
use Rattle.app_machine.specs.Lookups.{class_among, class_named, above_within, all_above, directly_above, up, up_within}
use Rattle.app_machine.specs.Names.{Name, same_name}
use Rattle.app_machine.specs.Sound.{SoundApp, class_order, name_order}

module _ (classes : List Class) (sorted : Ascends class_order classes) (name : Name) (i : ℕ) where
  class_there : (x : Class) → i < length classes → x ≡ get_or classes i x → name_order (get_or classes i x).name name ≡ Equal → class_among classes name ≡ Some x
  class_there x within is ties =
      (found_at (λ (c : Class). c.name) nat_list_cmp_total classes sorted name (λ (c : Class). same_name c.name name) (λ c same. same_tie c.name name same)
      i x within is ties (ap (λ (c : Class). same_name c.name name) is ∙ tied_same (get_or classes i x).name name ties)).1

  pub class_at : i < length classes → ((x : Class) → name_order (get_or classes i x).name name ≡ Equal) → slice_get classes i ≡ class_among classes name
  class_at within ties =
      let at : (x : Class) × (x ≡ get_or classes i x) = element_at classes i within in
      slice_get_read classes (length classes) i at.0 refl within at.1 ∙ sym (class_there at.0 within at.1 (ties at.0))

  pub class_missing : i ≤ length classes → IsBinarySearchResult (λ (c : Class). name_order c.name name) classes (Err i) → class_among classes name ≡ None
  class_missing within parted = (found_nowhere (λ (c : Class). c.name) nat_list_cmp_total classes sorted name (λ (c : Class). same_name c.name name) (λ c same. same_tie c.name name same) i within parted).1

-- each class of the app is that of its name
pub class_itself : (app : App) (i : ℕ) (class : Class) → SoundApp app → slice_get app.classes i ≡ Some class → class_named app class.name ≡ Some class
unfolding class_named
class_itself app i class sound there =
    let within : i < length app.classes = slice_get_within app.classes i class there in
    let at : (x : Class) × (x ≡ get_or app.classes i x) = element_at app.classes i within in
    let same : at.0 ≡ class = same_Some at.0 class (sym (slice_get_read app.classes (length app.classes) i at.0 refl within at.1) ∙ there) in
    let ties : name_order (get_or app.classes i at.0).name at.0.name ≡ Equal = ap (λ (c : Class). name_order c.name at.0.name) (sym at.1) ∙ same_tie at.0.name at.0.name (same_itself at.0.name) in
    ap (λ (c : Class). class_among app.classes c.name) (sym same) ∙ (class_there app.classes sound.classes at.0.name i at.0 within at.1 ties ∙ ap (λ (c : Class). Some c) same)

pub name_of_class : (app : App) (name : Name) (class : Class) → class_named app name ≡ Some class → class.name ≡ name
unfolding class_named
name_of_class app name class there = same_equal class.name name (found_passes (λ (c : Class). same_name c.name name) app.classes class there)

module _ (app : App) (name : Name) (outside : class_named app name ≡ None) where
  above_none : (n : ℕ) → above_within n app.classes name ≡ []
  unfolding class_named
  above_none zero = refl
  above_none (suc n) = ap (λ (o : Option Class). elim o as (λ (o : Option Class). List Class) [ None ↦ [] | Some c ↦ c ∷ flat_map (λ above. above_within n app.classes above) (directly_above c) ]) outside

  pub nothing_above : all_above app name ≡ []
  unfolding all_above
  nothing_above = above_none (length app.classes)

  up_none : (n : ℕ) → up_within n app.classes (Some name) ≡ []
  unfolding class_named
  up_none zero = refl
  up_none (suc n) = ap (λ (o : Option Class). elim o as (λ (o : Option Class). List Class) [ None ↦ [] | Some c ↦ c ∷ up_within n app.classes c.superclass ]) outside

  pub nothing_up : up app name ≡ []
  unfolding up
  nothing_up = up_none (length app.classes)
