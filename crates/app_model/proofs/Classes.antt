-- The class of a name, as halving over the classes finds it.
use Rattle.std.proofs.Common.{refl, ◌≡◌, ℕ, ◌<◌, ◌≤◌, List, length, get_or, Some, None, Err, ◌∙◌, ap, sym}
use Rattle.std.specs.declared.cmp.Ordering.TheVariants.{Equal}
use Rattle.std.specs.List.Sorted.{IsBinarySearchResult}
use Rattle.std.proofs.lemmas.Cmp.{nat_list_cmp_total}
use Rattle.app_machine.specs.declared.app.Class.{Class}
use Rattle.app_machine.specs.Names.{Name, same_name}
use Rattle.app_machine.specs.Lookups.{class_among}
use Rattle.vet_base.specs.Ascending.{Ascends}
use Rattle.app_machine.specs.Sound.{class_order, name_order}
use Rattle.std.specs.Prelude.{slice_get}
use Rattle.std.proofs.lemmas.Option.{slice_get_read}
use Rattle.vet_base.proofs.Texts.{same_tie, tied_same}
use Rattle.vet_base.proofs.Lists.{element_at}
use Rattle.vet_base.proofs.Halving.{found_at, found_nowhere}

module _ (classes : List Class) (sorted : Ascends class_order classes) (name : Name) (i : ℕ) where
  pub class_there : (x : Class) → i < length classes → x ≡ get_or classes i x → name_order (get_or classes i x).name name ≡ Equal → class_among classes name ≡ Some x
  class_there x within is ties =
      (found_at (λ (c : Class). c.name) nat_list_cmp_total classes sorted name (λ (c : Class). same_name c.name name) (λ c same. same_tie c.name name same)
      i x within is ties (ap (λ (c : Class). same_name c.name name) is ∙ tied_same (get_or classes i x).name name ties)).1

  pub class_at : i < length classes → ((x : Class) → name_order (get_or classes i x).name name ≡ Equal) → slice_get classes i ≡ class_among classes name
  class_at within ties =
      let at : (x : Class) × (x ≡ get_or classes i x) = element_at classes i within in
      slice_get_read classes (length classes) i at.0 refl within at.1 ∙ sym (class_there at.0 within at.1 (ties at.0))

  pub class_missing : i ≤ length classes → IsBinarySearchResult (λ (c : Class). name_order c.name name) classes (Err i) → class_among classes name ≡ None
  class_missing within parted = (found_nowhere (λ (c : Class). c.name) nat_list_cmp_total classes sorted name (λ (c : Class). same_name c.name name) (λ c same. same_tie c.name name same) i within parted).1
