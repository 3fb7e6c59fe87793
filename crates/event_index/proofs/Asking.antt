-- What a row of bits answers.
use Rattle.std.proofs.Common.{◌≡◌, ℕ, Bool, true, false, ◌||◌, List, [], Option, Some, None, slice_get, refl, sym, ap, subst, ◌∙◌}
use Rattle.std.specs.HashMap.{get}
use Rattle.vet_base.proofs.Texts.{same_itself}
use Rattle.app_machine.specs.declared.app.App.{App}
use Rattle.app_machine.specs.declared.app.Class.{Class}
use Rattle.app_machine.specs.declared.lists.LibClass.{LibClass}
use Rattle.app_machine.specs.declared.lists.Lists.{Lists}
use Rattle.app_machine.specs.Lookups.{all_above, class_named}
use Rattle.app_machine.specs.Names.{Name, same_name, object_class}
use Rattle.app_machine.specs.Summaries.{listed_above, listed_class}
use Rattle.app_model.specs.Above.{is_among, is_below, is_class_below, is_listed_below}
use Rattle.app_model.specs.Marks.{is_marked}
use Rattle.event_index.specs.declared.keys.NameKey.{NameKey}
use Rattle.event_index.specs.declared.kinds.Kinds.{Kinds}
use Rattle.event_index.specs.declared.listed.Listed.{Listed}
use Rattle.event_index.specs.Kinds.{AreKinds, HasKinds, IsNumberOf}
use Rattle.event_index.specs.Listed.{IsListed}
use Rattle.event_index.specs.Settled.{AreSettled}
use Rattle.event_index.proofs.Classes.{name_of_class}
use Rattle.event_index.proofs.AboveRows.{below_outside}

pub is_class_below_object : (app : App) (lists : Lists) (class type : Name) → type ≡ object_class → true ≡ is_class_below app lists class type
unfolding is_class_below
is_class_below_object app lists class type is = rw is (rw (same_itself object_class) refl)

has_answer : (kinds : Kinds) (row : List ℕ) (test : Name → Bool) (type : Name) (k : ℕ) → HasKinds kinds row test → IsNumberOf kinds type k → is_marked row k ≡ test type
has_answer kinds row test type k has number = has.at number.key k number.has ∙ ap test number.name

pub is_class_below_by_row : (app : App) (listed : Listed) (rows : List (Option (List ℕ))) (i : ℕ) (class : Class) (row : List ℕ) (type : Name) (k : ℕ) → AreSettled app listed rows → slice_get app.classes i ≡ Some class →
    slice_get rows i ≡ Some (Some row) → IsNumberOf listed.kinds type k → is_marked row k ≡ is_class_below app listed.lists.now class.name type
is_class_below_by_row app listed rows i class row type k settled there at number =
    has_answer listed.kinds row (is_class_below app listed.lists.now class.name) type k (settled.at i class row there at) number

module _ (app : App) (listed : Listed) (class type : Name) (k : ℕ) (is : IsListed listed) (outside : class_named app class ≡ None) (number : IsNumberOf listed.kinds type k) where
  no_object : type ≡ object_class → ⊥
  no_object same = is.kinds.no_object number.key k number.has (number.name ∙ same)

  pub is_class_below_listed : (row : List ℕ) → HasKinds listed.kinds row (is_listed_below listed.lists.now class) → is_marked row k ≡ is_class_below app listed.lists.now class type
  is_class_below_listed row has = has_answer listed.kinds row (is_listed_below listed.lists.now class) type k has number ∙ below_outside app listed.lists.now class type outside no_object

  pub is_class_below_unlisted : listed_class listed.lists.now class ≡ None → same_name class type ≡ is_class_below app listed.lists.now class type
  unfolding is_listed_below listed_above is_among
  is_class_below_unlisted none =
      or_false (same_name class type)
      ∙ (ap (λ (o : Option LibClass). same_name class type || is_among (elim o as (λ (o : Option LibClass). List Name) [ None ↦ [] | Some d ↦ d.above ]) type) (sym none)
      ∙ below_outside app listed.lists.now class type outside no_object)
    where
      or_false : (a : Bool) → a ≡ (a || false)
      or_false true = refl
      or_false false = refl

-- the class that is found is of the name
pub found_class : (app : App) (lists : Lists) (name type : Name) (class : Class) → class_named app name ≡ Some class → is_below app lists class.name type ≡ is_below app lists name type
found_class app lists name type class there = ap (λ n. is_below app lists n type) (name_of_class app name class there)
