-- The classes of an app before its methods are put in.
use Rattle.std.proofs.Common.{◌≡◌, List, [], ◌∷◌, map, Option, refl, sym, ◌∙◌, ap, subst, inl, inr}
use Rattle.std.specs.Prelude.{IsTrue, is_some}
use Rattle.std.specs.List.Sorted.{IsStrictlySortedBy}
use Rattle.std.specs.Map.{lookup, keys_of}
use Rattle.std.specs.BTreeMap.{is_at}
use Rattle.std.proofs.lemmas.Map.Entries.{lookup_tail}
use Rattle.app_machine.specs.declared.app.App.{App}
use Rattle.app_machine.specs.declared.app.Class.{Class}
use Rattle.vet_base.specs.Members.{In}
use Rattle.app_machine.specs.Names.{Name}
use Rattle.vet_base.specs.Ascending.{Ascends}
use Rattle.app_machine.specs.Sound.{name_order, class_order, IsAbove, directly, beyond}
use Rattle.link_listing.specs.Orders.{named, has_name}
use Rattle.link_hierarchy.specs.Hierarchy.{Above, NoCircle, without_outer, renamed}
use Rattle.link_hierarchy.specs.Hierarchy as hierarchy
use Rattle.link_hierarchy.proofs.Entries.{entry_of, found_in}
use Rattle.std.proofs.lemmas.Bool.{cases_Bool}
use Rattle.vet_base.proofs.Texts.{tied_equal}

-- names that stand in strict order
ascend_by_name : (list : List Class) → IsStrictlySortedBy name_order (map (λ (c : Class). c.name) list) → Ascends class_order list
unfolding IsStrictlySortedBy
ascend_by_name [] sorted = tt
ascend_by_name (x ∷ []) sorted = tt
ascend_by_name (x ∷ y ∷ ys) sorted = (sorted.0.0, ascend_by_name (y ∷ ys) sorted.1)

names_of : (list : List Class) (entries : List (Name × Class)) → map without_outer list ≡ map renamed entries → map (λ (c : Class). c.name) list ≡ keys_of entries
names_of [] [] same = refl
names_of [] (e ∷ es) same = absurd cc
names_of (c ∷ cs) [] same = absurd cc
names_of (c ∷ cs) (e ∷ es) same =
    let first : without_outer c ≡ renamed e = cc in
    let others : map without_outer cs ≡ map renamed es = cc in
    let name : c.name ≡ e.0 = ap (λ (d : Class). d.name) first in
    ap (λ (n : Name). n ∷ map (λ (c : Class). c.name) cs) name ∙ ap (λ (ns : List Name). e.0 ∷ ns) (names_of cs es others)

pub classes_ascend : (list : List Class) (entries : List (Name × Class)) → map without_outer list ≡ map renamed entries → IsStrictlySortedBy name_order (keys_of entries) → Ascends class_order list
classes_ascend list entries same sorted = ascend_by_name list (subst (λ (ns : List Name). IsStrictlySortedBy name_order ns) (sym (names_of list entries same)) sorted)

module _ (app : App) (entries : List (Name × Class)) (same : map without_outer app.classes ≡ map renamed entries) (sorted : IsStrictlySortedBy name_order (keys_of entries)) where
  among_entries : (class above : Name) → IsAbove app class above → Above entries class above
  among_entries class above (directly c k j) =
      let e = entry_of app.classes entries c same k in
      hierarchy.directly e.class (found_in entries c.name e.class sorted e.there) (subst (λ (ns : List Name). In above ns) (sym e.above) j)
  among_entries class above (beyond p q) = hierarchy.beyond (among_entries _ _ p) (among_entries _ _ q)

  pub no_circle : NoCircle entries → (class : Name) → IsAbove app class class → ⊥
  no_circle none class p = none.none class (among_entries class class p)

-- a name among the entries is that of a class
named_there : (list : List Class) (entries : List (Name × Class)) (name : Name) → map without_outer list ≡ map renamed entries → IsTrue (is_some (lookup (is_at (name_order name)) entries)) → (k : Class) × In k list × (k.name ≡ name)
named_there list [] name same h = absurd cc
named_there [] (e ∷ es) name same h = absurd cc
named_there (c ∷ cs) (e ∷ es) name same h = elim (cases_Bool (is_at (name_order name) e.0)) [
  | inl here ↦ (
      let first : without_outer c ≡ renamed e = cc in
      let k : name ≡ e.0 = tied_equal name e.0 here in
      let n : c.name ≡ e.0 = ap (λ (d : Class). d.name) first in
      (c, inl refl, n ∙ sym k))
  | inr other ↦ (
      let others : map without_outer cs ≡ map renamed es = cc in
      let tail : lookup (is_at (name_order name)) (e ∷ es) ≡ lookup (is_at (name_order name)) es = lookup_tail (is_at (name_order name)) e es other in
      let found = named_there cs es name others (subst (λ (o : Option Class). IsTrue (is_some o)) tail h) in
      (found.0, inr found.1, found.2))
]

pub class_of_entry : (list : List Class) (entries : List (Name × Class)) (name : Name) → map without_outer list ≡ map renamed entries → IsTrue (has_name entries name) → (k : Class) × In k list × (k.name ≡ name)
unfolding named
class_of_entry list entries name same h = named_there list entries name same h
