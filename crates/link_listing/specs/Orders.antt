-- Ordered lists of entries, by a name or by three names.
use Rattle.std.specs.Prelude.{◌↔◌, Bool, List, Option, is_some}
use Rattle.std.specs.List.{IsDistinct}
use Rattle.std.specs.List.Sorted.{IsStrictlySortedBy}
use Rattle.std.specs.declared.cmp.Ordering.{Ordering}
use Rattle.std.specs.Ordering.{ordering_then, eq_by_cmp}
use Rattle.std.specs.BTreeMap.{insert_entry, is_at}
use Rattle.std.specs.Map.{lookup, keys_of}
use Rattle.vet_base.specs.Members.{In}
use Rattle.app_machine.specs.Names.{Name}
use Rattle.app_machine.specs.Sound.{name_order}
use Rattle.link_listing.specs.Texts.{Triple}

-- by the first name, then by the second, then by the third
abbrev pub triple_order : Triple → Triple → Ordering
triple_order a b = ordering_then (ordering_then (name_order a.0 b.0) (name_order a.1 b.1)) (name_order a.2 b.2)

-- the value of the entry of the name
unfoldable pub named : {X : Type 0} → List (Name × X) → Name → Option X
named entries name = lookup (is_at (name_order name)) entries

abbrev pub has_name : {X : Type 0} → List (Name × X) → Name → Bool
has_name entries name = is_some (named entries name)

unfoldable pub with_name : {X : Type 0} → List (Name × X) → Name → X → List (Name × X)
with_name entries name x = insert_entry name_order entries name x

unfoldable pub named_triple : {X : Type 0} → List (Triple × X) → Triple → Option X
named_triple entries triple = lookup (is_at (triple_order triple)) entries

abbrev pub has_triple : {X : Type 0} → List (Triple × X) → Triple → Bool
has_triple entries triple = is_some (named_triple entries triple)

unfoldable pub with_triple : {X : Type 0} → List (Triple × X) → Triple → X → List (Triple × X)
with_triple entries triple x = insert_entry triple_order entries triple x

-- the entries are those of the whole list, which has no key twice, in strictly ascending order of their keys
pub record AreOrdered {K X : Type 0} (order : K → K → Ordering) (whole entries : List (K × X)) : Type 0 where
  pub once : IsDistinct (eq_by_cmp order) (keys_of whole)
  pub sorted : IsStrictlySortedBy order (keys_of entries)
  pub each : (entry : K × X) → In entry entries ↔ In entry whole
