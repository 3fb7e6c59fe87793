-- The keys of ordered fields.
use Rattle.std.proofs.Common.{◌≡◌, suc, ◌+◌, ◌≤◌, Bool, true, false, List, [], ◌∷◌, ◌++◌, map, length, refl, ap, arith}
use Rattle.std.specs.Prelude.{flat_map}
use Rattle.std.specs.List.{AllByRecursion}
use Rattle.std.specs.List.Sorted.{IsStrictlySortedBy}
use Rattle.std.specs.Map.{keys_of}
use Rattle.std.specs.declared.cmp.Ordering.TheVariants.{Less}
use Rattle.app_machine.specs.declared.app.Key.{Key}
use Rattle.app_machine.specs.declared.app.Key.TheVariants.{Field}
use Rattle.vet_base.specs.Ascending.{Ascends}
use Rattle.app_machine.specs.Sound.{AreKeys, field_order}
use Rattle.link_listing.specs.Texts.{Triple}
use Rattle.link_listing.specs.MemberRows.{Fields}
use Rattle.link_listing.specs.Orders.{triple_order}
use Rattle.app_link.specs.Keys.{key_unless, key_if, all_keys}
use Rattle.link_code.proofs.FieldOrder.{ascends_as_fields}
use Rattle.vet_base.proofs.Ascending.{ascends_from_sorted}

abbrev field_unless : Bool → Triple → List Triple
field_unless true field = []
field_unless false field = field ∷ []

-- the instance fields of these entries
pub instances : Fields → List Triple
instances [] = []
instances (e ∷ es) = field_unless e.1 e.0 ++ instances es

abbrev shown : Triple → Key
shown f = Field f.0 f.1 f.2

keys_are : (fields : Fields) → flat_map key_if fields ≡ map shown (instances fields)
unfolding key_if instances
keys_are [] = refl
keys_are (e ∷ es) = key_is e.1 e.0 (keys_are es)
  where
    key_is : (b : Bool) (f : Triple) → flat_map key_if es ≡ map shown (instances es) → key_unless b f ++ flat_map key_if es ≡ map shown (field_unless b f ++ instances es)
    key_is true f rest = rest
    key_is false f rest = ap (λ (ks : List Key). shown f ∷ ks) rest

pub are_keys : (fields : Fields) → AreKeys (all_keys fields) (instances fields)
unfolding all_keys
are_keys fields = keys_are fields

below_all : (x : Triple) (fields : Fields) → AllByRecursion (λ y. triple_order x y ≡ Less) (keys_of fields) → AllByRecursion (λ y. triple_order x y ≡ Less) (instances fields)
unfolding instances
below_all x [] all = all
below_all x (e ∷ es) all = one e.1 e.0 all.0 (below_all x es all.1)
  where
    one : (b : Bool) (f : Triple) → triple_order x f ≡ Less → AllByRecursion (λ y. triple_order x y ≡ Less) (instances es) → AllByRecursion (λ y. triple_order x y ≡ Less) (field_unless b f ++ instances es)
    one true f less rest = rest
    one false f less rest = (less, rest)

instances_sorted : (fields : Fields) → IsStrictlySortedBy triple_order (keys_of fields) → IsStrictlySortedBy triple_order (instances fields)
unfolding instances IsStrictlySortedBy
instances_sorted [] sorted = sorted
instances_sorted (e ∷ es) sorted = one e.1 e.0 (below_all e.0 es sorted.0) (instances_sorted es sorted.1)
  where
    one : (b : Bool) (f : Triple) → AllByRecursion (λ y. triple_order f y ≡ Less) (instances es) → IsStrictlySortedBy triple_order (instances es) → IsStrictlySortedBy triple_order (field_unless b f ++ instances es)
    one true f all rest = rest
    one false f all rest = (all, rest)

pub instances_ascend : (fields : Fields) → IsStrictlySortedBy triple_order (keys_of fields) → Ascends field_order (instances fields)
instances_ascend fields sorted = ascends_as_fields (instances fields) (ascends_from_sorted triple_order (instances fields) (instances_sorted fields sorted))

few : (fields : Fields) → length (flat_map key_if fields) ≤ length fields
unfolding key_if
few [] = omega arith
few (e ∷ es) = one e.1 e.0 (few es)
  where
    one : (b : Bool) (f : Triple) → length (flat_map key_if es) ≤ length es → length (key_unless b f ++ flat_map key_if es) ≤ suc (length es)
    one true f h = omega (arith, h)
    one false f h = omega (arith, h)

pub few_keys : (fields : Fields) → length (all_keys fields) ≤ 1 + length fields
unfolding all_keys
few_keys fields = let h : length (flat_map key_if fields) ≤ length fields = few fields in omega (arith, h)
