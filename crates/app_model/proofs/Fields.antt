-- The key of a field, as halving over the keys behind the first finds it.
use Rattle.std.proofs.Common.{◌≡◌, ℕ, zero, suc, ◌+◌, ◌<◌, ◌≤◌, true, List, [], ◌∷◌, map, length, get_or, drop, Some, None, Err, refl, sym, ◌∙◌, ap, subst, arith, add-one}
use Rattle.std.specs.Option.{option_map}
use Rattle.std.specs.declared.cmp.Ordering.TheVariants.{Equal}
use Rattle.std.specs.List.Sorted.{IsBinarySearchResult}
use Rattle.app_machine.specs.declared.app.Key.{Key}
use Rattle.app_machine.specs.declared.app.Key.TheVariants.{Elem, Field}
use Rattle.app_machine.specs.declared.app.App.{App}
use Rattle.app_machine.specs.declared.app.Class.{Class}
use Rattle.vet_base.specs.Members.{first_index, first_given}
use Rattle.app_machine.specs.Names.{Name, same_name}
use Rattle.app_machine.specs.Lookups.{is_field, up, instance_key, elem_key}
use Rattle.vet_base.specs.Ascending.{Ascends}
use Rattle.app_machine.specs.Sound.{AreKeys, field_order, name_order}
use Rattle.app_model.specs.Search.{field_key}
use Rattle.app_model.specs.Upward.{field_of}
use Rattle.app_model.proofs.Methods.{triples_total, all_tie, each_ties}
use Rattle.vet_base.proofs.Texts.{same_tie, tied_same}
use Rattle.vet_base.proofs.Lists.{element_at}
use Rattle.vet_base.proofs.Halving.{found_at, found_nowhere}
use Rattle.vet_base.proofs.Bools.{and_three}

abbrev as_key : Name × Name × Name → Key
as_key f = Field f.0 f.1 f.2

keys_ascend : (fields : List (Name × Name × Name)) → Ascends field_order fields → Ascends (λ (a b : Key). field_order (field_key a) (field_key b)) (map as_key fields)
keys_ascend [] sorted = tt
keys_ascend (f ∷ []) sorted = tt
keys_ascend (f ∷ g ∷ fields) sorted = (sorted.0, keys_ascend (g ∷ fields) sorted.1)

is_a_field : (fields : List (Name × Name × Name)) (i : ℕ) (d : Key) → i < length (map as_key fields) → (f : Name × Name × Name) × (get_or (map as_key fields) i d ≡ as_key f)
is_a_field [] i d within = absurd (omega arith)
is_a_field (f ∷ fields) zero d within = (f, refl)
is_a_field (f ∷ fields) (suc i) d within = is_a_field fields i d (omega arith)

module _ (class name kind : Name) where
  field_ties : (k : Key) → is_field k class name kind ≡ true → field_order (field_key k) (class, name, kind) ≡ Equal
  field_ties Elem passes = absurd (cc)
  field_ties (Field c n t) passes =
      let parts = and_three (same_name c class) (same_name n name) (same_name t kind) passes in
      all_tie (name_order c class) (name_order n name) (name_order t kind) (same_tie c class parts.0) (same_tie n name parts.1) (same_tie t kind parts.2)

  tied_field : (f : Name × Name × Name) → field_order f (class, name, kind) ≡ Equal → is_field (as_key f) class name kind ≡ true
  tied_field f ties =
      let each = each_ties (name_order f.0 class) (name_order f.1 name) (name_order f.2 kind) ties in
      rw (tied_same f.0 class each.0, tied_same f.1 name each.1, tied_same f.2 kind each.2)

  -- what is found behind the first key stands one further in all keys
  behind_first : (keys : List Key) (fields : List (Name × Name × Name)) → AreKeys keys fields → first_index (λ (k : Key). is_field k class name kind) keys ≡ option_map suc (first_index (λ (k : Key). is_field k class name kind) (drop 1 keys))
  behind_first [] fields are = absurd are
  behind_first (Elem ∷ keys) fields are = refl
  behind_first (Field c n t ∷ keys) fields are = absurd are

  behind_are : (keys : List Key) (fields : List (Name × Name × Name)) → AreKeys keys fields → drop 1 keys ≡ map as_key fields
  behind_are [] fields are = absurd are
  behind_are (Elem ∷ keys) fields are = are
  behind_are (Field c n t ∷ keys) fields are = absurd are

  module _ (keys : List Key) (fields : List (Name × Name × Name)) (are : AreKeys keys fields) (sorted : Ascends field_order fields) (i : ℕ) where
    there_among : i < length (map as_key fields) → ((d : Key) → field_order (field_key (get_or (map as_key fields) i d)) (class, name, kind) ≡ Equal) → first_index (λ (k : Key). is_field k class name kind) (map as_key fields) ≡ Some i
    there_among within ties =
        let at : (k : Key) × (k ≡ get_or (map as_key fields) i k) = element_at (map as_key fields) i within in
        let is : (f : Name × Name × Name) × (get_or (map as_key fields) i at.0 ≡ as_key f) = is_a_field fields i at.0 within in
        let passes : is_field at.0 class name kind ≡ true =
        ap (λ (k : Key). is_field k class name kind) (at.1 ∙ is.1) ∙ tied_field is.0 (ap (λ (k : Key). field_order (field_key k) (class, name, kind)) (sym is.1) ∙ ties at.0) in
        (found_at field_key triples_total (map as_key fields) (keys_ascend fields sorted) (class, name, kind) (λ (k : Key). is_field k class name kind) field_ties i at.0 within at.1 (ties at.0) passes).0

    missing_among : i ≤ length (map as_key fields) → IsBinarySearchResult (λ (k : Key). field_order (field_key k) (class, name, kind)) (map as_key fields) (Err i) → first_index (λ (k : Key). is_field k class name kind) (map as_key fields) ≡ None
    missing_among within parted = (found_nowhere field_key triples_total (map as_key fields) (keys_ascend fields sorted) (class, name, kind) (λ (k : Key). is_field k class name kind) field_ties i within parted).0

    pub field_there : i < length (drop 1 keys) → ((d : Key) → field_order (field_key (get_or (drop 1 keys) i d)) (class, name, kind) ≡ Equal) → first_index (λ (k : Key). is_field k class name kind) keys ≡ Some (i + 1)
    field_there within ties =
        let same : drop 1 keys ≡ map as_key fields = behind_are keys fields are in
        let within' : i < length (map as_key fields) = subst (λ ks. i < length ks) same within in
        let ties' : (d : Key) → field_order (field_key (get_or (map as_key fields) i d)) (class, name, kind) ≡ Equal = subst (λ ks. (d : Key) → field_order (field_key (get_or ks i d)) (class, name, kind) ≡ Equal) same ties in
        behind_first keys fields are ∙ (ap (λ ks. option_map suc (first_index (λ (k : Key). is_field k class name kind) ks)) same ∙ (ap (λ o. option_map suc o) (there_among within' ties') ∙ ap (λ n. Some n) (sym (add-one i))))

    pub field_missing : i ≤ length (drop 1 keys) → IsBinarySearchResult (λ (k : Key). field_order (field_key k) (class, name, kind)) (drop 1 keys) (Err i) → first_index (λ (k : Key). is_field k class name kind) keys ≡ None
    field_missing within parted =
        let same : drop 1 keys ≡ map as_key fields = behind_are keys fields are in
        let missing : first_index (λ (k : Key). is_field k class name kind) (drop 1 keys) ≡ None =
        subst (λ ks. i ≤ length ks → IsBinarySearchResult (λ (k : Key). field_order (field_key k) (class, name, kind)) ks (Err i) → first_index (λ (k : Key). is_field k class name kind) ks ≡ None) (sym same) missing_among within parted in
        behind_first keys fields are ∙ ap (λ o. option_map suc o) missing

-- the key by what the classes upward give
pub key_found : (app : App) (class name kind : Name) (k : ℕ) → first_given (λ (c : Class). field_of app c.name name kind) (up app class) ≡ Some k → instance_key app class name kind ≡ record { 0 = k }
unfolding instance_key
key_found app class name kind k found = ap (λ o. elim o [ Some k ↦ record { 0 = k } | None ↦ elem_key ]) found

pub key_of_all : (app : App) (class name kind : Name) → first_given (λ (c : Class). field_of app c.name name kind) (up app class) ≡ None → instance_key app class name kind ≡ record { 0 = 0 }
unfolding instance_key
key_of_all app class name kind missing = ap (λ o. elim o [ Some k ↦ record { 0 = k } | None ↦ elem_key ]) missing
