-- The method of a class, name and descriptor, as halving over the methods finds it.
use Rattle.std.proofs.Common.{◌≡◌, ℕ, ◌<◌, ◌≤◌, Bool, true, false, ◌&&◌, List, [], ◌∷◌, length, get_or, Some, None, Err, refl, ◌∙◌, ap, arith}
use Rattle.std.specs.declared.cmp.Ordering.{Ordering}
use Rattle.std.specs.declared.cmp.Ordering.TheVariants.{Equal}
use Rattle.std.specs.Ordering.{ordering_then}
use Rattle.std.specs.Cmp.{IsTotalOrder, then_total, on_total}
use Rattle.std.specs.List.Sorted.{IsBinarySearchResult}
use Rattle.std.proofs.lemmas.Cmp.{nat_list_cmp_total, tied_itself}
use Rattle.app_machine.specs.declared.call.Proto.{Proto}
use Rattle.app_machine.specs.declared.method.Method.{Method}
use Rattle.vet_base.specs.Members.{first_index}
use Rattle.app_machine.specs.Names.{Name, same_name, same_names, same_proto, descriptor_of}
use Rattle.vet_base.specs.Ascending.{Ascends}
use Rattle.app_machine.specs.Sound.{method_order, field_order, name_order}
use Rattle.app_model.specs.Search.{method_key}
use Rattle.vet_base.proofs.Texts.{same_tie, tied_same, same_equal, all_equal}
use Rattle.vet_base.proofs.Lists.{element_at}
use Rattle.vet_base.proofs.Halving.{found_at, found_none, found_nowhere}
use Rattle.std.proofs.lemmas.Bool.{and_parts, and_right}
use Rattle.vet_base.proofs.Bools.{and_three}
use Rattle.vet_base.proofs.Orders.{both_equal, then_equal}

pub triples_total : IsTotalOrder field_order
triples_total = then_total (on_total (λ (t : Name × Name × Name). t.0) nat_list_cmp_total) (then_total (on_total (λ (t : Name × Name × Name). t.1) nat_list_cmp_total) (on_total (λ (t : Name × Name × Name). t.2) nat_list_cmp_total))

pub all_tie : (o p q : Ordering) → o ≡ Equal → p ≡ Equal → q ≡ Equal → ordering_then o (ordering_then p q) ≡ Equal
all_tie o p q a b c = then_equal o (ordering_then p q) a (then_equal p q b c)

pub each_ties : (o p q : Ordering) → ordering_then o (ordering_then p q) ≡ Equal → (o ≡ Equal) × (p ≡ Equal) × (q ≡ Equal)
each_ties o p q e = let first = both_equal o (ordering_then p q) e in let rest = both_equal p q first.1 in (first.0, rest.0, rest.1)

-- prototypes that are the same have the same descriptor
pub same_descriptor : (p q : Proto) → same_proto p q ≡ true → descriptor_of p ≡ descriptor_of q
unfolding descriptor_of
same_descriptor p q same =
    let parts = and_parts (same_names p.params q.params) (same_name p.ret q.ret) same in
    rw (all_equal p.params q.params parts.0, same_equal p.ret q.ret parts.1)

module _ (class name : Name) where
  -- the tests of the definitions
  abbrev by_proto : Proto → Method → Bool
  by_proto proto m = same_name m.at.class class && same_name m.at.name name && same_proto m.at.proto proto

  abbrev by_text : Name → Method → Bool
  by_text descriptor m = same_name m.at.class class && same_name m.at.name name && same_name (descriptor_of m.at.proto) descriptor

  by_proto_ties : (proto : Proto) (m : Method) → by_proto proto m ≡ true → field_order (method_key m) (class, name, descriptor_of proto) ≡ Equal
  by_proto_ties proto m passes =
      let parts = and_three (same_name m.at.class class) (same_name m.at.name name) (same_proto m.at.proto proto) passes in
      all_tie (name_order m.at.class class) (name_order m.at.name name) (name_order (descriptor_of m.at.proto) (descriptor_of proto))
      (same_tie m.at.class class parts.0) (same_tie m.at.name name parts.1) (rw (same_descriptor m.at.proto proto parts.2) (tied_itself nat_list_cmp_total (descriptor_of proto)))

  by_text_ties : (descriptor : Name) (m : Method) → by_text descriptor m ≡ true → field_order (method_key m) (class, name, descriptor) ≡ Equal
  by_text_ties descriptor m passes =
      let parts = and_three (same_name m.at.class class) (same_name m.at.name name) (same_name (descriptor_of m.at.proto) descriptor) passes in
      all_tie (name_order m.at.class class) (name_order m.at.name name) (name_order (descriptor_of m.at.proto) descriptor)
      (same_tie m.at.class class parts.0) (same_tie m.at.name name parts.1) (same_tie (descriptor_of m.at.proto) descriptor parts.2)

  ties_by_proto : (proto : Proto) (m : Method) → field_order (method_key m) (class, name, descriptor_of proto) ≡ Equal → same_proto m.at.proto proto ≡ true → by_proto proto m ≡ true
  ties_by_proto proto m ties same =
      let each = each_ties (name_order m.at.class class) (name_order m.at.name name) (name_order (descriptor_of m.at.proto) (descriptor_of proto)) ties in
      rw (tied_same m.at.class class each.0, tied_same m.at.name name each.1, same)

  ties_by_text : (descriptor : Name) (m : Method) → field_order (method_key m) (class, name, descriptor) ≡ Equal → by_text descriptor m ≡ true
  ties_by_text descriptor m ties =
      let each = each_ties (name_order m.at.class class) (name_order m.at.name name) (name_order (descriptor_of m.at.proto) descriptor) ties in
      rw (tied_same m.at.class class each.0, tied_same m.at.name name each.1, tied_same (descriptor_of m.at.proto) descriptor each.2)

  fails_by_proto : (proto : Proto) (m : Method) → same_proto m.at.proto proto ≡ false → by_proto proto m ≡ false
  fails_by_proto proto m differs = and_right ((same_name m.at.class class) && (same_name m.at.name name)) (same_proto m.at.proto proto) differs

  module _ (methods : List Method) (sorted : Ascends method_order methods) (i : ℕ) where
    pub method_there : (proto : Proto) (m : Method) → i < length methods → m ≡ get_or methods i m → field_order (method_key (get_or methods i m)) (class, name, descriptor_of proto) ≡ Equal → same_proto m.at.proto proto ≡ true →
        first_index (by_proto proto) methods ≡ Some i
    method_there proto m within is ties same =
        (found_at method_key triples_total methods sorted (class, name, descriptor_of proto) (by_proto proto) (by_proto_ties proto) i m within is ties
        (ties_by_proto proto m (ap (λ (x : Method). field_order (method_key x) (class, name, descriptor_of proto)) is ∙ ties) same)).0

    pub method_differs : (proto : Proto) (m : Method) → i < length methods → m ≡ get_or methods i m → field_order (method_key (get_or methods i m)) (class, name, descriptor_of proto) ≡ Equal → same_proto m.at.proto proto ≡ false →
        first_index (by_proto proto) methods ≡ None
    method_differs proto m within is ties differs =
        (found_none method_key triples_total methods sorted (class, name, descriptor_of proto) (by_proto proto) (by_proto_ties proto) i m within is ties (fails_by_proto proto m differs)).0

    pub method_missing : (proto : Proto) → i ≤ length methods → IsBinarySearchResult (λ (m : Method). field_order (method_key m) (class, name, descriptor_of proto)) methods (Err i) → first_index (by_proto proto) methods ≡ None
    method_missing proto within parted = (found_nowhere method_key triples_total methods sorted (class, name, descriptor_of proto) (by_proto proto) (by_proto_ties proto) i within parted).0

    pub text_there : (descriptor : Name) → i < length methods → ((m : Method) → field_order (method_key (get_or methods i m)) (class, name, descriptor) ≡ Equal) → first_index (by_text descriptor) methods ≡ Some i
    text_there descriptor within ties =
        let at : (m : Method) × (m ≡ get_or methods i m) = element_at methods i within in
        (found_at method_key triples_total methods sorted (class, name, descriptor) (by_text descriptor) (by_text_ties descriptor) i at.0 within at.1 (ties at.0)
        (ties_by_text descriptor at.0 (ap (λ (x : Method). field_order (method_key x) (class, name, descriptor)) at.1 ∙ ties at.0))).0

    pub text_missing : (descriptor : Name) → i ≤ length methods → IsBinarySearchResult (λ (m : Method). field_order (method_key m) (class, name, descriptor)) methods (Err i) → first_index (by_text descriptor) methods ≡ None
    text_missing descriptor within parted = (found_nowhere method_key triples_total methods sorted (class, name, descriptor) (by_text descriptor) (by_text_ties descriptor) i within parted).0

-- whether there are no names
pub no_names : (names : List Name) → length names ≡ 0 → same_names names [] ≡ true
no_names [] none = refl
no_names (n ∷ names) none = absurd (omega arith)

pub some_names : (names : List Name) → 0 < length names → same_names names [] ≡ false
some_names [] some = absurd (omega arith)
some_names (n ∷ names) some = refl
