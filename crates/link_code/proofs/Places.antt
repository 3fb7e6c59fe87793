-- The place of three names in an ascending list of such.
use Rattle.std.proofs.Common.{◌≡◌, ℕ, ◌<◌, ◌≤◌, true, List, length, get_or, Option, Ok, Err, sym, ap, ◌∙◌}
use Rattle.std.specs.Prelude.{◌&&◌, unwrap_or}
use Rattle.std.specs.List.Sorted.{IsBinarySearchResult}
use Rattle.std.specs.Ordering.{ordering_then}
use Rattle.std.specs.declared.cmp.Ordering.TheVariants.{Equal}
use Rattle.app_machine.specs.Names.{same_name}
use Rattle.vet_base.specs.Ascending.{Ascends}
use Rattle.app_machine.specs.Sound.{name_order}
use Rattle.link_listing.specs.Texts.{Triple, same_triple}
use Rattle.link_listing.specs.Orders.{triple_order}
use Rattle.link_listing.proofs.Triples.{triple_total}
use Rattle.link_code.specs.Statics.{number_among}
use Rattle.std.proofs.lemmas.Bool.{and_parts, and_from}
use Rattle.vet_base.proofs.Orders.{then_equal, both_equal}
use Rattle.std.proofs.lemmas.List.{get_or_default}
use Rattle.vet_base.proofs.Texts.{same_tie, tied_same}
use Rattle.vet_base.proofs.Halving.{found_at, found_nowhere}

pub same_triples_tie : (a b : Triple) → same_triple a b ≡ true → triple_order a b ≡ Equal
same_triples_tie a b same =
    let outer = and_parts (same_name a.0 b.0 && same_name a.1 b.1) (same_name a.2 b.2) same in
    let inner = and_parts (same_name a.0 b.0) (same_name a.1 b.1) outer.0 in
    then_equal (ordering_then (name_order a.0 b.0) (name_order a.1 b.1)) (name_order a.2 b.2) (then_equal (name_order a.0 b.0) (name_order a.1 b.1) (same_tie a.0 b.0 inner.0) (same_tie a.1 b.1 inner.1)) (same_tie a.2 b.2 outer.1)

pub tied_triples_same : (a b : Triple) → triple_order a b ≡ Equal → same_triple a b ≡ true
tied_triples_same a b tie =
    let outer = both_equal (ordering_then (name_order a.0 b.0) (name_order a.1 b.1)) (name_order a.2 b.2) tie in
    let inner = both_equal (name_order a.0 b.0) (name_order a.1 b.1) outer.0 in
    and_from (same_name a.0 b.0 && same_name a.1 b.1) (same_name a.2 b.2) (and_from (same_name a.0 b.0) (same_name a.1 b.1) (tied_same a.0 b.0 inner.0) (tied_same a.1 b.1 inner.1)) (tied_same a.2 b.2 outer.1)

module _ (statics : List Triple) (sorted : Ascends triple_order statics) (at : Triple) where
  pub place_there : (i : ℕ) → i < length statics → IsBinarySearchResult (λ y. triple_order y at) statics (Ok i) → i ≡ number_among statics at
  unfolding number_among
  place_there i within position =
      let x : Triple = get_or statics i at in
      let is : x ≡ get_or statics i x = get_or_default statics i at (get_or statics i at) within in
      let ties : triple_order (get_or statics i x) at ≡ Equal = position x in
      let passes : same_triple x at ≡ true = ap (λ (s : Triple). same_triple s at) is ∙ tied_triples_same (get_or statics i x) at ties in
      let first = found_at (λ (t : Triple). t) triple_total statics sorted at (λ s. same_triple s at) (λ s same. same_triples_tie s at same) i x within is ties passes in
      sym (ap (λ (o : Option ℕ). unwrap_or o 0) first.0)

  pub place_missing : (i : ℕ) → i ≤ length statics → IsBinarySearchResult (λ y. triple_order y at) statics (Err i) → 0 ≡ number_among statics at
  unfolding number_among
  place_missing i within parted =
      let none = found_nowhere (λ (t : Triple). t) triple_total statics sorted at (λ s. same_triple s at) (λ s same. same_triples_tie s at same) i within parted in
      sym (ap (λ (o : Option ℕ). unwrap_or o 0) none.0)
