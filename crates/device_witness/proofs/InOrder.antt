-- Causes are told in order: by kind, and within a kind by what they name.
use Rattle.std.proofs.Common.{◌≡◌, ℕ, ◌<◌, ◌≤◌, Bool, true, false, if◌then◌else◌, List, [], ◌∷◌, ◌++◌, map, refl, ap, inl, inr, arith}
use Rattle.std.specs.Prelude.{filter}
use Rattle.std.specs.Cmp.{IsTotalOrder}
use Rattle.std.specs.Cmp.Lexicographic.{nat_list_cmp_total}
use Rattle.std.specs.List.Sorted.{IsStrictlySortedBy}
use Rattle.std.specs.declared.cmp.Ordering.{Ordering}
use Rattle.std.specs.declared.cmp.Ordering.TheVariants.{Less}
use Rattle.std.proofs.lemmas.Cmp.{on_total, then_total, nat_cmp_total}
use Rattle.app_machine.specs.declared.app.App.{App}
use Rattle.app_machine.specs.declared.lists.Lists.{Lists}
use Rattle.app_machine.specs.declared.papers.Declaration.{Declaration}
use Rattle.app_machine.specs.Names.{Name, descriptor_of}
use Rattle.app_machine.specs.Safe.{no_summary, native, reflective}
use Rattle.app_machine.specs.Sound.{SoundApp, name_order}
use Rattle.device_lists.specs.declared.DeviceLists.{DeviceLists}
use Rattle.fact_rows.specs.declared.row.Row.{Row}
use Rattle.link_access.specs.Access.{Accesses}
use Rattle.outcomes.specs.declared.outcome.Cause.{Cause}
use Rattle.outcomes.specs.declared.outcome.Cause.TheVariants as causes
use Rattle.outcomes.specs.declared.outcome.Finding.{Finding}
use Rattle.outcomes.specs.declared.outcome.Place.{Place}
use Rattle.outcomes.specs.Ascending.{ascending}
use Rattle.outcomes.specs.Causes.{causes_of, causes_too_large, is_app_class, layout_classes, natives, no_summaries, providers, reflectives, unknown_places}
use Rattle.outcomes.specs.Findings.{arrivals_in, finding_of, finding_order, findings_of, is_undeclared}
use Rattle.outcomes.specs.Places.{place_order}
use Rattle.outcomes.specs.Spots.{at_spot, spot_order}
use Rattle.device_causes.specs.Clicks.{odd_clicks}
use Rattle.device_causes.specs.DeviceCauses.{click_causes, device_causes, hidden_causes, interface_causes, method_called, named_causes, platform_causes, static_causes, strict_causes, unlisted_causes}
use Rattle.device_causes.specs.Hidden.{hidden}
use Rattle.device_causes.specs.Interfaces.{interface_code}
use Rattle.device_causes.specs.Libraries.{static_spots, unlisted_classes}
use Rattle.device_causes.specs.Platform.{platform_classes}
use Rattle.link_listing.specs.Orders.{triple_order}
use Rattle.link_listing.proofs.Triples.{triple_total}
use Rattle.vet_base.specs.Members.{In}
use Rattle.vet_base.proofs.Members.{from_map, in_either}
use Rattle.vet_base.proofs.Orders.{less_cmp}
use Rattle.device_witness.specs.InOrder.{AreInOrder, cause_order, kind}
use Rattle.device_witness.proofs.Rising.{ascending_rises, joined, mapped}
use Rattle.device_witness.proofs.Touching.{places_same, spots_rise}

-- causes of these kinds, each below all behind it
record Rising (least most : ℕ) (cs : List Cause) : Type 0 where
  rises : IsStrictlySortedBy cause_order cs
  from : (c : Cause) → In c cs → least ≤ kind c
  to : (c : Cause) → In c cs → kind c ≤ most

none_rise : (least most : ℕ) → Rising least most []
unfolding IsStrictlySortedBy
none_rise least most = record { rises = tt; from = λ c there. absurd there; to = λ c there. absurd there }

one_rises : (c : Cause) → Rising (kind c) (kind c) (c ∷ [])
unfolding IsStrictlySortedBy
one_rises c = record { rises = (tt, tt); from = λ d there. same d there; to = λ d there. also d there }
  where
    same : (d : Cause) → In d (c ∷ []) → kind c ≤ kind d
    same d (inl is) = let of : kind d ≡ kind c = ap kind is in omega (arith, of)
    same d (inr none) = absurd none

    also : (d : Cause) → In d (c ∷ []) → kind d ≤ kind c
    also d (inl is) = let of : kind d ≡ kind c = ap kind is in omega (arith, of)
    also d (inr none) = absurd none

-- a lower kind is told first
by_kind : (a b : Cause) → kind a < kind b → cause_order a b ≡ Less
unfolding cause_order
by_kind a b below = rw (less_cmp (kind a) (kind b) below) refl

after : {a b c d : ℕ} (xs ys : List Cause) → b < c → Rising a b xs → Rising c d ys → a ≤ c → b ≤ d → Rising a d (xs ++ ys)
after {a} {b} {c} {d} xs ys below one two least most = record {
  rises = joined cause_order xs ys one.rises two.rises (λ x y of_x of_y. let up = one.to x of_x in let from = two.from y of_y in let less : kind x < kind y = omega (arith, up, from, below) in by_kind x y less);
  from = λ x there. elim (in_either x xs ys there) [ inl here ↦ one.from x here | inr beyond ↦ let from = two.from x beyond in omega (arith, from, least) ];
  to = λ x there. elim (in_either x xs ys there) [ inl here ↦ let to = one.to x here in omega (arith, to, most) | inr beyond ↦ two.to x beyond ];
}

-- causes of one kind
module _ {A : Type 0} (k : ℕ) (cause : A → Cause) (of_kind : (a : A) → kind (cause a) ≡ k) where
  told : (R : A → A → Ordering) (xs : List A) → ((a b : A) → In a xs → In b xs → cause_order (cause a) (cause b) ≡ R a b) → IsStrictlySortedBy R xs → Rising k k (map cause xs)
  told R xs same rises = record {
    rises = mapped cause_order R cause xs same rises;
    from = λ c there. let from = from_map cause xs c there in let is : kind c ≡ kind (cause from.0) = ap kind from.2 in let of : kind (cause from.0) ≡ k = of_kind from.0 in omega (arith, is, of);
    to = λ c there. let from = from_map cause xs c there in let is : kind c ≡ kind (cause from.0) = ap kind from.2 in let of : kind (cause from.0) ≡ k = of_kind from.0 in omega (arith, is, of);
  }

  told_ascending : (R : A → A → Ordering) → IsTotalOrder R → ((a b : A) → cause_order (cause a) (cause b) ≡ R a b) → (xs : List A) → Rising k k (map cause (ascending R xs))
  told_ascending R total same xs = told R (ascending R xs) (λ a b of_a of_b. same a b) (ascending_rises R total xs)

place_total : IsTotalOrder place_order
unfolding place_order
place_total = then_total
    (on_total (λ (p : Place). p.at.class) nat_list_cmp_total)
    (then_total
    (on_total (λ (p : Place). p.at.name) nat_list_cmp_total)
    (then_total (on_total (λ (p : Place). descriptor_of p.at.proto) nat_list_cmp_total) (on_total (λ (p : Place). p.pc) nat_cmp_total)))

finding_total : IsTotalOrder finding_order
unfolding finding_order
finding_total = then_total
    (on_total (λ (f : Finding). f.source) nat_list_cmp_total)
    (then_total (on_total (λ (f : Finding). f.sink) nat_list_cmp_total) (on_total (λ (f : Finding). f.at) place_total))

module _ (app : App) where
  no_summaries_rise : (rows : List Row) → Rising 1 1 (no_summaries app rows)
  unfolding no_summaries cause_order
  no_summaries_rise rows = told_ascending 1 causes.NoSummary (λ p. refl) place_order place_total (λ p q. refl) (unknown_places app no_summary rows)

  natives_rise : (rows : List Row) → Rising 2 2 (natives app rows)
  unfolding natives cause_order
  natives_rise rows = told_ascending 2 causes.Native (λ p. refl) place_order place_total (λ p q. refl) (unknown_places app native rows)

  reflectives_rise : (rows : List Row) → Rising 3 3 (reflectives app rows)
  unfolding reflectives cause_order
  reflectives_rise rows = told_ascending 3 causes.Reflective (λ p. refl) place_order place_total (λ p q. refl) (unknown_places app reflective rows)

  providers_rise : Rising 4 4 (providers app)
  unfolding providers cause_order
  providers_rise = told_ascending 4 causes.Provider (λ c. refl) name_order nat_list_cmp_total (λ c d. refl) app.providers

  layouts_rise : Rising 5 5 (layout_classes app)
  unfolding layout_classes cause_order
  layouts_rise = told_ascending 5 causes.LayoutClass (λ c. refl) name_order nat_list_cmp_total (λ c d. refl) (filter (is_app_class app) app.layout_classes)

  causes_rise : (rows : List Row) → Rising 1 5 (causes_of app rows)
  unfolding causes_of
  causes_rise rows =
      let two : Rising 1 2 (no_summaries app rows ++ natives app rows) =
      after (no_summaries app rows) (natives app rows) (omega arith) (no_summaries_rise rows) (natives_rise rows) (omega arith) (omega arith) in
      let three : Rising 1 3 (no_summaries app rows ++ natives app rows ++ reflectives app rows) =
      after (no_summaries app rows ++ natives app rows) (reflectives app rows) (omega arith) two (reflectives_rise rows) (omega arith) (omega arith) in
      let four : Rising 1 4 (no_summaries app rows ++ natives app rows ++ reflectives app rows ++ providers app) =
      after (no_summaries app rows ++ natives app rows ++ reflectives app rows) (providers app) (omega arith) three providers_rise (omega arith) (omega arith) in
      after (no_summaries app rows ++ natives app rows ++ reflectives app rows ++ providers app) (layout_classes app) (omega arith) four layouts_rise (omega arith) (omega arith)

  too_large_rise : (limit : ℕ) → Rising 4 6 (causes_too_large app limit)
  unfolding causes_too_large
  too_large_rise limit =
      let two : Rising 4 5 (providers app ++ layout_classes app) = after (providers app) (layout_classes app) (omega arith) providers_rise layouts_rise (omega arith) (omega arith) in
      after (providers app ++ layout_classes app) (causes.TooLarge limit ∷ []) (omega arith) two (one_rises (causes.TooLarge limit)) (omega arith) (omega arith)

  module _ (access : Accesses) (lists : Lists) (device : DeviceLists) (sound : SoundApp app) where
    hidden_rise : Rising 7 7 (hidden_causes app access)
    unfolding hidden_causes cause_order
    hidden_rise = told_ascending 7 (λ m. causes.Hidden (method_called m)) (λ m. refl) triple_order triple_total (λ m n. refl) (hidden app access)

    interfaces_rise : Rising 8 8 (interface_causes access)
    unfolding interface_causes cause_order
    interfaces_rise = told_ascending 8 (λ m. causes.InterfaceCode (method_called m)) (λ m. refl) triple_order triple_total (λ m n. refl) (interface_code access)

    platform_rise : Rising 9 9 (platform_causes app lists device)
    unfolding platform_causes cause_order
    platform_rise = told_ascending 9 causes.PlatformClass (λ c. refl) name_order nat_list_cmp_total (λ c d. refl) (platform_classes app lists device)

    unlisted_rise : Rising 10 10 (unlisted_causes app lists)
    unfolding unlisted_causes cause_order
    unlisted_rise = told_ascending 10 causes.UnlistedClass (λ c. refl) name_order nat_list_cmp_total (λ c d. refl) (unlisted_classes app lists)

    statics_rise : Rising 11 11 (static_causes app access lists)
    unfolding static_causes cause_order
    statics_rise = told 11 (λ spot. causes.LibraryStatic (at_spot app spot)) (λ spot. refl) spot_order (static_spots app access lists)
        (places_same app access lists sound) (spots_rise app access lists sound)

    clicks_rise : Rising 12 12 (click_causes app access lists)
    unfolding click_causes cause_order
    clicks_rise = told_ascending 12 (λ m. causes.Click (method_called m)) (λ m. refl) triple_order triple_total (λ m n. refl) (odd_clicks app access lists)

    strict_rise : Rising 7 12 (strict_causes app access lists device)
    unfolding strict_causes
    strict_rise =
        let two : Rising 7 8 (hidden_causes app access ++ interface_causes access) = after (hidden_causes app access) (interface_causes access) (omega arith) hidden_rise interfaces_rise (omega arith) (omega arith) in
        let three : Rising 7 9 (hidden_causes app access ++ interface_causes access ++ platform_causes app lists device) =
        after (hidden_causes app access ++ interface_causes access) (platform_causes app lists device) (omega arith) two platform_rise (omega arith) (omega arith) in
        let four : Rising 7 10 (hidden_causes app access ++ interface_causes access ++ platform_causes app lists device ++ unlisted_causes app lists) =
        after (hidden_causes app access ++ interface_causes access ++ platform_causes app lists device) (unlisted_causes app lists) (omega arith) three unlisted_rise (omega arith) (omega arith) in
        let five : Rising 7 11 (hidden_causes app access ++ interface_causes access ++ platform_causes app lists device ++ unlisted_causes app lists ++ static_causes app access lists) =
        after (hidden_causes app access ++ interface_causes access ++ platform_causes app lists device ++ unlisted_causes app lists) (static_causes app access lists) (omega arith) four statics_rise (omega arith) (omega arith) in
        after (hidden_causes app access ++ interface_causes access ++ platform_causes app lists device ++ unlisted_causes app lists ++ static_causes app access lists) (click_causes app access lists) (omega arith) five clicks_rise (omega arith) (omega arith)

    if_strict : (strict : Bool) → Rising 7 12 (if strict then strict_causes app access lists device else [])
    if_strict true = strict_rise
    if_strict false = none_rise 7 12

    named_rise : (named : List Name) → Rising 13 13 (named_causes app named)
    unfolding named_causes cause_order
    named_rise named = told_ascending 13 causes.NamedClass (λ c. refl) name_order nat_list_cmp_total (λ c d. refl) (filter (is_app_class app) named)

    device_rise : (named : List Name) → Rising 7 13 (device_causes app access lists device named)
    unfolding device_causes
    device_rise named = after (if device.strict then strict_causes app access lists device else []) (named_causes app named) (omega arith) (if_strict device.strict) (named_rise named) (omega arith) (omega arith)

findings_rise : (app : App) (rows : List Row) (lists : Lists) (declaration : Declaration) → IsStrictlySortedBy finding_order (findings_of app lists declaration rows)
unfolding findings_of
findings_rise app rows lists declaration = ascending_rises finding_order finding_total (map (finding_of app lists) (filter (is_undeclared lists declaration) (arrivals_in rows)))

pub are_in_order : AreInOrder
are_in_order = record {
  causes = λ app rows access lists device named sound.
      (after (causes_of app rows) (device_causes app access lists device named) (omega arith) (causes_rise app rows) (device_rise app access lists device sound named) (omega arith) (omega arith)).rises;
  too_large = λ app limit access lists device named sound.
      (after (causes_too_large app limit) (device_causes app access lists device named) (omega arith) (too_large_rise app limit) (device_rise app access lists device sound named) (omega arith) (omega arith)).rises;
  findings = findings_rise;
}
