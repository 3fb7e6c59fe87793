-- Findings and causes leave out nothing that rows tell: what is gathered of them stands in its ascending list as well.
use Rattle.std.proofs.Common.{◌≡◌, ◌⊎◌, ◌<◌, ℕ, zero, suc, Bool, true, false, ◌&&◌, List, [], ◌++◌, map, filter, Some, refl, sym, ◌∙◌, ap, subst, not, inl, inr, arith}
use Rattle.std.specs.Prelude.{slice_get, nat_lt, length, filter_map}
use Rattle.std.specs.Cmp.{IsTotalOrder}
use Rattle.std.specs.Ordering.{nat_cmp}
use Rattle.std.specs.declared.cmp.Ordering.{Ordering}
use Rattle.std.proofs.lemmas.Bool.{ltb-true, and_parts}
use Rattle.std.proofs.lemmas.Cmp.{on_total, then_total, nat_cmp_total}
use Rattle.std.proofs.lemmas.Map.Lookups.{CmpEqualImpliesEq, exact_unsigned, exact_bytes, exact_pairs}
use Rattle.std.proofs.lemmas.Option.{slice_get-get_or, unwrap_or-slice_get}
use Rattle.app_machine.specs.declared.app.App.{App}
use Rattle.app_machine.specs.declared.lists.Lists.{Lists}
use Rattle.app_machine.specs.declared.papers.Declaration.{Declaration}
use Rattle.app_machine.specs.Names.{Name, same_name}
use Rattle.app_machine.specs.Safe.{Declared, no_summary, native, reflective}
use Rattle.app_machine.specs.Sound.{SoundApp, name_order}
use Rattle.fact_rows.specs.declared.row.Row.{Row}
use Rattle.vet_base.specs.Members.{In}
use Rattle.outcomes.specs.declared.outcome.Cause.{Cause}
use Rattle.outcomes.specs.declared.outcome.Cause.TheVariants.{NoSummary, Native, Reflective}
use Rattle.outcomes.specs.declared.outcome.Place.{Place}
use Rattle.outcomes.specs.Ascending.{ascending}
use Rattle.outcomes.specs.Causes.{causes_of, named_cause, no_summaries, natives, reflectives, providers, layout_classes, unknown_places}
use Rattle.outcomes.specs.Findings.{category, names_pair, are_listed, declares, arrivals_in, is_undeclared, finding_of, findings_of}
use Rattle.outcomes.specs.NothingLeftOut.{EachIsFound, EachIsNamed}
use Rattle.outcomes.specs.Places.{place_order}
use Rattle.outcomes.specs.Spots.{Found, Spot, at_spot, finding_at, found_order, spot_order, undeclared_in, unknown_spot}
use Rattle.outcomes.specs.Within.{AreWithin}
use Rattle.outcomes.proofs.Called.{at_spots, in_order}
use Rattle.outcomes.proofs.Found.{found_named, findings_in_order}
use Rattle.outcomes.proofs.Pairs.{pair_order, pair_total}
use Rattle.outcomes.proofs.Sorting.{in_ascending}
use Rattle.vet_base.proofs.Every.{in_filter}
use Rattle.vet_base.proofs.Members.{in_front, in_back, in_map, from_map, one_passes}
use Rattle.vet_base.proofs.Texts.{same_equal}

is_listed : (lists : Lists) (i : ℕ) → nat_lt i (length lists.categories) ≡ true → slice_get lists.categories i ≡ Some (category lists i)
unfolding category
is_listed lists i lt = slice_get-get_or lists.categories i [] (ltb-true i (length lists.categories) lt) ∙ ap Some (sym (unwrap_or-slice_get lists.categories i []))

is_pair : (pairs : List (Name × Name)) (source sink : Name) → names_pair pairs source sink ≡ true → In (source, sink) pairs
unfolding names_pair
is_pair pairs source sink named =
    let one = one_passes (λ (pair : Name × Name). same_name source pair.0 && same_name sink pair.1) pairs named in
    let same = and_parts (same_name source one.0.0) (same_name sink one.0.1) one.2 in
    let e : (source, sink) ≡ one.0 = ap (λ (n : Name). (n, sink)) (same_equal source one.0.0 same.0) ∙ ap (λ (n : Name). (one.0.0, n)) (same_equal sink one.0.1 same.1) in
    let P : Name × Name → Type 0 = λ p. In p pairs in
    subst P (sym e) one.1

declared_if : (lists : Lists) (declaration : Declaration) (label sink : ℕ) → declares lists declaration label sink ≡ true → Declared lists declaration label sink
unfolding declares
declared_if lists declaration label sink holds =
    let parts = and_parts (are_listed lists label sink) (names_pair declaration.pairs (category lists label) (category lists sink)) holds in
    let listed = and_parts (nat_lt label (length lists.categories)) (nat_lt sink (length lists.categories)) parts.0 in
    record {
      source_name = category lists label;
      sink_name = category lists sink;
      is_source = record { there = is_listed lists label listed.0 };
      is_sink = record { there = is_listed lists sink listed.1 };
      pair = is_pair declaration.pairs (category lists label) (category lists sink) parts.1;
    }

-- what f makes of a list it makes of the ascending list too
module _ {A B : Type 0} (R : A → A → Ordering) (total : IsTotalOrder R) (exact : CmpEqualImpliesEq R) (f : A → B) where
  made_in_order : (xs : List A) (y : B) → In y (map f xs) → In y (map f (ascending R xs))
  made_in_order xs y made =
      let x = from_map f xs y made in
      subst (λ z. In z (map f (ascending R xs))) (sym x.2) (in_map f (ascending R xs) x.0 (in_ascending R total x.0 exact xs x.1))

spot_total : IsTotalOrder spot_order
spot_total = then_total (on_total (λ (s : Spot). s.0) nat_cmp_total) (on_total (λ (s : Spot). s.1) nat_cmp_total)

exact_spot : CmpEqualImpliesEq spot_order
exact_spot = exact_pairs nat_cmp nat_cmp exact_unsigned exact_unsigned

found_total : IsTotalOrder found_order
found_total = then_total (on_total (λ (f : Found). f.0) pair_total) (on_total (λ (f : Found). f.1) spot_total)

exact_found : CmpEqualImpliesEq found_order
exact_found = exact_pairs pair_order spot_order (exact_pairs name_order name_order exact_bytes exact_bytes) exact_spot

pub each_is_found : EachIsFound
each_is_found app lists declaration rows sound within a arrives = by_test (declares lists declaration a.label a.sink) refl
  where
    by_test : (b : Bool) → declares lists declaration a.label a.sink ≡ b → Declared lists declaration a.label a.sink ⊎ In (finding_of app lists a) (findings_of app lists declaration rows)
    by_test true is = inl (declared_if lists declaration a.label a.sink is)
    by_test false is =
        let undeclared : In a (filter (is_undeclared lists declaration) (arrivals_in rows)) = in_filter (is_undeclared lists declaration) a (arrivals_in rows) (ap not is) arrives in
        let named : In (finding_of app lists a) (map (finding_of app lists) (filter (is_undeclared lists declaration) (arrivals_in rows)))
        = in_map (finding_of app lists) (filter (is_undeclared lists declaration) (arrivals_in rows)) a undeclared in
        let found : In (finding_of app lists a) (map (finding_at app) (undeclared_in lists declaration rows)) = subst (In (finding_of app lists a)) (sym (found_named app lists declaration rows)) named in
        inr (subst (In (finding_of app lists a)) (findings_in_order app lists declaration sound rows within)
        (made_in_order found_order found_total exact_found (finding_at app) (undeclared_in lists declaration rows) (finding_of app lists a) found))

-- a place of the cause stands among those in ascending order
place_in_order : (app : App) (rows : List Row) → SoundApp app → AreWithin app rows → (cause : ℕ) (p : Place) → In p (unknown_places app cause rows) → In p (ascending place_order (unknown_places app cause rows))
place_in_order app rows sound within cause p there =
    let spot : In p (map (at_spot app) (filter_map (unknown_spot cause) rows)) = subst (In p) (sym (at_spots app cause rows)) there in
    subst (In p) (in_order app cause sound rows within) (made_in_order spot_order spot_total exact_spot (at_spot app) (filter_map (unknown_spot cause) rows) p spot)

pub each_is_named : EachIsNamed
unfolding causes_of no_summaries natives reflectives
each_is_named app rows sound within cause more less p there = by_cause cause more less there
  where
    one_two : List Cause
    one_two = no_summaries app rows ++ natives app rows

    among : (c : Cause) → In c (one_two ++ reflectives app rows) → In c (causes_of app rows)
    among c is_in = in_front c (one_two ++ reflectives app rows ++ providers app) (layout_classes app) (in_front c (one_two ++ reflectives app rows) (providers app) is_in)

    by_cause : (cause : ℕ) → 0 < cause → cause < 4 → In p (unknown_places app cause rows) → In (named_cause cause p) (causes_of app rows)
    by_cause zero more less there = absurd (omega arith)
    by_cause (suc zero) more less there =
        let here : In (NoSummary p) (no_summaries app rows) = in_map NoSummary (ascending place_order (unknown_places app no_summary rows)) p (place_in_order app rows sound within no_summary p there) in
        among (NoSummary p) (in_front (NoSummary p) one_two (reflectives app rows) (in_front (NoSummary p) (no_summaries app rows) (natives app rows) here))
    by_cause (suc (suc zero)) more less there =
        let here : In (Native p) (natives app rows) = in_map Native (ascending place_order (unknown_places app native rows)) p (place_in_order app rows sound within native p there) in
        among (Native p) (in_front (Native p) one_two (reflectives app rows) (in_back (Native p) (no_summaries app rows) (natives app rows) here))
    by_cause (suc (suc (suc zero))) more less there =
        let here : In (Reflective p) (reflectives app rows) = in_map Reflective (ascending place_order (unknown_places app reflective rows)) p (place_in_order app rows sound within reflective p there) in
        among (Reflective p) (in_back (Reflective p) one_two (reflectives app rows) here)
    by_cause (suc (suc (suc (suc k)))) more less there = absurd (omega arith)
