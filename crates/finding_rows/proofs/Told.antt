-- The first row of what was found is the first that tells the finding.
use Rattle.std.proofs.Common.{◌≡◌, ◌<◌, ℕ, Bool, true, false, not, List, [], ◌∷◌, map, length, Option, Some, None, refl, sym, ap, subst, ◌∙◌, inl, inr}
use Rattle.std.specs.List.{cons_option}
use Rattle.std.specs.Map.{keys_of, values_of}
use Rattle.std.specs.declared.cmp.Ordering.TheVariants.{Equal}
use Rattle.std.proofs.lemmas.Cmp.{tied_itself}
use Rattle.std.proofs.lemmas.Option.{none-some, same_Some}
use Rattle.app_machine.specs.declared.app.App.{App}
use Rattle.app_machine.specs.declared.lists.Lists.{Lists}
use Rattle.app_machine.specs.declared.papers.Declaration.{Declaration}
use Rattle.app_machine.specs.Sound.{SoundApp}
use Rattle.app_machine.specs.State.{Arrival}
use Rattle.fact_rows.specs.declared.context.Node.{Node}
use Rattle.fact_rows.specs.declared.row.Row.{Row}
use Rattle.fact_rows.specs.declared.row.Row.TheVariants.{Arrive}
use Rattle.outcomes.specs.declared.outcome.Finding.{Finding}
use Rattle.outcomes.specs.Findings.{category, declares, finding_of, findings_of, is_undeclared}
use Rattle.outcomes.specs.Places.{place_order}
use Rattle.outcomes.specs.Spots.{Found, at_spot, finding_at, spot_order, undeclared_at, undeclared_in}
use Rattle.outcomes.specs.Within.{AreWithin}
use Rattle.outcomes.proofs.Found.{findings_in_order, undeclared_as}
use Rattle.outcomes.proofs.Pairs.{pair_order}
use Rattle.outcomes.proofs.Spots.{spots_in_order}
use Rattle.outcomes.specs.Ascending.{ascending}
use Rattle.app_machine.specs.Names.{Name}
use Rattle.vet_base.specs.Members.{In}
use Rattle.vet_base.proofs.Members.{in_slice_get}
use Rattle.finding_rows.specs.Arrivals.{Tells, IsFirstArrival, AreFirstArrivals}
use Rattle.finding_rows.specs.Firsts.{firsts}
use Rattle.finding_rows.proofs.Gathered.{IsFirstOf, each_is_first, exact_spot, spots_total, firsts_agree, keys_are}

-- what was found names a method of the app
abbrev InApp : App → Found → Type 0
InApp app found = found.1.0 < length app.methods

-- the arrival of which a row tells
abbrev arrival_at : ℕ → ℕ → Node → Arrival
arrival_at label sink n = record { label = label; sink = sink; method = n.by.method; pc = n.pc }

-- what is found of it, where its pair is not declared
abbrev found_at : Lists → ℕ → ℕ → Node → Found
found_at lists label sink n = ((category lists label, category lists sink), (n.by.method, n.pc))

found_if_free : (lists : Lists) (declaration : Declaration) (label sink : ℕ) (n : Node) → declares lists declaration label sink ≡ false → undeclared_at lists declaration (Arrive label sink n) ≡ Some (found_at lists label sink n)
found_if_free lists declaration label sink n is = rw is refl

none_if_declared : (lists : Lists) (declaration : Declaration) (label sink : ℕ) (n : Node) → declares lists declaration label sink ≡ true → undeclared_at lists declaration (Arrive label sink n) ≡ None
none_if_declared lists declaration label sink n is = rw is refl

free_if : (lists : Lists) (declaration : Declaration) (label sink : ℕ) (n : Node) (b : Bool) → declares lists declaration label sink ≡ b → is_undeclared lists declaration (arrival_at label sink n) ≡ not b
free_if lists declaration label sink n b is = ap not is

module _ (app : App) (lists : Lists) (declaration : Declaration) where
  abbrev gives : Row → Option Found
  gives row = undeclared_at lists declaration row

  tells_if : (row : Row) (found : Found) → gives row ≡ Some found → Tells app lists declaration (finding_at app found) row
  tells_if (Arrive label sink n) found e = by_test (declares lists declaration label sink) refl
    where
      by_test : (b : Bool) → declares lists declaration label sink ≡ b → Tells app lists declaration (finding_at app found) (Arrive label sink n)
      by_test true is = absurd (none-some found (sym (none_if_declared lists declaration label sink n is) ∙ e))
      by_test false is =
          let same : found_at lists label sink n ≡ found = same_Some (found_at lists label sink n) found (sym (found_if_free lists declaration label sink n is) ∙ e) in
          record { arrival = arrival_at label sink n; arrives = refl; undeclared = free_if lists declaration label sink n false is; named = ap (finding_at app) same }
  tells_if _ found e = absurd (none-some found e)

  found_if : (row : Row) (finding : Finding) → Tells app lists declaration finding row → (found : Found) × (gives row ≡ Some found) × (finding_at app found ≡ finding)
  found_if (Arrive label sink n) finding tells = by_test (declares lists declaration label sink) refl
    where
      same : arrival_at label sink n ≡ tells.arrival
      same = same_Some (arrival_at label sink n) tells.arrival tells.arrives

      by_test : (b : Bool) → declares lists declaration label sink ≡ b → (found : Found) × (gives (Arrive label sink n) ≡ Some found) × (finding_at app found ≡ finding)
      by_test true is =
          let yes : is_undeclared lists declaration (arrival_at label sink n) ≡ true = ap (is_undeclared lists declaration) same ∙ tells.undeclared in
          let no : is_undeclared lists declaration (arrival_at label sink n) ≡ false = free_if lists declaration label sink n true is in
          let never : true ≡ false = sym yes ∙ no in
          absurd cc
      by_test false is =
          let named : finding_of app lists (arrival_at label sink n) ≡ finding = ap (finding_of app lists) same ∙ tells.named in
          (found_at lists label sink n, found_if_free lists declaration label sink n is, named)
  found_if _ finding tells = absurd (none-some tells.arrival tells.arrives)

  in_app : (rows : List Row) → AreWithin app rows → (row : Row) → In row rows → (found : Found) → gives row ≡ Some found → InApp app found
  in_app rows within (Arrive label sink n) there found e = by_test (declares lists declaration label sink) refl
    where
      by_test : (b : Bool) → declares lists declaration label sink ≡ b → InApp app found
      by_test true is = absurd (none-some found (sym (none_if_declared lists declaration label sink n is) ∙ e))
      by_test false is =
          let same : found_at lists label sink n ≡ found = same_Some (found_at lists label sink n) found (sym (found_if_free lists declaration label sink n is) ∙ e) in
          subst (InApp app) same (within (Arrive label sink n) there)
  in_app rows within _ there found e = absurd (none-some found e)

  -- findings tell apart what was found
  one_found : SoundApp app → (a b : Found) → InApp app a → InApp app b → finding_at app a ≡ finding_at app b → a ≡ b
  one_found sound a b of_a of_b same =
      let source : a.0.0 ≡ b.0.0 = ap (λ (f : Finding). f.source) same in
      let sink : a.0.1 ≡ b.0.1 = ap (λ (f : Finding). f.sink) same in
      let at : at_spot app a.1 ≡ at_spot app b.1 = ap (λ (f : Finding). f.at) same in
      let tied : spot_order a.1 b.1 ≡ Equal =
      sym (spots_in_order app sound a.1 b.1 of_a of_b) ∙ ap (λ p. place_order p (at_spot app b.1)) at
      ∙ spots_in_order app sound b.1 b.1 of_b of_b ∙ tied_itself spots_total b.1 in
      let spot : a.1 ≡ b.1 = exact_spot a.1 b.1 tied in
      λ i. ((source i, sink i), spot i)

  first_arrival : SoundApp app → (rows : List Row) → AreWithin app rows → (found : Found) (row : Row) → IsFirstOf gives rows found row → IsFirstArrival app lists declaration rows (finding_at app found) row
  first_arrival sound rows within found row first = record {
    place = first.place;
    there = record { there = first.there };
    tells = tells_if row found first.is;
    before = λ earlier other below at tells.
        let f = found_if other (finding_at app found) tells in
        let of_other = in_app rows within other (in_slice_get rows earlier other at.there) f.0 f.1 in
        let of_row = in_app rows within row (in_slice_get rows first.place row first.there) found first.is in
        let same : f.0 ≡ found = one_found sound f.0 found of_other of_row f.2 in
        first.before earlier other below at.there (f.1 ∙ ap (λ z. Some z) same);
  }

  each_first : SoundApp app → (rows : List Row) → AreWithin app rows → (es : List (Found × Row)) → ((found : Found) (row : Row) → In (found, row) es → IsFirstOf gives rows found row) →
      AreFirstArrivals app lists declaration rows (map (finding_at app) (keys_of es)) (values_of es)
  each_first sound rows within [] first = tt
  each_first sound rows within (e ∷ es) first =
      (first_arrival sound rows within e.0 e.1 (first e.0 e.1 (inl refl)), each_first sound rows within es (λ found row there. first found row (inr there)))

  pub are_first : SoundApp app → (rows : List Row) → AreWithin app rows → AreFirstArrivals app lists declaration rows (findings_of app lists declaration rows) (values_of (firsts lists declaration rows))
  are_first sound rows within =
      let same : findings_of app lists declaration rows ≡ map (finding_at app) (keys_of (firsts lists declaration rows)) =
      sym (findings_in_order app lists declaration sound rows within) ∙ ap (map (finding_at app)) (keys_are lists declaration rows) in
      subst (λ fs. AreFirstArrivals app lists declaration rows fs (values_of (firsts lists declaration rows))) (sym same)
      (each_first sound rows within (firsts lists declaration rows) (each_is_first lists declaration rows))

-- a set of the declared pairs serves as the declaration does
one_given : {A : Type 0} (o p : Option A) → cons_option o [] ≡ cons_option p [] → o ≡ p
one_given None None e = refl
one_given None (Some y) e = absurd cc
one_given (Some x) None e = absurd cc
one_given (Some x) (Some y) e = let same : x ≡ y = cc in ap (λ z. Some z) same

row_as : (lists : Lists) (declaration : Declaration) (keys pairs : List (Name × Name)) → keys ≡ ascending pair_order pairs → pairs ≡ declaration.pairs
    → (row : Row) → undeclared_at lists (record { pairs = keys }) row ≡ undeclared_at lists declaration row
unfolding undeclared_in
row_as lists declaration keys pairs keys_are pairs_are row =
    one_given (undeclared_at lists (record { pairs = keys }) row) (undeclared_at lists declaration row) (undeclared_as lists declaration (row ∷ []) keys pairs keys_are pairs_are)

pub firsts_as : (lists : Lists) (declaration : Declaration) (rows : List Row) (keys pairs : List (Name × Name)) → keys ≡ ascending pair_order pairs → pairs ≡ declaration.pairs
    → firsts lists (record { pairs = keys }) rows ≡ firsts lists declaration rows
firsts_as lists declaration rows keys pairs keys_are pairs_are = firsts_agree lists (record { pairs = keys }) declaration (row_as lists declaration keys pairs keys_are pairs_are) rows
