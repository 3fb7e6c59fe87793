-- Causes in their order, and the classes of the app by a set of their names.
use Rattle.std.proofs.Common.{◌≡◌, ◌==◌, ◌<◌, ℕ, Bool, true, false, List, [], ◌∷◌, map, Some, None, refl, ◌∙◌, ap, inl, inr}
use Rattle.std.specs.Prelude.{length, filter_map, if◌then◌else◌, Option}
use Rattle.std.specs.List.{list_any, AllByRecursion, cons_option}
use Rattle.std.specs.BTreeMap.{is_at}
use Rattle.app_machine.specs.declared.app.App.{App}
use Rattle.app_machine.specs.declared.app.Class.{Class}
use Rattle.app_machine.specs.Names.{Name, same_name}
use Rattle.app_machine.specs.Safe.{no_summary, native, reflective}
use Rattle.app_machine.specs.Sound.{SoundApp, name_order}
use Rattle.fact_rows.specs.declared.row.Row.{Row}
use Rattle.fact_rows.specs.declared.row.Row.TheVariants.{Unknown}
use Rattle.outcomes.specs.declared.outcome.Cause.{Cause}
use Rattle.outcomes.specs.declared.outcome.Cause.TheVariants.{NoSummary, Native, Reflective}
use Rattle.outcomes.specs.declared.outcome.Place.{Place}
use Rattle.outcomes.specs.Ascending.{ascending}
use Rattle.outcomes.specs.Causes.{is_app_class, place_of, named_cause, unknown_places, no_summaries, natives, reflectives}
use Rattle.outcomes.specs.Places.{place_in, place_order}
use Rattle.outcomes.specs.Spots.{Spot, at_spot, spot_order, unknown_spot}
use Rattle.outcomes.specs.Within.{AreWithin}
use Rattle.outcomes.proofs.Pairs.{name_of_set}
use Rattle.outcomes.proofs.Sorting.{map_ascending}
use Rattle.outcomes.proofs.Spots.{spots_in_order}
use Rattle.vet_base.proofs.Lists.{list_any-map}

abbrev given : {A : Type 0} → Bool → A → Option A
given b x = if b then Some x else None

module _ (app : App) (cause : ℕ) where
  -- a place for each spot
  pub at_spots : (rows : List Row) → map (at_spot app) (filter_map (unknown_spot cause) rows) ≡ unknown_places app cause rows
  unfolding unknown_places unknown_spot
  at_spots [] = refl
  at_spots (Unknown n other ∷ rows) = by_test (other == cause) (at_spots rows)
    where
      by_test : (b : Bool) → map (at_spot app) (filter_map (unknown_spot cause) rows) ≡ filter_map (place_of app cause) rows →
          map (at_spot app) (cons_option (given b (n.by.method, n.pc)) (filter_map (unknown_spot cause) rows)) ≡ cons_option (given b (place_in app n.by.method n.pc)) (filter_map (place_of app cause) rows)
      by_test true later = ap (λ (ps : List Place). place_in app n.by.method n.pc ∷ ps) later
      by_test false later = later
  at_spots (_ ∷ rows) = at_spots rows

  abbrev In_app : Spot → Type 0
  In_app spot = spot.0 < length app.methods

  -- each spot is in a method of the app
  in_methods : (rows : List Row) → AreWithin app rows → AllByRecursion In_app (filter_map (unknown_spot cause) rows)
  unfolding unknown_spot
  in_methods [] within = tt
  in_methods (Unknown n other ∷ rows) within = by_test (other == cause) (in_methods rows (λ row i. within row (inr i)))
    where
      by_test : (b : Bool) → AllByRecursion In_app (filter_map (unknown_spot cause) rows) →
          AllByRecursion In_app (cons_option (given b (n.by.method, n.pc)) (filter_map (unknown_spot cause) rows))
      by_test true later = (within (Unknown n other) (inl refl), later)
      by_test false later = later
  in_methods (_ ∷ rows) within = in_methods rows (λ row i. within row (inr i))

  -- the places in their order
  pub in_order : SoundApp app → (rows : List Row) → AreWithin app rows →
      map (at_spot app) (ascending spot_order (filter_map (unknown_spot cause) rows)) ≡ ascending place_order (unknown_places app cause rows)
  in_order sound rows within =
      map_ascending spot_order place_order (at_spot app) In_app (spots_in_order app sound) (filter_map (unknown_spot cause) rows) (in_methods rows within)
      ∙ ap (ascending place_order) (at_spots rows)

module _ (app : App) (sound : SoundApp app) (rows : List Row) (within : AreWithin app rows) where
  mapped : (f : Place → Cause) (spots : List Spot) → map (λ spot. f (at_spot app spot)) spots ≡ map f (map (at_spot app) spots)
  mapped f [] = refl
  mapped f (spot ∷ spots) = ap (λ (cs : List Cause). f (at_spot app spot) ∷ cs) (mapped f spots)

  named_in_order : (cause : ℕ) (f : Place → Cause) →
      map (λ spot. f (at_spot app spot)) (ascending spot_order (filter_map (unknown_spot cause) rows)) ≡ map f (ascending place_order (unknown_places app cause rows))
  named_in_order cause f = mapped f (ascending spot_order (filter_map (unknown_spot cause) rows)) ∙ ap (map f) (in_order app cause sound rows within)

  pub no_summaries_in_order : map (λ spot. named_cause 1 (at_spot app spot)) (ascending spot_order (filter_map (unknown_spot 1) rows)) ≡ no_summaries app rows
  unfolding no_summaries
  no_summaries_in_order = named_in_order no_summary NoSummary

  pub natives_in_order : map (λ spot. named_cause 2 (at_spot app spot)) (ascending spot_order (filter_map (unknown_spot 2) rows)) ≡ natives app rows
  unfolding natives
  natives_in_order = named_in_order native Native

  pub reflectives_in_order : map (λ spot. named_cause 3 (at_spot app spot)) (ascending spot_order (filter_map (unknown_spot 3) rows)) ≡ reflectives app rows
  unfolding reflectives
  reflectives_in_order = named_in_order reflective Reflective

-- the set of the classes' names has a name just where it is that of a class of the app
pub class_by_set : (app : App) (name : Name) → list_any (is_at (name_order name)) (ascending name_order (map (λ (c : Class). c.name) app.classes)) ≡ is_app_class app name
unfolding is_app_class
class_by_set app name = name_of_set (map (λ (c : Class). c.name) app.classes) name ∙ list_any-map (λ (c : Class). c.name) (λ n. same_name name n) app.classes
