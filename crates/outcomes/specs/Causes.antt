-- Why nothing certain can be said of an app: instructions at which a run may come to what is not modelled, content providers,
-- and classes of the app that a layout names.
use Rattle.std.specs.Prelude.{◌==◌, ℕ, Bool, if◌then◌else◌, List, [], ◌∷◌, ◌++◌, map, filter, filter_map, Option, Some, None}
use Rattle.std.specs.List.{list_any}
use Rattle.app_machine.specs.declared.app.App.{App}
use Rattle.app_machine.specs.declared.app.Class.{Class}
use Rattle.app_machine.specs.Names.{Name, same_name}
use Rattle.app_machine.specs.Safe.{no_summary, native, reflective}
use Rattle.app_machine.specs.Sound.{name_order}
use Rattle.fact_rows.specs.declared.row.Row.{Row}
use Rattle.fact_rows.specs.declared.row.Row.TheVariants.{Unknown}
use Rattle.outcomes.specs.declared.outcome.Place.{Place}
use Rattle.outcomes.specs.declared.outcome.Cause.{Cause}
use Rattle.outcomes.specs.declared.outcome.Cause.TheVariants.{NoSummary, Native, Reflective, Provider, LayoutClass, TooLarge}
use Rattle.outcomes.specs.Ascending.{ascending}
use Rattle.outcomes.specs.Places.{place_in, place_order}

unfoldable pub is_app_class : App → Name → Bool
is_app_class app name = list_any (λ (c : Class). same_name name c.name) app.classes

-- where a row says that a run may stand for the cause
abbrev pub place_of : App → ℕ → Row → Option Place
place_of app cause (Unknown n other) = if other == cause then Some (place_in app n.by.method n.pc) else None
place_of app cause _ = None

unfoldable pub unknown_places : App → ℕ → List Row → List Place
unknown_places app cause rows = filter_map (place_of app cause) rows

-- that a run may stand at the place for the cause
abbrev pub named_cause : ℕ → Place → Cause
named_cause cause place = if cause == no_summary then NoSummary place else if cause == native then Native place else Reflective place

-- the causes by which a run may stand at these places
unfoldable pub no_summaries : App → List Row → List Cause
no_summaries app rows = map NoSummary (ascending place_order (unknown_places app no_summary rows))

unfoldable pub natives : App → List Row → List Cause
natives app rows = map Native (ascending place_order (unknown_places app native rows))

unfoldable pub reflectives : App → List Row → List Cause
reflectives app rows = map Reflective (ascending place_order (unknown_places app reflective rows))

unfoldable pub providers : App → List Cause
providers app = map Provider (ascending name_order app.providers)

unfoldable pub layout_classes : App → List Cause
layout_classes app = map LayoutClass (ascending name_order (filter (is_app_class app) app.layout_classes))

-- first the places, by cause; then the providers; then the layouts' classes
unfoldable pub causes_of : App → List Row → List Cause
causes_of app rows = no_summaries app rows ++ natives app rows ++ reflectives app rows ++ providers app ++ layout_classes app

-- of an app from which more rows than the limit follow: the providers, the layouts' classes, and that it is too large
unfoldable pub causes_too_large : App → ℕ → List Cause
causes_too_large app limit = providers app ++ layout_classes app ++ TooLarge limit ∷ []
