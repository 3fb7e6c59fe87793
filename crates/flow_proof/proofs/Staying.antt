-- What follows from rows in the app is in the app.
use Rattle.std.proofs.Common.{List, [], ◌∷◌, refl, subst, sym, inl, inr}
use Rattle.vet_base.specs.Members.{In}
use Rattle.access_path.specs.Laws.{PathLaws}
use Rattle.app_machine.specs.declared.lists.Lists.{Lists}
use Rattle.app_machine.specs.declared.app.App.{App}
use Rattle.app_machine.specs.Sound.{SoundApp}
use Rattle.app_machine.specs.SoundLists.{SoundLists}
use Rattle.fact_rows.specs.declared.row.Row.{Row}
use Rattle.fact_rows.specs.InApp.{InApp}
use Rattle.flow_rules.specs.Rules.{by_local, by_effect, by_call, by_library, by_event, by_handed, Each, Closed, Derivation, nothing, by_start, by_rule}
use Rattle.flow_proof.specs.Staying.{RulesStayInApp}
use Rattle.flow_proof.proofs.StayingSteps.{local_in, effect_in}
use Rattle.flow_proof.proofs.StayingCalls.{call_in}
use Rattle.flow_proof.proofs.StayingLibrary.{library_in, handed_in}
use Rattle.flow_proof.proofs.StayingEvents.{event_in, start_in}

each_map : {P Q : Row → Type 0} → ((row : Row) → P row → Q row) → (rows : List Row) → Each P rows → Each Q rows
each_map f [] h = tt
each_map f (row ∷ rows) h = (f row h.0, each_map f rows h.1)

module _ (app : App) (lists : Lists) (sound : SoundApp app) (listed : SoundLists lists) (laws : PathLaws) where
  closed_in : Closed app lists (InApp app lists)
  closed_in rule premises row (by_local r) h = local_in app lists sound laws listed r h
  closed_in rule premises row (by_effect r) h = effect_in app lists sound laws r h
  closed_in rule premises row (by_call r) h = call_in app lists sound r h
  closed_in rule premises row (by_library r) h = library_in app lists sound listed laws r h
  closed_in rule premises row (by_event r) h = event_in app lists sound listed laws r h
  closed_in rule premises row (by_handed r) h = handed_in app lists sound r h

  derived_in : {rows : List Row} → Derivation app lists rows → (row : Row) → In row rows → InApp app lists row
  derived_in nothing row is_in = absurd is_in
  derived_in (by_start {row = first} before start) row (inl same) = subst (λ r. InApp app lists r) (sym same) (start_in app lists first start)
  derived_in (by_start before start) row (inr later) = derived_in before row later
  derived_in (by_rule {rule = rule} {premises = premises} {row = first} before follows each) row (inl same) =
      subst (λ r. InApp app lists r) (sym same) (closed_in rule premises first follows (each_map (λ premise is_in. derived_in before premise is_in) premises each))
  derived_in (by_rule before follows each) row (inr later) = derived_in before row later

pub rules_stay_in_app : PathLaws → RulesStayInApp
rules_stay_in_app laws app lists sound listed = record {
  starts = start_in app lists;
  closed = closed_in app lists sound listed laws;
  derivable = λ row derived. derived_in app lists sound listed laws derived.derivation row (inl refl);
}
