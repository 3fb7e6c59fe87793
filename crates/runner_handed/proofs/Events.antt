-- What is kept of a row is what may come to handed objects by it.
use Rattle.std.proofs.Common.{◌≡◌, ℕ, zero, suc, ◌+◌, ◌<◌, Bool, true, false, cond, List, [], ◌++◌, map, length, filter_map, flat_map, Option, Some, None, option_map, slice_get, refl, sym, ap, ◌∙◌, arith}
use Rattle.std.proofs.lemmas.Option.{slice_get_within}
use Rattle.app_machine.specs.declared.app.App.{App}
use Rattle.app_machine.specs.declared.lists.Callback.{Callback}
use Rattle.app_machine.specs.declared.lists.Lists.{Lists}
use Rattle.app_machine.specs.Events.{callback_body}
use Rattle.app_machine.specs.Heap.{Object}
use Rattle.app_machine.specs.Names.{Name}
use Rattle.app_machine.specs.State.{World}
use Rattle.app_machine.specs.Summaries.{numbers_from}
use Rattle.app_model.specs.Above.{is_below}
use Rattle.app_model.specs.EventBodies.{callback_of, called, handed_callback}
use Rattle.event_index.specs.Comings.{callback_run}
use Rattle.played_machine.specs.Coming.{Event, Receives, callback_coming, handed_coming, handed_events}
use Rattle.played_machine.specs.Reading.{class_at, handed_places}
use Rattle.runner_choices.proofs.Lists.{filter_map_agree, map-filter_map}
use Rattle.runner_handed.specs.declared.adding.Reached.{Reached}
use Rattle.runner_handed.specs.declared.menu.HandedMenu.{HandedMenu}
use Rattle.runner_handed.specs.Menu.{HasAll, menu_in}
use Rattle.played_growth.specs.Growth.{classes_of}
use Rattle.played_growth.proofs.Growing.{class_is}
use Rattle.runner_handed.specs.Reached.{kept_of, positions_of, reached_event, run_on, runs_on}

pub flat_agree : {B : Type 0} (f g : ℕ → List B) (s n : ℕ) → ((q : ℕ) → q < s + n → f q ≡ g q) → flat_map f (numbers_from s n) ≡ flat_map g (numbers_from s n)
flat_agree f g s zero alike = refl
flat_agree f g s (suc n) alike =
    ap (λ xs. xs ++ flat_map f (numbers_from (s + 1) n)) (alike s (omega arith))
    ∙ ap (λ xs. g s ++ xs) (flat_agree f g (s + 1) n (λ q below. alike q (omega (arith, below))))

module _ (app : App) (lists : Lists) (w : World) (q p : ℕ) where
  abbrev made : ℕ → Reached
  made body = record { place = p; body = body }

  abbrev receives : ℕ → Option Callback → Event
  receives body row = Receives (Some body) (Some p) (positions_of row) w

  of_class : (class : Name) → option_map (reached_event w lists q) (run_on app lists q p (Some class)) ≡ callback_coming w (Some p) (handed_callback app lists q class)
  unfolding handed_callback
  of_class class = by_row (slice_get lists.callbacks q) refl
    where
      by_row : (o : Option Callback) → slice_get lists.callbacks q ≡ o → option_map (reached_event w lists q) (option_map made (callback_run (callback_of app lists class o))) ≡ callback_coming w (Some p) (callback_of app lists class o)
      by_row None is = refl
      by_row (Some callback) is = by_test (is_below app lists class callback.class) (callback_body app class callback)
        where
          by_test : (b : Bool) (o : Option ℕ) → option_map (reached_event w lists q) (option_map made (callback_run (cond b (option_map (called callback.sources) o) None))) ≡ callback_coming w (Some p) (cond b (option_map (called callback.sources) o) None)
          by_test false o = refl
          by_test true None = refl
          by_test true (Some body) = ap (λ (r : Option Callback). Some (receives body r)) is

  of_place : (o : Option Name) → option_map (reached_event w lists q) (run_on app lists q p o) ≡ handed_coming app lists w q p o
  of_place None = refl
  of_place (Some class) = of_class class

row_is : (app : App) (lists : Lists) (w : World) (q : ℕ) → map (reached_event w lists q) (runs_on app lists (classes_of w.heap) q (handed_places w.handed)) ≡ handed_events app lists w q
unfolding handed_events
row_is app lists w q =
    map-filter_map (reached_event w lists q) (λ p. run_on app lists q p (slice_get (classes_of w.heap) p)) (handed_places w.handed)
    ∙ filter_map_agree (λ p. option_map (reached_event w lists q) (run_on app lists q p (slice_get (classes_of w.heap) p))) (λ p. handed_coming app lists w q p (class_at w.heap p))
    (λ p. of_place app lists w q p (slice_get (classes_of w.heap) p) ∙ ap (handed_coming app lists w q p) (sym (class_is w.heap p))) (handed_places w.handed)

pub are_events : (app : App) (lists : Lists) (w : World) (menu : HandedMenu) → HasAll app lists (classes_of w.heap) (handed_places w.handed) menu → menu_in w lists menu ≡ flat_map (handed_events app lists w) (numbers_from 0 (length lists.callbacks))
are_events app lists w menu has =
    ap (λ n. flat_map (λ q. map (reached_event w lists q) (kept_of menu.rows.items q)) (numbers_from 0 n)) has.long
    ∙ flat_agree (λ q. map (reached_event w lists q) (kept_of menu.rows.items q)) (handed_events app lists w) 0 (length lists.callbacks)
    (λ q below. ap (map (reached_event w lists q)) (has.rows q (omega (arith, below))) ∙ row_is app lists w q)

pub class_within : (heap : List Object) (p : ℕ) (class : Name) → class_at heap p ≡ Some class → p < length (classes_of heap)
class_within heap p class is = slice_get_within (classes_of heap) p class (sym (class_is heap p) ∙ is)
