-- What the tables list is what may come.
use Rattle.std.proofs.Common.{◌≡◌, ◌==◌, ℕ, zero, suc, ◌+◌, Bool, true, false, cond, not, List, [], ◌∷◌, ◌++◌, map, length, filter_map, Option, Some, None, option_map, slice_get, refl, sym, ap, ◌∙◌, arith}
use Rattle.std.specs.Prelude.{◌||◌, ◌&&◌}
use Rattle.std.specs.List.{cons_option, list_all}
use Rattle.std.proofs.lemmas.List.{map-append}
use Rattle.std.proofs.lemmas.List.Elements.{filter_map-append}
use Rattle.app_machine.specs.declared.app.App.{App}
use Rattle.app_machine.specs.declared.component.Component.{Component}
use Rattle.app_machine.specs.declared.component.Kind.{Kind}
use Rattle.app_machine.specs.declared.component.Kind.TheVariants.{Application, Activity, Service, Receiver}
use Rattle.app_machine.specs.declared.lists.Callback.{Callback}
use Rattle.app_machine.specs.declared.lists.Lists.{Lists}
use Rattle.app_machine.specs.Events.{callback_body}
use Rattle.app_machine.specs.LifeEvents.{life_events}
use Rattle.app_machine.specs.Names.{Name}
use Rattle.app_machine.specs.Sound.{SoundApp}
use Rattle.app_machine.specs.State.{World, ComponentState}
use Rattle.app_machine.specs.Summaries.{numbers_from}
use Rattle.app_model.specs.Above.{is_below}
use Rattle.app_model.specs.EventBodies.{callback_of, callback_on, called, click, component_callback, handed_callback, life_at, life_event, life_on, shown_callback}
use Rattle.app_model.specs.Initialisers.{component_initialisers}
use Rattle.event_index.specs.Comings.{callback_run, coming_of, comings, first_comings}
use Rattle.played_machine.specs.Coming.{callback_coming, callbacks, click_coming, clicks, component_events, initialisations, is_application, lets_begin, life_coming, life_count, lives, may_begin}
use Rattle.runner_choices.specs.declared.table.ComponentTable.{ComponentTable}
use Rattle.runner_choices.specs.Choices.{by_state, called_back, called_by, clicked, life_with, row_on}
use Rattle.runner_choices.specs.Table.{IsTable, menu_of}
use Rattle.runner_choices.proofs.Lists.{by_index, filter_map-map, filter_map_agree, map-filter_map, numbers_end}

-- the callbacks of a class, with the positions whose values come labelled
module _ (app : App) (lists : Lists) (class : Name) where
  one_called : (q : ℕ) → filter_map (called_by lists) (coming_of q (callback_run (handed_callback app lists q class))) ≡ cons_option (handed_callback app lists q class) []
  unfolding handed_callback
  one_called q = by_row (slice_get lists.callbacks q) refl
    where
      by_row : (o : Option Callback) → slice_get lists.callbacks q ≡ o → filter_map (called_by lists) (coming_of q (callback_run (callback_of app lists class o))) ≡ cons_option (callback_of app lists class o) []
      by_row None is = refl
      by_row (Some callback) is = by_test (is_below app lists class callback.class) (callback_body app class callback)
        where
          by_test : (b : Bool) (o : Option ℕ) → filter_map (called_by lists) (coming_of q (callback_run (cond b (option_map (called callback.sources) o) None))) ≡ cons_option (cond b (option_map (called callback.sources) o) None) []
          by_test false o = refl
          by_test true None = refl
          by_test true (Some body) = ap (λ (r : Option Callback). cons_option (option_map (λ (row : Callback). called row.sources body) r) []) is

  first_called : (n : ℕ) → filter_map (called_by lists) (first_comings app lists class n) ≡ filter_map (λ q. handed_callback app lists q class) (numbers_from 0 n)
  first_called zero = refl
  first_called (suc q) =
      let last : 0 + q ≡ q = omega arith in
      filter_map-append (called_by lists) (first_comings app lists class q) (coming_of q (callback_run (handed_callback app lists q class)))
      ∙ (ap (λ xs. xs ++ filter_map (called_by lists) (coming_of q (callback_run (handed_callback app lists q class)))) (first_called q)
      ∙ (ap (λ xs. filter_map (λ k. handed_callback app lists k class) (numbers_from 0 q) ++ xs) (one_called q)
      ∙ sym (ap (filter_map (λ k. handed_callback app lists k class)) (numbers_end 0 q ∙ ap (λ k. numbers_from 0 q ++ k ∷ []) last)
      ∙ filter_map-append (λ k. handed_callback app lists k class) (numbers_from 0 q) (q ∷ []))))

  pub all_called : filter_map (called_by lists) (comings app lists class) ≡ filter_map (λ q. handed_callback app lists q class) (numbers_from 0 (length lists.callbacks))
  all_called = first_called (length lists.callbacks)

module _ (app : App) (lists : Lists) (w : World) (c : ℕ) (component : Component) (there : slice_get app.components c ≡ Some component) where
  abbrev here : ComponentState
  here = w.components c

  lives_are : lives app w c ≡ filter_map (life_with w c component.class (may_begin app w c)) (map (row_on app component.class) (life_events component.kind))
  unfolding life_event
  lives_are =
      ap (λ o. filter_map (λ e. life_coming app w c (life_on app e o)) (numbers_from 0 (life_count o))) there
      ∙ (by_index (λ o. life_coming app w c (life_at app component o)) (life_events component.kind)
      ∙ sym (filter_map-map (life_with w c component.class (may_begin app w c)) (row_on app component.class) (life_events component.kind)))

  coming_is : (o : Option (List (ℕ × ℕ) × ℕ)) → callback_coming w here.place o ≡ option_map (called_back w here.place) o
  coming_is None = refl
  coming_is (Some found) = refl

  click_is : (o : Option ℕ) → click_coming w here.place o ≡ option_map (called_back w here.place) (option_map (called []) o)
  click_is None = refl
  click_is (Some body) = refl

  of_component : filter_map (component_callback app lists c) (numbers_from 0 (length lists.callbacks)) ≡ filter_map (called_by lists) (comings app lists component.class)
  unfolding component_callback
  of_component = ap (λ o. filter_map (λ q. callback_on app lists q o) (numbers_from 0 (length lists.callbacks))) there ∙ sym (all_called app lists component.class)

  callbacks_are : callbacks app lists w c ≡ map (called_back w here.place) (filter_map (called_by lists) (comings app lists component.class))
  callbacks_are =
      filter_map_agree (λ q. callback_coming w here.place (component_callback app lists c q)) (λ q. option_map (called_back w here.place) (component_callback app lists c q)) (λ q. coming_is (component_callback app lists c q)) (numbers_from 0 (length lists.callbacks))
      ∙ (sym (map-filter_map (called_back w here.place) (component_callback app lists c) (numbers_from 0 (length lists.callbacks)))
      ∙ ap (map (called_back w here.place)) of_component)

  clicks_are : clicks app w c ≡ map (called_back w here.place) (filter_map (clicked app c) (numbers_from 0 (length app.clicks)))
  clicks_are =
      filter_map_agree (λ i. click_coming w here.place (click app c i)) (λ i. option_map (called_back w here.place) (clicked app c i)) (λ i. click_is (click app c i)) (numbers_from 0 (length app.clicks))
      ∙ sym (map-filter_map (called_back w here.place) (clicked app c) (numbers_from 0 (length app.clicks)))

  abbrev both : List (List (ℕ × ℕ) × ℕ)
  both = filter_map (called_by lists) (comings app lists component.class) ++ filter_map (clicked app c) (numbers_from 0 (length app.clicks))

  others_are : by_state w here (may_begin app w c) both (component_initialisers app c) ≡ cond (here.state == 0) (initialisations app w c) (callbacks app lists w c ++ clicks app w c)
  others_are = ap (cond (here.state == 0) (initialisations app w c))
      (map-append (called_back w here.place) (filter_map (called_by lists) (comings app lists component.class)) (filter_map (clicked app c) (numbers_from 0 (length app.clicks)))
      ∙ (ap (λ xs. xs ++ map (called_back w here.place) (filter_map (clicked app c) (numbers_from 0 (length app.clicks)))) (sym callbacks_are)
      ∙ ap (λ xs. callbacks app lists w c ++ xs) (sym clicks_are)))

  pub exact : filter_map (life_with w c component.class (may_begin app w c)) (map (row_on app component.class) (life_events component.kind)) ++ by_state w here (may_begin app w c) both (component_initialisers app c) ≡ component_events app lists w c
  unfolding component_events
  exact =
      ap (λ xs. xs ++ by_state w here (may_begin app w c) both (component_initialisers app c)) (sym lives_are)
      ∙ ap (λ xs. lives app w c ++ xs) others_are

pub menu_is : (app : App) (lists : Lists) (w : World) (c : ℕ) (table : ComponentTable) → IsTable app lists c table → menu_of w c (may_begin app w c) table ≡ component_events app lists w c
menu_is app lists w c table is =
    let may = may_begin app w c in
    let rest = by_state w (w.components c) may (map shown_callback table.called.items) table.initialisers.items in
    ap (λ class. filter_map (life_with w c class may) table.lives.items ++ rest) is.class
    ∙ (ap (λ rows. filter_map (life_with w c is.component.class may) rows ++ rest) is.lives
    ∙ (ap (λ called. filter_map (life_with w c is.component.class may) (map (row_on app is.component.class) (life_events is.component.kind)) ++ by_state w (w.components c) may called table.initialisers.items) is.called
    ∙ (ap (λ bodies. filter_map (life_with w c is.component.class may) (map (row_on app is.component.class) (life_events is.component.kind)) ++ by_state w (w.components c) may (both app lists w c is.component is.there) bodies) is.initialisers
    ∙ exact app lists w c is.component is.there)))

-- only the first component can be the application
module _ (app : App) (w : World) (c : ℕ) (sound : SoundApp app) where
  later_lets : (a : ℕ) → (a ≡ 0 → ⊥) → (o : Option Component) → slice_get app.components a ≡ o → lets_begin w c a o ≡ true
  later_lets a later None is = refl
  later_lets a later (Some component) is = by_kind component.kind refl
    where
      by_kind : (kind : Kind) → component.kind ≡ kind → (not (is_application kind) || ((a == c) || ((w.components a).state == 2))) ≡ true
      by_kind Application kind = absurd (later (sound.application_first a (record { component = component; there = record { there = is }; kind = kind })))
      by_kind Activity kind = refl
      by_kind Service kind = refl
      by_kind Receiver kind = refl

  all_let : (s n : ℕ) → (s ≡ 0 → ⊥) → list_all (λ a. lets_begin w c a (slice_get app.components a)) (numbers_from s n) ≡ true
  all_let s zero later = refl
  all_let s (suc n) later =
      ap (λ b. b && list_all (λ a. lets_begin w c a (slice_get app.components a)) (numbers_from (s + 1) n)) (later_lets s later (slice_get app.components s) refl)
      ∙ all_let (s + 1) n (λ none. omega (arith, none))

  and_true : (b : Bool) → (b && true) ≡ b
  and_true true = refl
  and_true false = refl

  by_list : (components : List Component) → app.components ≡ components → list_all (λ a. lets_begin w c a (slice_get app.components a)) (numbers_from 0 (length components)) ≡ lets_begin w c 0 (slice_get components 0)
  by_list [] is = refl
  by_list (first ∷ others) is =
      ap (λ b. lets_begin w c 0 (slice_get app.components 0) && b) (all_let 1 (length others) (λ none. omega (arith, none)))
      ∙ (and_true (lets_begin w c 0 (slice_get app.components 0)) ∙ ap (λ (components : List Component). lets_begin w c 0 (slice_get components 0)) is)

  pub first_lets : lets_begin w c 0 (slice_get app.components 0) ≡ may_begin app w c
  unfolding may_begin
  first_lets = sym (by_list app.components refl)
