-- The callbacks that come to objects of a class give what all callback rows give.
use Rattle.std.proofs.Common.{◌≡◌, ℕ, zero, suc, Bool, true, false, cond, List, [], ◌++◌, Option, Some, None, option_map, flat_map, length, slice_get, refl, sym, ap, ◌∙◌, append-nil}
use Rattle.std.proofs.lemmas.Grind.{flat_map-append}
use Rattle.std.proofs.lemmas.Option.{none-some, same_Some}
use Rattle.app_machine.specs.declared.component.Component.{Component as ComponentOf}
use Rattle.app_machine.specs.declared.lists.Callback.{Callback}
use Rattle.app_machine.specs.declared.lists.Lists.{Lists}
use Rattle.app_machine.specs.declared.app.App.{App}
use Rattle.app_machine.specs.Events.{callback_body}
use Rattle.app_machine.specs.Names.{Name}
use Rattle.app_model.specs.Above.{is_below}
use Rattle.app_model.specs.EventBodies.{callback_of, called, component_callback, handed_callback}
use Rattle.event_index.specs.Comings.{callback_run, coming_of, comings, first_comings}
use Rattle.rule_ground.specs.declared.conclusion.Conclusion.{Conclusion}
use Rattle.rule_ground.specs.Below.{for_below}
use Rattle.event_rules.specs.declared.arrival.Arrival.{Arrival}
use Rattle.event_rules.specs.declared.arrival.On.{On}
use Rattle.event_rules.specs.declared.arrival.On.TheVariants as on
use Rattle.event_rules.specs.declared.life.Standing.{Standing}
use Rattle.event_rules.specs.Calling.{call_gives, calls_give, context_on, row_gives, sources_at, sources_in}
use Rattle.event_rules.specs.EventGiven.{callback_gives, callbacks_give, is_called, present_arrival}

below_agree : (f g : ℕ → List Conclusion) → ((q : ℕ) → f q ≡ g q) → (n : ℕ) → for_below f n ≡ for_below g n
below_agree f g same zero = refl
below_agree f g same (suc n) = ap (λ xs. xs ++ f n) (below_agree f g same n) ∙ ap (λ xs. for_below g n ++ xs) (same n)

nothing_below : (f : ℕ → List Conclusion) → ((q : ℕ) → f q ≡ []) → (n : ℕ) → [] ≡ for_below f n
nothing_below f none zero = refl
nothing_below f none (suc n) = ap (λ xs. xs ++ []) (nothing_below f none n) ∙ ap (λ xs. for_below f n ++ xs) (sym (none n))

module _ (app : App) (lists : Lists) (class : Name) where
  -- what comes has the labelled positions of its row
  sources_there : (q : ℕ) (found : List (ℕ × ℕ) × ℕ) → handed_callback app lists q class ≡ Some found → found.0 ≡ sources_at lists q
  unfolding handed_callback
  sources_there q found is = by_row (slice_get lists.callbacks q) is
    where
      by_body : (sources : List (ℕ × ℕ)) (o : Option ℕ) → option_map (called sources) o ≡ Some found → found.0 ≡ sources
      by_body sources None e = absurd (none-some found e)
      by_body sources (Some body) e = sym (ap (λ (p : List (ℕ × ℕ) × ℕ). p.0) (same_Some (sources, body) found e))

      by_test : (callback : Callback) (b : Bool) → cond b (option_map (called callback.sources) (callback_body app class callback)) None ≡ Some found → found.0 ≡ callback.sources
      by_test callback true e = by_body callback.sources (callback_body app class callback) e
      by_test callback false e = absurd (none-some found e)

      by_row : (o : Option Callback) → callback_of app lists class o ≡ Some found → found.0 ≡ sources_in o
      by_row None e = absurd (none-some found e)
      by_row (Some callback) e = by_test callback (is_below app lists class callback.class) e

  module _ (arrival : Arrival) (receiver : On) where
    row_called : (q : ℕ) (o : Option (List (ℕ × ℕ) × ℕ)) → handed_callback app lists q class ≡ o →
        flat_map (call_gives app lists arrival receiver) (coming_of q (callback_run o)) ≡ is_called app arrival (context_on receiver q) o
    row_called q None is = refl
    row_called q (Some found) is =
        append-nil (call_gives app lists arrival receiver (record { row = q; body = found.1 }))
        ∙ ap (λ sources. is_called app arrival (context_on receiver q) (Some (sources, found.1))) (sym (sources_there q found is))

    -- a callback row by itself
    pub row_calls : (q body : ℕ) → Some body ≡ callback_run (handed_callback app lists q class) → call_gives app lists arrival receiver (record { row = q; body = body }) ≡ row_gives app lists arrival receiver class q
    row_calls q body is = by_found (handed_callback app lists q class) refl is
      where
        by_found : (o : Option (List (ℕ × ℕ) × ℕ)) → handed_callback app lists q class ≡ o → Some body ≡ callback_run o → call_gives app lists arrival receiver (record { row = q; body = body }) ≡ is_called app arrival (context_on receiver q) (handed_callback app lists q class)
        by_found None e is = absurd (none-some body (sym is))
        by_found (Some found) e is =
            ap (λ sources. is_called app arrival (context_on receiver q) (Some (sources, body))) (sym (sources_there q found e))
            ∙ (ap (λ b. is_called app arrival (context_on receiver q) (Some (found.0, b))) (same_Some body found.1 is) ∙ ap (λ o. is_called app arrival (context_on receiver q) o) (sym e))

    pub row_calls_none : (q : ℕ) → None ≡ callback_run (handed_callback app lists q class) → [] ≡ row_gives app lists arrival receiver class q
    row_calls_none q is = by_found (handed_callback app lists q class) refl is
      where
        by_found : (o : Option (List (ℕ × ℕ) × ℕ)) → handed_callback app lists q class ≡ o → None ≡ callback_run o → [] ≡ is_called app arrival (context_on receiver q) (handed_callback app lists q class)
        by_found None e is = ap (λ o. is_called app arrival (context_on receiver q) o) (sym e)
        by_found (Some found) e is = absurd (none-some found.1 is)

    first_called : (n : ℕ) → flat_map (call_gives app lists arrival receiver) (first_comings app lists class n) ≡ for_below (row_gives app lists arrival receiver class) n
    first_called zero = refl
    first_called (suc q) =
        flat_map-append (call_gives app lists arrival receiver) (first_comings app lists class q) (coming_of q (callback_run (handed_callback app lists q class)))
        ∙ (ap (λ xs. xs ++ flat_map (call_gives app lists arrival receiver) (coming_of q (callback_run (handed_callback app lists q class)))) (first_called q)
        ∙ ap (λ xs. for_below (row_gives app lists arrival receiver class) q ++ xs) (row_called q (handed_callback app lists q class) refl))

    pub all_called : flat_map (call_gives app lists arrival receiver) (comings app lists class) ≡ calls_give app lists arrival receiver class
    all_called = first_called (length lists.callbacks)

module _ (app : App) (lists : Lists) (standing : Standing) where
  on_class : (component : ComponentOf) (q : ℕ) → slice_get app.components standing.component ≡ Some component → component_callback app lists standing.component q ≡ handed_callback app lists q component.class
  unfolding component_callback
  on_class component q there = rw there refl

  on_none : (q : ℕ) → slice_get app.components standing.component ≡ None → component_callback app lists standing.component q ≡ None
  unfolding component_callback
  on_none q absent = rw absent refl

  -- a component is called as an object of its class
  pub called_on : (component : ComponentOf) → slice_get app.components standing.component ≡ Some component →
      calls_give app lists (present_arrival standing) (on.Component standing.component) component.class ≡ callbacks_give app lists standing
  called_on component there =
      below_agree (row_gives app lists (present_arrival standing) (on.Component standing.component) component.class) (callback_gives app lists standing)
      (λ q. ap (λ o. is_called app (present_arrival standing) (context_on (on.Component standing.component) q) o) (sym (on_class component q there))) (length lists.callbacks)

  pub none_called : slice_get app.components standing.component ≡ None → [] ≡ callbacks_give app lists standing
  none_called absent =
      nothing_below (callback_gives app lists standing)
      (λ q. ap (λ o. is_called app (present_arrival standing) (context_on (on.Component standing.component) q) o) (on_none q absent)) (length lists.callbacks)
