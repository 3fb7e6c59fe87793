-- One of the events by its index.
use Rattle.std.proofs.Common.{◌≡◌, ◌%◌, ℕ, zero, suc, ◌+◌, ◌<◌, List, [], ◌∷◌, ◌++◌, length, flat_map, Option, Some, None, slice_get, refl, sym, ap, ◌∙◌, arith}
use Rattle.app_machine.specs.declared.app.App.{App}
use Rattle.app_machine.specs.declared.lists.Lists.{Lists}
use Rattle.app_machine.specs.State.{World}
use Rattle.app_machine.specs.Summaries.{numbers_from}
use Rattle.played_machine.specs.Coming.{Event, component_events, events}
use Rattle.played_machine.specs.Drawing.{continue, draw, given, one_of}
use Rattle.std.proofs.lemmas.List.{length-append}
use Rattle.std.proofs.lemmas.Option.{slice_get_past}
use Rattle.runner_choices.proofs.Exact.{menu_is}
use Rattle.runner_choices.proofs.Lived.{met_before, past_some}
use Rattle.runner_handed.specs.Menu.{menu_in}
use Rattle.runner_handed.proofs.Events.{are_events, flat_agree}
use Rattle.runner_menu.specs.declared.menu.Menu.{Menu}
use Rattle.runner_menu.specs.Menus.{IsReady}
use Rattle.runner_menu.specs.Tables.{components_in, menu_at}

-- an element, where the index is within
there : {A : Type 0} (xs : List A) (i : ℕ) → i < length xs → (x : A) × (slice_get xs i ≡ Some x)
there [] i within = absurd (omega (arith, within))
there (x ∷ xs) zero within = (x, refl)
there (x ∷ xs) (suc i) within = there xs i (omega (arith, within))

module _ (app : App) (lists : Lists) (w : World) (menu : Menu) (ready : IsReady app lists w menu) where
  of_component : (c : ℕ) → c < length app.components → menu_at app w c (slice_get menu.tables.items c) ≡ component_events app lists w c
  of_component c within =
      let long = ready.tables.long in
      let table = there menu.tables.items c (omega (arith, within, long)) in
      ap (menu_at app w c) table.1 ∙ menu_is app lists w c table.0 (ready.tables.at c table.0 table.1)

  pub components_are : components_in app w menu.tables.items ≡ flat_map (component_events app lists w) (numbers_from 0 (length app.components))
  components_are = flat_agree (λ c. menu_at app w c (slice_get menu.tables.items c)) (component_events app lists w) 0 (length app.components) (λ c below. of_component c (omega (arith, below)))

  pub all_are : components_in app w menu.tables.items ++ menu_in w lists menu.handed ≡ events app lists w
  unfolding events
  all_are =
      ap (λ xs. xs ++ menu_in w lists menu.handed) components_are
      ∙ ap (λ xs. flat_map (component_events app lists w) (numbers_from 0 (length app.components)) ++ xs) (are_events app lists w menu.handed ready.handed)

  pub chosen_here : (index : ℕ) (event : Event) → slice_get (components_in app w menu.tables.items) index ≡ Some event → Some event ≡ slice_get (events app lists w) index
  chosen_here index event is = sym (ap (λ xs. slice_get xs index) (sym all_are) ∙ met_before w (components_in app w menu.tables.items) (menu_in w lists menu.handed) index event is)

  pub chosen_behind : (index left : ℕ) (o : Option Event) → index ≡ length (components_in app w menu.tables.items) + left → o ≡ slice_get (menu_in w lists menu.handed) left → o ≡ slice_get (events app lists w) index
  chosen_behind index left o past is = is ∙ (sym (past_some w (components_in app w menu.tables.items) (menu_in w lists menu.handed) index left past) ∙ ap (λ xs. slice_get xs index) all_are)

  pub counted : (components handed all : ℕ) → components ≡ length (components_in app w menu.tables.items) → handed ≡ length (menu_in w lists menu.handed) → all ≡ components + handed → all ≡ length (events app lists w)
  counted components handed all one other sum =
      let long = length-append (components_in app w menu.tables.items) (menu_in w lists menu.handed) in
      let same = ap length all_are in
      omega (arith, one, other, sum, long, same)

-- what is drawn of a list
module _ {A : Type 0} (xs : List A) where
  no_one : (bytes : List ℕ) → length xs ≡ 0 → one_of xs bytes ≡ None
  unfolding one_of
  no_one [] none = refl
  no_one (b ∷ bytes) none = ap (λ o. given o bytes) (slice_get_past xs (b % length xs) (omega (arith, none)))

  pub none_drawn : (bytes : List ℕ) → length xs ≡ 0 → None ≡ one_of xs bytes
  none_drawn bytes none = sym (no_one bytes none)

  pub no_byte : (bytes : List ℕ) (n : ℕ) → n ≡ length xs → None ≡ draw n bytes → None ≡ one_of xs bytes
  unfolding one_of
  no_byte bytes n is none = ap (continue (λ i. given (slice_get xs i))) (none ∙ ap (λ m. draw m bytes) is)

  pub one_drawn : (bytes left : List ℕ) (n i : ℕ) (o : Option A) → n ≡ length xs → Some (i, left) ≡ draw n bytes → o ≡ slice_get xs i → given o left ≡ one_of xs bytes
  unfolding one_of
  one_drawn bytes left n i o is drawn at = ap (λ p. given p left) at ∙ ap (continue (λ i. given (slice_get xs i))) (drawn ∙ ap (λ m. draw m bytes) is)
