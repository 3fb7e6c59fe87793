-- Events by their numbers are those of the machine.
use Rattle.std.proofs.Common.{◌≡◌, ◌↔◌, ℕ, Bool, true, false, List, [], map, Option, Some, None, option_map, slice_get, refl, sym, ap, subst, ◌∙◌, if◌then◌else◌}
use Rattle.std.specs.Prelude.{IsTrue}
use Rattle.std.proofs.lemmas.Option.{same_Some, none-some, slice_get-map}
use Rattle.app_machine.specs.declared.app.App.{App}
use Rattle.app_machine.specs.declared.component.Component.{Component}
use Rattle.app_machine.specs.declared.component.Kind.{Kind}
use Rattle.app_machine.specs.declared.component.Kind.TheVariants.{Application, Activity, Service, Receiver}
use Rattle.app_machine.specs.declared.lists.Callback.{Callback}
use Rattle.app_machine.specs.declared.lists.Lists.{Lists}
use Rattle.app_machine.specs.Events.{IsApplication, LifeEventAt, CallbackAt, ClickAt, HandedAt, InitialiserAt}
use Rattle.app_machine.specs.LifeEvents.{LifeEvent, life_events}
use Rattle.app_machine.specs.Lookups.{body_named, find_body, initialisers_from}
use Rattle.app_machine.specs.Names.{Name, click_descriptor}
use Rattle.app_machine.specs.Sound.{SoundApp}
use Rattle.app_machine.specs.Summaries.{Below, ClassBelow}
use Rattle.vet_base.specs.Members.{In}
use Rattle.vet_base.proofs.Lists.{slice_get-map_at}
use Rattle.app_model.specs.declared.answers.EventRow.{EventRow}
use Rattle.app_model.specs.Above.{is_below, is_class_below}
use Rattle.app_model.specs.EventBodies.{called, callback_of, callback_on, click, click_of, click_on, component_callback, handed_callback, is_activity, life_at, life_event, life_on}
use Rattle.app_model.specs.EventLaws.{EventsAreExact}
use Rattle.app_model.specs.EventTable.{shown_event}
use Rattle.app_model.specs.Initialisers.{component_initialisers}
use Rattle.app_model.proofs.ArrayRelation.{below_if, below_only_if}
use Rattle.app_model.proofs.BelowRelation.{class_below_if, class_below_only_if}

-- an event of the table
pub event_here : (kind : Kind) (rows : List EventRow) (e : ℕ) (row : EventRow) → map shown_event rows ≡ life_events kind → slice_get rows e ≡ Some row → slice_get (life_events kind) e ≡ Some (shown_event row)
event_here kind rows e row table there = ap (λ lives. slice_get lives e) (sym table) ∙ slice_get-map_at shown_event rows e row there

pub no_event : (kind : Kind) (rows : List EventRow) (e : ℕ) → map shown_event rows ≡ life_events kind → slice_get rows e ≡ None → slice_get (life_events kind) e ≡ None
no_event kind rows e table absent = ap (λ lives. slice_get lives e) (sym table) ∙ (slice_get-map shown_event rows e ∙ ap (option_map shown_event) absent)

-- the component is the application object
pub application_here : (app : App) (c : ℕ) (component : Component) → slice_get app.components c ≡ Some component → component.kind ≡ Application → IsApplication app c
application_here app c component there kind = record { component = component; there = record { there = there }; kind = kind }

pub other_kind : (app : App) (c : ℕ) (component : Component) → slice_get app.components c ≡ Some component → (component.kind ≡ Application → ⊥) → IsApplication app c → ⊥
other_kind app c component there other is = other (ap (λ (x : Component). x.kind) (same_Some component is.component (sym there ∙ is.there.there)) ∙ is.kind)

pub no_component : (app : App) (c : ℕ) → slice_get app.components c ≡ None → IsApplication app c → ⊥
no_component app c absent is = none-some is.component (sym absent ∙ is.there.there)

module _ (app : App) (lists : Lists) (sound : SoundApp app) where
  below_exact : (class type : Name) → IsTrue (is_below app lists class type) ↔ Below app lists class type
  below_exact class type = (below_if app lists class type, below_only_if app lists sound.no_circle)

  class_below_exact : (class type : Name) → IsTrue (is_class_below app lists class type) ↔ ClassBelow app lists class type
  class_below_exact class type = (class_below_if app lists type class, class_below_only_if app lists type sound.no_circle class)

  life_so : (c e : ℕ) (class : Name) (life : LifeEvent) (body : Option ℕ) → LifeEventAt app c e class life body → life_event app c e ≡ Some (class, life, body)
  unfolding life_event
  life_so c e class life body is =
      ap (life_on app e) is.there.there
      ∙ (ap (life_at app is.component) is.is_event.there
      ∙ (ap (λ class. Some (class, life, body_named app class life.name life.descriptor)) is.of_class ∙ ap (λ body. Some (class, life, body)) is.is_body))

  life_only : (c e : ℕ) (class : Name) (life : LifeEvent) (body : Option ℕ) → life_event app c e ≡ Some (class, life, body) → LifeEventAt app c e class life body
  unfolding life_event
  life_only c e class life body found = on_component (slice_get app.components c) refl found
    where
      on_event : (component : Component) → slice_get app.components c ≡ Some component → (o : Option LifeEvent) → slice_get (life_events component.kind) e ≡ o → life_at app component o ≡ Some (class, life, body) → LifeEventAt app c e class life body
      on_event component there None is found = absurd (none-some (class, life, body) found)
      on_event component there (Some event) is found =
          let same : (component.class, event, body_named app component.class event.name event.descriptor) ≡ (class, life, body) = same_Some (component.class, event, body_named app component.class event.name event.descriptor) (class, life, body) found in
          let same_class : component.class ≡ class = ap (λ (t : Name × LifeEvent × Option ℕ). t.0) same in
          let same_event : event ≡ life = ap (λ (t : Name × LifeEvent × Option ℕ). t.1) same in
          let same_body : body_named app component.class event.name event.descriptor ≡ body = ap (λ (t : Name × LifeEvent × Option ℕ). t.2) same in
          record {
            component = component;
            there = record { there = there };
            of_class = same_class;
            is_event = record { there = is ∙ ap (λ x. Some x) same_event };
            is_body = ap (λ (x : LifeEvent). body_named app class x.name x.descriptor) (sym same_event) ∙ (ap (λ x. body_named app x event.name event.descriptor) (sym same_class) ∙ same_body);
          }

      on_component : (o : Option Component) → slice_get app.components c ≡ o → life_on app e o ≡ Some (class, life, body) → LifeEventAt app c e class life body
      on_component None is found = absurd (none-some (class, life, body) found)
      on_component (Some component) is found = on_event component is (slice_get (life_events component.kind) e) refl found

  handed_so : (q : ℕ) (class : Name) (sources : List (ℕ × ℕ)) (body : ℕ) → HandedAt app lists q class sources body → handed_callback app lists q class ≡ Some (sources, body)
  unfolding handed_callback
  handed_so q class sources body is =
      ap (callback_of app lists class) is.is_row.there
      ∙ (ap (λ b. if b then option_map (called is.callback.sources) (find_body app class is.callback.name is.callback.proto) else None) ((below_exact class is.callback.class).1 is.is_below)
      ∙ (ap (option_map (called is.callback.sources)) is.is_body ∙ ap (λ s. Some (s, body)) is.same_sources))

  handed_only : (q : ℕ) (class : Name) (sources : List (ℕ × ℕ)) (body : ℕ) → handed_callback app lists q class ≡ Some (sources, body) → HandedAt app lists q class sources body
  unfolding handed_callback
  handed_only q class sources body found = on_row (slice_get lists.callbacks q) refl found
    where
      with_body : (callback : Callback) → slice_get lists.callbacks q ≡ Some callback → is_below app lists class callback.class ≡ true → (o : Option ℕ) → find_body app class callback.name callback.proto ≡ o → option_map (called callback.sources) o ≡ Some (sources, body) → HandedAt app lists q class sources body
      with_body callback there holds None is found = absurd (none-some (sources, body) found)
      with_body callback there holds (Some found_body) is found =
          let same : (callback.sources, found_body) ≡ (sources, body) = same_Some (callback.sources, found_body) (sources, body) found in
          record {
            callback = callback;
            is_row = record { there = there };
            same_sources = ap (λ (t : List (ℕ × ℕ) × ℕ). t.0) same;
            is_below = (below_exact class callback.class).0 holds;
            is_body = is ∙ ap (λ (t : List (ℕ × ℕ) × ℕ). Some t.1) same;
          }

      if_below : (callback : Callback) → slice_get lists.callbacks q ≡ Some callback → (b : Bool) → is_below app lists class callback.class ≡ b →
          (if b then option_map (called callback.sources) (find_body app class callback.name callback.proto) else None) ≡ Some (sources, body) → HandedAt app lists q class sources body
      if_below callback there true holds found = with_body callback there holds (find_body app class callback.name callback.proto) refl found
      if_below callback there false fails found = absurd (none-some (sources, body) found)

      on_row : (o : Option Callback) → slice_get lists.callbacks q ≡ o → callback_of app lists class o ≡ Some (sources, body) → HandedAt app lists q class sources body
      on_row None is found = absurd (none-some (sources, body) found)
      on_row (Some callback) is found = if_below callback is (is_below app lists class callback.class) refl found

  callback_so : (c q : ℕ) (sources : List (ℕ × ℕ)) (body : ℕ) → CallbackAt app lists c q sources body → component_callback app lists c q ≡ Some (sources, body)
  unfolding component_callback
  callback_so c q sources body is =
      ap (callback_on app lists q) is.there.there
      ∙ handed_so q is.component.class sources body (record { callback = is.callback; is_row = is.is_row; same_sources = is.same_sources; is_below = is.is_below; is_body = is.is_body })

  callback_only : (c q : ℕ) (sources : List (ℕ × ℕ)) (body : ℕ) → component_callback app lists c q ≡ Some (sources, body) → CallbackAt app lists c q sources body
  unfolding component_callback
  callback_only c q sources body found = on_component (slice_get app.components c) refl found
    where
      on_component : (o : Option Component) → slice_get app.components c ≡ o → callback_on app lists q o ≡ Some (sources, body) → CallbackAt app lists c q sources body
      on_component None is found = absurd (none-some (sources, body) found)
      on_component (Some component) is found =
          let at : HandedAt app lists q component.class sources body = handed_only q component.class sources body found in
          record { component = component; callback = at.callback; there = record { there = is }; is_row = at.is_row; same_sources = at.same_sources; is_below = at.is_below; is_body = at.is_body }

  click_so : (c i body : ℕ) → ClickAt app c i body → click app c i ≡ Some body
  unfolding click
  click_so c i body is =
      ap (click_on app i) is.there.there
      ∙ (ap (click_of app is.component) is.is_click.there
      ∙ (ap (λ kind. if is_activity kind then body_named app is.component.class is.name click_descriptor else None) is.is_activity ∙ is.is_body))

  click_only : (c i body : ℕ) → click app c i ≡ Some body → ClickAt app c i body
  unfolding click
  click_only c i body found = on_component (slice_get app.components c) refl found
    where
      if_activity : (component : Component) (name : Name) → slice_get app.components c ≡ Some component → slice_get app.clicks i ≡ Some name → (kind : Kind) → component.kind ≡ kind → (if is_activity kind then body_named app component.class name click_descriptor else None) ≡ Some body → ClickAt app c i body
      if_activity component name there named Activity kind found = record { component = component; name = name; there = record { there = there }; is_click = record { there = named }; is_activity = kind; is_body = found }
      if_activity component name there named Application kind found = absurd (none-some body found)
      if_activity component name there named Service kind found = absurd (none-some body found)
      if_activity component name there named Receiver kind found = absurd (none-some body found)

      on_name : (component : Component) → slice_get app.components c ≡ Some component → (o : Option Name) → slice_get app.clicks i ≡ o → click_of app component o ≡ Some body → ClickAt app c i body
      on_name component there None is found = absurd (none-some body found)
      on_name component there (Some name) is found = if_activity component name there is component.kind refl found

      on_component : (o : Option Component) → slice_get app.components c ≡ o → click_on app i o ≡ Some body → ClickAt app c i body
      on_component None is found = absurd (none-some body found)
      on_component (Some component) is found = on_name component is (slice_get app.clicks i) refl found

  initialiser_so : (c body : ℕ) → InitialiserAt app c body → In body (component_initialisers app c)
  unfolding component_initialisers
  initialiser_so c body is = subst (λ o. In body (elim o [ None ↦ [] | Some component ↦ initialisers_from app component.class ])) (sym is.there.there) is.is_one

  initialiser_only : (c body : ℕ) → In body (component_initialisers app c) → InitialiserAt app c body
  unfolding component_initialisers
  initialiser_only c body at = on_component (slice_get app.components c) refl at
    where
      on_component : (o : Option Component) → slice_get app.components c ≡ o → In body (elim o [ None ↦ [] | Some component ↦ initialisers_from app component.class ]) → InitialiserAt app c body
      on_component None is at = absurd at
      on_component (Some component) is at = record { component = component; there = record { there = is }; is_one = at }

pub events_exact : (app : App) (lists : Lists) → SoundApp app → EventsAreExact app lists
events_exact app lists sound = record {
  below = below_exact app lists sound;
  class_below = class_below_exact app lists sound;
  life = λ c e class life body. (life_so app lists sound c e class life body, life_only app lists sound c e class life body);
  callback = λ c q sources body. (callback_so app lists sound c q sources body, callback_only app lists sound c q sources body);
  clicked = λ c i body. (click_so app lists sound c i body, click_only app lists sound c i body);
  handed = λ q class sources body. (handed_so app lists sound q class sources body, handed_only app lists sound q class sources body);
  initialiser = λ c body. (initialiser_so app lists sound c body, initialiser_only app lists sound c body);
}
