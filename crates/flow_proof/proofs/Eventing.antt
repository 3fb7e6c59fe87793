-- Each event that comes leads to a known world, in which its body is known to begin.
use Rattle.std.proofs.Common.{◌≡◌, ◌≢◌, ◌==◌, ℕ, zero, suc, List, [], ◌∷◌, ◌++◌, length, Bool, true, false, cond, ◌⊎◌, inl, inr, Option, Some, None, refl, ap, sym, ◌∙◌, subst, arith, eq-eqb}
use Rattle.std.proofs.lemmas.Bool.{eqb-true}
use Rattle.std.specs.Prelude.{IsFalse, slice_get}
use Rattle.access_path.specs.Laws.{PathLaws}
use Rattle.access_path.specs.declared.path.Path.{Path}
use Rattle.app_machine.specs.declared.method.Method.{Method}
use Rattle.app_machine.specs.declared.component.Kind.{Kind}
use Rattle.app_machine.specs.declared.component.Kind.TheVariants.{Application, Activity, Service, Receiver}
use Rattle.app_machine.specs.declared.component.Component.{Component as ComponentOf}
use Rattle.app_machine.specs.declared.lists.Lists.{Lists}
use Rattle.app_machine.specs.declared.app.App.{App}
use Rattle.vet_base.specs.Members.{In, IsAt}
use Rattle.app_machine.specs.Names.{Name}
use Rattle.app_machine.specs.Heap.{ClassAt}
use Rattle.app_machine.specs.State.{World, ComponentState, object_at, new_object}
use Rattle.app_machine.specs.LifeEvents.{LifeEvent}
use Rattle.app_machine.specs.Events.{IsApplication, MayBegin, set_component, after_event, LifeEventAt, HandedAt, Comes, lives, is_born, calls_back, is_clicked, is_handed, MayInitialise}
use Rattle.fact_rows.specs.declared.context.Ctx.{Ctx}
use Rattle.fact_rows.specs.declared.context.Ctx.TheVariants as ctx
use Rattle.fact_rows.specs.declared.site.Site.{Site}
use Rattle.fact_rows.specs.declared.site.Site.TheVariants.{Component}
use Rattle.fact_rows.specs.declared.row.Row.{Row}
use Rattle.fact_rows.specs.declared.row.Row.TheVariants.{Points, Taint, MethodEffect, Live, CompTaint}
use Rattle.fact_rows.specs.Contexts.{IsEvent, event_types}
use Rattle.flow_rules.specs.Nodes.{activation_in, entry, ArgumentRegister}
use Rattle.flow_rules.specs.Sites.{site_class, SiteClass}
use Rattle.flow_rules.specs.EffectRules.{IsEventBeside, effect_own, effect_other}
use Rattle.flow_rules.specs.EventRules.{Begins, ComesToLive, by_callback, by_click, life_live, life_begins, life_receiver, life_taint, life_receiver_taint, live_begins, live_receiver, live_receiver_taint, handed_begins, handed_receiver, handed_receiver_taint, initialiser_begins, application_live}
use Rattle.flow_rules.specs.Rules.{Starts, the_application, a_component, Closed}
use Rattle.flow_proof.proofs.Fitting.{Fits, fits_map, blank_fits}
use Rattle.flow_proof.proofs.Growing.{NewFits, new_fits}
use Rattle.flow_proof.proofs.EventTypes.{life_types, callback_types_of, click_types, handed_types}
use Rattle.flow_proof.proofs.Knowing.{ComponentFits, HandedFits, Owns, WorldFits}
use Rattle.flow_proof.proofs.Lasting.{eff, evt, world_grown}

-- a test that fails
test_fails : (a b : ℕ) → IsFalse (a == b) → a ≢ b
test_fails a b fails same = let passes : (a == b) ≡ true = eq-eqb a b same in cc

-- a change of one component, by that one and the others
pub changed_component : (P : ℕ → ComponentState → Type 0) (components : ℕ → ComponentState) (c : ℕ) (s : ComponentState) → P c s →
    ((d : ℕ) → d ≢ c → P d (components d)) → (d : ℕ) → P d (set_component components c s d)
changed_component P components c s new old d = go (d == c) refl
  where
    go : (b : Bool) → (d == c) ≡ b → P d (cond b s (components d))
    go true e = subst (λ x. P x s) (sym (eqb-true d c e)) new
    go false e = old d (test_fails d c e)

-- an application among these components
record ApplicationAmong (components : List ComponentOf) : Type 0 where
  index : ℕ
  component : ComponentOf
  there : slice_get components index ≡ Some component
  kind : component.kind ≡ Application

is_application_kind : (k : Kind) → (k ≡ Application) ⊎ (k ≡ Application → ⊥)
is_application_kind Application = inl refl
is_application_kind Activity = inr (λ e. cc)
is_application_kind Service = inr (λ e. cc)
is_application_kind Receiver = inr (λ e. cc)

find_application : (components : List ComponentOf) →
    ApplicationAmong components ⊎ ((a : ℕ) (component : ComponentOf) → slice_get components a ≡ Some component → component.kind ≡ Application → ⊥)
find_application [] = inr (λ a component e k. absurd (let none : ⊥ = cc in none))
find_application (x ∷ xs) =
    elim (is_application_kind x.kind) [
      | inl is ↦ inl (record { index = 0; component = x; there = refl; kind = is })
      | inr other ↦ elim (find_application xs) [
        | inl later ↦ inl (record { index = suc later.index; component = later.component; there = later.there; kind = later.kind })
        | inr none ↦ inr (nowhere other none)
      ]
    ]
  where
    nowhere : (x.kind ≡ Application → ⊥) →
        ((a : ℕ) (component : ComponentOf) → slice_get xs a ≡ Some component → component.kind ≡ Application → ⊥) →
        (a : ℕ) (component : ComponentOf) → slice_get (x ∷ xs) a ≡ Some component → component.kind ≡ Application → ⊥
    nowhere other none zero component e k = let same : x ≡ component = cc in other (ap (λ (y : ComponentOf). y.kind) same ∙ k)
    nowhere other none (suc a) component e k = none a component e k

-- What is known of a body that begins in the context, with its receiver at the place.
pub record Begun (app : App) (lists : Lists) (has : Row → Type 0) (new : World) (site : ℕ → Site) (place : Option ℕ) (sources : List (ℕ × ℕ)) (k : Ctx) (body : ℕ) : Type 0 where
  pub is_event : IsEvent k
  pub owns : Owns has (activation_in k body) new.components
  pub rows : (row : Row) → Begins app k body sources row → has row
  pub receiver : Fits new.heap site (object_at place) (λ s. (z : ℕ) → ArgumentRegister app body 0 z → has (Points (entry (activation_in k body)) z s)) (λ q l. (z : ℕ) → ArgumentRegister app body 0 z → has (Taint (entry (activation_in k body)) z q l))
  pub types : (m : Method) → slice_get app.methods body ≡ Some m → event_types app lists k ≡ m.at.proto.params

pub record InContext (app : App) (lists : Lists) (has : Row → Type 0) (new : World) (site : ℕ → Site) (place : Option ℕ) (sources : List (ℕ × ℕ)) (body : ℕ) : Type 0 where
  pub context : Ctx
  pub begun : Begun app lists has new site place sources context body

-- What is known once an event came.
pub record Came (app : App) (lists : Lists) (has : Row → Type 0) (new : World) (body place : Option ℕ) (sources : List (ℕ × ℕ)) : Type 0 where
  pub sites : ℕ → Site
  pub world : WorldFits app lists has new sites
  pub begins : (b : ℕ) → body ≡ Some b → InContext app lists has new sites place sources b

-- the site of a component has its class
pub component_site : {app : App} {lists : Lists} {c : ℕ} {component : ComponentOf} → IsAt app.components c component →
    SiteClass app lists (Component c) component.class
unfolding site_class
component_site at = record { is_class = rw at.there refl }

-- A component that may come to life has its row, where the starts are there and once the application was created the others are.
pub may_live_by : {app : App} {has : Row → Type 0} (w : World) {c : ℕ} {component : ComponentOf} → ((row : Row) → Starts app row → has row) →
    ((a d : ℕ) (component : ComponentOf) → IsApplication app a → IsAt app.components d component → d ≢ a → has (Live a 2) → has (Live d 0)) →
    ((d : ℕ) → (w.components d).state ≢ 0 → has (Live d (w.components d).state)) → MayBegin app w c → IsAt app.components c component →
    has (Live c 0)
may_live_by {app} {has} w {c} {component} starts others alive may at =
    elim (find_application app.components) [ inl found ↦ with_one found (c == found.index) refl | inr none ↦ starts _ (a_component (λ a is. none a is.component is.there.there is.kind) at) ]
  where
    application : (found : ApplicationAmong app.components) → IsApplication app found.index
    application found = record { component = found.component; there = record { there = found.there }; kind = found.kind }

    is_it : (found : ApplicationAmong app.components) → found.index ≡ c → has (Live c 0)
    is_it found same = subst (λ a. has (Live a 0)) same (starts _ (the_application (application found)))

    with_one : (found : ApplicationAmong app.components) → (b : Bool) → (c == found.index) ≡ b → has (Live c 0)
    with_one found true e = is_it found (sym (eqb-true c found.index e))
    with_one found false e = elim (may found.index (application found)) [
      | inl same ↦ is_it found same
      | inr created ↦
          let there : (w.components found.index).state ≢ 0 = λ absent. two_not_zero (sym created ∙ absent) in
          let live : has (Live found.index 2) = subst (λ s. has (Live found.index s)) created (alive found.index there) in
          others found.index c component (application found) at (test_fails c found.index e) live
    ]
      where
        two_not_zero : ◌≡◌ {A = ℕ} 2 0 → ⊥
        two_not_zero e = omega arith

module _ (app : App) (lists : Lists) (has : Row → Type 0) (closed : Closed app lists has) (laws : PathLaws) (starts : (row : Row) → Starts app row → has row) where
  may_live : {w : World} {site : ℕ → Site} {c : ℕ} {component : ComponentOf} → WorldFits app lists has w site → MayBegin app w c →
      IsAt app.components c component → has (Live c 0)
  may_live {w} fits may at =
      may_live_by w starts (λ a d component is_it at other live. evt app lists has closed laws (application_live is_it at other) (live, tt)) fits.live may at

  -- An event in a component's life: its object is the receiver, and is known at the state after.
  life_came : {w : World} {site : ℕ → Site} {c e : ℕ} {class : Name} {life : LifeEvent} {body : Option ℕ} (place : Option ℕ) →
      WorldFits app lists has w site → LifeEventAt app c e class life body → has (Live c life.from) →
      (life.to ≢ 0 → Fits w.heap site (object_at place) (λ x. x ≡ Component c) (λ q l. has (CompTaint c life.to q l))) →
      ((b : ℕ) → LifeEventAt app c e class life (Some b) → Fits w.heap site (object_at place) (λ s. (z : ℕ) → ArgumentRegister app b 0 z → has (Points (entry (activation_in (ctx.Row c e) b)) z s)) (λ q l. (z : ℕ) → ArgumentRegister app b 0 z → has (Taint (entry (activation_in (ctx.Row c e) b)) z q l))) →
      Came app lists has (record w { components = set_component w.components c (after_event life place) }) body place []
  life_came {w} {site} {c} {e} {class} {life} {body} place fits at live object receiver = record {
    sites = site;
    world = record {
      heap = fits.heap;
      statics = fits.statics;
      arrivals = fits.arrivals;
      live =
          changed_component (λ d s. s.state ≢ 0 → has (Live d s.state)) w.components c (after_event life place) (λ _. live_after) (λ d _. fits.live d);
      absent =
          changed_component (λ d s. s.state ≡ 0 → s.place ≡ None) w.components c (after_event life place) (λ none. rw (eq-eqb life.to 0 none) refl) (λ d _. fits.absent d);
      components =
          changed_component (λ d s. ComponentFits has w.heap site d s) w.components c (after_event life place) (after_fits (life.to == 0) refl) (λ d _. fits.components d);
      handed = fits.handed;
    };
    begins = begins;
  }
    where
      live_after : has (Live c life.to)
      live_after = evt app lists has closed laws (life_live at) (live, tt)

      after_fits : (b : Bool) → (life.to == 0) ≡ b → ComponentFits has w.heap site c (record { state = life.to; place = cond b None place })
      after_fits true e = blank_fits _ _ _ _
      after_fits false e = object (test_fails life.to 0 e)

      owns : (b : ℕ) → Owns has (activation_in (ctx.Row c e) b) (set_component w.components c (after_event life place))
      owns b =
          changed_component (λ d s. s.state ≢ 0 → (q : Path) (l : ℕ) → has (MethodEffect (activation_in (ctx.Row c e) b) (Component d) q l) → has (CompTaint d s.state q l)) w.components c (after_event life place)
          (λ alive q l h. eff app lists has closed laws (effect_own at alive) (h, tt))
          (λ d other alive q l h. eff app lists has closed laws (effect_other (λ same. other (sym same)) alive) (h, (fits.live d alive, tt)))

      begins : (b : ℕ) → body ≡ Some b →
          InContext app lists has (record w { components = set_component w.components c (after_event life place) }) site place [] b
      begins b is_body =
          let at_body : LifeEventAt app c e class life (Some b) = subst (λ o. LifeEventAt app c e class life o) is_body at in
          record {
            context = ctx.Row c e;
            begun = record {
              is_event = tt;
              owns = owns b;
              rows = λ row way. evt app lists has closed laws (life_begins at_body way) (live, tt);
              receiver = receiver b at_body;
              types = life_types lists at_body;
            };
          }

  came_alive : {w : World} {site : ℕ → Site} {c e : ℕ} {class : Name} {life : LifeEvent} {body : Option ℕ} → WorldFits app lists has w site →
      LifeEventAt app c e class life body → (w.components c).state ≡ life.from → life.from ≢ 0 →
      Came app lists has (record w { components = set_component w.components c (after_event life (w.components c).place) }) body (w.components c).place []
  came_alive {w} {site} {c} {e} {class} {life} fits at in_state alive = life_came (w.components c).place fits at live
      (λ still. fits_map (λ _ h. h) (λ q l h. evt app lists has closed laws (life_taint at alive still) (h, tt)) object)
      (λ b at_body. fits_map (λ s same z takes. rw same (evt app lists has closed laws (life_receiver at_body takes) (live, tt))) (λ q l h z takes. evt app lists has closed laws (life_receiver_taint at_body alive takes) (h, tt)) object)
    where
      live : has (Live c life.from)
      live = subst (λ s. has (Live c s)) in_state (fits.live c (λ absent. alive (sym in_state ∙ absent)))

      object : Fits w.heap site (object_at (w.components c).place) (λ x. x ≡ Component c) (λ q l. has (CompTaint c life.from q l))
      object =
          subst (λ s. Fits w.heap site (object_at (w.components c).place) (λ x. x ≡ Component c) (λ q l. has (CompTaint c s q l))) in_state (fits.components c)

  came_born : {w : World} {site : ℕ → Site} {c e : ℕ} {class : Name} {life : LifeEvent} {body : Option ℕ} → WorldFits app lists has w site →
      LifeEventAt app c e class life body → (w.components c).state ≡ 0 → life.from ≡ 0 → MayBegin app w c →
      Came app lists has (record w { heap = w.heap ++ new_object class ∷ []; components = set_component w.components c (after_event life (Some (length w.heap))) }) body (Some (length w.heap)) []
  came_born {w} {site} {c} {e} {class} {life} fits at in_state absent may =
      life_came (Some (length w.heap)) (world_grown app lists has closed laws fits no_entries) at live
      (λ _. new_fits w.heap site (Component c) (new_object class) [] (λ x. x ≡ Component c) _ refl (λ l h. absurd h) (λ k v h. absurd h))
      (λ b at_body. new_fits w.heap site (Component c) (new_object class) [] _ _ (λ z takes. evt app lists has closed laws (life_receiver at_body takes) (live, tt)) (λ l h. absurd h) (λ k v h. absurd h))
    where
      no_entries : NewFits app lists has w.heap site (Component c) (new_object class)
      no_entries =
          record { within = λ _ _ _ h _. absurd h; cell = λ _ _ _ h _. absurd h; class = subst (λ x. SiteClass app lists (Component c) x) at.of_class (component_site at.there) }

      live : has (Live c life.from)
      live = subst (λ s. has (Live c s)) (sym absent) (may_live fits may at.there)

  -- a callback or a click to a component that is there
  came_to_live : {w : World} {site : ℕ → Site} {c body : ℕ} {sources : List (ℕ × ℕ)} {k : Ctx} → WorldFits app lists has w site →
      ComesToLive app lists c k body sources → IsEvent k → ((d : ℕ) → IsEventBeside k d) →
      ((m : Method) → slice_get app.methods body ≡ Some m → event_types app lists k ≡ m.at.proto.params) → (w.components c).state ≢ 0 →
      Came app lists has w (Some body) (w.components c).place sources
  came_to_live {w} {site} {c} {body} {sources} {k} fits to is_event beside types alive = record { sites = site; world = fits; begins = begins }
    where
      live : has (Live c (w.components c).state)
      live = fits.live c alive

      begun : Begun app lists has w site (w.components c).place sources k body
      begun = record {
        is_event = is_event;
        owns = λ d there q l h. eff app lists has closed laws (effect_other (beside d) there) (h, (fits.live d there, tt));
        rows = λ row way. evt app lists has closed laws (live_begins to alive way) (live, tt);
        receiver =
            fits_map (λ s same z takes. rw same (evt app lists has closed laws (live_receiver to alive takes) (live, tt))) (λ q l h z takes. evt app lists has closed laws (live_receiver_taint to alive takes) (h, tt)) (fits.components c);
        types = types;
      }

      begins : (b : ℕ) → ◌≡◌ {A = Option ℕ} (Some body) (Some b) → InContext app lists has w site (w.components c).place sources b
      begins b e = let same : body ≡ b = cc in subst (λ x. InContext app lists has w site (w.components c).place sources x) same (record { context = k; begun = begun })

  came_handed : {w : World} {site : ℕ → Site} {p q body : ℕ} {class : Name} {sources : List (ℕ × ℕ)} → WorldFits app lists has w site →
      In p w.handed → ClassAt w.heap p class → HandedAt app lists q class sources body → Came app lists has w (Some body) (Some p) sources
  came_handed {w} {site} {p} {q} {body} {class} {sources} fits is_one of_class at = record { sites = site; world = fits; begins = begins }
    where
      h : HandedFits has w.heap site p
      h = fits.handed p is_one

      of_site : SiteClass app lists h.of class
      of_site = subst (λ s. SiteClass app lists s class) (h.fits.pointed p refl) (fits.heap.class p class of_class)

      begun : Begun app lists has w site (Some p) sources (ctx.Handed q) body
      begun = record {
        is_event = tt;
        owns = λ d there y l e. eff app lists has closed laws (effect_other tt there) (e, (fits.live d there, tt));
        rows = λ row way. evt app lists has closed laws (handed_begins of_site at way) (h.row, tt);
        receiver =
            fits_map (λ s same z takes. rw same (evt app lists has closed laws (handed_receiver of_site at takes) (h.row, tt))) (λ y l t z takes. evt app lists has closed laws (handed_receiver_taint of_site at takes) (t, tt)) h.fits;
        types = handed_types lists at;
      }

      begins : (b : ℕ) → ◌≡◌ {A = Option ℕ} (Some body) (Some b) → InContext app lists has w site (Some p) sources b
      begins b e = let same : body ≡ b = cc in subst (λ x. InContext app lists has w site (Some p) sources x) same (record { context = ctx.Handed q; begun = begun })

  pub came : {w new : World} {site : ℕ → Site} {body place : Option ℕ} {sources : List (ℕ × ℕ)} → WorldFits app lists has w site →
      Comes app lists w body place sources new → Came app lists has new body place sources
  came fits (lives at in_state alive) = came_alive fits at in_state alive
  came fits (is_born at in_state absent may) = came_born fits at in_state absent may
  came fits (calls_back at alive) = came_to_live fits (by_callback at) tt (λ _. tt) (callback_types_of lists at) alive
  came fits (is_clicked at alive) = came_to_live fits (by_click at) tt (λ _. tt) (click_types lists at) alive
  came fits (is_handed is_one of_class at) = came_handed fits is_one of_class at

  -- the rows with which an initialiser begins
  pub initialiser_rows : {w : World} {site : ℕ → Site} {body : ℕ} → WorldFits app lists has w site → (may : MayInitialise app w body) →
      (row : Row) → Begins app (ctx.Init may.c) body [] row → has row
  initialiser_rows fits may row way = evt app lists has closed laws (initialiser_begins may.at way) (may_live fits may.begins may.at.there, tt)

  pub initialiser_owns : {w : World} {site : ℕ → Site} {body : ℕ} → WorldFits app lists has w site → (c : ℕ) →
      Owns has (activation_in (ctx.Init c) body) w.components
  initialiser_owns fits c d there q l h = eff app lists has closed laws (effect_other tt there) (h, (fits.live d there, tt))
