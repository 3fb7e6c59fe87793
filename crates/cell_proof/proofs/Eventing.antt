-- Each event that comes leads to a known world, in which its body is known to begin.
use Rattle.std.proofs.Common.{◌≡◌, ◌≢◌, ◌==◌, ℕ, List, [], ◌∷◌, ◌++◌, length, Bool, true, false, cond, Option, Some, None, refl, sym, ◌∙◌, subst}
use Rattle.std.proofs.lemmas.Option.{same_Some}
use Rattle.std.specs.Prelude.{slice_get}
use Rattle.app_machine.specs.declared.method.Method.{Method}
use Rattle.app_machine.specs.declared.component.Component.{Component as ComponentOf}
use Rattle.app_machine.specs.declared.lists.Lists.{Lists}
use Rattle.app_machine.specs.declared.app.App.{App}
use Rattle.vet_base.specs.Members.{In, IsAt}
use Rattle.app_machine.specs.Names.{Name}
use Rattle.app_machine.specs.Heap.{ClassAt}
use Rattle.app_machine.specs.State.{World, object_at, new_object}
use Rattle.app_machine.specs.LifeEvents.{LifeEvent}
use Rattle.app_machine.specs.Events.{MayBegin, set_component, after_event, LifeEventAt, HandedAt, Comes, lives, is_born, calls_back, is_clicked, is_handed, MayInitialise}
use Rattle.fact_rows.specs.declared.context.Ctx.{Ctx}
use Rattle.fact_rows.specs.declared.context.Ctx.TheVariants as ctx
use Rattle.fact_rows.specs.declared.site.Site.{Site}
use Rattle.fact_rows.specs.declared.site.Site.TheVariants.{Component}
use Rattle.fact_rows.specs.Contexts.{IsEvent, event_types}
use Rattle.flow_rules.specs.Nodes.{activation_in, ArgumentRegister}
use Rattle.flow_rules.specs.Sites.{SiteClass}
use Rattle.flow_rules.specs.EventRules.{Begins, ComesToLive, by_callback, by_click, life_live, application_live}
use Rattle.flow_rules.specs.EventRules as first
use Rattle.fact_rows.specs.declared.row.Row.{Row}
use Rattle.fact_rows.specs.declared.row.Row.TheVariants.{Points, Live, Handed}
use Rattle.cell_rules.specs.Reading.{ReadAt, node_in}
use Rattle.cell_rules.specs.KeptRules.{IsKept}
use Rattle.cell_rules.specs.EventRules.{BeginsWith, life_begins, life_receiver, live_begins, live_receiver, handed_begins, handed_receiver}
use Rattle.flow_rules.specs.Rules.{Starts}
use Rattle.cell_rules.specs.Rules.{Closed}
use Rattle.flow_proof.proofs.EventTypes.{life_types, callback_types_of, click_types, handed_types}
use Rattle.flow_proof.proofs.Eventing.{may_live_by, changed_component, component_site}
use Rattle.cell_proof.proofs.Fitting.{Fits, NewFits, new_fits, fits_map, blank_fits}
use Rattle.cell_proof.proofs.Knowing.{ComponentFits, WorldFits}
use Rattle.cell_proof.proofs.Lasting.{kept_event, evt, world_grown}

-- the rows at the entry know the receiver, which has no labels of its own
abbrev pub ReceiverFits : App → (Row → Type 0) → ℕ → (ℕ → Site) → Ctx → ℕ → Option ℕ → Type 0
ReceiverFits app has size site k body place =
    Fits size site (object_at place) (λ s. (z u : ℕ) → ArgumentRegister app body 0 z → ReadAt app body z 0 u → has (Points (node_in (activation_in k body) u) z s)) (λ l. ⊥)

-- What is known of a body that begins in the context, with its receiver at the place.
pub record Begun (app : App) (lists : Lists) (has : Row → Type 0) (new : World) (site : ℕ → Site) (place : Option ℕ) (sources : List (ℕ × ℕ)) (k : Ctx) (body : ℕ) : Type 0 where
  pub is_event : IsEvent k
  pub kept_rows : (row : Row) → Begins app k body sources row → IsKept row → has row
  pub rows : (row : Row) → BeginsWith app k body sources row → has row
  pub receiver : ReceiverFits app has (length new.heap) site k body place
  pub types : (m : Method) → slice_get app.methods body ≡ Some m → event_types app lists k ≡ m.at.proto.params

pub record InContext (app : App) (lists : Lists) (has : Row → Type 0) (new : World) (site : ℕ → Site) (place : Option ℕ) (sources : List (ℕ × ℕ)) (body : ℕ) : Type 0 where
  pub context : Ctx
  pub begun : Begun app lists has new site place sources context body

-- What is known once an event came.
pub record Came (app : App) (lists : Lists) (has : Row → Type 0) (new : World) (body place : Option ℕ) (sources : List (ℕ × ℕ)) : Type 0 where
  pub sites : ℕ → Site
  pub world : WorldFits app lists has new sites
  pub begins : (b : ℕ) → body ≡ Some b → InContext app lists has new sites place sources b

module _ (app : App) (lists : Lists) (has : Row → Type 0) (closed : Closed app lists has) (starts : (row : Row) → Starts app row → has row) where
  -- a component that may come to life has its row
  may_live : {w : World} {site : ℕ → Site} {c : ℕ} {component : ComponentOf} → WorldFits app lists has w site → MayBegin app w c →
      IsAt app.components c component → has (Live c 0)
  may_live {w} fits may at =
      may_live_by w starts (λ a d component is_it at other live. kept_event app lists has closed (application_live is_it at other) tt refl (live, tt)) fits.live may at

  -- An event in a component's life: its object is the receiver, and is known at the state after.
  life_came : {w : World} {site : ℕ → Site} {c e : ℕ} {class : Name} {life : LifeEvent} {body : Option ℕ} (place : Option ℕ) →
      WorldFits app lists has w site → LifeEventAt app c e class life body → has (Live c life.from) →
      Fits (length w.heap) site (object_at place) (λ x. x ≡ Component c) (λ l. ⊥) →
      Came app lists has (record w { components = set_component w.components c (after_event life place) }) body place []
  life_came {w} {site} {c} {e} {class} {life} {body} place fits at live object = record {
    sites = site;
    world = record {
      heap = fits.heap;
      statics = fits.statics;
      arrivals = fits.arrivals;
      live = changed_component (λ d s. s.state ≢ 0 → has (Live d s.state)) w.components c (after_event life place) (λ _. kept_event app lists has closed (life_live at) tt refl (live, tt)) (λ d _. fits.live d);
      components = changed_component (λ d s. ComponentFits (length w.heap) site d s) w.components c (after_event life place) (after_fits (life.to == 0)) (λ d _. fits.components d);
      handed = fits.handed;
    };
    begins = begins;
  }
    where
      after_fits : (b : Bool) → ComponentFits (length w.heap) site c (record { state = life.to; place = cond b None place })
      after_fits true = blank_fits _ _ _ _
      after_fits false = object

      begins : (b : ℕ) → body ≡ Some b →
          InContext app lists has (record w { components = set_component w.components c (after_event life place) }) site place [] b
      begins b is_body =
          let at_body : LifeEventAt app c e class life (Some b) = subst (λ o. LifeEventAt app c e class life o) is_body at in
          record {
            context = ctx.Row c e;
            begun = record {
              is_event = tt;
              kept_rows = λ row way is. kept_event app lists has closed (first.life_begins at_body way) is refl (live, tt);
              rows = λ row way. evt app lists has closed (life_begins at_body way) (live, tt);
              receiver = fits_map (λ s same z u takes read. rw same (evt app lists has closed (life_receiver at_body takes read) (live, tt))) (λ l none. none) object;
              types = life_types lists at_body;
            };
          }

  came_alive : {w : World} {site : ℕ → Site} {c e : ℕ} {class : Name} {life : LifeEvent} {body : Option ℕ} → WorldFits app lists has w site →
      LifeEventAt app c e class life body → (w.components c).state ≡ life.from → life.from ≢ 0 →
      Came app lists has (record w { components = set_component w.components c (after_event life (w.components c).place) }) body (w.components c).place []
  came_alive {w} {site} {c} {e} {class} {life} fits at in_state alive = life_came (w.components c).place fits at live (fits.components c)
    where
      live : has (Live c life.from)
      live = subst (λ s. has (Live c s)) in_state (fits.live c (λ absent. alive (sym in_state ∙ absent)))

  came_born : {w : World} {site : ℕ → Site} {c e : ℕ} {class : Name} {life : LifeEvent} {body : Option ℕ} → WorldFits app lists has w site →
      LifeEventAt app c e class life body → (w.components c).state ≡ 0 → life.from ≡ 0 → MayBegin app w c →
      Came app lists has (record w { heap = w.heap ++ new_object class ∷ []; components = set_component w.components c (after_event life (Some (length w.heap))) }) body (Some (length w.heap)) []
  came_born {w} {site} {c} {e} {class} {life} fits at in_state absent may =
      life_came (Some (length w.heap)) (world_grown app lists has closed fits no_entries) at live
      (new_fits w.heap site (Component c) (new_object class) [] (λ x. x ≡ Component c) _ refl (λ l h. absurd h))
    where
      no_entries : NewFits app lists has (length w.heap) site (Component c) (new_object class)
      no_entries =
          record { entries = λ _ _ h. absurd h; class = subst (λ x. SiteClass app lists (Component c) x) at.of_class (component_site at.there) }

      live : has (Live c life.from)
      live = subst (λ s. has (Live c s)) (sym absent) (may_live fits may at.there)

  -- a callback or a click to a component that is there
  came_to_live : {w : World} {site : ℕ → Site} {c body : ℕ} {sources : List (ℕ × ℕ)} {k : Ctx} → WorldFits app lists has w site →
      ComesToLive app lists c k body sources → IsEvent k →
      ((m : Method) → slice_get app.methods body ≡ Some m → event_types app lists k ≡ m.at.proto.params) → (w.components c).state ≢ 0 →
      Came app lists has w (Some body) (w.components c).place sources
  came_to_live {w} {site} {c} {body} {sources} {k} fits to is_event types alive = record { sites = site; world = fits; begins = begins }
    where
      live : has (Live c (w.components c).state)
      live = fits.live c alive

      begun : Begun app lists has w site (w.components c).place sources k body
      begun = record {
        is_event = is_event;
        kept_rows = λ row way is. kept_event app lists has closed (first.live_begins to alive way) is refl (live, tt);
        rows = λ row way. evt app lists has closed (live_begins to alive way) (live, tt);
        receiver = fits_map (λ s same z u takes read. rw same (evt app lists has closed (live_receiver to alive takes read) (live, tt))) (λ l none. none) (fits.components c);
        types = types;
      }

      begins : (b : ℕ) → ◌≡◌ {A = Option ℕ} (Some body) (Some b) → InContext app lists has w site (w.components c).place sources b
      begins b e =
          let same : body ≡ b = cc in subst (λ x. InContext app lists has w site (w.components c).place sources x) same (record { context = k; begun = begun })

  came_handed : {w : World} {site : ℕ → Site} {p q body : ℕ} {class : Name} {sources : List (ℕ × ℕ)} → WorldFits app lists has w site →
      In p w.handed → ClassAt w.heap p class → HandedAt app lists q class sources body → Came app lists has w (Some body) (Some p) sources
  came_handed {w} {site} {p} {q} {body} {class} {sources} fits is_one of_class at = record { sites = site; world = fits; begins = begins }
    where
      of_site : SiteClass app lists (site p) class
      of_site = fits.heap.class p class of_class

      is_handed_row : has (Handed (site p))
      is_handed_row = (fits.handed p is_one).pointed p refl

      begun : Begun app lists has w site (Some p) sources (ctx.Handed q) body
      begun = record {
        is_event = tt;
        kept_rows = λ row way is. kept_event app lists has closed (first.handed_begins of_site at way) is refl (is_handed_row, tt);
        rows = λ row way. evt app lists has closed (handed_begins of_site at way) (is_handed_row, tt);
        receiver = record {
          within = (fits.handed p is_one).within;
          pointed = λ j e z u takes read. subst (λ x. has (Points (node_in (activation_in (ctx.Handed q) body) u) z (site x))) (same_Some _ _ e) (evt app lists has closed (handed_receiver of_site at takes read) (is_handed_row, tt));
          labels = λ l none. none;
        };
        types = handed_types lists at;
      }

      begins : (b : ℕ) → ◌≡◌ {A = Option ℕ} (Some body) (Some b) → InContext app lists has w site (Some p) sources b
      begins b e =
          let same : body ≡ b = cc in subst (λ x. InContext app lists has w site (Some p) sources x) same (record { context = ctx.Handed q; begun = begun })

  pub came : {w new : World} {site : ℕ → Site} {body place : Option ℕ} {sources : List (ℕ × ℕ)} → WorldFits app lists has w site →
      Comes app lists w body place sources new → Came app lists has new body place sources
  came fits (lives at in_state alive) = came_alive fits at in_state alive
  came fits (is_born at in_state absent may) = came_born fits at in_state absent may
  came fits (calls_back at alive) = came_to_live fits (by_callback at) tt (callback_types_of lists at) alive
  came fits (is_clicked at alive) = came_to_live fits (by_click at) tt (click_types lists at) alive
  came fits (is_handed is_one of_class at) = came_handed fits is_one of_class at

  -- the rows with which an initialiser begins
  pub initialiser_rows : {w : World} {site : ℕ → Site} {body : ℕ} → WorldFits app lists has w site → (may : MayInitialise app w body) → (row : Row) →
      Begins app (ctx.Init may.c) body [] row → IsKept row → has row
  initialiser_rows fits may row way is =
      kept_event app lists has closed (first.initialiser_begins may.at way) is refl (may_live fits may.begins may.at.there, tt)
