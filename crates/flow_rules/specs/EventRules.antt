-- Rules 40 to 47: events.
use Rattle.std.specs.Prelude.{◌≡◌, ◌≢◌, ℕ, IsTrue, List, [], ◌∷◌, Option, Some, slice_get}
use Rattle.access_path.specs.declared.path.Path.{Path}
use Rattle.access_path.specs.Paths.{cut, empty_path}
use Rattle.app_machine.specs.declared.method.Method.{Method}
use Rattle.app_machine.specs.declared.component.Component.{Component as ComponentOf}
use Rattle.app_machine.specs.declared.lists.Lists.{Lists}
use Rattle.app_machine.specs.declared.app.App.{App}
use Rattle.vet_base.specs.Members.{In, IsAt}
use Rattle.app_machine.specs.Names.{Name, is_reference}
use Rattle.app_machine.specs.Lookups.{elem_key, HasCode, IsNative}
use Rattle.app_machine.specs.Summaries.{Below}
use Rattle.app_machine.specs.LifeEvents.{LifeEvent}
use Rattle.app_machine.specs.Events.{IsApplication, LifeEventAt, CallbackAt, ClickAt, HandedAt, InitialiserAt, parameter_type}
use Rattle.app_machine.specs.Safe.{native}
use Rattle.fact_rows.specs.declared.context.Ctx.{Ctx}
use Rattle.fact_rows.specs.declared.context.Ctx.TheVariants as ctx
use Rattle.fact_rows.specs.declared.context.Activation.{Activation}
use Rattle.fact_rows.specs.declared.site.Site.{Site}
use Rattle.fact_rows.specs.declared.site.Site.TheVariants.{Param, Component}
use Rattle.fact_rows.specs.declared.row.Row.{Row}
use Rattle.fact_rows.specs.declared.row.Row.TheVariants.{Reached, Points, Taint, ExitPoints, ExitTaint, Live, CompTaint, Handed, HandedTaint, Unknown}
use Rattle.fact_rows.specs.Contexts.{IsEvent}
use Rattle.flow_rules.specs.Nodes.{activation_in, entry, ArgumentRegister, EventRegister}
use Rattle.flow_rules.specs.Sites.{SiteClass}
use Rattle.flow_rules.specs.LocalRules.{returning}

-- position i of the body is a parameter of this reference type
pub record ReferenceParameter (app : App) (body i : ℕ) (type : Name) : Type 0 where
  pub method : Method
  pub there : slice_get app.methods body ≡ Some method
  pub is_type : parameter_type method.at.proto.params i ≡ Some type
  pub reference : IsTrue (is_reference type)

-- The body begins in the context: its entry is reached, each reference parameter may be an object of its own site, and the
-- listed sources are labelled; a reference also holds the label as an element. Of a native body nothing is known.
module _ (app : App) (c : Ctx) (body : ℕ) (sources : List (ℕ × ℕ)) where
  pub data Begins : Row → Type 0 where
    begin_reached : {m : Method} →
        HasCode app body m →
        Begins (Reached (entry (activation_in c body)))
    begin_points : {i z : ℕ} {type : Name} →
        EventRegister app body i z →
        ReferenceParameter app body i type →
        Begins (Points (entry (activation_in c body)) z (Param c i))
    begin_taint : {i z l : ℕ} →
        EventRegister app body i z →
        In (i, l) sources →
        Begins (Taint (entry (activation_in c body)) z empty_path l)
    begin_element : {i z l : ℕ} {type : Name} →
        EventRegister app body i z →
        ReferenceParameter app body i type →
        In (i, l) sources →
        Begins (Taint (entry (activation_in c body)) z (cut elem_key empty_path) l)
    begin_receiver_element : {z l : ℕ} →
        EventRegister app body 0 z →
        In (0, l) sources →
        Begins (Taint (entry (activation_in c body)) z (cut elem_key empty_path) l)
    begin_native :
        IsNative app body →
        Begins (Unknown (entry (activation_in c body)) native)

-- An event that comes to a component only while it is there: a callback or a click.
module _ (app : App) (lists : Lists) (c : ℕ) where
  pub data ComesToLive : Ctx → ℕ → List (ℕ × ℕ) → Type 0 where
    by_callback : {q body : ℕ} {sources : List (ℕ × ℕ)} →
        CallbackAt app lists c q sources body →
        ComesToLive (ctx.Callback c q) body sources
    by_click : {i body : ℕ} →
        ClickAt app c i body →
        ComesToLive (ctx.Click c i) body []

module _ (app : App) (lists : Lists) where
  pub data EventRule : ℕ → List Row → Row → Type 0 where
    -- 40. An event in a component's life leads to the state after, and begins its body with the component as receiver.
    life_live : {c e : ℕ} {class : Name} {life : LifeEvent} {body : Option ℕ} →
        LifeEventAt app c e class life body →
        EventRule 40 (Live c life.from ∷ []) (Live c life.to)
    life_begins : {c e body : ℕ} {class : Name} {life : LifeEvent} {row : Row} →
        LifeEventAt app c e class life (Some body) →
        Begins app (ctx.Row c e) body [] row →
        EventRule 40 (Live c life.from ∷ []) row
    life_receiver : {c e body z : ℕ} {class : Name} {life : LifeEvent} →
        LifeEventAt app c e class life (Some body) →
        ArgumentRegister app body 0 z →
        EventRule 40 (Live c life.from ∷ []) (Points (entry (activation_in (ctx.Row c e) body)) z (Component c))
    -- 41. It keeps what the component leads to, from a state in which it is there: to the state after where it is there still, and
    -- to the receiver.
    life_taint : {c e l : ℕ} {class : Name} {life : LifeEvent} {body : Option ℕ} {p : Path} →
        LifeEventAt app c e class life body →
        life.from ≢ 0 →
        life.to ≢ 0 →
        EventRule 41 (CompTaint c life.from p l ∷ []) (CompTaint c life.to p l)
    life_receiver_taint : {c e body z l : ℕ} {class : Name} {life : LifeEvent} {p : Path} →
        LifeEventAt app c e class life (Some body) →
        life.from ≢ 0 →
        ArgumentRegister app body 0 z →
        EventRule 41 (CompTaint c life.from p l ∷ []) (Taint (entry (activation_in (ctx.Row c e) body)) z p l)
    -- 42. Callbacks and clicks come to a component in each state in which it is there.
    live_begins : {c state body : ℕ} {sources : List (ℕ × ℕ)} {k : Ctx} {row : Row} →
        ComesToLive app lists c k body sources →
        state ≢ 0 →
        Begins app k body sources row →
        EventRule 42 (Live c state ∷ []) row
    live_receiver : {c state body z : ℕ} {sources : List (ℕ × ℕ)} {k : Ctx} →
        ComesToLive app lists c k body sources →
        state ≢ 0 →
        ArgumentRegister app body 0 z →
        EventRule 42 (Live c state ∷ []) (Points (entry (activation_in k body)) z (Component c))
    live_receiver_taint : {c state body z l : ℕ} {sources : List (ℕ × ℕ)} {k : Ctx} {p : Path} →
        ComesToLive app lists c k body sources →
        state ≢ 0 →
        ArgumentRegister app body 0 z →
        EventRule 42 (CompTaint c state p l ∷ []) (Taint (entry (activation_in k body)) z p l)
    -- 43. Callbacks come to handed objects.
    handed_begins : {q body : ℕ} {class : Name} {sources : List (ℕ × ℕ)} {s : Site} {row : Row} →
        SiteClass app lists s class →
        HandedAt app lists q class sources body →
        Begins app (ctx.Handed q) body sources row →
        EventRule 43 (Handed s ∷ []) row
    handed_receiver : {q body z : ℕ} {class : Name} {sources : List (ℕ × ℕ)} {s : Site} →
        SiteClass app lists s class →
        HandedAt app lists q class sources body →
        ArgumentRegister app body 0 z →
        EventRule 43 (Handed s ∷ []) (Points (entry (activation_in (ctx.Handed q) body)) z s)
    handed_receiver_taint : {q body z l : ℕ} {class : Name} {sources : List (ℕ × ℕ)} {s : Site} {p : Path} →
        SiteClass app lists s class →
        HandedAt app lists q class sources body →
        ArgumentRegister app body 0 z →
        EventRule 43 (HandedTaint s p l ∷ []) (Taint (entry (activation_in (ctx.Handed q) body)) z p l)
    -- 44. The class of a component that is not there may be initialised.
    initialiser_begins : {c body : ℕ} {row : Row} →
        InitialiserAt app c body →
        Begins app (ctx.Init c) body [] row →
        EventRule 44 (Live c 0 ∷ []) row
    -- 45. Handed objects come back as parameters.
    handed_parameter : {b : Activation} {i z : ℕ} {type class : Name} {s : Site} →
        IsEvent b.ctx →
        EventRegister app b.method i z →
        ReferenceParameter app b.method i type →
        SiteClass app lists s class →
        Below app lists class type →
        EventRule 45 (Reached (entry b) ∷ Handed s ∷ []) (Points (entry b) z s)
    handed_parameter_taint : {b : Activation} {i z l : ℕ} {type class : Name} {s : Site} {p : Path} →
        IsEvent b.ctx →
        EventRegister app b.method i z →
        ReferenceParameter app b.method i type →
        SiteClass app lists s class →
        Below app lists class type →
        EventRule 45 (Reached (entry b) ∷ Handed s ∷ HandedTaint s p l ∷ []) (Taint (entry b) z p l)
    -- 46. What an event returns is handed to the library.
    exit_handed : {b : Activation} {s : Site} →
        IsEvent b.ctx →
        EventRule 46 (ExitPoints b returning s ∷ []) (Handed s)
    exit_handed_taint : {b : Activation} {l : ℕ} {s : Site} {p : Path} →
        IsEvent b.ctx →
        EventRule 46 (ExitPoints b returning s ∷ ExitTaint b returning p l ∷ []) (HandedTaint s p l)
    -- 47. Once the application was created every other component may come to life.
    application_live : {a c : ℕ} {component : ComponentOf} →
        IsApplication app a →
        IsAt app.components c component →
        c ≢ a →
        EventRule 47 (Live a 2 ∷ []) (Live c 0)
