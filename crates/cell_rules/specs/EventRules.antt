-- Rules 40 to 45: events.
use Rattle.std.specs.Prelude.{◌≢◌, ℕ, List, [], ◌∷◌, Some}
use Rattle.app_machine.specs.declared.method.Method.{Method}
use Rattle.app_machine.specs.declared.lists.Lists.{Lists}
use Rattle.app_machine.specs.declared.app.App.{App}
use Rattle.vet_base.specs.Members.{In}
use Rattle.app_machine.specs.Names.{Name}
use Rattle.app_machine.specs.Lookups.{elem_key, HasCode}
use Rattle.app_machine.specs.Summaries.{Below}
use Rattle.app_machine.specs.LifeEvents.{LifeEvent}
use Rattle.app_machine.specs.Events.{LifeEventAt, HandedAt}
use Rattle.fact_rows.specs.declared.context.Ctx.{Ctx}
use Rattle.fact_rows.specs.declared.context.Ctx.TheVariants as ctx
use Rattle.fact_rows.specs.declared.context.Activation.{Activation}
use Rattle.fact_rows.specs.declared.site.Site.{Site}
use Rattle.fact_rows.specs.declared.site.Site.TheVariants.{Param, Component}
use Rattle.fact_rows.specs.declared.row.Row.{Row}
use Rattle.fact_rows.specs.declared.row.Row.TheVariants.{Reached, Points, Label, CellLabel, Live, Handed}
use Rattle.fact_rows.specs.Contexts.{IsEvent}
use Rattle.flow_rules.specs.Nodes.{activation_in, entry, ArgumentRegister, EventRegister}
use Rattle.flow_rules.specs.Sites.{SiteClass}
use Rattle.flow_rules.specs.EventRules.{ReferenceParameter, ComesToLive}
use Rattle.cell_rules.specs.Reading.{ReadAt, node_in}

-- With what the body begins in the context: each reference parameter may be an object of its own site, and the listed sources
-- are labelled. Such an object also holds the label as an element, whether a register takes it or not.
module _ (app : App) (c : Ctx) (body : ℕ) (sources : List (ℕ × ℕ)) where
  pub data BeginsWith : Row → Type 0 where
    begin_points : {i z u : ℕ} {type : Name} →
        EventRegister app body i z →
        ReferenceParameter app body i type →
        ReadAt app body z 0 u →
        BeginsWith (Points (node_in (activation_in c body) u) z (Param c i))
    begin_label : {i z l u : ℕ} →
        EventRegister app body i z →
        In (i, l) sources →
        ReadAt app body z 0 u →
        BeginsWith (Label (node_in (activation_in c body) u) z l)
    begin_element : {m : Method} {i l : ℕ} {type : Name} →
        HasCode app body m →
        ReferenceParameter app body i type →
        In (i, l) sources →
        BeginsWith (CellLabel (Param c i) elem_key l)

module _ (app : App) (lists : Lists) where
  pub data EventRule : ℕ → List Row → Row → Type 0 where
    -- 40. An event in a component's life begins its body with the component as receiver.
    life_begins : {c e body : ℕ} {class : Name} {life : LifeEvent} {row : Row} →
        LifeEventAt app c e class life (Some body) →
        BeginsWith app (ctx.Row c e) body [] row →
        EventRule 40 (Live c life.from ∷ []) row
    life_receiver : {c e body z u : ℕ} {class : Name} {life : LifeEvent} →
        LifeEventAt app c e class life (Some body) →
        ArgumentRegister app body 0 z →
        ReadAt app body z 0 u →
        EventRule 40 (Live c life.from ∷ []) (Points (node_in (activation_in (ctx.Row c e) body) u) z (Component c))
    -- 42. Callbacks and clicks come to a component in each state in which it is there.
    live_begins : {c state body : ℕ} {sources : List (ℕ × ℕ)} {k : Ctx} {row : Row} →
        ComesToLive app lists c k body sources →
        state ≢ 0 →
        BeginsWith app k body sources row →
        EventRule 42 (Live c state ∷ []) row
    live_receiver : {c state body z u : ℕ} {sources : List (ℕ × ℕ)} {k : Ctx} →
        ComesToLive app lists c k body sources →
        state ≢ 0 →
        ArgumentRegister app body 0 z →
        ReadAt app body z 0 u →
        EventRule 42 (Live c state ∷ []) (Points (node_in (activation_in k body) u) z (Component c))
    -- 43. Callbacks come to handed objects.
    handed_begins : {q body : ℕ} {class : Name} {sources : List (ℕ × ℕ)} {s : Site} {row : Row} →
        SiteClass app lists s class →
        HandedAt app lists q class sources body →
        BeginsWith app (ctx.Handed q) body sources row →
        EventRule 43 (Handed s ∷ []) row
    handed_receiver : {q body z u : ℕ} {class : Name} {sources : List (ℕ × ℕ)} {s : Site} →
        SiteClass app lists s class →
        HandedAt app lists q class sources body →
        ArgumentRegister app body 0 z →
        ReadAt app body z 0 u →
        EventRule 43 (Handed s ∷ []) (Points (node_in (activation_in (ctx.Handed q) body) u) z s)
    -- 45. Handed objects come back as parameters.
    handed_parameter : {b : Activation} {i z u : ℕ} {type class : Name} {s : Site} →
        IsEvent b.ctx →
        EventRegister app b.method i z →
        ReferenceParameter app b.method i type →
        SiteClass app lists s class →
        Below app lists class type →
        ReadAt app b.method z 0 u →
        EventRule 45 (Reached (entry b) ∷ Handed s ∷ []) (Points (node_in b u) z s)
