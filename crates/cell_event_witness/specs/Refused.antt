-- Lists of conclusions that are not what the rules of events of the second set give with a row.
use Rattle.std.specs.Prelude.{◌≢◌, ℕ, List, [], ◌∷◌, Some}
use Rattle.vet_base.specs.declared.key_id.KeyId.{KeyId}
use Rattle.vet_base.specs.Members.{In}
use Rattle.app_machine.specs.declared.method.Method.{Method}
use Rattle.app_machine.specs.declared.lists.Lists.{Lists}
use Rattle.app_machine.specs.declared.app.App.{App}
use Rattle.app_machine.specs.Events.{LifeEventAt, CallbackAt, ClickAt, HandedAt}
use Rattle.app_machine.specs.LifeEvents.{LifeEvent}
use Rattle.app_machine.specs.Lookups.{elem_key, HasCode}
use Rattle.app_machine.specs.Names.{Name}
use Rattle.app_machine.specs.Summaries.{Below}
use Rattle.fact_rows.specs.Contexts.{IsEvent}
use Rattle.fact_rows.specs.declared.context.Ctx.{Ctx}
use Rattle.fact_rows.specs.declared.context.Ctx.TheVariants as ctx
use Rattle.fact_rows.specs.declared.context.Activation.{Activation}
use Rattle.fact_rows.specs.declared.context.Node.{Node}
use Rattle.fact_rows.specs.declared.site.Site.{Site}
use Rattle.fact_rows.specs.declared.site.Site.TheVariants.{Param, Component}
use Rattle.fact_rows.specs.declared.row.Row.{Row}
use Rattle.fact_rows.specs.declared.row.Row.TheVariants.{Reached, Points, Label, CellLabel, Live, Handed}
use Rattle.flow_rules.specs.EventRules.{ReferenceParameter}
use Rattle.flow_rules.specs.Nodes.{activation_in, entry, ArgumentRegister, EventRegister}
use Rattle.flow_rules.specs.Sites.{SiteClass}
use Rattle.rule_ground.specs.declared.conclusion.Conclusion.{Conclusion}
use Rattle.rule_ground.specs.Exact.{IsJust, IsListed}
use Rattle.rule_ground.specs.Given.{of_one, concludes}
use Rattle.rule_ground.specs.Hits.{Among}
use Rattle.cell_rules.specs.EventRules.{EventRule}
use Rattle.cell_rules.specs.Reading.{ReadAt, node_in}

-- a conclusion from a state of a component by rule 42
abbrev pub comes_to : ℕ → ℕ → Row → Conclusion
comes_to c state row = concludes 42 (of_one (Live c state)) row

-- the label comes with a source of the position of the register
pub record IsBySource (app : App) (body z l : ℕ) (sources : List (ℕ × ℕ)) : Type 0 where
  pub i : ℕ
  pub register : EventRegister app body i z
  pub listed : In (i, l) sources

module _ (app : App) (lists : Lists) where
  -- the list is not what the rules give with the row from these rows
  abbrev pub IsRefused : List Row → Row → List Conclusion → Type 0
  IsRefused rows row given = IsJust (EventRule app lists) (Among rows) row given → ⊥

  -- nor is any without what the rule gives from all of these rows
  abbrev pub IsMissed : List Row → Row → ℕ → Row → Type 0
  IsMissed rows row rule x = (given : List Conclusion) → (IsListed given rule rows x → ⊥) → IsRefused rows row given

  -- from one row, and from two by the side of either
  abbrev pub IsOwed : Row → ℕ → Row → Type 0
  IsOwed row rule x = IsMissed (row ∷ []) row rule x

  abbrev pub IsOwedByBoth : Row → Row → ℕ → Row → Type 0
  IsOwedByBoth a b rule x = IsMissed (a ∷ b ∷ []) a rule x × IsMissed (a ∷ b ∷ []) b rule x

  -- no callback runs the body on the component with such a source
  pub record NothingLabels (c z l body : ℕ) : Type 0 where
    pub called : {q : ℕ} {sources : List (ℕ × ℕ)} → CallbackAt app lists c q sources body → IsBySource app body z l sources → ⊥

  pub record AreRefused : Type 0 where
    -- left out: what an event of its life gives a component, itself as the receiver, and an object of each parameter of a reference type
    pub receiver : {c e body z u : ℕ} {class : Name} {life : LifeEvent} →
        LifeEventAt app c e class life (Some body) →
        ArgumentRegister app body 0 z →
        ReadAt app body z 0 u →
        IsOwed (Live c life.from) 40 (Points (node_in (activation_in (ctx.Row c e) body) u) z (Component c))
    pub parameter : {c e body i z u : ℕ} {class type : Name} {life : LifeEvent} →
        LifeEventAt app c e class life (Some body) →
        EventRegister app body i z →
        ReferenceParameter app body i type →
        ReadAt app body z 0 u →
        IsOwed (Live c life.from) 40 (Points (node_in (activation_in (ctx.Row c e) body) u) z (Param (ctx.Row c e) i))
    -- what a source of a callback labels: the parameter, and the object of a reference, whether or not a register is read
    pub label : {c state q body i z l u : ℕ} {sources : List (ℕ × ℕ)} →
        CallbackAt app lists c q sources body →
        state ≢ 0 →
        EventRegister app body i z →
        In (i, l) sources →
        ReadAt app body z 0 u →
        IsOwed (Live c state) 42 (Label (node_in (activation_in (ctx.Callback c q) body) u) z l)
    pub element : {c state q body i l : ℕ} {m : Method} {type : Name} {sources : List (ℕ × ℕ)} →
        CallbackAt app lists c q sources body →
        state ≢ 0 →
        HasCode app body m →
        ReferenceParameter app body i type →
        In (i, l) sources →
        IsOwed (Live c state) 42 (CellLabel (Param (ctx.Callback c q) i) elem_key l)
    -- a click, and a callback on a handed object
    pub click : {c state i body z u : ℕ} →
        ClickAt app c i body →
        state ≢ 0 →
        ArgumentRegister app body 0 z →
        ReadAt app body z 0 u →
        IsOwed (Live c state) 42 (Points (node_in (activation_in (ctx.Click c i) body) u) z (Component c))
    pub callback : {q body z u : ℕ} {class : Name} {s : Site} {sources : List (ℕ × ℕ)} →
        SiteClass app lists s class →
        HandedAt app lists q class sources body →
        ArgumentRegister app body 0 z →
        ReadAt app body z 0 u →
        IsOwed (Handed s) 43 (Points (node_in (activation_in (ctx.Handed q) body) u) z s)
    -- a handed object that comes back, from the event and from the object
    pub given_back : {b : Activation} {i z u : ℕ} {type class : Name} {s : Site} →
        IsEvent b.ctx →
        EventRegister app b.method i z →
        ReferenceParameter app b.method i type →
        SiteClass app lists s class →
        Below app lists class type →
        ReadAt app b.method z 0 u →
        IsOwedByBoth (Reached (entry b)) (Handed s) 45 (Points (node_in b u) z s)
    -- and too much: something that comes to a component which is not there
    pub to_absent : {c : ℕ} {row : Row} → IsRefused (Live c 0 ∷ []) (Live c 0) (comes_to c 0 row ∷ [])
    -- a label that no source has, one under another key than that of elements, and a parameter of another event
    pub unlisted : {c state z l : ℕ} {n : Node} →
        NothingLabels c z l n.by.method →
        IsRefused (Live c state ∷ []) (Live c state) (comes_to c state (Label n z l) ∷ [])
    pub under_key : {c state l : ℕ} {s : Site} {k : KeyId} →
        k ≢ elem_key →
        IsRefused (Live c state ∷ []) (Live c state) (comes_to c state (CellLabel s k l) ∷ [])
    pub of_another : {c state z i : ℕ} {n : Node} {k : Ctx} →
        k ≢ n.by.ctx →
        IsRefused (Live c state ∷ []) (Live c state) (comes_to c state (Points n z (Param k i)) ∷ [])

abbrev pub WrongListsOfEventsAreRefused : Type 0
WrongListsOfEventsAreRefused = (app : App) (lists : Lists) → AreRefused app lists
