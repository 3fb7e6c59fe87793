-- The table of the smallest app is good.
use Rattle.std.proofs.Common.{◌≡◌, ◌<◌, ◌+◌, ◌-◌, ℕ, zero, suc, false, List, [], ◌∷◌, inl, inr, Option, Some, refl, ap, sym, subst, lit<, arith}
use Rattle.std.specs.Prelude.{codes, map, slice_get}
use Rattle.app_machine.specs.declared.method.Method.{Method}
use Rattle.app_machine.specs.declared.component.Kind.TheVariants.{Activity}
use Rattle.vet_base.specs.Members.{In, IsAt}
use Rattle.app_machine.specs.Names.{Name, descriptor_of, is_reference}
use Rattle.app_machine.specs.Lookups.{step_at, body_named, method_with, up}
use Rattle.app_machine.specs.LifeEvents.{LifeEvent, life_events}
use Rattle.app_machine.specs.Events.{LifeEventAt, layout, parameter_type}
use Rattle.fact_rows.specs.declared.context.Ctx.TheVariants as ctx
use Rattle.fact_rows.specs.declared.site.Site.TheVariants.{Param, Component}
use Rattle.fact_rows.specs.declared.row.Row.{Row}
use Rattle.fact_rows.specs.declared.row.Row.TheVariants as row
use Rattle.fact_rows.specs.InApp.{InApp, NodeIn, ParameterIn, at_step, of_method}
use Rattle.fact_rows.specs.Contexts.{event_types}
use Rattle.flow_rules.specs.Rules.{Follows, by_local, by_effect, by_call, by_library, by_event, by_handed, Starts, the_application, a_component, Each}
use Rattle.flow_rules.specs.Nodes.{activation_in, entry, ArgumentRegister}
use Rattle.flow_rules.specs.LocalRules.{LocalRule, reach_next, reach_caught, keep_points, keep_taint, keep_points_caught, keep_taint_caught, move_points, move_taint, result_points, result_taint, exception_points, exception_taint, join_taint, new_points, new_taint, fill_points, fill_cell, fill_taint, get_points, get_taint, put_cell, put_effect, get_static_points, get_static_taint, get_static_source, put_static_points, put_static_taint, throw_points, throw_taint, throw_exit_points, throw_exit_taint, return_points, return_taint, cell_back}
use Rattle.flow_rules.specs.EffectRules.{EffectRule, lift_effect, effect_next, effect_caught, method_effect, caller_effect, effect_static, effect_handed, effect_own, effect_other}
use Rattle.flow_rules.specs.CallRules.{CallRule, enter_direct, enter_class, enter_receiver, pass_points, pass_taint, returned_points, returned_taint, caught_points, caught_taint, unwound_points, unwound_taint, use_by_name, use_by_class, enter_initialiser, initialiser_taint}
use Rattle.flow_rules.specs.LibraryRules.{LibraryRule, hand_points, hand_taint, sink_arrives, same_points, same_taint, taken_points, taken_taint, joined_points, joined_taint, joined_element, source_taint, source_element, shared_static_points, shared_points, shared_taint, row_put_cell, row_put_effect, store_static, store_cell, store_effect, copy_cell, copy_effect}
use Rattle.flow_rules.specs.HandedRules.{HandedRule, handed_points, handed_taint, live_points, live_taint}
use Rattle.flow_rules.specs.EventRules.{EventRule, life_live, life_begins, life_receiver, life_taint, life_receiver_taint, live_begins, live_receiver, live_receiver_taint, handed_begins, handed_receiver, handed_receiver_taint, initialiser_begins, handed_parameter, handed_parameter_taint, exit_handed, exit_handed_taint, application_live, Begins, begin_reached, begin_points, begin_taint, begin_element, begin_receiver_element, begin_native}
use Rattle.rule_witness.specs.Smallest.{main_class, smallest_app, no_lists, on_create_node, smallest_table, SmallestTableIsGood}
use Rattle.rule_witness.proofs.SmallestApp.{never_goes, never_caught, only_returns, none_initialises, the_activity, is_the_activity, no_application, to_below, the_event, at_event, the_method, is_the_method, first_parameter, register_of, none_comes, no_initialiser}

-- the rows, one by one
data Listed : Row → Type 0 where
  is_live : {state : ℕ} → state < 8 → Listed (row.Live 0 state)
  is_reached : Listed (row.Reached on_create_node)
  has_receiver : Listed (row.Points on_create_node 0 (Component 0))
  has_bundle : Listed (row.Points on_create_node 1 (Param (ctx.Row 0 1) 1))

listed : (r : Row) → In r smallest_table → Listed r
listed r (inl e) = subst Listed (sym e) (is_live (lit< tt))
listed r (inr (inl e)) = subst Listed (sym e) (is_live (lit< tt))
listed r (inr (inr (inl e))) = subst Listed (sym e) (is_live (lit< tt))
listed r (inr (inr (inr (inl e)))) = subst Listed (sym e) (is_live (lit< tt))
listed r (inr (inr (inr (inr (inl e))))) = subst Listed (sym e) (is_live (lit< tt))
listed r (inr (inr (inr (inr (inr (inl e)))))) = subst Listed (sym e) (is_live (lit< tt))
listed r (inr (inr (inr (inr (inr (inr (inl e))))))) = subst Listed (sym e) (is_live (lit< tt))
listed r (inr (inr (inr (inr (inr (inr (inr (inl e)))))))) = subst Listed (sym e) (is_live (lit< tt))
listed r (inr (inr (inr (inr (inr (inr (inr (inr (inl e))))))))) = subst Listed (sym e) is_reached
listed r (inr (inr (inr (inr (inr (inr (inr (inr (inr (inl e)))))))))) = subst Listed (sym e) has_receiver
listed r (inr (inr (inr (inr (inr (inr (inr (inr (inr (inr (inl e))))))))))) = subst Listed (sym e) has_bundle
listed r (inr (inr (inr (inr (inr (inr (inr (inr (inr (inr (inr none))))))))))) = absurd none

live_in : (state : ℕ) → state < 8 → In (row.Live 0 state) smallest_table
live_in zero b = inl refl
live_in (suc zero) b = inr (inl refl)
live_in (suc (suc zero)) b = inr (inr (inl refl))
live_in (suc (suc (suc zero))) b = inr (inr (inr (inl refl)))
live_in (suc (suc (suc (suc zero)))) b = inr (inr (inr (inr (inl refl))))
live_in (suc (suc (suc (suc (suc zero))))) b = inr (inr (inr (inr (inr (inl refl)))))
live_in (suc (suc (suc (suc (suc (suc zero)))))) b = inr (inr (inr (inr (inr (inr (inl refl))))))
live_in (suc (suc (suc (suc (suc (suc (suc zero))))))) b = inr (inr (inr (inr (inr (inr (inr (inl refl)))))))
live_in (suc (suc (suc (suc (suc (suc (suc (suc state)))))))) b = absurd (let none : ⊥ = omega arith in none)

in_table : (r : Row) → Listed r → In r smallest_table
in_table r (is_live {state} b) = live_in state b
in_table r is_reached = inr (inr (inr (inr (inr (inr (inr (inr (inl refl))))))))
in_table r has_receiver = inr (inr (inr (inr (inr (inr (inr (inr (inr (inl refl)))))))))
in_table r has_bundle = inr (inr (inr (inr (inr (inr (inr (inr (inr (inr (inl refl))))))))))

-- What begins with `onCreate`, and the states of the activity.
live_to : {c e : ℕ} {class : Name} {life : LifeEvent} {body : Option ℕ} → LifeEventAt smallest_app c e class life body → Listed (row.Live c life.to)
live_to {c} {e} {class} {life} at = let is = at_event at in subst (λ x. Listed (row.Live x life.to)) is.component (is_live (to_below e life is.is_event))

begun : {r : Row} → Begins smallest_app (ctx.Row 0 1) 0 [] r → Listed r
begun (begin_reached code) = is_reached
begun (begin_points {i} {z} {type} reg of_type) =
    let is_method = is_the_method of_type.method of_type.there in
    let first : 1 ≡ i = first_parameter i type (subst (λ (m : Method). parameter_type m.at.proto.params i ≡ Some type) (sym is_method) of_type.is_type) in
    let same = is_the_method reg.method reg.has.there in
    let at = subst (λ (m : Method). IsAt (layout m.at.proto.params) reg.index i) (sym same) reg.is_at in
    let of_index = subst (λ (m : Method). z ≡ (m.registers - m.ins) + reg.index) (sym same) reg.is in
    let second : 1 ≡ z = register_of reg.index z (subst (λ x. IsAt (layout the_method.at.proto.params) reg.index x) (sym first) at) of_index in
    subst (λ x. Listed (row.Points on_create_node x (Param (ctx.Row 0 1) i))) second (subst (λ x. Listed (row.Points on_create_node 1 (Param (ctx.Row 0 1) x))) first has_bundle)
begun (begin_taint reg none) = absurd none
begun (begin_element reg of_type none) = absurd none
begun (begin_receiver_element reg none) = absurd none
begun (begin_native native) = let is = is_the_method native.method native.there in let plain : false ≡ native.method.is_native = ap (λ (m : Method). m.is_native) is in let yes_native = native.native in absurd (let none : ⊥ = cc in none)

begun_at : {c e body : ℕ} {class : Name} {life : LifeEvent} {r : Row} → LifeEventAt smallest_app c e class life (Some body) → Begins smallest_app (ctx.Row c e) body [] r → Listed r
begun_at {c} {e} {body} {class} {life} {r} at begins =
    let is = at_event at in
    let event = the_event e life body is.is_event is.is_body in
    begun (subst (λ x. Begins smallest_app (ctx.Row x 1) 0 [] r) (sym is.component) (subst (λ x. Begins smallest_app (ctx.Row c x) 0 [] r) (sym event.0) (subst (λ x. Begins smallest_app (ctx.Row c e) x [] r) (sym event.1) begins)))

receiver_at : {c e body z : ℕ} {class : Name} {life : LifeEvent} → LifeEventAt smallest_app c e class life (Some body) → ArgumentRegister smallest_app body 0 z → Listed (row.Points (entry (activation_in (ctx.Row c e) body)) z (Component c))
receiver_at {c} {e} {body} {z} {class} {life} at reg =
    let is = at_event at in
    let event = the_event e life body is.is_event is.is_body in
    let same = is_the_method reg.method (subst (λ x. slice_get smallest_app.methods x ≡ Some reg.method) (sym event.1) reg.has.there) in
    let register : 0 ≡ z = sym (subst (λ (m : Method). z ≡ (m.registers - m.ins) + 0) (sym same) reg.is) in
    let first = subst (λ x. Listed (row.Points on_create_node x (Component 0))) register has_receiver in
    let second = subst (λ x. Listed (row.Points (entry (activation_in (ctx.Row 0 1) x)) z (Component 0))) event.1 first in
    let third = subst (λ x. Listed (row.Points (entry (activation_in (ctx.Row 0 x) body)) z (Component 0))) event.0 second in
    subst (λ x. Listed (row.Points (entry (activation_in (ctx.Row x e) body)) z (Component x))) is.component third

-- Rules 1 to 13: the one step goes nowhere and does nothing else.
closed_local : {rule : ℕ} {premises : List Row} {r : Row} → LocalRule smallest_app no_lists rule premises r → Each Listed premises → Listed r
closed_local (reach_next goes) h = absurd (never_goes goes)
closed_local (reach_caught caught) h = absurd (never_caught caught)
closed_local (keep_points _ _ goes) h = absurd (never_goes goes)
closed_local (keep_taint _ _ goes) h = absurd (never_goes goes)
closed_local (keep_points_caught _ caught) h = absurd (never_caught caught)
closed_local (keep_taint_caught _ caught) h = absurd (never_caught caught)
closed_local (move_points _ act _ _) h = absurd (only_returns act)
closed_local (move_taint _ act _ _) h = absurd (only_returns act)
closed_local (result_points _ act _ _) h = absurd (only_returns act)
closed_local (result_taint _ act _ _) h = absurd (only_returns act)
closed_local (exception_points act _) h = absurd (only_returns act)
closed_local (exception_taint act _) h = absurd (only_returns act)
closed_local (join_taint _ _ act _ _ _ _) h = absurd (only_returns act)
closed_local (new_points act _) h = absurd (only_returns act)
closed_local (new_taint act _ _) h = absurd (only_returns act)
closed_local (fill_points act _) h = absurd (only_returns act)
closed_local (fill_cell _ act _) h = absurd (only_returns act)
closed_local (fill_taint _ act _ _) h = absurd (only_returns act)
closed_local (get_points _ act _ _) h = absurd (only_returns act)
closed_local (get_taint _ act _ _ _) h = absurd (only_returns act)
closed_local (put_cell act) h = absurd (only_returns act)
closed_local (put_effect act) h = absurd (only_returns act)
closed_local (get_static_points _ act _ _) h = absurd (only_returns act)
closed_local (get_static_taint _ act _ _) h = absurd (only_returns act)
closed_local (get_static_source _ act _ _ _) h = absurd (only_returns act)
closed_local (put_static_points act) h = absurd (only_returns act)
closed_local (put_static_taint act) h = absurd (only_returns act)
closed_local (throw_points act _) h = absurd (only_returns act)
closed_local (throw_taint act _) h = absurd (only_returns act)
closed_local (throw_exit_points act) h = absurd (only_returns act)
closed_local (throw_exit_taint act) h = absurd (only_returns act)
closed_local (return_points act) h = absurd (only_returns act)
closed_local (return_taint act) h = absurd (only_returns act)
closed_local cell_back h = elim h.0 [ ]

-- Rules 14 to 21: there are no effects.
closed_effect : {rule : ℕ} {premises : List Row} {r : Row} → EffectRule smallest_app rule premises r → Each Listed premises → Listed r
closed_effect lift_effect h = elim h.0 [ ]
closed_effect (effect_next _) h = elim h.0 [ ]
closed_effect (effect_caught _) h = elim h.0 [ ]
closed_effect method_effect h = elim h.0 [ ]
closed_effect caller_effect h = elim h.0 [ ]
closed_effect effect_static h = elim h.0 [ ]
closed_effect effect_handed h = elim h.0 [ ]
closed_effect (effect_own _ _) h = elim h.0 [ ]
closed_effect (effect_other _ _) h = elim h.0 [ ]

-- Rules 22 to 29: nothing is called.
closed_call : {rule : ℕ} {premises : List Row} {r : Row} → CallRule smallest_app no_lists rule premises r → Each Listed premises → Listed r
closed_call (enter_direct act _ _ _) h = absurd (only_returns act)
closed_call (enter_class act _ _ _ _ _) h = absurd (only_returns act)
closed_call (enter_receiver act _ _ _ _ _) h = absurd (only_returns act)
closed_call (pass_points _ act _ _ _ _) h = absurd (only_returns act)
closed_call (pass_taint _ act _ _ _) h = absurd (only_returns act)
closed_call (returned_points _) h = elim h.0 [ ]
closed_call (returned_taint _) h = elim h.0 [ ]
closed_call (caught_points _) h = elim h.0 [ ]
closed_call (caught_taint _) h = elim h.0 [ ]
closed_call unwound_points h = elim h.0 [ ]
closed_call unwound_taint h = elim h.0 [ ]
closed_call (use_by_name act _ _) h = absurd (only_returns act)
closed_call (use_by_class act _ _ _ _ _) h = absurd (only_returns act)
closed_call (enter_initialiser is_one enters) h = absurd (none_initialises is_one)
closed_call (initialiser_taint is_one) h = elim h.0 [ ]

-- Rules 30 to 39: nothing of the library is used.
closed_library : {rule : ℕ} {premises : List Row} {r : Row} → LibraryRule smallest_app no_lists rule premises r → Each Listed premises → Listed r
closed_library (hand_points _ _ _) h = elim h.0 [ ]
closed_library (hand_taint _ _ _) h = elim h.0 [ ]
closed_library (sink_arrives _ _ _ _ _) h = elim h.0 [ ]
closed_library (same_points _ _ _ _ _) h = elim h.0 [ ]
closed_library (same_taint _ _ _ _ _) h = elim h.0 [ ]
closed_library (taken_points _ _ _ _ _) h = elim h.0 [ ]
closed_library (taken_taint _ _ _ _ _ _) h = elim h.0 [ ]
closed_library (joined_points _ _ _ _ _) h = elim h.0 [ ]
closed_library (joined_taint _ _ _ _ _ _ _) h = elim h.0 [ ]
closed_library (joined_element _ _ _ _ _ _ _ _) h = elim h.0 [ ]
closed_library (source_taint _ _ _ _ _) h = elim h.0 [ ]
closed_library (source_element _ _ _ _ _ _) h = elim h.0 [ ]
closed_library (shared_static_points _ _ _) h = elim h.0 [ ]
closed_library (shared_points _ _ _ _) h = elim h.0 [ ]
closed_library (shared_taint _ _ _ _) h = elim h.0 [ ]
closed_library (row_put_cell _ _ _ _ _ _) h = elim h.0 [ ]
closed_library (row_put_effect _ _ _ _ _ _) h = elim h.0 [ ]
closed_library (store_static _ _ _ _) h = elim h.0 [ ]
closed_library (store_cell _ _ _ _ _) h = elim h.0 [ ]
closed_library (store_effect _ _ _ _ _) h = elim h.0 [ ]
closed_library (copy_cell _ _ _ _ _ _) h = elim h.0 [ ]
closed_library (copy_effect _ _ _ _ _ _ _) h = elim h.0 [ ]

-- Rule 48: nothing is given back, as nothing of the library is used.
closed_handed : {rule : ℕ} {premises : List Row} {r : Row} → HandedRule smallest_app no_lists rule premises r → Each Listed premises → Listed r
closed_handed (handed_points _ _) h = elim h.0 [ ]
closed_handed (handed_taint _ _) h = elim h.0 [ ]
closed_handed (live_points _ _ _) h = elim h.0 [ ]
closed_handed (live_taint _ _ _) h = elim h.0 [ ]

-- Rules 40 to 47: only the life of the activity.
closed_event : {rule : ℕ} {premises : List Row} {r : Row} → EventRule smallest_app no_lists rule premises r → Each Listed premises → Listed r
closed_event (life_live at) h = live_to at
closed_event (life_begins at begins) h = begun_at at begins
closed_event (life_receiver at z) h = receiver_at at z
closed_event (life_taint _ _ _) h = elim h.0 [ ]
closed_event (life_receiver_taint _ _ _) h = elim h.0 [ ]
closed_event (live_begins comes alive begins) h = absurd (none_comes comes)
closed_event (live_receiver comes alive z) h = absurd (none_comes comes)
closed_event (live_receiver_taint comes alive z) h = elim h.0 [ ]
closed_event (handed_begins _ _ _) h = elim h.0 [ ]
closed_event (handed_receiver _ _ _) h = elim h.0 [ ]
closed_event (handed_receiver_taint _ _ _) h = elim h.0 [ ]
closed_event (initialiser_begins at begins) h = absurd (no_initialiser at)
closed_event (handed_parameter _ _ _ _ _) h = elim h.1.0 [ ]
closed_event (handed_parameter_taint _ _ _ _ _) h = elim h.1.0 [ ]
closed_event (exit_handed _) h = elim h.0 [ ]
closed_event (exit_handed_taint _) h = elim h.0 [ ]
closed_event (application_live is there other) h = absurd (no_application is)

closed_under : {rule : ℕ} {premises : List Row} {r : Row} → Follows smallest_app no_lists rule premises r → Each Listed premises → Listed r
closed_under (by_local rule) h = closed_local rule h
closed_under (by_effect rule) h = closed_effect rule h
closed_under (by_call rule) h = closed_call rule h
closed_under (by_library rule) h = closed_library rule h
closed_under (by_event rule) h = closed_event rule h
closed_under (by_handed rule) h = closed_handed rule h

each_listed : (rows : List Row) → Each (λ r. In r smallest_table) rows → Each Listed rows
each_listed [] h = tt
each_listed (r ∷ rows) h = (listed r h.0, each_listed rows h.1)

-- The rows name only what the app has.
made_at : LifeEventAt smallest_app 0 1 main_class (record { from = 1; name = codes "onCreate"; descriptor = codes "(Landroid/os/Bundle;)V"; to = 2 }) (Some 0)
unfolding smallest_app life_events body_named method_with up descriptor_of
made_at = record { component = the_activity; there = record { there = refl }; of_class = refl; is_event = record { there = refl }; is_body = refl }

node_in : NodeIn smallest_app no_lists on_create_node
unfolding smallest_app step_at
node_in = record { activation = record { context = (main_class, (_, (0, made_at))); method = lit< tt }; place = at_step (record { there = refl }) }

state_in : (state : ℕ) → state < 8 → In state (0 ∷ map (λ (life : LifeEvent). life.to) (life_events Activity))
unfolding life_events
state_in zero b = inl refl
state_in (suc zero) b = inr (inl refl)
state_in (suc (suc zero)) b = inr (inr (inl refl))
state_in (suc (suc (suc zero))) b = inr (inr (inr (inl refl)))
state_in (suc (suc (suc (suc zero)))) b = inr (inr (inr (inr (inl refl))))
state_in (suc (suc (suc (suc (suc zero))))) b = inr (inr (inr (inr (inr (inr (inl refl))))))
state_in (suc (suc (suc (suc (suc (suc zero)))))) b = inr (inr (inr (inr (inr (inl refl)))))
state_in (suc (suc (suc (suc (suc (suc (suc zero))))))) b = inr (inr (inr (inr (inr (inr (inr (inr (inr (inl refl)))))))))
state_in (suc (suc (suc (suc (suc (suc (suc (suc state)))))))) b = absurd (let none : ⊥ = omega arith in none)

bundle_in : ParameterIn smallest_app no_lists (ctx.Row 0 1) 1
unfolding smallest_app event_types life_events body_named method_with up descriptor_of is_reference
bundle_in = record { event = tt; context = (main_class, (_, (0, made_at))); type = codes "Landroid/os/Bundle;"; is_type = refl; reference = refl }

in_app : (r : Row) → Listed r → InApp smallest_app no_lists r
unfolding smallest_app
in_app r (is_live {state} b) = (lit< tt, (record { component = the_activity; there = record { there = refl }; is_state = state_in state b }, tt))
in_app r is_reached = (node_in, tt)
in_app r has_receiver = (node_in, (of_method refl (lit< tt), (lit< tt, tt)))
in_app r has_bundle = (node_in, (of_method refl (lit< tt), (bundle_in, tt)))

starts_listed : {r : Row} → Starts smallest_app r → Listed r
starts_listed (the_application is) = absurd (no_application is)
starts_listed (a_component {c} {component} none there) = subst (λ x. Listed (row.Live x 0)) (sym (is_the_activity c component there).0) (is_live (lit< tt))

pub smallest_is_good : SmallestTableIsGood
smallest_is_good = record {
  in_app = λ r h. in_app r (listed r h);
  starts = λ r s. in_table r (starts_listed s);
  closed = λ rule premises r follows h. in_table r (closed_under follows (each_listed premises h));
}
