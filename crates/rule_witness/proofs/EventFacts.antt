-- Rules 40 to 47 give their rows.
use Rattle.std.proofs.Common.{◌≢◌, ℕ, suc, List, [], ◌∷◌, inl, inr, true, false, Some, refl, lit<, arith}
use Rattle.std.specs.Prelude.{codes}
use Rattle.app_machine.specs.declared.call.MethodRef.{MethodRef}
use Rattle.app_machine.specs.declared.method.Method.{Method}
use Rattle.app_machine.specs.declared.app.Class.{Class}
use Rattle.app_machine.specs.declared.component.Kind.TheVariants.{Application, Activity}
use Rattle.vet_base.specs.Members.{IsAt}
use Rattle.app_machine.specs.Names.{descriptor_of, click_descriptor, is_reference, is_wide, initialiser_name, initialiser_proto}
use Rattle.app_machine.specs.Lookups.{HasCode, IsNative, body_named, method_with, find_body, method_of, up, class_named, initialisers_from, initialiser_of}
use Rattle.app_machine.specs.Summaries.{is_same, is_through, of_class}
use Rattle.app_machine.specs.LifeEvents.{LifeEvent, life_events}
use Rattle.app_machine.specs.Events.{IsApplication, LifeEventAt, CallbackAt, ClickAt, HandedAt, InitialiserAt, layout}
use Rattle.fact_rows.specs.Contexts.{event_types}
use Rattle.fact_rows.specs.declared.site.Site.TheVariants.{Param, Component}
use Rattle.flow_rules.specs.Nodes.{ArgumentRegister, EventRegister}
use Rattle.flow_rules.specs.Sites.{SiteClass, site_class}
use Rattle.flow_rules.specs.EventRules.{life_live, life_begins, life_receiver, life_taint, life_receiver_taint, live_begins, live_receiver, live_receiver_taint, handed_begins, handed_receiver, handed_receiver_taint, initialiser_begins, handed_parameter, handed_parameter_taint, exit_handed, exit_handed_taint, application_live, ReferenceParameter, begin_reached, begin_points, begin_taint, begin_element, begin_receiver_element, begin_native, by_callback, by_click}
use Rattle.flow_rules.specs.Rules.{by_event, the_application}
use Rattle.rule_witness.specs.Smallest.{main_class, activity_class}
use Rattle.rule_witness.specs.CallFacts.{box_class, method_of as own_method, only_ends, initialiser}
use Rattle.rule_witness.specs.EventFacts.{first_class, bundle, on_create, on_box, tap, own, events_app, events_lists, EventRulesHold}

abbrev created : LifeEvent
created = record { from = 1; name = codes "onCreate"; descriptor = codes "(Landroid/os/Bundle;)V"; to = 2 }

abbrev started : LifeEvent
started = record { from = 2; name = codes "onStart"; descriptor = codes "()V"; to = 3 }

created_at : LifeEventAt events_app 1 1 main_class created (Some 1)
unfolding events_app life_events body_named method_with up descriptor_of
created_at = record { component = record { kind = Activity; class = main_class }; there = record { there = refl }; of_class = refl; is_event = record { there = refl }; is_body = refl }

started_at : LifeEventAt events_app 1 2 main_class started (Some 3)
unfolding events_app life_events body_named method_with up descriptor_of
started_at = record { component = record { kind = Activity; class = main_class }; there = record { there = refl }; of_class = refl; is_event = record { there = refl }; is_body = refl }

-- the activity's class, which is below that of the callback
abbrev activity : Class
activity = record { name = main_class; superclass = Some activity_class; interfaces = []; is_interface = false; outer = activity_class ∷ []; bare = [] }

abbrev pub sources : List (ℕ × ℕ)
sources = (0, 1) ∷ (1, 0) ∷ []

callback_at : CallbackAt events_app events_lists 1 0 sources 2
unfolding events_app events_lists class_named find_body method_of up
callback_at = record { component = record { kind = Activity; class = main_class }; callback = _; there = record { there = refl }; is_row = record { there = refl }; same_sources = refl; is_below = of_class (is_through activity refl (inl refl) is_same); is_body = refl }

handed_at : HandedAt events_app events_lists 0 main_class sources 2
unfolding events_app events_lists class_named find_body method_of up
handed_at = record { callback = _; is_row = record { there = refl }; same_sources = refl; is_below = of_class (is_through activity refl (inl refl) is_same); is_body = refl }

click_at : ClickAt events_app 1 0 4
unfolding events_app body_named method_with up descriptor_of click_descriptor
click_at = record { component = record { kind = Activity; class = main_class }; name = codes "tap"; there = record { there = refl }; is_click = record { there = refl }; is_activity = refl; is_body = refl }

initialiser_at : InitialiserAt events_app 1 0
unfolding events_app initialisers_from initialiser_of initialiser_name initialiser_proto up method_of
initialiser_at = record { component = record { kind = Activity; class = main_class }; there = record { there = refl }; is_one = inl refl }

-- The bodies and their registers: of the receiver 1, and of the parameter 2.
abbrev pub body_of : MethodRef → Method
body_of at = own_method at false 3 2 only_ends

has_create : HasCode events_app 1 (body_of on_create)
unfolding events_app
has_create = record { there = refl; code = refl }

has_box : HasCode events_app 2 (body_of on_box)
unfolding events_app
has_box = record { there = refl; code = refl }

has_tap : HasCode events_app 4 (body_of tap)
unfolding events_app
has_tap = record { there = refl; code = refl }

has_initialiser : HasCode events_app 0 (own_method initialiser true 0 0 only_ends)
unfolding events_app
has_initialiser = record { there = refl; code = refl }

start_is_native : IsNative events_app 3
unfolding events_app
start_is_native = record { method = _; there = refl; native = refl }

create_receiver : ArgumentRegister events_app 1 0 1
create_receiver = record { method = body_of on_create; has = has_create; below = lit< tt; is = refl }

box_receiver : ArgumentRegister events_app 2 0 1
box_receiver = record { method = body_of on_box; has = has_box; below = lit< tt; is = refl }

tap_receiver : ArgumentRegister events_app 4 0 1
tap_receiver = record { method = body_of tap; has = has_tap; below = lit< tt; is = refl }

create_parameter : EventRegister events_app 1 1 2
unfolding layout is_wide
create_parameter = record { method = body_of on_create; has = has_create; index = 1; is_at = record { there = refl }; below = lit< tt; is = refl }

box_parameter : EventRegister events_app 2 1 2
unfolding layout is_wide
box_parameter = record { method = body_of on_box; has = has_box; index = 1; is_at = record { there = refl }; below = lit< tt; is = refl }

box_first : EventRegister events_app 2 0 1
unfolding layout is_wide
box_first = record { method = body_of on_box; has = has_box; index = 0; is_at = record { there = refl }; below = lit< tt; is = refl }

create_type : ReferenceParameter events_app 1 1 bundle
unfolding events_app is_reference
create_type = record { method = body_of on_create; there = refl; is_type = refl; reference = refl }

box_type : ReferenceParameter events_app 2 1 box_class
unfolding events_app is_reference
box_type = record { method = body_of on_box; there = refl; is_type = refl; reference = refl }

activity_site : SiteClass events_app events_lists (Component 1) main_class
unfolding events_app site_class
activity_site = record { is_class = refl }

bundle_site : SiteClass events_app events_lists (Param own 1) bundle
unfolding events_app site_class event_types life_events body_named method_with up descriptor_of is_reference
bundle_site = record { is_class = refl }

the_application_object : IsApplication events_app 0
unfolding events_app
the_application_object = record { component = record { kind = Application; class = first_class }; there = record { there = refl }; kind = refl }

the_activity : IsAt events_app.components 1 (record { kind = Activity; class = main_class })
unfolding events_app
the_activity = record { there = refl }

not_zero : (n : ℕ) → suc n ≢ 0
not_zero n e = let none : ⊥ = omega arith in none

pub event_rules_hold : EventRulesHold
event_rules_hold p l = record {
  comes_to_state = by_event (life_live created_at);
  begins = by_event (life_begins created_at (begin_reached has_create));
  has_parameter = by_event (life_begins created_at (begin_points create_parameter create_type));
  is_native = by_event (life_begins started_at (begin_native start_is_native));
  has_receiver = by_event (life_receiver created_at create_receiver);
  keeps_label = by_event (life_taint created_at (not_zero 0) (not_zero 1));
  label_to_receiver = by_event (life_receiver_taint created_at (not_zero 0) create_receiver);
  callback_begins = by_event (live_begins (by_callback callback_at) (not_zero 2) (begin_reached has_box));
  parameter_label = by_event (live_begins (by_callback callback_at) (not_zero 2) (begin_taint box_parameter (inr (inl refl))));
  parameter_element = by_event (live_begins (by_callback callback_at) (not_zero 2) (begin_element box_parameter box_type (inr (inl refl))));
  receiver_element = by_event (live_begins (by_callback callback_at) (not_zero 2) (begin_receiver_element box_first (inl refl)));
  click_begins = by_event (live_begins (by_click click_at) (not_zero 2) (begin_reached has_tap));
  click_receiver = by_event (live_receiver (by_click click_at) (not_zero 2) tap_receiver);
  click_receiver_label = by_event (live_receiver_taint (by_click click_at) (not_zero 2) tap_receiver);
  handed_begins = by_event (handed_begins activity_site handed_at (begin_reached has_box));
  handed_receiver = by_event (handed_receiver activity_site handed_at box_receiver);
  handed_receiver_label = by_event (handed_receiver_taint activity_site handed_at box_receiver);
  initialiser_begins = by_event (initialiser_begins initialiser_at (begin_reached has_initialiser));
  comes_back = by_event (handed_parameter tt create_parameter create_type bundle_site (of_class is_same));
  comes_back_labelled = by_event (handed_parameter_taint tt create_parameter create_type bundle_site (of_class is_same));
  result_handed = by_event (exit_handed tt);
  result_handed_labelled = by_event (exit_handed_taint tt);
  application_starts = the_application the_application_object;
  others_after_application = by_event (application_live the_application_object the_activity (not_zero 0));
}
