-- The runs in which the label arrives.
use Rattle.std.proofs.Common.{◌≡◌, ℕ, zero, suc, List, [], ◌∷◌, inl, inr, Option, Some, refl, ap, sym, ◌∙◌, subst}
use Rattle.std.proofs.lemmas.Option.{none-some, same_Some}
use Rattle.vet_base.specs.declared.key_id.KeyId.{KeyId}
use Rattle.vet_base.specs.Members.{In}
use Rattle.app_machine.specs.declared.call.CallKind.TheVariants.{Static}
use Rattle.app_machine.specs.declared.method.Act.TheVariants.{Call}
use Rattle.app_machine.specs.declared.app.App.{App}
use Rattle.app_machine.specs.declared.lists.Lists.{Lists}
use Rattle.app_machine.specs.declared.lists.SummaryId.TheVariants.{Row}
use Rattle.app_machine.specs.Names.{is_void, is_wide, is_array}
use Rattle.app_machine.specs.Lookups.{step_at, body_named, method_with, target, find_body, up, method_of, class_named, is_by_receiver}
use Rattle.app_machine.specs.Summaries.{library_key, summary, row_walk, library_classes, listed_above, listed_class, row_of}
use Rattle.app_machine.specs.Heap.{Value, Object, blank, EntryAt, Reaches, entry_of}
use Rattle.app_machine.specs.State.{result_register, write, Arrival, World, Frame, object_at}
use Rattle.app_machine.specs.Calls.{by_name}
use Rattle.app_machine.specs.Library.{positions, value_at, AtSink, all_there, of_void, CallsLibrary}
use Rattle.app_machine.specs.Run.{Run, calls_library, then}
use Rattle.machine_witness.specs.Apps.{device_class, net_class, post, small_lists, step}
use Rattle.machine_witness.specs.Acts.{field_key}
use Rattle.machine_witness.specs.Flows.{own_box, post_row, Scene, by_field, activity_of}
use Rattle.machine_witness.proofs.Acting.{act_of, next_of}
use Rattle.machine_witness.proofs.Beginning.{is_activity, to_created}
use Rattle.machine_witness.proofs.Flowing.{by_take, by_new, by_get, by_put_of, by_id, by_post, Knows, no_adds, arrival_at, the_label}
use Rattle.cell_witness.specs.Missing.{at_once, in_object, in_nested}

-- the calls of the source and of the sink, by lists of these two alone
knows_both : (s : Scene) → Knows (activity_of s) small_lists
unfolding activity_of small_lists target find_body up method_of is_by_receiver library_key summary row_walk library_classes class_named listed_above listed_class row_of is_array
knows_both s = record {
  id_used = λ heap f. record { class = device_class; goes = by_name refl refl; key = Row 0; is_key = refl; is_row = refl; plain = refl };
  post_used = λ heap f x. record { class = net_class; goes = by_name refl refl; key = Row 1; is_key = refl; is_row = refl; plain = refl };
}

-- a run that brings the label 0 to the sink 1 at the first method's pc
pub record Brings (app : App) (lists : Lists) (pc : ℕ) : Type 0 where
  pub world : World
  pub frames : List Frame
  pub run : Run app lists world frames
  pub arrives : In (record { label = 0; sink = 1; method = 0; pc = pc }) world.arrivals

pub brings : {app : App} {lists : Lists} {w : World} {fs : List Frame} (pc : ℕ) → Run app lists w fs →
    In (record { label = 0; sink = 1; method = 0; pc = pc }) w.arrivals → Brings app lists pc
brings {w = w} {fs = fs} pc run there = record { world = w; frames = fs; run = run; arrives = there }

pub label_posted : Brings (activity_of at_once) small_lists 2
unfolding activity_of step_at body_named method_with up
label_posted =
    brings 2 (by_post (by_take (by_id (to_created small_lists (is_activity at_once refl)) (knows_both at_once) 1 refl) (0 ∷ []) 2 refl) (knows_both at_once) 0 3 refl refl) (inl refl)

pub field_posted : Brings (activity_of by_field) small_lists 5
unfolding activity_of step_at body_named method_with up
field_posted =
    brings 5 (by_post (by_get (by_put_of (by_new (by_take (by_id (to_created small_lists (is_activity by_field refl)) (knows_both by_field) 1 refl) (0 ∷ []) 2 refl) 1 own_box 3 refl) 1 field_key 0 4 refl) 2 1 field_key the_label 5 refl (entry_of refl (inl refl))) (knows_both by_field) 2 6 refl refl) (inl refl)

-- From an object whose entries are all one value just the label 0 is reached where just this is reached from the value.
module _ (heap : List Object) (p : ℕ) (v : Value) (alone : (j : KeyId) (w : Value) → EntryAt heap p j w → w ≡ v) (only : (ks : List KeyId) (l : ℕ) → Reaches heap v ks l → l ≡ 0) where
  only_of_object : (ks : List KeyId) (l : ℕ) → Reaches heap (object_at (Some p)) ks l → l ≡ 0
  only_of_object [] l none = absurd none
  only_of_object (j ∷ ks) l walk =
      let there : p ≡ walk.0 = same_Some p walk.0 walk.1 in
      let rest = walk.2 in
      only ks l (subst (λ w. Reaches heap w ks l) (alone j rest.0 (subst (λ q. EntryAt heap q j rest.0) (sym there) rest.1)) rest.2)

only_label : (heap : List Object) (ks : List KeyId) (l : ℕ) → Reaches heap the_label ks l → l ≡ 0
only_label heap [] l (inl same) = same
only_label heap [] l (inr none) = absurd none
only_label heap (j ∷ ks) l walk = absurd (none-some walk.0 walk.1)

-- A register with an object from which just the label is reached, by some keys: it is handed, and the label arrives, but no other.
module _ (f : Frame) (x p : ℕ) (heap : List Object) (ks : List KeyId) (object : f.registers x ≡ object_at (Some p)) (leads : Reaches heap (object_at (Some p)) ks 0) (only : (js : List KeyId) (l : ℕ) → Reaches heap (object_at (Some p)) js l → l ≡ 0) where
  place : (f.registers x).place ≡ Some p
  place = ap (λ (v : Value). v.place) object

  reached : (js : List KeyId) (l at : ℕ) → Reaches heap (value_at f (x ∷ []) at) js l → l ≡ 0
  reached js l zero walk = only js l (subst (λ v. Reaches heap v js l) object walk)
  reached [] l (suc at) own = absurd own
  reached (j ∷ js) l (suc at) walk = absurd (none-some walk.0 walk.1)

  arrives_by_key : AtSink heap f (x ∷ []) post_row (arrival_at f)
  arrives_by_key =
      record { at = 0; is_sink = (0 ∷ [], refl, inl refl); keys = ks; walk = subst (λ v. Reaches heap v ks 0) (sym object) leads; method = refl; pc = refl }

  only_arrival : (a : Arrival) → AtSink heap f (x ∷ []) post_row a → a ≡ arrival_at f
  only_arrival a s = same s.is_sink
    where
      same : (is : List ℕ) × (◌≡◌ {A = Option (ℕ × List ℕ)} (Some (1, 0 ∷ [])) (Some (a.sink, is))) × In s.at is → a ≡ arrival_at f
      same (is, e, h) =
          let pair : ◌≡◌ {A = ℕ × List ℕ} (1, 0 ∷ []) (a.sink, is) = same_Some _ _ e in
          let sink : a.sink ≡ 1 = ap (λ (y : ℕ × List ℕ). y.0) (sym pair) in
          let label : a.label ≡ 0 = reached s.keys a.label s.at s.walk in
          λ i. record { label = label i; sink = sink i; method = s.method i; pc = s.pc i }

  handed_place : (q at : ℕ) → (value_at f (x ∷ []) at).place ≡ Some q → q ≡ p
  handed_place q zero e = sym (same_Some p q (sym place ∙ e))
  handed_place q (suc at) e = absurd (none-some q e)

  call_post : (app : App) (lists : Lists) (w : World) → w.heap ≡ heap →
      CallsLibrary app lists w f (x ∷ []) post.proto.ret post_row (record w { arrivals = arrival_at f ∷ w.arrivals; handed = p ∷ w.handed }) blank
  unfolding is_void
  call_post app lists w same = record {
    with_shared = w.heap;
    with_result = w.heap;
    added = [];
    handed = λ q. (
      elim [ inl e ↦ inr (record { at = 0; place = subst (λ y. (f.registers x).place ≡ Some y) (sym e) place }) | inr h ↦ inl h ],
      elim [ inl h ↦ inr h | inr hands ↦ inl (handed_place q hands.at hands.place) ],
    );
    arrivals = λ a. (
      elim [ inl e ↦ inr (subst (λ y. AtSink w.heap f (x ∷ []) post_row y) (sym e) (subst (λ h. AtSink h f (x ∷ []) post_row (arrival_at f)) (sym same) arrives_by_key)) | inr h ↦ inl h ],
      elim [ inl h ↦ inr h | inr s ↦ inl (only_arrival a (subst (λ h. AtSink h f (x ∷ []) post_row a) same s)) ],
    );
    shared = all_there;
    results = of_void refl;
    adds = λ a. (λ h. absurd h, no_adds refl refl refl);
    heap = refl;
    components = refl;
  }

one_position : (x : ℕ) → positions Static post (x ∷ []) ≡ x ∷ []
unfolding positions is_wide
one_position x = refl

by_post_of_object : {app : App} {lists : Lists} {w : World} {f : Frame} {fs : List Frame} → Run app lists w (f ∷ fs) → Knows app lists →
    (x p to : ℕ) (ks : List KeyId) →
    step_at app f.method f.pc ≡ Some (step f.pc (Call Static post (x ∷ [])) (to ∷ [])) → f.registers x ≡ object_at (Some p) →
    Reaches w.heap (object_at (Some p)) ks 0 → ((js : List KeyId) (l : ℕ) → Reaches w.heap (object_at (Some p)) js l → l ≡ 0) →
    Run app lists (record w { arrivals = arrival_at f ∷ w.arrivals; handed = p ∷ w.handed }) (record f { pc = to; registers = write f.registers result_register blank } ∷ fs)
by_post_of_object {app} {lists} {w} {f} run known x p to ks e object leads only =
    then run (calls_library (act_of _ e) (next_of _ e (inl refl)) (known.post_used w.heap f x)
    (subst (λ places. CallsLibrary app lists w f places post.proto.ret post_row (record w { arrivals = arrival_at f ∷ w.arrivals; handed = p ∷ w.handed }) blank) (sym (one_position x)) (call_post f x p w.heap ks object leads only app lists w refl)))

-- its one entry has the label, or is an object whose one entry has it
module _ {app : App} {lists : Lists} {w : World} {f : Frame} {fs : List Frame} (run : Run app lists w (f ∷ fs)) (known : Knows app lists) (x p to : ℕ) (k : KeyId) (e : step_at app f.method f.pc ≡ Some (step f.pc (Call Static post (x ∷ [])) (to ∷ []))) (object : f.registers x ≡ object_at (Some p)) where
  pub by_post_of_one : EntryAt w.heap p k the_label → ((j : KeyId) (v : Value) → EntryAt w.heap p j v → v ≡ the_label) →
      Run app lists (record w { arrivals = arrival_at f ∷ w.arrivals; handed = p ∷ w.handed }) (record f { pc = to; registers = write f.registers result_register blank } ∷ fs)
  by_post_of_one entry alone =
      by_post_of_object run known x p to (k ∷ []) e object (p, refl, (the_label, entry, inl refl)) (only_of_object w.heap p the_label alone (only_label w.heap))

  by_post_of_nested : (q : ℕ) (i : KeyId) → EntryAt w.heap p k (object_at (Some q)) → ((j : KeyId) (v : Value) → EntryAt w.heap p j v → v ≡ object_at (Some q)) →
      EntryAt w.heap q i the_label → ((j : KeyId) (v : Value) → EntryAt w.heap q j v → v ≡ the_label) →
      Run app lists (record w { arrivals = arrival_at f ∷ w.arrivals; handed = p ∷ w.handed }) (record f { pc = to; registers = write f.registers result_register blank } ∷ fs)
  by_post_of_nested q i outer outer_alone inner inner_alone =
      by_post_of_object run known x p to (k ∷ i ∷ []) e object (p, refl, (object_at (Some q), outer, (q, refl, (the_label, inner, inl refl))))
      (only_of_object w.heap p (object_at (Some q)) outer_alone (only_of_object w.heap q the_label inner_alone (only_label w.heap)))

one_entry : (u : Value) (j : KeyId) (v : Value) → In {A = KeyId × Value} (j, v) ((field_key, u) ∷ []) → v ≡ u
one_entry u j v (inl same) = ap (λ (e : KeyId × Value). e.1) same
one_entry u j v (inr none) = absurd none

pub object_posted : Brings (activity_of in_object) small_lists 4
unfolding activity_of step_at body_named method_with up
object_posted =
    brings 4 (by_post_of_one (by_put_of (by_new (by_take (by_id (to_created small_lists (is_activity in_object refl)) (knows_both in_object) 1 refl) (0 ∷ []) 2 refl) 1 own_box 3 refl) 1 field_key 0 4 refl) (knows_both in_object) 1 1 5 field_key refl refl (inl refl) (one_entry the_label)) (inl refl)

pub nested_posted : Brings (activity_of in_nested) small_lists 6
unfolding activity_of step_at body_named method_with up
nested_posted =
    brings 6 (by_post_of_nested (by_put_of (by_new (by_put_of (by_new (by_take (by_id (to_created small_lists (is_activity in_nested refl)) (knows_both in_nested) 1 refl) (0 ∷ []) 2 refl) 1 own_box 3 refl) 1 field_key 0 4 refl) 2 own_box 5 refl) 2 field_key 1 6 refl) (knows_both in_nested) 2 2 7 field_key refl refl 1 field_key (inl refl) (one_entry (object_at (Some 1))) (inl refl) (one_entry the_label)) (inl refl)
