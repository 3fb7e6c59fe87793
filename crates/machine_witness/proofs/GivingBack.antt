-- A library call that gives back a box that was handed.
use Rattle.std.proofs.Common.{◌≡◌, ℕ, List, [], ◌∷◌, inl, inr, Some, refl, sym, subst}
use Rattle.std.proofs.lemmas.Option.{none-some}
use Rattle.app_machine.specs.declared.call.CallKind.TheVariants.{Static}
use Rattle.app_machine.specs.declared.method.Act.TheVariants.{Call}
use Rattle.app_machine.specs.declared.lists.SummaryId.TheVariants.{Row}
use Rattle.vet_base.specs.Members.{In}
use Rattle.app_machine.specs.Names.{is_void, is_reference, is_array}
use Rattle.app_machine.specs.Lookups.{step_at, target, find_body, up, method_of, class_named, is_by_receiver}
use Rattle.app_machine.specs.Summaries.{library_key, summary, row_walk, library_classes, listed_above, listed_class, row_of, Below, is_same, is_through, of_class}
use Rattle.app_machine.specs.Heap.{Object, ClassAt}
use Rattle.app_machine.specs.State.{result_register, write, World, Frame, object_at}
use Rattle.app_machine.specs.Calls.{by_name}
use Rattle.app_machine.specs.Library.{positions, all_there, was_handed, as_given_back, CallsLibrary, UsesRow}
use Rattle.app_machine.specs.Run.{Run, calls_library, then}
use Rattle.machine_witness.specs.Apps.{step}
use Rattle.machine_witness.specs.Flows.{box_lists, box_class, own_box, own_box_class, find, find_row, Scene, activity_of}
use Rattle.machine_witness.proofs.Acting.{act_of, next_of}
use Rattle.machine_witness.proofs.Flowing.{same_arrivals, no_adds}

module _ (s : Scene) where
  find_used : (heap : List Object) (f : Frame) → UsesRow (activity_of s) box_lists heap f Static find [] find_row
  unfolding activity_of box_lists target find_body up method_of is_by_receiver library_key summary row_walk library_classes class_named listed_above listed_class row_of is_array
  find_used heap f = record { class = box_class; goes = by_name refl refl; key = Row 7; is_key = refl; is_row = refl; plain = refl }

  own_below : Below (activity_of s) box_lists own_box box_class
  unfolding activity_of class_named
  own_below = of_class (is_through own_box_class refl (inl refl) is_same)

  call_find : (w : World) (f : Frame) (p : ℕ) → In p w.handed → ClassAt w.heap p own_box → CallsLibrary (activity_of s) box_lists w f [] find.proto.ret find_row w (object_at (Some p))
  unfolding is_void is_reference
  call_find w f p among class = record {
    with_shared = w.heap;
    with_result = w.heap;
    added = [];
    handed = λ q. (λ h. inl h, elim [ inl h ↦ h | inr hands ↦ absurd (none-some q hands.place) ]);
    arrivals = same_arrivals w.arrivals refl;
    shared = all_there;
    results = as_given_back refl (was_handed among) class own_below;
    adds = λ a. (λ h. absurd h, no_adds refl refl refl);
    heap = refl;
    components = refl;
  }

find_positions : positions Static find [] ≡ []
unfolding positions
find_positions = refl

module _ (s : Scene) {w : World} {f : Frame} {fs : List Frame} (run : Run (activity_of s) box_lists w (f ∷ fs)) where
  pub by_find : (p to : ℕ) → In p w.handed → ClassAt w.heap p own_box → step_at (activity_of s) f.method f.pc ≡ Some (step f.pc (Call Static find []) (to ∷ [])) →
      Run (activity_of s) box_lists w (record f { pc = to; registers = write f.registers result_register (object_at (Some p)) } ∷ fs)
  by_find p to among class e =
      then run (calls_library (act_of _ e) (next_of _ e (inl refl)) (find_used s w.heap f)
      (subst (λ places. CallsLibrary (activity_of s) box_lists w f places find.proto.ret find_row w (object_at (Some p))) (sym find_positions) (call_find s w f p among class)))
