-- The run in which the label comes into an object by a copy, and arrives with it.
use Rattle.std.proofs.Common.{◌≡◌, ℕ, zero, suc, List, [], ◌∷◌, ◌⊎◌, ◌↔◌, inl, inr, Option, Some, None, refl, ap, sym, ◌∙◌, subst}
use Rattle.std.specs.Prelude.{length, ◌++◌}
use Rattle.std.proofs.lemmas.Option.{none-some, same_Some}
use Rattle.vet_base.specs.declared.key_id.KeyId.{KeyId}
use Rattle.vet_base.specs.Members.{In}
use Rattle.app_machine.specs.declared.call.CallKind.TheVariants.{Static}
use Rattle.app_machine.specs.declared.method.Act.TheVariants.{Call}
use Rattle.app_machine.specs.declared.app.App.{App}
use Rattle.app_machine.specs.declared.lists.Lists.{Lists}
use Rattle.app_machine.specs.declared.lists.SummaryId.TheVariants.{Row}
use Rattle.app_machine.specs.Names.{is_void, is_wide, is_array, is_reference}
use Rattle.app_machine.specs.Lookups.{elem_key, step_at, body_named, method_with, target, find_body, up, method_of, class_named, is_by_receiver}
use Rattle.app_machine.specs.Summaries.{library_key, summary, row_walk, library_classes, listed_above, listed_class, row_of}
use Rattle.app_machine.specs.Heap.{Value, Object, blank, EntryAt, put_at}
use Rattle.app_machine.specs.State.{result_register, write, World, Frame, object_at}
use Rattle.app_machine.specs.Calls.{by_name}
use Rattle.app_machine.specs.Library.{positions, value_at, Hands, all_there, of_void, as_object, AreJoined, joined_object, Adds, by_put, by_store, by_copy as adds_by_copy, CallsLibrary, UsesRow}
use Rattle.app_machine.specs.Run.{Run, calls_library, then}
use Rattle.machine_witness.specs.Apps.{device_class, net_class, step}
use Rattle.machine_witness.specs.Flows.{box_class, own_box, Scene, activity_of}
use Rattle.machine_witness.proofs.Acting.{act_of, next_of}
use Rattle.machine_witness.proofs.Beginning.{is_activity, to_created}
use Rattle.machine_witness.proofs.Flowing.{by_take, by_new, Knows, same_arrivals, no_adds, the_label}
use Rattle.cell_witness.specs.Copying.{give, draw, give_row, draw_row, copying_lists, by_copy}
use Rattle.cell_witness.proofs.Runs.{Brings, brings, by_post_of_one}

module _ (s : Scene) where
  knows_calls : Knows (activity_of s) copying_lists
  unfolding activity_of copying_lists target find_body up method_of is_by_receiver library_key summary row_walk library_classes class_named listed_above listed_class row_of is_array
  knows_calls = record {
    id_used = λ heap f. record { class = device_class; goes = by_name refl refl; key = Row 0; is_key = refl; is_row = refl; plain = refl };
    post_used = λ heap f x. record { class = net_class; goes = by_name refl refl; key = Row 1; is_key = refl; is_row = refl; plain = refl };
  }

  give_used : (heap : List Object) (f : Frame) → UsesRow (activity_of s) copying_lists heap f Static give [] give_row
  unfolding activity_of copying_lists target find_body up method_of is_by_receiver library_key summary row_walk library_classes class_named listed_above listed_class row_of is_array
  give_used heap f = record { class = box_class; goes = by_name refl refl; key = Row 2; is_key = refl; is_row = refl; plain = refl }

  draw_used : (heap : List Object) (f : Frame) (a b : ℕ) → UsesRow (activity_of s) copying_lists heap f Static draw (a ∷ b ∷ []) draw_row
  unfolding activity_of copying_lists target find_body up method_of is_by_receiver library_key summary row_walk library_classes class_named listed_above listed_class row_of is_array
  draw_used heap f a b = record { class = box_class; goes = by_name refl refl; key = Row 3; is_key = refl; is_row = refl; plain = refl }

give_positions : positions Static give [] ≡ []
unfolding positions
give_positions = refl

draw_positions : (a b : ℕ) → positions Static draw (a ∷ b ∷ []) ≡ a ∷ b ∷ []
unfolding positions is_wide
draw_positions a b = refl

-- the result of the source: an object that is labelled, and whose one element is
abbrev the_box : World → Value
the_box w = record { place = Some (length w.heap); labels = 0 ∷ [] }

abbrev after_give : World → World
after_give w = record w { heap = w.heap ++ joined_object box_class (0 ∷ []) ∷ [] }

source_alone : (heap : List Object) (f : Frame) → AreJoined heap f [] [] (Some 0) (0 ∷ [])
source_alone heap f l = (elim [ inl e ↦ inl (ap (λ x. Some x) (sym e)) | inr none ↦ absurd none ], elim [ inl e ↦ inl (sym (same_Some 0 l e)) | inr h ↦ absurd h.1 ])

call_give : (app : App) (w : World) (f : Frame) → CallsLibrary app copying_lists w f [] give.proto.ret give_row (after_give w) (the_box w)
unfolding is_void is_reference
call_give app w f = record {
  with_shared = w.heap;
  with_result = w.heap ++ joined_object box_class (0 ∷ []) ∷ [];
  added = [];
  handed = λ p. (λ h. inl h, elim [ inl h ↦ h | inr hands ↦ absurd (none-some p hands.place) ]);
  arrivals = same_arrivals w.arrivals refl;
  shared = all_there;
  results = as_object refl refl (source_alone w.heap f);
  adds = λ a. (λ h. absurd h, no_adds refl refl refl);
  heap = refl;
  components = refl;
}

-- The element of the second box becomes one of the first, and both are handed.
module _ (f : Frame) (a b p q : ℕ) (to : (f.registers a).place ≡ Some q) (from : (f.registers b).place ≡ Some p) where
  draw_hands : (o : ℕ) → Hands f (a ∷ b ∷ []) o → (o ≡ q) ⊎ (o ≡ p)
  draw_hands o h = by h.at h.place
    where
      by : (at : ℕ) → (value_at f (a ∷ b ∷ []) at).place ≡ Some o → (o ≡ q) ⊎ (o ≡ p)
      by zero e = inl (same_Some o q (sym e ∙ to))
      by (suc zero) e = inr (same_Some o p (sym e ∙ from))
      by (suc (suc at)) e = absurd (none-some o e)

  module _ (heap : List Object) (v : Value) (there : EntryAt heap p elem_key v) (alone : (w : Value) → EntryAt heap p elem_key w → w ≡ v) where
    drawn : {app : App} {statics : ℕ → Value} (x : ℕ × Value) → In x ((q, v) ∷ []) ↔ Adds app heap f (a ∷ b ∷ []) statics draw_row x
    drawn {app} {statics} x = (
      elim [
        | inl e ↦ subst (λ (y : ℕ × Value). Adds app heap f (a ∷ b ∷ []) statics draw_row y) (sym e) (adds_by_copy 1 0 p (inl refl) from there to)
        | inr none ↦ absurd none
      ],
      back x,
    )
      where
        pair : (i j o r : ℕ) (w : Value) → i ≡ 1 → j ≡ 0 → (value_at f (a ∷ b ∷ []) i).place ≡ Some o → EntryAt heap o elem_key w →
            (value_at f (a ∷ b ∷ []) j).place ≡ Some r → ◌≡◌ {A = ℕ × Value} (r, w) (q, v)
        pair i j o r w i_is j_is source found into =
            let of_from : o ≡ p = same_Some o p (sym (subst (λ y. (value_at f (a ∷ b ∷ []) y).place ≡ Some o) i_is source) ∙ from) in
            let is_v : w ≡ v = alone w (subst (λ y. EntryAt heap y elem_key w) of_from found) in
            let of_to : r ≡ q = same_Some r q (sym (subst (λ y. (value_at f (a ∷ b ∷ []) y).place ≡ Some r) j_is into) ∙ to) in
            λ k. (of_to k, is_v k)

        back : (y : ℕ × Value) → Adds app heap f (a ∷ b ∷ []) statics draw_row y → In y ((q, v) ∷ [])
        back y (by_put i j none into) = absurd none
        back y (by_store i s none into) = absurd none
        back y (adds_by_copy i j o {p = r} {v = w} (inl e) source found into) =
            inl (pair i j o r w (ap (λ (y : ℕ × ℕ). y.0) e) (ap (λ (y : ℕ × ℕ). y.1) e) source found into)
        back y (adds_by_copy i j o (inr none) source found into) = absurd none

    abbrev after_draw : World → World
    after_draw w = record w { heap = put_at heap q elem_key v; handed = q ∷ p ∷ w.handed }

    call_draw : (app : App) (w : World) → w.heap ≡ heap → CallsLibrary app copying_lists w f (a ∷ b ∷ []) draw.proto.ret draw_row (after_draw w) blank
    unfolding is_void
    call_draw app w same = record {
      with_shared = w.heap;
      with_result = w.heap;
      added = (q, v) ∷ [];
      handed = λ o. (
        elim [
          | inl e ↦ inr (record { at = 0; place = to ∙ ap (λ y. Some y) (sym e) })
          | inr (inl e) ↦ inr (record { at = 1; place = from ∙ ap (λ y. Some y) (sym e) })
          | inr (inr h) ↦ inl h
        ],
        elim [ inl h ↦ inr (inr h) | inr hands ↦ elim (draw_hands o hands) [ inl e ↦ inl e | inr e ↦ inr (inl e) ] ],
      );
      arrivals = same_arrivals w.arrivals refl;
      shared = all_there;
      results = of_void refl;
      adds = λ x. subst (λ h. In x ((q, v) ∷ []) ↔ Adds app h f (a ∷ b ∷ []) w.statics draw_row x) (sym same) (drawn x);
      heap = ap (λ h. put_at h q elem_key v) (sym same);
      components = refl;
    }

module _ (s : Scene) {w : World} {f : Frame} {fs : List Frame} (run : Run (activity_of s) copying_lists w (f ∷ fs)) where
  by_give : (to : ℕ) → step_at (activity_of s) f.method f.pc ≡ Some (step f.pc (Call Static give []) (to ∷ [])) →
      Run (activity_of s) copying_lists (after_give w) (record f { pc = to; registers = write f.registers result_register (the_box w) } ∷ fs)
  by_give to e =
      then run (calls_library (act_of _ e) (next_of _ e (inl refl)) (give_used s w.heap f)
      (subst (λ places. CallsLibrary (activity_of s) copying_lists w f places give.proto.ret give_row (after_give w) (the_box w)) (sym give_positions)
      (call_give (activity_of s) w f)))

  by_draw : (a b p q to : ℕ) (v : Value) → step_at (activity_of s) f.method f.pc ≡ Some (step f.pc (Call Static draw (a ∷ b ∷ [])) (to ∷ [])) →
      (f.registers a).place ≡ Some q → (f.registers b).place ≡ Some p → EntryAt w.heap p elem_key v → ((u : Value) → EntryAt w.heap p elem_key u → u ≡ v) →
      Run (activity_of s) copying_lists (record w { heap = put_at w.heap q elem_key v; handed = q ∷ p ∷ w.handed })
      (record f { pc = to; registers = write f.registers result_register blank } ∷ fs)
  by_draw a b p q to v e into from there alone =
      then run (calls_library (act_of _ e) (next_of _ e (inl refl)) (draw_used s w.heap f a b)
      (subst (λ places. CallsLibrary (activity_of s) copying_lists w f places draw.proto.ret draw_row
      (record w { heap = put_at w.heap q elem_key v; handed = q ∷ p ∷ w.handed }) blank) (sym (draw_positions a b))
      (call_draw f a b p q into from w.heap v there alone (activity_of s) w refl)))

holds_label_alone : (u : Value) → (◌≡◌ {A = KeyId × Value} (elem_key, u) (elem_key, the_label)) ⊎ ⊥ → u ≡ the_label
holds_label_alone u (inl e) = ap (λ (x : KeyId × Value). x.1) e
holds_label_alone u (inr none) = absurd none

one_entry : (j : KeyId) (v : Value) → In {A = KeyId × Value} (j, v) ((elem_key, the_label) ∷ []) → v ≡ the_label
one_entry j v (inl same) = ap (λ (e : KeyId × Value). e.1) same
one_entry j v (inr none) = absurd none

pub copy_posted : Brings (activity_of by_copy) copying_lists 4
unfolding activity_of step_at body_named method_with up
copy_posted =
    let given = by_give by_copy (to_created copying_lists (is_activity by_copy refl)) 1 refl in
    let made = by_new (by_take given (1 ∷ []) 2 refl) 2 own_box 3 refl in
    let poured = by_draw by_copy made 2 1 1 2 4 the_label refl refl refl (inl refl) holds_label_alone in
    brings 4 (by_post_of_one poured (knows_calls by_copy) 2 2 5 elem_key refl refl (inl refl) one_entry) (inl refl)
