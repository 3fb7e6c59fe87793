-- Library calls that put, copy, store and take, whatever the app's own methods.
use Rattle.std.proofs.Common.{◌≡◌, ℕ, zero, suc, List, [], ◌∷◌, ◌⊎◌, ◌↔◌, inl, inr, Option, Some, None, refl, ap, sym, ◌∙◌, subst}
use Rattle.std.specs.Prelude.{length, ◌++◌}
use Rattle.app_machine.specs.declared.call.CallKind.TheVariants.{Static, Virtual}
use Rattle.app_machine.specs.declared.method.Step.{Step}
use Rattle.app_machine.specs.declared.method.Act.TheVariants.{Call}
use Rattle.app_machine.specs.declared.app.App.{App}
use Rattle.app_machine.specs.declared.lists.SummaryId.TheVariants.{Row}
use Rattle.vet_base.specs.Members.{In}
use Rattle.app_machine.specs.Names.{is_void, is_wide, is_array}
use Rattle.app_machine.specs.Lookups.{Library, body_or, elem_key, step_at, target, find_body, up, method_of, class_named, is_by_receiver}
use Rattle.app_machine.specs.Summaries.{library_key, summary, row_walk, library_classes, listed_above, listed_class, row_of}
use Rattle.app_machine.specs.Heap.{Value, Object, blank, EntryAt, ClassAt, put_at, entry_of}
use Rattle.app_machine.specs.State.{result_register, exception_register, write, shared_static, World, Frame, object_at, new_object}
use Rattle.app_machine.specs.Calls.{by_name, by_class, is_caught}
use Rattle.app_machine.specs.Library.{positions, value_at, Hands, all_there, is_there, is_made, shared_class, of_void, as_taken, as_shared, Adds, by_put, by_store, by_copy, CallsLibrary, UsesRow}
use Rattle.app_machine.specs.Run.{Run, calls_library, library_raises, then}
use Rattle.machine_witness.specs.Apps.{step}
use Rattle.machine_witness.specs.Flows.{box_lists, box_class, store_class, own_box, add, pour, keep, open_store, first, add_row, pour_row, keep_row, open_row, first_row, Scene, activity_of}
use Rattle.machine_witness.proofs.Acting.{act_of, next_of}
use Rattle.machine_witness.proofs.Flowing.{same_arrivals, no_adds, the_label}
use Rattle.std.proofs.lemmas.Option.{none-some}

module _ (s : Scene) where
  pub add_used : (heap : List Object) (f : Frame) (b x : ℕ) → UsesRow (activity_of s) box_lists heap f Static add (b ∷ x ∷ []) add_row
  unfolding activity_of box_lists target find_body up method_of is_by_receiver library_key summary row_walk library_classes class_named listed_above listed_class row_of is_array
  add_used heap f b x = record { class = box_class; goes = by_name refl refl; key = Row 2; is_key = refl; is_row = refl; plain = refl }

  pub pour_used : (heap : List Object) (f : Frame) (a b : ℕ) → UsesRow (activity_of s) box_lists heap f Static pour (a ∷ b ∷ []) pour_row
  unfolding activity_of box_lists target find_body up method_of is_by_receiver library_key summary row_walk library_classes class_named listed_above listed_class row_of is_array
  pour_used heap f a b = record { class = box_class; goes = by_name refl refl; key = Row 3; is_key = refl; is_row = refl; plain = refl }

  pub keep_used : (heap : List Object) (f : Frame) (x : ℕ) → UsesRow (activity_of s) box_lists heap f Static keep (x ∷ []) keep_row
  unfolding activity_of box_lists target find_body up method_of is_by_receiver library_key summary row_walk library_classes class_named listed_above listed_class row_of is_array
  keep_used heap f x = record { class = store_class; goes = by_name refl refl; key = Row 4; is_key = refl; is_row = refl; plain = refl }

  pub open_used : (heap : List Object) (f : Frame) → UsesRow (activity_of s) box_lists heap f Static open_store [] open_row
  unfolding activity_of box_lists target find_body up method_of is_by_receiver library_key summary row_walk library_classes class_named listed_above listed_class row_of is_array
  open_used heap f = record { class = store_class; goes = by_name refl refl; key = Row 5; is_key = refl; is_row = refl; plain = refl }

  -- on a box of the app's own, of whose class the app has no such method
  pub first_used : {p : ℕ} (heap : List Object) (f : Frame) (b : ℕ) → find_body (activity_of s) own_box first.name first.proto ≡ None → (f.registers b).place ≡ Some p → ClassAt heap p own_box → UsesRow (activity_of s) box_lists heap f Virtual first (b ∷ []) first_row
  unfolding activity_of box_lists target is_by_receiver library_key summary row_walk library_classes class_named listed_above listed_class row_of is_array
  first_used heap f b bare place class = record { class = box_class; goes = by_class own_box refl (record { there = refl }) place class (ap (λ x. body_or x (Library box_class)) bare); key = Row 6; is_key = refl; is_row = refl; plain = refl }

-- the positions of the calls
add_positions : (b x : ℕ) → positions Static add (b ∷ x ∷ []) ≡ b ∷ x ∷ []
unfolding positions is_wide
add_positions b x = refl

pour_positions : (a b : ℕ) → positions Static pour (a ∷ b ∷ []) ≡ a ∷ b ∷ []
unfolding positions is_wide
pour_positions a b = refl

keep_positions : (x : ℕ) → positions Static keep (x ∷ []) ≡ x ∷ []
unfolding positions is_wide
keep_positions x = refl

open_positions : positions Static open_store [] ≡ []
unfolding positions
open_positions = refl

first_positions : (b : ℕ) → positions Virtual first (b ∷ []) ≡ b ∷ []
unfolding positions is_wide
first_positions b = refl

-- the place of a value
placed : {v : Value} {p q : ℕ} → v ≡ object_at (Some p) → v.place ≡ Some q → q ≡ p
placed {v} {p} {q} e h = let same : ◌≡◌ {A = Option ℕ} (Some p) (Some q) = ap (λ (x : Value). x.place) (sym e) ∙ h in cc

unplaced : {A : Type 0} {v : Value} {q : ℕ} → v ≡ the_label → v.place ≡ Some q → A
unplaced {v = v} {q} e h = absurd (none-some q (ap (λ (x : Value). x.place) (sym e) ∙ h))

-- A box and the label: the label becomes an element, and the box is handed.
module _ (f : Frame) (b x p : ℕ) (box : f.registers b ≡ object_at (Some p)) (label : f.registers x ≡ the_label) where
  add_hands : (q : ℕ) → Hands f (b ∷ x ∷ []) q → q ≡ p
  add_hands q h = by h.at h.place
    where
      by : (at : ℕ) → (value_at f (b ∷ x ∷ []) at).place ≡ Some q → q ≡ p
      by zero e = placed box e
      by (suc zero) e = unplaced label e
      by (suc (suc at)) e = absurd (none-some q e)

  box_place : (f.registers b).place ≡ Some p
  box_place = ap (λ (v : Value). v.place) box

  added_label : {app : App} {heap : List Object} {statics : ℕ → Value} (a : ℕ × Value) → In a ((p, f.registers x) ∷ []) ↔ Adds app heap f (b ∷ x ∷ []) statics add_row a
  added_label {app} {heap} {statics} a = (elim [ inl e ↦ subst (λ (y : ℕ × Value). Adds app heap f (b ∷ x ∷ []) statics add_row y) (sym e) (by_put 1 0 (inl refl) box_place) | inr none ↦ absurd none ], back a)
    where
      pair : (i j q : ℕ) → i ≡ 1 → j ≡ 0 → (value_at f (b ∷ x ∷ []) j).place ≡ Some q → ◌≡◌ {A = ℕ × Value} (q, value_at f (b ∷ x ∷ []) i) (p, f.registers x)
      pair i j q i_is j_is there = λ k. (placed box (subst (λ y. (value_at f (b ∷ x ∷ []) y).place ≡ Some q) j_is there) k, value_at f (b ∷ x ∷ []) (i_is k))

      back : (y : ℕ × Value) → Adds app heap f (b ∷ x ∷ []) statics add_row y → In y ((p, f.registers x) ∷ [])
      back y (by_put i j {p = q} (inl e) there) = inl (pair i j q (ap (λ (y : ℕ × ℕ). y.0) e) (ap (λ (y : ℕ × ℕ). y.1) e) there)
      back y (by_put i j (inr none) there) = absurd none
      back y (by_store i s none there) = absurd none
      back y (by_copy i j q none source found there) = absurd none

  abbrev pub after_add : World → World
  after_add w = record w { heap = put_at w.heap p elem_key (f.registers x); handed = p ∷ w.handed }

  call_add : (app : App) (w : World) → CallsLibrary app box_lists w f (b ∷ x ∷ []) add.proto.ret add_row (after_add w) blank
  unfolding is_void
  call_add app w = record {
    with_shared = w.heap;
    with_result = w.heap;
    added = (p, f.registers x) ∷ [];
    handed = λ q. (elim [ inl e ↦ inr (record { at = 0; place = subst (λ y. (f.registers b).place ≡ Some y) (sym e) box_place }) | inr h ↦ inl h ], elim [ inl h ↦ inr h | inr hands ↦ inl (add_hands q hands) ]);
    arrivals = same_arrivals w.arrivals refl;
    shared = all_there;
    results = of_void refl;
    adds = added_label;
    heap = refl;
    components = refl;
  }

  pub add_call : (app : App) (w : World) → CallsLibrary app box_lists w f (positions Static add (b ∷ x ∷ [])) add.proto.ret add_row (after_add w) blank
  add_call app w = subst (λ places. CallsLibrary app box_lists w f places add.proto.ret add_row (after_add w) blank) (sym (add_positions b x)) (call_add app w)

-- The element of the one box becomes one of the other, and both are handed.
module _ (f : Frame) (a b p q : ℕ) (from : f.registers a ≡ object_at (Some p)) (to : f.registers b ≡ object_at (Some q)) where
  pour_hands : (o : ℕ) → Hands f (a ∷ b ∷ []) o → (o ≡ p) ⊎ (o ≡ q)
  pour_hands o h = by h.at h.place
    where
      by : (at : ℕ) → (value_at f (a ∷ b ∷ []) at).place ≡ Some o → (o ≡ p) ⊎ (o ≡ q)
      by zero e = inl (placed from e)
      by (suc zero) e = inr (placed to e)
      by (suc (suc at)) e = absurd (none-some o e)

  module _ (heap : List Object) (v : Value) (there : EntryAt heap p elem_key v) (alone : (w : Value) → EntryAt heap p elem_key w → w ≡ v) where
    poured : {app : App} {statics : ℕ → Value} (x : ℕ × Value) → In x ((q, v) ∷ []) ↔ Adds app heap f (a ∷ b ∷ []) statics pour_row x
    poured {app} {statics} x = (elim [ inl e ↦ subst (λ (y : ℕ × Value). Adds app heap f (a ∷ b ∷ []) statics pour_row y) (sym e) (by_copy 0 1 p (inl refl) (ap (λ (y : Value). y.place) from) there (ap (λ (y : Value). y.place) to)) | inr none ↦ absurd none ], back x)
      where
        pair : (i j o r : ℕ) (w : Value) → i ≡ 0 → j ≡ 1 → (value_at f (a ∷ b ∷ []) i).place ≡ Some o → EntryAt heap o elem_key w → (value_at f (a ∷ b ∷ []) j).place ≡ Some r → ◌≡◌ {A = ℕ × Value} (r, w) (q, v)
        pair i j o r w i_is j_is source found into =
            let of_from : o ≡ p = placed from (subst (λ y. (value_at f (a ∷ b ∷ []) y).place ≡ Some o) i_is source) in
            let is_v : w ≡ v = alone w (subst (λ y. EntryAt heap y elem_key w) of_from found) in
            let of_to : r ≡ q = placed to (subst (λ y. (value_at f (a ∷ b ∷ []) y).place ≡ Some r) j_is into) in
            λ k. (of_to k, is_v k)

        back : (y : ℕ × Value) → Adds app heap f (a ∷ b ∷ []) statics pour_row y → In y ((q, v) ∷ [])
        back y (by_put i j none into) = absurd none
        back y (by_store i s none into) = absurd none
        back y (by_copy i j o {p = r} {v = w} (inl e) source found into) = inl (pair i j o r w (ap (λ (y : ℕ × ℕ). y.0) e) (ap (λ (y : ℕ × ℕ). y.1) e) source found into)
        back y (by_copy i j o (inr none) source found into) = absurd none

    abbrev pub after_pour : World → World
    after_pour w = record w { heap = put_at heap q elem_key v; handed = p ∷ q ∷ w.handed }

    call_pour : (app : App) (w : World) → w.heap ≡ heap → CallsLibrary app box_lists w f (a ∷ b ∷ []) pour.proto.ret pour_row (after_pour w) blank
    unfolding is_void
    call_pour app w same = record {
      with_shared = w.heap;
      with_result = w.heap;
      added = (q, v) ∷ [];
      handed = λ o. (
        elim [
          | inl e ↦ inr (record { at = 0; place = ap (λ (y : Value). y.place) from ∙ ap (λ y. Some y) (sym e) })
          | inr (inl e) ↦ inr (record { at = 1; place = ap (λ (y : Value). y.place) to ∙ ap (λ y. Some y) (sym e) })
          | inr (inr h) ↦ inl h
        ],
        elim [ inl h ↦ inr (inr h) | inr hands ↦ elim (pour_hands o hands) [ inl e ↦ inl e | inr e ↦ inr (inl e) ] ],
      );
      arrivals = same_arrivals w.arrivals refl;
      shared = all_there;
      results = of_void refl;
      adds = λ x. subst (λ h. In x ((q, v) ∷ []) ↔ Adds app h f (a ∷ b ∷ []) w.statics pour_row x) (sym same) (poured x);
      heap = ap (λ h. put_at h q elem_key v) (sym same);
      components = refl;
    }

    pub pour_call : (app : App) (w : World) → w.heap ≡ heap → CallsLibrary app box_lists w f (positions Static pour (a ∷ b ∷ [])) pour.proto.ret pour_row (after_pour w) blank
    pour_call app w same = subst (λ places. CallsLibrary app box_lists w f places pour.proto.ret pour_row (after_pour w) blank) (sym (pour_positions a b)) (call_pour app w same)

-- The label becomes an element of the shared store, which is made.
module _ (f : Frame) (x : ℕ) (label : f.registers x ≡ the_label) where
  store_is : shared_class box_lists 0 ≡ Some store_class
  unfolding shared_class box_lists
  store_is = refl

  abbrev kept_statics : App → World → ℕ → Value
  kept_statics app w = write w.statics (shared_static app 0) (object_at (Some (length w.heap)))

  abbrev pub after_keep : App → World → World
  after_keep app w = record w { heap = put_at (w.heap ++ new_object store_class ∷ []) (length w.heap) elem_key (f.registers x); statics = write w.statics (shared_static app 0) (object_at (Some (length w.heap))) }

  call_keep : (app : App) (w : World) → (w.statics (shared_static app 0)).place ≡ None → (write w.statics (shared_static app 0) (object_at (Some (length w.heap))) (shared_static app 0)).place ≡ Some (length w.heap)
      → CallsLibrary app box_lists w f (x ∷ []) keep.proto.ret keep_row (after_keep app w) blank
  unfolding is_void
  call_keep app w missing made = record {
    with_shared = w.heap ++ new_object store_class ∷ [];
    with_result = w.heap ++ new_object store_class ∷ [];
    added = (length w.heap, f.registers x) ∷ [];
    handed = λ p. (λ h. inl h, elim [ inl h ↦ h | inr hands ↦ none_handed p hands.at hands.place ]);
    arrivals = same_arrivals w.arrivals refl;
    shared = is_made missing store_is all_there;
    results = of_void refl;
    adds = λ a. (to a, back a);
    heap = refl;
    components = refl;
  }
    where
      none_handed : {A : Type 0} (p at : ℕ) → (value_at f (x ∷ []) at).place ≡ Some p → A
      none_handed p zero e = unplaced label e
      none_handed p (suc at) e = absurd (none-some p e)

      to : (a : ℕ × Value) → In a ((length w.heap, f.registers x) ∷ []) → Adds app w.heap f (x ∷ []) (kept_statics app w) keep_row a
      to a (inl e) = subst (λ (y : ℕ × Value). Adds app w.heap f (x ∷ []) (kept_statics app w) keep_row y) (sym e) (by_store 0 0 (inl refl) made)
      to a (inr none) = absurd none

      pair : (i s p : ℕ) → i ≡ 0 → s ≡ 0 → (kept_statics app w (shared_static app s)).place ≡ Some p → ◌≡◌ {A = ℕ × Value} (p, value_at f (x ∷ []) i) (length w.heap, f.registers x)
      pair i s p i_is s_is there =
          let same : ◌≡◌ {A = Option ℕ} (Some p) (Some (length w.heap)) = sym (subst (λ y. (kept_statics app w (shared_static app y)).place ≡ Some p) s_is there) ∙ made in
          let place : p ≡ length w.heap = cc in
          λ k. (place k, value_at f (x ∷ []) (i_is k))

      back : (a : ℕ × Value) → Adds app w.heap f (x ∷ []) (kept_statics app w) keep_row a → In a ((length w.heap, f.registers x) ∷ [])
      back a (by_put i j none there) = absurd none
      back a (by_store i s {p = p} (inl e) there) = inl (pair i s p (ap (λ (y : ℕ × ℕ). y.0) e) (ap (λ (y : ℕ × ℕ). y.1) e) there)
      back a (by_store i s (inr none) there) = absurd none
      back a (by_copy i j q none source found there) = absurd none

  pub keep_call : (app : App) (w : World) → (w.statics (shared_static app 0)).place ≡ None → (write w.statics (shared_static app 0) (object_at (Some (length w.heap))) (shared_static app 0)).place ≡ Some (length w.heap)
      → CallsLibrary app box_lists w f (positions Static keep (x ∷ [])) keep.proto.ret keep_row (after_keep app w) blank
  keep_call app w missing made = subst (λ places. CallsLibrary app box_lists w f places keep.proto.ret keep_row (after_keep app w) blank) (sym (keep_positions x)) (call_keep app w missing made)

-- The store that is there is given.
call_open : (app : App) (w : World) (f : Frame) (p : ℕ) → (w.statics (shared_static app 0)).place ≡ Some p → CallsLibrary app box_lists w f [] open_store.proto.ret open_row w (w.statics (shared_static app 0))
unfolding is_void
call_open app w f p there = record {
  with_shared = w.heap;
  with_result = w.heap;
  added = [];
  handed = λ q. (λ h. inl h, elim [ inl h ↦ h | inr hands ↦ absurd (none-some q hands.place) ]);
  arrivals = same_arrivals w.arrivals refl;
  shared = is_there there all_there;
  results = as_shared refl;
  adds = λ a. (λ h. absurd h, no_adds refl refl refl);
  heap = refl;
  components = refl;
}

pub open_call : (app : App) (w : World) (f : Frame) (p : ℕ) → (w.statics (shared_static app 0)).place ≡ Some p → CallsLibrary app box_lists w f (positions Static open_store []) open_store.proto.ret open_row w (w.statics (shared_static app 0))
open_call app w f p there = subst (λ places. CallsLibrary app box_lists w f places open_store.proto.ret open_row w (w.statics (shared_static app 0))) (sym open_positions) (call_open app w f p there)

-- An element of the box is given, and the box is handed.
module _ (f : Frame) (b p : ℕ) (box : f.registers b ≡ object_at (Some p)) where
  call_first : (app : App) (w : World) (v : Value) → EntryAt w.heap p elem_key v → CallsLibrary app box_lists w f (b ∷ []) first.proto.ret first_row (record w { handed = p ∷ w.handed }) v
  unfolding is_void
  call_first app w v there = record {
    with_shared = w.heap;
    with_result = w.heap;
    added = [];
    handed = λ q. (elim [ inl e ↦ inr (record { at = 0; place = ap (λ (y : Value). y.place) box ∙ ap (λ y. Some y) (sym e) }) | inr h ↦ inl h ], elim [ inl h ↦ inr h | inr hands ↦ inl (the_box q hands.at hands.place) ]);
    arrivals = same_arrivals w.arrivals refl;
    shared = all_there;
    results = as_taken refl (entry_of (ap (λ (y : Value). y.place) box) there);
    adds = λ a. (λ h. absurd h, no_adds refl refl refl);
    heap = refl;
    components = refl;
  }
    where
      the_box : (q at : ℕ) → (value_at f (b ∷ []) at).place ≡ Some q → q ≡ p
      the_box q zero e = placed box e
      the_box q (suc at) e = absurd (none-some q e)

  pub first_call : (app : App) (w : World) (v : Value) → EntryAt w.heap p elem_key v → CallsLibrary app box_lists w f (positions Virtual first (b ∷ [])) first.proto.ret first_row (record w { handed = p ∷ w.handed }) v
  first_call app w v there = subst (λ places. CallsLibrary app box_lists w f places first.proto.ret first_row (record w { handed = p ∷ w.handed }) v) (sym (first_positions b)) (call_first app w v there)

-- How a run goes on by these calls.
module _ (s : Scene) {w : World} {f : Frame} {fs : List Frame} (run : Run (activity_of s) box_lists w (f ∷ fs)) where
  pub by_add : (b x p : ℕ) (st : Step) (to : ℕ) → f.registers b ≡ object_at (Some p) → f.registers x ≡ the_label → step_at (activity_of s) f.method f.pc ≡ Some st → st.act ≡ Call Static add (b ∷ x ∷ []) → In to st.next
      → Run (activity_of s) box_lists (record w { heap = put_at w.heap p elem_key (f.registers x); handed = p ∷ w.handed }) (record f { pc = to; registers = write f.registers result_register blank } ∷ fs)
  by_add b x p st to box label there same next = then run (calls_library (record { step = st; there = there; same = same }) (next_of st there next) (add_used s w.heap f b x) (add_call f b x p box label (activity_of s) w))

  -- it puts, and then raises
  pub by_add_and_raise : (b x p : ℕ) (st : Step) (to : ℕ) → f.registers b ≡ object_at (Some p) → f.registers x ≡ the_label → step_at (activity_of s) f.method f.pc ≡ Some st → st.act ≡ Call Static add (b ∷ x ∷ []) → In to st.catches
      → Run (activity_of s) box_lists (record w { heap = put_at w.heap p elem_key (f.registers x); handed = p ∷ w.handed }) (record f { pc = to; registers = write f.registers exception_register blank } ∷ fs)
  by_add_and_raise b x p st to box label there same catch =
      then run (library_raises (record { step = st; there = there; same = same }) (add_used s w.heap f b x) (add_call f b x p box label (activity_of s) w) (is_caught (record { step = st; there = there; catch = catch })))

  pub by_pour : (a b p q : ℕ) (v : Value) (to : ℕ) → f.registers a ≡ object_at (Some p) → f.registers b ≡ object_at (Some q) → EntryAt w.heap p elem_key v → ((u : Value) → EntryAt w.heap p elem_key u → u ≡ v) → step_at (activity_of s) f.method f.pc ≡ Some (step f.pc (Call Static pour (a ∷ b ∷ [])) (to ∷ []))
      → Run (activity_of s) box_lists (record w { heap = put_at w.heap q elem_key v; handed = p ∷ q ∷ w.handed }) (record f { pc = to; registers = write f.registers result_register blank } ∷ fs)
  by_pour a b p q v to from into there alone e = then run (calls_library (act_of _ e) (next_of _ e (inl refl)) (pour_used s w.heap f a b) (pour_call f a b p q from into w.heap v there alone (activity_of s) w refl))

  pub by_keep : (x to : ℕ) → f.registers x ≡ the_label → (w.statics (shared_static (activity_of s) 0)).place ≡ None → (write w.statics (shared_static (activity_of s) 0) (object_at (Some (length w.heap))) (shared_static (activity_of s) 0)).place ≡ Some (length w.heap) → step_at (activity_of s) f.method f.pc ≡ Some (step f.pc (Call Static keep (x ∷ [])) (to ∷ []))
      → Run (activity_of s) box_lists (record w { heap = put_at (w.heap ++ new_object store_class ∷ []) (length w.heap) elem_key (f.registers x); statics = write w.statics (shared_static (activity_of s) 0) (object_at (Some (length w.heap))) }) (record f { pc = to; registers = write f.registers result_register blank } ∷ fs)
  by_keep x to label missing made e = then run (calls_library (act_of _ e) (next_of _ e (inl refl)) (keep_used s w.heap f x) (keep_call f x label (activity_of s) w missing made))

  pub by_open : (p to : ℕ) → (w.statics (shared_static (activity_of s) 0)).place ≡ Some p → step_at (activity_of s) f.method f.pc ≡ Some (step f.pc (Call Static open_store []) (to ∷ []))
      → Run (activity_of s) box_lists w (record f { pc = to; registers = write f.registers result_register (w.statics (shared_static (activity_of s) 0)) } ∷ fs)
  by_open p to there e = then run (calls_library (act_of _ e) (next_of _ e (inl refl)) (open_used s w.heap f) (open_call (activity_of s) w f p there))

  pub by_first : (b p : ℕ) (v : Value) (to : ℕ) → find_body (activity_of s) own_box first.name first.proto ≡ None → f.registers b ≡ object_at (Some p) → ClassAt w.heap p own_box → EntryAt w.heap p elem_key v → step_at (activity_of s) f.method f.pc ≡ Some (step f.pc (Call Virtual first (b ∷ [])) (to ∷ []))
      → Run (activity_of s) box_lists (record w { handed = p ∷ w.handed }) (record f { pc = to; registers = write f.registers result_register v } ∷ fs)
  by_first b p v to bare box class there e = then run (calls_library (act_of _ e) (next_of _ e (inl refl)) (first_used s w.heap f b bare (ap (λ (y : Value). y.place) box) class) (first_call f b p box (activity_of s) w v there))
