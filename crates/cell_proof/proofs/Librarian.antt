-- A library call by its row keeps what is known.
use Rattle.std.proofs.Common.{◌≡◌, ℕ, List, [], ◌∷◌, ◌++◌, length, Bool, true, false, cond, ◌⊎◌, inl, inr, Option, Some, None, refl, ap, sym, ◌∙◌, subst, arith}
use Rattle.std.proofs.lemmas.Option.{same_Some}
use Rattle.std.specs.Prelude.{IsTrue, IsFalse, slice_get, map}
use Rattle.vet_base.specs.declared.key_id.KeyId.{KeyId}
use Rattle.app_machine.specs.declared.call.MethodRef.{MethodRef}
use Rattle.app_machine.specs.declared.call.CallKind.{CallKind}
use Rattle.app_machine.specs.declared.method.Act.TheVariants.{Call}
use Rattle.app_machine.specs.declared.summary.Gives.{Gives}
use Rattle.app_machine.specs.declared.summary.Gives.TheVariants.{Joined, Handed}
use Rattle.app_machine.specs.declared.summary.Summary.{Summary}
use Rattle.app_machine.specs.declared.lists.Lists.{Lists}
use Rattle.app_machine.specs.declared.lists.SummaryId.{SummaryId}
use Rattle.app_machine.specs.declared.app.App.{App}
use Rattle.vet_base.specs.Members.{In, IsAt}
use Rattle.vet_base.proofs.Members.{in_slice_get, in_either}
use Rattle.app_machine.specs.Names.{Name, is_reference, is_void}
use Rattle.app_machine.specs.Lookups.{Target, Library, elem_key, ActAt, Goes}
use Rattle.app_machine.specs.Heap.{Value, Object, blank, labelled, EntryAt, ClassAt, Reaches, add_all, entry_of}
use Rattle.app_machine.specs.Summaries.{Below}
use Rattle.app_machine.specs.State.{result_register, shared_static, Arrival, World, Frame, object_at, new_object}
use Rattle.app_machine.specs.Calls.{CallsTo, by_name, by_nothing, by_class}
use Rattle.app_machine.specs.Library.{positions, value_at, AtSink, Hands, result_shared, shared_named, MakesShared, all_there, is_there, is_made, Joins, joined_object, HasObject, was_handed, is_live, Results, of_void, as_blank, as_same, as_taken, as_shared, as_labels, as_object, as_nothing, as_given_back, Adds, by_put, by_store, by_copy, CallsLibrary, UsesRow}
use Rattle.fact_rows.specs.declared.context.Ctx.{Ctx}
use Rattle.fact_rows.specs.declared.context.Activation.{Activation}
use Rattle.fact_rows.specs.declared.site.Site.{Site}
use Rattle.fact_rows.specs.declared.site.Site.TheVariants.{Component, Shared}
use Rattle.flow_rules.specs.Nodes.{at_pc}
use Rattle.flow_rules.specs.Sites.{SiteClass}
use Rattle.flow_rules.specs.CallRules.{LooksUp, finds_row, use_by_name, use_by_class}
use Rattle.flow_rules.specs.HandedRules.{MayGiveBack}
use Rattle.flow_rules.specs.LibraryRules.{RowAt, places_of, hand_points, shared_static_points, row_put_cell, store_static, store_cell, copy_cell}
use Rattle.fact_rows.specs.declared.row.Row.{Row}
use Rattle.fact_rows.specs.declared.row.Row.TheVariants.{Points, Label, Cell, StaticPoints, CellLabel, Holds, Uses, Arrive}
use Rattle.cell_rules.specs.Making.{made_at}
use Rattle.cell_rules.specs.Reading.{ReadAt}
use Rattle.cell_rules.specs.HandedRules.{handed_points, live_points}
use Rattle.cell_rules.specs.LibraryRules.{LeadsFrom, own_label, held_label, sink_arrives, same_points, same_label, taken_points, taken_label, joined_points, joined_label, joined_element, source_label, source_element, shared_points, row_put_label, store_label, copy_label}
use Rattle.flow_rules.specs.Rules.{Each}
use Rattle.cell_rules.specs.Rules.{Closed}
use Rattle.flow_proof.proofs.HeapLaws.{EntryAt-add_all, ClassAt-add_all, length-add_all}
use Rattle.flow_proof.proofs.Growing.{with_site}
use Rattle.flow_proof.proofs.Later.{shared_site, stored, shared_result}
use Rattle.flow_proof.proofs.Knowing.{node_of}
use Rattle.cell_proof.proofs.Fitting.{Fits, CellFits, Changed, NewFits, fits_map, fits_sized, fits_grown, new_fits, blank_fits, placeless_fits, gets_fit, walked}
use Rattle.cell_proof.proofs.Knowing.{RegisterFits, StaticFits, HandedFits, ArrivalKnown, Waits, Runs, fits_here, handed_of}
use Rattle.cell_proof.proofs.Making.{made_class}
use Rattle.cell_proof.proofs.Positions.{position_read}
use Rattle.cell_proof.proofs.Lasting.{kept_call, kept_library, looked_kept, lib, hnd, running_changed, running_grown, running_writing}

-- The frame runs in a later heap, and what was known of values is known there.
record Later (app : App) (lists : Lists) (has : Row → Type 0) (size : ℕ) (site : ℕ → Site) (w : World) (c : Ctx) (f : Frame) (fs : List Frame) : Type 1 where
  sites : ℕ → Site
  running : Runs app lists has w sites c f fs
  stays : (v : Value) (P : Site → Type 0) (L : ℕ → Type 0) → Fits size site v P L → Fits (length w.heap) sites v P L

-- and a result is known at each next node
record WithResult (app : App) (lists : Lists) (has : Row → Type 0) (size : ℕ) (site : ℕ → Site) (w : World) (c : Ctx) (f : Frame) (fs : List Frame) (v : Value) : Type 1 where
  later : Later app lists has size site w c f fs
  result : (pc : ℕ) → Goes app f.method f.pc pc → RegisterFits app has (at_pc (node_of c f) pc) (length w.heap) later.sites result_register v

-- the same size
waits_at : {app : App} {bottom : Activation} {site : ℕ → Site} {b : Activation} {i : Bool} {fs : List Frame} (has : Row → Type 0) (new old : List Object) →
    new ≡ old → Waits app has bottom (length old) site b i fs → Waits app has bottom (length new) site b i fs
waits_at has new old e h = rw e h

-- the value of a position is that of its register, or a blank
position_fits : {size : ℕ} {site : ℕ → Site} (f : Frame) (places : List ℕ) (i : ℕ) {P : Site → Type 0} {L : ℕ → Type 0} →
    ((x : ℕ) → IsAt places i x → Fits size site (f.registers x) P L) → Fits size site (value_at f places i) P L
position_fits {size} {site} f places i {P} {L} fits = go (slice_get places i) refl
  where
    go : (o : Option ℕ) → slice_get places i ≡ o → Fits size site (elim o [ Some x ↦ f.registers x | None ↦ blank ]) P L
    go None e = blank_fits _ _ _ _
    go (Some x) e = fits x (record { there = e })

module _ (app : App) (lists : Lists) (has : Row → Type 0) (closed : Closed app lists has) where
  -- the shared objects
  shared_later : {more : List ℕ} {heap heap' : List Object} {statics statics' : ℕ → Value} (w : World) (site : ℕ → Site) {c : Ctx} {f : Frame} {fs : List Frame} →
      ((i : ℕ) → In i more → has (StaticPoints (shared_static app i) (Shared i))) → MakesShared app lists more heap statics heap' statics' →
      Runs app lists has (record w { heap = heap; statics = statics }) site c f fs →
      Later app lists has (length heap) site (record w { heap = heap'; statics = statics' }) c f fs
  shared_later w site points all_there known = record { sites = site; running = known; stays = λ v P L old. old }
  shared_later w site points (is_there there others) known = shared_later w site (λ i h. points i (inr h)) others known
  shared_later w site {c} {f} {fs} points (is_made {i = i} {class = class} {heap = heap} none of_class others) known =
      let g : ℕ = shared_static app i in
      let o : Object = new_object class in
      let fits : NewFits app lists has (length heap) site (Shared i) o = record { entries = λ _ _ h. absurd h; class = shared_site of_class } in
      let grown = running_grown app lists has closed known fits in
      let v : Value = object_at (Some (length heap)) in
      let v_fits : StaticFits app has (length (heap ++ o ∷ [])) (with_site site (length heap) (Shared i)) g v = new_fits heap site (Shared i) o [] _ _ (points i (inl refl), only i) (λ l h. absurd h) in
      let rest_of = shared_later w (with_site site (length heap) (Shared i)) (λ i h. points i (inr h)) others (running_writing app lists has closed g v grown v_fits) in
      record {
        sites = rest_of.sites;
        running = rest_of.running;
        stays = λ v P L old. rest_of.stays v P L (fits_grown heap o (Shared i) old);
      }
    where
      only : (i j : ℕ) → shared_static app i ≡ shared_static app j → Shared i ≡ Shared j
      only i j e = let same : i ≡ j = omega arith in ap (λ k. Shared k) same

  module _ (w : World) (site : ℕ → Site) (c : Ctx) (f : Frame) (fs : List Frame) (known : Runs app lists has w site c f fs) (u : SummaryId) (r : RowAt app lists (node_of c f) u) (uses : has (Uses (node_of c f) u)) where
    -- a register of position i with the fact
    abbrev AtPosition : ℕ → (ℕ → Type 0) → Type 0
    AtPosition i fact = (x : ℕ) × IsAt (places_of r) i x × fact x

    -- the value of a position has its rows here
    position_known : {w' : World} {sites : ℕ → Site} → Runs app lists has w' sites c f fs → (i : ℕ) →
        Fits (length w'.heap) sites (value_at f (places_of r) i) (λ s. AtPosition i (λ x. has (Points (node_of c f) x s))) (λ l. AtPosition i (λ x. has (Label (node_of c f) x l)))
    position_known running i =
        position_fits f (places_of r) i (λ x is_at. fits_map (λ s h. (x, is_at, h)) (λ l h. (x, is_at, h)) (fits_here app has {n = node_of c f} r.act (position_read r.kind r.at r.args i x is_at) (running.registers x)))

    -- the label leads from a position, by these rows
    record FromPosition (i l : ℕ) : Type 0 where
      register : ℕ
      is_at : IsAt (places_of r) i register
      premises : List Row
      leads : LeadsFrom (node_of c f) register l premises
      rows : Each has premises

    leads_from : (i l : ℕ) (ks : List KeyId) → Reaches w.heap (value_at f (places_of r) i) ks l → FromPosition i l
    leads_from i l ks walk = by (walked app lists has closed known.world.heap (position_known known i) ks l walk)
      where
        by : AtPosition i (λ x. has (Label (node_of c f) x l)) ⊎ ((s : Site) × AtPosition i (λ x. has (Points (node_of c f) x s)) × has (Holds s l)) →
            FromPosition i l
        by (inl (x, is_at, own)) =
            record { register = x; is_at = is_at; premises = Label (node_of c f) x l ∷ []; leads = own_label; rows = (own, tt) }
        by (inr (s, (x, is_at, points), holds)) =
            record { register = x; is_at = is_at; premises = Points (node_of c f) x s ∷ Holds s l ∷ []; leads = held_label; rows = (points, (holds, tt)) }

    -- a label of a joined result
    label_joined : {from : List ℕ} (pc v : ℕ) → Goes app f.method f.pc pc → ReadAt app f.method result_register pc v → r.row.gives ≡ Joined from →
        IsFalse (is_void r.at.proto.ret) → (l : ℕ) → Joins w.heap f (places_of r) from r.row.source l →
        has (Label (at_pc (node_of c f) v) result_register l)
    label_joined pc v next read is_result not_void l (inl is_source) =
        lib app lists has closed (source_label {n = node_of c f} r is_result is_source not_void next read) (uses, tt)
    label_joined pc v next read is_result not_void l (inr (i, is_from, (ks, walk))) =
        let e = leads_from i l ks walk in lib app lists has closed (joined_label {n = node_of c f} i r is_result is_from not_void e.is_at e.leads next read) (uses, e.rows)

    element_joined : {from : List ℕ} → r.row.gives ≡ Joined from → IsFalse (is_void r.at.proto.ret) → IsTrue (is_reference r.at.proto.ret) → (l : ℕ) →
        Joins w.heap f (places_of r) from r.row.source l → has (CellLabel (made_at app (node_of c f)) elem_key l)
    element_joined is_result not_void reference l (inl is_source) =
        lib app lists has closed (source_element {n = node_of c f} r is_result is_source not_void reference) (uses, tt)
    element_joined is_result not_void reference l (inr (i, is_from, (ks, walk))) =
        let e = leads_from i l ks walk in lib app lists has closed (joined_element {n = node_of c f} i r is_result is_from not_void reference e.is_at e.leads) (uses, e.rows)

    -- an object that the library has is known as the result
    given_back : {p : ℕ} {class : Name} {handed : List ℕ} (pc : ℕ) → Goes app f.method f.pc pc → r.row.gives ≡ Handed →
        IsTrue (is_reference r.at.proto.ret) → ((p : ℕ) → In p handed → HandedFits has (length w.heap) site p) → HasObject w handed p →
        ClassAt w.heap p class → Below app lists class r.at.proto.ret →
        RegisterFits app has (at_pc (node_of c f) pc) (length w.heap) site result_register (object_at (Some p))
    given_back {p} {class} pc next is_result reference fits (was_handed is_one) of_class below =
        let h = fits p is_one in
        let may : MayGiveBack app lists (node_of c f) u (site p) = record {
          call = r;
          is_handed = is_result;
          reference = reference;
          class = class;
          of_class = known.world.heap.class p class of_class;
          below = below;
        } in
        record {
          within = h.within;
          pointed = λ q e v read. subst (λ x. has (Points (at_pc (node_of c f) v) result_register (site x))) (same_Some _ _ e) (hnd app lists has closed (handed_points {n = node_of c f} may next read) (uses, (h.pointed p refl, tt)));
          labels = λ l none. absurd none;
        }
    given_back {p} {class} pc next is_result reference fits (is_live d there placed) of_class below =
        let component = known.world.components d in
        let may : MayGiveBack app lists (node_of c f) u (Component d) = record {
          call = r;
          is_handed = is_result;
          reference = reference;
          class = class;
          of_class = subst (λ s. SiteClass app lists s class) (component.pointed p placed) (known.world.heap.class p class of_class);
          below = below;
        } in
        record {
          within = λ q e. component.within q (placed ∙ e);
          pointed = λ q e v read. subst (λ s. has (Points (at_pc (node_of c f) v) result_register s)) (sym (component.pointed q (placed ∙ e))) (hnd app lists has closed (live_points {n = node_of c f} may there next read) (uses, (known.world.live d there, tt)));
          labels = λ l none. absurd none;
        }

    -- the result
    result_later : {w' : World} {heap : List Object} {v : Value} {gives : Gives} {handed : List ℕ} →
        (later : Later app lists has (length w.heap) site w' c f fs) → ((p : ℕ) → In p handed → HandedFits has (length w.heap) site p) →
        r.row.gives ≡ gives → Results app lists w handed f (places_of r) r.row.source r.at.proto.ret w'.statics w'.heap gives heap v →
        WithResult app lists has (length w.heap) site (record w' { heap = heap }) c f fs v
    result_later later fits is_result (of_void _) = record { later = later; result = λ pc next. blank_fits _ _ _ _ }
    result_later later fits is_result (as_blank _) = record { later = later; result = λ pc next. blank_fits _ _ _ _ }
    result_later later fits is_result (as_same {i = i} not_void) = record {
      later = later;
      result = λ pc next. fits_map
          (λ _ (x, is_at, h) v read. lib app lists has closed (same_points {n = node_of c f} r is_result not_void is_at next read) (uses, (h, tt)))
          (λ _ (x, is_at, h) v read. lib app lists has closed (same_label {n = node_of c f} r is_result not_void is_at next read) (uses, (h, tt)))
          (position_known later.running i);
    }
    result_later later fits is_result (as_taken {i = i} {v = v} not_void given) = record {
      later = later;
      result = λ pc next.
          later.stays v _ _ (gets_fit app lists has known.world.heap
          (λ s t (x, is_at, points) cell j read. lib app lists has closed (taken_points {n = node_of c f} r is_result not_void is_at next read) (uses, (points, (cell, tt))))
          (λ s l (x, is_at, points) own j read. lib app lists has closed (taken_label {n = node_of c f} r is_result not_void is_at next read) (uses, (points, (own, tt))))
          (position_known known i) given);
    }
    result_later later fits is_result (as_shared {i = i} not_void) = record {
      later = later;
      result = λ pc next.
          fits_map (λ s h v read. subst (λ t. has (Points (at_pc (node_of c f) v) result_register t)) (sym (h.1 i refl)) (lib app lists has closed (shared_points {n = node_of c f} r is_result not_void next read) (uses, tt))) (λ _ h. absurd (h.1 i refl)) (later.running.world.statics (shared_static app i));
    }
    result_later later fits is_result (as_labels {labels = labels} not_void plain which) = record {
      later = later;
      result = λ pc next. placeless_fits _ _ labels _ _ (λ l h v read. label_joined pc v next read is_result not_void l ((which l).0 h));
    }
    result_later {w'} later fits is_result (as_object {labels = labels} not_void reference which) =
        record {
          later = record {
            sites = with_site later.sites (length w'.heap) (made_at app (node_of c f));
            running = running_grown app lists has closed later.running made_fits;
            stays = λ v P L old. fits_grown w'.heap made (made_at app (node_of c f)) (later.stays v P L old);
          };
          result = λ pc next. new_fits w'.heap later.sites (made_at app (node_of c f)) made labels _ _
              (λ v read. lib app lists has closed (joined_points {n = node_of c f} r is_result not_void reference next read) (uses, tt))
              (λ l h v read. label_joined pc v next read is_result not_void l ((which l).0 h));
        }
      where
        made : Object
        made = joined_object r.at.proto.ret labels

        made_class_of : SiteClass app lists (made_at app (node_of c f)) r.at.proto.ret
        made_class_of = made_class (node_of c f) r.act (referred r.at.proto.ret (is_reference r.at.proto.ret) reference)
          where
            referred : (t : Name) (b : Bool) → b ≡ true → cond b (Some t) None ≡ Some t
            referred t b e = rw e refl

        element : (k : KeyId) (v : Value) → In {A = KeyId × Value} (k, v) ((elem_key, labelled labels) ∷ []) →
            CellFits has (length w'.heap) later.sites (made_at app (node_of c f)) k v
        element k v (inl same) =
            rw (ap (λ (y : KeyId × Value). y.0) same, ap (λ (y : KeyId × Value). y.1) same) (placeless_fits _ _ labels _ _ (λ l h. element_joined is_result not_void reference l ((which l).0 h)))
        element k v (inr none) = absurd none

        made_fits : NewFits app lists has (length w'.heap) later.sites (made_at app (node_of c f)) (joined_object r.at.proto.ret labels)
        made_fits = record { entries = element; class = made_class_of }
    result_later later fits is_result (as_nothing _) = record { later = later; result = λ pc next. blank_fits _ _ _ _ }
    result_later later fits is_result (as_given_back {p = p} reference has_object of_class below) = record {
      later = later;
      result = λ pc next. later.stays (object_at (Some p)) _ _ (given_back pc next is_result reference fits has_object of_class below);
    }

    -- an added value is known in the cell where it is added
    added_fits : {w' : World} → (later : Later app lists has (length w.heap) site w' c f fs) → (p : ℕ) (v : Value) →
        Adds app w.heap f (places_of r) w'.statics r.row (p, v) → CellFits has (length w'.heap) later.sites (later.sites p) elem_key v
    added_fits later p v (by_put i j is_put there) =
        let object = (position_known later.running j).pointed p there in
        fits_map
        (λ t (x, is_at, h). kept_library app lists has closed (row_put_cell {n = node_of c f} i j r is_put object.1 is_at) tt refl (uses, (object.2, (h, tt))))
        (λ l (x, is_at, h). lib app lists has closed (row_put_label {n = node_of c f} i j r is_put object.1 is_at) (uses, (object.2, (h, tt))))
        (position_known later.running i)
    added_fits later p v (by_store i g is_store there) =
        let same = ((later.running.world.statics (shared_static app g)).pointed p there).1 g refl in
        fits_map
        (λ t (x, is_at, h). subst (λ s. has (Cell s elem_key t)) (sym same) (kept_library app lists has closed (store_cell {n = node_of c f} i g r is_store is_at) tt refl (uses, (h, tt))))
        (λ l (x, is_at, h). subst (λ s. has (CellLabel s elem_key l)) (sym same) (lib app lists has closed (store_label {n = node_of c f} i g r is_store is_at) (uses, (h, tt))))
        (position_known later.running i)
    added_fits later p v (by_copy i j q is_copy source found there) =
        let object = (position_known later.running j).pointed p there in
        later.stays v _ _ (gets_fit app lists has known.world.heap
        (λ s t (x, is_at, held) cell. kept_library app lists has closed (copy_cell {n = node_of c f} i j r is_copy is_at object.1) tt refl (uses, (held, (cell, (object.2, tt)))))
        (λ s l (x, is_at, held) own. lib app lists has closed (copy_label {n = node_of c f} i j r is_copy is_at object.1) (uses, (held, (own, (object.2, tt)))))
        (position_known known i) (entry_of source found))

    adds_changed : {w' : World} → (later : Later app lists has (length w.heap) site w' c f fs) → (added : List (ℕ × Value)) →
        ((a : ℕ × Value) → In a added → Adds app w.heap f (places_of r) w'.statics r.row a) → Changed has later.sites w'.heap (add_all w'.heap added)
    adds_changed {w'} later added adds = record {
      same_length = length-add_all added w'.heap;
      same_class = λ p d h. ClassAt-add_all added w'.heap p d h;
      entries = λ p k v h. entries p k v (EntryAt-add_all added w'.heap p k v h);
    }
      where
        entries : (p : ℕ) (k : KeyId) (v : Value) → ((k ≡ elem_key) × In {A = ℕ × Value} (p, v) added) ⊎ EntryAt w'.heap p k v →
            EntryAt w'.heap p k v ⊎ CellFits has (length w'.heap) later.sites (later.sites p) k v
        entries p k v (inl (key, h)) = inr (rw key (added_fits later p v (adds (p, v) h)))
        entries p k v (inr old) = inl old

    -- the shared objects that the row names
    names_shared : (i : ℕ) → In i (shared_named r.row r.at.proto.ret) → has (StaticPoints (shared_static app i) (Shared i))
    names_shared i h = by (in_either i (map (λ (s : ℕ × ℕ). s.1) r.row.stores) _ h)
      where
        of_result : (b : Bool) → is_void r.at.proto.ret ≡ b → In i (cond b [] (result_shared r.row.gives)) →
            has (StaticPoints (shared_static app i) (Shared i))
        of_result true e h = absurd h
        of_result false e h =
            kept_library app lists has closed (shared_static_points {n = node_of c f} r (shared_result r.row.gives i h) e) tt refl (uses, tt)

        by : In i (map (λ (s : ℕ × ℕ). s.1) r.row.stores) ⊎ In i (cond (is_void r.at.proto.ret) [] (result_shared r.row.gives)) →
            has (StaticPoints (shared_static app i) (Shared i))
        by (inl h) =
            let store = stored r.row.stores i h in kept_library app lists has closed (store_static {n = node_of c f} store.0 i r store.1) tt refl (uses, tt)
        by (inr h) = of_result (is_void r.at.proto.ret) refl h

  -- What a call on a library class finds in the lists has its row.
  pub looked_up : {w : World} {site : ℕ → Site} {c : Ctx} {f : Frame} {fs : List Frame} {kind : CallKind} {at : MethodRef} {args : List ℕ} {t : Target} {class : Name} {row : Row} →
      Runs app lists has w site c f fs → ActAt app f.method f.pc (Call kind at args) → CallsTo app w.heap f kind at args t → t ≡ Library class →
      LooksUp app lists (node_of c f) kind at class row → has row
  looked_up {c = c} {f = f} known act (by_name plain is_target) same found =
      kept_call app lists has closed (use_by_name {n = node_of c f} act (is_target ∙ same) found) (looked_kept found) refl (known.reached, tt)
  looked_up {c = c} {f = f} known act (by_nothing virtual none is_target) same found =
      kept_call app lists has closed (use_by_name {n = node_of c f} act (is_target ∙ same) found) (looked_kept found) refl (known.reached, tt)
  looked_up {c = c} {f = f} {args = args} known act (by_class {x = x} {p = p} class virtual is_first there of_class is_target) same found =
      kept_call app lists has closed (use_by_class {n = node_of c f} act virtual is_first (known.world.heap.class p class of_class) (is_target ∙ same) found) (looked_kept found) refl ((fits_here app has {n = node_of c f} act (in_slice_get args 0 x is_first.there) (known.registers x)).pointed p there, tt)

  pub record LibraryKnown (new : World) (c : Ctx) (f : Frame) (fs : List Frame) (v : Value) : Type 0 where
    pub sites : ℕ → Site
    pub running : Runs app lists has new sites c f fs
    pub result : (pc : ℕ) → Goes app f.method f.pc pc → RegisterFits app has (at_pc (node_of c f) pc) (length new.heap) sites result_register v

  -- what is known after the call, by what is known before its puts
  known_after : {w new : World} {site : ℕ → Site} {c : Ctx} {f : Frame} {fs : List Frame} {v : Value} {u : SummaryId} →
      Runs app lists has w site c f fs → (r : RowAt app lists (node_of c f) u) → has (Uses (node_of c f) u) →
      (call : CallsLibrary app lists w f (places_of r) r.at.proto.ret r.row new v) →
      WithResult app lists has (length w.heap) site (record w { heap = call.with_result; statics = new.statics }) c f fs v →
      LibraryKnown new c f fs v
  known_after {w} {new} {site} {c} {f} {fs} {v} {u} known r uses call last = record {
    sites = last.later.sites;
    running = record {
      reached = after.reached;
      world = record {
        heap = rw call.heap after.world.heap;
        statics = λ g. rw call.heap (after.world.statics g);
        arrivals = λ a h. arrived a ((call.arrivals a).0 h);
        live = rw call.components after.world.live;
        components = rw (call.heap, call.components) after.world.components;
        handed = rw call.heap after.world.handed;
      };
      registers = λ r. rw call.heap (after.registers r);
      bottom = after.bottom;
      is_event = after.is_event;
      waits = waits_at has new.heap (add_all call.with_result call.added) call.heap after.waits;
    };
    result = λ pc next. rw call.heap (fits_sized changed.same_length (last.result pc next));
  }
    where
      changed : Changed has last.later.sites call.with_result (add_all call.with_result call.added)
      changed = adds_changed w site c f fs known u r uses last.later call.added (λ a h. (call.adds a).0 h)

      handed_now : (p : ℕ) → In p w.handed ⊎ Hands f (places_of r) p → HandedFits has (length call.with_result) last.later.sites p
      handed_now p (inl old) = last.later.running.world.handed p old
      handed_now p (inr hands) = handed_of has p (position_known w site c f fs known u r uses last.later.running hands.at) hands.place
          (λ s (x, is_at, h). kept_library app lists has closed (hand_points {n = node_of c f} hands.at r is_at) tt refl (uses, (h, tt)))

      handing : Runs app lists has (record w { heap = call.with_result; statics = new.statics; handed = new.handed }) last.later.sites c f fs
      handing = let k = last.later.running in record {
        reached = k.reached;
        world = record { heap = k.world.heap; statics = k.world.statics; arrivals = k.world.arrivals; live = k.world.live; components = k.world.components; handed = λ p h. handed_now p ((call.handed p).0 h) };
        registers = k.registers;
        bottom = k.bottom;
        is_event = k.is_event;
        waits = k.waits;
      }

      after : Runs app lists has (record w { heap = add_all call.with_result call.added; statics = new.statics; handed = new.handed }) last.later.sites c f fs
      after = running_changed app lists has closed handing changed

      at_sink : (a : Arrival) → AtSink w.heap f (places_of r) r.row a → has (Arrive a.label a.sink (node_of c f))
      at_sink a s =
          let e = leads_from w site c f fs known u r uses s.at a.label s.keys s.walk in lib app lists has closed (sink_arrives {n = node_of c f} s.at a.sink r s.is_sink e.is_at e.leads) (uses, e.rows)

      arrived : (a : Arrival) → In a w.arrivals ⊎ AtSink w.heap f (places_of r) r.row a → ArrivalKnown has a
      arrived a (inl old) = known.world.arrivals a old
      arrived a (inr s) = record { node = node_of c f; same_method = sym s.method; same_pc = sym s.pc; holds = at_sink a s }

  known_row : {w new : World} {site : ℕ → Site} {c : Ctx} {f : Frame} {fs : List Frame} {v : Value} {u : SummaryId} →
      Runs app lists has w site c f fs → (r : RowAt app lists (node_of c f) u) → has (Uses (node_of c f) u) →
      CallsLibrary app lists w f (places_of r) r.at.proto.ret r.row new v → LibraryKnown new c f fs v
  known_row {w} {new} {site} {c} {f} {fs} {v} {u} known r uses call =
      known_after known r uses call (result_later w site c f fs known u r uses shared handed_before refl call.results)
    where
      shared : Later app lists has (length w.heap) site (record w { heap = call.with_shared; statics = new.statics }) c f fs
      shared = shared_later w site (names_shared w site c f fs known u r uses) call.shared known

      handed_first : (p : ℕ) → In p w.handed ⊎ Hands f (places_of r) p → HandedFits has (length w.heap) site p
      handed_first p (inl old) = known.world.handed p old
      handed_first p (inr hands) = handed_of has p (position_known w site c f fs known u r uses known hands.at) hands.place
          (λ s (x, is_at, h). kept_library app lists has closed (hand_points {n = node_of c f} hands.at r is_at) tt refl (uses, (h, tt)))

      handed_before : (p : ℕ) → In p new.handed → HandedFits has (length w.heap) site p
      handed_before p h = handed_first p ((call.handed p).0 h)

  pub known_library : {w new : World} {site : ℕ → Site} {c : Ctx} {f : Frame} {fs : List Frame} {kind : CallKind} {at : MethodRef} {args : List ℕ} {row : Summary} {v : Value} →
      Runs app lists has w site c f fs → ActAt app f.method f.pc (Call kind at args) → UsesRow app lists w.heap f kind at args row →
      CallsLibrary app lists w f (positions kind at args) at.proto.ret row new v → LibraryKnown new c f fs v
  known_library {kind = kind} {at = at} {args = args} {row = row} known act used call =
      known_row known (record { kind = kind; at = at; args = args; row = row; act = act; is_row = used.is_row }) (looked_up known act used.goes refl (finds_row used.is_key used.is_row used.plain)) call
