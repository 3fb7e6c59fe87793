-- A library call by its row keeps what is known.
use Rattle.std.proofs.Common.{◌≡◌, ℕ, List, [], ◌∷◌, ◌++◌, length, Bool, true, false, cond, ◌⊎◌, inl, inr, Option, Some, None, refl, ap, sym, ◌∙◌, subst, arith}
use Rattle.std.specs.Prelude.{IsTrue, IsFalse, slice_get, map}
use Rattle.std.proofs.lemmas.Option.{none-some}
use Rattle.vet_base.specs.declared.key_id.KeyId.{KeyId}
use Rattle.access_path.specs.Laws.{PathLaws}
use Rattle.access_path.specs.declared.path.Path.{Path}
use Rattle.access_path.specs.Paths.{cut, empty_path}
use Rattle.app_machine.specs.declared.call.MethodRef.{MethodRef}
use Rattle.app_machine.specs.declared.call.CallKind.{CallKind}
use Rattle.app_machine.specs.declared.method.Act.TheVariants.{Call}
use Rattle.app_machine.specs.declared.summary.Gives.{Gives}
use Rattle.app_machine.specs.declared.summary.Gives.TheVariants.{Joined, Handed}
use Rattle.app_machine.specs.declared.summary.Summary.{Summary}
use Rattle.app_machine.specs.declared.lists.Lists.{Lists}
use Rattle.app_machine.specs.declared.lists.SummaryId.{SummaryId}
use Rattle.app_machine.specs.declared.app.App.{App}
use Rattle.vet_base.specs.Members.{In, IsAt}
use Rattle.vet_base.proofs.Members.{in_either}
use Rattle.app_machine.specs.Names.{Name, is_reference, is_void}
use Rattle.app_machine.specs.Lookups.{Target, Library, elem_key, ActAt, Goes}
use Rattle.app_machine.specs.Heap.{Value, Object, blank, labelled, EntryAt, ClassAt, Reaches, add_all, entry_of}
use Rattle.app_machine.specs.Summaries.{Below}
use Rattle.app_machine.specs.State.{result_register, shared_static, Arrival, World, Frame, object_at, new_object}
use Rattle.app_machine.specs.Calls.{CallsTo, by_name, by_nothing, by_class}
use Rattle.app_machine.specs.Library.{positions, value_at, AtSink, Hands, result_shared, shared_named, MakesShared, all_there, is_there, is_made, Joins, joined_object, HasObject, was_handed, is_live, Results, of_void, as_blank, as_same, as_taken, as_shared, as_labels, as_object, as_nothing, as_given_back, Adds, by_put, by_store, by_copy, CallsLibrary, UsesRow}
use Rattle.fact_rows.specs.declared.context.Ctx.{Ctx}
use Rattle.fact_rows.specs.declared.site.Site.{Site}
use Rattle.fact_rows.specs.declared.site.Site.TheVariants.{At, Component, Shared}
use Rattle.fact_rows.specs.declared.row.Row.{Row}
use Rattle.fact_rows.specs.declared.row.Row.TheVariants.{Points, Taint, Cell, StaticPoints, StaticTaint, Effect, CompTaint, Uses, Arrive}
use Rattle.flow_rules.specs.Nodes.{at_pc}
use Rattle.flow_rules.specs.Sites.{SiteClass}
use Rattle.flow_rules.specs.EffectRules.{effect_next}
use Rattle.flow_rules.specs.CallRules.{use_by_name, use_by_class, LooksUp, finds_row}
use Rattle.flow_rules.specs.HandedRules.{MayGiveBack, handed_points, handed_taint, live_points, live_taint}
use Rattle.flow_rules.specs.LibraryRules.{RowAt, places_of, hand_points, hand_taint, sink_arrives, same_points, same_taint, taken_points, taken_taint, joined_points, joined_taint, joined_element, source_taint, source_element, shared_static_points, shared_points, shared_taint, row_put_cell, row_put_effect, store_static, store_cell, store_effect, copy_cell, copy_effect}
use Rattle.flow_rules.specs.Rules.{Closed}
use Rattle.flow_proof.proofs.HeapLaws.{EntryAt-add_all, ClassAt-add_all, length-add_all}
use Rattle.flow_proof.proofs.Fitting.{Fits, Covered, Changed, PutFits, Touched, fits_map, fits_after, blank_fits, placeless_fits}
use Rattle.flow_proof.proofs.Growing.{with_site, NewFits, new_fits, fits_grown}
use Rattle.flow_proof.proofs.Knowing.{node_of, Taints, RegisterFits, SharedOnly, StaticFits, HandedFits, handed_of, ArrivalKnown, Runs, RunsPending}
use Rattle.flow_proof.proofs.Lasting.{lib, cal, eff, hnd, lift_at, running_after, running_grown}
use Rattle.flow_proof.proofs.Stepping.{class_at, running_writing, gets_fit}
use Rattle.flow_proof.proofs.Later.{Later, WithResult, waits_at, owns_at, position_fits, shared_site, stored, shared_result}

module _ (app : App) (lists : Lists) (has : Row → Type 0) (closed : Closed app lists has) (laws : PathLaws) where
  -- a new object leaves all known
  abbrev made_later : {w : World} {site : ℕ → Site} {c : Ctx} {f : Frame} {fs : List Frame} {new : Site} {o : Object} →
      Runs app lists has w site c f fs → NewFits app lists has w.heap site new o →
      Later app lists has w.heap site (record w { heap = w.heap ++ o ∷ [] }) c f fs
  made_later {w} {site} {c} {f} {fs} {new} {o} known fits = record {
    sites = with_site site (length w.heap) new;
    running = running_grown app lists has closed laws known fits;
    stays = λ v P T old. fits_grown o new known.world.heap old;
  }

  -- the shared objects
  shared_later : {more : List ℕ} {heap heap' : List Object} {statics statics' : ℕ → Value} (w : World) (site : ℕ → Site) {c : Ctx} {f : Frame} {fs : List Frame} →
      ((i : ℕ) → In i more → has (StaticPoints (shared_static app i) (Shared i))) → MakesShared app lists more heap statics heap' statics' →
      Runs app lists has (record w { heap = heap; statics = statics }) site c f fs →
      Later app lists has heap site (record w { heap = heap'; statics = statics' }) c f fs
  shared_later w site points all_there known = record { sites = site; running = known; stays = λ v P T old. old }
  shared_later w site points (is_there there others) known = shared_later w site (λ i h. points i (inr h)) others known
  shared_later w site {c} {f} {fs} points (is_made {i = i} {class = class} {heap = heap} none of_class others) known =
      let g : ℕ = shared_static app i in
      let o : Object = new_object class in
      let fits : NewFits app lists has heap site (Shared i) o =
      record { within = λ _ _ _ h _. absurd h; cell = λ _ _ _ h _. absurd h; class = shared_site of_class } in
      let grown = running_grown app lists has closed laws known fits in
      let v : Value = object_at (Some (length heap)) in
      let v_fits : StaticFits app has (heap ++ o ∷ []) (with_site site (length heap) (Shared i)) g v =
      new_fits heap site (Shared i) o [] (λ s. has (StaticPoints g s) × SharedOnly app g s) (λ q l. has (StaticTaint g q l)) (points i (inl refl), only i) (λ l h. absurd h) (λ k w h. absurd h) in
      let rest_of =
      shared_later w (with_site site (length heap) (Shared i)) (λ i h. points i (inr h)) others (running_writing app lists has g v grown v_fits) in
      record {
        sites = rest_of.sites;
        running = rest_of.running;
        stays = λ v P T old. rest_of.stays v P T (fits_grown o (Shared i) known.world.heap old);
      }
    where
      only : (i j : ℕ) → shared_static app i ≡ shared_static app j → Shared i ≡ Shared j
      only i j e = let same : i ≡ j = omega arith in ap (λ k. Shared k) same

  module _ (w : World) (site : ℕ → Site) (c : Ctx) (f : Frame) (fs : List Frame) (known : Runs app lists has w site c f fs) (u : SummaryId) (r : RowAt app lists (node_of c f) u) (uses : has (Uses (node_of c f) u)) where
    -- a label of a joined result
    joined_label : {from : List ℕ} (pc : ℕ) → Goes app f.method f.pc pc → r.row.gives ≡ Joined from → IsFalse (is_void r.at.proto.ret) →
        (l : ℕ) → Joins w.heap f (places_of r) from r.row.source l → has (Taint (at_pc (node_of c f) pc) result_register empty_path l)
    joined_label pc next is_result not_void l (inl is_source) =
        lib app lists has closed laws (source_taint {n = node_of c f} r is_result is_source not_void next) (uses, tt)
    joined_label pc next is_result not_void l (inr (i, is_from, (ks, walk))) = reached (slice_get (places_of r) i) refl walk
      where
        reached : (o : Option ℕ) → slice_get (places_of r) i ≡ o → Reaches w.heap (elim o [ Some x ↦ f.registers x | None ↦ blank ]) ks l →
            has (Taint (at_pc (node_of c f) pc) result_register empty_path l)
        reached None e walk = absurd {0} (no_walk ks walk)
          where
            no_walk : (ks : List KeyId) → Reaches w.heap blank ks l → ⊥
            no_walk [] h = h
            no_walk (k ∷ ks) h = absurd (none-some h.0 h.1)
        reached (Some x) e walk =
            lib app lists has closed laws (joined_taint {n = node_of c f} i r is_result is_from not_void (record { there = e }) next) (uses, (((known.registers x).tainted ks l walk).row, tt))

    joined_as_element : {from : List ℕ} (pc : ℕ) → Goes app f.method f.pc pc → r.row.gives ≡ Joined from → IsFalse (is_void r.at.proto.ret) →
        IsTrue (is_reference r.at.proto.ret) → (l : ℕ) → Joins w.heap f (places_of r) from r.row.source l →
        has (Taint (at_pc (node_of c f) pc) result_register (cut elem_key empty_path) l)
    joined_as_element pc next is_result not_void reference l (inl is_source) =
        lib app lists has closed laws (source_element {n = node_of c f} r is_result is_source not_void reference next) (uses, tt)
    joined_as_element pc next is_result not_void reference l (inr (i, is_from, (ks, walk))) = reached (slice_get (places_of r) i) refl walk
      where
        reached : (o : Option ℕ) → slice_get (places_of r) i ≡ o → Reaches w.heap (elim o [ Some x ↦ f.registers x | None ↦ blank ]) ks l →
            has (Taint (at_pc (node_of c f) pc) result_register (cut elem_key empty_path) l)
        reached None e walk = absurd {0} (no_walk ks walk)
          where
            no_walk : (ks : List KeyId) → Reaches w.heap blank ks l → ⊥
            no_walk [] h = h
            no_walk (k ∷ ks) h = absurd (none-some h.0 h.1)
        reached (Some x) e walk =
            lib app lists has closed laws (joined_element {n = node_of c f} i r is_result is_from not_void reference (record { there = e }) next) (uses, (((known.registers x).tainted ks l walk).row, tt))

    -- an object that the library has is known as the result
    given_back : {p : ℕ} {class : Name} {handed : List ℕ} (pc : ℕ) → Goes app f.method f.pc pc → r.row.gives ≡ Handed →
        IsTrue (is_reference r.at.proto.ret) → ((p : ℕ) → In p handed → HandedFits has w.heap site p) → HasObject w handed p →
        ClassAt w.heap p class → Below app lists class r.at.proto.ret →
        RegisterFits has (at_pc (node_of c f) pc) w.heap site result_register (object_at (Some p))
    given_back {p} {class} pc next is_result reference fits (was_handed is_one) of_class below =
        let h = fits p is_one in
        let may : MayGiveBack app lists (node_of c f) u h.of = record {
          call = r;
          is_handed = is_result;
          reference = reference;
          class = class;
          of_class = subst (λ s. SiteClass app lists s class) (h.fits.pointed p refl) (known.world.heap.class p class of_class);
          below = below;
        } in
        fits_map
        (λ s same. rw same (hnd app lists has closed laws (handed_points {n = node_of c f} may next) (uses, (h.row, tt))))
        (λ q l t. hnd app lists has closed laws (handed_taint {n = node_of c f} may next) (uses, (h.row, (t, tt))))
        h.fits
    given_back {p} {class} pc next is_result reference fits (is_live d there placed) of_class below =
        let component : Fits w.heap site (object_at (Some p)) (λ x. x ≡ Component d) (λ q l. has (CompTaint d (w.components d).state q l)) =
        subst (λ o. Fits w.heap site (object_at o) (λ x. x ≡ Component d) (λ q l. has (CompTaint d (w.components d).state q l))) placed (known.world.components d) in
        let may : MayGiveBack app lists (node_of c f) u (Component d) = record {
          call = r;
          is_handed = is_result;
          reference = reference;
          class = class;
          of_class = subst (λ s. SiteClass app lists s class) (component.pointed p refl) (known.world.heap.class p class of_class);
          below = below;
        } in
        let live = known.world.live d there in
        fits_map
        (λ s same. rw same (hnd app lists has closed laws (live_points {n = node_of c f} may there next) (uses, (live, tt))))
        (λ q l t. hnd app lists has closed laws (live_taint {n = node_of c f} may there next) (uses, (live, (t, tt))))
        component

    -- the result
    result_later : {w' : World} {heap : List Object} {v : Value} {gives : Gives} {handed : List ℕ} →
        (later : Later app lists has w.heap site w' c f fs) → ((p : ℕ) → In p handed → HandedFits has w.heap site p) →
        r.row.gives ≡ gives → Results app lists w handed f (places_of r) r.row.source r.at.proto.ret w'.statics w'.heap gives heap v →
        WithResult app lists has w.heap site (record w' { heap = heap }) c f fs v
    result_later later fits is_result (of_void _) = record { later = later; result = λ pc next. blank_fits _ _ _ _ }
    result_later later fits is_result (as_blank _) = record { later = later; result = λ pc next. blank_fits _ _ _ _ }
    result_later later fits is_result (as_same {i = i} not_void) = record {
      later = later;
      result = λ pc next. position_fits f (places_of r) i (λ x is_at.
          fits_map (λ _ h. lib app lists has closed laws (same_points {n = node_of c f} r is_result not_void is_at next) (uses, (h, tt))) (λ _ _ h. lib app lists has closed laws (same_taint {n = node_of c f} r is_result not_void is_at next) (uses, (h, tt))) (later.running.registers x));
    }
    result_later later fits is_result (as_taken {i = i} {v = v} not_void given) = record {
      later = later;
      result = λ pc next.
          later.stays v _ _ (gets_fit app lists has laws {P = λ s. (x : ℕ) × IsAt (places_of r) i x × has (Points (node_of c f) x s)} {T = λ q l. (x : ℕ) × IsAt (places_of r) i x × has (Taint (node_of c f) x q l)} known.world.heap
          (λ s t (x, is_at, points) cell. lib app lists has closed laws (taken_points {n = node_of c f} r is_result not_void is_at next) (uses, (points, (cell, tt))))
          (λ p q l (x, is_at, taint) cut_off. lib app lists has closed laws (taken_taint {n = node_of c f} r is_result not_void is_at cut_off next) (uses, (taint, tt)))
          (position_fits f (places_of r) i (λ x is_at. fits_map (λ s h. (x, is_at, h)) (λ q l h. (x, is_at, h)) (known.registers x))) given);
    }
    result_later later fits is_result (as_shared {i = i} not_void) = record {
      later = later;
      result = λ pc next.
          fits_map (λ s h. subst (λ t. has (Points (at_pc (node_of c f) pc) result_register t)) (sym (h.1 i refl)) (lib app lists has closed laws (shared_points {n = node_of c f} r is_result not_void next) (uses, tt))) (λ _ _ h. lib app lists has closed laws (shared_taint {n = node_of c f} r is_result not_void next) (uses, (h, tt))) (later.running.world.statics (shared_static app i));
    }
    result_later later fits is_result (as_labels {labels = labels} not_void plain which) = record {
      later = later;
      result = λ pc next.
          placeless_fits _ _ labels _ _ (λ l h. record { path = empty_path; covers = laws.empty; row = joined_label pc next is_result not_void l ((which l).0 h) });
    }
    result_later {w'} later fits is_result (as_object {labels = labels} not_void reference which) =
        record {
          later = record { sites = grown.sites; running = grown.running; stays = λ v P T old. grown.stays v P T (later.stays v P T old) };
          result =
              λ pc next. new_fits w'.heap later.sites (At (node_of c f)) (joined_object r.at.proto.ret labels) labels _ (Taints has (at_pc (node_of c f) pc) result_register)
              (lib app lists has closed laws (joined_points {n = node_of c f} r is_result not_void reference next) (uses, tt))
              (λ l h. record { path = empty_path; covers = laws.empty; row = joined_label pc next is_result not_void l ((which l).0 h) })
              (walks pc next);
        }
      where
        no_place : {A : Type 0} (k : KeyId) (v : Value) (t : ℕ) → In {A = KeyId × Value} (k, v) ((elem_key, labelled labels) ∷ []) →
            v.place ≡ Some t → A
        no_place k v t (inl same) e = absurd (none-some t (ap (λ (y : KeyId × Value). y.1.place) (sym same) ∙ e))
        no_place k v t (inr none) e = absurd none

        made_class : SiteClass app lists (At (node_of c f)) r.at.proto.ret
        made_class = class_at r.act (referred r.at.proto.ret (is_reference r.at.proto.ret) reference)
          where
            referred : (t : Name) (b : Bool) → b ≡ true → cond b (Some t) None ≡ Some t
            referred t b e = rw e refl

        grown : Later app lists has w'.heap later.sites (record w' { heap = w'.heap ++ joined_object r.at.proto.ret labels ∷ [] }) c f fs
        grown =
            made_later later.running (record { within = λ k v t h e. no_place k v t h e; cell = λ k v t h e. no_place k v t h e; class = made_class })

        walks : (pc : ℕ) → Goes app f.method f.pc pc → (k : KeyId) (v : Value) →
            In {A = KeyId × Value} (k, v) ((elem_key, labelled labels) ∷ []) → (ks : List KeyId) (l : ℕ) →
            Reaches (w'.heap ++ joined_object r.at.proto.ret labels ∷ []) v ks l →
            Covered (Taints has (at_pc (node_of c f) pc) result_register) (k ∷ ks) l
        walks pc next k v h (j ∷ ks) l walk = no_place k v walk.0 h walk.1
        walks pc next k v (inr none) [] l walk = absurd none
        walks pc next k v (inl same) [] l walk =
            rw (ap (λ (y : KeyId × Value). y.0) same) (element (subst (λ (y : KeyId × Value). In l y.1.labels) same walk))
          where
            element : In l labels → Covered (Taints has (at_pc (node_of c f) pc) result_register) (elem_key ∷ []) l
            element h =
                record { path = cut elem_key empty_path; covers = laws.cut elem_key empty_path [] laws.empty; row = joined_as_element pc next is_result not_void reference l ((which l).0 h) }
    result_later later fits is_result (as_nothing _) = record { later = later; result = λ pc next. blank_fits _ _ _ _ }
    result_later later fits is_result (as_given_back reference has_object of_class below) = record {
      later = later;
      result = λ pc next. later.stays _ _ _ (given_back pc next is_result reference fits has_object of_class below);
    }

    -- an added value, in the heap with the result
    put_of : {w' : World} (later : Later app lists has w.heap site w' c f fs) (p : ℕ) (v : Value) {P : Site → Type 0} {T : Path → ℕ → Type 0} →
        ((t : Site) → P t → has (Cell (later.sites p) elem_key t)) →
        ((q : Path) (l : ℕ) → T q l → has (Effect (node_of c f) (later.sites p) (cut elem_key q) l)) → Fits w'.heap later.sites v P T →
        PutFits has (λ s q l. has (Effect (node_of c f) s q l)) w'.heap later.sites p elem_key v
    put_of later p v cell_rule effect_rule fits = record {
      within = fits.within;
      cell = λ t e. cell_rule _ (fits.pointed t e);
      covered = λ ks l walk. let t = fits.tainted ks l walk in record { path = cut elem_key t.path; covers = laws.cut elem_key t.path ks t.covers; row = effect_rule _ l t.row };
    }

    -- a position whose value has a place has a register
    placed : {i p : ℕ} → (value_at f (places_of r) i).place ≡ Some p → (x : ℕ) × IsAt (places_of r) i x × ((f.registers x).place ≡ Some p)
    placed {i} {p} there = go (slice_get (places_of r) i) refl there
      where
        go : (o : Option ℕ) → slice_get (places_of r) i ≡ o →
            (elim o as (λ _. Value) [ Some x ↦ f.registers x | None ↦ blank ]).place ≡ Some p →
            (x : ℕ) × IsAt (places_of r) i x × ((f.registers x).place ≡ Some p)
        go None e there = absurd (none-some p there)
        go (Some x) e there = (x, record { there = e }, there)

    added_fits : {w' : World} → (later : Later app lists has w.heap site w' c f fs) → (p : ℕ) (v : Value) →
        Adds app w.heap f (places_of r) w'.statics r.row (p, v) →
        PutFits has (λ s q l. has (Effect (node_of c f) s q l)) w'.heap later.sites p elem_key v
    added_fits later p v (by_put i j is_put there) =
        let object = placed there in
        let points = (later.running.registers object.0).pointed p object.2 in
        put_of later p v
        (λ t (x, is_at, h). lib app lists has closed laws (row_put_cell {n = node_of c f} i j r is_put object.1 is_at) (uses, (points, (h, tt))))
        (λ q l (x, is_at, h). lib app lists has closed laws (row_put_effect {n = node_of c f} i j r is_put object.1 is_at) (uses, (points, (h, tt))))
        (position_fits f (places_of r) i {P = λ s. (x : ℕ) × IsAt (places_of r) i x × has (Points (node_of c f) x s)} {T = λ q l. (x : ℕ) × IsAt (places_of r) i x × has (Taint (node_of c f) x q l)} (λ x is_at. fits_map (λ s h. (x, is_at, h)) (λ q l h. (x, is_at, h)) (later.running.registers x)))
    added_fits later p v (by_store i g is_store there) =
        let same = ((later.running.world.statics (shared_static app g)).pointed p there).1 g refl in
        put_of later p v
        (λ t (x, is_at, h). subst (λ s. has (Cell s elem_key t)) (sym same) (lib app lists has closed laws (store_cell {n = node_of c f} i g r is_store is_at) (uses, (h, tt))))
        (λ q l (x, is_at, h). subst (λ s. has (Effect (node_of c f) s (cut elem_key q) l)) (sym same) (lib app lists has closed laws (store_effect {n = node_of c f} i g r is_store is_at) (uses, (h, tt))))
        (position_fits f (places_of r) i {P = λ s. (x : ℕ) × IsAt (places_of r) i x × has (Points (node_of c f) x s)} {T = λ q l. (x : ℕ) × IsAt (places_of r) i x × has (Taint (node_of c f) x q l)} (λ x is_at. fits_map (λ s h. (x, is_at, h)) (λ q l h. (x, is_at, h)) (later.running.registers x)))
    added_fits later p v (by_copy i j q is_copy source found there) =
        let object = placed there in
        let from = placed source in
        let points = (later.running.registers object.0).pointed p object.2 in
        put_of later p v {P = λ t. has (Cell (later.sites p) elem_key t)} {T = λ q l. has (Effect (node_of c f) (later.sites p) (cut elem_key q) l)}
        (λ t h. h) (λ q l h. h)
        (later.stays v _ _ (gets_fit app lists has laws known.world.heap
        (λ s t held cell. lib app lists has closed laws (copy_cell {n = node_of c f} i j r is_copy from.1 object.1) (uses, (held, (cell, (points, tt)))))
        (λ y q l taint cut_off. lib app lists has closed laws (copy_effect {n = node_of c f} i j r is_copy from.1 object.1 cut_off) (uses, (taint, (points, tt))))
        (known.registers from.0) (entry_of from.2 found)))

    adds_changed : {w' : World} → (later : Later app lists has w.heap site w' c f fs) → (added : List (ℕ × Value)) →
        ((a : ℕ × Value) → In a added → Adds app w.heap f (places_of r) w'.statics r.row a) →
        Changed has (λ s q l. has (Effect (node_of c f) s q l)) later.sites w'.heap (add_all w'.heap added)
    adds_changed {w'} later added adds = record {
      same_length = length-add_all added w'.heap;
      same_class = λ p d h. ClassAt-add_all added w'.heap p d h;
      entries = λ p k v h. entries p k v (EntryAt-add_all added w'.heap p k v h);
      lift = lift_at app lists has closed laws (node_of c f);
    }
      where
        entries : (p : ℕ) (k : KeyId) (v : Value) → ((k ≡ elem_key) × In {A = ℕ × Value} (p, v) added) ⊎ EntryAt w'.heap p k v →
            EntryAt w'.heap p k v ⊎ PutFits has (λ s q l. has (Effect (node_of c f) s q l)) w'.heap later.sites p k v
        entries p k v (inl (key, h)) = inr (rw key (added_fits later p v (adds (p, v) h)))
        entries p k v (inr old) = inl old

    -- the shared objects that the row names
    names_shared : (i : ℕ) → In i (shared_named r.row r.at.proto.ret) → has (StaticPoints (shared_static app i) (Shared i))
    names_shared i h = by (in_either i (map (λ (s : ℕ × ℕ). s.1) r.row.stores) _ h)
      where
        of_result : (b : Bool) → is_void r.at.proto.ret ≡ b → In i (cond b [] (result_shared r.row.gives)) →
            has (StaticPoints (shared_static app i) (Shared i))
        of_result true e h = absurd h
        of_result false e h = lib app lists has closed laws (shared_static_points {n = node_of c f} r (shared_result r.row.gives i h) e) (uses, tt)

        by : In i (map (λ (s : ℕ × ℕ). s.1) r.row.stores) ⊎ In i (cond (is_void r.at.proto.ret) [] (result_shared r.row.gives)) →
            has (StaticPoints (shared_static app i) (Shared i))
        by (inl h) = let store = stored r.row.stores i h in lib app lists has closed laws (store_static {n = node_of c f} store.0 i r store.1) (uses, tt)
        by (inr h) = of_result (is_void r.at.proto.ret) refl h

  -- What a call on a library class finds in the lists has its row.
  pub looked_up : {w : World} {site : ℕ → Site} {c : Ctx} {f : Frame} {fs : List Frame} {kind : CallKind} {at : MethodRef} {args : List ℕ} {t : Target} {class : Name} {row : Row} →
      Runs app lists has w site c f fs → ActAt app f.method f.pc (Call kind at args) → CallsTo app w.heap f kind at args t →
      t ≡ Library class → LooksUp app lists (node_of c f) kind at class row → has row
  looked_up {c = c} {f = f} known act (by_name plain is_target) same found =
      cal app lists has closed laws (use_by_name {n = node_of c f} act (is_target ∙ same) found) (known.reached, tt)
  looked_up {c = c} {f = f} known act (by_nothing virtual none is_target) same found =
      cal app lists has closed laws (use_by_name {n = node_of c f} act (is_target ∙ same) found) (known.reached, tt)
  looked_up {c = c} {f = f} known act (by_class {x = x} {p = p} class virtual is_first there of_class is_target) same found =
      cal app lists has closed laws (use_by_class {n = node_of c f} act virtual is_first (known.world.heap.class p class of_class) (is_target ∙ same) found) ((known.registers x).pointed p there, tt)

  pub record LibraryKnown (new : World) (c : Ctx) (f : Frame) (fs : List Frame) (v : Value) : Type 0 where
    pub sites : ℕ → Site
    pub running : RunsPending app lists has new sites c f fs
    pub result : (pc : ℕ) → Goes app f.method f.pc pc → RegisterFits has (at_pc (node_of c f) pc) new.heap sites result_register v

  -- what is known after the call, by what is known before its puts
  known_after : {w new : World} {site : ℕ → Site} {c : Ctx} {f : Frame} {fs : List Frame} {v : Value} {u : SummaryId} →
      Runs app lists has w site c f fs → (r : RowAt app lists (node_of c f) u) → has (Uses (node_of c f) u) →
      (call : CallsLibrary app lists w f (places_of r) r.at.proto.ret r.row new v) →
      WithResult app lists has w.heap site (record w { heap = call.with_result; statics = new.statics }) c f fs v → LibraryKnown new c f fs v
  known_after {w} {new} {site} {c} {f} {fs} {v} {u} known r uses call last = record {
    sites = last.later.sites;
    running = record {
      reached = after.reached;
      world = record {
        heap = rw call.heap after.world.heap;
        statics = λ g. rw call.heap (after.world.statics g);
        arrivals = λ a h. arrived a ((call.arrivals a).0 h);
        live = rw call.components after.world.live;
        absent = rw call.components after.world.absent;
        components = rw (call.heap, call.components) after.world.components;
        handed = rw call.heap after.world.handed;
      };
      registers = λ r. rw call.heap (after.registers r);
      event =
          record { bottom = after.event.bottom; is_event = after.event.is_event; owns = owns_at has after.event.bottom new.components w.components call.components after.event.owns };
      waits = waits_at call.heap after.waits;
    };
    result = λ pc next. rw call.heap (fits_after laws last.later.running.world.heap changed (take_in pc next) (last.result pc next));
  }
    where
      changed : Changed has (λ s q l. has (Effect (node_of c f) s q l)) last.later.sites call.with_result (add_all call.with_result call.added)
      changed = adds_changed w site c f fs known u r uses last.later call.added (λ a h. (call.adds a).0 h)

      handed_now : (p : ℕ) → In p w.handed ⊎ Hands f (places_of r) p → HandedFits has call.with_result last.later.sites p
      handed_now p (inl old) = last.later.running.world.handed p old
      handed_now p (inr hands) =
          let of = placed w site c f fs known u r uses hands.place in
          handed_of p (last.later.running.registers of.0) of.2
          (λ s h. lib app lists has closed laws (hand_points {n = node_of c f} hands.at r of.1) (uses, (h, tt)))
          (λ s q l h t. lib app lists has closed laws (hand_taint {n = node_of c f} hands.at r of.1) (uses, (h, (t, tt))))

      handing : Runs app lists has (record w { heap = call.with_result; statics = new.statics; handed = new.handed }) last.later.sites c f fs
      handing = let k = last.later.running in record {
        reached = k.reached;
        world =
            record { heap = k.world.heap; statics = k.world.statics; arrivals = k.world.arrivals; live = k.world.live; absent = k.world.absent; components = k.world.components; handed = λ p h. handed_now p ((call.handed p).0 h) };
        registers = k.registers;
        event = k.event;
        waits = k.waits;
      }

      after : RunsPending app lists has (record w { heap = add_all call.with_result call.added; statics = new.statics; handed = new.handed }) last.later.sites c f fs
      after = running_after app lists has closed laws handing changed

      take_in : (pc : ℕ) → Goes app f.method f.pc pc → (q : Path) (l : ℕ) →
          has (Taint (at_pc (node_of c f) pc) result_register q l) ⊎ Touched (λ s. has (Points (at_pc (node_of c f) pc) result_register s)) (λ s q l. has (Effect (node_of c f) s q l)) q l →
          has (Taint (at_pc (node_of c f) pc) result_register q l)
      take_in pc next q l (inl old) = old
      take_in pc next q l (inr (s, points, e)) = eff app lists has closed laws (effect_next {n = node_of c f} next) (e, (points, tt))

      at_sink : (a : Arrival) → AtSink w.heap f (places_of r) r.row a → has (Arrive a.label a.sink (node_of c f))
      at_sink a s = reached (slice_get (places_of r) s.at) refl s.walk
        where
          reached : (o : Option ℕ) → slice_get (places_of r) s.at ≡ o →
              Reaches w.heap (elim o [ Some x ↦ f.registers x | None ↦ blank ]) s.keys a.label → has (Arrive a.label a.sink (node_of c f))
          reached None e walk = absurd {0} (no_walk s.keys walk)
            where
              no_walk : (ks : List KeyId) → Reaches w.heap blank ks a.label → ⊥
              no_walk [] h = h
              no_walk (k ∷ ks) h = absurd (none-some h.0 h.1)
          reached (Some x) e walk =
              lib app lists has closed laws (sink_arrives {n = node_of c f} s.at a.sink r s.is_sink (record { there = e })) (uses, (((known.registers x).tainted s.keys a.label walk).row, tt))

      arrived : (a : Arrival) → In a w.arrivals ⊎ AtSink w.heap f (places_of r) r.row a → ArrivalKnown has a
      arrived a (inl old) = known.world.arrivals a old
      arrived a (inr s) = record { node = node_of c f; same_method = sym s.method; same_pc = sym s.pc; holds = at_sink a s }

  known_row : {w new : World} {site : ℕ → Site} {c : Ctx} {f : Frame} {fs : List Frame} {v : Value} {u : SummaryId} →
      Runs app lists has w site c f fs → (r : RowAt app lists (node_of c f) u) → has (Uses (node_of c f) u) →
      CallsLibrary app lists w f (places_of r) r.at.proto.ret r.row new v → LibraryKnown new c f fs v
  known_row {w} {new} {site} {c} {f} {fs} {v} {u} known r uses call =
      known_after known r uses call (result_later w site c f fs known u r uses shared handed_before refl call.results)
    where
      shared : Later app lists has w.heap site (record w { heap = call.with_shared; statics = new.statics }) c f fs
      shared = shared_later w site (names_shared w site c f fs known u r uses) call.shared known

      handed_first : (p : ℕ) → In p w.handed ⊎ Hands f (places_of r) p → HandedFits has w.heap site p
      handed_first p (inl old) = known.world.handed p old
      handed_first p (inr hands) =
          let of = placed w site c f fs known u r uses hands.place in
          handed_of p (known.registers of.0) of.2
          (λ s h. lib app lists has closed laws (hand_points {n = node_of c f} hands.at r of.1) (uses, (h, tt)))
          (λ s q l h t. lib app lists has closed laws (hand_taint {n = node_of c f} hands.at r of.1) (uses, (h, (t, tt))))

      handed_before : (p : ℕ) → In p new.handed → HandedFits has w.heap site p
      handed_before p h = handed_first p ((call.handed p).0 h)

  pub known_library : {w new : World} {site : ℕ → Site} {c : Ctx} {f : Frame} {fs : List Frame} {kind : CallKind} {at : MethodRef} {args : List ℕ} {row : Summary} {v : Value} →
      Runs app lists has w site c f fs → ActAt app f.method f.pc (Call kind at args) → UsesRow app lists w.heap f kind at args row →
      CallsLibrary app lists w f (positions kind at args) at.proto.ret row new v → LibraryKnown new c f fs v
  known_library {kind = kind} {at = at} {args = args} {row = row} known act used call =
      known_row known (record { kind = kind; at = at; args = args; row = row; act = act; is_row = used.is_row }) (looked_up known act used.goes refl (finds_row used.is_key used.is_row used.plain)) call
