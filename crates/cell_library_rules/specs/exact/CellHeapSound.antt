-- What is listed of a call by rules 37 to 39 of the second set follows, with the premises that are known.
use Rattle.std.proofs.Common.{◌≡◌, ◌==◌, ℕ, false, List, [], Option, Some, None, cond, is_some, flat_map, slice_get, eqb-true, refl, subst}
use Rattle.std.specs.List.{AllByRecursion}
use Rattle.vet_base.specs.Members.{In, IsAt}
use Rattle.vet_base.proofs.Every.{each_append, each_flat, each_where, each_unless}
use Rattle.app_machine.specs.declared.lists.Lists.{Lists}
use Rattle.app_machine.specs.declared.lists.SummaryId.{SummaryId}
use Rattle.app_machine.specs.declared.app.App.{App}
use Rattle.app_machine.specs.Lookups.{elem_key}
use Rattle.fact_rows.specs.declared.context.Node.{Node}
use Rattle.fact_rows.specs.declared.row.Row.{Row}
use Rattle.fact_rows.specs.declared.row.Row.TheVariants.{Points, CellLabel, Uses}
use Rattle.flow_rules.specs.LibraryRules.{RowAt, places_of}
use Rattle.rule_ground.specs.declared.conclusion.Conclusion.{Conclusion}
use Rattle.rule_ground.specs.declared.key.Key.{Key}
use Rattle.rule_ground.specs.declared.key.Key.TheVariants.{PointsAt, LabelsAt}
use Rattle.rule_ground.specs.Candidates.{candidates}
use Rattle.rule_ground.specs.Hits.{IsHits}
use Rattle.library_ground.specs.declared.pins.Pins.{Pins}
use Rattle.library_ground.specs.CallRow.{CallRow}
use Rattle.library_ground.specs.Free.{each_object}
use Rattle.library_ground.specs.Pinned.{AreThere}
use Rattle.library_ground.specs.Places.{each_place}
use Rattle.library_ground.specs.Stands.{of_row}
use Rattle.library_heap_rules.specs.HeapGiven.{pairs_from}
use Rattle.cell_rules.specs.LibraryRules.{row_put_label, store_label as stored_label, copy_label as copied_label}
use Rattle.cell_library_value_rules.specs.CellPinned.{IsPinnedBy, of_value, of_object, of_all}
use Rattle.cell_library_value_rules.specs.CellValues.{may_stand, each_label, each_cell_label}
use Rattle.cell_library_rules.specs.CellHeapGiven.{put_into, put_label, put_at, put_gives, store_label, store_gives, copy_into, copy_label, copy_object, copy_at, copy_gives, writes_gives, position_gives, at_position, heap_gives}

pairs_sound : (P : Conclusion → Type 0) (i : ℕ) (f : ℕ → List Conclusion) (pairs : List (ℕ × ℕ)) →
    ((j : ℕ) → In (i, j) pairs → AllByRecursion P (f j)) → AllByRecursion P (pairs_from i f pairs)
pairs_sound P i f pairs h = each_flat P (λ (pair : ℕ × ℕ). cond (pair.0 == i) (f pair.1) []) pairs (λ pair m.
    each_where P (pair.0 == i) (f pair.1) (λ t. h pair.1 (subst (λ z. In (z, pair.1) pairs) (eqb-true pair.0 i t) m)))

module _ (app : App) (lists : Lists) (has : Row → Type 0) (hits : Key → List Row) (law : (k : Key) → IsHits has k (hits k)) (n : Node)
    (u : SummaryId) (r : RowAt app lists n u) (pins : Pins) (uses : has (Uses n u)) (known : AreThere has pins) where
  abbrev c : CallRow
  c = of_row app lists n u r

  abbrev P : Conclusion → Type 0
  P = IsPinnedBy app lists has n u pins

  module _ (i x : ℕ) (at : IsAt (places_of r) i x) where
    -- 37
    put_sound : is_some pins.cell ≡ false → (j : ℕ) → In (i, j) r.row.puts → (q : Option ℕ) → slice_get (places_of r) j ≡ q →
        AllByRecursion P (put_at hits pins c x q)
    put_sound fc j m None e = tt
    put_sound fc j m (Some o) e =
        let f : Row → List Conclusion = put_label hits pins.object c x o in
        each_where P (may_stand pins.object n o) (flat_map f (candidates hits pins.value (LabelsAt n x))) (λ t.
        each_label has hits law pins.value known.value P f n x (λ l h same.
        each_object has hits law pins.object known.object P (put_into c x l) n o (λ s hs takes.
        (of_object app lists has n u pins uses (row_put_label i j r m (record { there = e }) at) hs h takes same fc, tt))))

    -- 38
    store_sound : is_some pins.cell ≡ false → is_some pins.object ≡ false → (g : ℕ) → In (i, g) r.row.stores → AllByRecursion P (store_gives hits pins c x g)
    store_sound fc fo g m = each_label has hits law pins.value known.value P (store_label c x g) n x (λ l h same.
        (of_value app lists has n u pins uses (stored_label i g r m at) h same fo fc, tt))

    -- 39
    copy_sound : (j : ℕ) → In (i, j) r.row.copies → (q : Option ℕ) → slice_get (places_of r) j ≡ q → AllByRecursion P (copy_at hits pins c x q)
    copy_sound j m None e = tt
    copy_sound j m (Some o) e =
        let f : Row → List Conclusion = copy_object hits pins c o in
        each_where P (may_stand pins.object n o) (flat_map f (candidates hits pins.value (PointsAt n x))) (λ t.
        each_object has hits law pins.value known.value P f n x (λ s h same.
        each_cell_label has hits law pins.cell known.cell P (copy_label hits pins.object c o (Points n x s)) s (λ l hl holds.
        each_object has hits law pins.object known.object P (copy_into c (Points n x s) (CellLabel s elem_key l) l) n o (λ v hv takes.
        (of_all app lists has n u pins uses (copied_label i j r m at (record { there = e })) h hl hv same holds takes, tt)))))

    writes_sound : is_some pins.cell ≡ false → AllByRecursion P (writes_gives hits pins c i x)
    writes_sound fc =
        let stores : List Conclusion = pairs_from i (store_gives hits pins c x) r.row.stores in
        each_append P (pairs_from i (put_gives hits pins c x) r.row.puts) (cond (is_some pins.object) [] stores)
        (pairs_sound P i (put_gives hits pins c x) r.row.puts (λ j m. put_sound fc j m (slice_get (places_of r) j) refl))
        (each_unless P (is_some pins.object) stores (λ fo. pairs_sound P i (store_gives hits pins c x) r.row.stores (λ g m. store_sound fc fo g m)))

    position_sound : AllByRecursion P (at_position hits pins c i x)
    position_sound = each_where P (may_stand pins.value n x) (position_gives hits pins c i x) (λ t.
        each_append P (cond (is_some pins.cell) [] (writes_gives hits pins c i x)) (pairs_from i (copy_gives hits pins c x) r.row.copies)
        (each_unless P (is_some pins.cell) (writes_gives hits pins c i x) writes_sound)
        (pairs_sound P i (copy_gives hits pins c x) r.row.copies (λ j m. copy_sound j m (slice_get (places_of r) j) refl)))

  pub heap_sound : AllByRecursion P (heap_gives hits pins c)
  heap_sound = each_place P (at_position hits pins c) c.places position_sound
