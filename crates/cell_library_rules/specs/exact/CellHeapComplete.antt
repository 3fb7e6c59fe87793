-- What follows from a call by rules 37 to 39 of the second set, with the premises that are known, is listed.
use Rattle.std.proofs.Common.{◌≡◌, ◌==◌, ℕ, false, List, [], cond, is_some, flat_map, refl, sym, subst, inl}
use Rattle.vet_base.specs.Members.{In, IsAt}
use Rattle.vet_base.proofs.Members.{in_front, in_back, in_flat}
use Rattle.vet_base.proofs.Every.{in_where, in_unless}
use Rattle.app_machine.specs.declared.lists.Lists.{Lists}
use Rattle.app_machine.specs.declared.lists.SummaryId.{SummaryId}
use Rattle.app_machine.specs.declared.app.App.{App}
use Rattle.app_machine.specs.Lookups.{elem_key}
use Rattle.fact_rows.specs.declared.context.Node.{Node}
use Rattle.fact_rows.specs.declared.site.Site.{Site}
use Rattle.fact_rows.specs.declared.site.Site.TheVariants.{Shared as SharedSite}
use Rattle.fact_rows.specs.declared.row.Row.{Row}
use Rattle.fact_rows.specs.declared.row.Row.TheVariants.{Points, Label, CellLabel, Uses}
use Rattle.flow_rules.specs.LibraryRules.{RowAt, places_of}
use Rattle.rule_ground.specs.declared.conclusion.Conclusion.{Conclusion}
use Rattle.rule_ground.specs.declared.key.Key.{Key}
use Rattle.rule_ground.specs.declared.key.Key.TheVariants.{PointsAt, LabelsAt, CellLabelsOf}
use Rattle.rule_ground.specs.Candidates.{candidates}
use Rattle.rule_ground.specs.Given.{of_two, of_three, of_four, concludes}
use Rattle.rule_ground.specs.Hits.{IsHits}
use Rattle.rule_ground.specs.Listing.{itself}
use Rattle.library_ground.specs.declared.pins.Pins.{Pins}
use Rattle.library_ground.specs.CallRow.{CallRow}
use Rattle.library_ground.specs.Free.{IsThat, in_objects}
use Rattle.library_ground.specs.Places.{in_place}
use Rattle.library_ground.specs.Stands.{of_row}
use Rattle.library_heap_rules.specs.HeapGiven.{pairs_from}
use Rattle.cell_ground.specs.declared.content.Content.{Content}
use Rattle.cell_ground.specs.declared.content.Content.TheVariants as content
use Rattle.cell_ground.specs.Coming.{held}
use Rattle.cell_library_value_rules.specs.CellValues.{may_stand, may_hold, in_candidates}
use Rattle.cell_library_rules.specs.CellHeapGiven.{put_into, put_label, put_at, put_gives, store_label, store_gives, copy_into, copy_label, copy_object, copy_at, copy_gives, writes_gives, position_gives, at_position, heap_gives}

pairs_in : (k : Conclusion) (i j : ℕ) (f : ℕ → List Conclusion) (pairs : List (ℕ × ℕ)) → In (i, j) pairs → In k (f j) → In k (pairs_from i f pairs)
pairs_in k i j f pairs m h = in_flat (λ (pair : ℕ × ℕ). cond (pair.0 == i) (f pair.1) []) pairs (i, j) k m (in_where k (i == i) (f j) (itself i) h)

module _ (app : App) (lists : Lists) (has : Row → Type 0) (hits : Key → List Row) (law : (k : Key) → IsHits has k (hits k)) (n : Node)
    (u : SummaryId) (r : RowAt app lists n u) (pins : Pins) where
  abbrev c : CallRow
  c = of_row app lists n u r

  abbrev given : List Conclusion
  given = heap_gives hits pins c

  module _ (i x : ℕ) (at : IsAt (places_of r) i x) where
    at_place : (k : Conclusion) (v : Content) → IsThat pins.value (held v n x) → In k (position_gives hits pins c i x) → In k given
    at_place k v same h =
        in_place k (at_position hits pins c) c.places i x at
        (in_where k (may_stand pins.value n x) (position_gives hits pins c i x) (may_hold pins.value n x v same) h)

    module _ (l : ℕ) (h : has (Label n x l)) (same : IsThat pins.value (Label n x l)) (fc : is_some pins.cell ≡ false) where
      in_writes : (k : Conclusion) → In k (writes_gives hits pins c i x) → In k given
      in_writes k j =
          at_place k (content.Label l) same
          (in_front k (cond (is_some pins.cell) [] (writes_gives hits pins c i x)) (pairs_from i (copy_gives hits pins c x) r.row.copies)
          (in_unless k (is_some pins.cell) (writes_gives hits pins c i x) fc j))

      -- 37
      pub put_in : (j o : ℕ) (s : Site) → In (i, j) r.row.puts → IsAt (places_of r) j o → has (Points n o s) → IsThat pins.object (Points n o s) →
          In (concludes 37 (of_three (Uses n u) (Points n o s) (Label n x l)) (CellLabel s elem_key l)) given
      put_in j o s m to hs takes =
          let k = concludes 37 (of_three (Uses n u) (Points n o s) (Label n x l)) (CellLabel s elem_key l) in
          let f : Row → List Conclusion = put_label hits pins.object c x o in
          in_writes k
          (in_front k (pairs_from i (put_gives hits pins c x) r.row.puts) (cond (is_some pins.object) [] (pairs_from i (store_gives hits pins c x) r.row.stores))
          (pairs_in k i j (put_gives hits pins c x) r.row.puts m
          (subst (λ q. In k (put_at hits pins c x q)) (sym to.there)
          (in_where k (may_stand pins.object n o) (flat_map f (candidates hits pins.value (LabelsAt n x))) (may_hold pins.object n o (content.Object s) takes)
          (in_candidates has hits law pins.value k f (LabelsAt n x) (Label n x l) (l, refl) h same
          (in_objects has hits law pins.object k (put_into c x l) n o s hs takes (inl refl)))))))

      -- 38
      pub store_in : (g : ℕ) → In (i, g) r.row.stores → is_some pins.object ≡ false →
          In (concludes 38 (of_two (Uses n u) (Label n x l)) (CellLabel (SharedSite g) elem_key l)) given
      store_in g m fo =
          let k = concludes 38 (of_two (Uses n u) (Label n x l)) (CellLabel (SharedSite g) elem_key l) in
          let stores : List Conclusion = pairs_from i (store_gives hits pins c x) r.row.stores in
          in_writes k
          (in_back k (pairs_from i (put_gives hits pins c x) r.row.puts) (cond (is_some pins.object) [] stores)
          (in_unless k (is_some pins.object) stores fo
          (pairs_in k i g (store_gives hits pins c x) r.row.stores m
          (in_candidates has hits law pins.value k (store_label c x g) (LabelsAt n x) (Label n x l) (l, refl) h same (inl refl)))))

    -- 39
    pub copy_in : (j o l : ℕ) (s v : Site) → In (i, j) r.row.copies → IsAt (places_of r) j o → has (Points n x s) → has (CellLabel s elem_key l) →
        has (Points n o v) → IsThat pins.value (Points n x s) → IsThat pins.cell (CellLabel s elem_key l) → IsThat pins.object (Points n o v) →
        In (concludes 39 (of_four (Uses n u) (Points n x s) (CellLabel s elem_key l) (Points n o v)) (CellLabel v elem_key l)) given
    copy_in j o l s v m to h hl hv same holds takes =
        let k = concludes 39 (of_four (Uses n u) (Points n x s) (CellLabel s elem_key l) (Points n o v)) (CellLabel v elem_key l) in
        let f : Row → List Conclusion = copy_object hits pins c o in
        at_place k (content.Object s) same
        (in_back k (cond (is_some pins.cell) [] (writes_gives hits pins c i x)) (pairs_from i (copy_gives hits pins c x) r.row.copies)
        (pairs_in k i j (copy_gives hits pins c x) r.row.copies m
        (subst (λ q. In k (copy_at hits pins c x q)) (sym to.there)
        (in_where k (may_stand pins.object n o) (flat_map f (candidates hits pins.value (PointsAt n x))) (may_hold pins.object n o (content.Object v) takes)
        (in_objects has hits law pins.value k f n x s h same
        (in_candidates has hits law pins.cell k (copy_label hits pins.object c o (Points n x s)) (CellLabelsOf s elem_key) (CellLabel s elem_key l) (l, refl) hl holds
        (in_objects has hits law pins.object k (copy_into c (Points n x s) (CellLabel s elem_key l) l) n o v hv takes (inl refl))))))))
