-- What follows from a call by rules 37 to 39, with the premises that are known, is listed.
use Rattle.std.proofs.Common.{◌≡◌, ◌==◌, ℕ, false, List, [], Some, cond, is_some, refl, sym, subst, inl}
use Rattle.vet_base.specs.Members.{In, IsAt}
use Rattle.vet_base.proofs.Members.{in_front, in_back, in_map, in_flat}
use Rattle.vet_base.proofs.Every.{in_where, in_unless}
use Rattle.access_path.specs.declared.path.Path.{Path}
use Rattle.access_path.specs.Paths.{cut, rest}
use Rattle.app_machine.specs.declared.lists.Lists.{Lists}
use Rattle.app_machine.specs.declared.lists.SummaryId.{SummaryId}
use Rattle.app_machine.specs.declared.app.App.{App}
use Rattle.app_machine.specs.Lookups.{elem_key}
use Rattle.app_machine.specs.State.{shared_static}
use Rattle.fact_rows.specs.declared.context.Node.{Node}
use Rattle.fact_rows.specs.declared.site.Site.{Site}
use Rattle.fact_rows.specs.declared.site.Site.TheVariants.{Shared as SharedSite}
use Rattle.fact_rows.specs.declared.row.Row.{Row}
use Rattle.fact_rows.specs.declared.row.Row.TheVariants.{Points, Taint, Cell, StaticPoints, Effect, Uses}
use Rattle.flow_rules.specs.LibraryRules.{RowAt, places_of}
use Rattle.rule_ground.specs.declared.conclusion.Conclusion.{Conclusion}
use Rattle.rule_ground.specs.declared.content.Content.{Content}
use Rattle.rule_ground.specs.declared.content.Content.TheVariants.{Object, Label}
use Rattle.rule_ground.specs.declared.key.Key.{Key}
use Rattle.rule_ground.specs.Given.{of_one, of_two, of_three, of_four, concludes, held, stored}
use Rattle.rule_ground.specs.Hits.{IsHits}
use Rattle.rule_ground.specs.Listing.{itself}
use Rattle.library_ground.specs.declared.pins.Pins.{Pins}
use Rattle.library_ground.specs.CallRow.{CallRow}
use Rattle.library_ground.specs.Free.{IsThat, may_hold, in_objects, in_elements, in_values}
use Rattle.library_ground.specs.Pinned.{AllFree, of_free}
use Rattle.library_ground.specs.Pinning.{are_free, may_stand, values_give}
use Rattle.library_ground.specs.Places.{at_places, in_place}
use Rattle.library_ground.specs.Stands.{of_row}
use Rattle.library_heap_rules.specs.HeapGiven.{pairs_from, put_into, put_content, put_row, put_at, put_gives, store_content, store_row, store_gives, static_filled, statics_filled, copy_into, copy_element, label_into, copy_rest, copy_row, copy_at, copy_gives, writes_gives, position_gives, at_position, heap_gives}

pairs_in : (k : Conclusion) (i j : ℕ) (f : ℕ → List Conclusion) (pairs : List (ℕ × ℕ)) → In (i, j) pairs → In k (f j) → In k (pairs_from i f pairs)
pairs_in k i j f pairs m h = in_flat (λ (pair : ℕ × ℕ). cond (pair.0 == i) (f pair.1) []) pairs (i, j) k m (in_where k (i == i) (f j) (itself i) h)

module _ (app : App) (lists : Lists) (has : Row → Type 0) (hits : Key → List Row) (law : (k : Key) → IsHits has k (hits k)) (n : Node) (u : SummaryId) (r : RowAt app lists n u) (pins : Pins) where
  abbrev c : CallRow
  c = of_row app lists n u r

  abbrev given : List Conclusion
  given = heap_gives app hits pins c

  module _ (i x : ℕ) (at : IsAt (places_of r) i x) where
    at_place : (k : Conclusion) (v : Content) → IsThat pins.value (held v n x) → In k (position_gives hits pins c i x) → In k given
    at_place k v same h =
        in_front k (at_places (at_position hits pins c) 0 c.places) (cond (are_free pins) (statics_filled app c) [])
        (in_place k (at_position hits pins c) c.places i x at (in_where k (may_stand pins.value n x) (position_gives hits pins c i x) (may_hold pins.value n x v same) h))

    in_writes : (k : Conclusion) (v : Content) → IsThat pins.value (held v n x) → is_some pins.cell ≡ false → In k (writes_gives hits pins c i x) → In k given
    in_writes k v same fc h =
        at_place k v same
        (in_front k (cond (is_some pins.cell) [] (writes_gives hits pins c i x)) (pairs_from i (copy_gives hits pins c x) r.row.copies)
        (in_unless k (is_some pins.cell) (writes_gives hits pins c i x) fc h))

    in_put_row : (k : Conclusion) (o : ℕ) (v : Content) → In k (put_content hits pins.object c x o v) → In k (put_row hits pins.object c x o (held v n x))
    in_put_row k o (Object t) h = h
    in_put_row k o (Label p l) h = h

    -- 37
    pub put_in : (v : Content) (j o : ℕ) (s : Site) → In (i, j) r.row.puts → IsAt (places_of r) j o → has (Points n o s) → has (held v n x) →
        IsThat pins.object (Points n o s) → IsThat pins.value (held v n x) → is_some pins.cell ≡ false →
        In (concludes 37 (of_three (Uses n u) (Points n o s) (held v n x)) (stored v n s elem_key)) given
    put_in v j o s m to hs h takes same fc =
        let k = concludes 37 (of_three (Uses n u) (Points n o s) (held v n x)) (stored v n s elem_key) in
        in_writes k v same fc
        (in_front k (pairs_from i (put_gives hits pins c x) r.row.puts) (cond (is_some pins.object) [] (pairs_from i (store_gives hits pins c x) r.row.stores))
        (pairs_in k i j (put_gives hits pins c x) r.row.puts m
        (subst (λ q. In k (put_at hits pins c x q)) (sym to.there)
        (in_where k (may_stand pins.object n o) (values_give hits pins.value n x (put_row hits pins.object c x o)) (may_hold pins.object n o (Object s) takes)
        (in_values has hits law pins.value k (put_row hits pins.object c x o) n x v h same
        (in_put_row k o v (in_objects has hits law pins.object k (put_into c x v) n o s hs takes (inl refl))))))))

    in_store_row : (k : Conclusion) (g : ℕ) (v : Content) → In k (store_content c x g v) → In k (store_row c x g (held v n x))
    in_store_row k g (Object t) h = h
    in_store_row k g (Label p l) h = h

    -- 38
    pub store_in : (v : Content) (g : ℕ) → In (i, g) r.row.stores → has (held v n x) → IsThat pins.value (held v n x) → is_some pins.object ≡ false →
        is_some pins.cell ≡ false → In (concludes 38 (of_two (Uses n u) (held v n x)) (stored v n (SharedSite g) elem_key)) given
    store_in v g m h same fo fc =
        let k = concludes 38 (of_two (Uses n u) (held v n x)) (stored v n (SharedSite g) elem_key) in
        let stores : List Conclusion = pairs_from i (store_gives hits pins c x) r.row.stores in
        in_writes k v same fc
        (in_back k (pairs_from i (put_gives hits pins c x) r.row.puts) (cond (is_some pins.object) [] stores)
        (in_unless k (is_some pins.object) stores fo
        (pairs_in k i g (store_gives hits pins c x) r.row.stores m
        (in_values has hits law pins.value k (store_row c x g) n x v h same (in_store_row k g v (inl refl))))))

    -- 39
    in_copies : (k : Conclusion) (v : Content) (j o : ℕ) (s : Site) → In (i, j) r.row.copies → IsAt (places_of r) j o →
        IsThat pins.object (Points n o s) → has (held v n x) → IsThat pins.value (held v n x) → In k (copy_row hits pins c o (held v n x)) → In k given
    in_copies k v j o s m to takes h same z =
        at_place k v same
        (in_back k (cond (is_some pins.cell) [] (writes_gives hits pins c i x)) (pairs_from i (copy_gives hits pins c x) r.row.copies)
        (pairs_in k i j (copy_gives hits pins c x) r.row.copies m
        (subst (λ q. In k (copy_at hits pins c x q)) (sym to.there)
        (in_where k (may_stand pins.object n o) (values_give hits pins.value n x (copy_row hits pins c o)) (may_hold pins.object n o (Object s) takes)
        (in_values has hits law pins.value k (copy_row hits pins c o) n x v h same z)))))

    pub copy_in : (j o : ℕ) (s t v : Site) → In (i, j) r.row.copies → IsAt (places_of r) j o → has (Points n x s) → has (Cell s elem_key t) →
        has (Points n o v) → IsThat pins.value (Points n x s) → IsThat pins.cell (Cell s elem_key t) → IsThat pins.object (Points n o v) →
        In (concludes 39 (of_four (Uses n u) (Points n x s) (Cell s elem_key t) (Points n o v)) (Cell v elem_key t)) given
    copy_in j o s t v m to h ht hv same holds takes =
        let k = concludes 39 (of_four (Uses n u) (Points n x s) (Cell s elem_key t) (Points n o v)) (Cell v elem_key t) in
        in_copies k (Object s) j o v m to takes h same
        (in_elements has hits law pins.cell k (copy_element hits pins.object c o (Points n x s)) s t ht holds
        (in_objects has hits law pins.object k (copy_into c (Points n x s) (Cell s elem_key t) t) n o v hv takes (inl refl)))

    pub copy_label_in : (j o : ℕ) (v : Site) (p q : Path) (l : ℕ) → In (i, j) r.row.copies → IsAt (places_of r) j o → rest p elem_key ≡ Some q →
        has (Taint n x p l) → has (Points n o v) → IsThat pins.value (Taint n x p l) → IsThat pins.object (Points n o v) → is_some pins.cell ≡ false →
        In (concludes 39 (of_three (Uses n u) (Taint n x p l) (Points n o v)) (Effect n v (cut elem_key q) l)) given
    copy_label_in j o v p q l m to left h hv same takes fc =
        let k = concludes 39 (of_three (Uses n u) (Taint n x p l) (Points n o v)) (Effect n v (cut elem_key q) l) in
        in_copies k (Label p l) j o v m to takes h same
        (in_unless k (is_some pins.cell) (copy_rest hits pins.object c o (Taint n x p l) l (rest p elem_key)) fc
        (subst (λ z. In k (copy_rest hits pins.object c o (Taint n x p l) l z)) (sym left)
        (in_objects has hits law pins.object k (label_into c (Taint n x p l) q l) n o v hv takes (inl refl))))

  -- 38, of the static
  pub filled_in : AllFree pins → (i g : ℕ) → In (i, g) r.row.stores →
      In (concludes 38 (of_one (Uses n u)) (StaticPoints (shared_static app g) (SharedSite g))) given
  filled_in free i g m =
      let k = concludes 38 (of_one (Uses n u)) (StaticPoints (shared_static app g) (SharedSite g)) in
      in_back k (at_places (at_position hits pins c) 0 c.places) (cond (are_free pins) (statics_filled app c) [])
      (in_where k (are_free pins) (statics_filled app c) (of_free pins free) (in_map (static_filled app c) r.row.stores (i, g) m))
