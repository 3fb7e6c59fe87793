-- What is listed of a call by rules 37 to 39 follows, with the premises that are known.
use Rattle.std.proofs.Common.{◌≡◌, ◌==◌, ℕ, false, List, [], ◌∷◌, Option, Some, None, cond, is_some, slice_get, eqb-true, refl, subst}
use Rattle.std.specs.List.{AllByRecursion}
use Rattle.vet_base.specs.Members.{In, IsAt}
use Rattle.vet_base.proofs.Every.{each_append, each_map, each_flat, each_where, each_unless}
use Rattle.access_path.specs.declared.path.Path.{Path}
use Rattle.access_path.specs.Paths.{rest}
use Rattle.app_machine.specs.declared.lists.Lists.{Lists}
use Rattle.app_machine.specs.declared.lists.SummaryId.{SummaryId}
use Rattle.app_machine.specs.declared.app.App.{App}
use Rattle.app_machine.specs.Lookups.{elem_key}
use Rattle.fact_rows.specs.declared.context.Node.{Node}
use Rattle.fact_rows.specs.declared.site.Site.{Site}
use Rattle.fact_rows.specs.declared.site.Site.TheVariants.{Shared as SharedSite}
use Rattle.fact_rows.specs.declared.row.Row.{Row}
use Rattle.fact_rows.specs.declared.row.Row.TheVariants.{Points, Taint, Cell, Uses}
use Rattle.flow_rules.specs.LibraryRules.{LibraryRule, RowAt, places_of, row_put_cell, row_put_effect, store_static, store_cell, store_effect, copy_cell, copy_effect}
use Rattle.rule_ground.specs.declared.conclusion.Conclusion.{Conclusion}
use Rattle.rule_ground.specs.declared.content.Content.{Content}
use Rattle.rule_ground.specs.declared.content.Content.TheVariants.{Object, Label}
use Rattle.rule_ground.specs.declared.key.Key.{Key}
use Rattle.rule_ground.specs.Given.{held, stored}
use Rattle.rule_ground.specs.Hits.{IsHits}
use Rattle.library_ground.specs.declared.pins.Pins.{Pins}
use Rattle.library_ground.specs.CallRow.{CallRow}
use Rattle.library_ground.specs.Free.{IsThat, each_object, each_element, each_value}
use Rattle.library_ground.specs.Pinned.{AreThere, IsPinnedBy, alone, of_value, of_object, into_object, of_all, free_of}
use Rattle.library_ground.specs.Pinning.{are_free, may_stand, values_give}
use Rattle.library_ground.specs.Places.{at_places, each_place}
use Rattle.library_ground.specs.Stands.{of_row}
use Rattle.library_heap_rules.specs.HeapGiven.{pairs_from, put_into, put_content, put_row, put_at, put_gives, store_row, store_gives, static_filled, statics_filled, copy_into, copy_element, label_into, copy_rest, copy_row, copy_at, copy_gives, writes_gives, position_gives, at_position, heap_gives}

pairs_sound : (P : Conclusion → Type 0) (i : ℕ) (f : ℕ → List Conclusion) (pairs : List (ℕ × ℕ)) →
    ((j : ℕ) → In (i, j) pairs → AllByRecursion P (f j)) → AllByRecursion P (pairs_from i f pairs)
pairs_sound P i f pairs h = each_flat P (λ (pair : ℕ × ℕ). cond (pair.0 == i) (f pair.1) []) pairs (λ pair m.
    each_where P (pair.0 == i) (f pair.1) (λ t. h pair.1 (subst (λ z. In (z, pair.1) pairs) (eqb-true pair.0 i t) m)))

module _ (app : App) (lists : Lists) (has : Row → Type 0) (hits : Key → List Row) (law : (k : Key) → IsHits has k (hits k)) (n : Node) (u : SummaryId) (r : RowAt app lists n u) (pins : Pins) (uses : has (Uses n u)) (known : AreThere has pins) where
  abbrev c : CallRow
  c = of_row app lists n u r

  abbrev P : Conclusion → Type 0
  P = IsPinnedBy app lists has n u pins

  module _ (i x : ℕ) (at : IsAt (places_of r) i x) where
    -- 37
    module _ (fc : is_some pins.cell ≡ false) (j : ℕ) (m : In (i, j) r.row.puts) where
      put_rule : (v : Content) (o : ℕ) (s : Site) → IsAt (places_of r) j o →
          LibraryRule app lists 37 (Uses n u ∷ Points n o s ∷ held v n x ∷ []) (stored v n s elem_key)
      put_rule (Object t) o s to = row_put_cell i j r m to at
      put_rule (Label p l) o s to = row_put_effect i j r m to at

      content_sound : (o : ℕ) → IsAt (places_of r) j o → (v : Content) → has (held v n x) → IsThat pins.value (held v n x) →
          AllByRecursion P (put_content hits pins.object c x o v)
      content_sound o to v h same = each_object has hits law pins.object known.object P (put_into c x v) n o (λ s hs takes.
          (of_object app lists has n u pins uses (put_rule v o s to) hs h takes same fc, tt))

      put_row_sound : (o : ℕ) → IsAt (places_of r) j o → (v : Content) → has (held v n x) → IsThat pins.value (held v n x) →
          AllByRecursion P (put_row hits pins.object c x o (held v n x))
      put_row_sound o to (Object t) h same = content_sound o to (Object t) h same
      put_row_sound o to (Label p l) h same = content_sound o to (Label p l) h same

      put_sound : (q : Option ℕ) → slice_get (places_of r) j ≡ q → AllByRecursion P (put_at hits pins c x q)
      put_sound None e = tt
      put_sound (Some o) e = each_where P (may_stand pins.object n o) (values_give hits pins.value n x (put_row hits pins.object c x o)) (λ t.
          each_value has hits law pins.value known.value P (put_row hits pins.object c x o) n x (put_row_sound o (record { there = e })))

    -- 38
    module _ (fc : is_some pins.cell ≡ false) (fo : is_some pins.object ≡ false) (g : ℕ) (m : In (i, g) r.row.stores) where
      store_rule : (v : Content) → LibraryRule app lists 38 (Uses n u ∷ held v n x ∷ []) (stored v n (SharedSite g) elem_key)
      store_rule (Object t) = store_cell i g r m at
      store_rule (Label p l) = store_effect i g r m at

      store_row_sound : (v : Content) → has (held v n x) → IsThat pins.value (held v n x) → AllByRecursion P (store_row c x g (held v n x))
      store_row_sound (Object t) h same = (of_value app lists has n u pins uses (store_rule (Object t)) h same fo fc, tt)
      store_row_sound (Label p l) h same = (of_value app lists has n u pins uses (store_rule (Label p l)) h same fo fc, tt)

      store_sound : AllByRecursion P (store_gives hits pins c x g)
      store_sound = each_value has hits law pins.value known.value P (store_row c x g) n x store_row_sound

    -- 39
    module _ (j : ℕ) (m : In (i, j) r.row.copies) where
      rest_sound : (o : ℕ) → IsAt (places_of r) j o → is_some pins.cell ≡ false → (p : Path) (l : ℕ) → has (Taint n x p l) →
          IsThat pins.value (Taint n x p l) → (q : Option Path) → rest p elem_key ≡ q →
          AllByRecursion P (copy_rest hits pins.object c o (Taint n x p l) l q)
      rest_sound o to fc p l h same None e = tt
      rest_sound o to fc p l h same (Some q) e = each_object has hits law pins.object known.object P (label_into c (Taint n x p l) q l) n o (λ v hv takes.
          (into_object app lists has n u pins uses (copy_effect i j r m at to e) h hv same takes fc, tt))

      copy_row_sound : (o : ℕ) → IsAt (places_of r) j o → (v : Content) → has (held v n x) → IsThat pins.value (held v n x) →
          AllByRecursion P (copy_row hits pins c o (held v n x))
      copy_row_sound o to (Object s) h same = each_element has hits law pins.cell known.cell P (copy_element hits pins.object c o (Points n x s)) s (λ t ht holds.
          each_object has hits law pins.object known.object P (copy_into c (Points n x s) (Cell s elem_key t) t) n o (λ v hv takes.
          (of_all app lists has n u pins uses (copy_cell i j r m at to) h ht hv same holds takes, tt)))
      copy_row_sound o to (Label p l) h same =
          each_unless P (is_some pins.cell) (copy_rest hits pins.object c o (Taint n x p l) l (rest p elem_key))
          (λ fc. rest_sound o to fc p l h same (rest p elem_key) refl)

      copy_sound : (q : Option ℕ) → slice_get (places_of r) j ≡ q → AllByRecursion P (copy_at hits pins c x q)
      copy_sound None e = tt
      copy_sound (Some o) e = each_where P (may_stand pins.object n o) (values_give hits pins.value n x (copy_row hits pins c o)) (λ t.
          each_value has hits law pins.value known.value P (copy_row hits pins c o) n x (copy_row_sound o (record { there = e })))

    writes_sound : is_some pins.cell ≡ false → AllByRecursion P (writes_gives hits pins c i x)
    writes_sound fc =
        let stores : List Conclusion = pairs_from i (store_gives hits pins c x) r.row.stores in
        each_append P (pairs_from i (put_gives hits pins c x) r.row.puts) (cond (is_some pins.object) [] stores)
        (pairs_sound P i (put_gives hits pins c x) r.row.puts (λ j m. put_sound fc j m (slice_get (places_of r) j) refl))
        (each_unless P (is_some pins.object) stores (λ fo. pairs_sound P i (store_gives hits pins c x) r.row.stores (λ g m. store_sound fc fo g m)))

    position_sound : AllByRecursion P (at_position hits pins c i x)
    position_sound = each_where P (may_stand pins.value n x) (position_gives hits pins c i x) (λ t.
        each_append P (cond (is_some pins.cell) [] (writes_gives hits pins c i x)) (pairs_from i (copy_gives hits pins c x) r.row.copies)
        (each_unless P (is_some pins.cell) (writes_gives hits pins c i x) writes_sound)
        (pairs_sound P i (copy_gives hits pins c x) r.row.copies (λ j m. copy_sound j m (slice_get (places_of r) j) refl)))

  pub heap_sound : AllByRecursion P (heap_gives app hits pins c)
  heap_sound =
      each_append P (at_places (at_position hits pins c) 0 c.places) (cond (are_free pins) (statics_filled app c) [])
      (each_place P (at_position hits pins c) c.places position_sound)
      (each_where P (are_free pins) (statics_filled app c) (λ f.
      each_map P (static_filled app c) r.row.stores (λ store m. alone app lists has n u pins uses (store_static store.0 store.1 r m) (free_of pins f))))
