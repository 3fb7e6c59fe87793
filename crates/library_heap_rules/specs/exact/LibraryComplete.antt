-- What follows with a row is listed.
use Rattle.std.proofs.Common.{◌≡◌, ℕ, false, List, [], ◌∷◌, is_some, refl, sym, subst, inl, inr}
use Rattle.vet_base.specs.Members.{In}
use Rattle.vet_base.proofs.Members.{in_front, in_back}
use Rattle.app_machine.specs.declared.lists.Lists.{Lists}
use Rattle.app_machine.specs.declared.lists.SummaryId.{SummaryId}
use Rattle.app_machine.specs.declared.app.App.{App}
use Rattle.app_machine.specs.Lookups.{elem_key}
use Rattle.app_machine.specs.State.{result_register, shared_static}
use Rattle.fact_rows.specs.declared.context.Node.{Node}
use Rattle.fact_rows.specs.declared.site.Site.{Site}
use Rattle.fact_rows.specs.declared.row.Row.{Row}
use Rattle.fact_rows.specs.declared.row.Row.TheVariants.{Points, Taint, Cell, StaticTaint, Uses}
use Rattle.flow_rules.specs.Nodes.{at_pc}
use Rattle.flow_rules.specs.Rules.{Each}
use Rattle.flow_rules.specs.LibraryRules.{LibraryRule, RowAt, hand_points, hand_taint, sink_arrives, same_points, same_taint, taken_points, taken_taint, joined_points, joined_taint, joined_element, source_taint, source_element, shared_static_points, shared_points, shared_taint, row_put_cell, row_put_effect, store_static, store_cell, store_effect, copy_cell, copy_effect}
use Rattle.rule_ground.specs.declared.conclusion.Conclusion.{Conclusion}
use Rattle.rule_ground.specs.declared.content.Content.{Content}
use Rattle.rule_ground.specs.declared.content.Content.TheVariants.{Object, Label}
use Rattle.rule_ground.specs.declared.key.Key.{Key}
use Rattle.rule_ground.specs.declared.key.Key.TheVariants.{PointsTo, UsesAt}
use Rattle.rule_ground.specs.Exact.{IsListed}
use Rattle.rule_ground.specs.Given.{of_one, of_two, of_three, of_four, concludes, held}
use Rattle.rule_ground.specs.Hits.{IsHits}
use Rattle.rule_ground.specs.Listing.{here, only, either, found}
use Rattle.library_ground.specs.declared.pins.Pins.{Pins}
use Rattle.library_ground.specs.CallRow.{call_row}
use Rattle.library_ground.specs.Free.{IsThat}
use Rattle.library_ground.specs.Pinned.{AllFree}
use Rattle.library_ground.specs.Stands.{of_row, row_here}
use Rattle.library_value_rules.specs.ValueGiven.{value_gives}
use Rattle.library_value_rules.specs.exact.ValueComplete.{handed_in, same_in, hands_in, arrives_in, taken_in, rest_in, joined_in, element_in, made_in, source_in, source_element_in, shared_static_in, shared_in, shared_label_in}
use Rattle.library_value_rules.specs.exact.StaticExact.{static_in}
use Rattle.library_heap_rules.specs.HeapGiven.{heap_gives}
use Rattle.library_heap_rules.specs.exact.HeapComplete.{put_in, store_in, copy_in, copy_label_in, filled_in}
use Rattle.library_heap_rules.specs.LibraryGiven.{no_pins, value_pin, object_pin, cell_pin, call_gives, used_gives, user_gives, holder_gives, pointer_gives, library_given}

none_known : AllFree no_pins
none_known = record { value = refl; object = refl; cell = refl }

module _ (app : App) (lists : Lists) (has : Row → Type 0) (hits : Key → List Row) (law : (k : Key) → IsHits has k (hits k)) where
  abbrev given : Row → List Conclusion
  given row = library_given app lists hits row

  -- of a row that is one of three or four premises
  one_of_three : {row a b c : Row} (rule : ℕ) (premises : List Row) (y : Row) → In row (a ∷ b ∷ c ∷ []) → IsListed (given a) rule premises y →
      IsListed (given b) rule premises y → IsListed (given c) rule premises y → IsListed (given row) rule premises y
  one_of_three rule premises y (inl e) h k l = subst (λ z. IsListed (given z) rule premises y) (sym e) h
  one_of_three rule premises y (inr (inl e)) h k l = subst (λ z. IsListed (given z) rule premises y) (sym e) k
  one_of_three rule premises y (inr (inr (inl e))) h k l = subst (λ z. IsListed (given z) rule premises y) (sym e) l
  one_of_three rule premises y (inr (inr (inr none))) h k l = absurd none

  one_of_four : {row a b c d : Row} (rule : ℕ) (premises : List Row) (y : Row) → In row (a ∷ b ∷ c ∷ d ∷ []) → IsListed (given a) rule premises y →
      IsListed (given b) rule premises y → IsListed (given c) rule premises y → IsListed (given d) rule premises y → IsListed (given row) rule premises y
  one_of_four rule premises y (inl e) h k l m = subst (λ z. IsListed (given z) rule premises y) (sym e) h
  one_of_four rule premises y (inr i) h k l m = one_of_three rule premises y i k l m

  module _ (n : Node) (u : SummaryId) (r : RowAt app lists n u) where
    abbrev of_call : Pins → List Conclusion
    of_call pins = call_gives app hits pins (of_row app lists n u r)

    of_value : (pins : Pins) (k : Conclusion) → In k (value_gives app hits pins (of_row app lists n u r)) → In k (of_call pins)
    of_value pins k h = in_front k (value_gives app hits pins (of_row app lists n u r)) (heap_gives app hits pins (of_row app lists n u r)) h

    of_heap : (pins : Pins) (k : Conclusion) → In k (heap_gives app hits pins (of_row app lists n u r)) → In k (of_call pins)
    of_heap pins k h = in_back k (value_gives app hits pins (of_row app lists n u r)) (heap_gives app hits pins (of_row app lists n u r)) h

    in_used : (pins : Pins) (k : Conclusion) → In k (of_call pins) → In k (used_gives app hits pins (call_row app lists n u))
    in_used pins k h = subst (λ o. In k (used_gives app hits pins o)) (sym (row_here app lists n u r)) h

    -- what the use gives with an object as a value, and as one that takes a value in
    abbrev as_value : Row → List Conclusion
    as_value object = user_gives app lists hits (value_pin object) (Uses n u)

    abbrev into_it : Row → List Conclusion
    into_it object = user_gives app lists hits (object_pin object) (Uses n u)

    -- a conclusion of the call, from each of its premises
    at_value : has (Uses n u) → (k : Conclusion) (v : Content) (x : ℕ) → In k (of_call (value_pin (held v n x))) → In k (given (held v n x))
    at_value there k (Object s) x h =
        found has hits law (UsesAt n) (holder_gives app lists hits (Points n x s)) (Uses n u) k there (u, refl)
        (in_front k (as_value (Points n x s)) (into_it (Points n x s)) (in_used (value_pin (Points n x s)) k h))
    at_value there k (Label p l) x h =
        found has hits law (UsesAt n) (user_gives app lists hits (value_pin (Taint n x p l))) (Uses n u) k there (u, refl) (in_used (value_pin (Taint n x p l)) k h)

    at_object : has (Uses n u) → (k : Conclusion) (x : ℕ) (s : Site) → In k (of_call (object_pin (Points n x s))) → In k (given (Points n x s))
    at_object there k x s h =
        found has hits law (UsesAt n) (holder_gives app lists hits (Points n x s)) (Uses n u) k there (u, refl)
        (in_back k (as_value (Points n x s)) (into_it (Points n x s)) (in_used (object_pin (Points n x s)) k h))

    at_cell : has (Uses n u) → (k : Conclusion) (x : ℕ) (s t : Site) → has (Points n x s) →
        In k (of_call (cell_pin (Points n x s) (Cell s elem_key t))) → In k (given (Cell s elem_key t))
    at_cell there k x s t p h =
        found has hits law (PointsTo s) (pointer_gives app lists hits (Cell s elem_key t)) (Points n x s) k p (n, (x, refl))
        (found has hits law (UsesAt n) (user_gives app lists hits (cell_pin (Points n x s) (Cell s elem_key t))) (Uses n u) k there (u, refl)
        (in_used (cell_pin (Points n x s) (Cell s elem_key t)) k h))

    -- the premises of a rule: the use alone, with a value, with an object, with what an object holds
    with_none : (row : Row) (rule : ℕ) (y : Row) → ((pins : Pins) → AllFree pins → In (concludes rule (of_one (Uses n u)) y) (of_call pins)) →
        In row (Uses n u ∷ []) → IsListed (given row) rule (Uses n u ∷ []) y
    with_none row rule y h i = only given _ _ _ i (here given (Uses n u) rule (of_one (Uses n u)) y (in_used no_pins _ (h no_pins none_known)))

    with_value : (row : Row) (rule : ℕ) (y : Row) (v : Content) (x : ℕ) →
        ((pins : Pins) → IsThat pins.value (held v n x) → is_some pins.object ≡ false → is_some pins.cell ≡ false →
        In (concludes rule (of_two (Uses n u) (held v n x)) y) (of_call pins)) →
        has (Uses n u) → In row (Uses n u ∷ held v n x ∷ []) → IsListed (given row) rule (Uses n u ∷ held v n x ∷ []) y
    with_value row rule y v x h there i =
        either given _ _ _ i
        (here given (Uses n u) rule (of_two (Uses n u) (held v n x)) y (in_used no_pins _ (h no_pins tt refl refl)))
        (here given (held v n x) rule (of_two (Uses n u) (held v n x)) y (at_value there _ v x (h (value_pin (held v n x)) refl refl refl)))

    with_object : (row : Row) (rule : ℕ) (y : Row) (v : Content) (x o : ℕ) (s : Site) →
        ((pins : Pins) → IsThat pins.object (Points n o s) → IsThat pins.value (held v n x) → is_some pins.cell ≡ false →
        In (concludes rule (of_three (Uses n u) (Points n o s) (held v n x)) y) (of_call pins)) →
        has (Uses n u) → In row (Uses n u ∷ Points n o s ∷ held v n x ∷ []) → IsListed (given row) rule (Uses n u ∷ Points n o s ∷ held v n x ∷ []) y
    with_object row rule y v x o s h there i =
        let premises = of_three (Uses n u) (Points n o s) (held v n x) in
        one_of_three _ _ _ i
        (here given (Uses n u) rule premises y (in_used no_pins _ (h no_pins tt tt refl)))
        (here given (Points n o s) rule premises y (at_object there _ o s (h (object_pin (Points n o s)) refl tt refl)))
        (here given (held v n x) rule premises y (at_value there _ v x (h (value_pin (held v n x)) tt refl refl)))

    into_object : (row : Row) (rule : ℕ) (y : Row) (v : Content) (x o : ℕ) (s : Site) →
        ((pins : Pins) → IsThat pins.value (held v n x) → IsThat pins.object (Points n o s) → is_some pins.cell ≡ false →
        In (concludes rule (of_three (Uses n u) (held v n x) (Points n o s)) y) (of_call pins)) →
        has (Uses n u) → In row (Uses n u ∷ held v n x ∷ Points n o s ∷ []) → IsListed (given row) rule (Uses n u ∷ held v n x ∷ Points n o s ∷ []) y
    into_object row rule y v x o s h there i =
        let premises = of_three (Uses n u) (held v n x) (Points n o s) in
        one_of_three _ _ _ i
        (here given (Uses n u) rule premises y (in_used no_pins _ (h no_pins tt tt refl)))
        (here given (held v n x) rule premises y (at_value there _ v x (h (value_pin (held v n x)) refl tt refl)))
        (here given (Points n o s) rule premises y (at_object there _ o s (h (object_pin (Points n o s)) tt refl refl)))

    with_cell : (row : Row) (rule : ℕ) (y : Row) (x : ℕ) (s t : Site) →
        ((pins : Pins) → IsThat pins.value (Points n x s) → IsThat pins.cell (Cell s elem_key t) → is_some pins.object ≡ false →
        In (concludes rule (of_three (Uses n u) (Points n x s) (Cell s elem_key t)) y) (of_call pins)) →
        has (Uses n u) → has (Points n x s) → In row (Uses n u ∷ Points n x s ∷ Cell s elem_key t ∷ []) →
        IsListed (given row) rule (Uses n u ∷ Points n x s ∷ Cell s elem_key t ∷ []) y
    with_cell row rule y x s t h there p i =
        let premises = of_three (Uses n u) (Points n x s) (Cell s elem_key t) in
        one_of_three _ _ _ i
        (here given (Uses n u) rule premises y (in_used no_pins _ (h no_pins tt tt refl)))
        (here given (Points n x s) rule premises y (at_value there _ (Object s) x (h (value_pin (Points n x s)) refl tt refl)))
        (here given (Cell s elem_key t) rule premises y (at_cell there _ x s t p (h (cell_pin (Points n x s) (Cell s elem_key t)) refl refl refl)))

    with_all : (row : Row) (rule : ℕ) (y : Row) (x o : ℕ) (s t v : Site) →
        ((pins : Pins) → IsThat pins.value (Points n x s) → IsThat pins.cell (Cell s elem_key t) → IsThat pins.object (Points n o v) →
        In (concludes rule (of_four (Uses n u) (Points n x s) (Cell s elem_key t) (Points n o v)) y) (of_call pins)) →
        has (Uses n u) → has (Points n x s) → In row (Uses n u ∷ Points n x s ∷ Cell s elem_key t ∷ Points n o v ∷ []) →
        IsListed (given row) rule (Uses n u ∷ Points n x s ∷ Cell s elem_key t ∷ Points n o v ∷ []) y
    with_all row rule y x o s t v h there p i =
        let premises = of_four (Uses n u) (Points n x s) (Cell s elem_key t) (Points n o v) in
        one_of_four _ _ _ i
        (here given (Uses n u) rule premises y (in_used no_pins _ (h no_pins tt tt tt)))
        (here given (Points n x s) rule premises y (at_value there _ (Object s) x (h (value_pin (Points n x s)) refl tt tt)))
        (here given (Cell s elem_key t) rule premises y (at_cell there _ x s t p (h (cell_pin (Points n x s) (Cell s elem_key t)) refl refl tt)))
        (here given (Points n o v) rule premises y (at_object there _ o v (h (object_pin (Points n o v)) tt tt refl)))

  pub library_complete : (row : Row) (rule : ℕ) (premises : List Row) (x : Row) → LibraryRule app lists rule premises x → Each has premises →
      In row premises → IsListed (given row) rule premises x
  library_complete row rule premises z (hand_points {n = n} {u = u} {x = x} i {s = s} r at) k w =
      with_value n u r row _ _ (Object s) x (λ pins same fo fc.
      of_value n u r pins _ (hands_in app lists has hits law n u r pins i x at s k.1.0 same fo fc)) k.0 w
  library_complete row rule premises z (hand_taint {n = n} {u = u} {x = x} {l = l} i {s = s} {p = p} r at) k w =
      with_object n u r row _ _ (Label p l) x x s (λ pins takes same fc.
      of_value n u r pins _ (handed_in app lists has hits law n u r pins i x at s p l k.1.0 k.1.1.0 takes same fc)) k.0 w
  library_complete row rule premises z (sink_arrives {n = n} {u = u} {x = x} {l = l} i sink {p = p} r m at) k w =
      with_value n u r row _ _ (Label p l) x (λ pins same fo fc.
      of_value n u r pins _ (arrives_in app lists has hits law n u r pins i x at sink p l m k.1.0 same fo fc)) k.0 w
  library_complete row rule premises z (same_points {n = n} {u = u} {x = x} {i = i} {pc = pc} {s = s} r e one at g) k w =
      with_value n u r row _ _ (Object s) x (λ pins same fo fc.
      of_value n u r pins _ (same_in app lists has hits law n u r pins i x at (Object s) k.1.0 same fo pc fc e one g)) k.0 w
  library_complete row rule premises z (same_taint {n = n} {u = u} {x = x} {i = i} {pc = pc} {l = l} {p = p} r e one at g) k w =
      with_value n u r row _ _ (Label p l) x (λ pins same fo fc.
      of_value n u r pins _ (same_in app lists has hits law n u r pins i x at (Label p l) k.1.0 same fo pc fc e one g)) k.0 w
  library_complete row rule premises z (taken_points {n = n} {u = u} {x = x} {i = i} {pc = pc} {s = s} {t = t} r e one at g) k w =
      with_cell n u r row _ _ x s t (λ pins same holds fo.
      of_value n u r pins _ (taken_in app lists has hits law n u r pins i x at pc s t e one g k.1.0 k.1.1.0 same holds fo)) k.0 k.1.0 w
  library_complete row rule premises z (taken_taint {n = n} {u = u} {x = x} {i = i} {pc = pc} {l = l} {p = p} {q = q} r e one at left g) k w =
      with_value n u r row _ _ (Label p l) x (λ pins same fo fc.
      of_value n u r pins _ (rest_in app lists has hits law n u r pins i x at pc p q l e one left g k.1.0 same fo fc)) k.0 w
  library_complete row rule premises z (joined_points {n = n} {u = u} {pc = pc} {from = from} r e one t g) k w =
      with_none n u r row _ _ (λ pins free.
      of_value n u r pins _ (made_in app lists has hits law n u r pins free one pc from e t g)) w
  library_complete row rule premises z (joined_taint {n = n} {u = u} {x = x} {pc = pc} {l = l} i {from = from} {p = p} r e m one at g) k w =
      with_value n u r row _ _ (Label p l) x (λ pins same fo fc.
      of_value n u r pins _ (joined_in app lists has hits law n u r pins i x at p l pc from e m one g k.1.0 same fo fc)) k.0 w
  library_complete row rule premises z (joined_element {n = n} {u = u} {x = x} {pc = pc} {l = l} i {from = from} {p = p} r e m one t at g) k w =
      with_value n u r row _ _ (Label p l) x (λ pins same fo fc.
      of_value n u r pins _ (element_in app lists has hits law n u r pins i x at p l pc from e m one t g k.1.0 same fo fc)) k.0 w
  library_complete row rule premises z (source_taint {n = n} {u = u} {pc = pc} {l = l} {from = from} r e labels one g) k w =
      with_none n u r row _ _ (λ pins free.
      of_value n u r pins _ (source_in app lists has hits law n u r pins free one pc l from e labels g)) w
  library_complete row rule premises z (source_element {n = n} {u = u} {pc = pc} {l = l} {from = from} r e labels one t g) k w =
      with_none n u r row _ _ (λ pins free.
      of_value n u r pins _ (source_element_in app lists has hits law n u r pins free one pc l from e labels t g)) w
  library_complete row rule premises z (shared_static_points {n = n} {u = u} {g = g} r e one) k w =
      with_none n u r row _ _ (λ pins free.
      of_value n u r pins _ (shared_static_in app lists has hits law n u r pins free one g e)) w
  library_complete row rule premises z (shared_points {n = n} {u = u} {g = g} {pc = pc} r e one goes) k w =
      with_none n u r row _ _ (λ pins free.
      of_value n u r pins _ (shared_in app lists has hits law n u r pins free one g pc e goes)) w
  library_complete row rule premises z (shared_taint {n = n} {u = u} {g = g} {pc = pc} {l = l} {p = p} r e one goes) k w =
      let label : Row = StaticTaint (shared_static app g) p l in
      let y : Row = Taint (at_pc n pc) result_register p l in
      either given _ _ _ w
      (here given (Uses n u) 36 (of_two (Uses n u) label) y (in_used n u r no_pins _ (of_value n u r no_pins _
      (shared_label_in app lists has hits law n u r no_pins none_known one g pc p l e goes k.1.0))))
      (here given label 36 (of_two (Uses n u) label) y (static_in app lists has hits law n u r g pc p l k.0 e one goes))
  library_complete row rule premises z (row_put_cell {n = n} {u = u} {x = x} {o = o} i j {s = s} {t = t} r m to at) k w =
      with_object n u r row _ _ (Object t) x o s (λ pins takes same fc.
      of_heap n u r pins _ (put_in app lists has hits law n u r pins i x at (Object t) j o s m to k.1.0 k.1.1.0 takes same fc)) k.0 w
  library_complete row rule premises z (row_put_effect {n = n} {u = u} {x = x} {o = o} {l = l} i j {s = s} {p = p} r m to at) k w =
      with_object n u r row _ _ (Label p l) x o s (λ pins takes same fc.
      of_heap n u r pins _ (put_in app lists has hits law n u r pins i x at (Label p l) j o s m to k.1.0 k.1.1.0 takes same fc)) k.0 w
  library_complete row rule premises z (store_static {n = n} {u = u} i g r m) k w =
      with_none n u r row _ _ (λ pins free.
      of_heap n u r pins _ (filled_in app lists has hits law n u r pins free i g m)) w
  library_complete row rule premises z (store_cell {n = n} {u = u} {x = x} i g {t = t} r m at) k w =
      with_value n u r row _ _ (Object t) x (λ pins same fo fc.
      of_heap n u r pins _ (store_in app lists has hits law n u r pins i x at (Object t) g m k.1.0 same fo fc)) k.0 w
  library_complete row rule premises z (store_effect {n = n} {u = u} {x = x} {l = l} i g {p = p} r m at) k w =
      with_value n u r row _ _ (Label p l) x (λ pins same fo fc.
      of_heap n u r pins _ (store_in app lists has hits law n u r pins i x at (Label p l) g m k.1.0 same fo fc)) k.0 w
  library_complete row rule premises z (copy_cell {n = n} {u = u} {x = x} {o = o} i j {s = s} {t = t} {v = v} r m at to) k w =
      with_all n u r row _ _ x o s t v (λ pins same holds takes.
      of_heap n u r pins _ (copy_in app lists has hits law n u r pins i x at j o s t v m to k.1.0 k.1.1.0 k.1.1.1.0 same holds takes)) k.0 k.1.0 w
  library_complete row rule premises z (copy_effect {n = n} {u = u} {x = x} {o = o} {l = l} i j {v = v} {p = p} {q = q} r m at to left) k w =
      into_object n u r row _ _ (Label p l) x o v (λ pins same takes fc.
      of_heap n u r pins _ (copy_label_in app lists has hits law n u r pins i x at j o v p q l m to left k.1.0 k.1.1.0 same takes fc)) k.0 w
