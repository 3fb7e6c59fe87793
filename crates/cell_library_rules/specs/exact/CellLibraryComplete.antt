-- What follows with a row by the rules of library calls of the second set is listed.
use Rattle.std.proofs.Common.{◌≡◌, ℕ, false, List, [], ◌∷◌, is_some, refl, sym, subst, inl, inr}
use Rattle.vet_base.specs.Members.{In}
use Rattle.vet_base.proofs.Members.{in_front, in_back}
use Rattle.app_machine.specs.declared.lists.Lists.{Lists}
use Rattle.app_machine.specs.declared.lists.SummaryId.{SummaryId}
use Rattle.app_machine.specs.declared.app.App.{App}
use Rattle.app_machine.specs.Lookups.{elem_key}
use Rattle.fact_rows.specs.declared.context.Node.{Node}
use Rattle.fact_rows.specs.declared.site.Site.{Site}
use Rattle.fact_rows.specs.declared.row.Row.{Row}
use Rattle.fact_rows.specs.declared.row.Row.TheVariants.{Points, CellLabel, Holds, Uses}
use Rattle.fact_rows.specs.declared.row.Row.TheVariants as fact
use Rattle.flow_rules.specs.Rules.{Each}
use Rattle.flow_rules.specs.LibraryRules.{RowAt}
use Rattle.rule_ground.specs.declared.conclusion.Premises.{Premises}
use Rattle.rule_ground.specs.declared.conclusion.Conclusion.{Conclusion}
use Rattle.rule_ground.specs.declared.key.Key.{Key}
use Rattle.rule_ground.specs.declared.key.Key.TheVariants.{PointsTo, UsesAt}
use Rattle.rule_ground.specs.Exact.{IsListed}
use Rattle.rule_ground.specs.Given.{of_one, of_two, of_three, of_four, concludes}
use Rattle.rule_ground.specs.Hits.{IsHits}
use Rattle.rule_ground.specs.Listing.{here, only, either, found}
use Rattle.library_ground.specs.declared.pins.Pins.{Pins}
use Rattle.library_ground.specs.CallRow.{CallRow, call_row}
use Rattle.library_ground.specs.Free.{IsThat}
use Rattle.library_ground.specs.Pinned.{AllFree}
use Rattle.library_ground.specs.Stands.{of_row, row_here}
use Rattle.library_heap_rules.specs.LibraryGiven.{no_pins, value_pin, object_pin, cell_pin}
use Rattle.register_readers.specs.Readings.{Readings}
use Rattle.cell_rules.specs.LibraryRules.{LibraryRule, LeadsFrom, own_label, held_label, sink_arrives, same_points, same_label, taken_points, taken_label, joined_points, joined_label, joined_element, source_label, source_element, shared_points, row_put_label, store_label, copy_label}
use Rattle.cell_ground.specs.declared.content.Content.{Content}
use Rattle.cell_ground.specs.declared.content.Content.TheVariants.{Object, Label}
use Rattle.cell_ground.specs.Coming.{held}
use Rattle.cell_ground.specs.Ready.{Ready}
use Rattle.cell_library_value_rules.specs.CellValueGiven.{with_value, with_object, leading, arrives, labelled, value_gives}
use Rattle.cell_library_value_rules.specs.exact.CellValueComplete.{in_label, in_element, in_own, in_reached, arrives_in, same_in, joined_in, taken_in, made_in, source_in, shared_in}
use Rattle.cell_library_rules.specs.CellHeapGiven.{heap_gives}
use Rattle.cell_library_rules.specs.CellLibraryGiven.{call_gives, used_gives, user_gives, holder_gives, pointer_gives, said_gives, cell_library_given}
use Rattle.cell_library_rules.specs.exact.CellHeapComplete.{put_in, store_in, copy_in}

none_known : AllFree no_pins
none_known = record { value = refl; object = refl; cell = refl }

module _ (app : App) (readings : Readings) (lists : Lists) (ready : Ready app readings) (has : Row → Type 0) (hits : Key → List Row)
    (law : (k : Key) → IsHits has k (hits k)) where
  abbrev given : Row → List Conclusion
  given row = cell_library_given app readings lists hits row

  -- of a row that is one of three or four premises
  one_of_three : {row a b c : Row} (rule : ℕ) (premises : List Row) (y : Row) → In row (a ∷ b ∷ c ∷ []) → IsListed (given a) rule premises y →
      IsListed (given b) rule premises y → IsListed (given c) rule premises y → IsListed (given row) rule premises y
  one_of_three rule premises y (inl e) h k l = subst (λ z. IsListed (given z) rule premises y) (sym e) h
  one_of_three rule premises y (inr (inl e)) h k l = subst (λ z. IsListed (given z) rule premises y) (sym e) k
  one_of_three rule premises y (inr (inr (inl e))) h k l = subst (λ z. IsListed (given z) rule premises y) (sym e) l
  one_of_three rule premises y (inr (inr (inr none))) h k l = absurd none

  one_of_four : {row a b c d : Row} (rule : ℕ) (premises : List Row) (y : Row) → In row (a ∷ b ∷ c ∷ d ∷ []) → IsListed (given a) rule premises y →
      IsListed (given b) rule premises y → IsListed (given c) rule premises y → IsListed (given d) rule premises y → IsListed (given row) rule premises y
  one_of_four rule premises y (inl e) h k l m = subst (λ z. IsListed (given z) rule premises y) (sym e) h
  one_of_four rule premises y (inr i) h k l m = one_of_three rule premises y i k l m

  module _ (n : Node) (u : SummaryId) (r : RowAt app lists n u) (there : has (Uses n u)) where
    abbrev c : CallRow
    c = of_row app lists n u r

    abbrev of_call : Pins → List Conclusion
    of_call pins = call_gives app readings hits pins c

    of_value : (pins : Pins) (k : Conclusion) → In k (value_gives app readings hits pins c) → In k (of_call pins)
    of_value pins k h = in_front k (value_gives app readings hits pins c) (heap_gives hits pins c) h

    of_heap : (pins : Pins) (k : Conclusion) → In k (heap_gives hits pins c) → In k (of_call pins)
    of_heap pins k h = in_back k (value_gives app readings hits pins c) (heap_gives hits pins c) h

    in_used : (pins : Pins) (k : Conclusion) → In k (of_call pins) → In k (used_gives app readings hits pins (call_row app lists n u))
    in_used pins k h = subst (λ o. In k (used_gives app readings hits pins o)) (sym (row_here app lists n u r)) h

    -- what the use gives with an object as a value, and as one that takes a value in
    abbrev as_value : Row → List Conclusion
    as_value object = user_gives app readings lists hits (value_pin object) (Uses n u)

    abbrev into_it : Row → List Conclusion
    into_it object = user_gives app readings lists hits (object_pin object) (Uses n u)

    -- a conclusion of the call, from each of its premises
    at_use : (k : Conclusion) → In k (of_call no_pins) → In k (given (Uses n u))
    at_use k h = in_used no_pins k h

    at_value : (k : Conclusion) (v : Content) (x : ℕ) → In k (of_call (value_pin (held v n x))) → In k (given (held v n x))
    at_value k (Object s) x h =
        found has hits law (UsesAt n) (holder_gives app readings lists hits (Points n x s)) (Uses n u) k there (u, refl)
        (in_front k (as_value (Points n x s)) (into_it (Points n x s)) (in_used (value_pin (Points n x s)) k h))
    at_value k (Label l) x h =
        found has hits law (UsesAt n) (user_gives app readings lists hits (value_pin (fact.Label n x l))) (Uses n u) k there (u, refl)
        (in_used (value_pin (fact.Label n x l)) k h)

    at_object : (k : Conclusion) (x : ℕ) (s : Site) → In k (of_call (object_pin (Points n x s))) → In k (given (Points n x s))
    at_object k x s h =
        found has hits law (UsesAt n) (holder_gives app readings lists hits (Points n x s)) (Uses n u) k there (u, refl)
        (in_back k (as_value (Points n x s)) (into_it (Points n x s)) (in_used (object_pin (Points n x s)) k h))

    at_said : (k : Conclusion) (x : ℕ) (s : Site) (said : Row) → has (Points n x s) → In k (of_call (cell_pin (Points n x s) said)) →
        In k (said_gives app readings lists hits s said)
    at_said k x s said p h =
        found has hits law (PointsTo s) (pointer_gives app readings lists hits said) (Points n x s) k p (n, (x, refl))
        (found has hits law (UsesAt n) (user_gives app readings lists hits (cell_pin (Points n x s) said)) (Uses n u) k there (u, refl)
        (in_used (cell_pin (Points n x s) said) k h))

    -- the premises of a rule: the use alone; with a value; with an object and what is said of it; with an object that takes a
    -- value in; with all of these
    with_none : (row : Row) (rule : ℕ) (y : Row) → ((pins : Pins) → AllFree pins → In (concludes rule (of_one (Uses n u)) y) (of_call pins)) →
        In row (Uses n u ∷ []) → IsListed (given row) rule (Uses n u ∷ []) y
    with_none row rule y h i = only given _ _ _ i (here given (Uses n u) rule (of_one (Uses n u)) y (at_use _ (h no_pins none_known)))

    with_one : (row : Row) (rule : ℕ) (y : Row) (v : Content) (x : ℕ) →
        ((pins : Pins) → IsThat pins.value (held v n x) → is_some pins.object ≡ false → is_some pins.cell ≡ false →
        In (concludes rule (of_two (Uses n u) (held v n x)) y) (of_call pins)) →
        In row (Uses n u ∷ held v n x ∷ []) → IsListed (given row) rule (Uses n u ∷ held v n x ∷ []) y
    with_one row rule y v x h i =
        either given _ _ _ i
        (here given (Uses n u) rule (of_two (Uses n u) (held v n x)) y (at_use _ (h no_pins tt refl refl)))
        (here given (held v n x) rule (of_two (Uses n u) (held v n x)) y (at_value _ v x (h (value_pin (held v n x)) refl refl refl)))

    with_said : (row : Row) (rule : ℕ) (y : Row) (x : ℕ) (s : Site) (said : Row) → given said ≡ said_gives app readings lists hits s said →
        ((pins : Pins) → IsThat pins.value (Points n x s) → IsThat pins.cell said → is_some pins.object ≡ false →
        In (concludes rule (of_three (Uses n u) (Points n x s) said) y) (of_call pins)) →
        has (Points n x s) → In row (Uses n u ∷ Points n x s ∷ said ∷ []) → IsListed (given row) rule (Uses n u ∷ Points n x s ∷ said ∷ []) y
    with_said row rule y x s said same_given h p i =
        let premises = of_three (Uses n u) (Points n x s) said in
        let k = concludes rule premises y in
        one_of_three _ _ _ i
        (here given (Uses n u) rule premises y (at_use _ (h no_pins tt tt refl)))
        (here given (Points n x s) rule premises y (at_value _ (Object s) x (h (value_pin (Points n x s)) refl tt refl)))
        (here given said rule premises y
        (subst (λ z. In k z) (sym same_given) (at_said k x s said p (h (cell_pin (Points n x s) said) refl refl refl))))

    with_object_in : (row : Row) (rule : ℕ) (y : Row) (l x o : ℕ) (s : Site) →
        ((pins : Pins) → IsThat pins.object (Points n o s) → IsThat pins.value (fact.Label n x l) → is_some pins.cell ≡ false →
        In (concludes rule (of_three (Uses n u) (Points n o s) (fact.Label n x l)) y) (of_call pins)) →
        In row (Uses n u ∷ Points n o s ∷ fact.Label n x l ∷ []) → IsListed (given row) rule (Uses n u ∷ Points n o s ∷ fact.Label n x l ∷ []) y
    with_object_in row rule y l x o s h i =
        let premises = of_three (Uses n u) (Points n o s) (fact.Label n x l) in
        one_of_three _ _ _ i
        (here given (Uses n u) rule premises y (at_use _ (h no_pins tt tt refl)))
        (here given (Points n o s) rule premises y (at_object _ o s (h (object_pin (Points n o s)) refl tt refl)))
        (here given (fact.Label n x l) rule premises y (at_value _ (Label l) x (h (value_pin (fact.Label n x l)) tt refl refl)))

    with_all : (row : Row) (rule : ℕ) (y : Row) (x o l : ℕ) (s v : Site) →
        ((pins : Pins) → IsThat pins.value (Points n x s) → IsThat pins.cell (CellLabel s elem_key l) → IsThat pins.object (Points n o v) →
        In (concludes rule (of_four (Uses n u) (Points n x s) (CellLabel s elem_key l) (Points n o v)) y) (of_call pins)) →
        has (Points n x s) → In row (Uses n u ∷ Points n x s ∷ CellLabel s elem_key l ∷ Points n o v ∷ []) →
        IsListed (given row) rule (Uses n u ∷ Points n x s ∷ CellLabel s elem_key l ∷ Points n o v ∷ []) y
    with_all row rule y x o l s v h p i =
        let said : Row = CellLabel s elem_key l in
        let premises = of_four (Uses n u) (Points n x s) said (Points n o v) in
        one_of_four _ _ _ i
        (here given (Uses n u) rule premises y (at_use _ (h no_pins tt tt tt)))
        (here given (Points n x s) rule premises y (at_value _ (Object s) x (h (value_pin (Points n x s)) refl tt tt)))
        (here given said rule premises y (at_said _ x s said p (h (cell_pin (Points n x s) said) refl refl tt)))
        (here given (Points n o v) rule premises y (at_object _ o v (h (object_pin (Points n o v)) tt tt refl)))

    -- with what lets a label lead from a register, where what is concluded is listed of each label that leads
    module _ (row : Row) (rule : ℕ) (y : Row) (x l : ℕ) (f : Premises → ℕ → List Conclusion) (own : (q : Premises) → In (concludes rule q y) (f q l))
        (in_call : (pins : Pins) (v : Content) (q : Premises) → has (held v n x) → IsThat pins.value (held v n x) → is_some pins.object ≡ false →
        In (concludes rule q y) (leading hits pins.cell c x v f) → In (concludes rule q y) (of_call pins)) where
      with_lead : (ps : List Row) → LeadsFrom n x l ps → Each has ps → In row (Uses n u ∷ ps) → IsListed (given row) rule (Uses n u ∷ ps) y
      with_lead ps own_label k i = with_one row rule y (Label l) x (λ pins same fo fc.
          let q : Premises = with_value c x (Label l) in
          in_call pins (Label l) q k.0 same fo (in_own app readings lists ready has hits law n u r pins f (concludes rule q y) x l fc (own q))) i
      with_lead ps (held_label {s = s}) k i = with_said row rule y x s (Holds s l) refl (λ pins same holds fo.
          let q : Premises = with_object c x s (Holds s l) in
          in_call pins (Object s) q k.0 same fo (in_reached app readings lists ready has hits law n u r pins f (concludes rule q y) x s l k.1.0 holds (own q))) k.0 i

  pub library_complete : (row : Row) (rule : ℕ) (premises : List Row) (x : Row) → LibraryRule app lists rule premises x → Each has premises →
      In row premises → IsListed (given row) rule premises x
  library_complete row rule premises z (sink_arrives {n = n} {u = u} {x = x} {l = l} i sink {ps = ps} r m at leads) k w =
      with_lead n u r k.0 row _ _ x l (arrives (of_row app lists n u r) sink) (λ q. inl refl) (λ pins v q h same fo j.
      of_value n u r k.0 pins _ (arrives_in app readings lists ready has hits law n u r pins i x at v h same fo sink l q m j)) ps leads k.1 w
  library_complete row rule premises z (same_points {n = n} {u = u} {x = x} {i = i} {pc = pc} {v = v} {s = s} r e one at g read) k w =
      with_one n u r k.0 row _ _ (Object s) x (λ pins same fo fc.
      of_value n u r k.0 pins _ (same_in app readings lists ready has hits law n u r pins i x at (Object s) k.1.0 same fo one pc v fc e g read)) w
  library_complete row rule premises z (same_label {n = n} {u = u} {x = x} {i = i} {pc = pc} {l = l} {v = v} r e one at g read) k w =
      with_one n u r k.0 row _ _ (Label l) x (λ pins same fo fc.
      of_value n u r k.0 pins _ (same_in app readings lists ready has hits law n u r pins i x at (Label l) k.1.0 same fo one pc v fc e g read)) w
  library_complete row rule premises z (taken_points {n = n} {u = u} {x = x} {i = i} {pc = pc} {v = v} {s = s} {t = t} r e one at g read) k w =
      with_said n u r k.0 row _ _ x s _ refl (λ pins same holds fo.
      of_value n u r k.0 pins _ (taken_in app readings lists ready has hits law n u r pins i x at s k.1.0 same fo one e pc v g read (Object t) k.1.1.0 holds)) k.1.0 w
  library_complete row rule premises z (taken_label {n = n} {u = u} {x = x} {i = i} {pc = pc} {l = l} {v = v} {s = s} r e one at g read) k w =
      with_said n u r k.0 row _ _ x s _ refl (λ pins same holds fo.
      of_value n u r k.0 pins _ (taken_in app readings lists ready has hits law n u r pins i x at s k.1.0 same fo one e pc v g read (Label l) k.1.1.0 holds)) k.1.0 w
  library_complete row rule premises z (joined_points {n = n} {u = u} {pc = pc} {v = v} {from = from} r e one t g read) k w =
      with_none n u r k.0 row _ _ (λ pins free.
      of_value n u r k.0 pins _ (made_in app readings lists ready has hits law n u r pins free one pc v from e t g read)) w
  library_complete row rule premises z (joined_label {n = n} {u = u} {x = x} {pc = pc} {l = l} {v = v} i {from = from} {ps = ps} r e m one at leads g read) k w =
      with_lead n u r k.0 row _ _ x l (labelled app readings (of_row app lists n u r))
      (λ q. in_label app readings lists ready has hits law n u r no_pins q l pc v g read) (λ pins b q h same fo j.
      of_value n u r k.0 pins _ (joined_in app readings lists ready has hits law n u r pins i x at b h same fo one _ from e m j)) ps leads k.1 w
  library_complete row rule premises z (joined_element {n = n} {u = u} {x = x} {l = l} i {from = from} {ps = ps} r e m one t at leads) k w =
      with_lead n u r k.0 row _ _ x l (labelled app readings (of_row app lists n u r))
      (λ q. in_element app readings lists ready has hits law n u r no_pins q l t) (λ pins b q h same fo j.
      of_value n u r k.0 pins _ (joined_in app readings lists ready has hits law n u r pins i x at b h same fo one _ from e m j)) ps leads k.1 w
  library_complete row rule premises z (source_label {n = n} {u = u} {pc = pc} {l = l} {v = v} {from = from} r e labels one g read) k w =
      with_none n u r k.0 row _ _ (λ pins free.
      of_value n u r k.0 pins _ (source_in app readings lists ready has hits law n u r pins free one _ l from e labels
      (in_label app readings lists ready has hits law n u r pins (of_one (Uses n u)) l pc v g read))) w
  library_complete row rule premises z (source_element {n = n} {u = u} {l = l} {from = from} r e labels one t) k w =
      with_none n u r k.0 row _ _ (λ pins free.
      of_value n u r k.0 pins _ (source_in app readings lists ready has hits law n u r pins free one _ l from e labels
      (in_element app readings lists ready has hits law n u r pins (of_one (Uses n u)) l t))) w
  library_complete row rule premises z (shared_points {n = n} {u = u} {g = g} {pc = pc} {v = v} r e one goes read) k w =
      with_none n u r k.0 row _ _ (λ pins free.
      of_value n u r k.0 pins _ (shared_in app readings lists ready has hits law n u r pins free one g pc v e goes read)) w
  library_complete row rule premises z (row_put_label {n = n} {u = u} {x = x} {o = o} {l = l} i j {s = s} r m to at) k w =
      with_object_in n u r k.0 row _ _ l x o s (λ pins takes same fc.
      of_heap n u r k.0 pins _ (put_in app lists has hits law n u r pins i x at l k.1.1.0 same fc j o s m to k.1.0 takes)) w
  library_complete row rule premises z (store_label {n = n} {u = u} {x = x} {l = l} i g r m at) k w =
      with_one n u r k.0 row _ _ (Label l) x (λ pins same fo fc.
      of_heap n u r k.0 pins _ (store_in app lists has hits law n u r pins i x at l k.1.0 same fc g m fo)) w
  library_complete row rule premises z (copy_label {n = n} {u = u} {x = x} {o = o} {l = l} i j {s = s} {v = v} r m at to) k w =
      with_all n u r k.0 row _ _ x o l s v (λ pins same holds takes.
      of_heap n u r k.0 pins _ (copy_in app lists has hits law n u r pins i x at j o l s v m to k.1.0 k.1.1.0 k.1.1.1.0 same holds takes)) k.1.0 w
