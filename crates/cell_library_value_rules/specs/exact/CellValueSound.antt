-- What is listed of a call by rules 31 to 36 of the second set follows, with the premises that are known.
use Rattle.std.proofs.Common.{◌≡◌, ◌==◌, ℕ, Bool, true, false, List, [], ◌∷◌, Option, Some, None, cond, is_some, flat_map, eqb-true, refl, ap, subst, ◌∙◌}
use Rattle.std.specs.List.{AllByRecursion}
use Rattle.std.proofs.lemmas.Option.{none-some, same_Some}
use Rattle.vet_base.specs.Members.{In, IsAt}
use Rattle.vet_base.proofs.Every.{each_append, each_where, each_unless}
use Rattle.app_machine.specs.declared.summary.Gives.{Gives}
use Rattle.app_machine.specs.declared.summary.Gives.TheVariants as gives
use Rattle.app_machine.specs.declared.summary.Summary.{Summary}
use Rattle.app_machine.specs.declared.lists.Lists.{Lists}
use Rattle.app_machine.specs.declared.lists.SummaryId.{SummaryId}
use Rattle.app_machine.specs.declared.app.App.{App}
use Rattle.app_machine.specs.Lookups.{elem_key}
use Rattle.app_machine.specs.Names.{is_reference, is_void}
use Rattle.app_machine.specs.Library.{IsSink}
use Rattle.app_machine.specs.State.{result_register, holds}
use Rattle.app_parts.specs.Views.{call_result, joined_from}
use Rattle.fact_rows.specs.declared.context.Node.{Node}
use Rattle.fact_rows.specs.declared.site.Site.TheVariants.{Shared as SharedSite}
use Rattle.fact_rows.specs.declared.row.Row.{Row}
use Rattle.fact_rows.specs.declared.row.Row.TheVariants as fact
use Rattle.flow_rules.specs.Nodes.{at_pc, GoesOn}
use Rattle.flow_rules.specs.LibraryRules.{RowAt, places_of, HasResult}
use Rattle.rule_ground.specs.declared.conclusion.Premises.{Premises}
use Rattle.rule_ground.specs.declared.conclusion.Conclusion.{Conclusion}
use Rattle.rule_ground.specs.declared.key.Key.{Key}
use Rattle.rule_ground.specs.declared.key.Key.TheVariants.{CellsOf, CellLabelsOf}
use Rattle.rule_ground.specs.Candidates.{candidates}
use Rattle.rule_ground.specs.Given.{of_one, concludes}
use Rattle.rule_ground.specs.Hits.{IsHits}
use Rattle.rule_ground.specs.Listing.{holds_in}
use Rattle.library_ground.specs.declared.pins.Pins.{Pins}
use Rattle.library_ground.specs.CallRow.{CallRow, has_result, sink_among, sink_of}
use Rattle.library_ground.specs.Free.{IsThat, each_element}
use Rattle.library_ground.specs.Pinned.{AllFree, AreThere, free_of}
use Rattle.library_ground.specs.Pinning.{are_free}
use Rattle.library_ground.specs.Places.{at_places, each_place}
use Rattle.library_ground.specs.Stands.{of_row, goes_on}
use Rattle.library_value_rules.specs.exact.ValueSound.{not_void}
use Rattle.register_readers.specs.Readings.{Readings}
use Rattle.cell_rules.specs.LibraryRules.{LibraryRule, LeadsFrom, own_label, held_label, sink_arrives, same_points, same_label, taken_points, taken_label, joined_points, joined_label, joined_element, source_label, source_element, shared_points}
use Rattle.cell_rules.specs.Making.{made_at}
use Rattle.cell_rules.specs.Reading.{ReadAt}
use Rattle.cell_ground.specs.declared.content.Content.{Content}
use Rattle.cell_ground.specs.declared.content.Content.TheVariants.{Object, Label}
use Rattle.cell_ground.specs.Coming.{held}
use Rattle.cell_ground.specs.ComingListed.{coming_sound}
use Rattle.cell_ground.specs.Ready.{Ready}
use Rattle.cell_library_value_rules.specs.CellPinned.{IsPinnedBy, alone, of_value, of_cell}
use Rattle.cell_library_value_rules.specs.CellValues.{may_stand, values_give, each_reached, each_cell_label, each_value}
use Rattle.cell_library_value_rules.specs.CellValueGiven.{with_value, with_object, reached_label, leading, arrives, arriving, results, took, taken, element, labelled, result_gives, returned, content_gives, row_gives, at_position, made, source_gives, result_alone, alone_gives, given_here, value_gives}

sink_is : (row : Summary) (i sink : ℕ) (o : Option (ℕ × List ℕ)) → row.sink ≡ o → sink_among o i ≡ Some sink → IsSink row sink i
sink_is row i sink None e k = absurd (none-some sink k)
sink_is row i sink (Some s) e k = by_test (holds s.1 i) refl k
  where
    by_test : (b : Bool) → holds s.1 i ≡ b → cond b (Some s.0) None ≡ Some sink → IsSink row sink i
    by_test true t q = (s.1, subst (λ z. row.sink ≡ Some (z, s.1)) (same_Some s.0 sink q) e, holds_in i s.1 t)
    by_test false t q = absurd (none-some sink q)

module _ (app : App) (readings : Readings) (lists : Lists) (ready : Ready app readings) (has : Row → Type 0) (hits : Key → List Row)
    (law : (k : Key) → IsHits has k (hits k)) (n : Node) (u : SummaryId) (r : RowAt app lists n u) (pins : Pins) (uses : has (fact.Uses n u)) (known : AreThere has pins) where
  abbrev c : CallRow
  c = of_row app lists n u r

  abbrev P : Conclusion → Type 0
  P = IsPinnedBy app lists has n u pins

  -- what comes to the result
  result_sound : (rule : ℕ) (premises : Premises) (v : Content) →
      ((pc w : ℕ) → GoesOn app n pc → ReadAt app n.by.method result_register pc w → P (concludes rule premises (held v (at_pc n w) result_register))) →
      AllByRecursion P (results readings rule premises v c)
  result_sound rule premises v h =
      coming_sound app readings ready P rule premises v n c.next result_register (λ pc w i read. h pc w (goes_on app lists n u r i) read)

  -- from these premises all is right that follows by whatever lets the label lead from the register
  abbrev Led : ℕ → ℕ → Premises → Type 0
  Led x l q = (rule : ℕ) (y : Row) → ((ps : List Row) → LeadsFrom n x l ps → LibraryRule app lists rule (fact.Uses n u ∷ ps) y) → P (concludes rule q y)

  module _ (fo : is_some pins.object ≡ false) (i x : ℕ) (at : IsAt (places_of r) i x) where
    leading_sound : (f : Premises → ℕ → List Conclusion) → ((q : Premises) (l : ℕ) → Led x l q → AllByRecursion P (f q l)) →
        (v : Content) → has (held v n x) → IsThat pins.value (held v n x) → AllByRecursion P (leading hits pins.cell c x v f)
    leading_sound f h (Object s) there same = each_reached has hits law pins.cell known.cell P (reached_label f c x s) s (λ l hl holds.
        h (with_object c x s (fact.Holds s l)) l (λ rule y by.
        of_cell app lists has n u pins uses (by (fact.Points n x s ∷ fact.Holds s l ∷ []) held_label) there hl same holds fo))
    leading_sound f h (Label l) there same = each_unless P (is_some pins.cell) (f (with_value c x (Label l)) l) (λ fc.
        h (with_value c x (Label l)) l (λ rule y by.
        of_value app lists has n u pins uses (by (fact.Label n x l ∷ []) own_label) there same fo fc))

    arriving_sound : (v : Content) → has (held v n x) → IsThat pins.value (held v n x) → (o : Option ℕ) → sink_of c i ≡ o →
        AllByRecursion P (arriving hits pins.cell c x v o)
    arriving_sound v there same None e = tt
    arriving_sound v there same (Some sink) e = leading_sound (arrives c sink) (λ q l led.
        (led 31 (fact.Arrive l sink n) (λ ps leads. sink_arrives i sink r (sink_is r.row i sink r.row.sink refl e) at leads), tt)) v there same

    module _ (gives_one : HasResult r) where
      same_rule : (v : Content) (pc w : ℕ) → r.row.gives ≡ gives.Same i → GoesOn app n pc → ReadAt app n.by.method result_register pc w →
          LibraryRule app lists 32 (fact.Uses n u ∷ held v n x ∷ []) (held v (at_pc n w) result_register)
      same_rule (Object s) pc w e g read = same_points r e gives_one at g read
      same_rule (Label l) pc w e g read = same_label r e gives_one at g read

      taken_sound : r.row.gives ≡ gives.Taken i → (v : Content) → has (held v n x) → IsThat pins.value (held v n x) →
          AllByRecursion P (taken readings hits pins.cell c x v)
      taken_sound e (Label l) there same = tt
      taken_sound e (Object s) there same =
          let f : Row → List Conclusion = took readings c x s in
          each_append P (flat_map f (candidates hits pins.cell (CellsOf s elem_key))) (flat_map f (candidates hits pins.cell (CellLabelsOf s elem_key)))
          (each_element has hits law pins.cell known.cell P f s (λ t ht holds.
          result_sound 33 (with_object c x s (fact.Cell s elem_key t)) (Object t) (λ pc w g read.
          of_cell app lists has n u pins uses (taken_points r e gives_one at g read) there ht same holds fo)))
          (each_cell_label has hits law pins.cell known.cell P f s (λ l hl holds.
          result_sound 33 (with_object c x s (fact.CellLabel s elem_key l)) (Label l) (λ pc w g read.
          of_cell app lists has n u pins uses (taken_label r e gives_one at g read) there hl same holds fo)))

      joined_sound : (from : List ℕ) → r.row.gives ≡ gives.Joined from → In i from → (q : Premises) (l : ℕ) → Led x l q →
          AllByRecursion P (labelled app readings c q l)
      joined_sound from e m q l led =
          each_append P (results readings 35 q (Label l) c) (cond (is_reference c.ret) (element app readings c q l) [])
          (result_sound 35 q (Label l) (λ pc w g read.
          led 35 (fact.Label (at_pc n w) result_register l) (λ ps leads. joined_label i r e m gives_one at leads g read)))
          (each_where P (is_reference c.ret) (element app readings c q l) (λ t.
          (led 35 (fact.CellLabel (made_at app n) elem_key l) (λ ps leads. joined_element i r e m gives_one t at leads), tt)))

      kind_sound : (g : Gives) → r.row.gives ≡ g → (v : Content) → has (held v n x) → IsThat pins.value (held v n x) →
          AllByRecursion P (result_gives app readings hits pins.cell c i x v (call_result g))
      kind_sound gives.Blank e v there same = tt
      kind_sound (gives.Same j) e v there same =
          let own : List Conclusion = results readings 32 (with_value c x v) v c in
          each_where P (j == i) (cond (is_some pins.cell) [] own) (λ t. each_unless P (is_some pins.cell) own (λ fc.
          result_sound 32 (with_value c x v) v (λ pc w g read.
          of_value app lists has n u pins uses (same_rule v pc w (e ∙ ap (λ z. gives.Same z) (eqb-true j i t)) g read) there same fo fc)))
      kind_sound (gives.Taken j) e v there same =
          each_where P (j == i) (taken readings hits pins.cell c x v) (λ t. taken_sound (e ∙ ap (λ z. gives.Taken z) (eqb-true j i t)) v there same)
      kind_sound (gives.Joined from) e v there same =
          let f : Premises → ℕ → List Conclusion = labelled app readings c in
          each_where P (joined_from r.row.gives i) (leading hits pins.cell c x v f) (λ t.
          leading_sound f (joined_sound from e (holds_in i from (subst (λ z. joined_from z i ≡ true) e t))) v there same)
      kind_sound (gives.Shared g) e v there same = tt
      kind_sound gives.Handed e v there same = tt

    content_sound : (v : Content) → has (held v n x) → IsThat pins.value (held v n x) →
        AllByRecursion P (content_gives app readings hits pins.cell c i x v)
    content_sound v there same =
        each_append P (arriving hits pins.cell c x v (sink_of c i)) (returned app readings hits pins.cell c i x v)
        (arriving_sound v there same (sink_of c i) refl)
        (each_where P (has_result c) (result_gives app readings hits pins.cell c i x v (call_result r.row.gives)) (λ t.
        kind_sound (not_void (is_void c.ret) t) r.row.gives refl v there same))

    row_sound : (v : Content) → has (held v n x) → IsThat pins.value (held v n x) → AllByRecursion P (row_gives app readings hits pins.cell c i x (held v n x))
    row_sound (Object s) there same = content_sound (Object s) there same
    row_sound (Label l) there same = content_sound (Label l) there same

    position_sound : AllByRecursion P (at_position app readings hits pins c i x)
    position_sound =
        let f : Row → List Conclusion = row_gives app readings hits pins.cell c i x in
        each_where P (may_stand pins.value n x) (values_give hits pins.value n x f) (λ t. each_value has hits law pins.value known.value P f n x row_sound)

  module _ (free : AllFree pins) (gives_one : HasResult r) where
    made_sound : (from : List ℕ) → r.row.gives ≡ gives.Joined from → AllByRecursion P (made app readings c)
    made_sound from e =
        let own : List Conclusion = results readings 34 (of_one (fact.Uses n u)) (Object (made_at app n)) c in
        each_where P (is_reference c.ret) own (λ t. result_sound 34 (of_one (fact.Uses n u)) (Object (made_at app n)) (λ pc w g read.
        alone app lists has n u pins uses (joined_points r e gives_one t g read) free))

    source_sound : (from : List ℕ) → r.row.gives ≡ gives.Joined from → (o : Option ℕ) → r.row.source ≡ o → AllByRecursion P (source_gives app readings c o)
    source_sound from e None k = tt
    source_sound from e (Some l) k =
        let q : Premises = of_one (fact.Uses n u) in
        each_append P (results readings 35 q (Label l) c) (cond (is_reference c.ret) (element app readings c q l) [])
        (result_sound 35 q (Label l) (λ pc w g read. alone app lists has n u pins uses (source_label r e k gives_one g read) free))
        (each_where P (is_reference c.ret) (element app readings c q l) (λ t. (alone app lists has n u pins uses (source_element r e k gives_one t) free, tt)))

    alone_sound : (g : Gives) → r.row.gives ≡ g → AllByRecursion P (result_alone app readings c (call_result g))
    alone_sound gives.Blank e = tt
    alone_sound (gives.Same j) e = tt
    alone_sound (gives.Taken j) e = tt
    alone_sound (gives.Joined from) e =
        each_append P (made app readings c) (source_gives app readings c r.row.source) (made_sound from e) (source_sound from e r.row.source refl)
    alone_sound (gives.Shared g) e = result_sound 36 (of_one (fact.Uses n u)) (Object (SharedSite g)) (λ pc w goes read.
        alone app lists has n u pins uses (shared_points r e gives_one goes read) free)
    alone_sound gives.Handed e = tt

  pub value_sound : AllByRecursion P (value_gives app readings hits pins c)
  value_sound = each_unless P (is_some pins.object) (given_here app readings hits pins c) (λ fo.
      each_append P (at_places (at_position app readings hits pins c) 0 c.places) (cond (are_free pins) (alone_gives app readings c) [])
      (each_place P (at_position app readings hits pins c) c.places (λ i x at. position_sound fo i x at))
      (each_where P (are_free pins) (alone_gives app readings c) (λ f.
      each_where P (has_result c) (result_alone app readings c (call_result r.row.gives)) (λ t.
      alone_sound (free_of pins f) (not_void (is_void c.ret) t) r.row.gives refl))))
