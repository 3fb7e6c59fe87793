-- What follows from a call by rules 31 to 36 of the second set, with the premises that are known, is listed.
use Rattle.std.proofs.Common.{◌≡◌, ◌==◌, ℕ, true, false, List, [], Some, None, cond, is_some, flat_map, refl, sym, ap, subst, ◌∙◌, inl}
use Rattle.vet_base.specs.Members.{In, IsAt}
use Rattle.vet_base.proofs.Members.{in_front, in_back}
use Rattle.vet_base.proofs.Every.{in_where, in_unless}
use Rattle.app_machine.specs.declared.summary.Gives.{Gives}
use Rattle.app_machine.specs.declared.summary.Gives.TheVariants as gives
use Rattle.app_machine.specs.declared.lists.Lists.{Lists}
use Rattle.app_machine.specs.declared.lists.SummaryId.{SummaryId}
use Rattle.app_machine.specs.declared.app.App.{App}
use Rattle.app_machine.specs.Lookups.{elem_key}
use Rattle.app_machine.specs.Names.{is_reference, is_void}
use Rattle.app_machine.specs.Library.{IsSink}
use Rattle.app_machine.specs.State.{result_register}
use Rattle.app_parts.specs.Views.{call_result, joined_from}
use Rattle.fact_rows.specs.declared.context.Node.{Node}
use Rattle.fact_rows.specs.declared.site.Site.{Site}
use Rattle.fact_rows.specs.declared.site.Site.TheVariants.{Shared as SharedSite}
use Rattle.fact_rows.specs.declared.row.Row.{Row}
use Rattle.fact_rows.specs.declared.row.Row.TheVariants as fact
use Rattle.flow_rules.specs.Nodes.{at_pc, GoesOn}
use Rattle.flow_rules.specs.LibraryRules.{RowAt, places_of, HasResult, HasReference}
use Rattle.rule_ground.specs.declared.conclusion.Premises.{Premises}
use Rattle.rule_ground.specs.declared.conclusion.Conclusion.{Conclusion}
use Rattle.rule_ground.specs.declared.key.Key.{Key}
use Rattle.rule_ground.specs.declared.key.Key.TheVariants.{CellsOf, CellLabelsOf, HoldsOf}
use Rattle.rule_ground.specs.Candidates.{candidates}
use Rattle.rule_ground.specs.Given.{of_one, of_two, of_three, concludes}
use Rattle.rule_ground.specs.Hits.{IsHits}
use Rattle.rule_ground.specs.Listing.{in_holds, itself}
use Rattle.library_ground.specs.declared.pins.Pins.{Pins}
use Rattle.library_ground.specs.CallRow.{CallRow, has_result, sink_among, sink_of}
use Rattle.library_ground.specs.Free.{IsThat, in_elements}
use Rattle.library_ground.specs.Pinned.{AllFree, of_free}
use Rattle.library_ground.specs.Pinning.{are_free}
use Rattle.library_ground.specs.Places.{at_places, in_place}
use Rattle.library_ground.specs.Stands.{of_row, goes_in}
use Rattle.library_value_rules.specs.exact.ValueComplete.{has_one}
use Rattle.register_readers.specs.Readings.{Readings}
use Rattle.cell_rules.specs.Making.{made_at}
use Rattle.cell_rules.specs.Reading.{ReadAt}
use Rattle.cell_ground.specs.declared.content.Content.{Content}
use Rattle.cell_ground.specs.declared.content.Content.TheVariants.{Object, Label}
use Rattle.cell_ground.specs.Coming.{held, stored}
use Rattle.cell_ground.specs.ComingListed.{in_coming}
use Rattle.cell_ground.specs.Ready.{Ready, listed_result}
use Rattle.cell_library_value_rules.specs.CellValues.{may_stand, values_give, may_hold, in_candidates, in_values}
use Rattle.cell_library_value_rules.specs.CellValueGiven.{with_value, with_object, reached_label, leading, arrives, arriving, results, took, taken, element, labelled, result_gives, returned, content_gives, row_gives, at_position, made, source_gives, result_alone, alone_gives, given_here, value_gives}

module _ (app : App) (readings : Readings) (lists : Lists) (ready : Ready app readings) (has : Row → Type 0) (hits : Key → List Row)
    (law : (k : Key) → IsHits has k (hits k)) (n : Node) (u : SummaryId) (r : RowAt app lists n u) (pins : Pins) where
  abbrev c : CallRow
  c = of_row app lists n u r

  abbrev given : List Conclusion
  given = value_gives app readings hits pins c

  -- what comes to the result
  in_results : (rule : ℕ) (premises : Premises) (v : Content) (pc w : ℕ) → GoesOn app n pc → ReadAt app n.by.method result_register pc w →
      In (concludes rule premises (held v (at_pc n w) result_register)) (results readings rule premises v c)
  in_results rule premises v pc w g read =
      in_coming readings rule premises v n c.next result_register pc w (goes_in app lists n u r g) (listed_result app readings ready n pc w g read)

  -- 35, of a label with these premises
  module _ (q : Premises) (l : ℕ) where
    pub in_label : (pc w : ℕ) → GoesOn app n pc → ReadAt app n.by.method result_register pc w →
        In (concludes 35 q (fact.Label (at_pc n w) result_register l)) (labelled app readings c q l)
    in_label pc w g read =
        let k = concludes 35 q (fact.Label (at_pc n w) result_register l) in
        in_front k (results readings 35 q (Label l) c) (cond (is_reference c.ret) (element app readings c q l) []) (in_results 35 q (Label l) pc w g read)

    pub in_element : HasReference r → In (concludes 35 q (fact.CellLabel (made_at app n) elem_key l)) (labelled app readings c q l)
    in_element t =
        let k = concludes 35 q (fact.CellLabel (made_at app n) elem_key l) in
        in_back k (results readings 35 q (Label l) c) (cond (is_reference c.ret) (element app readings c q l) [])
        (in_where k (is_reference c.ret) (element app readings c q l) t (inl refl))

  -- a label that leads from the register is its value's own, or is reached from its object
  pub in_own : (f : Premises → ℕ → List Conclusion) (k : Conclusion) (x l : ℕ) → is_some pins.cell ≡ false → In k (f (with_value c x (Label l)) l) →
      In k (leading hits pins.cell c x (Label l) f)
  in_own f k x l fc i = in_unless k (is_some pins.cell) (f (with_value c x (Label l)) l) fc i

  pub in_reached : (f : Premises → ℕ → List Conclusion) (k : Conclusion) (x : ℕ) (s : Site) (l : ℕ) → has (fact.Holds s l) →
      IsThat pins.cell (fact.Holds s l) → In k (f (with_object c x s (fact.Holds s l)) l) → In k (leading hits pins.cell c x (Object s) f)
  in_reached f k x s l there holds i = in_candidates has hits law pins.cell k (reached_label f c x s) (HoldsOf s) (fact.Holds s l) (l, refl) there holds i

  module _ (i x : ℕ) (at : IsAt (places_of r) i x) (v : Content) (h : has (held v n x)) (same : IsThat pins.value (held v n x))
      (fo : is_some pins.object ≡ false) where
    in_row : (k : Conclusion) (v : Content) → In k (content_gives app readings hits pins.cell c i x v) → In k (row_gives app readings hits pins.cell c i x (held v n x))
    in_row k (Object s) j = j
    in_row k (Label l) j = j

    in_content : (k : Conclusion) → In k (content_gives app readings hits pins.cell c i x v) → In k given
    in_content k j =
        let f : Row → List Conclusion = row_gives app readings hits pins.cell c i x in
        let all : ℕ → ℕ → List Conclusion = at_position app readings hits pins c in
        in_unless k (is_some pins.object) (given_here app readings hits pins c) fo
        (in_front k (at_places all 0 c.places) (cond (are_free pins) (alone_gives app readings c) [])
        (in_place k all c.places i x at
        (in_where k (may_stand pins.value n x) (values_give hits pins.value n x f) (may_hold pins.value n x v same)
        (in_values has hits law pins.value k f n x v h same (in_row k v j)))))

    -- 31
    pub arrives_in : (sink l : ℕ) (q : Premises) → IsSink r.row sink i →
        In (concludes 31 q (fact.Arrive l sink n)) (leading hits pins.cell c x v (arrives c sink)) → In (concludes 31 q (fact.Arrive l sink n)) given
    arrives_in sink l q m j =
        let k = concludes 31 q (fact.Arrive l sink n) in
        let listed : sink_of c i ≡ Some sink = ap (λ o. sink_among o i) m.1 ∙ ap (λ b. cond b (Some sink) None) (in_holds i m.0 m.2) in
        in_content k
        (in_front k (arriving hits pins.cell c x v (sink_of c i)) (returned app readings hits pins.cell c i x v)
        (subst (λ o. In k (arriving hits pins.cell c x v o)) (sym listed) j))

    module _ (gives_one : HasResult r) where
      in_returned : (k : Conclusion) (g : Gives) → r.row.gives ≡ g → In k (result_gives app readings hits pins.cell c i x v (call_result g)) → In k given
      in_returned k g e j =
          in_content k
          (in_back k (arriving hits pins.cell c x v (sink_of c i)) (returned app readings hits pins.cell c i x v)
          (in_where k (has_result c) (result_gives app readings hits pins.cell c i x v (call_result r.row.gives)) (has_one (is_void c.ret) gives_one)
          (subst (λ z. In k (result_gives app readings hits pins.cell c i x v (call_result z))) (sym e) j)))

      -- 32
      pub same_in : (pc w : ℕ) → is_some pins.cell ≡ false → r.row.gives ≡ gives.Same i → GoesOn app n pc → ReadAt app n.by.method result_register pc w →
          In (concludes 32 (of_two (fact.Uses n u) (held v n x)) (held v (at_pc n w) result_register)) given
      same_in pc w fc e g read =
          let k = concludes 32 (of_two (fact.Uses n u) (held v n x)) (held v (at_pc n w) result_register) in
          let own : List Conclusion = results readings 32 (with_value c x v) v c in
          in_returned k (gives.Same i) e
          (in_where k (i == i) (cond (is_some pins.cell) [] own) (itself i)
          (in_unless k (is_some pins.cell) own fc (in_results 32 (with_value c x v) v pc w g read)))

      -- 35
      pub joined_in : (k : Conclusion) (from : List ℕ) → r.row.gives ≡ gives.Joined from → In i from →
          In k (leading hits pins.cell c x v (labelled app readings c)) → In k given
      joined_in k from e m j =
          in_returned k (gives.Joined from) e
          (in_where k (joined_from r.row.gives i) (leading hits pins.cell c x v (labelled app readings c))
          (subst (λ z. joined_from z i ≡ true) (sym e) (in_holds i from m)) j)

  -- 33
  module _ (i x : ℕ) (at : IsAt (places_of r) i x) (s : Site) (h : has (fact.Points n x s)) (same : IsThat pins.value (fact.Points n x s))
      (fo : is_some pins.object ≡ false) (gives_one : HasResult r) (e : r.row.gives ≡ gives.Taken i) (pc w : ℕ) (g : GoesOn app n pc)
      (read : ReadAt app n.by.method result_register pc w) where
    in_taken : (k : Conclusion) → In k (taken readings hits pins.cell c x (Object s)) → In k given
    in_taken k j = in_returned i x at (Object s) h same fo gives_one k (gives.Taken i) e (in_where k (i == i) (taken readings hits pins.cell c x (Object s)) (itself i) j)

    pub taken_in : (v : Content) → has (stored v s elem_key) → IsThat pins.cell (stored v s elem_key) →
        In (concludes 33 (of_three (fact.Uses n u) (fact.Points n x s) (stored v s elem_key)) (held v (at_pc n w) result_register)) given
    taken_in (Object t) there holds =
        let q : Premises = with_object c x s (fact.Cell s elem_key t) in
        let k = concludes 33 q (fact.Points (at_pc n w) result_register t) in
        let f : Row → List Conclusion = took readings c x s in
        in_taken k
        (in_front k (flat_map f (candidates hits pins.cell (CellsOf s elem_key))) (flat_map f (candidates hits pins.cell (CellLabelsOf s elem_key)))
        (in_elements has hits law pins.cell k f s t there holds (in_results 33 q (Object t) pc w g read)))
    taken_in (Label l) there holds =
        let q : Premises = with_object c x s (fact.CellLabel s elem_key l) in
        let k = concludes 33 q (fact.Label (at_pc n w) result_register l) in
        let f : Row → List Conclusion = took readings c x s in
        in_taken k
        (in_back k (flat_map f (candidates hits pins.cell (CellsOf s elem_key))) (flat_map f (candidates hits pins.cell (CellLabelsOf s elem_key)))
        (in_candidates has hits law pins.cell k f (CellLabelsOf s elem_key) (fact.CellLabel s elem_key l) (l, refl) there holds
        (in_results 33 q (Label l) pc w g read)))

  module _ (free : AllFree pins) (gives_one : HasResult r) where
    in_alone : (k : Conclusion) (g : Gives) → r.row.gives ≡ g → In k (result_alone app readings c (call_result g)) → In k given
    in_alone k g e j =
        in_unless k (is_some pins.object) (given_here app readings hits pins c) free.object
        (in_back k (at_places (at_position app readings hits pins c) 0 c.places) (cond (are_free pins) (alone_gives app readings c) [])
        (in_where k (are_free pins) (alone_gives app readings c) (of_free pins free)
        (in_where k (has_result c) (result_alone app readings c (call_result r.row.gives)) (has_one (is_void c.ret) gives_one)
        (subst (λ z. In k (result_alone app readings c (call_result z))) (sym e) j))))

    -- 34
    pub made_in : (pc w : ℕ) (from : List ℕ) → r.row.gives ≡ gives.Joined from → HasReference r → GoesOn app n pc →
        ReadAt app n.by.method result_register pc w →
        In (concludes 34 (of_one (fact.Uses n u)) (fact.Points (at_pc n w) result_register (made_at app n))) given
    made_in pc w from e t g read =
        let q : Premises = of_one (fact.Uses n u) in
        let k = concludes 34 q (fact.Points (at_pc n w) result_register (made_at app n)) in
        in_alone k (gives.Joined from) e
        (in_front k (made app readings c) (source_gives app readings c r.row.source)
        (in_where k (is_reference c.ret) (results readings 34 q (Object (made_at app n)) c) t (in_results 34 q (Object (made_at app n)) pc w g read)))

    -- 35, of the source
    pub source_in : (k : Conclusion) (l : ℕ) (from : List ℕ) → r.row.gives ≡ gives.Joined from → r.row.source ≡ Some l →
        In k (labelled app readings c (of_one (fact.Uses n u)) l) → In k given
    source_in k l from e labels j =
        in_alone k (gives.Joined from) e
        (in_back k (made app readings c) (source_gives app readings c r.row.source) (subst (λ o. In k (source_gives app readings c o)) (sym labels) j))

    -- 36
    pub shared_in : (g pc w : ℕ) → r.row.gives ≡ gives.Shared g → GoesOn app n pc → ReadAt app n.by.method result_register pc w →
        In (concludes 36 (of_one (fact.Uses n u)) (fact.Points (at_pc n w) result_register (SharedSite g))) given
    shared_in g pc w e goes read =
        in_alone (concludes 36 (of_one (fact.Uses n u)) (fact.Points (at_pc n w) result_register (SharedSite g))) (gives.Shared g) e
        (in_results 36 (of_one (fact.Uses n u)) (Object (SharedSite g)) pc w goes read)
