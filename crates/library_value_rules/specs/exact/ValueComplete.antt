-- What follows from a call by rules 30 to 36, with the premises that are known, is listed.
use Rattle.std.proofs.Common.{◌≡◌, ◌==◌, ℕ, Bool, true, false, List, [], ◌++◌, Some, None, cond, is_some, flat_map, refl, sym, ap, subst, ◌∙◌, inl, inr}
use Rattle.std.specs.Prelude.{IsTrue}
use Rattle.vet_base.specs.Members.{In, IsAt}
use Rattle.vet_base.proofs.Members.{in_front, in_back}
use Rattle.vet_base.proofs.Every.{in_where, in_unless}
use Rattle.access_path.specs.declared.path.Path.{Path}
use Rattle.access_path.specs.Paths.{cut, rest, empty_path}
use Rattle.app_machine.specs.declared.summary.Gives.{Gives}
use Rattle.app_machine.specs.declared.summary.Gives.TheVariants as gives
use Rattle.app_machine.specs.declared.lists.Lists.{Lists}
use Rattle.app_machine.specs.declared.lists.SummaryId.{SummaryId}
use Rattle.app_machine.specs.declared.app.App.{App}
use Rattle.app_machine.specs.Lookups.{elem_key}
use Rattle.app_machine.specs.Names.{is_reference, is_void}
use Rattle.app_machine.specs.Library.{IsSink}
use Rattle.app_machine.specs.State.{result_register, shared_static, holds}
use Rattle.app_parts.specs.Views.{call_result, joined_from}
use Rattle.fact_rows.specs.declared.context.Node.{Node}
use Rattle.fact_rows.specs.declared.site.Site.{Site}
use Rattle.fact_rows.specs.declared.site.Site.TheVariants.{At, Shared as SharedSite}
use Rattle.fact_rows.specs.declared.row.Row.{Row}
use Rattle.fact_rows.specs.declared.row.Row.TheVariants.{Points, Taint, Cell, StaticPoints, StaticTaint, Handed, HandedTaint, Arrive, Uses}
use Rattle.flow_rules.specs.Nodes.{at_pc, GoesOn}
use Rattle.flow_rules.specs.LibraryRules.{RowAt, places_of, HasResult, HasReference}
use Rattle.rule_ground.specs.declared.conclusion.Premises.{Premises}
use Rattle.rule_ground.specs.declared.conclusion.Conclusion.{Conclusion}
use Rattle.rule_ground.specs.declared.content.Content.{Content}
use Rattle.rule_ground.specs.declared.content.Content.TheVariants.{Object, Label}
use Rattle.rule_ground.specs.declared.key.Key.{Key}
use Rattle.rule_ground.specs.declared.key.Key.TheVariants.{TaintsAt, StaticTaintsOf}
use Rattle.rule_ground.specs.Candidates.{candidates}
use Rattle.rule_ground.specs.Given.{of_one, of_two, of_three, concludes, held}
use Rattle.rule_ground.specs.Hits.{IsHits}
use Rattle.rule_ground.specs.Listing.{in_each, in_holds, itself, found}
use Rattle.library_ground.specs.declared.pins.Pins.{Pins}
use Rattle.library_ground.specs.CallRow.{CallRow, has_result, sink_among, sink_of}
use Rattle.library_ground.specs.Free.{IsThat, may_hold, in_objects, in_labels, in_elements, in_values}
use Rattle.library_ground.specs.Pinned.{AllFree, of_free}
use Rattle.library_ground.specs.Pinning.{are_free, may_stand, values_give}
use Rattle.library_ground.specs.Places.{at_places, in_place}
use Rattle.library_ground.specs.Stands.{of_row, goes_in}
use Rattle.library_value_rules.specs.ValueGiven.{results, with_value, hands, handed_with, label_hands, labels_handed, arrives, took, took_rest, taken, labelled, joined, result_gives, returned, content_gives, row_gives, position_gives, at_position, label_held, made, source_gives, shared_label, result_alone, alone_gives, value_gives}

pub has_one : (b : Bool) → b ≡ false → cond b false true ≡ true
has_one true e = absurd cc
has_one false e = refl

-- of the conclusions of a label for the result
in_bare : (premises : Premises) (l : ℕ) (c : CallRow) (pc : ℕ) → In pc c.next →
    In (concludes 35 premises (Taint (at_pc c.node pc) result_register empty_path l)) (labelled premises l c)
in_bare premises l c pc i =
    let k = concludes 35 premises (Taint (at_pc c.node pc) result_register empty_path l) in
    in_front k (results 35 premises (Label empty_path l) c) (label_held premises l c)
    (in_each 35 premises (Label empty_path l) c.node c.next result_register pc i)

in_element : (premises : Premises) (l : ℕ) (c : CallRow) (pc : ℕ) → IsTrue (is_reference c.ret) → In pc c.next →
    In (concludes 35 premises (Taint (at_pc c.node pc) result_register (cut elem_key empty_path) l)) (labelled premises l c)
in_element premises l c pc t i =
    let v : Content = Label (cut elem_key empty_path) l in
    let k = concludes 35 premises (held v (at_pc c.node pc) result_register) in
    in_back k (results 35 premises (Label empty_path l) c) (label_held premises l c)
    (in_where k (is_reference c.ret) (results 35 premises v c) t (in_each 35 premises v c.node c.next result_register pc i))

module _ (app : App) (lists : Lists) (has : Row → Type 0) (hits : Key → List Row) (law : (k : Key) → IsHits has k (hits k)) (n : Node) (u : SummaryId) (r : RowAt app lists n u) (pins : Pins) where
  abbrev c : CallRow
  c = of_row app lists n u r

  abbrev given : List Conclusion
  given = value_gives app hits pins c

  module _ (i x : ℕ) (at : IsAt (places_of r) i x) where
    at_place : (k : Conclusion) (v : Content) → IsThat pins.value (held v n x) → In k (position_gives hits pins c i x) → In k given
    at_place k v same h =
        in_front k (at_places (at_position hits pins c) 0 c.places) (cond (are_free pins) (alone_gives app hits c) [])
        (in_place k (at_position hits pins c) c.places i x at (in_where k (may_stand pins.value n x) (position_gives hits pins c i x) (may_hold pins.value n x v same) h))

    in_row : (k : Conclusion) (v : Content) → In k (content_gives hits pins.cell c i x v) → In k (row_gives hits pins.cell c i x (held v n x))
    in_row k (Object s) h = h
    in_row k (Label p l) h = h

    -- 30, of a label
    pub handed_in : (s : Site) (p : Path) (l : ℕ) → has (Points n x s) → has (Taint n x p l) → IsThat pins.object (Points n x s) →
        IsThat pins.value (Taint n x p l) → is_some pins.cell ≡ false →
        In (concludes 30 (of_three (Uses n u) (Points n x s) (Taint n x p l)) (HandedTaint s p l)) given
    handed_in s p l hs hl takes same fc =
        let k = concludes 30 (of_three (Uses n u) (Points n x s) (Taint n x p l)) (HandedTaint s p l) in
        let all : List Conclusion = flat_map (label_hands hits pins.object c x) (candidates hits pins.value (TaintsAt n x)) in
        at_place k (Label p l) same
        (in_back k (cond (is_some pins.object) [] (values_give hits pins.value n x (row_gives hits pins.cell c i x))) (cond (is_some pins.cell) [] (labels_handed hits pins c x))
        (in_unless k (is_some pins.cell) (labels_handed hits pins c x) fc
        (in_where k (may_stand pins.object n x) all (may_hold pins.object n x (Object s) takes)
        (in_labels has hits law pins.value k (label_hands hits pins.object c x) n x p l hl same
        (in_objects has hits law pins.object k (handed_with c (Taint n x p l) p l) n x s hs takes (inl refl))))))

    module _ (v : Content) (h : has (held v n x)) (same : IsThat pins.value (held v n x)) (fo : is_some pins.object ≡ false) where
      in_content : (k : Conclusion) → In k (content_gives hits pins.cell c i x v) → In k given
      in_content k j =
          at_place k v same
          (in_front k (cond (is_some pins.object) [] (values_give hits pins.value n x (row_gives hits pins.cell c i x))) (cond (is_some pins.cell) [] (labels_handed hits pins c x))
          (in_unless k (is_some pins.object) (values_give hits pins.value n x (row_gives hits pins.cell c i x)) fo
          (in_values has hits law pins.value k (row_gives hits pins.cell c i x) n x v h same (in_row k v j))))

      in_effects : (k : Conclusion) → is_some pins.cell ≡ false → In k (hands c x v ++ arrives c (sink_of c i) x v) → In k given
      in_effects k fc j =
          in_content k
          (in_front k (cond (is_some pins.cell) [] (hands c x v ++ arrives c (sink_of c i) x v)) (returned hits pins.cell c i x v)
          (in_unless k (is_some pins.cell) (hands c x v ++ arrives c (sink_of c i) x v) fc j))

      in_returned : (k : Conclusion) (g : Gives) → r.row.gives ≡ g → HasResult r → In k (result_gives hits pins.cell c i x v (call_result g)) → In k given
      in_returned k g e gives_one j =
          in_content k
          (in_back k (cond (is_some pins.cell) [] (hands c x v ++ arrives c (sink_of c i) x v)) (returned hits pins.cell c i x v)
          (in_where k (has_result c) (result_gives hits pins.cell c i x v (call_result r.row.gives)) (has_one (is_void c.ret) gives_one)
          (subst (λ z. In k (result_gives hits pins.cell c i x v (call_result z))) (sym e) j)))

      -- 32
      pub same_in : (pc : ℕ) → is_some pins.cell ≡ false → r.row.gives ≡ gives.Same i → HasResult r → GoesOn app n pc →
          In (concludes 32 (of_two (Uses n u) (held v n x)) (held v (at_pc n pc) result_register)) given
      same_in pc fc e gives_one g =
          let k = concludes 32 (of_two (Uses n u) (held v n x)) (held v (at_pc n pc) result_register) in
          in_returned k (gives.Same i) e gives_one
          (in_where k (i == i) (cond (is_some pins.cell) [] (results 32 (with_value c x v) v c)) (itself i)
          (in_unless k (is_some pins.cell) (results 32 (with_value c x v) v c) fc
          (in_each 32 (with_value c x v) v n c.next result_register pc (goes_in app lists n u r g))))

      in_joined : (k : Conclusion) (from : List ℕ) → is_some pins.cell ≡ false → r.row.gives ≡ gives.Joined from → In i from → HasResult r →
          In k (joined c x v) → In k given
      in_joined k from fc e m gives_one j =
          in_returned k (gives.Joined from) e gives_one
          (in_where k (joined_from r.row.gives i) (cond (is_some pins.cell) [] (joined c x v)) (subst (λ z. joined_from z i ≡ true) (sym e) (in_holds i from m))
          (in_unless k (is_some pins.cell) (joined c x v) fc j))

    -- 30, of an object
    pub hands_in : (s : Site) → has (Points n x s) → IsThat pins.value (Points n x s) → is_some pins.object ≡ false → is_some pins.cell ≡ false →
        In (concludes 30 (of_two (Uses n u) (Points n x s)) (Handed s)) given
    hands_in s h same fo fc = in_effects (Object s) h same fo (concludes 30 (of_two (Uses n u) (Points n x s)) (Handed s)) fc (inl refl)

    -- 31
    pub arrives_in : (sink : ℕ) (p : Path) (l : ℕ) → IsSink r.row sink i → has (Taint n x p l) → IsThat pins.value (Taint n x p l) →
        is_some pins.object ≡ false → is_some pins.cell ≡ false → In (concludes 31 (of_two (Uses n u) (Taint n x p l)) (Arrive l sink n)) given
    arrives_in sink p l m h same fo fc =
        let k = concludes 31 (of_two (Uses n u) (Taint n x p l)) (Arrive l sink n) in
        let listed : sink_of c i ≡ Some sink = ap (λ o. sink_among o i) m.1 ∙ ap (λ b. cond b (Some sink) None) (in_holds i m.0 m.2) in
        in_effects (Label p l) h same fo k fc (subst (λ o. In k (arrives c o x (Label p l))) (sym listed) (inl refl))

    -- 33
    pub taken_in : (pc : ℕ) (s t : Site) → r.row.gives ≡ gives.Taken i → HasResult r → GoesOn app n pc → has (Points n x s) → has (Cell s elem_key t) →
        IsThat pins.value (Points n x s) → IsThat pins.cell (Cell s elem_key t) → is_some pins.object ≡ false →
        In (concludes 33 (of_three (Uses n u) (Points n x s) (Cell s elem_key t)) (Points (at_pc n pc) result_register t)) given
    taken_in pc s t e gives_one g h ht same holds fo =
        let k = concludes 33 (of_three (Uses n u) (Points n x s) (Cell s elem_key t)) (Points (at_pc n pc) result_register t) in
        in_returned (Object s) h same fo k (gives.Taken i) e gives_one
        (in_where k (i == i) (taken hits pins.cell c x (Object s)) (itself i)
        (in_elements has hits law pins.cell k (took c (Points n x s)) s t ht holds
        (in_each 33 (of_three (Uses n u) (Points n x s) (Cell s elem_key t)) (Object t) n c.next result_register pc (goes_in app lists n u r g))))

    pub rest_in : (pc : ℕ) (p q : Path) (l : ℕ) → r.row.gives ≡ gives.Taken i → HasResult r → rest p elem_key ≡ Some q → GoesOn app n pc →
        has (Taint n x p l) → IsThat pins.value (Taint n x p l) → is_some pins.object ≡ false → is_some pins.cell ≡ false →
        In (concludes 33 (of_two (Uses n u) (Taint n x p l)) (Taint (at_pc n pc) result_register q l)) given
    rest_in pc p q l e gives_one left g h same fo fc =
        let k = concludes 33 (of_two (Uses n u) (Taint n x p l)) (Taint (at_pc n pc) result_register q l) in
        in_returned (Label p l) h same fo k (gives.Taken i) e gives_one
        (in_where k (i == i) (taken hits pins.cell c x (Label p l)) (itself i)
        (in_unless k (is_some pins.cell) (took_rest c x p l (rest p elem_key)) fc
        (subst (λ o. In k (took_rest c x p l o)) (sym left)
        (in_each 33 (with_value c x (Label p l)) (Label q l) n c.next result_register pc (goes_in app lists n u r g)))))

    -- 35, of a position
    module _ (p : Path) (l pc : ℕ) (from : List ℕ) where
      abbrev gets : Path → Conclusion
      gets q = concludes 35 (of_two (Uses n u) (Taint n x p l)) (Taint (at_pc n pc) result_register q l)

      pub joined_in : r.row.gives ≡ gives.Joined from → In i from → HasResult r → GoesOn app n pc → has (Taint n x p l) →
          IsThat pins.value (Taint n x p l) → is_some pins.object ≡ false → is_some pins.cell ≡ false → In (gets empty_path) given
      joined_in e m gives_one g h same fo fc =
          in_joined (Label p l) h same fo (gets empty_path) from fc e m gives_one
          (in_bare (with_value c x (Label p l)) l c pc (goes_in app lists n u r g))

      pub element_in : r.row.gives ≡ gives.Joined from → In i from → HasResult r → HasReference r → GoesOn app n pc → has (Taint n x p l) →
          IsThat pins.value (Taint n x p l) → is_some pins.object ≡ false → is_some pins.cell ≡ false → In (gets (cut elem_key empty_path)) given
      element_in e m gives_one t g h same fo fc =
          in_joined (Label p l) h same fo (gets (cut elem_key empty_path)) from fc e m gives_one
          (in_element (with_value c x (Label p l)) l c pc t (goes_in app lists n u r g))

  module _ (free : AllFree pins) (gives_one : HasResult r) where
    in_alone : (k : Conclusion) (g : Gives) → r.row.gives ≡ g → In k (result_alone app hits c (call_result g)) → In k given
    in_alone k g e j =
        in_back k (at_places (at_position hits pins c) 0 c.places) (cond (are_free pins) (alone_gives app hits c) [])
        (in_where k (are_free pins) (alone_gives app hits c) (of_free pins free)
        (in_where k (has_result c) (result_alone app hits c (call_result r.row.gives)) (has_one (is_void c.ret) gives_one)
        (subst (λ z. In k (result_alone app hits c (call_result z))) (sym e) j)))

    -- 34
    pub made_in : (pc : ℕ) (from : List ℕ) → r.row.gives ≡ gives.Joined from → HasReference r → GoesOn app n pc →
        In (concludes 34 (of_one (Uses n u)) (Points (at_pc n pc) result_register (At n))) given
    made_in pc from e t g =
        let k = concludes 34 (of_one (Uses n u)) (Points (at_pc n pc) result_register (At n)) in
        in_alone k (gives.Joined from) e
        (in_front k (made c) (source_gives c r.row.source)
        (in_where k (is_reference c.ret) (results 34 (of_one (Uses n u)) (Object (At n)) c) t
        (in_each 34 (of_one (Uses n u)) (Object (At n)) n c.next result_register pc (goes_in app lists n u r g))))

    -- 35, of the source
    in_source : (k : Conclusion) (l : ℕ) (from : List ℕ) → r.row.gives ≡ gives.Joined from → r.row.source ≡ Some l →
        In k (labelled (of_one (Uses n u)) l c) → In k given
    in_source k l from e labels j =
        in_alone k (gives.Joined from) e (in_back k (made c) (source_gives c r.row.source) (subst (λ o. In k (source_gives c o)) (sym labels) j))

    pub source_in : (pc l : ℕ) (from : List ℕ) → r.row.gives ≡ gives.Joined from → r.row.source ≡ Some l → GoesOn app n pc →
        In (concludes 35 (of_one (Uses n u)) (Taint (at_pc n pc) result_register empty_path l)) given
    source_in pc l from e labels g =
        in_source (concludes 35 (of_one (Uses n u)) (Taint (at_pc n pc) result_register empty_path l)) l from e labels
        (in_bare (of_one (Uses n u)) l c pc (goes_in app lists n u r g))

    pub source_element_in : (pc l : ℕ) (from : List ℕ) → r.row.gives ≡ gives.Joined from → r.row.source ≡ Some l → HasReference r → GoesOn app n pc →
        In (concludes 35 (of_one (Uses n u)) (Taint (at_pc n pc) result_register (cut elem_key empty_path) l)) given
    source_element_in pc l from e labels t g =
        in_source (concludes 35 (of_one (Uses n u)) (Taint (at_pc n pc) result_register (cut elem_key empty_path) l)) l from e labels
        (in_element (of_one (Uses n u)) l c pc t (goes_in app lists n u r g))

    -- 36
    pub shared_static_in : (g : ℕ) → r.row.gives ≡ gives.Shared g →
        In (concludes 36 (of_one (Uses n u)) (StaticPoints (shared_static app g) (SharedSite g))) given
    shared_static_in g e = in_alone (concludes 36 (of_one (Uses n u)) (StaticPoints (shared_static app g) (SharedSite g))) (gives.Shared g) e (inl refl)

    pub shared_in : (g pc : ℕ) → r.row.gives ≡ gives.Shared g → GoesOn app n pc →
        In (concludes 36 (of_one (Uses n u)) (Points (at_pc n pc) result_register (SharedSite g))) given
    shared_in g pc e goes =
        let k = concludes 36 (of_one (Uses n u)) (Points (at_pc n pc) result_register (SharedSite g)) in
        in_alone k (gives.Shared g) e
        (inr (in_front k (results 36 (of_one (Uses n u)) (Object (SharedSite g)) c) (flat_map (shared_label c) (hits (StaticTaintsOf (shared_static app g))))
        (in_each 36 (of_one (Uses n u)) (Object (SharedSite g)) n c.next result_register pc (goes_in app lists n u r goes))))

    pub shared_label_in : (g pc : ℕ) (p : Path) (l : ℕ) → r.row.gives ≡ gives.Shared g → GoesOn app n pc → has (StaticTaint (shared_static app g) p l) →
        In (concludes 36 (of_two (Uses n u) (StaticTaint (shared_static app g) p l)) (Taint (at_pc n pc) result_register p l)) given
    shared_label_in g pc p l e goes h =
        let label : Row = StaticTaint (shared_static app g) p l in
        let k = concludes 36 (of_two (Uses n u) label) (Taint (at_pc n pc) result_register p l) in
        in_alone k (gives.Shared g) e
        (inr (in_back k (results 36 (of_one (Uses n u)) (Object (SharedSite g)) c) (flat_map (shared_label c) (hits (StaticTaintsOf (shared_static app g))))
        (found has hits law (StaticTaintsOf (shared_static app g)) (shared_label c) label k h (p, (l, refl))
        (in_each 36 (of_two (Uses n u) label) (Label p l) n c.next result_register pc (goes_in app lists n u r goes)))))
