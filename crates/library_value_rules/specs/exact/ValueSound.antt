-- What is listed of a call by rules 30 to 36 follows, with the premises that are known.
use Rattle.std.proofs.Common.{◌≡◌, ◌==◌, ℕ, Bool, true, false, List, [], ◌∷◌, ◌++◌, Option, Some, None, cond, is_some, flat_map, IsTrue, eqb-true, refl, ap, subst, ◌∙◌}
use Rattle.std.specs.List.{AllByRecursion}
use Rattle.std.proofs.lemmas.Option.{none-some, same_Some}
use Rattle.vet_base.specs.Members.{In, IsAt}
use Rattle.vet_base.proofs.Every.{each_append, each_where, each_unless}
use Rattle.access_path.specs.declared.path.Path.{Path}
use Rattle.access_path.specs.Paths.{cut, rest, empty_path}
use Rattle.app_machine.specs.declared.summary.Gives.{Gives}
use Rattle.app_machine.specs.declared.summary.Gives.TheVariants as gives
use Rattle.app_machine.specs.declared.summary.Summary.{Summary}
use Rattle.app_machine.specs.declared.lists.Lists.{Lists}
use Rattle.app_machine.specs.declared.lists.SummaryId.{SummaryId}
use Rattle.app_machine.specs.declared.app.App.{App}
use Rattle.app_machine.specs.Lookups.{elem_key}
use Rattle.app_machine.specs.Names.{is_reference, is_void}
use Rattle.app_machine.specs.Library.{IsSink}
use Rattle.app_machine.specs.State.{result_register, shared_static, holds}
use Rattle.app_parts.specs.Views.{call_result, joined_from}
use Rattle.fact_rows.specs.declared.context.Node.{Node}
use Rattle.fact_rows.specs.declared.site.Site.TheVariants.{At, Shared as SharedSite}
use Rattle.fact_rows.specs.declared.row.Row.{Row}
use Rattle.fact_rows.specs.declared.row.Row.TheVariants.{Points, Taint, Cell, StaticTaint, Uses}
use Rattle.flow_rules.specs.Nodes.{at_pc, GoesOn}
use Rattle.flow_rules.specs.LibraryRules.{LibraryRule, RowAt, places_of, HasResult, hand_points, hand_taint, sink_arrives, same_points, same_taint, taken_points, taken_taint, joined_points, joined_taint, joined_element, source_taint, source_element, shared_static_points, shared_points, shared_taint}
use Rattle.rule_ground.specs.declared.conclusion.Premises.{Premises}
use Rattle.rule_ground.specs.declared.conclusion.Conclusion.{Conclusion}
use Rattle.rule_ground.specs.declared.content.Content.{Content}
use Rattle.rule_ground.specs.declared.content.Content.TheVariants.{Object, Label}
use Rattle.rule_ground.specs.declared.key.Key.{Key}
use Rattle.rule_ground.specs.declared.key.Key.TheVariants.{TaintsAt, StaticTaintsOf}
use Rattle.rule_ground.specs.Candidates.{candidates}
use Rattle.rule_ground.specs.Given.{of_one, of_two, of_three, concludes, held}
use Rattle.rule_ground.specs.Hits.{IsHits}
use Rattle.rule_ground.specs.Listing.{each_sound, holds_in, at_hit, of_hits}
use Rattle.library_ground.specs.declared.pins.Pins.{Pins}
use Rattle.library_ground.specs.CallRow.{CallRow, has_result, sink_among, sink_of}
use Rattle.library_ground.specs.Free.{IsThat, unpinned, each_object, each_label, each_element, each_value}
use Rattle.library_ground.specs.Pinned.{AllFree, AreThere, IsPinnedBy, alone, of_value, of_cell, of_object, free_of}
use Rattle.library_ground.specs.Pinning.{are_free, may_stand, values_give}
use Rattle.library_ground.specs.Places.{at_places, each_place}
use Rattle.library_ground.specs.Stands.{of_row, goes_on}
use Rattle.library_value_rules.specs.ValueGiven.{results, with_value, hands, handed_with, label_hands, labels_handed, arrives, took, took_rest, taken, labelled, joined, result_gives, returned, content_gives, row_gives, position_gives, at_position, label_held, made, source_gives, shared_label, shared_gives, result_alone, alone_gives, value_gives}

pub not_void : (b : Bool) → cond b false true ≡ true → b ≡ false
not_void true e = absurd cc
not_void false e = refl

sink_is : (row : Summary) (i sink : ℕ) (o : Option (ℕ × List ℕ)) → row.sink ≡ o → sink_among o i ≡ Some sink → IsSink row sink i
sink_is row i sink None e k = absurd (none-some sink k)
sink_is row i sink (Some s) e k = by_test (holds s.1 i) refl k
  where
    by_test : (b : Bool) → holds s.1 i ≡ b → cond b (Some s.0) None ≡ Some sink → IsSink row sink i
    by_test true t q = (s.1, subst (λ z. row.sink ≡ Some (z, s.1)) (same_Some s.0 sink q) e, holds_in i s.1 t)
    by_test false t q = absurd (none-some sink q)

module _ (app : App) (lists : Lists) (has : Row → Type 0) (hits : Key → List Row) (law : (k : Key) → IsHits has k (hits k)) (n : Node) (u : SummaryId) (r : RowAt app lists n u) (pins : Pins) (uses : has (Uses n u)) (known : AreThere has pins) where
  abbrev c : CallRow
  c = of_row app lists n u r

  abbrev P : Conclusion → Type 0
  P = IsPinnedBy app lists has n u pins

  -- a label that the result has, and of a reference type holds as an element
  labelled_sound : (premises : Premises) (l : ℕ) →
      ((pc : ℕ) → In pc c.next → P (concludes 35 premises (Taint (at_pc n pc) result_register empty_path l))) →
      (IsTrue (is_reference c.ret) → (pc : ℕ) → In pc c.next → P (concludes 35 premises (Taint (at_pc n pc) result_register (cut elem_key empty_path) l))) →
      AllByRecursion P (labelled premises l c)
  labelled_sound premises l h k =
      each_append P (results 35 premises (Label empty_path l) c) (label_held premises l c)
      (each_sound P 35 premises (Label empty_path l) n c.next result_register h)
      (each_where P (is_reference c.ret) (results 35 premises (Label (cut elem_key empty_path) l) c) (λ t.
      each_sound P 35 premises (Label (cut elem_key empty_path) l) n c.next result_register (k t)))

  module _ (i x : ℕ) (at : IsAt (places_of r) i x) where
    module _ (fo : is_some pins.object ≡ false) where
      hands_sound : is_some pins.cell ≡ false → (v : Content) → has (held v n x) → IsThat pins.value (held v n x) → AllByRecursion P (hands c x v)
      hands_sound fc (Object s) h same = (of_value app lists has n u pins uses (hand_points i r at) h same fo fc, tt)
      hands_sound fc (Label p l) h same = tt

      arrives_sound : is_some pins.cell ≡ false → (v : Content) → has (held v n x) → IsThat pins.value (held v n x) → (o : Option ℕ) →
          sink_of c i ≡ o → AllByRecursion P (arrives c o x v)
      arrives_sound fc (Label p l) h same (Some sink) e =
          (of_value app lists has n u pins uses (sink_arrives i sink r (sink_is r.row i sink r.row.sink refl e) at) h same fo fc, tt)
      arrives_sound fc (Object s) h same (Some sink) e = tt
      arrives_sound fc (Label p l) h same None e = tt
      arrives_sound fc (Object s) h same None e = tt

      module _ (gives_one : HasResult r) where
        same_rule : (v : Content) (pc : ℕ) → r.row.gives ≡ gives.Same i → GoesOn app n pc →
            LibraryRule app lists 32 (Uses n u ∷ held v n x ∷ []) (held v (at_pc n pc) result_register)
        same_rule (Object s) pc e g = same_points r e gives_one at g
        same_rule (Label p l) pc e g = same_taint r e gives_one at g

        rest_sound : is_some pins.cell ≡ false → r.row.gives ≡ gives.Taken i → (p : Path) (l : ℕ) → has (Taint n x p l) →
            IsThat pins.value (Taint n x p l) → (o : Option Path) → rest p elem_key ≡ o → AllByRecursion P (took_rest c x p l o)
        rest_sound fc e p l h same None k = tt
        rest_sound fc e p l h same (Some q) k =
            each_sound P 33 (with_value c x (Label p l)) (Label q l) n c.next result_register (λ pc j.
            of_value app lists has n u pins uses (taken_taint r e gives_one at k (goes_on app lists n u r j)) h same fo fc)

        taken_sound : r.row.gives ≡ gives.Taken i → (v : Content) → has (held v n x) → IsThat pins.value (held v n x) →
            AllByRecursion P (taken hits pins.cell c x v)
        taken_sound e (Object s) h same = each_element has hits law pins.cell known.cell P (took c (Points n x s)) s (λ t ht holds.
            each_sound P 33 (of_three (Uses n u) (Points n x s) (Cell s elem_key t)) (Object t) n c.next result_register (λ pc j.
            of_cell app lists has n u pins uses (taken_points r e gives_one at (goes_on app lists n u r j)) h ht same holds fo))
        taken_sound e (Label p l) h same =
            each_unless P (is_some pins.cell) (took_rest c x p l (rest p elem_key)) (λ fc. rest_sound fc e p l h same (rest p elem_key) refl)

        joined_sound : is_some pins.cell ≡ false → (from : List ℕ) → r.row.gives ≡ gives.Joined from → In i from → (v : Content) →
            has (held v n x) → IsThat pins.value (held v n x) → AllByRecursion P (joined c x v)
        joined_sound fc from e m (Object s) h same = tt
        joined_sound fc from e m (Label p l) h same = labelled_sound (with_value c x (Label p l)) l
            (λ pc j. of_value app lists has n u pins uses (joined_taint i r e m gives_one at (goes_on app lists n u r j)) h same fo fc)
            (λ t pc j. of_value app lists has n u pins uses (joined_element i r e m gives_one t at (goes_on app lists n u r j)) h same fo fc)

        result_sound : (g : Gives) → r.row.gives ≡ g → (v : Content) → has (held v n x) → IsThat pins.value (held v n x) →
            AllByRecursion P (result_gives hits pins.cell c i x v (call_result g))
        result_sound gives.Blank e v h same = tt
        result_sound (gives.Same j) e v h same = each_where P (j == i) (cond (is_some pins.cell) [] (results 32 (with_value c x v) v c)) (λ t.
            each_unless P (is_some pins.cell) (results 32 (with_value c x v) v c) (λ fc.
            each_sound P 32 (with_value c x v) v n c.next result_register (λ pc k.
            of_value app lists has n u pins uses (same_rule v pc (e ∙ ap (λ z. gives.Same z) (eqb-true j i t)) (goes_on app lists n u r k)) h same fo fc)))
        result_sound (gives.Taken j) e v h same =
            each_where P (j == i) (taken hits pins.cell c x v) (λ t. taken_sound (e ∙ ap (λ z. gives.Taken z) (eqb-true j i t)) v h same)
        result_sound (gives.Joined from) e v h same = each_where P (joined_from r.row.gives i) (cond (is_some pins.cell) [] (joined c x v)) (λ t.
            each_unless P (is_some pins.cell) (joined c x v) (λ fc.
            joined_sound fc from e (holds_in i from (subst (λ z. joined_from z i ≡ true) e t)) v h same))
        result_sound (gives.Shared g) e v h same = tt
        result_sound gives.Handed e v h same = tt

      content_sound : (v : Content) → has (held v n x) → IsThat pins.value (held v n x) → AllByRecursion P (content_gives hits pins.cell c i x v)
      content_sound v h same =
          each_append P (cond (is_some pins.cell) [] (hands c x v ++ arrives c (sink_of c i) x v)) (returned hits pins.cell c i x v)
          (each_unless P (is_some pins.cell) (hands c x v ++ arrives c (sink_of c i) x v) (λ fc.
          each_append P (hands c x v) (arrives c (sink_of c i) x v) (hands_sound fc v h same) (arrives_sound fc v h same (sink_of c i) refl)))
          (each_where P (has_result c) (result_gives hits pins.cell c i x v (call_result r.row.gives)) (λ t.
          result_sound (not_void (is_void c.ret) t) r.row.gives refl v h same))

      row_sound : (v : Content) → has (held v n x) → IsThat pins.value (held v n x) → AllByRecursion P (row_gives hits pins.cell c i x (held v n x))
      row_sound (Object s) h same = content_sound (Object s) h same
      row_sound (Label p l) h same = content_sound (Label p l) h same

    labels_sound : is_some pins.cell ≡ false → AllByRecursion P (labels_handed hits pins c x)
    labels_sound fc = each_where P (may_stand pins.object n x) (flat_map (label_hands hits pins.object c x) (candidates hits pins.value (TaintsAt n x))) (λ t.
        each_label has hits law pins.value known.value P (label_hands hits pins.object c x) n x (λ p l hl same.
        each_object has hits law pins.object known.object P (handed_with c (Taint n x p l) p l) n x (λ s hs takes.
        (of_object app lists has n u pins uses (hand_taint i r at) hs hl takes same fc, tt))))

    position_sound : AllByRecursion P (at_position hits pins c i x)
    position_sound = each_where P (may_stand pins.value n x) (position_gives hits pins c i x) (λ t.
        each_append P (cond (is_some pins.object) [] (values_give hits pins.value n x (row_gives hits pins.cell c i x))) (cond (is_some pins.cell) [] (labels_handed hits pins c x))
        (each_unless P (is_some pins.object) (values_give hits pins.value n x (row_gives hits pins.cell c i x)) (λ fo.
        each_value has hits law pins.value known.value P (row_gives hits pins.cell c i x) n x (row_sound fo)))
        (each_unless P (is_some pins.cell) (labels_handed hits pins c x) labels_sound))

  module _ (free : AllFree pins) (gives_one : HasResult r) where
    made_sound : (from : List ℕ) → r.row.gives ≡ gives.Joined from → AllByRecursion P (made c)
    made_sound from e = each_where P (is_reference c.ret) (results 34 (of_one (Uses n u)) (Object (At n)) c) (λ t.
        each_sound P 34 (of_one (Uses n u)) (Object (At n)) n c.next result_register (λ pc j.
        alone app lists has n u pins uses (joined_points r e gives_one t (goes_on app lists n u r j)) free))

    source_sound : (from : List ℕ) → r.row.gives ≡ gives.Joined from → (o : Option ℕ) → r.row.source ≡ o → AllByRecursion P (source_gives c o)
    source_sound from e None k = tt
    source_sound from e (Some l) k = labelled_sound (of_one (Uses n u)) l
        (λ pc j. alone app lists has n u pins uses (source_taint r e k gives_one (goes_on app lists n u r j)) free)
        (λ t pc j. alone app lists has n u pins uses (source_element r e k gives_one t (goes_on app lists n u r j)) free)

    shared_sound : (g : ℕ) → r.row.gives ≡ gives.Shared g → AllByRecursion P (shared_gives app hits c g)
    shared_sound g e =
        let own : List Conclusion = results 36 (of_one (Uses n u)) (Object (SharedSite g)) c in
        let labels : List Conclusion = flat_map (shared_label c) (hits (StaticTaintsOf (shared_static app g))) in (
          alone app lists has n u pins uses (shared_static_points r e gives_one) free,
          each_append P own labels
              (each_sound P 36 (of_one (Uses n u)) (Object (SharedSite g)) n c.next result_register (λ pc j.
              alone app lists has n u pins uses (shared_points r e gives_one (goes_on app lists n u r j)) free))
              (of_hits has hits law P (StaticTaintsOf (shared_static app g)) (shared_label c) (λ row k.
              let w = (law (StaticTaintsOf (shared_static app g))).under row k in
              let label : Row = StaticTaint (shared_static app g) w.0 w.1.0 in (
                label,
                w.1.1,
                each_sound P 36 (of_two (Uses n u) label) (Label w.0 w.1.0) n c.next result_register (λ pc j.
                    of_value app lists has n u pins uses (shared_taint r e gives_one (goes_on app lists n u r j)) (at_hit has hits law _ row label k w.1.1)
                    (unpinned (λ z. label ≡ z) pins.value free.value) free.object free.cell),
              ))),
        )

    alone_sound : (g : Gives) → r.row.gives ≡ g → AllByRecursion P (result_alone app hits c (call_result g))
    alone_sound gives.Blank e = tt
    alone_sound (gives.Same j) e = tt
    alone_sound (gives.Taken j) e = tt
    alone_sound (gives.Joined from) e = each_append P (made c) (source_gives c r.row.source) (made_sound from e) (source_sound from e r.row.source refl)
    alone_sound (gives.Shared g) e = shared_sound g e
    alone_sound gives.Handed e = tt

  pub value_sound : AllByRecursion P (value_gives app hits pins c)
  value_sound =
      each_append P (at_places (at_position hits pins c) 0 c.places) (cond (are_free pins) (alone_gives app hits c) [])
      (each_place P (at_position hits pins c) c.places position_sound)
      (each_where P (are_free pins) (alone_gives app hits c) (λ f.
      each_where P (has_result c) (result_alone app hits c (call_result r.row.gives)) (λ t.
      alone_sound (free_of pins f) (not_void (is_void c.ret) t) r.row.gives refl)))
