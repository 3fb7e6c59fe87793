-- The rules give what the lists leave out, and do not give what they have.
use Rattle.std.proofs.Common.{◌≡◌, ◌≢◌, ℕ, List, [], ◌∷◌, refl, inl, inr}
use Rattle.vet_base.specs.declared.key_id.KeyId.{KeyId}
use Rattle.vet_base.specs.Members.{In}
use Rattle.app_machine.specs.declared.lists.Lists.{Lists}
use Rattle.app_machine.specs.declared.app.App.{App}
use Rattle.app_machine.specs.Lookups.{elem_key}
use Rattle.fact_rows.specs.declared.context.Ctx.{Ctx}
use Rattle.fact_rows.specs.declared.context.Node.{Node}
use Rattle.fact_rows.specs.declared.site.Site.{Site}
use Rattle.fact_rows.specs.declared.site.Site.TheVariants.{Param}
use Rattle.fact_rows.specs.declared.row.Row.{Row}
use Rattle.fact_rows.specs.declared.row.Row.TheVariants.{Points, Label, CellLabel, Live}
use Rattle.flow_rules.specs.EventRules.{ComesToLive, by_callback, by_click}
use Rattle.flow_rules.specs.Rules.{Each}
use Rattle.rule_ground.specs.Hits.{Among}
use Rattle.cell_rules.specs.EventRules.{BeginsWith, begin_points, begin_label, begin_element, EventRule, life_receiver, life_begins, live_begins, live_receiver, handed_receiver, handed_parameter}
use Rattle.cell_event_witness.specs.Refused.{IsRefused, IsMissed, IsOwed, IsOwedByBoth, comes_to, IsBySource, NothingLabels, AreRefused, WrongListsOfEventsAreRefused}

-- of what a body begins with: a label in an object is one of an element, and a parameter is of this context
begun_element : {app : App} {c : Ctx} {body l : ℕ} {sources : List (ℕ × ℕ)} {s : Site} {k : KeyId} → BeginsWith app c body sources (CellLabel s k l) → k ≡ elem_key
begun_element (begin_element code type one) = refl

begun_here : {app : App} {c k : Ctx} {body z i : ℕ} {sources : List (ℕ × ℕ)} {n : Node} → BeginsWith app c body sources (Points n z (Param k i)) → k ≡ n.by.ctx
begun_here (begin_points register type read) = refl

module _ (app : App) (lists : Lists) where
  -- a list without what follows is not just
  missed : (rows : List Row) (row : Row) {rule : ℕ} {x : Row} → EventRule app lists rule rows x → Each (Among rows) rows → In row rows → IsMissed app lists rows row rule x
  missed rows row {rule} {x} by known uses given none just = none (just.complete rule rows x (record { by = by; known = known; uses = uses }))

  owed : (row : Row) {rule : ℕ} {x : Row} → EventRule app lists rule (row ∷ []) x → IsOwed app lists row rule x
  owed row by = missed (row ∷ []) row by (inl refl, tt) (inl refl)

  owed_by_both : (a b : Row) {rule : ℕ} {x : Row} → EventRule app lists rule (a ∷ b ∷ []) x → IsOwedByBoth app lists a b rule x
  owed_by_both a b by = (
    missed (a ∷ b ∷ []) a by (inl refl, (inr (inl refl), tt)) (inl refl),
    missed (a ∷ b ∷ []) b by (inl refl, (inr (inl refl), tt)) (inr (inl refl)),
  )

  not_there : {c : ℕ} {row : Row} → EventRule app lists 42 (Live c 0 ∷ []) row → ⊥
  not_there (live_begins comes there begins) = there refl
  not_there (live_receiver comes there register read) = there refl

  to_absent : {c : ℕ} {row : Row} → IsRefused app lists (Live c 0 ∷ []) (Live c 0) (comes_to c 0 row ∷ [])
  to_absent {c = c} {row = row} just = not_there (just.sound (comes_to c 0 row) (inl refl)).by

  labels_come : {c body z l : ℕ} {k : Ctx} {sources : List (ℕ × ℕ)} → ComesToLive app lists c k body sources → IsBySource app body z l sources →
      NothingLabels app lists c z l body → ⊥
  labels_come (by_callback at) one none = none.called at one
  labels_come (by_click at) one none = absurd one.listed

  not_labelled : {c state z l : ℕ} {n : Node} → NothingLabels app lists c z l n.by.method → EventRule app lists 42 (Live c state ∷ []) (Label n z l) → ⊥
  not_labelled none (live_begins comes there begins) = by_begins comes begins none
    where
      by_begins : {c body z l : ℕ} {k : Ctx} {sources : List (ℕ × ℕ)} {n : Node} → ComesToLive app lists c k body sources →
          BeginsWith app k body sources (Label n z l) → NothingLabels app lists c z l n.by.method → ⊥
      by_begins comes (begin_label register one read) none = labels_come comes (record { i = _; register = register; listed = one }) none

  unlisted : {c state z l : ℕ} {n : Node} → NothingLabels app lists c z l n.by.method →
      IsRefused app lists (Live c state ∷ []) (Live c state) (comes_to c state (Label n z l) ∷ [])
  unlisted {c = c} {state = state} {z = z} {l = l} {n = n} none just =
      not_labelled none (just.sound (comes_to c state (Label n z l)) (inl refl)).by

  element_key : {c state l : ℕ} {s : Site} {k : KeyId} → EventRule app lists 42 (Live c state ∷ []) (CellLabel s k l) → k ≡ elem_key
  element_key (live_begins comes there begins) = begun_element begins

  under_key : {c state l : ℕ} {s : Site} {k : KeyId} → k ≢ elem_key →
      IsRefused app lists (Live c state ∷ []) (Live c state) (comes_to c state (CellLabel s k l) ∷ [])
  under_key {c = c} {state = state} {l = l} {s = s} {k = k} other just =
      other (element_key (just.sound (comes_to c state (CellLabel s k l)) (inl refl)).by)

  own_parameter : {c state z i : ℕ} {n : Node} {k : Ctx} → EventRule app lists 42 (Live c state ∷ []) (Points n z (Param k i)) → k ≡ n.by.ctx
  own_parameter (live_begins comes there begins) = begun_here begins

  of_another : {c state z i : ℕ} {n : Node} {k : Ctx} → k ≢ n.by.ctx →
      IsRefused app lists (Live c state ∷ []) (Live c state) (comes_to c state (Points n z (Param k i)) ∷ [])
  of_another {c = c} {state = state} {z = z} {i = i} {n = n} {k = k} other just =
      other (own_parameter (just.sound (comes_to c state (Points n z (Param k i))) (inl refl)).by)

  are_refused : AreRefused app lists
  are_refused = record {
    receiver = λ at register read. owed _ (life_receiver at register read);
    parameter = λ at register type read. owed _ (life_begins at (begin_points register type read));
    label = λ at there register one read. owed _ (live_begins (by_callback at) there (begin_label register one read));
    element = λ at there code type one. owed _ (live_begins (by_callback at) there (begin_element code type one));
    click = λ at there register read. owed _ (live_receiver (by_click at) there register read);
    callback = λ is at register read. owed _ (handed_receiver is at register read);
    given_back = λ event register parameter is below read. owed_by_both _ _ (handed_parameter event register parameter is below read);
    to_absent = to_absent;
    unlisted = unlisted;
    under_key = under_key;
    of_another = of_another;
  }

pub wrong_lists_of_events_are_refused : WrongListsOfEventsAreRefused
wrong_lists_of_events_are_refused = are_refused
