-- The call at a node in code and in the rules is the same.
use Rattle.std.proofs.Common.{◌≡◌, ℕ, List, Option, Some, None, option_map, refl, sym, ap, subst, ◌∙◌}
use Rattle.std.proofs.lemmas.Option.{none-some, same_Some}
use Rattle.vet_base.specs.Members.{In}
use Rattle.app_machine.specs.declared.call.MethodRef.{MethodRef}
use Rattle.app_machine.specs.declared.call.CallKind.{CallKind}
use Rattle.app_machine.specs.declared.method.Act.{Act}
use Rattle.app_machine.specs.declared.method.Act.TheVariants as act
use Rattle.app_machine.specs.declared.method.Step.{Step}
use Rattle.app_machine.specs.declared.summary.Summary.{Summary}
use Rattle.app_machine.specs.declared.lists.Lists.{Lists}
use Rattle.app_machine.specs.declared.lists.SummaryId.{SummaryId}
use Rattle.app_machine.specs.declared.app.App.{App}
use Rattle.app_machine.specs.Lookups.{step_at, is_static_call}
use Rattle.app_machine.specs.Summaries.{summary}
use Rattle.fact_rows.specs.declared.context.Node.{Node}
use Rattle.flow_rules.specs.Nodes.{GoesOn}
use Rattle.flow_rules.specs.LibraryRules.{RowAt}
use Rattle.library_ground.specs.CallRow.{CallRow, used_row, row_by, row_on, call_row}

module _ (app : App) (lists : Lists) (n : Node) (u : SummaryId) where
  abbrev pub of_row : RowAt app lists n u → CallRow
  of_row r = used_row n u r.act.step.next r.kind r.at r.args r.row

  pub row_here : (r : RowAt app lists n u) → call_row app lists n u ≡ Some (of_row r)
  row_here r =
      ap (λ o. row_on o lists n u) r.act.there
      ∙ ap (row_by lists n u r.act.step.next) r.act.same
      ∙ ap (option_map (λ row. used_row n u r.act.step.next r.kind r.at r.args row)) r.is_row

  pub stands : (c : CallRow) → call_row app lists n u ≡ Some c → (r : RowAt app lists n u) × (c ≡ of_row r)
  stands c h = on_step (step_at app n.by.method n.pc) refl h
    where
      by_summary : (step : Step) → step_at app n.by.method n.pc ≡ Some step → (kind : CallKind) (at : MethodRef) (args : List ℕ) →
          step.act ≡ act.Call kind at args → (o : Option Summary) → summary lists u at (is_static_call kind) ≡ o →
          option_map (λ row. used_row n u step.next kind at args row) o ≡ Some c → (r : RowAt app lists n u) × (c ≡ of_row r)
      by_summary step there kind at args same None e k = absurd (none-some c k)
      by_summary step there kind at args same (Some row) e k = (
        record { kind = kind; at = at; args = args; row = row; act = record { step = step; there = there; same = same }; is_row = e },
        sym (same_Some (used_row n u step.next kind at args row) c k),
      )

      on_act : (step : Step) → step_at app n.by.method n.pc ≡ Some step → (a : Act) → step.act ≡ a → row_by lists n u step.next a ≡ Some c →
          (r : RowAt app lists n u) × (c ≡ of_row r)
      on_act step there (act.Call kind at args) same k = by_summary step there kind at args same (summary lists u at (is_static_call kind)) refl k
      on_act step there _ same k = absurd (none-some c k)

      on_step : (o : Option Step) → step_at app n.by.method n.pc ≡ o → row_on o lists n u ≡ Some c → (r : RowAt app lists n u) × (c ≡ of_row r)
      on_step None e k = absurd (none-some c k)
      on_step (Some step) e k = on_act step e step.act refl k

  module _ (r : RowAt app lists n u) where
    pub goes_on : {pc : ℕ} → In pc r.act.step.next → GoesOn app n pc
    goes_on i = record { step = r.act.step; there = r.act.there; next = i }

    pub goes_in : {pc : ℕ} → GoesOn app n pc → In pc r.act.step.next
    goes_in {pc = pc} g = let e : g.step ≡ r.act.step = same_Some g.step r.act.step (sym g.there ∙ r.act.there) in subst (λ (s : Step). In pc s.next) e g.next
