-- The entries of a case after a change.
use Rattle.std.proofs.Common.{◌≡◌, ℕ, Bool, false, ◌||◌, List, [], ◌∷◌, ◌++◌, Some, refl, ap, ◌∙◌}
use Rattle.std.specs.List.{list_any}
use Rattle.std.proofs.lemmas.Bool.{or_parts, or_from}
use Rattle.std.proofs.lemmas.List.Folds.{list_any-append}
use Rattle.case_rules.specs.declared.case.Entry.{Entry}
use Rattle.case_rules.specs.declared.case.Decision.{Decision}
use Rattle.case_rules.specs.Cases.{is_under, is_open, is_open_by, last, change_last, entry_of}
use Rattle.case_rules.specs.Docket.{IsEntry, IsHistory}
use Rattle.case_rules.proofs.Named.{same_back}

-- an entry is not under the edition of another where that is not under its own
apart : (entry : Entry) (decision : Decision) → is_under decision.lists entry ≡ false
    → is_under entry.decision.lists (entry_of decision) ≡ false
apart entry decision differs = same_back decision.lists entry.decision.lists ∙ differs

new_entry : (decision : Decision) → IsEntry (entry_of decision)
new_entry decision = λ _. refl

pub history_grows : (entries : List Entry) (decision : Decision) → IsHistory entries
    → list_any (is_under decision.lists) entries ≡ false → is_open_by (last entries) ≡ false
    → IsHistory (entries ++ entry_of decision ∷ [])
history_grows [] decision history fresh closed = new_entry decision
history_grows (entry ∷ []) decision history fresh closed =
    let parts = or_parts (is_under decision.lists entry) false fresh in (
      history,
      closed,
      or_from (is_under entry.decision.lists (entry_of decision)) false
          (apart entry decision parts.0) refl,
      new_entry decision,
    )
history_grows (entry ∷ next ∷ entries) decision history fresh closed =
    let parts = or_parts (is_under decision.lists entry) (list_any (is_under decision.lists) (next ∷ entries)) fresh in
    let later : is_under entry.decision.lists (entry_of decision) || false ≡ false =
    or_from (is_under entry.decision.lists (entry_of decision)) false (apart entry decision parts.0) refl in (
      history.0,
      history.1,
      list_any-append (is_under entry.decision.lists) (next ∷ entries) (entry_of decision ∷ [])
          ∙ or_from (list_any (is_under entry.decision.lists) (next ∷ entries))
          (is_under entry.decision.lists (entry_of decision) || false) history.2 later,
      history_grows (next ∷ entries) decision history.3 parts.1 closed,
    )

pub history_cons : (entry : Entry) (entries : List Entry) → IsEntry entry → is_open entry ≡ false
    → list_any (is_under entry.decision.lists) entries ≡ false → IsHistory entries → IsHistory (entry ∷ entries)
history_cons entry [] is closed apart history = is
history_cons entry (next ∷ entries) is closed apart history = (is, closed, apart, history)

editions_kept : (lists : List ℕ) (f : Entry → Entry) → ((entry : Entry) → (f entry).decision ≡ entry.decision)
    → (entries : List Entry)
    → list_any (is_under lists) (change_last f entries) ≡ list_any (is_under lists) entries
editions_kept lists f kept [] = refl
editions_kept lists f kept (entry ∷ []) = ap (λ (d : Decision). is_under lists (entry_of d) || false) (kept entry)
editions_kept lists f kept (entry ∷ next ∷ entries) =
    ap (λ (b : Bool). is_under lists entry || b) (editions_kept lists f kept (next ∷ entries))

pub history_changes : (f : Entry → Entry) → ((entry : Entry) → (f entry).decision ≡ entry.decision)
    → (entries : List Entry) → IsHistory entries
    → ((entry : Entry) → last entries ≡ Some entry → IsEntry entry → IsEntry (f entry))
    → IsHistory (change_last f entries)
history_changes f kept [] history each = tt
history_changes f kept (entry ∷ []) history each = each entry refl history
history_changes f kept (entry ∷ next ∷ entries) history each =
    history_cons entry (change_last f (next ∷ entries)) history.0 history.1
    (editions_kept entry.decision.lists f kept (next ∷ entries) ∙ history.2)
    (history_changes f kept (next ∷ entries) history.3 each)
