-- The cases that bytes hold, by computing: what is told of a journal that was not opened.
use Rattle.std.specs.Prelude.{◌≡◌, ℕ, zero, suc, ◌+◌, Bool, true, false, ◌&&◌, not, List, [], ◌∷◌, length, take, drop, find, is_none, Option, Some, None, Result, Ok, Err, unwrap_or, nat_le, if◌then◌else◌}
use Rattle.std.specs.Option.{option_and_then}
use Rattle.vet_base.specs.Script.{run}
use Rattle.gated_log.specs.Format.{magic, first_record}
use Rattle.case_rules.specs.declared.case.Case.{Case}
use Rattle.case_rules.specs.declared.case.Entry.{Entry}
use Rattle.case_rules.specs.declared.reply.Change.{Change}
use Rattle.case_rules.specs.declared.reply.Change.TheVariants as changes
use Rattle.case_rules.specs.Cases.{after, same, is_named, is_queued, last, has_edition, has_open_appeal}
use Rattle.case_records.specs.declared.fault.NoPayload.{NoPayload}
use Rattle.case_records.specs.Reading.{change_of}
use Rattle.journal_law.specs.Journal.{Holds, IsForeign, IsBad}

-- whether this is the case of which the change speaks
abbrev pub is_meant : Change → Case → Bool
is_meant (changes.Add case) = is_named case.party case.reference
is_meant (changes.Decide party reference decision) = is_named party reference
is_meant (changes.Appeal party reference appeal) = is_named party reference
is_meant (changes.Rule party reference ruling) = is_named party reference

abbrev pub is_unappealed : Option Entry → Bool
is_unappealed None = false
is_unappealed (Some entry) = is_none entry.appeal

-- whether the change fits, where it speaks of no case that is there, or of this one
abbrev pub fits_none : Change → Bool
fits_none (changes.Add case) = is_queued case
fits_none (changes.Decide party reference decision) = false
fits_none (changes.Appeal party reference appeal) = false
fits_none (changes.Rule party reference ruling) = false

abbrev pub fits_case : Change → Case → Bool
fits_case (changes.Add added) case = false
fits_case (changes.Decide party reference decision) case = not (has_edition decision.lists case) && not (has_open_appeal case)
fits_case (changes.Appeal party reference appeal) case = is_unappealed (last case.entries)
fits_case (changes.Rule party reference ruling) case = has_open_appeal case

abbrev pub fits_found : Change → Option Case → Bool
fits_found change None = fits_none change
fits_found change (Some case) = fits_case change case

-- whether the change fits the cases
abbrev pub fits : Change → List Case → Bool
fits change cases = fits_found change (find (is_meant change) cases)

abbrev pub made_by : Result Change NoPayload → List Case → Option (List Case)
made_by (Ok change) cases = if fits change cases then Some (after change cases) else None
made_by (Err fault) cases = None

-- the cases after the changes of these payloads, where each fits
abbrev pub made : List (List ℕ) → List Case → Option (List Case)
made [] cases = Some cases
made (payload ∷ payloads) cases = option_and_then (made payloads) (made_by (run (change_of payload)) cases)

abbrev pub with_more : Option (List ℕ) → (ℕ → List (List ℕ)) → List (List ℕ)
with_more None others = []
with_more (Some payload) others = payload ∷ others (9 + length payload)

-- the payloads of the records, at most so many
abbrev pub payloads_of : ℕ → List ℕ → List (List ℕ)
payloads_of zero bytes = []
payloads_of (suc n) bytes = with_more (first_record bytes) (λ size. payloads_of n (drop size bytes))

-- the cases that the bytes hold, and none where they hold none
unfoldable pub cases_in : List ℕ → List Case
cases_in bytes =
    if nat_le (length bytes) 9 then [] else
    if same (take 8 bytes) magic then unwrap_or (made (payloads_of (length bytes) (drop 8 bytes)) []) [] else []

-- What is told of bytes is the cases that they hold; of bytes that are foreign or bad, none.
pub record TellsTheCases : Type 0 where
  pub held : (bytes : List ℕ) (cases : List Case) → Holds bytes cases → cases_in bytes ≡ cases
  pub foreign : (bytes : List ℕ) → IsForeign bytes → cases_in bytes ≡ []
  pub bad : (bytes : List ℕ) (at : ℕ) → IsBad bytes at → cases_in bytes ≡ []
