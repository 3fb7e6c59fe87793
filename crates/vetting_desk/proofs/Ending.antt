-- From what was found to how the run ends.
use Rattle.std.proofs.Common.{◌≡◌, ◌⊎◌, inl, inr, ℕ, ◌≤◌, List, Option, Some, None, Err, refl, sym, ◌∙◌, ap, subst, arith}
use Rattle.std.specs.Prelude.{string_bytes}
use Rattle.vet_base.specs.Outside.{HasRisen, Told, WritesFile}
use Rattle.heard_files.specs.Outside.{Entry}
use Rattle.vet_base.specs.declared.outside.FileFault.TheVariants as faults
use Rattle.vetting_desk.specs.declared.answer.Status.{Status}
use Rattle.vetting_desk.specs.declared.answer.Answer.{Answer}
use Rattle.vetting_desk.specs.declared.finding.Found.{Found}
use Rattle.vetting_desk.specs.declared.finding.Found.TheVariants.{Said, ReadFault, Memory}
use Rattle.desk_words.specs.Words.{Words, Check, Certify, Recheck, Story, Make}
use Rattle.vetting_desk.specs.Answer.{SaysClear, IsSafe, SaysFound, IsFullReport}
use Rattle.app_folder.specs.Due.{Due, NewFile}
use Rattle.vetting_desk.specs.Due.{due_of, read_fault_text}
use Rattle.vetting_desk.specs.Found.{TheDue, ReadFails, IsFound, Says, file_of}
use Rattle.app_folder.specs.Outside.{Tells, Outside, outside}
use Rattle.vetting_desk.specs.Top.{status, Finishes, Writes, NoFault, ComesToSay, RunsOut, Ends, EndsAsDue, EndsAsRead, EndsAsOnlyDue, PrintsFullReport, PutsText, NotWritten}

-- so much was heard of the files before and after
module _ (ho hn : List Entry) where
  -- the file that is due was written, if any, and nothing else changed
  no_fault : (old new last : Option Told) (before after final : ℕ) (taken taken2 : Option (List ℕ)) (sink sink2 : ℕ) (hands hands2 : List ℕ) (file : Option NewFile)
      → new ≡ old → after ≡ before → Writes file new last → final ≡ after → NoFault file (outside old before taken sink hands) (outside last final taken2 sink2 hands2)
  no_fault old new last before after final taken taken2 sink sink2 hands hands2 file same count writes count2 =
      let P : Option Told → Type 0 = λ t. Writes file t last in
      record { files = subst P same writes; count = count2 ∙ count }

  -- a read failed, and nothing is to be written
  fails_still : (words : Option Words) (old new last : Option Told) (before after final : ℕ) (name : List ℕ) → last ≡ new → final ≡ after
      → ReadFails words old new before after name → ReadFails words old last before final name
  fails_still words old new last before after final name same count fails =
      let AtTold : Option Told → Type 0 = λ t. ReadFails words old t before after name in
      let AtCount : ℕ → Type 0 = λ n. ReadFails words old last before n name in
      subst AtCount (sym count) (subst AtTold (sym same) fails)

  -- what was found is said by its status and text, once the file that is due was written
  comes_to_say : (words : Option Words) (old new last : Option Told) (before after final : ℕ) (taken taken2 : Option (List ℕ)) (sink sink2 : ℕ) (hands hands2 : List ℕ) (n : ℕ) (text : List ℕ) (found : Found)
      → IsFound words old new before after ho hn found → Says found n text → Writes (file_of found) new last → final ≡ after
      → ComesToSay (TheDue words (record { files = old; printed = taken }) ho hn) words (outside old before taken sink hands) (outside last final taken2 sink2 hands2) n text
  comes_to_say words old new last before after final taken taken2 sink sink2 hands hands2 n text (Said answer) is says writes count =
      let tells : Tells = record { files = old; printed = taken } in
      let P : ℕ → List ℕ → Type 0 = λ m t. ComesToSay (TheDue words tells ho hn) words (outside old before taken sink hands) (outside last final taken2 sink2 hands2) m t in
      let said : P (due_of answer).status (due_of answer).text =
      ComesToSay.answer (due_of answer) (is.0 taken) (no_fault old new last before after final taken taken2 sink sink2 hands hands2 (due_of answer).written is.1 is.2 writes count) in
      subst (λ (m : ℕ). P m text) (sym says.0) (subst (λ (t : List ℕ). P (due_of answer).status t) (sym says.1) said)
  comes_to_say words old new last before after final taken taken2 sink sink2 hands hands2 n text (ReadFault name) is says writes count =
      let tells : Tells = record { files = old; printed = taken } in
      let P : ℕ → List ℕ → Type 0 = λ m t. ComesToSay (TheDue words tells ho hn) words (outside old before taken sink hands) (outside last final taken2 sink2 hands2) m t in
      let said : P 5 (read_fault_text (string_bytes name)) = ComesToSay.read_fault (string_bytes name) (fails_still words old new last before after final (string_bytes name) writes count is) in
      subst (λ (m : ℕ). P m text) (sym says.0) (subst (λ (t : List ℕ). P 5 t) (sym says.1) said)
  comes_to_say words old new last before after final taken taken2 sink sink2 hands hands2 n text Memory is says writes count = absurd says

  -- memory ran out before anything was written
  runs_out : (words : Option Words) (old new : Option Told) (before after : ℕ) (taken taken2 : Option (List ℕ)) (sink sink2 : ℕ) (hands hands2 : List ℕ) (found : Found) → IsFound words old new before after ho hn found
      → RunsOut (TheDue words (record { files = old; printed = taken }) ho hn) words (outside old before taken sink hands) (outside new after taken2 sink2 hands2)
  runs_out words old new before after taken taken2 sink sink2 hands hands2 (Said answer) is = RunsOut.no_fault (record { files = is.1; count = is.2 })
  runs_out words old new before after taken taken2 sink sink2 hands hands2 (ReadFault name) is = RunsOut.read_fault (string_bytes name) is
  runs_out words old new before after taken taken2 sink sink2 hands hands2 Memory is = RunsOut.no_fault (record { files = is.0; count = is.1 })

  -- or after the file that is due was
  runs_out_then : (words : Option Words) (old new last : Option Told) (before after final : ℕ) (taken taken2 : Option (List ℕ)) (sink sink2 : ℕ) (hands hands2 : List ℕ) (found : Found)
      → IsFound words old new before after ho hn found → Writes (file_of found) new last → final ≡ after
      → RunsOut (TheDue words (record { files = old; printed = taken }) ho hn) words (outside old before taken sink hands) (outside last final taken2 sink2 hands2)
  runs_out_then words old new last before after final taken taken2 sink sink2 hands hands2 (Said answer) is writes count =
      RunsOut.written (due_of answer) (is.0 taken) (no_fault old new last before after final taken taken2 sink sink2 hands hands2 (due_of answer).written is.1 is.2 writes count)
  runs_out_then words old new last before after final taken taken2 sink sink2 hands hands2 (ReadFault name) is writes count =
      RunsOut.read_fault (string_bytes name) (fails_still words old new last before after final (string_bytes name) writes count is)
  runs_out_then words old new last before after final taken taken2 sink sink2 hands hands2 Memory is writes count = RunsOut.no_fault (record { files = writes ∙ is.0; count = count ∙ is.1 })

  -- the file that is due was written, if any, and what was found is put
  ends_put : (words : Option Words) (old new last : Option Told) (before after final : ℕ) (taken taken2 : Option (List ℕ)) (sink sink2 : ℕ) (hands hands2 : List ℕ) (found : Found) (said result : Status) (text : List ℕ)
      → IsFound words old new before after ho hn found → Says found said.0 text → Writes (file_of found) new last → final ≡ after → PutsText taken taken2 sink sink2 hands hands2 said text result
      → Ends (TheDue words (record { files = old; printed = taken }) ho hn) words (outside old before taken sink hands) (outside last final taken2 sink2 hands2) result.0
  ends_put words old new last before after final taken taken2 sink sink2 hands hands2 found said result text is says writes count puts = of_put puts
    where
      E : ℕ → Type 0
      E n = Ends (TheDue words (record { files = old; printed = taken }) ho hn) words (outside old before taken sink hands) (outside last final taken2 sink2 hands2) n

      to_say : ComesToSay (TheDue words (record { files = old; printed = taken }) ho hn) words (outside old before taken sink hands) (outside last final taken2 sink2 hands2) said.0 text
      to_say = comes_to_say words old new last before after final taken taken2 sink sink2 hands hands2 said.0 text found is says writes count

      of_put : PutsText taken taken2 sink sink2 hands hands2 said text result → Ends (TheDue words (record { files = old; printed = taken }) ho hn) words (outside old before taken sink hands) (outside last final taken2 sink2 hands2) result.0
      of_put (inl h) =
          let e : said.0 ≡ result.0 = ap (λ (s : Status). s.0) (sym h.0) in
          subst E e (Ends.said said.0 text to_say (record { printed = h.1; count = h.2; handed = h.3 }))
      of_put (inr (inl h)) =
          let e : 6 ≡ result.0 = ap (λ (s : Status). s.0) (sym h.0) in
          subst E e (Ends.put_failed said.0 text to_say (record { length = h.1.0; printed = h.1.1; risen = h.2; handed = h.3 }))
      of_put (inr (inr h)) =
          let e : 7 ≡ result.0 = ap (λ (s : Status). s.0) (sym h.0) in
          subst E e (Ends.memory (runs_out_then words old new last before after final taken taken2 sink sink2 hands hands2 found is writes count) (record { printed = h.1; count = h.2; handed = h.3 }))

  -- the write of the file that is due failed, or memory ran out there
  ends_unwritten : (words : Option Words) (old new last : Option Told) (before after final : ℕ) (taken : Option (List ℕ)) (sink : ℕ) (hands : List ℕ) (answer : Answer) (file : NewFile) (result : Status)
      → IsFound words old new before after ho hn (Said answer) → (due_of answer).written ≡ Some file → NotWritten (Some file) new last after final result
      → Ends (TheDue words (record { files = old; printed = taken }) ho hn) words (outside old before taken sink hands) (outside last final taken sink hands) result.0
  ends_unwritten words old new last before after final taken sink hands answer file result is has writes = of_write writes
    where
      E : ℕ → Type 0
      E n = Ends (TheDue words (record { files = old; printed = taken }) ho hn) words (outside old before taken sink hands) (outside last final taken sink hands) n

      of_write : ((result ≡ status 6) × WritesFile new last file.0 file.1 (Err faults.Failed) × HasRisen after final) ⊎ ((result ≡ status 7) × (last ≡ new) × (final ≡ after))
          → Ends (TheDue words (record { files = old; printed = taken }) ho hn) words (outside old before taken sink hands) (outside last final taken sink hands) result.0
      of_write (inl h) =
          let e : 6 ≡ result.0 = ap (λ (s : Status). s.0) (sym h.0) in
          let AtTold : Option Told → Type 0 = λ t. WritesFile t last file.0 file.1 (Err faults.Failed) in
          let AtCount : ℕ → Type 0 = λ n. HasRisen n final in
          subst E e (Ends.write_failed (due_of answer) file (is.0 taken) has (record { files = subst AtTold is.1 h.1; risen = subst AtCount is.2 h.2 }) (record { printed = refl; count = refl; handed = refl }))
      of_write (inr h) =
          let e : 7 ≡ result.0 = ap (λ (s : Status). s.0) (sym h.0) in
          subst E e (Ends.memory (RunsOut.no_fault (record { files = h.1 ∙ is.1; count = h.2 ∙ is.2 })) (record { printed = refl; count = refl; handed = refl }))

  with_file : (words : Option Words) (old new last : Option Told) (before after final : ℕ) (taken : Option (List ℕ)) (sink : ℕ) (hands : List ℕ) (answer : Answer) (file : Option NewFile) (result : Status)
      → IsFound words old new before after ho hn (Said answer) → (due_of answer).written ≡ file → NotWritten file new last after final result
      → Ends (TheDue words (record { files = old; printed = taken }) ho hn) words (outside old before taken sink hands) (outside last final taken sink hands) result.0
  with_file words old new last before after final taken sink hands answer None result is has writes = absurd writes
  with_file words old new last before after final taken sink hands answer (Some file) result is has writes = ends_unwritten words old new last before after final taken sink hands answer file result is has writes

  ends_write : (words : Option Words) (old new last : Option Told) (before after final : ℕ) (taken : Option (List ℕ)) (sink : ℕ) (hands : List ℕ) (found : Found) (result : Status)
      → IsFound words old new before after ho hn found → NotWritten (file_of found) new last after final result
      → Ends (TheDue words (record { files = old; printed = taken }) ho hn) words (outside old before taken sink hands) (outside last final taken sink hands) result.0
  ends_write words old new last before after final taken sink hands (Said answer) result is writes = with_file words old new last before after final taken sink hands answer (due_of answer).written result is refl writes
  ends_write words old new last before after final taken sink hands (ReadFault name) result is writes = absurd writes
  ends_write words old new last before after final taken sink hands Memory result is writes = absurd writes

  -- memory ran out before the text was made
  ends_memory : (words : Option Words) (old new : Option Told) (before after : ℕ) (taken : Option (List ℕ)) (sink : ℕ) (hands : List ℕ) (found : Found) → IsFound words old new before after ho hn found
      → Ends (TheDue words (record { files = old; printed = taken }) ho hn) words (outside old before taken sink hands) (outside new after taken sink hands) 7
  ends_memory words old new before after taken sink hands found is = Ends.memory (runs_out words old new before after taken taken sink sink hands hands found is) (record { printed = refl; count = refl; handed = refl })

  -- what was found, and how it was said
  pub ends_finished : (words : Option Words) (old new last : Option Told) (before after final : ℕ) (taken taken2 : Option (List ℕ)) (sink sink2 : ℕ) (hands hands2 : List ℕ) (found : Found) (result : Status)
      → IsFound words old new before after ho hn found → Finishes found (outside new after taken sink hands) (outside last final taken2 sink2 hands2) result
      → Ends (TheDue words (record { files = old; printed = taken }) ho hn) words (outside old before taken sink hands) (outside last final taken2 sink2 hands2) result.0
  ends_finished words old new last before after final taken taken2 sink sink2 hands hands2 found result is (Finishes.put due text says writes puts) =
      ends_put words old new last before after final taken taken2 sink sink2 hands hands2 found due result text is says writes.files writes.count puts
  ends_finished words old new last before after final taken taken2 sink sink2 hands hands2 found result is (Finishes.unwritten fails nothing) =
      let AtTaken : Option (List ℕ) → Type 0 = λ t. Ends (TheDue words (record { files = old; printed = taken }) ho hn) words (outside old before taken sink hands) (outside last final t sink2 hands2) result.0 in
      let AtSink : ℕ → Type 0 = λ s. Ends (TheDue words (record { files = old; printed = taken }) ho hn) words (outside old before taken sink hands) (outside last final taken s hands2) result.0 in
      let AtHands : List ℕ → Type 0 = λ h. Ends (TheDue words (record { files = old; printed = taken }) ho hn) words (outside old before taken sink hands) (outside last final taken sink h) result.0 in
      subst AtTaken (sym nothing.printed) (subst AtSink (sym nothing.count) (subst AtHands (sym nothing.handed) (ends_write words old new last before after final taken sink hands found result is fails)))
  ends_finished words old new last before after final taken taken2 sink sink2 hands hands2 found result is (Finishes.memory seven kept nothing) =
      let AtFiles : Option Told → Type 0 = λ f. Ends (TheDue words (record { files = old; printed = taken }) ho hn) words (outside old before taken sink hands) (outside f final taken2 sink2 hands2) result.0 in
      let AtCount : ℕ → Type 0 = λ n. Ends (TheDue words (record { files = old; printed = taken }) ho hn) words (outside old before taken sink hands) (outside new n taken2 sink2 hands2) result.0 in
      let AtTaken : Option (List ℕ) → Type 0 = λ t. Ends (TheDue words (record { files = old; printed = taken }) ho hn) words (outside old before taken sink hands) (outside new after t sink2 hands2) result.0 in
      let AtSink : ℕ → Type 0 = λ s. Ends (TheDue words (record { files = old; printed = taken }) ho hn) words (outside old before taken sink hands) (outside new after taken s hands2) result.0 in
      let AtHands : List ℕ → Type 0 = λ h. Ends (TheDue words (record { files = old; printed = taken }) ho hn) words (outside old before taken sink hands) (outside new after taken sink h) result.0 in
      let AtStatus : Status → Type 0 = λ s. Ends (TheDue words (record { files = old; printed = taken }) ho hn) words (outside old before taken sink hands) (outside new after taken sink hands) s.0 in
      let ended : AtStatus (status 7) = ends_memory words old new before after taken sink hands found is in
      subst AtFiles (sym kept.files) (subst AtCount (sym kept.count) (subst AtTaken (sym nothing.printed) (subst AtSink (sym nothing.count) (subst AtHands (sym nothing.handed) (subst AtStatus (sym seven) ended)))))

  comes_as : {P Q : Due → Type 0} (words : Option Words) (old new : Outside) (n : ℕ) (text : List ℕ) → ((due : Due) → P due → Q due) → ComesToSay P words old new n text → ComesToSay Q words old new n text
  comes_as words old new _ _ as_due (ComesToSay.answer due is went) = ComesToSay.answer due (as_due due is) went
  comes_as words old new _ _ as_due (ComesToSay.read_fault name fails) = ComesToSay.read_fault name fails

  out_as : {P Q : Due → Type 0} (words : Option Words) (old new : Outside) → ((due : Due) → P due → Q due) → RunsOut P words old new → RunsOut Q words old new
  out_as words old new as_due (RunsOut.no_fault went) = RunsOut.no_fault went
  out_as words old new as_due (RunsOut.written due is went) = RunsOut.written due (as_due due is) went
  out_as words old new as_due (RunsOut.read_fault name fails) = RunsOut.read_fault name fails

  -- what is known of the due is known of the end
  ends_as : {P Q : Due → Type 0} (words : Option Words) (old new : Outside) (n : ℕ) → ((due : Due) → P due → Q due) → Ends P words old new n → Ends Q words old new n
  ends_as words old new _ as_due (Ends.said n text says prints) = Ends.said n text (comes_as words old new n text as_due says) prints
  ends_as words old new _ as_due (Ends.put_failed n text says front) = Ends.put_failed n text (comes_as words old new n text as_due says) front
  ends_as words old new _ as_due (Ends.write_failed due file is has fails nothing) = Ends.write_failed due file (as_due due is) has fails nothing
  ends_as words old new _ as_due (Ends.memory out nothing) = Ends.memory (out_as words old new as_due out) nothing

  pub ends_as_due : (words : Option Words) (old new : Outside) (n : ℕ) → Ends (TheDue words old.tells ho hn) words old new n → EndsAsDue words old new n
  ends_as_due words old new n ends = ends_as words old new n (λ due is. is.answers) ends

  pub ends_as_read : (words : Option Words) (old new : Outside) (n : ℕ) → Ends (TheDue words old.tells ho hn) words old new n → EndsAsRead words old new ho hn n
  ends_as_read words old new n ends = ends_as words old new n (λ due is. is.read) ends

  pub ends_as_only_due : (words : Option Words) (old new : Outside) (n : ℕ) → Ends (TheDue words old.tells ho hn) words old new n → EndsAsOnlyDue words old new n
  ends_as_only_due words old new n ends told other answers = ends_as words old new n (λ due is. is.only told other answers) ends

  -- the status of a fault never says clear, nor that something was found
  fault_or_clear : (words : Option Words) (n : ℕ) → 5 ≤ n → SaysClear words n → ⊥
  fault_or_clear None n fault clear = clear
  fault_or_clear (Some (Check dir workers)) n fault zero = omega (arith, fault, zero)
  fault_or_clear (Some (Certify dir path)) n fault zero = omega (arith, fault, zero)
  fault_or_clear (Some (Recheck dir path)) n fault zero = omega (arith, fault, zero)
  fault_or_clear (Some (Story dir)) n fault zero = omega (arith, fault, zero)
  fault_or_clear (Some (Make seed size workers)) n fault zero = omega (arith, fault, zero)

  one_or_two : (n : ℕ) → 5 ≤ n → (n ≡ 1) ⊎ (n ≡ 2) → ⊥
  one_or_two n fault (inl one) = omega (arith, fault, one)
  one_or_two n fault (inr two) = omega (arith, fault, two)

  fault_or_found : (words : Option Words) (n : ℕ) → 5 ≤ n → SaysFound words n → ⊥
  fault_or_found None n fault found = found
  fault_or_found (Some (Check dir workers)) n fault found = one_or_two n fault found
  fault_or_found (Some (Certify dir path)) n fault found = one_or_two n fault found
  fault_or_found (Some (Recheck dir path)) n fault found = one_or_two n fault found
  fault_or_found (Some (Story dir)) n fault found = one_or_two n fault found
  fault_or_found (Some (Make seed size workers)) n fault found = found

  comes_to_safe : (words : Option Words) (old new : Outside) (n : ℕ) (text : List ℕ) → ComesToSay (TheDue words old.tells ho hn) words old new n text → SaysClear words n → IsSafe words old.tells ho hn
  comes_to_safe words old new _ _ (ComesToSay.answer due is went) clear = is.safe clear
  comes_to_safe words old new _ _ (ComesToSay.read_fault name fails) clear = absurd (fault_or_clear words 5 (omega arith) clear)

  pub safe_end : (words : Option Words) (old new : Outside) (n : ℕ) → Ends (TheDue words old.tells ho hn) words old new n → SaysClear words n → IsSafe words old.tells ho hn
  safe_end words old new _ (Ends.said n text says prints) clear = comes_to_safe words old new n text says clear
  safe_end words old new _ (Ends.put_failed n text says front) clear = absurd (fault_or_clear words 6 (omega arith) clear)
  safe_end words old new _ (Ends.write_failed due file is has fails nothing) clear = absurd (fault_or_clear words 6 (omega arith) clear)
  safe_end words old new _ (Ends.memory out nothing) clear = absurd (fault_or_clear words 7 (omega arith) clear)

  comes_to_full : (words : Option Words) (old new : Outside) (n : ℕ) (text : List ℕ) → ComesToSay (TheDue words old.tells ho hn) words old new n text → SaysFound words n → IsFullReport words old.tells ho hn n text
  comes_to_full words old new _ _ (ComesToSay.answer due is went) found = is.full found
  comes_to_full words old new _ _ (ComesToSay.read_fault name fails) found = absurd (fault_or_found words 5 (omega arith) found)

  pub full_end : (words : Option Words) (old new : Outside) (n : ℕ) → Ends (TheDue words old.tells ho hn) words old new n → SaysFound words n → PrintsFullReport words old new ho hn n
  full_end words old new _ (Ends.said n text says prints) found = record { text = text; prints = prints; full = comes_to_full words old new n text says found }
  full_end words old new _ (Ends.put_failed n text says front) found = absurd (fault_or_found words 6 (omega arith) found)
  full_end words old new _ (Ends.write_failed due file is has fails nothing) found = absurd (fault_or_found words 6 (omega arith) found)
  full_end words old new _ (Ends.memory out nothing) found = absurd (fault_or_found words 7 (omega arith) found)

-- nothing more was heard meanwhile
pub ends_heard : (ho hm hn : List Entry) (words : Option Words) (old new : Outside) (n : ℕ) → hn ≡ hm
    → Ends (TheDue words old.tells ho hm) words old new n → Ends (TheDue words old.tells ho hn) words old new n
ends_heard ho hm hn words old new n same ends =
    let Heard : List Entry → Type 0 = λ h. Ends (TheDue words old.tells ho h) words old new n in
    subst Heard (sym same) ends
