-- Wherever the word `clear` was printed, the app is safe.
use Rattle.std.proofs.Common.{◌≡◌, ℕ, suc, zero, ◌<◌, List, [], ◌∷◌, ◌++◌, take, drop, Option, Some, None, Result, codes, refl, sym, ◌∙◌, ap, subst, arith, lit<, append-nil}
use Rattle.std.specs.Option.{option_map}
use Rattle.std.proofs.lemmas.Option.{same_Some}
use Rattle.vet_base.specs.declared.outside.FileFault.{FileFault}
use Rattle.heard_files.specs.Outside.{Entry}
use Rattle.desk_words.specs.Words.{Words, Check, Certify, Recheck, Story, Make}
use Rattle.cert_report.specs.declared.refusal.CertRefusal.{CertRefusal}
use Rattle.cert_report.specs.Refusal.{refusal_text}
use Rattle.verdict.specs.declared.outcome.Outcome.{Outcome}
use Rattle.verdict.specs.declared.outcome.Outcome.TheVariants.{Clear, Flagged, Undecided, Refused}
use Rattle.verdict.specs.declared.outcome.Rechecked.TheVariants as rechecks
use Rattle.verdict.specs.declared.parts.Parts.{Parts}
use Rattle.verdict.specs.Outcome.{status_of}
use Rattle.verdict_report.specs.Printed.{counted_line}
use Rattle.verdict_report.specs.Report.{report_text, flagged_text, undecided_text, refused_text}
use Rattle.app_folder.specs.Due.{Due}
use Rattle.app_folder.specs.Folder.{Refusal}
use Rattle.app_folder.specs.FolderDue.{FolderDue, Checks}
use Rattle.app_folder.specs.Reading.{GathersTold}
use Rattle.app_folder.specs.Outside.{Tells, Outside}
use Rattle.vetting_desk.specs.Answer.{Answers, SaysClear, TellsClear, IsSafe}
use Rattle.vetting_desk.specs.Due.{read_fault_text, absent_text, storied_text, too_long_text}
use Rattle.vetting_desk.specs.Found.{TheDue}
use Rattle.vetting_desk.specs.PartsDue.{Certifies, GivesTold, Rechecks, RechecksBy, Retells}
use Rattle.flow_story.specs.declared.line.StoryLine.{StoryLine}
use Rattle.vetting_desk.specs.Top.{ComesToSay, Ends, HandsClear, TakesClear}

-- The third byte of `clear` is an `e`, which is that of no other text.
abbrev first : List ℕ → ℕ
first [] = 0
first (b ∷ bytes) = b

abbrev third : List ℕ → ℕ
third text = first (drop 2 text)

below : (n m : ℕ) → n < m → n ≡ m → ⊥
below n m less same = omega (arith, less, same)

above : (n m : ℕ) → m < n → n ≡ m → ⊥
above n m less same = omega (arith, less, same)

begun : (rest text : List ℕ) → text ≡ codes "clear" ++ rest → third text ≡ 101
begun rest text same = ap third same

tells_third : (words : Option Words) (text : List ℕ) → TellsClear words text → third text ≡ 101
tells_third None text tells = absurd tells
tells_third (Some (Check dir n)) text tells = begun tells.0 text tells.1
tells_third (Some (Certify dir path)) text tells = begun tells.0 text tells.1
tells_third (Some (Recheck dir path)) text tells = begun tells.0 text tells.1
tells_third (Some (Story dir)) text tells = begun tells.0 text tells.1
tells_third (Some (Make seed size n)) text tells = absurd tells

clear_outcome : (outcome : Outcome) → third (report_text outcome) ≡ 101 → status_of outcome ≡ 0
unfolding flagged_text undecided_text refused_text counted_line
clear_outcome Clear same = refl
clear_outcome (Flagged findings) same = absurd (below 97 101 (lit< tt) same)
clear_outcome (Undecided causes findings) same = absurd (below 100 101 (lit< tt) same)
clear_outcome (Refused part reason) same = absurd (above 102 101 (lit< tt) same)

no_refusal : (refusal : CertRefusal) → third (refusal_text refusal) ≡ 101 → ⊥
unfolding refusal_text
no_refusal refusal same = above 114 101 (lit< tt) same

no_absence : (path : List ℕ) → third (absent_text path) ≡ 101 → ⊥
unfolding absent_text
no_absence path same = above 102 101 (lit< tt) same

no_length : (path : List ℕ) → third (too_long_text path) ≡ 101 → ⊥
unfolding too_long_text
no_length path same = above 102 101 (lit< tt) same

no_fault : (name : List ℕ) → third (read_fault_text name) ≡ 101 → ⊥
unfolding read_fault_text
no_fault name same = below 97 101 (lit< tt) same

clear_checked : (parts : Parts) (due : Due) → Checks parts due → third due.text ≡ 101 → due.status ≡ 0
clear_checked parts _ (Checks.report outcome verdict) same = clear_outcome outcome same

clear_certified : (path : List ℕ) (parts : Parts) (due : Due) → Certifies path parts due → third due.text ≡ 101 → due.status ≡ 0
clear_certified path parts _ (Certifies.no_table outcome judgement) same = clear_outcome outcome same
clear_certified path parts _ (Certifies.table outcome table bytes judgement cert) same = clear_outcome outcome same

clear_by : (bytes : List ℕ) (parts : Parts) (due : Due) → RechecksBy bytes parts due → third due.text ≡ 101 → due.status ≡ 0
clear_by bytes parts _ (RechecksBy.unread fault first_fault) same = absurd (no_refusal _ same)
clear_by bytes parts _ (RechecksBy.other_digest set digest rows cert other) same = absurd (no_refusal _ same)
clear_by bytes parts _ (RechecksBy.judged set rows (rechecks.Refused part reason) cert judged) same = clear_outcome (Refused part reason) same
clear_by bytes parts _ (RechecksBy.judged set rows rechecks.Unasked cert judged) same = absurd (no_refusal _ same)
clear_by bytes parts _ (RechecksBy.judged set rows (rechecks.Defect defect) cert judged) same = absurd (no_refusal _ same)
clear_by bytes parts _ (RechecksBy.judged set rows (rechecks.By outcome) cert judged) same = clear_outcome outcome same

clear_rechecked : (path : List ℕ) (Gives : Result (List ℕ) FileFault → Type 0) (parts : Parts) (due : Due) → Rechecks path Gives parts due → third due.text ≡ 101 → due.status ≡ 0
clear_rechecked path Gives parts _ (Rechecks.absent holds) same = absurd (no_absence path same)
clear_rechecked path Gives parts _ (Rechecks.too_long holds) same = absurd (no_length path same)
clear_rechecked path Gives parts _ (Rechecks.read bytes due holds short by) same = clear_by bytes parts due by same

-- the report stands first where stories stand behind it
clear_storied_text : (outcome : Outcome) (stories : Option (List (List StoryLine))) → third (storied_text outcome stories) ≡ 101 → status_of outcome ≡ 0
unfolding flagged_text undecided_text refused_text counted_line
clear_storied_text outcome None same = clear_outcome outcome same
clear_storied_text Clear (Some stories) same = refl
clear_storied_text (Flagged findings) (Some stories) same = absurd (below 97 101 (lit< tt) same)
clear_storied_text (Undecided causes findings) (Some stories) same = absurd (below 100 101 (lit< tt) same)
clear_storied_text (Refused part reason) (Some stories) same = absurd (above 102 101 (lit< tt) same)

clear_storied : (parts : Parts) (due : Due) → Retells parts due → third due.text ≡ 101 → due.status ≡ 0
clear_storied parts _ (Retells.stories outcome stories tells) same = clear_storied_text outcome stories same

clear_folder : (PartsDue : Parts → Due → Type 0) (Gives : Result Parts Refusal → Type 0) (due : Due)
    → ((parts : Parts) (d : Due) → PartsDue parts d → third d.text ≡ 101 → d.status ≡ 0)
    → FolderDue PartsDue Gives due → third due.text ≡ 101 → due.status ≡ 0
clear_folder PartsDue Gives _ of_parts (FolderDue.refused refusal gathers) same = clear_outcome (Refused refusal.0 refusal.1) same
clear_folder PartsDue Gives _ of_parts (FolderDue.given parts due gathers is) same = of_parts parts due is same

-- a due text that tells it has the status that says it
clear_due : (words : Option Words) (tells : Tells) (due : Due) (text : List ℕ) → Answers words tells due → TellsClear words text
    → third due.text ≡ 101 → SaysClear words due.status
clear_due words tells _ text (Answers.no_command e) told same =
    absurd (subst (λ (w : Option Words). TellsClear w text) e told)
clear_due words tells _ text (Answers.check dir n due e is) told same =
    subst (λ (w : Option Words). SaysClear w due.status) (sym e) (clear_folder Checks (GathersTold tells.files dir) due clear_checked is same)
clear_due words tells _ text (Answers.certify dir path due e is) told same =
    subst (λ (w : Option Words). SaysClear w due.status) (sym e) (clear_folder (Certifies path) (GathersTold tells.files dir) due (clear_certified path) is same)
clear_due words tells _ text (Answers.recheck dir path due e is) told same =
    subst (λ (w : Option Words). SaysClear w due.status) (sym e) (clear_folder (Rechecks path (GivesTold tells.files path)) (GathersTold tells.files dir) due (clear_rechecked path (GivesTold tells.files path)) is same)
clear_due words tells _ text (Answers.story dir due e is) told same =
    subst (λ (w : Option Words). SaysClear w due.status) (sym e) (clear_folder Retells (GathersTold tells.files dir) due clear_storied is same)
clear_due words tells _ text (Answers.make seed size n judged e is) told same =
    absurd (subst (λ (w : Option Words). TellsClear w text) e told)

abbrev behind : List ℕ → List ℕ
behind [] = []
behind (b ∷ bytes) = bytes

cancel : (front a b : List ℕ) → front ++ a ≡ front ++ b → a ≡ b
cancel [] a b same = same
cancel (c ∷ front) a b same = cancel front a b (ap behind same)

-- what was taken is what was put behind what had been taken
taken_is : (before text put : List ℕ) (old new : Option (List ℕ)) → old ≡ Some before → new ≡ Some (before ++ text)
    → new ≡ option_map (λ taken. taken ++ put) old → text ≡ put
taken_is before text put old new old_is new_is puts =
    cancel before text put (same_Some (before ++ text) (before ++ put) (sym new_is ∙ puts ∙ ap (option_map (λ taken. taken ++ put)) old_is))

nothing_taken : (before text : List ℕ) (old new : Option (List ℕ)) → old ≡ Some before → new ≡ Some (before ++ text) → new ≡ old → third text ≡ 101 → ⊥
nothing_taken before text old new old_is new_is same told =
    let none : before ++ text ≡ before = same_Some (before ++ text) before (sym new_is ∙ same ∙ old_is) in
    let empty : text ≡ [] = cancel before text [] (none ∙ sym (append-nil before)) in
    below 0 101 (lit< tt) (sym (ap third empty) ∙ told)

-- where nothing was printed nothing tells it
pub not_clear : (words : Option Words) (old new : Outside) → new.tells.printed ≡ old.tells.printed → TakesClear words old new → ⊥
not_clear words old new same takes =
    nothing_taken takes.before takes.text old.tells.printed new.tells.printed takes.old_is takes.new_is same (tells_third words takes.text takes.tells)

-- nor where nothing was handed over
pub not_handed : (words : Option Words) (old new : Outside) → new.handed ≡ old.handed → HandsClear words old new → ⊥
not_handed words old new same hands =
    let none : old.handed ++ hands.text ≡ old.handed = sym hands.handed ∙ same in
    let empty : hands.text ≡ [] = cancel old.handed hands.text [] (none ∙ sym (append-nil old.handed)) in
    below 0 101 (lit< tt) (sym (ap third empty) ∙ tells_third words hands.text hands.tells)

-- a front that has the third byte has it of the whole
whole_third : (n : ℕ) (text : List ℕ) → third (take n text) ≡ 101 → third text ≡ 101
whole_third zero text same = absurd (below 0 101 (lit< tt) same)
whole_third (suc zero) [] same = same
whole_third (suc zero) (a ∷ text) same = absurd (below 0 101 (lit< tt) same)
whole_third (suc (suc zero)) [] same = same
whole_third (suc (suc zero)) (a ∷ []) same = same
whole_third (suc (suc zero)) (a ∷ b ∷ text) same = absurd (below 0 101 (lit< tt) same)
whole_third (suc (suc (suc n))) [] same = same
whole_third (suc (suc (suc n))) (a ∷ []) same = same
whole_third (suc (suc (suc n))) (a ∷ b ∷ []) same = same
whole_third (suc (suc (suc n))) (a ∷ b ∷ c ∷ text) same = same

-- so much was heard of the files before and after
module _ (ho hn : List Entry) where
  -- the text that was to be said tells it
  clear_said : (words : Option Words) (old new : Outside) (n : ℕ) (said text : List ℕ) → ComesToSay (TheDue words old.tells ho hn) words old new n said
      → TellsClear words text → third said ≡ 101 → IsSafe words old.tells ho hn
  clear_said words old new _ _ text (ComesToSay.answer due is went) told same =
      is.safe (clear_due words old.tells due text is.answers told same)
  clear_said words old new _ _ text (ComesToSay.read_fault name fails) told same = absurd (no_fault name same)

  pub clear_end : (words : Option Words) (old new : Outside) (n : ℕ) → Ends (TheDue words old.tells ho hn) words old new n → TakesClear words old new → IsSafe words old.tells ho hn
  clear_end words old new _ (Ends.said n said says prints) takes =
      let same : takes.text ≡ said = taken_is takes.before takes.text said old.tells.printed new.tells.printed takes.old_is takes.new_is prints.printed in
      clear_said words old new n said takes.text says takes.tells (sym (ap third same) ∙ tells_third words takes.text takes.tells)
  clear_end words old new _ (Ends.put_failed n said says front) takes =
      let same : takes.text ≡ take front.length said = taken_is takes.before takes.text (take front.length said) old.tells.printed new.tells.printed takes.old_is takes.new_is front.printed in
      clear_said words old new n said takes.text says takes.tells (whole_third front.length said (sym (ap third same) ∙ tells_third words takes.text takes.tells))
  clear_end words old new _ (Ends.write_failed due file is has fails nothing) takes = absurd (not_clear words old new nothing.printed takes)
  clear_end words old new _ (Ends.memory out nothing) takes = absurd (not_clear words old new nothing.printed takes)

  clear_handed : (words : Option Words) (old new : Outside) (n : ℕ) (said : List ℕ) → ComesToSay (TheDue words old.tells ho hn) words old new n said
      → HandsClear words old new → new.handed ≡ old.handed ++ said → IsSafe words old.tells ho hn
  clear_handed words old new n said says hands puts =
      let same : hands.text ≡ said = cancel old.handed hands.text said (sym hands.handed ∙ puts) in
      clear_said words old new n said hands.text says hands.tells (sym (ap third same) ∙ tells_third words hands.text hands.tells)

  pub handed_end : (words : Option Words) (old new : Outside) (n : ℕ) → Ends (TheDue words old.tells ho hn) words old new n → HandsClear words old new → IsSafe words old.tells ho hn
  handed_end words old new _ (Ends.said n said says prints) hands = clear_handed words old new n said says hands prints.handed
  handed_end words old new _ (Ends.put_failed n said says front) hands = clear_handed words old new n said says hands front.handed
  handed_end words old new _ (Ends.write_failed due file is has fails nothing) hands = absurd (not_handed words old new nothing.handed hands)
  handed_end words old new _ (Ends.memory out nothing) hands = absurd (not_handed words old new nothing.handed hands)
