-- What is heard, and handed over.
use Rattle.std.proofs.Common.{◌≡◌, ℕ, ◌≤◌, ◌<◌, List, [], ◌∷◌, ◌++◌, length, length-append, map, Some, Ok, Err, refl, sym, ap, ◌∙◌, arith}
use Rattle.vet_base.specs.declared.outside.FileFault.{FileFault}
use Rattle.heard_files.specs.Outside.{Entry, answer_of}
use Rattle.vet_base.proofs.Results.{ok_or_err}
use Rattle.form_fields.specs.declared.told.FormFault.{FormFault}
use Rattle.verdict.specs.declared.outcome.Part.{Part}
use Rattle.verdict.specs.declared.outcome.Part.TheVariants.{Manifest}
use Rattle.verdict.specs.declared.outcome.Reason.{Reason}
use Rattle.verdict.specs.declared.outcome.Reason.TheVariants.{Absent, Form}
use Rattle.verdict.specs.declared.parts.Parts.{Parts}
use Rattle.app_folder.specs.Due.{Due}
use Rattle.app_folder.specs.Folder.{Refusal}
use Rattle.app_folder.specs.FolderDue.{FolderDue, Checks}
use Rattle.app_folder.specs.Heard.{GaveParts, GaveRefusal, GaveUpTo, Gave, entries_of, read_of}
use Rattle.app_folder.specs.Outside.{Outside}
use Rattle.desk_words.specs.Words.{Check}
use Rattle.vetting_desk.specs.Answer.{DueByReads}
use Rattle.vetting_desk.specs.Top.{ComesToSay, Ends}
use Rattle.run_witness.specs.Hearings.{HearingsTell}

-- nothing stands behind itself with more
no_more : {A : Type 0} (before : List A) (x : A) (more : List A) → before ++ x ∷ more ≡ before → ⊥
no_more before x more same =
    let whole = length-append before (x ∷ more) in
    let as_long = ap length same in
    omega (arith, whole, as_long)

abbrev first : Entry → List Entry → Entry
first none [] = none
first none (entry ∷ more) = entry

unread : (before : List Entry) (dir : List ℕ) (parts : Parts) → GaveParts before before dir parts → ⊥
unread before dir parts gave =
    let whole = length-append (before ++ entries_of dir parts) gave.more in
    let front = length-append before (entries_of dir parts) in
    let as_long = ap length gave.heard in
    omega (arith, whole, front, as_long)

-- up to a file that is refused more was heard
up_to_more : (parts : List Part) (old new : List Entry) (dir : List ℕ) (refusal : Refusal) → GaveUpTo parts old new dir refusal → length old < length new
up_to_more parts old new dir refusal gave =
    let reads : List Entry = map (λ (file : Part × List ℕ). read_of dir file.0 (Ok file.1)) gave.files in
    let last : List Entry = read_of dir refusal.0 (Err gave.fault) ∷ [] in
    let whole = length-append old (reads ++ last) in
    let front = length-append reads last in
    let as_long = ap length gave.heard in
    omega (arith, whole, front, as_long)

unrefused : (before : List Entry) (dir : List ℕ) (refusal : Refusal) → GaveRefusal before before dir refusal → ⊥
unrefused before dir _ (GaveRefusal.no_manifest refusal gave) =
    let more = up_to_more (Manifest ∷ []) before before dir refusal gave in
    omega (arith, more)
unrefused before dir _ (GaveRefusal.bad_manifest text fault heard form) = no_more before (read_of dir Manifest (Ok text)) [] (sym heard)
unrefused before dir _ (GaveRefusal.no_other text says refusal form gave) =
    let more = up_to_more _ (before ++ read_of dir Manifest (Ok text) ∷ []) before dir refusal gave in
    let front = length-append before (read_of dir Manifest (Ok text) ∷ []) in
    omega (arith, more, front)

abbrev behind : List Entry → List Entry
behind [] = []
behind (entry ∷ more) = more

cancel : (front a b : List Entry) → front ++ a ≡ front ++ b → a ≡ b
cancel [] a b same = same
cancel (entry ∷ front) a b same = cancel front a b (ap behind same)

-- one read that gave bytes is none that gave a fault
one_read : (dir text : List ℕ) (files : List (Part × List ℕ)) (part : Part) (fault : FileFault)
    → read_of dir Manifest (Ok text) ∷ [] ≡ map (λ (file : Part × List ℕ). read_of dir file.0 (Ok file.1)) files ++ read_of dir part (Err fault) ∷ [] → ⊥
one_read dir text [] part fault same = ok_or_err (Ok text) text fault refl (ap (λ (es : List Entry). (first (read_of dir Manifest (Ok text)) es).2) same)
one_read dir text (file ∷ files) part fault same =
    let reads : List Entry = map (λ (f : Part × List ℕ). read_of dir f.0 (Ok f.1)) files in
    let whole = length-append reads (read_of dir part (Err fault) ∷ []) in
    let as_long = ap length same in
    omega (arith, whole, as_long)

not_absent : (fault : FormFault) → ◌≡◌ {A = Reason} (Form fault) Absent → ⊥
not_absent fault same = cc

there_at : (before new : List Entry) (dir text : List ℕ) (refusal : Refusal) → refusal ≡ (Manifest, Absent) → new ≡ before ++ read_of dir Manifest (Ok text) ∷ []
    → GaveRefusal before new dir refusal → ⊥
there_at before new dir text _ same heard (GaveRefusal.no_manifest refusal gave) =
    one_read dir text gave.files refusal.0 gave.fault (cancel before _ _ (sym heard ∙ gave.heard))
there_at before new dir text _ same heard (GaveRefusal.bad_manifest seen fault read form) = not_absent fault (ap (λ (r : Refusal). r.1) same)
there_at before new dir text _ same heard (GaveRefusal.no_other seen says refusal form gave) =
    let more = up_to_more _ (before ++ read_of dir Manifest (Ok seen) ∷ []) new dir refusal gave in
    let front = length-append before (read_of dir Manifest (Ok seen) ∷ []) in
    let whole = length-append before (read_of dir Manifest (Ok text) ∷ []) in
    let as_long = ap length heard in
    omega (arith, more, front, whole, as_long)

-- where nothing was read nothing is due to a folder
no_due : (dir : List ℕ) (before : List Entry) (due : Due) → FolderDue Checks (Gave before before dir []) due → ⊥
no_due dir before _ (FolderDue.refused refusal gave) = unrefused before dir refusal gave
no_due dir before _ (FolderDue.given parts due gave is) = unread before dir parts gave.0

module _ (dir : List ℕ) (workers : ℕ) (old new : Outside) (before : List Entry) where
  says_nothing : (n : ℕ) (text : List ℕ) → n ≤ 3
      → ComesToSay (DueByReads (Some (Check dir workers)) before before) (Some (Check dir workers)) old new n text → ⊥
  says_nothing _ _ low (ComesToSay.answer due is writes) = no_due dir before due is
  says_nothing _ _ low (ComesToSay.read_fault name fails) = omega (arith, low)

  no_read : (n : ℕ) → n ≤ 3 → Ends (DueByReads (Some (Check dir workers)) before before) (Some (Check dir workers)) old new n → ⊥
  no_read _ low (Ends.said n text says prints) = says_nothing n text low says
  no_read _ low (Ends.put_failed n text says front) = omega (arith, low)
  no_read _ low (Ends.write_failed due file is has fails nothing) = omega (arith, low)
  no_read _ low (Ends.memory out nothing) = omega (arith, low)

pub hearings_tell : HearingsTell
hearings_tell = record {
  heard = λ before name limit answer same. no_more before _ [] same;
  own = λ name limit answer entry same.
      let e : (name, limit, answer_of answer) ≡ entry = ap (first entry) same in
      (ap (λ (x : Entry). x.0) e, ap (λ (x : Entry). x.1) e, ap (λ (x : Entry). x.2) e);
  handed = λ b bytes same. no_more [] b bytes same;
  unread = unread;
  unrefused = unrefused;
  there = λ before dir text gave. there_at before (before ++ read_of dir Manifest (Ok text) ∷ []) dir text (Manifest, Absent) refl refl gave;
  no_read = λ dir workers old new before n low ends. no_read dir workers old new before n low ends;
  printed = λ old new b text prints same. no_more old.handed b text (sym prints.handed ∙ same);
  front = λ old new b text prints same. no_more old.handed b text (sym prints.handed ∙ same);
}
