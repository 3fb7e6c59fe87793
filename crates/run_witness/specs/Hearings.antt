-- What is heard of files and handed to a sink. Behind each fact stands what a slip would do.
use Rattle.std.specs.Prelude.{◌≡◌, ℕ, ◌≤◌, List, [], ◌∷◌, ◌++◌, Some, Result, Ok, Err, Vec}
use Rattle.std.specs.declared.alloc.Global.{Global}
use Rattle.vet_base.specs.declared.outside.FileFault.{FileFault}
use Rattle.vet_base.specs.declared.outside.PutFault.TheVariants.{Failed}
use Rattle.heard_files.specs.Outside.{Entry, answer_of, heard_after, handed_after}
use Rattle.verdict.specs.declared.outcome.Part.TheVariants.{Manifest}
use Rattle.verdict.specs.declared.outcome.Reason.TheVariants.{Absent}
use Rattle.verdict.specs.declared.parts.Parts.{Parts}
use Rattle.app_folder.specs.Folder.{Refusal}
use Rattle.app_folder.specs.Heard.{GaveParts, GaveRefusal, read_of}
use Rattle.app_folder.specs.Outside.{Outside}
use Rattle.desk_words.specs.Words.{Check}
use Rattle.vetting_desk.specs.Top.{EndsAsRead, Prints, PrintsFront}

pub record HearingsTell : Type 0 where
  -- each read is heard, whether it gave bytes or none (else files would forget it)
  pub heard : (before : List Entry) (name : List ℕ) (limit : ℕ) (answer : Result (Vec ℕ Global) FileFault) →
      heard_after before name limit answer ≡ before →
      ⊥
  -- with its name (else another file's), its most bytes (else any file would be too long) and what it gave (else without
  -- its bytes, or a file as absent)
  pub own : (name : List ℕ) (limit : ℕ) (answer : Result (Vec ℕ Global) FileFault) (entry : Entry) →
      heard_after [] name limit answer ≡ entry ∷ [] →
      (name ≡ entry.0) × (limit ≡ entry.1) × (answer_of answer ≡ entry.2)
  -- what was handed over is not forgotten, though the put failed
  pub handed : (b : ℕ) (bytes : List ℕ) → handed_after [] (b ∷ bytes) (Err Failed) ≡ [] → ⊥
  -- where nothing more was heard no read gave an app (else any app would do), nor one that is refused
  pub unread : (before : List Entry) (dir : List ℕ) (parts : Parts) → GaveParts before before dir parts → ⊥
  pub unrefused : (before : List Entry) (dir : List ℕ) (refusal : Refusal) → GaveRefusal before before dir refusal → ⊥
  -- a manifest that a read gave is not absent (else every app's)
  pub there : (before : List Entry) (dir text : List ℕ) →
      GaveRefusal before (before ++ read_of dir Manifest (Ok text) ∷ []) dir (Manifest, Absent) →
      ⊥
  -- a run that read nothing neither judges an app nor refuses one (else always as absent)
  pub no_read : (dir : List ℕ) (workers : ℕ) (old new : Outside) (before : List Entry) (n : ℕ) →
      n ≤ 3 →
      EndsAsRead (Some (Check dir workers)) old new before before n →
      ⊥
  -- a text that was printed was handed over (else another one could have been)
  pub printed : (old new : Outside) (b : ℕ) (text : List ℕ) → Prints (b ∷ text) old new → new.handed ≡ old.handed → ⊥
  pub front : (old new : Outside) (b : ℕ) (text : List ℕ) →
      PrintsFront (b ∷ text) old new →
      new.handed ≡ old.handed →
      ⊥
