-- What the folder of an office gives: a desk, or the first refusal.
use Rattle.std.specs.Prelude.{◌≡◌, ◌≢◌, ◌<◌, ◌≤◌, ℕ, List, [], ◌∷◌, ◌++◌, length, Option, Some, None, Result, Ok, Err, Vec, IsTrue, IsSomeAnd, is_some, codes}
use Rattle.std.specs.declared.alloc.Global.{Global}
use Rattle.sha2.specs.Sha256.{sha256}
use Rattle.vet_base.specs.Outside.{HasRisen, Told, held_by}
use Rattle.vet_base.specs.declared.outside.FailedCall.TheVariants.{Read}
use Rattle.heard_files.specs.Outside.{Entry}
use Rattle.store_lists.specs.declared.lists.StoreLists.{StoreLists as SaidLists}
use Rattle.store_office.specs.declared.office.Office.{Office as SaidOffice}
use Rattle.desk_serving.specs.declared.judge.Desk.{Desk}
use Rattle.form_fields.specs.declared.told.FormFault.{FormFault}
use Rattle.form_fields.specs.declared.told.FormFault.TheVariants as forms
use Rattle.form_fields.specs.Form.{IsForm, FirstFormFault}
use Rattle.store_lists.specs.Lists.{lists_form}
use Rattle.office_forms.specs.Office.{office_form}
use Rattle.desk_service.specs.declared.lists_judge.OfficeLists.{OfficeLists}
use Rattle.desk_service.specs.declared.opening.Paper.{Paper}
use Rattle.desk_service.specs.declared.opening.Paper.TheVariants.{Office, Lists}
use Rattle.verdict_report.specs.declared.unfit.Unfit.{Unfit}
use Rattle.verdict_report.specs.declared.unfit.Unfit.TheVariants.{Absent, TooLong, Form}
use Rattle.desk_service.specs.declared.opening.Halt.{Halt}
use Rattle.desk_service.specs.declared.opening.Halt.TheVariants.{Refused, ReadFault, Memory}

unfoldable pub paper_name : Paper → List ℕ
paper_name Office = codes "office.toml"
paper_name Lists = codes "lists.toml"

-- the file stands in the folder
unfoldable pub paper_path : List ℕ → Paper → List ℕ
paper_path folder paper = folder ++ codes "/" ++ paper_name paper

-- what is held at the path of the file, where it is told
abbrev pub Holds : Option Told → List ℕ → Paper → (Option (List ℕ) → Type 0) → Type 0
Holds told folder paper Is = IsTrue (is_some told) → Is (held_by told (paper_path folder paper))

-- the file has these bytes, 16,777,216 at most
pub record HasBytes (told : Option Told) (folder : List ℕ) (paper : Paper) (bytes : List ℕ) : Type 0 where
  pub holds : Holds told folder paper (λ file. file ≡ Some bytes)
  pub short : length bytes ≤ 16777216

-- it is not there
abbrev pub IsAbsent : Option Told → List ℕ → Paper → Type 0
IsAbsent told folder paper = Holds told folder paper (λ file. file ≡ None)

-- it has more bytes
abbrev pub IsTooLong : Option Told → List ℕ → Paper → Type 0
IsTooLong told folder paper = Holds told folder paper (λ file. IsSomeAnd file (λ bytes. 16777216 < length bytes))

-- why the file is refused, where this is a fault of its form
abbrev pub IsUnfit : Option Told → List ℕ → Paper → (List ℕ → FormFault → Type 0) → Unfit → Type 0
IsUnfit told folder paper IsFault Absent = IsAbsent told folder paper
IsUnfit told folder paper IsFault TooLong = IsTooLong told folder paper
IsUnfit told folder paper IsFault (Form fault) = (bytes : List ℕ) × HasBytes told folder paper bytes × IsFault bytes fault

abbrev pub IsUnfitOffice : Option Told → List ℕ → Unfit → Type 0
IsUnfitOffice told folder unfit = IsUnfit told folder Office (FirstFormFault office_form) unfit

abbrev pub IsUnfitLists : Option Told → List ℕ → Unfit → Type 0
IsUnfitLists told folder unfit = IsUnfit told folder Lists (FirstFormFault lists_form) unfit

-- The office file says this.
pub record SaysOffice (told : Option Told) (folder : List ℕ) (office : SaidOffice) : Type 0 where
  pub bytes : List ℕ
  pub has : HasBytes told folder Office bytes
  pub form : IsForm office_form bytes office

-- The lists have these bytes, and are of their form.
pub record HasLists (told : Option Told) (folder : List ℕ) (bytes : List ℕ) : Type 0 where
  pub has : HasBytes told folder Lists bytes
  pub lists : SaidLists
  pub form : IsForm lists_form bytes lists

-- an office and the bytes of its lists
pub record Opened : Type 0 where
  pub office : SaidOffice
  pub lists : List ℕ

abbrev pub Refusal : Type 0
Refusal = Paper × Unfit

-- What a folder gives: the first refusal, of the office file and then of the lists, or both files.
pub data Opens (told : Option Told) (folder : List ℕ) : Result Opened Refusal → Type 0 where
  unfit_office : (unfit : Unfit) → IsUnfitOffice told folder unfit → Opens told folder (Err (Office, unfit))
  unfit_lists : (office : SaidOffice) (unfit : Unfit) → SaysOffice told folder office → IsUnfitLists told folder unfit
      → Opens told folder (Err (Lists, unfit))
  both_fit : (opened : Opened) → SaysOffice told folder opened.office → HasLists told folder opened.lists
      → Opens told folder (Ok opened)

-- The folder gives this; and nothing else, where the files tell what they hold.
pub record OpensAs (told : Option Told) (folder : List ℕ) (result : Result Opened Refusal) : Type 0 where
  pub opens : Opens told folder result
  pub only : IsTrue (is_some told) → (other : Result Opened Refusal) → Opens told folder other → other ≡ result

-- Reads in between gave the office file, which says this.
abbrev pub GaveSaid : List Entry → List Entry → List ℕ → SaidOffice → Type 0
GaveSaid old new folder office =
    (text : List ℕ) × IsForm office_form text office × (new ≡ old ++ (paper_path folder Office, 16777216, Ok text) ∷ [])

-- Reads in between gave the office file, which says what was opened, and then its lists.
pub record GaveOffice (old new : List Entry) (folder : List ℕ) (opened : Opened) : Type 0 where
  pub text : List ℕ
  pub form : IsForm office_form text opened.office
  pub heard : new ≡ old ++ (paper_path folder Office, 16777216, Ok text) ∷ (paper_path folder Lists, 16777216, Ok opened.lists) ∷ []

-- what reading a file returned
abbrev pub ReadsPaper : Option Told → List ℕ → Paper → Result (Vec ℕ Global) Halt → Type 0
ReadsPaper told folder paper (Ok bytes) = HasBytes told folder paper bytes.items
ReadsPaper told folder paper (Err (Refused which Absent)) = (which ≡ paper) × IsAbsent told folder paper
ReadsPaper told folder paper (Err (Refused which TooLong)) = (which ≡ paper) × IsTooLong told folder paper
ReadsPaper told folder paper (Err (Refused which (Form fault))) = ⊥
ReadsPaper told folder paper (Err (ReadFault which)) = which ≡ paper
ReadsPaper told folder paper (Err Memory) = Unit {0}

-- a fault of a form, unless memory ran out
abbrev pub HaltsForm : Paper → FormFault → Halt → Type 0
HaltsForm paper fault (Refused which unfit) = (which ≡ paper) × (unfit ≡ Form fault) × (fault ≢ forms.Memory)
HaltsForm paper fault (ReadFault which) = ⊥
HaltsForm paper fault Memory = fault ≡ forms.Memory

-- what reading the office file returned
abbrev pub OpensOffice : Option Told → List ℕ → Result SaidOffice Halt → Type 0
OpensOffice told folder (Ok office) = SaysOffice told folder office
OpensOffice told folder (Err (Refused which unfit)) = (which ≡ Office) × IsUnfitOffice told folder unfit
OpensOffice told folder (Err (ReadFault which)) = Unit {0}
OpensOffice told folder (Err Memory) = Unit {0}

-- what reading the lists returned
abbrev pub OpensLists : Option Told → List ℕ → Result (List ℕ) Halt → Type 0
OpensLists told folder (Ok bytes) = HasLists told folder bytes
OpensLists told folder (Err (Refused which unfit)) = (which ≡ Lists) × IsUnfitLists told folder unfit
OpensLists told folder (Err (ReadFault which)) = Unit {0}
OpensLists told folder (Err Memory) = Unit {0}

abbrev pub opened_of : Desk OfficeLists → Opened
opened_of desk = record { office = desk.office; lists = desk.judge.lists }

-- what opening a desk returned
abbrev pub OpensDesk : Option Told → List ℕ → Result (Desk OfficeLists) Halt → Type 0
OpensDesk told folder (Ok desk) =
    OpensAs told folder (Ok (opened_of desk)) × (desk.judge.edition ≡ sha256 desk.judge.lists)
OpensDesk told folder (Err (Refused which unfit)) = OpensAs told folder (Err (which, unfit))
OpensDesk told folder (Err (ReadFault which)) = Unit {0}
OpensDesk told folder (Err Memory) = Unit {0}

-- the call that failed last is a read of this file
abbrev pub TellsRead : Option Told → List ℕ → Type 0
TellsRead None path = Unit {0}
TellsRead (Some told) path = told.failed ≡ Some (Read path)

-- no file changed
abbrev pub SameFiles : Option Told → Option Told → Type 0
SameFiles None None = Unit {0}
SameFiles None (Some new) = ⊥
SameFiles (Some old) None = ⊥
SameFiles (Some old) (Some new) = new.files ≡ old.files

-- A read of this file failed, and is the call of the files that failed last. No file changed.
pub record ReadFails (old new : Option Told) (before after : ℕ) (path : List ℕ) : Type 0 where
  pub risen : HasRisen before after
  pub last : TellsRead new path
  pub kept : SameFiles old new

-- Nothing changed, but that a failed read raised the count and is the call that failed last.
abbrev pub Leaves : {X : Type 0} → Option Told → Option Told → ℕ → ℕ → List ℕ → Result X Halt → Type 0
Leaves old new before after folder (Ok x) = (new ≡ old) × (after ≡ before)
Leaves old new before after folder (Err (Refused which unfit)) = (new ≡ old) × (after ≡ before)
Leaves old new before after folder (Err (ReadFault which)) =
    ReadFails old new before after (paper_path folder which)
Leaves old new before after folder (Err Memory) = (new ≡ old) × (after ≡ before)
