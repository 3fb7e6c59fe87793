-- What reads gave, where they gave the files of a folder or came to one that is refused.
use Rattle.std.specs.Prelude.{◌≡◌, ℕ, zero, suc, ◌+◌, List, [], ◌∷◌, ◌++◌, length, map, Result, Ok, Err}
use Rattle.vet_base.specs.declared.outside.FileFault.{FileFault}
use Rattle.vet_base.specs.declared.outside.FileFault.TheVariants as faults
use Rattle.heard_files.specs.Outside.{Entry}
use Rattle.office_forms.specs.declared.manifest.AppManifest.{AppManifest}
use Rattle.form_fields.specs.declared.told.FormFault.{FormFault}
use Rattle.form_fields.specs.Form.{IsForm, FirstFormFault}
use Rattle.office_forms.specs.Manifest.{manifest_form}
use Rattle.verdict.specs.declared.outcome.Part.{Part}
use Rattle.verdict.specs.declared.outcome.Part.TheVariants.{Manifest as manifest_part, Layouts, Declaration, Lists, Dex}
use Rattle.verdict.specs.declared.outcome.Reason.{Reason}
use Rattle.verdict.specs.declared.outcome.Reason.TheVariants.{Absent, TooLong, Form}
use Rattle.verdict.specs.declared.parts.Parts.{Parts}
use Rattle.app_folder.specs.declared.folder.Halt.{Halt}
use Rattle.app_folder.specs.declared.folder.Halt.TheVariants.{Refused, ReadFault, Memory}
use Rattle.app_folder.specs.Folder.{Refusal, file_name}

-- a read of the file of a part, of at most 16,777,216 bytes
abbrev pub read_of : List ℕ → Part → Result (List ℕ) FileFault → Entry
read_of dir part answer = (file_name dir part, 16777216, answer)

-- the DEX files from this number on
abbrev pub dex_entries : List ℕ → ℕ → List (List ℕ) → List Entry
dex_entries dir i [] = []
dex_entries dir i (bytes ∷ more) = read_of dir (Dex i) (Ok bytes) ∷ dex_entries dir (i + 1) more

-- the files behind the manifest, in the order in which they are read
abbrev pub entries_behind : List ℕ → Parts → List Entry
entries_behind dir parts =
    read_of dir Layouts (Ok parts.layouts) ∷ read_of dir Declaration (Ok parts.declaration)
    ∷ read_of dir Lists (Ok parts.lists) ∷ dex_entries dir 0 parts.dex

-- the files of the folder, in that order
abbrev pub entries_of : List ℕ → Parts → List Entry
entries_of dir parts = read_of dir manifest_part (Ok parts.manifest) ∷ entries_behind dir parts

-- The first reads in between gave these parts: the files of the folder in their order, as many DEX files as the manifest
-- says.
pub record GaveParts (old new : List Entry) (dir : List ℕ) (parts : Parts) : Type 0 where
  pub more : List Entry
  pub heard : new ≡ old ++ entries_of dir parts ++ more
  pub says : AppManifest
  pub form : IsForm manifest_form parts.manifest says
  pub count : length parts.dex ≡ says.manifest.dex_files

-- so many DEX files, from this number on
abbrev pub dex_parts : ℕ → ℕ → List Part
dex_parts zero i = []
dex_parts (suc n) i = Dex i ∷ dex_parts n (i + 1)

-- the parts behind a manifest that says so many DEX files, in the order in which their files are read
abbrev pub parts_behind : ℕ → List Part
parts_behind count = Layouts ∷ Declaration ∷ Lists ∷ dex_parts count 0

-- A read that gave this fault refuses the file for this reason: it is absent, or has more than 16,777,216 bytes.
abbrev pub Refuses : FileFault → Reason → Type 0
Refuses faults.Absent reason = reason ≡ Absent
Refuses faults.TooLong reason = reason ≡ TooLong 16777216
Refuses faults.Failed reason = ⊥
Refuses faults.Memory reason = ⊥

-- The reads in between gave the files of these parts in their order, up to the first one that is refused.
pub record GaveUpTo (parts : List Part) (old new : List Entry) (dir : List ℕ) (refusal : Refusal) : Type 0 where
  pub files : List (Part × List ℕ)
  pub others : List Part
  pub order : parts ≡ map (λ file. file.0) files ++ refusal.0 ∷ others
  pub fault : FileFault
  pub refuses : Refuses fault refusal.1
  pub heard :
      new
      ≡ old
      ++ (map (λ file. read_of dir file.0 (Ok file.1)) files ++ read_of dir refusal.0 (Err fault) ∷ [])

-- The reads in between came to the first file for which the app is refused: the manifest is refused as a file or by its
-- form; or it says how many DEX files there are, and one of the others is refused as a file.
pub data GaveRefusal (old new : List Entry) (dir : List ℕ) : Refusal → Type 0 where
  no_manifest : (refusal : Refusal) →
      GaveUpTo (manifest_part ∷ []) old new dir refusal →
      GaveRefusal old new dir refusal
  bad_manifest : (text : List ℕ) (fault : FormFault) →
      new ≡ old ++ read_of dir manifest_part (Ok text) ∷ [] →
      FirstFormFault manifest_form text fault →
      GaveRefusal old new dir (manifest_part, Form fault)
  no_other : (text : List ℕ) (says : AppManifest) (refusal : Refusal) →
      IsForm manifest_form text says →
      GaveUpTo (parts_behind says.manifest.dex_files) (old ++ read_of dir manifest_part (Ok text) ∷ []) new dir refusal →
      GaveRefusal old new dir refusal

-- The reads in between gave this: the parts of the app in the folder and then these, or its first refusal and no more.
abbrev pub Gave : List Entry → List Entry → List ℕ → List Entry → Result Parts Refusal → Type 0
Gave old new dir more (Ok parts) = (gave : GaveParts old new dir parts) × (gave.more ≡ more)
Gave old new dir more (Err refusal) = GaveRefusal old new dir refusal

-- what a reading of the files of these parts left to be heard that did not come to its end, unless it was broken off
abbrev pub HeardUpTo : List Part → List Entry → List Entry → List ℕ → Halt → Type 0
HeardUpTo parts old new dir (Refused part reason) = GaveUpTo parts old new dir (part, reason)
HeardUpTo parts old new dir (ReadFault name) = Unit {0}
HeardUpTo parts old new dir Memory = Unit {0}

-- what a reading of them left to be heard, unless it was broken off
abbrev pub Hears : {X : Type 0} → (X → List Entry) → List Part → List Entry → List Entry → List ℕ
    → Result X Halt → Type 0
Hears entries parts old new dir (Ok x) = new ≡ old ++ entries x
Hears entries parts old new dir (Err halt) = HeardUpTo parts old new dir halt

-- what reading the folder left to be heard, unless it was broken off
abbrev pub HearsFolder : List Entry → List Entry → List ℕ → Result Parts Halt → Type 0
HearsFolder old new dir (Ok parts) = Gave old new dir [] (Ok parts)
HearsFolder old new dir (Err (Refused part reason)) = Gave old new dir [] (Err (part, reason))
HearsFolder old new dir (Err (ReadFault name)) = Unit {0}
HearsFolder old new dir (Err Memory) = Unit {0}
