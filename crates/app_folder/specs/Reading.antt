-- What reading the files of a folder returned, and what it left.
use Rattle.std.specs.Prelude.{◌≡◌, ℕ, List, Option, Some, None, Result, Ok, Err, string_bytes, IsTrue, is_some}
use Rattle.std.specs.List.{AllByRecursion}
use Rattle.certificate.specs.Digests.{IsShort}
use Rattle.vet_base.specs.Outside.{HasRisen, Told, held_by}
use Rattle.vet_base.specs.Script.{Script, run, Fails}
use Rattle.vet_base.specs.declared.outside.FailedCall.TheVariants.{Read}
use Rattle.vet_base.specs.declared.stop.Stop.{Stop}
use Rattle.vet_base.specs.declared.stop.Stop.TheVariants as stops
use Rattle.office_forms.specs.declared.manifest.AppManifest.{AppManifest}
use Rattle.form_fields.specs.declared.told.FormFault.{FormFault}
use Rattle.form_fields.specs.Form.{IsForm, FirstFormFault}
use Rattle.office_forms.specs.Manifest.{manifest_form}
use Rattle.verdict.specs.declared.outcome.Part.TheVariants as parts
use Rattle.verdict.specs.declared.outcome.Reason.TheVariants.{Form}
use Rattle.verdict.specs.declared.parts.Parts.{Parts}
use Rattle.app_folder.specs.declared.folder.Halt.{Halt}
use Rattle.app_folder.specs.declared.folder.Halt.TheVariants.{Refused, ReadFault, Memory}
use Rattle.app_folder.specs.Folder.{Refusal, Gathers}

-- the call that failed last is a read of this file
abbrev pub TellsRead : Option Told → List ℕ → Type 0
TellsRead None name = Unit {0}
TellsRead (Some told) name = told.failed ≡ Some (Read name)

-- each part has room for its length in four bytes
pub record AreShort (parts : Parts) : Type 0 where
  pub manifest : IsShort parts.manifest
  pub layouts : IsShort parts.layouts
  pub declaration : IsShort parts.declaration
  pub lists : IsShort parts.lists
  pub dex : AllByRecursion IsShort parts.dex

-- no file changed
abbrev pub SameFiles : Option Told → Option Told → Type 0
SameFiles None None = Unit {0}
SameFiles None (Some new) = ⊥
SameFiles (Some old) None = ⊥
SameFiles (Some old) (Some new) = new.files ≡ old.files

-- a refusal ends a reading; a fault of the outside and want of memory break it off
abbrev pub stop_of : Halt → Stop Refusal
stop_of (Refused part reason) = stops.Fault (part, reason)
stop_of (ReadFault name) = stops.Memory
stop_of Memory = stops.Memory

-- what was returned is what the script gives, unless the reading was broken off
abbrev pub GivesPart : {X Y : Type 0} → (X → Y) → Result X Halt → Script Refusal Y → Type 0
GivesPart view (Ok x) script = run script ≡ Ok (view x)
GivesPart view (Err halt) script = Fails (stop_of halt) (run script)

-- where the files are told, it is what their script gives
abbrev pub ReadsAs : {X Y : Type 0} → Option Told → (X → Y) → Result X Halt → Script Refusal Y → Type 0
ReadsAs told view result script = IsTrue (is_some told) → GivesPart view result script

-- Nothing changed, but that a failed read raised the count and is the call that failed last.
abbrev pub Leaves : {X : Type 0} → Option Told → Option Told → ℕ → ℕ → Result X Halt → Type 0
Leaves old new before after (Ok x) = (new ≡ old) × (after ≡ before)
Leaves old new before after (Err (Refused part reason)) = (new ≡ old) × (after ≡ before)
Leaves old new before after (Err (ReadFault name)) = HasRisen before after × TellsRead new (string_bytes name) × SameFiles old new
Leaves old new before after (Err Memory) = (new ≡ old) × (after ≡ before)

-- where a read failed, it was that of such a file
abbrev pub FailsAt : {X : Type 0} → (List ℕ → Type 0) → Result X Halt → Type 0
FailsAt IsName (Ok x) = Unit {0}
FailsAt IsName (Err (Refused part reason)) = Unit {0}
FailsAt IsName (Err (ReadFault name)) = IsName (string_bytes name)
FailsAt IsName (Err Memory) = Unit {0}

-- the manifest says so many DEX files, or is not of its form
abbrev pub CountsDex : List ℕ → Result ℕ Halt → Type 0
CountsDex text (Ok count) = (m : AppManifest) × IsForm manifest_form text m × (m.manifest.dex_files ≡ count)
CountsDex text (Err (Refused part reason)) = (fault : FormFault) × FirstFormFault manifest_form text fault × (part ≡ parts.Manifest) × (reason ≡ Form fault)
CountsDex text (Err (ReadFault name)) = ⊥
CountsDex text (Err Memory) = Unit {0}

-- where the files are told, this is what the folder gives
abbrev pub GathersTold : Option Told → List ℕ → Result Parts Refusal → Type 0
GathersTold told dir gathered = IsTrue (is_some told) → Gathers (held_by told) dir gathered

-- what was returned is what the folder gives, unless the reading was broken off
abbrev pub GathersAs : Option Told → List ℕ → Result Parts Halt → Type 0
GathersAs told dir (Ok parts) = GathersTold told dir (Ok parts)
GathersAs told dir (Err (Refused part reason)) = GathersTold told dir (Err (part, reason))
GathersAs told dir (Err (ReadFault name)) = Unit {0}
GathersAs told dir (Err Memory) = Unit {0}
