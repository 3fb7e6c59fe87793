-- What the files of a folder give to be handed in: an app, or the first refusal, which is the one that `check` has for that file.
use Rattle.std.specs.Prelude.{◌≡◌, ℕ, List, Option, Result, Ok, Err, IsTrue, is_some}
use Rattle.vet_base.specs.Outside.{Told, held_by}
use Rattle.vet_base.specs.Script.{Script, Value, ◌>>=◌, run}
use Rattle.form_fields.specs.declared.told.FormFault.{FormFault}
use Rattle.form_fields.specs.Form.{IsForm, FirstFormFault}
use Rattle.office_forms.specs.declared.manifest.AppManifest.{AppManifest}
use Rattle.office_forms.specs.Manifest.{manifest_form}
use Rattle.verdict.specs.declared.outcome.Part.TheVariants.{Manifest as manifest_part, Layouts, Declaration}
use Rattle.verdict.specs.declared.outcome.Reason.TheVariants.{Form}
use Rattle.app_folder.specs.declared.folder.Halt.{Halt}
use Rattle.app_folder.specs.declared.folder.Halt.TheVariants.{Refused, ReadFault, Memory}
use Rattle.app_folder.specs.Folder.{Held, Refusal, part_at, dexes_at}
use Rattle.case_rules.specs.declared.case.Content.{Content}

-- the files behind a manifest that says so many DEX files, in the order in which they are read
unfoldable pub content_at : Held → List ℕ → List ℕ → ℕ → Script Refusal Content
content_at held dir manifest count = do
  layouts ← part_at held dir Layouts
  declaration ← part_at held dir Declaration
  dexes ← dexes_at held dir count
  Value (record { manifest = manifest; layouts = layouts; declaration = declaration; dex = dexes.0 })

-- What the folder gives: the manifest is refused as a file or by its form; or it says how many DEX files there are, and then the
-- other files are the app's, or the first of them that is refused stands.
pub data Gathers (held : Held) (dir : List ℕ) : Result Content Refusal → Type 0 where
  no_manifest : (refusal : Refusal) → run (part_at held dir manifest_part) ≡ Err refusal → Gathers held dir (Err refusal)
  bad_manifest : (text : List ℕ) (fault : FormFault) → run (part_at held dir manifest_part) ≡ Ok text
      → FirstFormFault manifest_form text fault → Gathers held dir (Err (manifest_part, Form fault))
  others : (text : List ℕ) (m : AppManifest) (gathered : Result Content Refusal) → run (part_at held dir manifest_part) ≡ Ok text
      → IsForm manifest_form text m → run (content_at held dir text m.manifest.dex_files) ≡ gathered → Gathers held dir gathered

-- where the files are told, this is what the folder gives
abbrev pub GathersTold : Option Told → List ℕ → Result Content Refusal → Type 0
GathersTold told dir gathered = IsTrue (is_some told) → Gathers (held_by told) dir gathered

-- what was returned is what the folder gives, unless the reading was broken off
abbrev pub GathersAs : Option Told → List ℕ → Result Content Halt → Type 0
GathersAs told dir (Ok content) = GathersTold told dir (Ok content)
GathersAs told dir (Err (Refused part reason)) = GathersTold told dir (Err (part, reason))
GathersAs told dir (Err (ReadFault name)) = Unit {0}
GathersAs told dir (Err Memory) = Unit {0}
