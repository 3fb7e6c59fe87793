-- The files of a folder, and what they give: the parts of an app, or the first refusal.
use Rattle.std.specs.Prelude.{◌≡◌, ◌≢◌, ℕ, ◌+◌, ◌≤◌, false, nat_le, List, [], ◌∷◌, ◌++◌, length, Option, Some, None, Result, Ok, Err, codes}
use Rattle.vet_base.specs.Script.{Script, Value, Test, ◌>>=◌, run, rows}
use Rattle.office_forms.specs.declared.manifest.AppManifest.{AppManifest}
use Rattle.form_fields.specs.declared.told.FormFault.{FormFault}
use Rattle.form_fields.specs.Form.{IsForm, FirstFormFault}
use Rattle.office_forms.specs.Manifest.{manifest_form}
use Rattle.verdict.specs.declared.outcome.Part.{Part}
use Rattle.verdict.specs.declared.outcome.Part.TheVariants.{Manifest as manifest_part, Layouts, Declaration, Lists, Dex, App}
use Rattle.verdict.specs.declared.outcome.Reason.{Reason}
use Rattle.verdict.specs.declared.outcome.Reason.TheVariants.{Absent, TooLong, Form}
use Rattle.verdict.specs.declared.parts.Parts.{Parts}
use Rattle.verdict_report.specs.Reasons.{part_name}

-- the bytes of each file that is there, by name
abbrev pub Held : Type 0
Held = List ℕ → Option (List ℕ)

abbrev pub Refusal : Type 0
Refusal = Part × Reason

-- the file of a part stands in the folder
unfoldable pub file_name : List ℕ → Part → List ℕ
file_name dir part = dir ++ codes "/" ++ part_name part

-- the file of a part in the folder; the app as a whole has none
pub record IsFileIn (dir name : List ℕ) : Type 0 where
  pub part : Part
  pub has_file : part ≢ App
  pub named : name ≡ file_name dir part

-- A file is refused where it is absent, and where it has more than 16,777,216 bytes.
abbrev pub present : Part → Option (List ℕ) → Script Refusal (List ℕ)
present part None = Test false (part, Absent) (Value [])
present part (Some bytes) = Test (nat_le (length bytes) 16777216) (part, TooLong 16777216) (Value bytes)

unfoldable pub part_at : Held → List ℕ → Part → Script Refusal (List ℕ)
part_at held dir part = present part (held (file_name dir part))

-- the DEX files, each in its turn
unfoldable pub dex_row : Held → List ℕ → ℕ → Unit {0} → Script Refusal (List ℕ × Unit {0})
dex_row held dir i _ = do
  bytes ← part_at held dir (Dex i)
  Value (bytes, tt)

unfoldable pub dexes_at : Held → List ℕ → ℕ → Script Refusal (List (List ℕ) × Unit {0})
dexes_at held dir count = rows count 0 (dex_row held dir) tt

-- the parts behind a manifest that says so many DEX files, in the order in which they are read
unfoldable pub parts_at : Held → List ℕ → List ℕ → ℕ → Script Refusal Parts
parts_at held dir manifest count = do
  layouts ← part_at held dir Layouts
  declaration ← part_at held dir Declaration
  lists ← part_at held dir Lists
  dexes ← dexes_at held dir count
  Value (record { manifest = manifest; layouts = layouts; declaration = declaration; lists = lists; dex = dexes.0 })

-- What the folder gives: the manifest is refused as a file or by its form; or it says how many DEX files there are, and then the
-- other files are the parts, or the first of them that is refused stands.
pub data Gathers (held : Held) (dir : List ℕ) : Result Parts Refusal → Type 0 where
  no_manifest : (refusal : Refusal) → run (part_at held dir manifest_part) ≡ Err refusal → Gathers held dir (Err refusal)
  bad_manifest : (text : List ℕ) (fault : FormFault) → run (part_at held dir manifest_part) ≡ Ok text → FirstFormFault manifest_form text fault → Gathers held dir (Err (manifest_part, Form fault))
  others : (text : List ℕ) (m : AppManifest) (gathered : Result Parts Refusal) → run (part_at held dir manifest_part) ≡ Ok text → IsForm manifest_form text m →
      run (parts_at held dir text m.manifest.dex_files) ≡ gathered → Gathers held dir gathered

-- the file of the part holds these bytes
pub record IsFile (held : Held) (dir : List ℕ) (part : Part) (bytes : List ℕ) : Type 0 where
  pub there : held (file_name dir part) ≡ Some bytes
  pub within : length bytes ≤ 16777216

-- the DEX files hold these, the first being that of this number
abbrev pub AreDexFiles : Held → List ℕ → ℕ → List (List ℕ) → Type 0
AreDexFiles held dir i [] = Unit {0}
AreDexFiles held dir i (bytes ∷ more) = IsFile held dir (Dex i) bytes × AreDexFiles held dir (i + 1) more

-- The files of the folder hold these parts, and there are as many DEX files as the manifest says.
pub record Holds (held : Held) (dir : List ℕ) (parts : Parts) : Type 0 where
  pub manifest : IsFile held dir manifest_part parts.manifest
  pub layouts : IsFile held dir Layouts parts.layouts
  pub declaration : IsFile held dir Declaration parts.declaration
  pub lists : IsFile held dir Lists parts.lists
  pub says : AppManifest
  pub form : IsForm manifest_form parts.manifest says
  pub count : length parts.dex ≡ says.manifest.dex_files
  pub dex : AreDexFiles held dir 0 parts.dex
