-- What the files of a folder come to. Behind each fact stands what code would answer that does otherwise.
use Rattle.std.specs.Prelude.{◌≡◌, ℕ, cond, List, [], ◌∷◌, length, Some, None, Result, Ok, Err, codes}
use Rattle.std.specs.Str.{bytes_eq}
use Rattle.vet_base.specs.Script.{run}
use Rattle.app_folder.specs.Folder.{Gathers, Held, Refusal, parts_at}
use Rattle.verdict.specs.declared.outcome.Part.TheVariants.{Manifest}
use Rattle.verdict.specs.declared.outcome.Reason.TheVariants.{Absent, TooLong}
use Rattle.verdict.specs.declared.parts.Parts.{Parts}

-- folders in which there is no file, in which each file has these bytes, and in which there is a manifest alone
abbrev pub no_file : Held
no_file name = None

abbrev pub all_have : List ℕ → Held
all_have bytes name = Some bytes

abbrev pub only_manifest : Held
only_manifest name = cond (bytes_eq name (codes "d/manifest.toml")) (Some []) None

pub record FolderTells : Type 0 where
  -- Where there is no manifest, that is told; passed over, it is one of no bytes, and a fault of its form.
  pub absent : (dir : List ℕ) (told : Result Parts Refusal) → Gathers no_file dir told → told ≡ Err (Manifest, Absent)
  -- a manifest of one byte too many is too long; read, it is a form or has a fault as one
  pub too_long : (dir bytes : List ℕ) (told : Result Parts Refusal) → length bytes ≡ 16777217 → Gathers (all_have bytes) dir told → told ≡ Err (Manifest, TooLong 16777216)
  -- a manifest that is there is not absent; where its read fails and it is taken for absent, it is
  pub there : Gathers only_manifest (codes "d") (Err (Manifest, Absent)) → ⊥
  -- of two DEX files both are read; without the second there is one
  pub both_files : (dir text : List ℕ) → run (parts_at (all_have []) dir text 2) ≡ Ok (record { manifest = text; layouts = []; declaration = []; lists = []; dex = [] ∷ [] ∷ [] })

abbrev pub FolderIsGathered : Type 0
FolderIsGathered = FolderTells
