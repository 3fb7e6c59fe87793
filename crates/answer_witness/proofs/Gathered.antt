-- What folders come to.
use Rattle.std.proofs.Common.{◌≡◌, ℕ, Bool, true, false, List, [], length, refl, sym, ◌∙◌, ap}
use Rattle.std.specs.Prelude.{codes, nat_le, Result, Ok, Err}
use Rattle.vet_base.specs.Script.{Script, Test, rows, run}
use Rattle.form_fields.specs.declared.told.FormFault.{FormFault}
use Rattle.app_folder.specs.Folder.{Gathers, Held, Refusal, bad_manifest, dex_row, dexes_at, file_name, no_manifest, others, part_at, parts_at}
use Rattle.verdict.specs.declared.outcome.Part.{Part}
use Rattle.verdict.specs.declared.outcome.Part.TheVariants.{Layouts, Manifest}
use Rattle.verdict.specs.declared.outcome.Reason.{Reason}
use Rattle.verdict.specs.declared.outcome.Reason.TheVariants.{Absent, Form, TooLong}
use Rattle.verdict.specs.declared.parts.Parts.{Parts}
use Rattle.verdict_report.specs.Reasons.{part_name}
use Rattle.answer_witness.specs.FolderFacts.{FolderIsGathered, all_have, no_file, only_manifest}

-- a test that fails has its fault
failed : {F A : Type 0} (b : Bool) (fault : F) (rest : Script F A) → b ≡ false → run (Test b fault rest) ≡ Err fault
failed true fault rest fails = absurd cc
failed false fault rest fails = refl

-- where the manifest is refused as a file, the folder is
refused_first : (held : Held) (dir : List ℕ) (refusal : Refusal) (told : Result Parts Refusal) → run (part_at held dir Manifest) ≡ Err refusal → Gathers held dir told → told ≡ Err refusal
refused_first held dir refusal told first (no_manifest other is) = let same = sym is ∙ first in cc
refused_first held dir refusal told first (bad_manifest text fault is form) = let clash = sym is ∙ first in absurd cc
refused_first held dir refusal told first (others text manifest gathered is form gathers) = let clash = sym is ∙ first in absurd cc

absent : (dir : List ℕ) (told : Result Parts Refusal) → Gathers no_file dir told → told ≡ Err (Manifest, Absent)
unfolding part_at
absent dir told gathers = refused_first no_file dir (Manifest, Absent) told refl gathers

too_long : (dir bytes : List ℕ) (told : Result Parts Refusal) → length bytes ≡ 16777217 → Gathers (all_have bytes) dir told → told ≡ Err (Manifest, TooLong 16777216)
unfolding part_at
too_long dir bytes told long gathers = refused_first (all_have bytes) dir (Manifest, TooLong 16777216) told (failed _ _ _ (ap (λ n. nat_le n 16777216) long)) gathers

-- what is read is no fault, the manifest's form is not its absence, and the layouts are not the manifest
read_not_refused : (read : Result (List ℕ) Refusal) (bytes : List ℕ) (refusal : Refusal) → read ≡ Ok bytes → read ≡ Err refusal → ⊥
read_not_refused read bytes refusal is refused = let clash = sym is ∙ refused in cc

abbrev part_of : Result Parts Refusal → Part
part_of (Ok parts) = Manifest
part_of (Err refusal) = refusal.0

abbrev reason_of : Result Parts Refusal → Reason
reason_of (Ok parts) = Absent
reason_of (Err refusal) = refusal.1

form_not_absent : (told : Result Parts Refusal) (fault : FormFault) → told ≡ Err (Manifest, Form fault) → told ≡ Err (Manifest, Absent) → ⊥
form_not_absent told fault is same = let clash : Form fault ≡ Absent = ap reason_of (sym is ∙ same) in cc

layouts_not_manifest : (read told : Result Parts Refusal) → read ≡ Err (Layouts, Absent) → read ≡ told → told ≡ Err (Manifest, Absent) → ⊥
layouts_not_manifest read told is gathers same = let clash : Layouts ≡ Manifest = ap part_of (sym is ∙ gathers ∙ same) in cc

there : (told : Result Parts Refusal) → Gathers only_manifest (codes "d") told → told ≡ Err (Manifest, Absent) → ⊥
unfolding part_at parts_at file_name part_name
there told (no_manifest refusal is) same = read_not_refused _ [] refusal refl is
there told (bad_manifest text fault is form) same = form_not_absent _ fault refl same
there told (others text manifest gathered is form gathers) same = layouts_not_manifest _ gathered refl gathers same

pub folder_is_gathered : FolderIsGathered
unfolding parts_at part_at dexes_at dex_row rows
folder_is_gathered = record {
  absent = absent;
  too_long = too_long;
  there = λ gathers. there _ gathers refl;
  both_files = λ dir text. refl;
}
