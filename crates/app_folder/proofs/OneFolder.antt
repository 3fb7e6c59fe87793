-- A folder gives one thing, and has one due.
use Rattle.std.proofs.Common.{◌≡◌, ℕ, List, Option, Result, Ok, Err, refl, sym, ◌∙◌, ap, subst}
use Rattle.std.specs.Prelude.{IsTrue, is_some}
use Rattle.vet_base.specs.Outside.{Told, held_by}
use Rattle.vet_base.specs.Script.{run}
use Rattle.office_forms.specs.declared.manifest.AppManifest.{AppManifest}
use Rattle.form_fields.specs.declared.told.FormFault.{FormFault}
use Rattle.form_fields.specs.Form.{IsForm, FirstFormFault}
use Rattle.office_forms.specs.Manifest.{manifest_form}
use Rattle.office_forms.specs.OneForm.{OneFormOrFault}
use Rattle.verdict.specs.declared.outcome.Outcome.TheVariants.{Refused}
use Rattle.verdict.specs.declared.outcome.Part.TheVariants.{Manifest as manifest_part}
use Rattle.verdict.specs.declared.outcome.Reason.TheVariants.{Form}
use Rattle.verdict.specs.declared.parts.Parts.{Parts}
use Rattle.app_folder.specs.Due.{Due, reported}
use Rattle.app_folder.specs.Folder.{Held, Refusal, part_at, parts_at, Gathers, no_manifest, bad_manifest, others}
use Rattle.app_folder.specs.FolderDue.{FolderDue}
use Rattle.app_folder.specs.Reading.{GathersTold}
use Rattle.vet_base.proofs.Results.{one_ok, one_err, ok_or_err}

module _ (forms : OneFormOrFault) (held : Held) (dir : List ℕ) where
  same_text : (text seen : List ℕ) → run (part_at held dir manifest_part) ≡ Ok text → run (part_at held dir manifest_part) ≡ Ok seen → text ≡ seen
  same_text text seen a b = one_ok (run (part_at held dir manifest_part)) text seen a b

  no_text : (refusal : Refusal) (text : List ℕ) → run (part_at held dir manifest_part) ≡ Err refusal → run (part_at held dir manifest_part) ≡ Ok text → ⊥
  no_text refusal text a b = ok_or_err (run (part_at held dir manifest_part)) text refusal b a

  form_as : (text seen : List ℕ) (m : AppManifest) → text ≡ seen → IsForm manifest_form text m → IsForm manifest_form seen m
  form_as text seen m same is = subst (λ (t : List ℕ). IsForm manifest_form t m) same is

  fault_as : (text seen : List ℕ) (e : FormFault) → text ≡ seen → FirstFormFault manifest_form text e → FirstFormFault manifest_form seen e
  fault_as text seen e same first = subst (λ (t : List ℕ). FirstFormFault manifest_form t e) same first

  same_others : (text seen : List ℕ) (m n : AppManifest) → text ≡ seen → m ≡ n → run (parts_at held dir text m.manifest.dex_files) ≡ run (parts_at held dir seen n.manifest.dex_files)
  same_others text seen m n same one = ap (λ (t : List ℕ). run (parts_at held dir t m.manifest.dex_files)) same ∙ ap (λ (k : AppManifest). run (parts_at held dir seen k.manifest.dex_files)) one

  -- a folder gives one thing
  pub one_gathered : (a b : Result Parts Refusal) → Gathers held dir a → Gathers held dir b → a ≡ b
  one_gathered _ _ (no_manifest r first) (no_manifest s second) = ap (λ (x : Refusal). Err x) (one_err (run (part_at held dir manifest_part)) r s first second)
  one_gathered _ _ (no_manifest r first) (bad_manifest seen f second fails) = absurd (no_text r seen first second)
  one_gathered _ b (no_manifest r first) (others seen n _ second is rest) = absurd (no_text r seen first second)
  one_gathered _ _ (bad_manifest text e first fails) (no_manifest s second) = absurd (no_text s text second first)
  one_gathered _ _ (bad_manifest text e first fails) (bad_manifest seen f second too) =
      ap (λ (x : FormFault). Err (manifest_part, Form x)) ((forms.manifest seen).one_fault e f (fault_as text seen e (same_text text seen first second) fails) too)
  one_gathered _ b (bad_manifest text e first fails) (others seen n _ second is rest) = absurd ((forms.manifest seen).not_both n e is (fault_as text seen e (same_text text seen first second) fails))
  one_gathered a _ (others text m _ first is rest) (no_manifest s second) = absurd (no_text s text second first)
  one_gathered a _ (others text m _ first is rest) (bad_manifest seen f second fails) = absurd ((forms.manifest seen).not_both m f (form_as text seen m (same_text text seen first second) is) fails)
  one_gathered a b (others text m _ first is rest) (others seen n _ second too more) =
      let same : text ≡ seen = same_text text seen first second in
      sym rest ∙ (same_others text seen m n same ((forms.manifest seen).one_form m n (form_as text seen m same is) too) ∙ more)

-- a folder that gives parts has no due but what they have
pub only_of_parts : (forms : OneFormOrFault) (dir : List ℕ) (told : Option Told) (PartsDue : Parts → Due → Type 0) (parts : Parts) (due : Due)
    → GathersTold told dir (Ok parts) → IsTrue (is_some told) → ((other : Due) → PartsDue parts other → other ≡ due)
    → (other : Due) → FolderDue PartsDue (GathersTold told dir) other → other ≡ due
only_of_parts forms dir told PartsDue parts due gathers tells only _ (FolderDue.refused refusal is) =
    absurd (ok_or_err (Ok parts) parts refusal refl (one_gathered forms (held_by told) dir (Ok parts) (Err refusal) (gathers tells) (is tells)))
only_of_parts forms dir told PartsDue parts due gathers tells only _ (FolderDue.given parts2 due2 is has) =
    let same : parts ≡ parts2 = one_ok (Ok parts) parts parts2 refl (one_gathered forms (held_by told) dir (Ok parts) (Ok parts2) (gathers tells) (is tells)) in
    only due2 (subst (λ (p : Parts). PartsDue p due2) (sym same) has)

-- nor does a folder that is refused
pub only_of_refusal : (forms : OneFormOrFault) (dir : List ℕ) (told : Option Told) (PartsDue : Parts → Due → Type 0) (refusal : Refusal)
    → GathersTold told dir (Err refusal) → IsTrue (is_some told)
    → (other : Due) → FolderDue PartsDue (GathersTold told dir) other → other ≡ reported (Refused refusal.0 refusal.1)
only_of_refusal forms dir told PartsDue refusal gathers tells _ (FolderDue.refused other is) =
    let same : refusal ≡ other = one_err (Err refusal) refusal other refl (one_gathered forms (held_by told) dir (Err refusal) (Err other) (gathers tells) (is tells)) in
    ap (λ (r : Refusal). reported (Refused r.0 r.1)) (sym same)
only_of_refusal forms dir told PartsDue refusal gathers tells _ (FolderDue.given parts2 due2 is has) =
    absurd (ok_or_err (Err refusal) parts2 refusal (one_gathered forms (held_by told) dir (Err refusal) (Ok parts2) (gathers tells) (is tells)) refl)
