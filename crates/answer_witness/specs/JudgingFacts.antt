-- What parts that are judged do not come to. Behind each fact stands what code would answer that does otherwise.
use Rattle.std.specs.Prelude.{◌≡◌, length, None}
use Rattle.form_fields.specs.declared.told.FormFault.{FormFault}
use Rattle.form_fields.specs.Tree.{IsNotToml}
use Rattle.office_forms.specs.declared.manifest.AppManifest.{AppManifest}
use Rattle.verdict.specs.declared.outcome.Outcome.TheVariants.{Clear}
use Rattle.verdict.specs.declared.outcome.Part.TheVariants as part
use Rattle.verdict.specs.declared.outcome.Reason.TheVariants as reason
use Rattle.verdict.specs.declared.parts.Parts.{Parts}
use Rattle.verdict.specs.Refuses.{HasManifest, Refuses}
use Rattle.verdict.specs.Verdict.{Judgement}

pub record Judges (parts : Parts) : Type 0 where
  -- where the manifest is no TOML no fault of the layouts is told; else theirs comes first
  pub manifest_first : (e : FormFault) → IsNotToml parts.manifest → Refuses parts part.Layouts (reason.Form e) → ⊥
  -- two DEX files are not the one of a manifest; else a number that is too small is not refused
  pub both_counted : (m : AppManifest) → m.manifest.dex_files ≡ 1 → length parts.dex ≡ 2 → HasManifest parts m → ⊥
  -- an app is not absent; else each fault of the link is told so
  pub not_absent : Refuses parts part.App reason.Absent → ⊥
  -- an app that is clear has a table; else it is withheld
  pub has_table : Judgement parts (record { outcome = Clear; table = None }) → ⊥

abbrev pub PartsAreJudged : Type 0
PartsAreJudged = (parts : Parts) → Judges parts
