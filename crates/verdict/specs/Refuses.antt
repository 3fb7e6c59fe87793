-- The first refusal of the parts of an app: the manifest's form and the number of DEX files, the forms of layouts, declaration
-- and lists, each DEX file, and then the app that they make.
use Rattle.std.specs.Prelude.{◌≡◌, ◌≢◌, ℕ, List, [], ◌∷◌, length, take, Some, slice_get, codes}
use Rattle.dex_tables.specs.declared.dex.Dex.{Dex}
use Rattle.dex_tables.specs.declared.fault.Fault.{Fault}
use Rattle.dex_reader.specs.Dex.{IsDex}
use Rattle.dex_reader.specs.Told.{shown}
use Rattle.dex_reader.specs.Whole.{FirstDexFault}
use Rattle.app_machine.specs.declared.papers.Layouts.{Layouts}
use Rattle.app_machine.specs.declared.papers.Declaration.{Declaration}
use Rattle.app_link.specs.declared.linking.LinkFault.{LinkFault}
use Rattle.app_link.specs.FirstLinkFault.{FirstLinkFault}
use Rattle.form_fields.specs.declared.told.FormFault.{FormFault}
use Rattle.form_fields.specs.declared.told.FormFault.TheVariants.{Range}
use Rattle.form_fields.specs.Form.{IsForm, FirstFormFault}
use Rattle.office_forms.specs.declared.manifest.AppManifest.{AppManifest}
use Rattle.office_forms.specs.Manifest.{manifest_form}
use Rattle.office_forms.specs.Layouts.{layouts_form}
use Rattle.office_forms.specs.Declaration.{declaration_form}
use Rattle.store_lists.specs.declared.lists.StoreLists.{StoreLists}
use Rattle.store_lists.specs.Lists.{lists_form}
use Rattle.verdict.specs.declared.outcome.Part.{Part}
use Rattle.verdict.specs.declared.outcome.Part.TheVariants as part
use Rattle.verdict.specs.declared.outcome.Reason.{Reason}
use Rattle.verdict.specs.declared.outcome.Reason.TheVariants as reason
use Rattle.verdict.specs.declared.papers.Papers.{Papers}
use Rattle.verdict.specs.declared.parts.Parts.{Parts}

-- the manifest, which tells the number of DEX files
pub record HasManifest (parts : Parts) (m : AppManifest) : Type 0 where
  pub form : IsForm manifest_form parts.manifest m
  pub count : m.manifest.dex_files ≡ length parts.dex

-- the manifest and the lists as their forms say them
abbrev pub manifest_of : Papers → AppManifest
manifest_of papers = record { manifest = papers.manifest; named = papers.named }

abbrev pub lists_of : Papers → StoreLists
lists_of papers = record { lists = papers.lists; device = papers.device; large = papers.large }

-- what the four forms say
pub record HasPapers (parts : Parts) (papers : Papers) : Type 0 where
  pub manifest : HasManifest parts (manifest_of papers)
  pub layouts : IsForm layouts_form parts.layouts papers.layouts
  pub declaration : IsForm declaration_form parts.declaration papers.declaration
  pub lists : IsForm lists_form parts.lists (lists_of papers)

-- each is a DEX file, and this is what stands in it
abbrev pub AreDex : List (List ℕ) → List Dex → Type 0
AreDex [] [] = Unit {0}
AreDex [] (d ∷ ds) = ⊥
AreDex (file ∷ files) [] = ⊥
AreDex (file ∷ files) (d ∷ ds) = IsDex file d × AreDex files ds

-- those before the i-th are DEX files, and this is the first fault of that
pub record IsFirstBad (files : List (List ℕ)) (i : ℕ) (fault : Fault) : Type 0 where
  pub before : List Dex
  pub stand : AreDex (take i files) before
  pub file : List ℕ
  pub there : slice_get files i ≡ Some file
  pub fails : FirstDexFault file fault

-- what all parts say
pub record Reads (parts : Parts) (papers : Papers) (dexes : List Dex) : Type 0 where
  pub forms : HasPapers parts papers
  pub files : AreDex parts.dex dexes

pub data Refuses (parts : Parts) : Part → Reason → Type 0 where
  bad_manifest : (e : FormFault) → FirstFormFault manifest_form parts.manifest e → Refuses parts part.Manifest (reason.Form e)
  other_count : (m : AppManifest) → IsForm manifest_form parts.manifest m → m.manifest.dex_files ≢ length parts.dex → Refuses parts part.Manifest (reason.Form (Range (codes "dex_files")))
  bad_layouts : (m : AppManifest) (e : FormFault) → HasManifest parts m → FirstFormFault layouts_form parts.layouts e → Refuses parts part.Layouts (reason.Form e)
  bad_declaration : (m : AppManifest) (l : Layouts) (e : FormFault) → HasManifest parts m → IsForm layouts_form parts.layouts l → FirstFormFault declaration_form parts.declaration e → Refuses parts part.Declaration (reason.Form e)
  bad_lists : (m : AppManifest) (l : Layouts) (d : Declaration) (e : FormFault) → HasManifest parts m → IsForm layouts_form parts.layouts l → IsForm declaration_form parts.declaration d → FirstFormFault lists_form parts.lists e →
      Refuses parts part.Lists (reason.Form e)
  bad_dex : (papers : Papers) (i : ℕ) (fault : Fault) → HasPapers parts papers → IsFirstBad parts.dex i fault → Refuses parts (part.Dex i) (reason.Dex (shown fault))
  bad_app : (papers : Papers) (dexes : List Dex) (fault : LinkFault) → Reads parts papers dexes → FirstLinkFault dexes papers.manifest papers.layouts fault → Refuses parts part.App (reason.Link fault)
