-- The refusals of the parts.
use Rattle.std.proofs.Common.{◌≡◌, ◌≢◌, ◌⊎◌, Result, Ok, Err, ℕ, ◌+◌, ◌^◌, ◌<◌, ◌≤◌, zero, suc, List, [], ◌∷◌, ◌++◌, length, take, get_or, Some, refl, sym, subst, arith, add-one, inl, inr}
use Rattle.std.proofs.lemmas.Option.{slice_get_read}
use Rattle.std.specs.Prelude.{codes, slice_get}
use Rattle.vet_base.specs.declared.stop.Stop.{Stop}
use Rattle.vet_base.specs.declared.stop.Stop.TheVariants as stops
use Rattle.dex_tables.specs.declared.dex.Dex.{Dex}
use Rattle.dex_reader.specs.declared.told.DexFault.{DexFault}
use Rattle.dex_reader.specs.declared.told.DexFault.TheVariants as dex_fault
use Rattle.dex_reader.specs.Dex.{IsDex}
use Rattle.dex_reader.specs.Told.{IsToldOf}
use Rattle.app_link.specs.declared.linking.LinkFault.{LinkFault}
use Rattle.app_link.specs.declared.linking.LinkFault.TheVariants as link_fault
use Rattle.app_link.specs.FirstLinkFault.{FirstLinkFault}
use Rattle.app_link.specs.IsApp.{IsApp}
use Rattle.app_link.specs.OneAnswer.{OnlyApp}
use Rattle.app_machine.specs.declared.app.App.{App}
use Rattle.app_machine.specs.declared.papers.Manifest.{Manifest}
use Rattle.app_machine.specs.declared.papers.Layouts.{Layouts}
use Rattle.app_machine.specs.declared.papers.Declaration.{Declaration}
use Rattle.form_fields.specs.declared.told.FormFault.{FormFault}
use Rattle.form_fields.specs.declared.told.FormFault.TheVariants as told
use Rattle.form_fields.specs.Form.{IsForm, FirstFormFault}
use Rattle.office_forms.specs.declared.manifest.AppManifest.{AppManifest}
use Rattle.office_forms.specs.Manifest.{manifest_form}
use Rattle.office_forms.specs.Layouts.{layouts_form}
use Rattle.office_forms.specs.Declaration.{declaration_form}
use Rattle.store_lists.specs.Lists.{lists_form}
use Rattle.office_forms.specs.Sound.{SoundManifest, SoundLayouts}
use Rattle.verdict.specs.declared.outcome.Part.TheVariants as part
use Rattle.verdict.specs.declared.outcome.Reason.TheVariants as reason
use Rattle.verdict.specs.declared.papers.Papers.{Papers}
use Rattle.verdict.specs.declared.papers.Refusal.{Refusal}
use Rattle.verdict.specs.declared.parts.Parts.{Parts}
use Rattle.verdict.specs.Halts.{Halts, HaltsForm, HaltsFault, HaltsLink}
use Rattle.verdict.specs.OneVerdict.{LowerLaws, RefusesOnly}
use Rattle.verdict.specs.Refuses.{HasManifest, HasPapers, AreDex, Refuses, bad_manifest, other_count, bad_layouts, bad_declaration, bad_lists, bad_dex, bad_app}
use Rattle.verdict.proofs.OneVerdict.{fault_only}

-- a refusal that is this one
is_this : (parts : Parts) (r this : Refusal) → r ≡ this → RefusesOnly parts this.part this.reason → RefusesOnly parts r.part r.reason
is_this parts r this same refuses = let P : Refusal → Type 0 = λ x. RefusesOnly parts x.part x.reason in subst P (sym same) refuses

pub of_manifest : (laws : LowerLaws) (parts : Parts) (e : FormFault) (h : Stop Refusal) → (e ≢ told.Memory → FirstFormFault manifest_form parts.manifest e) → HaltsForm part.Manifest e h → Halts (RefusesOnly parts) h
of_manifest laws parts e stops.Memory first halts = tt
of_manifest laws parts e (stops.Fault r) first halts = is_this parts r _ halts.1 (fault_only laws parts part.Manifest (reason.Form e) (bad_manifest e (first halts.0)))

pub of_count : (laws : LowerLaws) (parts : Parts) (m : AppManifest) (key : List ℕ) → IsForm manifest_form parts.manifest m → m.manifest.dex_files ≢ length parts.dex → key ≡ codes "dex_files" → RefusesOnly parts part.Manifest (reason.Form (told.Range key))
of_count laws parts m key form other is =
    let P : List ℕ → Type 0 = λ k. RefusesOnly parts part.Manifest (reason.Form (told.Range k)) in
    subst P (sym is) (fault_only laws parts part.Manifest (reason.Form (told.Range (codes "dex_files"))) (other_count m form other))

pub of_layouts : (laws : LowerLaws) (parts : Parts) (m : AppManifest) (e : FormFault) (h : Stop Refusal) → HasManifest parts m → (e ≢ told.Memory → FirstFormFault layouts_form parts.layouts e) → HaltsForm part.Layouts e h → Halts (RefusesOnly parts) h
of_layouts laws parts m e stops.Memory manifest first halts = tt
of_layouts laws parts m e (stops.Fault r) manifest first halts = is_this parts r _ halts.1 (fault_only laws parts part.Layouts (reason.Form e) (bad_layouts m e manifest (first halts.0)))

pub of_declaration : (laws : LowerLaws) (parts : Parts) (m : AppManifest) (l : Layouts) (e : FormFault) (h : Stop Refusal) → HasManifest parts m → IsForm layouts_form parts.layouts l
    → (e ≢ told.Memory → FirstFormFault declaration_form parts.declaration e) → HaltsForm part.Declaration e h → Halts (RefusesOnly parts) h
of_declaration laws parts m l e stops.Memory manifest layouts first halts = tt
of_declaration laws parts m l e (stops.Fault r) manifest layouts first halts = is_this parts r _ halts.1 (fault_only laws parts part.Declaration (reason.Form e) (bad_declaration m l e manifest layouts (first halts.0)))

pub of_lists : (laws : LowerLaws) (parts : Parts) (m : AppManifest) (l : Layouts) (d : Declaration) (e : FormFault) (h : Stop Refusal) → HasManifest parts m → IsForm layouts_form parts.layouts l → IsForm declaration_form parts.declaration d
    → (e ≢ told.Memory → FirstFormFault lists_form parts.lists e) → HaltsForm part.Lists e h → Halts (RefusesOnly parts) h
of_lists laws parts m l d e stops.Memory manifest layouts declaration first halts = tt
of_lists laws parts m l d e (stops.Fault r) manifest layouts declaration first halts = is_this parts r _ halts.1 (fault_only laws parts part.Lists (reason.Form e) (bad_lists m l d e manifest layouts declaration (first halts.0)))

-- one DEX file more
pub one_more : (files : List (List ℕ)) (i : ℕ) (file : List ℕ) (dexes : List Dex) (dex : Dex) → AreDex (take i files) dexes → i < length files → file ≡ get_or files i file → IsDex file dex
    → AreDex (take (i + 1) files) (dexes ++ dex ∷ [])
one_more [] i file dexes dex stand lt is one = absurd (omega arith)
one_more (f ∷ files) zero file [] dex stand lt is one = let P : List ℕ → Type 0 = λ x. IsDex x dex in (subst P is one, tt)
one_more (f ∷ files) zero file (d ∷ dexes) dex stand lt is one = absurd stand
one_more (f ∷ files) (suc i) file [] dex stand lt is one = absurd stand
one_more (f ∷ files) (suc i) file (d ∷ dexes) dex stand lt is one =
    let below : i < length files = omega arith in
    let later : AreDex (take (i + 1) files) (dexes ++ dex ∷ []) = one_more files i file dexes dex stand.1 below is one in
    let P : ℕ → Type 0 = λ n. AreDex (take n (f ∷ files)) (d ∷ (dexes ++ dex ∷ [])) in
    let Q : ℕ → Type 0 = λ n. AreDex (take n files) (dexes ++ dex ∷ []) in
    subst P (sym (add-one (suc i))) (stand.0, subst Q (add-one i) later)

told_of : (parts : Parts) (papers : Papers) (dexes : List Dex) (i : ℕ) (file : List ℕ) (fault : DexFault) → HasPapers parts papers → AreDex (take i parts.dex) dexes → slice_get parts.dex i ≡ Some file → fault ≢ dex_fault.Memory
    → IsToldOf file fault → Refuses parts (part.Dex i) (reason.Dex fault)
told_of parts papers dexes i file fault has stand there other (inl memory) = absurd (other memory)
told_of parts papers dexes i file fault has stand there other (inr first) =
    let P : DexFault → Type 0 = λ f. Refuses parts (part.Dex i) (reason.Dex f) in
    subst P (sym first.1) (bad_dex papers i first.0 has (record { before = dexes; stand = stand; file = file; there = there; fails = first.2 }))

pub of_dex : (laws : LowerLaws) (parts : Parts) (papers : Papers) (dexes : List Dex) (i : ℕ) (file : List ℕ) (fault : DexFault) (h : Stop Refusal) → HasPapers parts papers → AreDex (take i parts.dex) dexes → i < length parts.dex
    → file ≡ get_or parts.dex i file → IsToldOf file fault → HaltsFault i fault h → Halts (RefusesOnly parts) h
of_dex laws parts papers dexes i file fault stops.Memory has stand lt is told halts = tt
of_dex laws parts papers dexes i file fault (stops.Fault r) has stand lt is told halts =
    is_this parts r _ halts.1 (fault_only laws parts (part.Dex i) (reason.Dex fault) (told_of parts papers dexes i file fault has stand (slice_get_read parts.dex (length parts.dex) i file refl lt is) halts.0 told))

pub of_link : (laws : LowerLaws) (parts : Parts) (papers : Papers) (dexes : List Dex) (fault : LinkFault) (h : Stop Refusal) → HasPapers parts papers → AreDex parts.dex dexes
    → (fault ≢ link_fault.Memory → FirstLinkFault dexes papers.manifest papers.layouts fault) → HaltsLink fault h → Halts (RefusesOnly parts) h
of_link laws parts papers dexes fault stops.Memory has stand first halts = tt
of_link laws parts papers dexes fault (stops.Fault r) has stand first halts = is_this parts r _ halts.1 (fault_only laws parts part.App (reason.Link fault) (bad_app papers dexes fault (record { forms = has; files = stand }) (first halts.0)))

-- the files are no other app where each is the one that was linked
pub only_linked : (dexes : List Dex) (manifest : Manifest) (layouts : Layouts) (app : App)
    → ((other : App) → IsApp dexes manifest layouts other → (let r : Result App LinkFault = Ok app in r ≡ Ok other) ⊎ (let r : Result App LinkFault = Ok app in r ≡ Err link_fault.Memory)) → OnlyApp dexes manifest layouts app
only_linked dexes manifest layouts app one = record { only = λ other is. of_answer other (one other is) }
  where
    of_answer : (other : App) → (let r : Result App LinkFault = Ok app in r ≡ Ok other) ⊎ (let r : Result App LinkFault = Ok app in r ≡ Err link_fault.Memory) → other ≡ app
    of_answer other (inl same) = cc
    of_answer other (inr memory) = absurd cc

-- what was read is short enough to be linked
pub few_components : (manifest : Manifest) → SoundManifest manifest → length manifest.components < 4294967295
few_components manifest sound = below_all (length manifest.components) sound.few_components
  where
    below_all : (n : ℕ) → n ≤ 4096 → n < 4294967295
    below_all n few = omega arith

below_limit : (n : ℕ) → n ≤ 16777216 → n < 2 ^ 32
below_limit n few = omega arith

pub few_clicks : (layouts : Layouts) → SoundLayouts layouts → length layouts.clicks < 2 ^ 32
few_clicks layouts sound = below_limit (length layouts.clicks) sound.few_clicks

pub few_classes : (layouts : Layouts) → SoundLayouts layouts → length layouts.classes < 2 ^ 32
few_classes layouts sound = below_limit (length layouts.classes) sound.few_classes
