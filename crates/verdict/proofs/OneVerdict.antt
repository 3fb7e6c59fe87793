-- The parts of an app come to one judgement: each step of a judgement stops, or goes on with one value.
use Rattle.std.proofs.Common.{◌≡◌, ◌≢◌, ℕ, List, length, refl, sym, ◌∙◌, ap, subst}
use Rattle.std.specs.Prelude.{codes}
use Rattle.toml.specs.Data.{Members}
use Rattle.vet_base.specs.Script.{Script}
use Rattle.dex_tables.specs.declared.dex.Dex.{Dex}
use Rattle.dex_tables.specs.declared.fault.Fault.{Fault}
use Rattle.dex_reader.specs.Told.{shown}
use Rattle.app_machine.specs.declared.app.App.{App}
use Rattle.app_machine.specs.declared.papers.Manifest.{Manifest}
use Rattle.app_machine.specs.declared.papers.Layouts.{Layouts}
use Rattle.app_machine.specs.declared.papers.Declaration.{Declaration}
use Rattle.app_link.specs.declared.linking.LinkFault.{LinkFault}
use Rattle.app_link.specs.FirstLinkFault.{FirstLinkFault}
use Rattle.app_link.specs.IsApp.{IsApp}
use Rattle.app_link.specs.OneAnswer.{OnlyApp}
use Rattle.form_fields.specs.declared.fault.Fault.{Fault as FormFailure}
use Rattle.form_fields.specs.declared.told.FormFault.{FormFault}
use Rattle.form_fields.specs.declared.told.FormFault.TheVariants.{Range}
use Rattle.form_fields.specs.Form.{IsForm, FirstFormFault}
use Rattle.office_forms.specs.OneForm.{OneForm}
use Rattle.office_forms.specs.declared.manifest.AppManifest.{AppManifest}
use Rattle.office_forms.specs.Manifest.{manifest_form}
use Rattle.office_forms.specs.Layouts.{layouts_form}
use Rattle.office_forms.specs.Declaration.{declaration_form}
use Rattle.store_lists.specs.declared.lists.StoreLists.{StoreLists}
use Rattle.store_lists.specs.Lists.{lists_form}
use Rattle.verdict.specs.declared.outcome.Judged.{Judged}
use Rattle.verdict.specs.declared.outcome.Part.{Part}
use Rattle.verdict.specs.declared.outcome.Part.TheVariants as part
use Rattle.verdict.specs.declared.outcome.Reason.{Reason}
use Rattle.verdict.specs.declared.outcome.Reason.TheVariants as reason
use Rattle.verdict.specs.declared.linking.Linked.{Linked}
use Rattle.verdict.specs.declared.papers.Papers.{Papers}
use Rattle.verdict.specs.declared.parts.Parts.{Parts}
use Rattle.verdict.specs.Linked.{IsLinked}
use Rattle.verdict.specs.OneVerdict.{LowerLaws, OnlyJudgement, RefusesOnly}
use Rattle.verdict.specs.Refuses.{HasManifest, HasPapers, manifest_of, lists_of, AreDex, IsFirstBad, Reads, Refuses, bad_manifest, other_count, bad_layouts, bad_declaration, bad_lists, bad_dex, bad_app}
use Rattle.verdict.specs.Verdict.{ComesTo, Judgement, refused, linked, refusal, judged_by, told_beside}
use Rattle.verdict.proofs.OneReading.{one_list, all_or_bad, one_bad}

-- a step that stops with a judgement, or goes on with a value
data Step {A : Type 0} (Good : A → Type 0) (Stops : Judged → Type 0) (Rest : A → Judged → Type 0) : Judged → Type 0 where
  stops : (o : Judged) → Stops o → Step Good Stops Rest o
  goes : (a : A) (o : Judged) → Good a → Rest a o → Step Good Stops Rest o

module _ {A : Type 0} (Good : A → Type 0) (Stops : Judged → Type 0) (Rest : A → Judged → Type 0) where
  one_step : ((o p : Judged) → Stops o → Stops p → o ≡ p) → ((a : A) (o : Judged) → Good a → Stops o → ⊥) → ((a b : A) → Good a → Good b → a ≡ b) → ((a : A) → Good a → (o p : Judged) → Rest a o → Rest a p → o ≡ p)
      → (o p : Judged) → Step Good Stops Rest o → Step Good Stops Rest p → o ≡ p
  one_step one both same rest o p (stops _ a) (stops _ b) = one o p a b
  one_step one both same rest o p (stops _ a) (goes y _ h s) = absurd (both y o h a)
  one_step one both same rest o p (goes x _ g r) (stops _ b) = absurd (both x p g b)
  one_step one both same rest o p (goes x _ g r) (goes y _ h s) = rest y h o p (subst (λ (z : A). Rest z o) (same x y g h) r) s

-- a form that has a fault
abbrev BadForm : {A : Type 0} → (Members → Script FormFailure A) → List ℕ → Part → Judged → Type 0
BadForm form text part o = (e : FormFault) × FirstFormFault form text e × (o ≡ refusal part (reason.Form e))

module _ {A : Type 0} (form : Members → Script FormFailure A) (text : List ℕ) (part : Part) (Rest : A → Judged → Type 0) (law : OneForm form text) where
  one_form_step : ((a : A) → IsForm form text a → (o p : Judged) → Rest a o → Rest a p → o ≡ p) → (o p : Judged) → Step (IsForm form text) (BadForm form text part) Rest o → Step (IsForm form text) (BadForm form text part) Rest p → o ≡ p
  one_form_step rest = one_step (IsForm form text) (BadForm form text part) Rest one (λ a o is bad. law.not_both a bad.0 is bad.1) law.one_form rest
    where
      one : (o p : Judged) → BadForm form text part o → BadForm form text part p → o ≡ p
      one o p a b = a.2 ∙ (ap (λ (e : FormFault). refusal part (reason.Form e)) (law.one_fault a.0 b.0 a.1 b.1) ∙ sym b.2)

-- parts that are read make one app at most
abbrev OneApp : Parts → Type 0
OneApp parts = (papers : Papers) (dexes : List Dex) (a b : App) → Reads parts papers dexes → IsApp dexes papers.manifest papers.layouts a → IsApp dexes papers.manifest papers.layouts b → a ≡ b

abbrev papers_of : AppManifest → Layouts → Declaration → StoreLists → Papers
papers_of m layouts declaration ls = record { manifest = m.manifest; named = m.named; layouts = layouts; declaration = declaration; lists = ls.lists; device = ls.device; large = ls.large }

-- the steps of a judgement, the last first
abbrev AtFlow : Papers → List Dex → App → Judged → Type 0
AtFlow papers dexes app o = ComesTo app papers.lists papers.large papers.declaration (told_beside papers dexes app) o

abbrev BadLink : Papers → List Dex → Judged → Type 0
BadLink papers dexes o = (fault : LinkFault) × FirstLinkFault dexes papers.manifest papers.layouts fault × (o ≡ refusal part.App (reason.Link fault))

abbrev AtLink : Papers → List Dex → Judged → Type 0
AtLink papers dexes o = Step (IsApp dexes papers.manifest papers.layouts) (BadLink papers dexes) (AtFlow papers dexes) o

module _ (laws : LowerLaws) (parts : Parts) where
  abbrev BadFile : Judged → Type 0
  BadFile o = (i : ℕ) × (fault : Fault) × IsFirstBad parts.dex i fault × (o ≡ refusal (part.Dex i) (reason.Dex (shown fault)))

  abbrev AtFiles : Papers → Judged → Type 0
  AtFiles papers o = Step (AreDex parts.dex) BadFile (AtLink papers) o

  abbrev AtLists : AppManifest → Layouts → Declaration → Judged → Type 0
  AtLists m l d o = Step (IsForm lists_form parts.lists) (BadForm lists_form parts.lists part.Lists) (λ ls. AtFiles (papers_of m l d ls)) o

  abbrev AtDeclaration : AppManifest → Layouts → Judged → Type 0
  AtDeclaration m l o = Step (IsForm declaration_form parts.declaration) (BadForm declaration_form parts.declaration part.Declaration) (AtLists m l) o

  abbrev AtLayouts : AppManifest → Judged → Type 0
  AtLayouts m o = Step (IsForm layouts_form parts.layouts) (BadForm layouts_form parts.layouts part.Layouts) (AtDeclaration m) o

  abbrev IsCounted : AppManifest → Unit {0} → Type 0
  IsCounted m _ = m.manifest.dex_files ≡ length parts.dex

  abbrev BadCount : AppManifest → Judged → Type 0
  BadCount m o = (m.manifest.dex_files ≢ length parts.dex) × (o ≡ refusal part.Manifest (reason.Form (Range (codes "dex_files"))))

  abbrev AtCount : AppManifest → Judged → Type 0
  AtCount m o = Step (IsCounted m) (BadCount m) (λ _. AtLayouts m) o

  abbrev AtManifest : Judged → Type 0
  AtManifest o = Step (IsForm manifest_form parts.manifest) (BadForm manifest_form parts.manifest part.Manifest) AtCount o

  -- a judgement goes these steps
  with_manifest : (m : AppManifest) (o : Judged) → HasManifest parts m → AtLayouts m o → AtManifest o
  with_manifest m o has rest = goes m o has.form (goes tt o has.count rest)

  with_papers : (papers : Papers) (o : Judged) → HasPapers parts papers → AtFiles papers o → AtManifest o
  with_papers papers o has rest = with_manifest (manifest_of papers) o has.manifest (goes papers.layouts o has.layouts (goes papers.declaration o has.declaration (goes (lists_of papers) o has.lists rest)))

  with_files : (papers : Papers) (dexes : List Dex) (o : Judged) → Reads parts papers dexes → AtLink papers dexes o → AtManifest o
  with_files papers dexes o reads rest = with_papers papers o reads.forms (goes dexes o reads.files rest)

  of_refusal : (part : Part) (why : Reason) → Refuses parts part why → AtManifest (refusal part why)
  of_refusal _ _ (bad_manifest e first) = stops _ (e, first, refl)
  of_refusal _ _ (other_count m form other) = goes m _ form (stops _ (other, refl))
  of_refusal _ _ (bad_layouts m e has first) = with_manifest m _ has (stops _ (e, first, refl))
  of_refusal _ _ (bad_declaration m l e has layouts first) = with_manifest m _ has (goes l _ layouts (stops _ (e, first, refl)))
  of_refusal _ _ (bad_lists m l d e has layouts declaration first) = with_manifest m _ has (goes l _ layouts (goes d _ declaration (stops _ (e, first, refl))))
  of_refusal _ _ (bad_dex papers i fault has first) = with_papers papers _ has (stops _ (i, fault, first, refl))
  of_refusal _ _ (bad_app papers dexes fault reads first) = with_files papers dexes _ reads (stops _ (fault, first, refl))

  of_judgement : (o : Judged) → Judgement parts o → AtManifest o
  of_judgement _ (refused part why refuses) = of_refusal part why refuses
  of_judgement o (linked papers dexes app reads is comes) = with_files papers dexes o reads (goes app o is comes)

  -- each step has one judgement
  one_flow : (papers : Papers) (dexes : List Dex) (app : App) (o p : Judged) → AtFlow papers dexes app o → AtFlow papers dexes app p → o ≡ p
  one_flow papers dexes app o p a b = a.same ∙ (ap (judged_by app papers.lists papers.declaration (told_beside papers dexes app)) (laws.flows app papers.lists papers.large a.flow b.flow a.is_flow b.is_flow) ∙ sym b.same)

  module _ (one_app : OneApp parts) where
    one_link : (papers : Papers) (dexes : List Dex) → Reads parts papers dexes → (o p : Judged) → AtLink papers dexes o → AtLink papers dexes p → o ≡ p
    one_link papers dexes reads = one_step (IsApp dexes papers.manifest papers.layouts) (BadLink papers dexes) (AtFlow papers dexes) one
        (λ app o is bad. (laws.links dexes papers.manifest papers.layouts).not_both app bad.0 is bad.1) (λ a b. one_app papers dexes a b reads) (λ app is. one_flow papers dexes app)
      where
        one : (o p : Judged) → BadLink papers dexes o → BadLink papers dexes p → o ≡ p
        one o p a b = a.2 ∙ (ap (λ (e : LinkFault). refusal part.App (reason.Link e)) ((laws.links dexes papers.manifest papers.layouts).one_fault a.0 b.0 a.1 b.1) ∙ sym b.2)

    one_files : (papers : Papers) → HasPapers parts papers → (o p : Judged) → AtFiles papers o → AtFiles papers p → o ≡ p
    one_files papers has = one_step (AreDex parts.dex) BadFile (AtLink papers) one (λ dexes o stand bad. all_or_bad laws.files parts.dex dexes bad.0 bad.1 stand bad.2) (one_list laws.files parts.dex)
        (λ dexes stand. one_link papers dexes (record { forms = has; files = stand }))
      where
        one : (o p : Judged) → BadFile o → BadFile p → o ≡ p
        one o p a b =
            let same = one_bad laws.files parts.dex a.0 b.0 a.1 b.1 a.2 b.2 in
            a.3 ∙ (ap (λ (i : ℕ). refusal (part.Dex i) (reason.Dex (shown a.1))) same.0 ∙ (ap (λ (f : Fault). refusal (part.Dex b.0) (reason.Dex (shown f))) same.1 ∙ sym b.3))

    one_lists : (m : AppManifest) (l : Layouts) (d : Declaration) → HasManifest parts m → IsForm layouts_form parts.layouts l → IsForm declaration_form parts.declaration d → (o p : Judged) → AtLists m l d o → AtLists m l d p → o ≡ p
    one_lists m l d has layouts declaration = one_form_step lists_form parts.lists part.Lists (λ ls. AtFiles (papers_of m l d ls)) (laws.forms.lists parts.lists)
        (λ ls lists. one_files (papers_of m l d ls) (record { manifest = has; layouts = layouts; declaration = declaration; lists = lists }))

    one_declaration : (m : AppManifest) (l : Layouts) → HasManifest parts m → IsForm layouts_form parts.layouts l → (o p : Judged) → AtDeclaration m l o → AtDeclaration m l p → o ≡ p
    one_declaration m l has layouts = one_form_step declaration_form parts.declaration part.Declaration (AtLists m l) (laws.forms.declaration parts.declaration) (λ d declaration. one_lists m l d has layouts declaration)

    one_layouts : (m : AppManifest) → HasManifest parts m → (o p : Judged) → AtLayouts m o → AtLayouts m p → o ≡ p
    one_layouts m has = one_form_step layouts_form parts.layouts part.Layouts (AtDeclaration m) (laws.forms.layouts parts.layouts) (λ l layouts. one_declaration m l has layouts)

    one_count : (m : AppManifest) → IsForm manifest_form parts.manifest m → (o p : Judged) → AtCount m o → AtCount m p → o ≡ p
    one_count m form = one_step (IsCounted m) (BadCount m) (λ _. AtLayouts m) (λ o p a b. a.1 ∙ sym b.1) (λ _ o is bad. bad.0 is) (λ _ _ a b. refl)
        (λ _ count. one_layouts m (record { form = form; count = count }))

    one_judgement : (o p : Judged) → Judgement parts o → Judgement parts p → o ≡ p
    one_judgement o p a b = one_form_step manifest_form parts.manifest part.Manifest AtCount (laws.forms.manifest parts.manifest) one_count o p (of_judgement o a) (of_judgement p b)

    refuses_only : (part : Part) (why : Reason) → Refuses parts part why → RefusesOnly parts part why
    refuses_only part why refuses = record { refuses = refuses; only = λ other is. one_judgement other (refusal part why) is (refused part why refuses) }

    judgement_only : (o : Judged) → Judgement parts o → OnlyJudgement parts o
    judgement_only o is other too = one_judgement other o too is

  -- the parts are no app
  abbrev NoApp : Type 0
  NoApp = (papers : Papers) (dexes : List Dex) (app : App) → Reads parts papers dexes → IsApp dexes papers.manifest papers.layouts app → ⊥

  pub as_read : (papers others : Papers) (dexes files : List Dex) (app : App) → Reads parts papers dexes → Reads parts others files → IsApp dexes papers.manifest papers.layouts app → IsApp files others.manifest others.layouts app
  as_read papers others dexes files app one two is =
      let list : dexes ≡ files = one_list laws.files parts.dex dexes files one.files two.files in
      let manifest : papers.manifest ≡ others.manifest =
      ap (λ (m : AppManifest). m.manifest) ((laws.forms.manifest parts.manifest).one_form (manifest_of papers) (manifest_of others) one.forms.manifest.form two.forms.manifest.form) in
      let layouts : papers.layouts ≡ others.layouts = (laws.forms.layouts parts.layouts).one_form papers.layouts others.layouts one.forms.layouts two.forms.layouts in
      let first : IsApp files papers.manifest papers.layouts app = subst (λ (ds : List Dex). IsApp ds papers.manifest papers.layouts app) list is in
      let second : IsApp files others.manifest papers.layouts app = subst (λ (m : Manifest). IsApp files m papers.layouts app) manifest first in
      subst (λ (l : Layouts). IsApp files others.manifest l app) layouts second

  -- the forms say one thing
  pub one_papers : (papers others : Papers) → HasPapers parts papers → HasPapers parts others → papers ≡ others
  one_papers papers others one two =
      let m : manifest_of papers ≡ manifest_of others = (laws.forms.manifest parts.manifest).one_form (manifest_of papers) (manifest_of others) one.manifest.form two.manifest.form in
      let l : papers.layouts ≡ others.layouts = (laws.forms.layouts parts.layouts).one_form papers.layouts others.layouts one.layouts two.layouts in
      let d : papers.declaration ≡ others.declaration = (laws.forms.declaration parts.declaration).one_form papers.declaration others.declaration one.declaration two.declaration in
      let ls : lists_of papers ≡ lists_of others = (laws.forms.lists parts.lists).one_form (lists_of papers) (lists_of others) one.lists two.lists in
      ap (λ x. papers_of x papers.layouts papers.declaration (lists_of papers)) m
      ∙ (ap (λ x. papers_of (manifest_of others) x papers.declaration (lists_of papers)) l
      ∙ (ap (λ x. papers_of (manifest_of others) others.layouts x (lists_of papers)) d
      ∙ ap (λ x. papers_of (manifest_of others) others.layouts others.declaration x) ls))

  -- an app that is the only one
  one_app_of : (papers : Papers) (dexes : List Dex) (app : App) → Reads parts papers dexes → OnlyApp dexes papers.manifest papers.layouts app → OneApp parts
  one_app_of papers dexes app reads only others files a b too one two = only.only a (as_read others papers files dexes a too reads one) ∙ sym (only.only b (as_read others papers files dexes b too reads two))

  -- parts that are refused are no app
  pub no_app_of : (part : Part) (why : Reason) → Refuses parts part why → NoApp
  no_app_of _ _ (bad_manifest e first) = λ papers dexes app reads is. (laws.forms.manifest parts.manifest).not_both (manifest_of papers) e reads.forms.manifest.form first
  no_app_of _ _ (other_count m form other) =
      λ papers dexes app reads is. other (ap (λ (n : AppManifest). n.manifest.dex_files) ((laws.forms.manifest parts.manifest).one_form m (manifest_of papers) form reads.forms.manifest.form) ∙ reads.forms.manifest.count)
  no_app_of _ _ (bad_layouts m e has first) = λ papers dexes app reads is. (laws.forms.layouts parts.layouts).not_both papers.layouts e reads.forms.layouts first
  no_app_of _ _ (bad_declaration m l e has layouts first) = λ papers dexes app reads is. (laws.forms.declaration parts.declaration).not_both papers.declaration e reads.forms.declaration first
  no_app_of _ _ (bad_lists m l d e has layouts declaration first) = λ papers dexes app reads is. (laws.forms.lists parts.lists).not_both (lists_of papers) e reads.forms.lists first
  no_app_of _ _ (bad_dex papers i fault has first) = λ others files app reads is. all_or_bad laws.files parts.dex files i fault reads.files first
  no_app_of _ _ (bad_app papers dexes fault reads first) =
      λ others files app too is. (laws.links dexes papers.manifest papers.layouts).not_both app fault (as_read others papers files dexes app too reads is) first

  fault_alone : (part : Part) (why : Reason) → Refuses parts part why → OneApp parts
  fault_alone part why refuses papers dexes a b reads one two = absurd (no_app_of part why refuses papers dexes a reads one)

  -- a fault is the only judgement
  pub fault_only : (part : Part) (why : Reason) → Refuses parts part why → RefusesOnly parts part why
  fault_only part why refuses = refuses_only (fault_alone part why refuses) part why refuses

  -- and so is what comes of the only app
  pub judged_only : (l : Linked) (o : Judged) → IsLinked parts l → Judgement parts o → OnlyJudgement parts o
  judged_only l o is judged = judgement_only (one_app_of l.papers is.dexes l.app is.reads is.only) o judged
