-- Manifests, layouts and declarations that are read are sound.
use Rattle.std.proofs.Common.{◌≡◌, ℕ, ◌+◌, ◌*◌, ◌≤◌, List, [], ◌++◌, length, Ok, arith, length-append}
use Rattle.std.specs.Prelude.{IsTrue, IfSome}
use Rattle.std.specs.List.{All}
use Rattle.std.proofs.lemmas.List.Elements.{All-nil, All-append}
use Rattle.toml.specs.Data.{Data, Members}
use Rattle.vet_base.specs.Script.{run}
use Rattle.app_machine.specs.Names.{Name}
use Rattle.app_machine.specs.declared.papers.Word.{Word}
use Rattle.app_machine.specs.declared.papers.Layouts.{Layouts}
use Rattle.app_machine.specs.declared.papers.Declaration.{Declaration}
use Rattle.form_fields.specs.declared.words.Section.TheVariants as section
use Rattle.form_fields.specs.declared.words.Key.TheVariants as key
use Rattle.form_fields.specs.declared.spelling.Spelling.TheVariants as spelling
use Rattle.form_fields.specs.Spelling.{is_short, is_class, fits}
use Rattle.form_fields.specs.Once.{with_new, names_once}
use Rattle.form_fields.specs.Fields.{known, text_at, maybe_text_at, maybe_texts_at, number_at, texts_at, tables_at, table_in}
use Rattle.office_forms.specs.declared.manifest.AppManifest.{AppManifest}
use Rattle.office_forms.specs.Manifest.{kind_at, component_row, components_of, classes_once, manifest_form}
use Rattle.office_forms.specs.Layouts.{Seen, layout_row, layouts_of, layouts_form}
use Rattle.office_forms.specs.Declaration.{use_row, uses_of, declaration_form}
use Rattle.office_forms.specs.Sound.{SoundManifest, SoundNamed, SoundLayouts, SoundDeclaration}
use Rattle.form_fields.proofs.Adding.{with_new_few}
use Rattle.form_fields.proofs.Yields.{Yields, yields_value, yields_then, yields_past, yields_both, yields_walk, yields_walk_all}
use Rattle.form_fields.proofs.FieldYields.{number_within, tables_few, texts_few, maybe_texts_few}
use Rattle.form_fields.proofs.Spelled.{Fits, text_fits, maybe_text_fits, texts_fit, maybe_texts_fit, all_new}

use_spelled : (d : Data) (u : Unit {0}) → Yields (λ r. IsTrue (is_short r.0.0) × IsTrue (is_short r.0.1)) (use_row d u)
unfolding use_row fits
use_spelled d u =
    yields_past _ (table_in section.Declaration key.Use d) _
    (λ t. yields_past _ (known section.Use t) _
    (λ _. yields_then (Fits spelling.Text) _ (text_at section.Use key.Source spelling.Text t) _ (text_fits section.Use key.Source spelling.Text t)
    (λ source o. yields_then (Fits spelling.Text) _ (text_at section.Use key.Sink spelling.Text t) _ (text_fits section.Use key.Sink spelling.Text t)
    (λ sink k. yields_value _ _ (o, k)))))

abbrev TwoShort : Name × Name → Type 0
TwoShort pair = IsTrue (is_short pair.0) × IsTrue (is_short pair.1)

uses_spelled : (ds : List Data) → Yields (λ r. All TwoShort r.0) (uses_of ds)
unfolding uses_of
uses_spelled ds = yields_walk_all TwoShort use_row use_spelled ds tt

uses_counted : (ds : List Data) → Yields (λ r. (length r.0 ≡ length ds) × Unit {0}) (uses_of ds)
unfolding uses_of
uses_counted ds = yields_walk (λ n s. Unit {0}) use_row (λ n x s h. record { at = λ y e. tt }) ds 0 tt tt

declaration_sound : (t : Members) → Yields SoundDeclaration (declaration_form t)
unfolding declaration_form
declaration_sound t =
    yields_past _ (known section.Declaration t) _
    (λ _. yields_then _ _ (tables_at section.Declaration key.Use 4096 t) _ (tables_few section.Declaration key.Use 4096 t)
    (λ uses few. yields_then (λ r. ((length r.0 ≡ length uses) × Unit {0}) × All TwoShort r.0) _ (uses_of uses) _ (yields_both _ _ (uses_of uses) (uses_counted uses) (uses_spelled uses))
    (λ pairs many. yields_value _ _ (record { few_pairs = omega (arith, few, many.0.0); pairs = many.1 }))))

pub sound_declaration : (t : Members) (d : Declaration) → run (declaration_form t) ≡ Ok d → SoundDeclaration d
sound_declaration t d e = (declaration_sound t).at d e

abbrev HasClass : Word × Name → Type 0
HasClass component = IsTrue (is_class component.1)

component_spelled : (d : Data) (u : Unit {0}) → Yields (λ r. HasClass r.0) (component_row d u)
unfolding component_row fits
component_spelled d u =
    yields_past _ (table_in section.Manifest key.Component d) _
    (λ t. yields_past _ (known section.Component t) _
    (λ _. yields_past _ (kind_at t) _
    (λ kind. yields_then (Fits spelling.Class) _ (text_at section.Component key.Class spelling.Class t) _ (text_fits section.Component key.Class spelling.Class t)
    (λ class c. yields_value _ _ c))))

components_spelled : (ds : List Data) → Yields (λ r. All HasClass r.0) (components_of ds)
unfolding components_of
components_spelled ds = yields_walk_all HasClass component_row component_spelled ds tt

components_counted : (ds : List Data) → Yields (λ r. (length r.0 ≡ length ds) × Unit {0}) (components_of ds)
unfolding components_of
components_counted ds = yields_walk (λ n s. Unit {0}) component_row (λ n x s h. record { at = λ y e. tt }) ds 0 tt tt

record SoundBoth (d : AppManifest) : Type 0 where
  manifest : SoundManifest d.manifest
  named : SoundNamed d.named

manifest_sound : (t : Members) → Yields SoundBoth (manifest_form t)
unfolding manifest_form fits
manifest_sound t =
    yields_past _ (known section.Manifest t) _
    (λ _. yields_then (Fits spelling.Text) _ (text_at section.Manifest key.Package spelling.Text t) _ (text_fits section.Manifest key.Package spelling.Text t)
    (λ name short. yields_then _ _ (number_at section.Manifest key.DexFiles 1 16 t) _ (number_within section.Manifest key.DexFiles 1 16 t)
    (λ dex_files within. yields_then (λ o. IfSome o (Fits spelling.Class)) _ (maybe_text_at section.Manifest key.Application spelling.Class t) _
    (maybe_text_fits section.Manifest key.Application spelling.Class t)
    (λ application spelled. yields_then _ _ (tables_at section.Manifest key.Component 4096 t) _ (tables_few section.Manifest key.Component 4096 t)
    (λ tables few. yields_then (λ ns. (length ns ≤ 4096) × All (Fits spelling.Class) ns) _ (maybe_texts_at section.Manifest key.Named spelling.Class 4096 t) _
    (yields_both _ _ _ (maybe_texts_few section.Manifest key.Named spelling.Class 4096 t) (maybe_texts_fit section.Manifest key.Named spelling.Class 4096 t))
    (λ named names. yields_then (λ r. ((length r.0 ≡ length tables) × Unit {0}) × All HasClass r.0) _ (components_of tables) _
    (yields_both _ _ (components_of tables) (components_counted tables) (components_spelled tables))
    (λ components many. yields_past _ (classes_once application components.0) _
    (λ _. yields_value _ _ (record {
      manifest = record {
        short_name = short;
        one_file = within.0;
        few_files = within.1;
        application = spelled;
        few_components = omega (arith, few, many.0.0);
        components = many.1;
      };
      named = record { few = names.0; classes = names.1 };
    })))))))))

pub sound_manifest : (t : Members) (d : AppManifest) → run (manifest_form t) ≡ Ok d → SoundManifest d.manifest
sound_manifest t d e = ((manifest_sound t).at d e).manifest

pub sound_named : (t : Members) (d : AppManifest) → run (manifest_form t) ≡ Ok d → SoundNamed d.named
sound_named t d e = ((manifest_sound t).at d e).named

-- so many layouts have at most 4,096 clicks and 4,096 classes each, all of them spelled so
record FewSeen (n : ℕ) (seen : Seen) : Type 0 where
  clicks : length seen.clicks ≤ 4096 * n
  classes : length seen.classes ≤ 4096 * n
  short : All (Fits spelling.Text) seen.clicks
  named : All (Fits spelling.Class) seen.classes

layout_few : (n : ℕ) (d : Data) (seen : Seen) → FewSeen n seen → Yields (λ r. FewSeen (n + 1) r.1) (layout_row d seen)
unfolding layout_row
layout_few n d seen few =
    yields_past _ (table_in section.Layouts key.Layout d) _
    (λ t. yields_past _ (known section.Layout t) _
    (λ _. yields_past _ (text_at section.Layout key.Name spelling.Text t) _
    (λ name. yields_then (λ ns. (length ns ≤ 4096) × All (Fits spelling.Text) ns) _ (texts_at section.Layout key.Clicks spelling.Text 4096 t) _
    (yields_both _ _ (texts_at section.Layout key.Clicks spelling.Text 4096 t) (texts_few section.Layout key.Clicks spelling.Text 4096 t) (texts_fit section.Layout key.Clicks spelling.Text 4096 t))
    (λ clicks few_clicks. yields_then (λ ns. (length ns ≤ 4096) × All (Fits spelling.Class) ns) _ (texts_at section.Layout key.Classes spelling.Class 4096 t) _
    (yields_both _ _ (texts_at section.Layout key.Classes spelling.Class 4096 t) (texts_few section.Layout key.Classes spelling.Class 4096 t) (texts_fit section.Layout key.Classes spelling.Class 4096 t))
    (λ classes few_classes.
    let c : length (with_new seen.clicks clicks) ≤ length seen.clicks + length clicks = with_new_few seen.clicks clicks in
    let a : length (seen.classes ++ classes) ≡ length seen.classes + length classes = length-append seen.classes classes in
    let i : length seen.clicks ≤ 4096 * n = few.clicks in
    let j : length seen.classes ≤ 4096 * n = few.classes in
    let e : length clicks ≤ 4096 = few_clicks.0 in
    let f : length classes ≤ 4096 = few_classes.0 in
    let k : length (with_new seen.clicks clicks) ≤ 4096 * (n + 1) = omega arith in
    let l : length (seen.classes ++ classes) ≤ 4096 * (n + 1) = omega arith in
    yields_value _ _ (record {
      clicks = k;
      classes = l;
      short = all_new (Fits spelling.Text) seen.clicks clicks few.short few_clicks.1;
      named = All-append (Fits spelling.Class) seen.classes classes few.named few_classes.1;
    }))))))

layouts_few : (ds : List Data) → Yields (λ r. (length r.0 ≡ length ds) × FewSeen (0 + length ds) r.1) (layouts_of ds)
unfolding layouts_of
layouts_few ds = yields_walk FewSeen layout_row layout_few ds 0 (record { clicks = []; classes = [] }) (record { clicks = omega arith; classes = omega arith; short = All-nil (Fits spelling.Text); named = All-nil (Fits spelling.Class) })

layouts_sound : (t : Members) → Yields SoundLayouts (layouts_form t)
unfolding layouts_form fits
layouts_sound t =
    yields_past _ (known section.Layouts t) _
    (λ _. yields_then _ _ (tables_at section.Layouts key.Layout 4096 t) _ (tables_few section.Layouts key.Layout 4096 t)
    (λ tables few. yields_then _ _ (layouts_of tables) _ (layouts_few tables)
    (λ found so_many. yields_past _ (names_once found.0) _
    (λ _.
    let i : length found.1.clicks ≤ 4096 * (0 + length tables) = so_many.1.clicks in
    let j : length found.1.classes ≤ 4096 * (0 + length tables) = so_many.1.classes in
    yields_value _ _ (record { few_clicks = omega arith; clicks = so_many.1.short; few_classes = omega arith; classes = so_many.1.named })))))

pub sound_layouts : (t : Members) (d : Layouts) → run (layouts_form t) ≡ Ok d → SoundLayouts d
sound_layouts t d e = (layouts_sound t).at d e
