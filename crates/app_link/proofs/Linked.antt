-- An app that was put together from its parts is the app of the files.
use Rattle.std.proofs.Common.{◌≡◌, ℕ, min, Ok, List, [], map, length, sym, ◌∙◌, ap, subst}
use Rattle.vet_base.specs.Script.{Script, run}
use Rattle.dex_tables.specs.declared.dex.Dex.{Dex}
use Rattle.dex_code.specs.CodeLaws.{CodeLaws}
use Rattle.app_machine.specs.declared.app.App.{App}
use Rattle.app_machine.specs.declared.app.Class.{Class}
use Rattle.app_machine.specs.declared.method.Method.{Method}
use Rattle.app_machine.specs.declared.papers.Manifest.{Manifest}
use Rattle.app_machine.specs.declared.papers.Layouts.{Layouts}
use Rattle.app_machine.specs.Names.{Name}
use Rattle.link_code.specs.declared.coded.Coded.{Coded}
use Rattle.link_code.specs.Code.{all_codes}
use Rattle.link_code.specs.Units.{units_in}
use Rattle.link_listing.specs.declared.fault.Fault.{Fault}
use Rattle.link_listing.specs.Components.{providers_of}
use Rattle.app_link.specs.Frame.{IsFrame, before_code}
use Rattle.link_listing.specs.Gathered.{Gathered, gathering}
use Rattle.link_hierarchy.specs.Hierarchy.{HasOuters, without_outer, renamed}
use Rattle.app_link.specs.IsApp.{IsApp}
use Rattle.app_link.specs.Limits.{within_limits}
use Rattle.link_code.specs.Methods.{all_methods}
use Rattle.link_code.specs.StaticList.{AreStatics}
use Rattle.link_code.proofs.AreCoded.{coding_stands}
use Rattle.link_listing.proofs.InFiles.{gathering_stands}
use Rattle.app_link.proofs.Limits.{limits_stand, same_limits}

within : (dexes : List Dex) (gathered : Gathered) (classes methods fields units : ℕ) → classes ≡ length gathered.classes → methods ≡ length gathered.methods → fields ≡ length gathered.fields → units ≡ min (units_in dexes gathered.methods) 18446744073709551615
    → run (within_limits classes methods fields units) ≡ Ok tt → run (within_limits (length gathered.classes) (length gathered.methods) (length gathered.fields) (units_in dexes gathered.methods)) ≡ Ok tt
within dexes gathered classes methods fields units one two three four e =
    let total : ℕ = units_in dexes gathered.methods in
    subst (λ (n : ℕ). run (within_limits n (length gathered.methods) (length gathered.fields) total) ≡ Ok tt) one
    (subst (λ (n : ℕ). run (within_limits classes n (length gathered.fields) total) ≡ Ok tt) two
    (subst (λ (n : ℕ). run (within_limits classes methods n total) ≡ Ok tt) three
    (subst (λ (s : Script Fault (Unit {0})). run s ≡ Ok tt) (same_limits classes methods fields units total four) e)))

module _ (laws : CodeLaws) (dexes : List Dex) (manifest : Manifest) (layouts : Layouts) (gathered : Gathered) (coded : List Coded) (frame app : App)
    (is : IsFrame gathered.classes gathered.fields frame) (others : app ≡ record frame { statics = app.statics; methods = app.methods }) where
  -- the app before its statics and methods were put in
  before : before_code app ≡ frame
  before =
      let none : before_code app ≡ record frame { statics = []; methods = [] } = ap before_code others in
      let one : record frame { statics = []; methods = [] } ≡ record frame { methods = [] } = ap (λ (ss : List (Name × Name × Name)). record frame { statics = ss; methods = [] }) (sym is.statics) in
      let two : record frame { methods = [] } ≡ frame = ap (λ (ms : List Method). record frame { methods = ms }) (sym is.methods) in
      none ∙ (one ∙ two)

  same_classes : app.classes ≡ frame.classes
  same_classes = ap (λ (a : App). a.classes) others

  pub is_app : (classes methods fields units : ℕ) → classes ≡ length gathered.classes → methods ≡ length gathered.methods → fields ≡ length gathered.fields → units ≡ min (units_in dexes gathered.methods) 18446744073709551615
      → run (gathering dexes manifest) ≡ Ok gathered → run (all_codes dexes gathered.methods) ≡ Ok coded → run (within_limits classes methods fields units) ≡ Ok tt
      → frame.components ≡ gathered.components → frame.clicks ≡ layouts.clicks → frame.providers ≡ providers_of manifest → frame.layout_classes ≡ layouts.classes
      → AreStatics frame gathered.fields dexes coded app.statics → app.methods ≡ all_methods frame gathered.fields app.statics dexes coded
      → IsApp dexes manifest layouts app
  is_app classes methods fields units one two three four gathers codes limits components clicks providers layout_classes statics lifted = record {
    gathered = gathered;
    gathers = gathering_stands dexes manifest gathered gathers;
    no_circle = is.no_circle;
    coded = coded;
    codes = coding_stands laws dexes gathered.methods coded codes;
    limits = limits_stand (length gathered.classes) (length gathered.methods) (length gathered.fields) (units_in dexes gathered.methods) (within dexes gathered classes methods fields units one two three four limits);
    classes = subst (λ (cs : List Class). map without_outer cs ≡ map renamed gathered.classes) (sym same_classes) is.classes;
    outers = subst HasOuters (sym same_classes) is.outers;
    keys = ap (λ (a : App). a.keys) others ∙ is.keys;
    components = ap (λ (a : App). a.components) others ∙ components;
    clicks = ap (λ (a : App). a.clicks) others ∙ clicks;
    providers = ap (λ (a : App). a.providers) others ∙ providers;
    layout_classes = ap (λ (a : App). a.layout_classes) others ∙ layout_classes;
    statics = subst (λ (a : App). AreStatics a gathered.fields dexes coded app.statics) (sym before) statics;
    methods = lifted ∙ ap (λ (a : App). all_methods a gathered.fields app.statics dexes coded) (sym before);
  }
