-- Files are one app or have one first fault, and not both.
use Rattle.std.proofs.Common.{◌≡◌, Result, Ok, Err, List, map, length, refl, sym, ◌∙◌, ap, subst, ◌⊎◌, inl, inr}
use Rattle.std.specs.List.Sorted.{IsStrictlySortedBy}
use Rattle.std.specs.Map.{keys_of}
use Rattle.vet_base.specs.Script.{Script, run}
use Rattle.dex_tables.specs.declared.dex.Dex.{Dex}
use Rattle.dex_code.specs.CodeLaws.{CodeLaws}
use Rattle.app_machine.specs.declared.app.App.{App}
use Rattle.app_machine.specs.declared.app.Class.{Class}
use Rattle.app_machine.specs.declared.app.Key.{Key}
use Rattle.app_machine.specs.declared.component.Component.{Component}
use Rattle.app_machine.specs.declared.method.Method.{Method}
use Rattle.app_machine.specs.declared.papers.Manifest.{Manifest}
use Rattle.app_machine.specs.declared.papers.Layouts.{Layouts}
use Rattle.vet_base.specs.Members.{In}
use Rattle.app_machine.specs.Names.{Name}
use Rattle.app_machine.specs.Sound.{name_order}
use Rattle.link_listing.specs.declared.fault.Fault.{Fault}
use Rattle.link_listing.specs.declared.fault.Fault.TheVariants.{Circle}
use Rattle.link_code.specs.declared.coded.Coded.{Coded}
use Rattle.link_code.specs.Code.{all_codes}
use Rattle.link_code.specs.Units.{units_in}
use Rattle.app_link.specs.declared.linking.LinkFault.{LinkFault}
use Rattle.app_link.specs.declared.linking.LinkFault.TheVariants.{Memory as want_of_memory}
use Rattle.app_link.specs.FirstLinkFault.{FirstFault, FirstLinkFault, of_gathering, of_hierarchy, of_code, of_limits, shown}
use Rattle.app_link.specs.Frame.{before_code}
use Rattle.link_listing.specs.Gathered.{Gathered, gathering}
use Rattle.link_hierarchy.specs.Hierarchy.{Above, NoCircle, IsLeastCircle, without_outer, renamed}
use Rattle.app_link.specs.IsApp.{IsApp}
use Rattle.app_link.specs.Keys.{all_keys}
use Rattle.app_link.specs.Limits.{within_limits}
use Rattle.link_code.specs.Methods.{all_methods}
use Rattle.app_link.specs.OneAnswer.{OneAnswer, OnlyApp}
use Rattle.link_listing.specs.Orders.{triple_order}
use Rattle.link_hierarchy.specs.Settled.{Outers, AllSettled, filled_by}
use Rattle.link_code.specs.StaticList.{statics_named}
use Rattle.link_listing.specs.Texts.{Triple}
use Rattle.link_code.proofs.AreCoded.{coding_runs}
use Rattle.link_listing.proofs.InFiles.{gathering_runs}
use Rattle.app_link.proofs.Limits.{limits_run}
use Rattle.link_hierarchy.proofs.OneHierarchy.{classes_are, one_circle}
use Rattle.link_listing.proofs.Triples.{triple_total}
use Rattle.vet_base.proofs.Results.{ok_or_err, one_ok, one_err}
use Rattle.vet_base.proofs.Ascending.{ascending_alike}

-- the tests of the limits of what was gathered
abbrev limits : List Dex → Gathered → Script Fault (Unit {0})
limits dexes gathered = within_limits (length gathered.classes) (length gathered.methods) (length gathered.fields) (units_in dexes gathered.methods)

module _ (laws : CodeLaws) (dexes : List Dex) (manifest : Manifest) (layouts : Layouts) (app : App) (is : IsApp dexes manifest layouts app) where
  same : (gathered : Gathered) → run (gathering dexes manifest) ≡ Ok gathered → is.gathered ≡ gathered
  same gathered e = one_ok (run (gathering dexes manifest)) is.gathered gathered (gathering_runs dexes manifest is.gathered is.gathers) e

  codes_of : (gathered : Gathered) → run (gathering dexes manifest) ≡ Ok gathered → run (all_codes dexes gathered.methods) ≡ Ok is.coded
  codes_of gathered e = subst (λ (g : Gathered). run (all_codes dexes g.methods) ≡ Ok is.coded) (same gathered e) (coding_runs laws dexes is.gathered.methods is.coded is.codes)

  none : (fault : Fault) → FirstFault dexes manifest fault → ⊥
  none fault (of_gathering e) = ok_or_err (run (gathering dexes manifest)) is.gathered fault (gathering_runs dexes manifest is.gathered is.gathers) e
  none fault (of_hierarchy {name = name} gathered e circle) = is.no_circle.none name (subst (λ (g : Gathered). Above g.classes name name) (sym (same gathered e)) circle.circle)
  none fault (of_code gathered e circles fails) = ok_or_err (run (all_codes dexes gathered.methods)) is.coded fault (codes_of gathered e) fails
  none fault (of_limits gathered coded e circles codes fails) =
      let k : is.gathered ≡ gathered = same gathered e in
      let one : run (limits dexes gathered) ≡ Ok tt = subst (λ (g : Gathered). run (limits dexes g) ≡ Ok tt) k (limits_run (length is.gathered.classes) (length is.gathered.methods) (length is.gathered.fields) (units_in dexes is.gathered.methods) is.limits) in
      ok_or_err (run (limits dexes gathered)) tt fault one fails

module _ (dexes : List Dex) (manifest : Manifest) where
  -- where the hierarchy has a circle, it is not free of them
  no_circle : (one two : Gathered) (name : Name) → run (gathering dexes manifest) ≡ Ok one → run (gathering dexes manifest) ≡ Ok two → IsLeastCircle one.classes name → NoCircle two.classes → ⊥
  no_circle one two name a b circle none = none.none name (subst (λ (g : Gathered). Above g.classes name name) (one_ok (run (gathering dexes manifest)) one two a b) circle.circle)

  -- the code of files that were gathered is one result
  codes_as : (one two : Gathered) (r : Result (List Coded) Fault) → run (gathering dexes manifest) ≡ Ok one → run (gathering dexes manifest) ≡ Ok two → run (all_codes dexes one.methods) ≡ r → run (all_codes dexes two.methods) ≡ r
  codes_as one two r a b e = subst (λ (g : Gathered). run (all_codes dexes g.methods) ≡ r) (one_ok (run (gathering dexes manifest)) one two a b) e

  limits_as : (one two : Gathered) (r : Result (Unit {0}) Fault) → run (gathering dexes manifest) ≡ Ok one → run (gathering dexes manifest) ≡ Ok two → run (limits dexes one) ≡ r → run (limits dexes two) ≡ r
  limits_as one two r a b e = subst (λ (g : Gathered). run (limits dexes g) ≡ r) (one_ok (run (gathering dexes manifest)) one two a b) e

  -- there is one first fault
  pub one_fault : (f g : Fault) → FirstFault dexes manifest f → FirstFault dexes manifest g → f ≡ g
  one_fault f g (of_gathering a) (of_gathering b) = one_err (run (gathering dexes manifest)) f g a b
  one_fault f g (of_gathering a) (of_hierarchy two b circle) = absurd (ok_or_err (run (gathering dexes manifest)) two f b a)
  one_fault f g (of_gathering a) (of_code two b none d) = absurd (ok_or_err (run (gathering dexes manifest)) two f b a)
  one_fault f g (of_gathering a) (of_limits two y b none d k) = absurd (ok_or_err (run (gathering dexes manifest)) two f b a)
  one_fault f g (of_hierarchy one a circle) (of_gathering b) = absurd (ok_or_err (run (gathering dexes manifest)) one g a b)
  one_fault f g (of_hierarchy {name = x} one a circle) (of_hierarchy {name = y} two b other) =
      ap Circle (one_circle two.classes x y (subst (λ (h : Gathered). IsLeastCircle h.classes x) (one_ok (run (gathering dexes manifest)) one two a b) circle) other)
  one_fault f g (of_hierarchy {name = x} one a circle) (of_code two b none d) = absurd (no_circle one two x a b circle none)
  one_fault f g (of_hierarchy {name = x} one a circle) (of_limits two y b none d k) = absurd (no_circle one two x a b circle none)
  one_fault f g (of_code one a none c) (of_gathering b) = absurd (ok_or_err (run (gathering dexes manifest)) one g a b)
  one_fault f g (of_code one a none c) (of_hierarchy {name = x} two b circle) = absurd (no_circle two one x b a circle none)
  one_fault f g (of_code one a none c) (of_code two b other d) = one_err (run (all_codes dexes two.methods)) f g (codes_as one two (Err f) a b c) d
  one_fault f g (of_code one a none c) (of_limits two y b other d k) = absurd (ok_or_err (run (all_codes dexes two.methods)) y f d (codes_as one two (Err f) a b c))
  one_fault f g (of_limits one x a none c h) (of_gathering b) = absurd (ok_or_err (run (gathering dexes manifest)) one g a b)
  one_fault f g (of_limits one x a none c h) (of_hierarchy {name = n} two b circle) = absurd (no_circle two one n b a circle none)
  one_fault f g (of_limits one x a none c h) (of_code two b other d) = absurd (ok_or_err (run (all_codes dexes two.methods)) x g (codes_as one two (Ok x) a b c) d)
  one_fault f g (of_limits one x a none c h) (of_limits two y b other d k) = one_err (run (limits dexes two)) f g (limits_as one two (Err f) a b h) k

-- files that are an app have no fault, and no two faults are the first
pub one_answer : (laws : CodeLaws) (dexes : List Dex) (manifest : Manifest) (layouts : Layouts) → OneAnswer dexes manifest layouts
one_answer laws dexes manifest layouts = record {
  not_both = λ app fault is f. none laws dexes manifest layouts app is f.found f.first;
  one_fault = λ e f a b. a.shows ∙ (ap shown (one_fault dexes manifest a.found b.found a.first b.first) ∙ sym b.shows);
}

-- what is told of the first fault is told of no other
pub told_alone : (dexes : List Dex) (manifest : Manifest) (layouts : Layouts) (fault : Fault) (told f : LinkFault) → FirstFault dexes manifest fault → (told ≡ want_of_memory) ⊎ (told ≡ shown fault) → FirstLinkFault dexes manifest layouts f
    → (let r : Result App LinkFault = Err told in r ≡ Err f) ⊎ (let r : Result App LinkFault = Err told in r ≡ Err want_of_memory)
told_alone dexes manifest layouts fault told f here (inl memory) first = inr (ap (λ (x : LinkFault). Err x) memory)
told_alone dexes manifest layouts fault told f here (inr shows) first = inl (ap (λ (x : LinkFault). Err x) (shows ∙ (ap shown (one_fault dexes manifest fault first.found here first.first) ∙ sym first.shows)))

-- where the first fault is told there is no app
pub no_app : (laws : CodeLaws) (dexes : List Dex) (manifest : Manifest) (layouts : Layouts) (fault : Fault) (told : LinkFault) (app : App) → FirstFault dexes manifest fault → (told ≡ want_of_memory) ⊎ (told ≡ shown fault) → IsApp dexes manifest layouts app
    → (let r : Result App LinkFault = Err told in r ≡ Ok app) ⊎ (let r : Result App LinkFault = Err told in r ≡ Err want_of_memory)
no_app laws dexes manifest layouts fault told app here (inl memory) is = inr (ap (λ (x : LinkFault). Err x) memory)
no_app laws dexes manifest layouts fault told app here (inr shows) is = absurd (none laws dexes manifest layouts app is fault here)

app_of : List Class → List Method → List Key → List Triple → List Component → List Name → List Name → List Name → App
app_of classes methods keys statics components clicks providers layout_classes = record { classes = classes; methods = methods; keys = keys; statics = statics; components = components; clicks = clicks; providers = providers; layout_classes = layout_classes }

parts_of : (app : App) → app ≡ app_of app.classes app.methods app.keys app.statics app.components app.clicks app.providers app.layout_classes
unfolding app_of
parts_of app = refl

-- two apps of the same parts
same_app : (a b : App) → a.classes ≡ b.classes → a.methods ≡ b.methods → a.keys ≡ b.keys → a.statics ≡ b.statics → a.components ≡ b.components → a.clicks ≡ b.clicks → a.providers ≡ b.providers → a.layout_classes ≡ b.layout_classes → a ≡ b
same_app a b one two three four five six seven eight =
    let same : app_of a.classes a.methods a.keys a.statics a.components a.clicks a.providers a.layout_classes ≡ app_of b.classes b.methods b.keys b.statics b.components b.clicks b.providers b.layout_classes = cc in
    parts_of a ∙ (same ∙ sym (parts_of b))

module _ (laws : CodeLaws) (dexes : List Dex) (manifest : Manifest) (layouts : Layouts) (gathered : Gathered) (outers : Outers) (gathers : run (gathering dexes manifest) ≡ Ok gathered) (sorted : IsStrictlySortedBy name_order (keys_of gathered.classes))
    (settled : AllSettled gathered.classes outers) where
  gathered_as : (app : App) (is : IsApp dexes manifest layouts app) → is.gathered ≡ gathered
  gathered_as app is = one_ok (run (gathering dexes manifest)) is.gathered gathered (gathering_runs dexes manifest is.gathered is.gathers) gathers

  classes_as : (app : App) (is : IsApp dexes manifest layouts app) → app.classes ≡ map (filled_by outers) gathered.classes
  classes_as app is = classes_are gathered.classes outers sorted settled app.classes (subst (λ (g : Gathered). map without_outer app.classes ≡ map renamed g.classes) (gathered_as app is) is.classes) is.outers

  module _ (a b : App) (one : IsApp dexes manifest layouts a) (two : IsApp dexes manifest layouts b) where
    same_gathered : one.gathered ≡ two.gathered
    same_gathered = gathered_as a one ∙ sym (gathered_as b two)

    same_coded : one.coded ≡ two.coded
    same_coded = one_ok (run (all_codes dexes two.gathered.methods)) one.coded two.coded (subst (λ (g : Gathered). run (all_codes dexes g.methods) ≡ Ok one.coded) same_gathered (coding_runs laws dexes one.gathered.methods one.coded one.codes)) (coding_runs laws dexes two.gathered.methods two.coded two.codes)

    same_classes : a.classes ≡ b.classes
    same_classes = classes_as a one ∙ sym (classes_as b two)

    same_keys : a.keys ≡ b.keys
    same_keys = one.keys ∙ (ap (λ (g : Gathered). all_keys g.fields) same_gathered ∙ sym two.keys)

    same_components : a.components ≡ b.components
    same_components = one.components ∙ (ap (λ (g : Gathered). g.components) same_gathered ∙ sym two.components)

    same_before : before_code a ≡ before_code b
    same_before = same_app (before_code a) (before_code b) same_classes refl same_keys refl same_components (one.clicks ∙ sym two.clicks) (one.providers ∙ sym two.providers) (one.layout_classes ∙ sym two.layout_classes)

    same_named : statics_named (before_code a) one.gathered.fields dexes one.coded ≡ statics_named (before_code b) two.gathered.fields dexes two.coded
    same_named =
        let first : statics_named (before_code a) one.gathered.fields dexes one.coded ≡ statics_named (before_code b) one.gathered.fields dexes one.coded = ap (λ (x : App). statics_named x one.gathered.fields dexes one.coded) same_before in
        let second : statics_named (before_code b) one.gathered.fields dexes one.coded ≡ statics_named (before_code b) two.gathered.fields dexes one.coded = ap (λ (g : Gathered). statics_named (before_code b) g.fields dexes one.coded) same_gathered in
        let third : statics_named (before_code b) two.gathered.fields dexes one.coded ≡ statics_named (before_code b) two.gathered.fields dexes two.coded = ap (λ (c : List Coded). statics_named (before_code b) two.gathered.fields dexes c) same_coded in
        first ∙ (second ∙ third)

    same_statics : a.statics ≡ b.statics
    same_statics = ascending_alike triple_order triple_total a.statics b.statics one.statics.order two.statics.order (λ t. (λ k. (two.statics.each t).1 (subst (λ (ts : List Triple). In t ts) same_named ((one.statics.each t).0 k)), λ k. (one.statics.each t).1 (subst (λ (ts : List Triple). In t ts) (sym same_named) ((two.statics.each t).0 k))))

    same_methods : a.methods ≡ b.methods
    same_methods =
        let first : all_methods (before_code a) one.gathered.fields a.statics dexes one.coded ≡ all_methods (before_code b) one.gathered.fields a.statics dexes one.coded = ap (λ (x : App). all_methods x one.gathered.fields a.statics dexes one.coded) same_before in
        let second : all_methods (before_code b) one.gathered.fields a.statics dexes one.coded ≡ all_methods (before_code b) two.gathered.fields a.statics dexes one.coded = ap (λ (g : Gathered). all_methods (before_code b) g.fields a.statics dexes one.coded) same_gathered in
        let third : all_methods (before_code b) two.gathered.fields a.statics dexes one.coded ≡ all_methods (before_code b) two.gathered.fields b.statics dexes one.coded = ap (λ (s : List Triple). all_methods (before_code b) two.gathered.fields s dexes one.coded) same_statics in
        let fourth : all_methods (before_code b) two.gathered.fields b.statics dexes one.coded ≡ all_methods (before_code b) two.gathered.fields b.statics dexes two.coded = ap (λ (c : List Coded). all_methods (before_code b) two.gathered.fields b.statics dexes c) same_coded in
        one.methods ∙ (first ∙ (second ∙ (third ∙ (fourth ∙ sym two.methods))))

    same_apps : a ≡ b
    same_apps = same_app a b same_classes same_methods same_keys same_statics same_components (one.clicks ∙ sym two.clicks) (one.providers ∙ sym two.providers) (one.layout_classes ∙ sym two.layout_classes)

  -- the files are no other app
  pub only_app : (app : App) → IsApp dexes manifest layouts app → OnlyApp dexes manifest layouts app
  only_app app is = record { only = λ other is_too. same_apps other app is_too is }
