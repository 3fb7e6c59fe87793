-- Rule 48 gives its rows, and no others.
use Rattle.std.proofs.Common.{◌≡◌, ◌≢◌, ℕ, [], ◌∷◌, inl, inr, true, false, Some, refl, sym, ap, subst, ◌∙◌, arith}
use Rattle.std.specs.Prelude.{codes}
use Rattle.std.proofs.lemmas.Option.{none-some, same_Some}
use Rattle.app_machine.specs.declared.app.Class.{Class}
use Rattle.app_machine.specs.declared.call.CallKind.TheVariants.{Static}
use Rattle.app_machine.specs.declared.lists.SummaryId.{SummaryId}
use Rattle.app_machine.specs.declared.lists.SummaryId.TheVariants.{Row as RowOf}
use Rattle.app_machine.specs.declared.method.Act.{Act}
use Rattle.app_machine.specs.declared.method.Act.TheVariants.{Call}
use Rattle.app_machine.specs.declared.method.Step.{Step}
use Rattle.app_machine.specs.Names.{Name, same_name, is_reference, is_array, array_of, object_class}
use Rattle.app_machine.specs.Lookups.{Goes, ActAt, step_at, class_named}
use Rattle.app_machine.specs.Library.{shared_class}
use Rattle.app_machine.specs.Summaries.{summary, listed_above, listed_class, ClassBelow, Below, is_same, is_object, is_through, is_listed, of_class, of_array, of_elements}
use Rattle.app_machine.specs.declared.app.App.{App}
use Rattle.app_machine.specs.declared.lists.Lists.{Lists}
use Rattle.access_path.specs.declared.path.Path.{Path}
use Rattle.fact_rows.specs.declared.context.Ctx.{Ctx}
use Rattle.fact_rows.specs.declared.context.Node.{Node}
use Rattle.fact_rows.specs.declared.row.Row.{Row}
use Rattle.fact_rows.specs.declared.row.Row.TheVariants.{Live, CompTaint, Handed, Uses}
use Rattle.fact_rows.specs.declared.site.Site.TheVariants.{Component, Shared}
use Rattle.flow_rules.specs.HandedRules.{HandedRule, MayGiveBack, handed_points, handed_taint, live_points, live_taint}
use Rattle.flow_rules.specs.LibraryRules.{RowAt}
use Rattle.flow_rules.specs.Rules.{by_handed}
use Rattle.flow_rules.specs.Sites.{SiteClass, site_class}
use Rattle.vet_base.proofs.Texts.{same_itself}
use Rattle.vet_base.specs.Members.{In}
use Rattle.rule_witness.specs.Smallest.{main_class, activity_class}
use Rattle.rule_witness.specs.StepFacts.{does}
use Rattle.rule_witness.specs.CallFacts.{box_class}
use Rattle.rule_witness.specs.HandedFacts.{gives_back, back_row, handed_app, handed_lists, call_in, HandedRulesHold, HandedRulesWithhold}

abbrev the_call : Step
the_call = does 0 (Call Static gives_back []) (1 ∷ [])

at_call : (c : Ctx) → RowAt handed_app handed_lists (call_in c) (RowOf 0)
unfolding handed_app handed_lists step_at summary
at_call c = record { kind = Static; at = gives_back; args = []; row = back_row; act = record { step = the_call; there = refl; same = refl }; is_row = refl }

abbrev activity : Class
activity = record { name = main_class; superclass = Some activity_class; interfaces = []; is_interface = false; outer = activity_class ∷ []; bare = [] }

may : (c : Ctx) → MayGiveBack handed_app handed_lists (call_in c) (RowOf 0) (Component 0)
unfolding handed_app site_class class_named is_reference at_call
may c = record {
  call = at_call c;
  is_handed = refl;
  reference = refl;
  class = main_class;
  of_class = record { is_class = refl };
  below = of_class (is_through activity refl (inl refl) is_same);
}

goes : Goes handed_app 0 0 1
unfolding handed_app step_at
goes = record { step = the_call; there = refl; next = inl refl }

one : ◌≢◌ {A = ℕ} 1 0
one e = omega (arith, e)

pub handed_rules_hold : HandedRulesHold
handed_rules_hold c p l = record {
  handed_site = by_handed (handed_points (may c) goes);
  handed_label = by_handed (handed_taint (may c) goes);
  live_site = by_handed (live_points (may c) one goes);
  live_label = by_handed (live_taint (may c) one goes);
}

-- the class of the shared object is the box's
is_box : (class : Name) → SiteClass handed_app handed_lists (Shared 0) class → box_class ≡ class
unfolding handed_lists site_class shared_class
is_box class is = same_Some box_class class is.is_class

-- the call at the node is that one
is_call : (act : Act) → ActAt handed_app 0 0 act → the_call.act ≡ act
unfolding handed_app step_at
is_call act a = ap (λ (s : Step). s.act) (same_Some the_call a.step a.there) ∙ a.same

ret_of : Act → Name
ret_of (Call kind at args) = at.proto.ret
ret_of act = []

differ : (a b : Name) → same_name a b ≡ false → a ≡ b → ⊥
differ a b other same = let is : same_name a b ≡ true = subst (λ x. same_name a x ≡ true) same (same_itself a) in absurd cc

-- a box is no class of the app, and the lists have it alone above itself
no_above : (above : Class) → class_named handed_app box_class ≡ Some above → ⊥
unfolding handed_app class_named
no_above above there = none-some above there

no_listed : (type : Name) → type ≡ activity_class → In type (listed_above handed_lists box_class) → ⊥
unfolding handed_lists listed_above listed_class
no_listed type t (inl same) = differ activity_class box_class refl (sym t ∙ same)
no_listed type t (inr none) = none

no_object : (type : Name) → type ≡ activity_class → type ≡ object_class → ⊥
unfolding object_class
no_object type t object = differ activity_class (codes "Ljava/lang/Object;") refl (sym t ∙ object)

no_class : (class type : Name) → class ≡ box_class → type ≡ activity_class → ClassBelow handed_app handed_lists class type → ⊥
no_class class type c t is_same = differ box_class activity_class refl (sym c ∙ t)
no_class class type c t (is_object object) = no_object type t object
no_class class type c t (is_through above there at rest) = no_above above (ap (class_named handed_app) (sym c) ∙ there)
no_class class type c t (is_listed among) = no_listed type t (subst (λ x. In type (listed_above handed_lists x)) c among)

no_array : (class : Name) → class ≡ box_class → is_array class ≡ true → ⊥
unfolding is_array
no_array class c array = let is : is_array box_class ≡ true = subst (λ x. is_array x ≡ true) c array in absurd cc

no_elements : (element : Name) → array_of element ≡ box_class → ⊥
no_elements element c = differ (array_of element) box_class refl c

no_box : (class type : Name) → class ≡ box_class → type ≡ activity_class → Below handed_app handed_lists class type → ⊥
no_box class type c t (of_class below) = no_class class type c t below
no_box class type c t (of_array array among) = no_array class c array
no_box class type c t (of_elements {class = element} reference below) = no_elements element c

no_activity : (c : Ctx) → MayGiveBack handed_app handed_lists (call_in c) (RowOf 0) (Shared 0) → ⊥
unfolding ret_of
no_activity c given =
    let act = is_call (Call given.call.kind given.call.at given.call.args) given.call.act in
    no_box given.class given.call.at.proto.ret (sym (is_box given.class given.of_class)) (sym (ap ret_of act)) given.below

absent : {app : App} {lists : Lists} {n : Node} {u : SummaryId} {d : ℕ} {row : Row} → HandedRule app lists 48 (Uses n u ∷ Live d 0 ∷ []) row → ⊥
absent (live_points given there _) = there refl

label_of_absent : {app : App} {lists : Lists} {n : Node} {u : SummaryId} {d e state l : ℕ} {p : Path} {row : Row} →
    HandedRule app lists 48 (Uses n u ∷ Live d 0 ∷ CompTaint e state p l ∷ []) row → ⊥
label_of_absent (live_taint given there _) = there refl

other_class : {n : Node} {row : Row} (c : Ctx) → call_in c ≡ n → HandedRule handed_app handed_lists 48 (Uses n (RowOf 0) ∷ Handed (Shared 0) ∷ []) row → ⊥
other_class c e (handed_points given _) = no_activity c (subst (λ m. MayGiveBack handed_app handed_lists m (RowOf 0) (Shared 0)) (sym e) given)

pub handed_rules_withhold : HandedRulesWithhold
handed_rules_withhold app lists n u d c p l row = record { absent = absent; label_of_absent = label_of_absent; other_class = other_class c refl }
