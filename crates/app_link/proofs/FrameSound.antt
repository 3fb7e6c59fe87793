-- The app before its methods are put in is sound.
use Rattle.std.proofs.Common.{◌≡◌, ℕ, zero, suc, ◌+◌, ◌<◌, ◌≤◌, List, [], ◌∷◌, length, Some, refl, ◌∙◌, ap, subst, arith}
use Rattle.std.specs.Prelude.{IsTrue, slice_get}
use Rattle.app_machine.specs.declared.app.App.{App}
use Rattle.app_machine.specs.declared.app.Class.{Class}
use Rattle.app_machine.specs.declared.method.Method.{Method}
use Rattle.app_machine.specs.declared.component.Kind.TheVariants as kinds
use Rattle.app_machine.specs.declared.component.Component.{Component}
use Rattle.vet_base.specs.Members.{In}
use Rattle.app_machine.specs.Names.{Name}
use Rattle.app_machine.specs.Events.{IsApplication}
use Rattle.app_machine.specs.Sound.{SoundApp, SoundMethod}
use Rattle.link_listing.specs.MemberRows.{Fields}
use Rattle.link_listing.specs.Components.{NoApplication, OnlyFirst}
use Rattle.link_listing.specs.Orders.{has_name}
use Rattle.app_link.specs.Keys.{all_keys}
use Rattle.link_hierarchy.specs.Hierarchy.{without_outer, renamed}
use Rattle.app_link.specs.Frame.{IsFrame}
use Rattle.app_link.proofs.FrameClasses.{classes_ascend, no_circle, class_of_entry}
use Rattle.app_link.proofs.KeyOrder.{instances, are_keys, instances_ascend, few_keys}
use Rattle.vet_base.proofs.Lists.{length_maps}

none_at : (cs : List Component) (i : ℕ) (c : Component) → slice_get cs i ≡ Some c → c.kind ≡ kinds.Application → NoApplication cs → ⊥
none_at [] i c e k others = cc
none_at (d ∷ ds) zero c e k others = let same : d ≡ c = cc in others.0 (ap (λ (x : Component). x.kind) same ∙ k)
none_at (d ∷ ds) (suc i) c e k others = none_at ds i c e k others.1

pub first_alone : (cs : List Component) (i : ℕ) (c : Component) → slice_get cs i ≡ Some c → c.kind ≡ kinds.Application → OnlyFirst cs → i ≡ 0
first_alone [] i c e k only = absurd cc
first_alone (d ∷ ds) zero c e k only = refl
first_alone (d ∷ ds) (suc i) c e k only = absurd (none_at ds i c e k only)

module _ (entries : List (Name × Class)) (fields : Fields) (app : App) (frame : IsFrame entries fields app) where
  classes_short : length app.classes < 4294967296
  classes_short = let h : length app.classes ≡ length entries = length_maps without_outer renamed app.classes entries frame.classes in let k : length entries < 4294967296 = frame.few_classes in omega (arith, h, k)

  keys_short : length app.keys < 4294967296
  keys_short = let h : length (all_keys fields) ≤ 1 + length fields = few_keys fields in let k : length fields < 4294967295 = frame.few_fields in let e : length app.keys ≡ length (all_keys fields) = ap length frame.keys in omega (arith, h, k, e)

  known : (c : Component) → In c app.components → (k : Class) × In k app.classes × (k.name ≡ c.class)
  known c k =
      let there : IsTrue (has_name entries c.class) = frame.fit.known c k in
      class_of_entry app.classes entries c.class frame.classes there

  first : (c : ℕ) → IsApplication app c → c ≡ 0
  first c is = first_alone app.components c is.component is.there.there is.kind frame.fit.first

  bodies : (m : Method) → In m app.methods → SoundMethod app m
  bodies m k = absurd (subst (λ (ms : List Method). In m ms) frame.methods k)

  pub frame_sound : SoundApp app
  frame_sound = record {
    short = record {
      classes = classes_short;
      methods = let h : length app.methods ≡ 0 = ap length frame.methods in omega (arith, h);
      keys = keys_short;
      statics = let h : length app.statics ≡ 0 = ap length frame.statics in omega (arith, h);
      components = frame.few_components;
      clicks = frame.few_clicks;
      providers = frame.few_providers;
      layout_classes = frame.few_layout_classes;
    };
    classes = classes_ascend app.classes entries frame.classes frame.sorted;
    methods = rw frame.methods tt;
    fields = instances fields;
    keys = rw frame.keys (are_keys fields);
    fields_order = instances_ascend fields frame.sorted_fields;
    statics = rw frame.statics tt;
    no_circle = no_circle app entries frame.classes frame.sorted frame.no_circle;
    component_classes = known;
    application_first = first;
    bodies = bodies;
  }
