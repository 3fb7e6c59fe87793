-- The facts of linking hold by what the definitions say.
use Rattle.std.proofs.Common.{◌≡◌, ◌<◌, ◌≤◌, Bool, true, false, [], ◌∷◌, refl, subst, inl, lit<, lit≤}
use Rattle.std.specs.Prelude.{IsTrue, ◌↔◌}
use Rattle.std.specs.BTreeMap.{is_at}
use Rattle.std.specs.List.{All, AllByRecursion, IsDistinct}
use Rattle.std.specs.List.Sorted.{IsStrictlySortedBy}
use Rattle.std.specs.declared.cmp.Ordering.TheVariants.{Less}
use Rattle.vet_base.specs.Members.{In}
use Rattle.vet_base.proofs.Members.{all_from_in, each_in}
use Rattle.vet_base.proofs.Texts.{tied_equal}
use Rattle.app_machine.specs.Names.{Name}
use Rattle.app_machine.specs.Sound.{name_order}
use Rattle.app_link.specs.Keys.{all_keys}
use Rattle.app_link.specs.Limits.{within_limits}
use Rattle.dex_reader.specs.Sound.{SoundDex}
use Rattle.link_code.specs.Methods.{all_methods}
use Rattle.link_code.specs.StaticList.{statics_named}
use Rattle.link_hierarchy.specs.Hierarchy.{Above, beyond, directly}
use Rattle.link_hierarchy.proofs.Stuck.{no_circle, starts}
use Rattle.link_listing.specs.Components.{components_of, providers_of}
use Rattle.link_listing.specs.InFiles.{classes_in, classes_of, fields_in, fields_of, methods_in, methods_of}
use Rattle.link_listing.specs.Orders.{has_name, named}
use Rattle.form_witness.specs.Linked.{AppsTell, HierarchyTells, circle, first_class, interface, no_classes, second_class}

first_up : Above circle first_class second_class
unfolding circle named
first_up = directly (interface first_class second_class) refl (inl refl)

second_up : Above circle second_class first_class
unfolding circle named
second_up = directly (interface second_class first_class) refl (inl refl)

first_circle : Above circle first_class first_class
first_circle = beyond first_up second_up

none_less : (other : Name) (a b : Bool) → is_at (name_order other) first_class ≡ a → is_at (name_order other) second_class ≡ b → IsTrue (has_name circle other) → name_order other first_class ≡ Less → ⊥
unfolding circle named
none_less other true b is_first is_second there less = let e = tied_equal other first_class is_first in let clash = subst (λ (n : Name). name_order n first_class ≡ Less) e less in cc
none_less other false true is_first is_second there less = let e = tied_equal other second_class is_second in let clash = subst (λ (n : Name). name_order n first_class ≡ Less) e less in cc
none_less other false false is_first is_second there less = cc

pub hierarchy_tells : HierarchyTells
hierarchy_tells = record {
  least = record {
    circle = first_circle;
    least = λ other above less. none_less other _ _ refl refl (starts circle other other above) less;
  };
  not_greater = λ is. is.least first_class first_circle refl;
  not_settled = λ outers settled. (no_circle circle outers settled).none first_class first_circle;
}

-- no class is above another one where there is none
nothing_above : {name above : Name} → Above [] name above → ⊥
unfolding named
nothing_above (directly class is k) = cc
nothing_above (beyond p q) = nothing_above p

none : {A : Type 0} (P : A → Type 0) → All P []
none P = all_from_in P [] (λ x h. absurd h)

no_pairs : {X : Type 0} (entry : X) → In entry [] ↔ In entry []
no_pairs entry = (λ h. h, λ h. h)

sound_file : SoundDex no_classes
sound_file = record {
  strings_size = lit< tt;
  types_size = lit< tt;
  protos_size = lit< tt;
  fields_size = lit< tt;
  methods_size = lit< tt;
  types = none _;
  protos = none _;
  fields = none _;
  methods = none _;
  classes = none _;
  names_limit = lit≤ tt;
  lists_limit = lit≤ tt;
  classes_limit = lit≤ tt;
  members_limit = lit≤ tt;
  units_limit = lit≤ tt;
  tries_limit = lit≤ tt;
}

files : AllByRecursion SoundDex (no_classes ∷ no_classes ∷ [])
files = (sound_file, (sound_file, tt))

pub apps_tell : AppsTell
unfolding IsDistinct IsStrictlySortedBy classes_in classes_of fields_in fields_of methods_in methods_of components_of providers_of all_keys statics_named all_methods within_limits
apps_tell = record {
  sound = all_from_in SoundDex (no_classes ∷ no_classes ∷ []) (λ dex h. each_in SoundDex (no_classes ∷ no_classes ∷ []) dex files h);
  two_files = record {
    gathered = record { classes = []; fields = []; methods = []; components = [] };
    gathers = record {
      classes = record { once = tt; sorted = tt; each = no_pairs };
      fields = record { once = tt; sorted = tt; each = no_pairs };
      methods = record { once = tt; sorted = tt; each = no_pairs };
      components = refl;
      known = λ c h. absurd h;
    };
    no_circle = record { none = λ name p. nothing_above p };
    coded = [];
    codes = record { each = tt };
    limits = record { few_classes = lit≤ tt; few_methods = lit≤ tt; few_fields = lit≤ tt; few_units = lit≤ tt };
    classes = refl;
    outers = record { each = λ c h. absurd h };
    keys = refl;
    components = refl;
    clicks = refl;
    providers = refl;
    layout_classes = refl;
    statics = record { order = tt; each = no_pairs };
    methods = refl;
  };
  full = refl;
}
