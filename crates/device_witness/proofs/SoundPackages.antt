-- The app of two packages is sound.
use Rattle.std.proofs.Common.{◌<◌, ℕ, [], if◌then◌else◌, refl, lit<, arith}
use Rattle.std.specs.List.{AllByRecursion}
use Rattle.vet_base.proofs.Members.{each_in, in_slice_get}
use Rattle.app_machine.specs.declared.app.Class.{Class}
use Rattle.app_machine.specs.Lookups.{directly_above}
use Rattle.app_machine.specs.Names.{Name, same_name}
use Rattle.app_machine.specs.Sound.{IsAbove, ShortLists, SoundApp, beyond, directly}
use Rattle.lookup_witness.specs.Shapes.{object}
use Rattle.device_witness.specs.Packages.{up_class, packages}

-- How high a class stands: each class below those directly above it, so that none is above itself.
height : Name → ℕ
height name = if same_name name object then 2 else if same_name name up_class then 1 else 0

abbrev Climbs : Class → Type 0
Climbs c = AllByRecursion (λ above. height c.name < height above) (directly_above c)

all_climb : AllByRecursion Climbs packages.classes
unfolding packages height
all_climb = ((lit< tt, tt), ((lit< tt, tt), ((lit< tt, tt), tt)))

higher : {class above : Name} → IsAbove packages class above → height class < height above
higher (directly {above} c there i) = each_in (λ z. height c.name < height z) (directly_above c) above (each_in Climbs packages.classes c all_climb there) i
higher (beyond below above) = let first = higher below in let second = higher above in omega (arith, first, second)

no_circle : (class : Name) → IsAbove packages class class → ⊥
no_circle class h = let lt = higher h in let none : ⊥ = omega (arith, lt) in none

short : ShortLists packages
unfolding packages
short = record {
  classes = lit< tt;
  methods = lit< tt;
  keys = lit< tt;
  statics = lit< tt;
  components = lit< tt;
  clicks = lit< tt;
  providers = lit< tt;
  layout_classes = lit< tt;
}

pub sound_packages : SoundApp packages
unfolding packages
sound_packages = record {
  short = short;
  classes = (refl, (refl, tt));
  methods = tt;
  fields = [];
  keys = refl;
  fields_order = tt;
  statics = tt;
  no_circle = no_circle;
  component_classes = λ c h. absurd h;
  application_first = λ c is. absurd (in_slice_get packages.components c is.component is.there.there);
  bodies = λ m h. absurd h;
}
