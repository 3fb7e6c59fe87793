-- What is told of a device, in the app of two packages and in the small app of the look-ups. Behind each fact stands what a slip
-- would tell.
use Rattle.std.specs.Prelude.{◌≡◌, true, false, List, [], ◌∷◌, ◌++◌, codes}
use Rattle.app_machine.specs.Sound.{SoundApp}
use Rattle.app_machine.specs.Names.{Name}
use Rattle.link_access.specs.Access.{Accesses}
use Rattle.link_access.specs.Flags.{is_open}
use Rattle.device_lists.specs.declared.DeviceLists.{DeviceLists}
use Rattle.outcomes.specs.declared.outcome.Cause.{Cause}
use Rattle.outcomes.specs.declared.outcome.Cause.TheVariants.{Hidden, InterfaceCode, PlatformClass, UnlistedClass, LibraryStatic, Click, NamedClass}
use Rattle.outcomes.specs.declared.outcome.MethodName.{MethodName}
use Rattle.device_causes.specs.DeviceCauses.{device_causes}
use Rattle.lookup_witness.specs.Shapes.{object, base_class, screen_class, worker_class, int, go, shapes}
use Rattle.device_witness.specs.Packages.{up_class, near_class, far_class, packages, send, nothing, seen, shut_ones, package_ones, open_ones, has, all_known, lists_of, device, strict}

-- of the app of two packages, under lists that know every class above
abbrev pub told : Accesses → DeviceLists → List Name → List Cause
told access lists named = device_causes packages access all_known lists named

abbrev pub method : Name → Name → Name → MethodName
method class name descriptor = record { class = class; name = name; descriptor = descriptor }

-- of the small app: what clicks name, and a static field that the app defines or not
abbrev pub tapped : Name
tapped = codes "(Landroid/view/View;)V"

abbrev pub own_static : Accesses
own_static = (base_class, record { is_interface = false; methods = []; statics = (codes "s", int) ∷ [] }) ∷ []

abbrev pub taps : Accesses
taps = own_static ++ has screen_class (seen (codes "tap") tapped false true ∷ []) ∷ has worker_class (seen (codes "tap") tapped false true ∷ []) ∷ []

pub record DeviceIsTold : Type 0 where
  -- the apps are sound, as the code asks
  pub sound_packages : SoundApp packages
  pub sound_shapes : SoundApp shapes
  -- a private method below a public one is told, and one below another package's (else neither)
  pub private_below : told (has near_class shut_ones ∷ has up_class open_ones ∷ []) strict [] ≡ Hidden (method near_class send nothing) ∷ []
  pub other_package : told (has up_class package_ones ∷ has far_class open_ones ∷ []) strict [] ≡ Hidden (method far_class send nothing) ∷ []
  -- one of the same package overrides it, and so does one below a public method (else both are told), and none overrides a private one
  pub one_package : told (has near_class open_ones ∷ has up_class package_ones ∷ []) strict [] ≡ []
  pub public_above : told (has up_class open_ones ∷ has far_class open_ones ∷ []) strict [] ≡ []
  pub of_private : told (has near_class open_ones ∷ has up_class shut_ones ∷ []) strict [] ≡ []
  -- code of an interface is told (else nothing)
  pub in_interface : told ((up_class, record { is_interface = true; methods = open_ones; statics = [] }) ∷ []) strict [] ≡ InterfaceCode (method up_class send nothing) ∷ []
  -- of a name the longest beginning decides: that of the platform, and that of a class which is brought along (else both or neither)
  pub longest : told [] (device true (codes "La/" ∷ []) (codes "La/U" ∷ [])) [] ≡ PlatformClass near_class ∷ []
  -- a class above that the lists do not have is told once (else none, or for each class below it)
  pub unlisted : device_causes packages [] (lists_of []) strict [] ≡ UnlistedClass object ∷ []
  -- of a static field that the app does not define a put is told, and no get of a number; of one that it defines neither
  pub put : device_causes shapes [] all_known strict [] ≡ LibraryStatic (record { at = go; pc = 1 }) ∷ []
  pub own_put : device_causes shapes own_static all_known strict [] ≡ []
  -- the click of a service is told, and that of an activity is not (else both or none)
  pub clicks : device_causes shapes taps all_known strict [] ≡ Click (method worker_class (codes "tap") tapped) ∷ []
  -- who sees a protected method sees it in other packages too (else it would count as one of its package)
  pub protected_seen : is_open 4 ≡ true
  -- lists that are not strict tell nothing of all that, and any lists tell of a class of the app that is named elsewhere
  pub loose : told (has near_class shut_ones ∷ has up_class open_ones ∷ []) (device false [] []) [] ≡ []
  pub named_elsewhere : told [] (device false [] []) (codes "Lno/Such;" ∷ up_class ∷ up_class ∷ []) ≡ NamedClass up_class ∷ []
