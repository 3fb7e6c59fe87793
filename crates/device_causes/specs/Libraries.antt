-- Classes above those of the app that are not listed, and static fields of library classes.
use Rattle.std.specs.Prelude.{◌&&◌, ◌||◌, not, ℕ, Bool, false, ◌+◌, List, [], ◌∷◌, ◌++◌, map, filter, flat_map, Some, None, slice_get}
use Rattle.app_machine.specs.declared.app.App.{App}
use Rattle.app_machine.specs.declared.app.Class.{Class}
use Rattle.app_machine.specs.declared.lists.Lists.{Lists}
use Rattle.app_machine.specs.declared.lists.StaticRow.{StaticRow}
use Rattle.app_machine.specs.declared.method.Method.{Method}
use Rattle.app_machine.specs.declared.method.Step.{Step}
use Rattle.app_machine.specs.declared.method.Act.{Act}
use Rattle.app_machine.specs.declared.method.Act.TheVariants.{GetStatic, PutStatic}
use Rattle.app_machine.specs.Names.{Name, is_reference}
use Rattle.app_machine.specs.Lookups.{directly_above}
use Rattle.link_access.specs.declared.access.ClassAccess.{ClassAccess}
use Rattle.link_access.specs.Access.{Accesses}
use Rattle.link_listing.specs.Texts.{Triple}
use Rattle.outcomes.specs.Causes.{is_app_class}
use Rattle.outcomes.specs.Spots.{Spot}
use Rattle.device_causes.specs.Sets.{is_listed}
use Rattle.device_causes.specs.Platform.{is_library_class}

-- neither a class of the app nor listed: what is above it is not known
unfoldable pub is_unlisted : App → Lists → Name → Bool
is_unlisted app lists name = not (is_app_class app name) && not (is_library_class lists name)

unfoldable pub unlisted_above : App → Lists → Class → List Name
unlisted_above app lists c = filter (is_unlisted app lists) (directly_above c)

unfoldable pub unlisted_classes : App → Lists → List Name
unlisted_classes app lists = flat_map (unlisted_above app lists) app.classes

-- the static fields that the classes of the app define, and those that are listed
unfoldable pub statics_in : Name × ClassAccess → List Triple
statics_in c = map (λ (f : Name × Name). (c.0, f.0, f.1)) c.1.statics

unfoldable pub defined_statics : Accesses → List Triple
defined_statics access = flat_map statics_in access

unfoldable pub listed_statics : Lists → List Triple
listed_statics lists = map (λ (s : StaticRow). (s.class, s.name, s.kind)) lists.statics

-- what is put there may come back under another name
unfoldable pub is_foreign : Accesses → Triple → Bool
is_foreign access static = not (is_listed (defined_statics access) static)

-- what is got may be anything
unfoldable pub is_unknown : Accesses → Lists → Triple → Bool
is_unknown access lists static = is_reference static.2 && (is_foreign access static && not (is_listed (listed_statics lists) static))

-- whether that is so of a static field that is put and of one that is got
abbrev pub mark_of : Accesses → Lists → Triple → Bool × Bool
mark_of access lists static = (is_foreign access static, is_unknown access lists static)

abbrev pub put_mark : List (Bool × Bool) → ℕ → Bool
put_mark marks g = elim (slice_get marks g) [ None ↦ false | Some mark ↦ mark.0 ]

abbrev pub got_mark : List (Bool × Bool) → ℕ → Bool
got_mark marks g = elim (slice_get marks g) [ None ↦ false | Some mark ↦ mark.1 ]

abbrev pub static_passes : (Triple → Bool) → App → ℕ → Bool
static_passes test app g = elim (slice_get app.statics g) [ None ↦ false | Some static ↦ test static ]

-- the act puts to a static field that no class of the app defines, or gets one of a reference type that is not listed either
unfoldable pub touches : App → Accesses → Lists → Act → Bool
touches app access lists (PutStatic g x) = static_passes (is_foreign access) app g
touches app access lists (GetStatic ds g) = static_passes (is_unknown access lists) app g
touches app access lists act = false

unfoldable pub is_touching : App → Accesses → Lists → Step → Bool
is_touching app access lists s = touches app access lists s.act

abbrev pub spot_of : ℕ → Step → Spot
spot_of i s = (i, s.pc)

unfoldable pub spots_in : App → Accesses → Lists → ℕ → Method → List Spot
spots_in app access lists i m = map (spot_of i) (filter (is_touching app access lists) m.steps)

-- of the methods from number i on
unfoldable pub spots_from : App → Accesses → Lists → ℕ → List Method → List Spot
spots_from app access lists i [] = []
spots_from app access lists i (m ∷ ms) = spots_in app access lists i m ++ spots_from app access lists (i + 1) ms

unfoldable pub static_spots : App → Accesses → Lists → List Spot
static_spots app access lists = spots_from app access lists 0 app.methods
