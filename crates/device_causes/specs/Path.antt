-- A path of app classes upward along superclasses, and what is known of their methods by name and descriptor.
use Rattle.std.specs.Prelude.{◌≡◌, ◌||◌, Bool, false, if◌then◌else◌, List, [], ◌∷◌, ◌++◌, Option, Some, IfSome}
use Rattle.std.specs.BTreeMap.{BTreeMap, get, is_at}
use Rattle.std.specs.Ordering.{ordering_then}
use Rattle.std.specs.declared.cmp.Ordering.{Ordering}
use Rattle.app_machine.specs.declared.app.App.{App}
use Rattle.app_machine.specs.declared.app.Class.{Class}
use Rattle.app_machine.specs.Lookups.{class_named, up}
use Rattle.app_machine.specs.Names.{Name}
use Rattle.app_machine.specs.Sound.{name_order}
use Rattle.link_access.specs.Access.{Accesses}
use Rattle.link_access.specs.declared.access.MethodAccess.{MethodAccess}
use Rattle.device_causes.specs.declared.seen.Seen.{Seen}
use Rattle.device_causes.specs.declared.path.Path.{Path}
use Rattle.device_causes.specs.declared.path.Step.{Step}
use Rattle.device_causes.specs.Hidden.{any_hides, is_hidden_by, hidden_of}
use Rattle.device_causes.specs.Seen.{maybe_hides}
use Rattle.link_listing.specs.Texts.{Triple}

-- a name and a descriptor
abbrev pub Signature : Type 0
Signature = Name × Name

abbrev pub signature_order : Signature → Signature → Ordering
signature_order a b = ordering_then (name_order a.0 b.0) (name_order a.1 b.1)

abbrev pub signature_of : MethodAccess → Signature
signature_of m = (m.name, m.descriptor)

-- what is known under each signature
abbrev pub Known : Type 0
Known = Signature → Option Seen

abbrev pub known_in : BTreeMap Signature Seen → Known
known_in map = λ q. get signature_order map q

abbrev pub known_hides : Known → Name → MethodAccess → Bool
known_hides known class m = maybe_hides (known (signature_of m)) class m

-- with this in place of what is known under the signature
abbrev pub with_known : Signature → Option Seen → Known → Known
with_known at seen known = λ q. if is_at (signature_order at) q then seen else known q

-- what was known before, where each of these was taken away, the last first
abbrev pub taken_back : List (Signature × Option Seen) → Known → Known
taken_back [] known = known
taken_back (e ∷ es) known = with_known e.0 e.1 (taken_back es known)

-- with methods of a class more is known, and it can be taken back
pub record Entered (class : Name) (methods : List MethodAccess) (before after : Known) (undo : List (Signature × Option Seen)) : Type 0 where
  pub back : (q : Signature) → taken_back undo after q ≡ before q
  pub tells : (c : Name) (m : MethodAccess) → known_hides after c m ≡ (any_hides c m class methods || known_hides before c m)

-- what is known is known of the methods of the classes upward, and the last step leads from the second of them to the first
unfoldable pub Stands : App → Accesses → List Class → List Step → Known → Type 0
Stands app access [] steps known = (steps ≡ []) × ((c : Name) (m : MethodAccess) → known_hides known c m ≡ false)
Stands app access (k ∷ above) steps known =
    (below : List Step) × (last : Step) × (steps ≡ below ++ last ∷ []) × (last.class ≡ k.name) × (up app k.name ≡ k ∷ above)
    × ((c : Name) (m : MethodAccess) → known_hides known c m ≡ is_hidden_by access c m (k ∷ above))
    × Stands app access above below (taken_back last.undo.items known)

-- the path stands somewhere
pub record IsPath (app : App) (access : Accesses) (path : Path) : Type 0 where
  pub above : List Class
  pub stands : Stands app access above path.steps.items (known_in path.known)

-- what is found of some classes, by their names
abbrev pub AreTold : App → Accesses → (Name → Option (List Triple)) → Type 0
AreTold app access told = (k : Class) → class_named app k.name ≡ Some k → IfSome (told k.name) (λ found. found ≡ hidden_of app access k)
