-- The components of the manifest: the application first, where there is one, and then activities, services and receivers.
use Rattle.std.specs.Prelude.{◌≡◌, IsTrue, List, [], ◌∷◌, ◌++◌, map, Option, Some, None, filter_map, option_to_list}
use Rattle.vet_base.specs.Script.{Script, Value, ◌>>=◌, test, each}
use Rattle.app_machine.specs.declared.app.Class.{Class}
use Rattle.app_machine.specs.declared.component.Kind.{Kind}
use Rattle.app_machine.specs.declared.component.Kind.TheVariants as kinds
use Rattle.app_machine.specs.declared.component.Component.{Component}
use Rattle.app_machine.specs.declared.papers.Word.{Word}
use Rattle.app_machine.specs.declared.papers.Word.TheVariants as words
use Rattle.app_machine.specs.declared.papers.Manifest.{Manifest}
use Rattle.vet_base.specs.Members.{In}
use Rattle.app_machine.specs.Names.{Name}
use Rattle.link_listing.specs.declared.fault.Fault.{Fault}
use Rattle.link_listing.specs.declared.fault.Fault.TheVariants.{NoClass}
use Rattle.link_listing.specs.Orders.{has_name}

abbrev pub kind_of : Word → Option Kind
kind_of words.Activity = Some kinds.Activity
kind_of words.Service = Some kinds.Service
kind_of words.Receiver = Some kinds.Receiver
kind_of words.Provider = None

-- one more component, whose class is one of the app
unfoldable pub one_component : List (Name × Class) → Kind → Name → List Component → Script Fault (List Component)
one_component classes kind name components = do
  _ ← test (has_name classes name) (NoClass name)
  Value (components ++ record { kind = kind; class = name } ∷ [])

unfoldable pub component_row : List (Name × Class) → Word × Name → List Component → Script Fault (List Component)
component_row classes row components = elim (kind_of row.0) [ None ↦ Value components | Some kind ↦ one_component classes kind row.1 components ]

unfoldable pub component_rows : List (Name × Class) → List (Word × Name) → List Component → Script Fault (List Component)
component_rows classes rows components = each (component_row classes) rows components

unfoldable pub application_row : List (Name × Class) → Option Name → Script Fault (List Component)
application_row classes None = Value []
application_row classes (Some name) = one_component classes kinds.Application name []

unfoldable pub all_components : List (Name × Class) → Manifest → Script Fault (List Component)
all_components classes manifest = do
  first ← application_row classes manifest.application
  component_rows classes manifest.components first

-- the component that a row of the manifest tells
abbrev pub of_kind : Option Kind → Name → Option Component
of_kind None class = None
of_kind (Some kind) class = Some (record { kind = kind; class = class })

unfoldable pub component_of : Word × Name → Option Component
component_of row = of_kind (kind_of row.0) row.1

unfoldable pub application_of : Name → Component
application_of class = record { kind = kinds.Application; class = class }

-- the components that the manifest tells: the application first, and then the others in their order
unfoldable pub components_of : Manifest → List Component
components_of manifest = map application_of (option_to_list manifest.application) ++ filter_map component_of manifest.components

abbrev pub named_provider : Word → Name → Option Name
named_provider words.Provider name = Some name
named_provider words.Activity name = None
named_provider words.Service name = None
named_provider words.Receiver name = None

unfoldable pub provider_of : Word × Name → Option Name
provider_of row = named_provider row.0 row.1

unfoldable pub providers_of : Manifest → List Name
providers_of manifest = filter_map provider_of manifest.components

-- none of these is the application
abbrev pub NoApplication : List Component → Type 0
NoApplication [] = Unit {0}
NoApplication (c ∷ cs) = (c.kind ≡ kinds.Application → ⊥) × NoApplication cs

abbrev pub OnlyFirst : List Component → Type 0
OnlyFirst [] = Unit {0}
OnlyFirst (c ∷ cs) = NoApplication cs

-- each component has a class of the app, and at most the first is the application
pub record Fit (classes : List (Name × Class)) (cs : List Component) : Type 0 where
  pub known : (c : Component) → In c cs → IsTrue (has_name classes c.class)
  pub first : OnlyFirst cs
