-- Whether a component is the application.
use Rattle.std.proofs.Common.{◌≡◌, ◌↔◌, ℕ, Bool, true, false, IsTrue, Option, Some, None, slice_get, refl, sym, ap, ◌∙◌}
use Rattle.app_machine.specs.declared.app.App.{App}
use Rattle.app_machine.specs.declared.component.Component.{Component}
use Rattle.app_machine.specs.declared.component.Kind.{Kind}
use Rattle.app_machine.specs.declared.component.Kind.TheVariants.{Application, Activity, Service, Receiver}
use Rattle.app_machine.specs.Events.{IsApplication}

abbrev pub is_application : Option Component → Bool
is_application None = false
is_application (Some component) = elim component.kind [ Application ↦ true | _ ↦ false ]

pub application_of : (app : App) (c : ℕ) → is_application (slice_get app.components c) ≡ true → IsApplication app c
application_of app c t = of_component (slice_get app.components c) refl t
  where
    of_kind : (component : Component) → slice_get app.components c ≡ Some component → (kind : Kind) → component.kind ≡ kind →
        (elim kind [ Application ↦ true | _ ↦ false ]) ≡ true → IsApplication app c
    of_kind component e Application k t = record { component = component; there = record { there = e }; kind = k }
    of_kind component e Activity k t = absurd cc
    of_kind component e Service k t = absurd cc
    of_kind component e Receiver k t = absurd cc

    of_component : (o : Option Component) → slice_get app.components c ≡ o → is_application o ≡ true → IsApplication app c
    of_component None e t = absurd cc
    of_component (Some component) e t = of_kind component e component.kind refl t

pub is_the_application : (app : App) (c : ℕ) → IsApplication app c → is_application (slice_get app.components c) ≡ true
is_the_application app c is = ap is_application is.there.there ∙ ap (λ (kind : Kind). elim kind [ Application ↦ true | _ ↦ false ]) is.kind

-- any other test of it is the same
pub same_test : (app : App) (c : ℕ) (b : Bool) → IsTrue b ↔ IsApplication app c → b ≡ is_application (slice_get app.components c)
same_test app c true exact = sym (is_the_application app c (exact.0 refl))
same_test app c false exact = by_test (is_application (slice_get app.components c)) refl
  where
    by_test : (b : Bool) → is_application (slice_get app.components c) ≡ b → false ≡ b
    by_test true e = exact.1 (application_of app c e)
    by_test false e = refl
