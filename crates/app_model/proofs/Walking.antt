-- One step of a walk over classes upward along superclasses.
use Rattle.std.proofs.Common.{◌≡◌, ℕ, zero, suc, ◌-◌, ◌<◌, List, [], ◌∷◌, Some, None, refl, sym, ◌∙◌, ap, arith}
use Rattle.std.specs.Option.{option_copied}
use Rattle.app_machine.specs.declared.app.App.{App}
use Rattle.app_machine.specs.declared.app.Class.{Class}
use Rattle.app_machine.specs.Names.{Name}
use Rattle.app_machine.specs.Lookups.{class_named, up_within}
use Rattle.app_model.specs.declared.lookups.class_walk.ClassWalk.{ClassWalk}
use Rattle.app_model.specs.ClassWalks.{classes_left}

none_above : (n : ℕ) (classes : List Class) → up_within n classes None ≡ []
none_above zero classes = refl
none_above (suc n) classes = refl

module _ (app : App) (walk : ClassWalk) where
  pub left_none : option_copied walk.name ≡ None → classes_left app walk ≡ []
  unfolding classes_left
  left_none nothing = ap (up_within walk.steps app.classes) nothing ∙ none_above walk.steps app.classes

  pub left_ended : walk.steps ≡ 0 → classes_left app walk ≡ []
  unfolding classes_left
  left_ended over = ap (λ n. up_within n app.classes (option_copied walk.name)) over

  module _ (name : Name) (named : option_copied walk.name ≡ Some name) where
    -- at a name: its class, and what comes behind that
    at_name : (n : ℕ) → walk.steps ≡ suc n → classes_left app walk ≡ elim (class_named app name) [ None ↦ [] | Some c ↦ c ∷ up_within n app.classes c.superclass ]
    unfolding classes_left class_named
    at_name n more = ap (up_within walk.steps app.classes) named ∙ ap (λ m. up_within m app.classes (Some name)) more

    pub left_outside : 0 < walk.steps → class_named app name ≡ None → classes_left app walk ≡ []
    left_outside more absent =
        let some : walk.steps ≡ suc (walk.steps - 1) = omega arith in
        at_name (walk.steps - 1) some ∙ ap (λ o. elim o [ None ↦ [] | Some c ↦ c ∷ up_within (walk.steps - 1) app.classes c.superclass ]) absent

    pub left_class : (c : Class) (rest : ClassWalk) → 0 < walk.steps → class_named app name ≡ Some c → option_copied rest.name ≡ c.superclass → rest.steps ≡ walk.steps - 1 →
        classes_left app walk ≡ c ∷ classes_left app rest
    unfolding classes_left
    left_class c rest more there above fewer =
        let some : walk.steps ≡ suc (walk.steps - 1) = omega arith in
        at_name (walk.steps - 1) some
        ∙ (ap (λ o. elim o [ None ↦ [] | Some c ↦ c ∷ up_within (walk.steps - 1) app.classes c.superclass ]) there
        ∙ (ap (λ o. c ∷ up_within (walk.steps - 1) app.classes o) (sym above) ∙ ap (λ n. c ∷ up_within n app.classes (option_copied rest.name)) (sym fewer)))
