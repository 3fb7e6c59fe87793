-- A loop over names that asks the class of each of them.
use Rattle.std.proofs.Common.{◌≡◌, ℕ, ◌+◌, ◌<◌, ◌≤◌, List, length, drop, get_or, Option, Some, None, refl, ◌∙◌, ap}
use Rattle.std.specs.Prelude.{filter_map}
use Rattle.std.specs.List.{cons_option}
use Rattle.std.proofs.lemmas.List.{drop_all}
use Rattle.app_machine.specs.declared.app.App.{App}
use Rattle.app_machine.specs.declared.app.Class.{Class}
use Rattle.vet_base.specs.Members.{first_given}
use Rattle.app_machine.specs.Names.{Name}
use Rattle.app_machine.specs.Lookups.{class_named}
use Rattle.vet_base.proofs.Lists.{drop_read}

module _ {B : Type 0} (f : Class → Option B) (app : App) (names : List Name) where
  abbrev given : List Name → Option B
  given ns = first_given f (filter_map (class_named app) ns)

  -- no class of the first i names gives any
  pub record NoneAsked (i : ℕ) : Type 0 where
    pub rest : given names ≡ given (drop i names)

  pub none_asked : NoneAsked 0
  none_asked = record { rest = refl }

  module _ (i : ℕ) (name : Name) (lt : i < length names) (item : name ≡ get_or names i name) (none : NoneAsked i) where
    at_name : (o : Option Class) → class_named app name ≡ o → given names ≡ first_given f (cons_option o (filter_map (class_named app) (drop (i + 1) names)))
    at_name o is = none.rest ∙ (ap given (drop_read names i name lt item) ∙ ap (λ (o : Option Class). first_given f (cons_option o (filter_map (class_named app) (drop (i + 1) names)))) is)

    pub asked_outside : class_named app name ≡ None → NoneAsked (i + 1)
    asked_outside absent = record { rest = at_name None absent }

    pub asked_in_vain : (c : Class) → class_named app name ≡ Some c → f c ≡ None → NoneAsked (i + 1)
    asked_in_vain c there gives = record { rest = at_name (Some c) there ∙ ap (λ (o : Option B). elim o [ Some y ↦ Some y | None ↦ given (drop (i + 1) names) ]) gives }

    pub asked_finds : (c : Class) (y : B) → class_named app name ≡ Some c → f c ≡ Some y → given names ≡ Some y
    asked_finds c y there gives = at_name (Some c) there ∙ ap (λ (o : Option B). elim o [ Some y ↦ Some y | None ↦ given (drop (i + 1) names) ]) gives

  pub all_asked : (i : ℕ) → length names ≤ i → NoneAsked i → given names ≡ None
  all_asked i past none = none.rest ∙ ap given (drop_all i names past)
