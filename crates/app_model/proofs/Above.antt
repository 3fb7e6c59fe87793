-- What is asked of the classes above, as it is answered step by step.
use Rattle.std.proofs.Common.{◌≡◌, ◌≢◌, ℕ, zero, suc, ◌+◌, ◌-◌, ◌<◌, ◌≤◌, Bool, true, false, ◌||◌, List, [], ◌∷◌, ◌++◌, length, get_or, drop, Option, Some, None, refl, sym, ◌∙◌, ap, arith}
use Rattle.std.specs.Prelude.{flat_map, option_to_list}
use Rattle.std.specs.Option.{MatchOption}
use Rattle.std.specs.List.{list_any}
use Rattle.std.proofs.lemmas.List.{drop_all}
use Rattle.std.proofs.lemmas.Grind.{flat_map-append}
use Rattle.std.proofs.lemmas.List.Folds.{list_any-append}
use Rattle.app_machine.specs.declared.app.App.{App}
use Rattle.app_machine.specs.declared.app.Class.{Class}
use Rattle.app_machine.specs.declared.lists.Lists.{Lists}
use Rattle.app_machine.specs.Names.{Name}
use Rattle.app_machine.specs.Lookups.{class_named, above_within, directly_above}
use Rattle.app_model.specs.Above.{is_listed_below, any_listed_below, has_below}
use Rattle.vet_base.proofs.Lists.{drop_read}

pub below_parts : (c : Class) (lists : Lists) (type : Name) → has_below c lists type ≡ (any_listed_below lists (option_to_list c.superclass) type || any_listed_below lists c.interfaces type)
unfolding has_below any_listed_below
below_parts c lists type = list_any-append (λ class. is_listed_below lists class type) (option_to_list c.superclass) c.interfaces

flat_append : {A B : Type 0} (f : A → List B) (p : B → Bool) (xs ys : List A) → list_any p (flat_map f (xs ++ ys)) ≡ (list_any p (flat_map f xs) || list_any p (flat_map f ys))
flat_append f p xs ys = ap (list_any p) (flat_map-append f xs ys) ∙ list_any-append p (flat_map f xs) (flat_map f ys)

-- the classes above one that is there
pub any_at : (app : App) (name : Name) (c : Class) (p : Class → Bool) (steps : ℕ) → steps ≢ 0 → class_named app name ≡ Some c →
    list_any p (above_within steps app.classes name) ≡ (p c || (list_any p (flat_map (above_within (steps - 1) app.classes) (option_to_list c.superclass)) || list_any p (flat_map (above_within (steps - 1) app.classes) c.interfaces)))
unfolding class_named
any_at app name c p zero some there = absurd (some refl)
any_at app name c p (suc n) some there =
    let less : suc n - 1 ≡ n = omega arith in
    ap (λ o. list_any p (elim o [ None ↦ [] | Some c ↦ c ∷ flat_map (λ above. above_within n app.classes above) (directly_above c) ])) there
    ∙ (ap (λ b. p c || b) (flat_append (above_within n app.classes) p (option_to_list c.superclass) c.interfaces)
    ∙ ap (λ m. p c || (list_any p (flat_map (above_within m app.classes) (option_to_list c.superclass)) || list_any p (flat_map (above_within m app.classes) c.interfaces))) (sym less))

pub slice_of_option : {A : Type 0} (o : Option A) (xs : List A) → MatchOption o (xs ≡ []) (λ x. xs ≡ x ∷ []) → xs ≡ option_to_list o
slice_of_option None xs is = is
slice_of_option (Some x) xs is = is

-- the same with the two lists of names as they are read
pub any_in_order : (app : App) (name : Name) (c : Class) (p : Class → Bool) (steps : ℕ) (superclass interfaces : List Name) → steps ≢ 0 → Some c ≡ class_named app name → MatchOption c.superclass (superclass ≡ []) (λ x. superclass ≡ x ∷ []) → interfaces ≡ c.interfaces →
    list_any p (above_within steps app.classes name) ≡ (p c || (list_any p (flat_map (above_within (steps - 1) app.classes) superclass) || list_any p (flat_map (above_within (steps - 1) app.classes) interfaces)))
any_in_order app name c p steps superclass interfaces some there is are =
    any_at app name c p steps some (sym there)
    ∙ (ap (λ xs. p c || (list_any p (flat_map (above_within (steps - 1) app.classes) xs) || list_any p (flat_map (above_within (steps - 1) app.classes) c.interfaces))) (sym (slice_of_option c.superclass superclass is))
    ∙ ap (λ xs. p c || (list_any p (flat_map (above_within (steps - 1) app.classes) superclass) || list_any p (flat_map (above_within (steps - 1) app.classes) xs))) (sym are))

pub any_outside : (app : App) (name : Name) (p : Class → Bool) (steps : ℕ) → class_named app name ≡ None → list_any p (above_within steps app.classes name) ≡ false
unfolding class_named
any_outside app name p zero absent = refl
any_outside app name p (suc n) absent = ap (λ o. list_any p (elim o [ None ↦ [] | Some c ↦ c ∷ flat_map (λ above. above_within n app.classes above) (directly_above c) ])) absent

pub any_after_no_step : (classes : List Class) (name : Name) (p : Class → Bool) (steps : ℕ) → steps ≡ 0 → list_any p (above_within steps classes name) ≡ false
any_after_no_step classes name p zero none = refl
any_after_no_step classes name p (suc n) none = absurd (omega arith)

-- none of what the first so many give has it
pub record NoneOfFirst {A B : Type 0} (f : A → List B) (p : B → Bool) (xs : List A) (i : ℕ) : Type 0 where
  pub rest : list_any p (flat_map f xs) ≡ list_any p (flat_map f (drop i xs))

module _ {A B : Type 0} (f : A → List B) (p : B → Bool) (xs : List A) where
  pub none_first : NoneOfFirst f p xs 0
  none_first = record { rest = refl }

  opened : (i : ℕ) (x : A) → i < length xs → x ≡ get_or xs i x → NoneOfFirst f p xs i → list_any p (flat_map f xs) ≡ (list_any p (f x) || list_any p (flat_map f (drop (i + 1) xs)))
  opened i x within is none = none.rest ∙ (ap (λ ys. list_any p (flat_map f ys)) (drop_read xs i x within is) ∙ list_any-append p (f x) (flat_map f (drop (i + 1) xs)))

  pub none_more : (i : ℕ) (x : A) → i < length xs → x ≡ get_or xs i x → list_any p (f x) ≡ false → NoneOfFirst f p xs i → NoneOfFirst f p xs (i + 1)
  none_more i x within is fails none = record { rest = opened i x within is none ∙ ap (λ b. b || list_any p (flat_map f (drop (i + 1) xs))) fails }

  pub one_has : (i : ℕ) (x : A) → i < length xs → x ≡ get_or xs i x → list_any p (f x) ≡ true → NoneOfFirst f p xs i → list_any p (flat_map f xs) ≡ true
  one_has i x within is has none = opened i x within is none ∙ ap (λ b. b || list_any p (flat_map f (drop (i + 1) xs))) has

  pub none_has : (i : ℕ) → length xs ≤ i → NoneOfFirst f p xs i → list_any p (flat_map f xs) ≡ false
  none_has i past none = none.rest ∙ ap (λ ys. list_any p (flat_map f ys)) (drop_all i xs past)
