-- To an event that takes no objects none come back.
use Rattle.std.proofs.Common.{◌≡◌, ◌<◌, ◌+◌, ◌-◌, ℕ, zero, suc, Bool, true, false, cond, List, [], ◌∷◌, ◌++◌, Option, Some, None, flat_map, slice_get, refl, ap, ◌∙◌, arith}
use Rattle.app_machine.specs.declared.lists.Lists.{Lists}
use Rattle.app_machine.specs.declared.method.Method.{Method}
use Rattle.app_machine.specs.declared.app.App.{App}
use Rattle.app_machine.specs.Names.{Name}
use Rattle.fact_rows.specs.declared.context.Activation.{Activation}
use Rattle.fact_rows.specs.declared.site.Site.{Site}
use Rattle.fact_rows.specs.declared.row.Row.{Row}
use Rattle.fact_rows.specs.declared.row.Row.TheVariants.{Handed}
use Rattle.flow_rules.specs.Sites.{site_class}
use Rattle.rule_ground.specs.declared.conclusion.Conclusion.{Conclusion}
use Rattle.rule_ground.specs.declared.key.Key.{Key}
use Rattle.rule_ground.specs.declared.key.Key.TheVariants.{AnyHanded}
use Rattle.rule_ground.specs.Below.{for_below}
use Rattle.event_rules.specs.GivenBack.{TakesNone}
use Rattle.register_readers.specs.Readings.{Readings}
use Rattle.cell_event_rules.specs.CellGivenBack.{any_handed, back_as, back_in, back_index, back_register, entry_gives}

-- lists of nothing
nothing_below : (f : ℕ → List Conclusion) (n : ℕ) → ((i : ℕ) → i < n → f i ≡ []) → for_below f n ≡ []
nothing_below f zero none = refl
nothing_below f (suc n) none = ap (λ xs. xs ++ f n) (nothing_below f n (λ i below. none i (omega arith))) ∙ none n (omega arith)

same_either : (b : Bool) (xs : List Conclusion) → cond b xs xs ≡ xs
same_either true xs = refl
same_either false xs = refl

nothing_of : {A B : Type 0} (f : A → List B) (xs : List A) → ((x : A) → f x ≡ []) → flat_map f xs ≡ []
nothing_of f [] none = refl
nothing_of f (x ∷ xs) none = ap (λ ys. ys ++ flat_map f xs) (none x) ∙ nothing_of f xs none

module _ (app : App) (readings : Readings) (lists : Lists) (hits : Key → List Row) (b : Activation) (none : (class : Name) → TakesNone app lists class b.method) where
  nothing_back : (s : Site) (o : Option Name) → back_as app readings lists s o b ≡ []
  nothing_back s None = refl
  nothing_back s (Some class) = of_method (slice_get app.methods b.method) refl
    where
      of_method : (o : Option Method) → slice_get app.methods b.method ≡ o → back_in app readings lists s class b o ≡ []
      of_method None is = refl
      of_method (Some m) is = ap (cond m.is_native []) (nothing_below (back_index app readings lists s class b m) m.ins
          (λ index below. ap (λ t. cond t (back_register readings s b ((m.registers - m.ins) + index)) []) ((none class).at m is index below)))
          ∙ same_either m.is_native []

  pub entry_nothing : entry_gives app readings lists hits b ≡ []
  entry_nothing = nothing_of (any_handed app readings lists b) (hits AnyHanded) of_row
    where
      of_row : (row : Row) → any_handed app readings lists b row ≡ []
      of_row (Handed s) = nothing_back s (site_class app lists s)
      of_row row = refl
