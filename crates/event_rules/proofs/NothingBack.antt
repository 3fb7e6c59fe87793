-- To an event that takes no objects none come back.
use Rattle.std.proofs.Common.{◌≡◌, ℕ, zero, suc, ◌+◌, ◌-◌, ◌<◌, ◌≤◌, Bool, true, false, ◌&&◌, cond, List, [], ◌∷◌, ◌++◌, Option, Some, None, flat_map, get_or, length, slice_get, refl, sym, ap, subst, ◌∙◌, inl, inr, arith}
use Rattle.std.proofs.lemmas.Bool.{cases_eq}
use Rattle.std.proofs.lemmas.Option.{none-some, same_Some, slice_get_read, slice_get_within}
use Rattle.app_machine.specs.declared.app.App.{App}
use Rattle.app_machine.specs.declared.lists.Lists.{Lists}
use Rattle.app_machine.specs.declared.method.Method.{Method}
use Rattle.app_machine.specs.Events.{layout}
use Rattle.app_machine.specs.Names.{Name, is_reference}
use Rattle.app_model.specs.Above.{is_below}
use Rattle.fact_rows.specs.declared.context.Activation.{Activation}
use Rattle.fact_rows.specs.declared.site.Site.{Site}
use Rattle.fact_rows.specs.declared.row.Row.{Row}
use Rattle.fact_rows.specs.declared.row.Row.TheVariants.{Handed, HandedTaint}
use Rattle.flow_rules.specs.Sites.{site_class}
use Rattle.rule_ground.specs.declared.conclusion.Conclusion.{Conclusion}
use Rattle.rule_ground.specs.declared.key.Key.{Key}
use Rattle.rule_ground.specs.declared.key.Key.TheVariants.{AnyHanded, HandedTaintsOf}
use Rattle.rule_ground.specs.Below.{for_below}
use Rattle.event_rules.specs.declared.handed.HandedObject.{HandedObject}
use Rattle.event_rules.specs.declared.known.Known.TheVariants.{There, Leads}
use Rattle.event_rules.specs.GivenBack.{TakesNone, any_handed, back, back_in, back_index, back_register, entry_gives, label_back, object_of, pair_gives, pair_of_class, takes, type_at, type_of_position}

-- lists of nothing
nothing_below : (f : ℕ → List Conclusion) (n : ℕ) → ((i : ℕ) → i < n → f i ≡ []) → for_below f n ≡ []
nothing_below f zero none = refl
nothing_below f (suc n) none = ap (λ xs. xs ++ f n) (nothing_below f n (λ i below. none i (omega arith))) ∙ none n (omega arith)

same_either : (b : Bool) (xs : List Conclusion) → cond b xs xs ≡ xs
same_either true xs = refl
same_either false xs = refl

nothing_of : {A B : Type 0} (f : A → List B) (xs : List A) → ((x : A) → f x ≡ []) → flat_map f xs ≡ []
nothing_of f [] none = refl
nothing_of f (x ∷ xs) none = ap (λ ys. ys ++ flat_map f xs) (none x) ∙ nothing_of f xs none

-- none of the first so many parameters is a reference
pub record NoReferences (params : List Name) (i : ℕ) : Type 0 where
  pub at : (j : ℕ) (type : Name) → j < i → slice_get params j ≡ Some type → is_reference type ≡ false

pub no_references : (params : List Name) → NoReferences params 0
no_references params = record { at = λ j type below there. absurd (omega arith) }

pub one_more_kind : (params : List Name) (i : ℕ) (kind : Name) → i < length params → kind ≡ get_or params i kind → is_reference kind ≡ false → NoReferences params i → NoReferences params (i + 1)
one_more_kind params i kind within is none so_far = record {
  at = λ j type below there. elim (cases_eq j i) [
    | inl same ↦ ap is_reference (same_Some type kind (sym there ∙ (ap (slice_get params) same ∙ slice_get_read params (length params) i kind refl within is))) ∙ none
    | inr apart ↦ so_far.at j type (omega (arith, apart)) there
  ];
}

pub all_kinds : (params : List Name) (i : ℕ) → length params ≤ i → NoReferences params i → (j : ℕ) (type : Name) → slice_get params j ≡ Some type → is_reference type ≡ false
all_kinds params i past none j type there = none.at j type (let within = slice_get_within params j type there in omega arith) there

-- a method without a reference among its parameters takes nothing
module _ (app : App) (number : ℕ) where
  pub takes_none : (method : Method) → slice_get app.methods number ≡ Some method → ((i : ℕ) (type : Name) → slice_get method.at.proto.params i ≡ Some type → is_reference type ≡ false) →
      (lists : Lists) (class : Name) → TakesNone app lists class number
  takes_none method there none lists class = record { at = λ m is index below. subst (λ (n : Method). takes app lists class (type_at n.at.proto.params index) ≡ false) (same_Some method m (sym there ∙ is)) (of_position (slice_get (layout method.at.proto.params) index)) }
    where
      of_type : (o : Option Name) → ((type : Name) → o ≡ Some type → is_reference type ≡ false) → takes app lists class o ≡ false
      of_type None is = refl
      of_type (Some type) is = ap (λ b. b && is_below app lists class type) (is type refl)

      of_position : (o : Option ℕ) → takes app lists class (type_of_position method.at.proto.params o) ≡ false
      of_position None = refl
      of_position (Some zero) = refl
      of_position (Some (suc i)) = of_type (slice_get method.at.proto.params i) (none i)

  pub no_method : slice_get app.methods number ≡ None → (lists : Lists) (class : Name) → TakesNone app lists class number
  no_method none lists class = record { at = λ m is index below. absurd (none-some m (sym none ∙ is)) }

module _ (app : App) (lists : Lists) (b : Activation) where
  back_nothing : (object : HandedObject) (class : Name) → TakesNone app lists class b.method → back app lists object class b ≡ []
  back_nothing object class none = of_method (slice_get app.methods b.method) refl
    where
      of_method : (o : Option Method) → slice_get app.methods b.method ≡ o → back_in app lists object class b o ≡ []
      of_method None is = refl
      of_method (Some m) is = ap (cond m.is_native []) (nothing_below (back_index app lists object class b m) m.ins
          (λ index below. ap (λ t. cond t (back_register object b ((m.registers - m.ins) + index) ∷ []) []) (none.at m is index below)))
          ∙ same_either m.is_native []

  module _ (hits : Key → List Row) where
    pub pair_nothing : (s : Site) (class : Name) → TakesNone app lists class b.method → pair_gives app lists hits s class b ≡ []
    pair_nothing s class none =
        ap (λ xs. xs ++ flat_map (label_back app lists s class b) (hits (HandedTaintsOf s))) (back_nothing (object_of s There) class none)
        ∙ nothing_of (label_back app lists s class b) (hits (HandedTaintsOf s)) of_row
      where
        of_row : (row : Row) → label_back app lists s class b row ≡ []
        of_row (HandedTaint t p l) = back_nothing (object_of s (Leads p l)) class none
        of_row row = refl

    pub entry_nothing : ((class : Name) → TakesNone app lists class b.method) → entry_gives app lists hits b ≡ []
    entry_nothing none = nothing_of (any_handed app lists hits b) (hits AnyHanded) of_row
      where
        of_class : (s : Site) (o : Option Name) → pair_of_class app lists hits s o b ≡ []
        of_class s None = refl
        of_class s (Some class) = pair_nothing s class (none class)

        of_row : (row : Row) → any_handed app lists hits b row ≡ []
        of_row (Handed s) = of_class s (site_class app lists s)
        of_row row = refl
