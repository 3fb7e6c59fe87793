-- The callbacks that come to objects of a class, listed row by row and class by class.
use Rattle.std.proofs.Common.{◌≡◌, ◌≢◌, ◌==◌, ℕ, zero, suc, ◌+◌, ◌<◌, ◌≤◌, ◌⊎◌, Bool, true, false, cond, List, [], ◌∷◌, ◌++◌, length, get_or, Option, Some, None, option_map, slice_get, refl, sym, ap, subst, ◌∙◌, inl, inr, arith, add-one, append-nil}
use Rattle.std.specs.Option.{IfSome, option_or}
use Rattle.std.specs.declared.vec.Vec.{Vec}
use Rattle.std.proofs.lemmas.Bool.{cases_eq, eq-eqb, ne_eqb}
use Rattle.std.proofs.lemmas.List.{length-append}
use Rattle.std.proofs.lemmas.Option.{none-some, same_Some, slice_get_read, slice_get_within}
use Rattle.vet_base.specs.Members.{first_given}
use Rattle.vet_base.proofs.Firsts.{given-append}
use Rattle.vet_base.proofs.Lists.{element_at}
use Rattle.app_machine.specs.declared.app.App.{App}
use Rattle.app_machine.specs.declared.app.Class.{Class}
use Rattle.app_machine.specs.declared.lists.Callback.{Callback}
use Rattle.app_machine.specs.declared.lists.Lists.{Lists}
use Rattle.app_machine.specs.Events.{callback_body}
use Rattle.app_machine.specs.Lookups.{class_named, find_body}
use Rattle.app_machine.specs.Names.{Name}
use Rattle.app_model.specs.Above.{is_below}
use Rattle.app_model.specs.EventBodies.{callback_of, called, handed_callback}
use Rattle.event_index.specs.declared.comings.Coming.{Coming}
use Rattle.event_index.specs.declared.kinds.Column.{Column}
use Rattle.event_index.specs.declared.kinds.Kinds.{Kinds}
use Rattle.event_index.specs.Kinds.{IsColumn}
use Rattle.event_index.specs.Comings.{HasColumns, HasComings, IsComing, body_if, callback_run, coming_of, comings, first_comings}
use Rattle.event_index.proofs.Classes.{name_of_class, nothing_up}
use Rattle.event_index.proofs.Pushed.{at_pushed, read_there}

-- how the classes of the first so many rows are asked for
pub record ColumnsUpTo (kinds : Kinds) (callbacks : List Callback) (columns : List Column) (i : ℕ) : Type 0 where
  pub long : length columns ≡ i
  pub has : HasColumns kinds callbacks columns

module _ (kinds : Kinds) (callbacks : List Callback) where
  pub no_columns : ColumnsUpTo kinds callbacks [] 0
  no_columns = record { long = refl; has = record { at = λ q callback column is there. absurd (none-some column there) } }

  pub one_column : (columns : List Column) (i : ℕ) (callback : Callback) (column : Column) → i < length callbacks → callback ≡ get_or callbacks i callback → IsColumn kinds callback.class column →
      ColumnsUpTo kinds callbacks columns i → ColumnsUpTo kinds callbacks (columns ++ column ∷ []) (i + 1)
  one_column columns i callback column within is asked so_far = record {
    long = length-append columns (column ∷ []) ∙ let long = so_far.long in omega arith;
    has = record { at = λ q other given is' there. by_place q other given is' (at_pushed columns column given q there) };
  }
    where
      by_place : (q : ℕ) (other : Callback) (given : Column) → slice_get callbacks q ≡ Some other → (slice_get columns q ≡ Some given) ⊎ ((q ≡ length columns) × (column ≡ given)) → IsColumn kinds other.class given
      by_place q other given is' (inl before) = so_far.has.at q other given is' before
      by_place q other given is' (inr last) =
          let place : q ≡ i = last.0 ∙ so_far.long in
          let same : callback ≡ other = read_there callbacks i callback other within is (ap (slice_get callbacks) (sym place) ∙ is') in
          subst (λ c. IsColumn kinds other.class c) last.1 (subst (λ (c : Callback). IsColumn kinds c.class column) same asked)

  pub all_columns : (columns : List Column) (i : ℕ) → ColumnsUpTo kinds callbacks columns i → HasColumns kinds callbacks columns
  all_columns columns i so_far = so_far.has

module _ (app : App) (lists : Lists) (class : Name) (q : ℕ) where
  -- whether the callback row comes, and with which body
  run_of : (o : Option Callback) → slice_get lists.callbacks q ≡ o → callback_run (handed_callback app lists q class) ≡ callback_run (callback_of app lists class o)
  unfolding handed_callback
  run_of o is = ap (λ p. callback_run (callback_of app lists class p)) is

  pub no_callback : slice_get lists.callbacks q ≡ None → None ≡ callback_run (handed_callback app lists q class)
  no_callback is = sym (run_of None is)

  pub none_comes : (callback : Callback) → slice_get lists.callbacks q ≡ Some callback → is_below app lists class callback.class ≡ false → None ≡ callback_run (handed_callback app lists q class)
  none_comes callback is other =
      sym (run_of (Some callback) is ∙ ap (λ b. callback_run (cond b (option_map (called callback.sources) (callback_body app class callback)) None)) other)

  run_called : (sources : List (ℕ × ℕ)) (o : Option ℕ) → callback_run (option_map (called sources) o) ≡ o
  run_called sources None = refl
  run_called sources (Some body) = refl

  pub body_comes : (callback : Callback) → slice_get lists.callbacks q ≡ Some callback → is_below app lists class callback.class ≡ true →
      callback_body app class callback ≡ callback_run (handed_callback app lists q class)
  body_comes callback is below =
      sym (run_of (Some callback) is ∙ (ap (λ b. callback_run (cond b (option_map (called callback.sources) (callback_body app class callback)) None)) below
      ∙ run_called callback.sources (callback_body app class callback)))

none_past : {A : Type 0} (xs : List A) (k : ℕ) → slice_get xs k ≡ None → length xs ≤ k
none_past [] k is = omega arith
none_past (x ∷ xs) zero is = absurd (none-some x (sym is))
none_past (x ∷ xs) (suc k) is = let rest : length xs ≤ k = none_past xs k is in omega arith

module _ (app : App) (lists : Lists) (class : Name) where
  abbrev run : ℕ → Option ℕ
  run q = callback_run (handed_callback app lists q class)

  pub one_more_comes : (own : List Coming) (q body : ℕ) → Some body ≡ run q → own ≡ first_comings app lists class q → own ++ record { row = q; body = body } ∷ [] ≡ first_comings app lists class (q + 1)
  one_more_comes own q body is so_far =
      ap (λ xs. xs ++ coming_of q (Some body)) so_far ∙ (ap (λ o. first_comings app lists class q ++ coming_of q o) is ∙ ap (first_comings app lists class) (sym (add-one q)))

  pub one_more_does_not : (own : List Coming) (q : ℕ) → None ≡ run q → own ≡ first_comings app lists class q → own ≡ first_comings app lists class (q + 1)
  one_more_does_not own q is so_far =
      so_far ∙ (sym (append-nil (first_comings app lists class q)) ∙ (ap (λ o. first_comings app lists class q ++ coming_of q o) is ∙ ap (first_comings app lists class) (sym (add-one q))))

  no_body : (callback : Callback) → class_named app class ≡ None → callback_body app class callback ≡ None
  unfolding find_body
  no_body callback outside = rw (nothing_up app class outside) refl

  -- nothing comes to objects of a class that is not of the app
  none_runs : class_named app class ≡ None → (q : ℕ) (o : Option Callback) → slice_get lists.callbacks q ≡ o → run q ≡ None
  none_runs outside q None is = run_of app lists class q None is
  none_runs outside q (Some callback) is = run_of app lists class q (Some callback) is ∙ by_test (is_below app lists class callback.class)
    where
      by_test : (b : Bool) → callback_run (cond b (option_map (called callback.sources) (callback_body app class callback)) None) ≡ None
      by_test true = ap (λ o. callback_run (option_map (called callback.sources) o)) (no_body callback outside)
      by_test false = refl

  first_none : class_named app class ≡ None → (n : ℕ) → [] ≡ first_comings app lists class n
  first_none outside zero = refl
  first_none outside (suc q) =
      ap (λ xs. xs ++ []) (first_none outside q) ∙ ap (λ o. first_comings app lists class q ++ coming_of q o) (sym (none_runs outside q (slice_get lists.callbacks q) refl))

  pub none_outside : class_named app class ≡ None → [] ≡ comings app lists class
  none_outside outside = first_none outside (length lists.callbacks)

  -- what the first of one element gives
  abbrev first_or : Option ℕ → Option ℕ
  first_or o = elim o as (λ (o : Option ℕ). Option ℕ) [ Some y ↦ Some y | None ↦ None ]

  -- the body of a row among those that come
  of_other : (q n : ℕ) (o : Option ℕ) → q ≢ n → first_given (body_if q) (coming_of n o) ≡ None
  of_other q n None apart = refl
  of_other q n (Some body) apart = ap (λ b. first_or (cond b (Some body) None)) (ne_eqb n q (λ same. apart (sym same)))

  of_itself : (q : ℕ) (o : Option ℕ) → first_given (body_if q) (coming_of q o) ≡ o
  of_itself q None = refl
  of_itself q (Some body) = ap (λ b. first_or (cond b (Some body) None)) (eq-eqb q q refl)

  none_before : (q n : ℕ) → n ≤ q → first_given (body_if q) (first_comings app lists class n) ≡ None
  none_before q zero past = refl
  none_before q (suc n) past =
      given-append (body_if q) (first_comings app lists class n) (coming_of n (run n))
      ∙ (ap (λ o. option_or o (first_given (body_if q) (coming_of n (run n)))) (none_before q n (omega arith)) ∙ of_other q n (run n) (λ same. omega arith))

  or_none : (o : Option ℕ) → option_or o None ≡ o
  or_none None = refl
  or_none (Some body) = refl

  among_first : (q n : ℕ) → q < n → first_given (body_if q) (first_comings app lists class n) ≡ run q
  among_first q zero below = absurd (omega arith)
  among_first q (suc n) below = elim (cases_eq q n) [
    | inl same ↦ given-append (body_if q) (first_comings app lists class n) (coming_of n (run n))
        ∙ (ap (λ o. option_or o (first_given (body_if q) (coming_of n (run n)))) (none_before q n (omega arith))
        ∙ (ap (λ k. first_given (body_if q) (coming_of k (run k))) (sym same) ∙ of_itself q (run q)))
    | inr apart ↦ given-append (body_if q) (first_comings app lists class n) (coming_of n (run n))
        ∙ (ap (λ o. option_or (first_given (body_if q) (first_comings app lists class n)) o) (of_other q n (run n) apart)
        ∙ (or_none (first_given (body_if q) (first_comings app lists class n)) ∙ among_first q n (omega (arith, apart))))
  ]

  pub body_among : (q : ℕ) → first_given (body_if q) (comings app lists class) ≡ callback_run (handed_callback app lists q class)
  body_among q = by_row (slice_get lists.callbacks q) refl
    where
      by_row : (o : Option Callback) → slice_get lists.callbacks q ≡ o → first_given (body_if q) (comings app lists class) ≡ run q
      by_row (Some callback) is = among_first q (length lists.callbacks) (slice_get_within lists.callbacks q callback is)
      by_row None is = none_before q (length lists.callbacks) (none_past lists.callbacks q is) ∙ sym (run_of app lists class q None is)

-- the comings of the first so many classes
pub record ComingsUpTo {A : Type 0} (app : App) (lists : Lists) (all : List (Option (Vec Coming A))) (i : ℕ) : Type 0 where
  pub long : length all ≡ i
  pub has : HasComings app lists all

module _ {A : Type 0} (app : App) (lists : Lists) where
  pub no_comings : ComingsUpTo {A = A} app lists [] 0
  no_comings = record { long = refl; has = record { at = λ i c own is there. absurd (none-some (Some own) there) } }

  pub one_more_class : (all : List (Option (Vec Coming A))) (found : Option (Vec Coming A)) (i : ℕ) (class : Class) → i < length app.classes → class ≡ get_or app.classes i class →
      IfSome found (λ own. own.items ≡ comings app lists class.name) → ComingsUpTo app lists all i → ComingsUpTo app lists (all ++ found ∷ []) (i + 1)
  one_more_class all found i class within is are so_far = record {
    long = length-append all (found ∷ []) ∙ let long = so_far.long in omega arith;
    has = record { at = λ j c own there own_there. by_place j c own there (at_pushed all found (Some own) j own_there) };
  }
    where
      of_found : (o : Option (Vec Coming A)) (own : Vec Coming A) → IfSome o (λ v. v.items ≡ comings app lists class.name) → o ≡ Some own → own.items ≡ comings app lists class.name
      of_found None own is e = absurd (none-some own e)
      of_found (Some v) own is e = subst (λ (w : Vec Coming A). w.items ≡ comings app lists class.name) (same_Some v own e) is

      by_place : (j : ℕ) (c : Class) (own : Vec Coming A) → slice_get app.classes j ≡ Some c → (slice_get all j ≡ Some (Some own)) ⊎ ((j ≡ length all) × (found ≡ Some own)) → own.items ≡ comings app lists c.name
      by_place j c own there (inl before) = so_far.has.at j c own there before
      by_place j c own there (inr last) =
          let same : class ≡ c = read_there app.classes i class c within is (ap (slice_get app.classes) (sym (last.0 ∙ so_far.long)) ∙ there) in
          of_found found own are last.1 ∙ ap (λ (d : Class). comings app lists d.name) same

  pub all_classes : (all : List (Option (Vec Coming A))) (i : ℕ) → ComingsUpTo app lists all i → HasComings app lists all
  all_classes all i so_far = so_far.has

  pub is_coming : (all : List (Option (Vec Coming A))) (i : ℕ) (own : Vec Coming A) (listed : List Coming) → HasComings app lists all → slice_get all i ≡ Some (Some own) → listed ≡ own.items → IsComing app lists i listed
  is_coming all i own listed has is same = record { at = λ c there. same ∙ has.at i c own there is }

-- what comes to the class of a number, by its name
pub comings_there : (app : App) (lists : Lists) (name : Name) (i : ℕ) (own : List Coming) → IsComing app lists i own → i < length app.classes → slice_get app.classes i ≡ class_named app name → own ≡ comings app lists name
comings_there app lists name i own are within is =
    let at = element_at app.classes i within in
    let here : slice_get app.classes i ≡ Some at.0 = slice_get_read app.classes (length app.classes) i at.0 refl within at.1 in
    are.at at.0 here ∙ ap (comings app lists) (name_of_class app name at.0 (sym is ∙ here))
