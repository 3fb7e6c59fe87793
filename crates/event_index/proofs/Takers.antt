-- What a class that is looked up once answers.
use Rattle.std.proofs.Common.{◌≤◌, Bor, IfSome, ◌≡◌, ◌&&◌, ℕ, Bool, false, List, [], ◌∷◌, ◌++◌, ◌<◌, ◌+◌, ◌⊎◌, length, get_or, Option, Some, None, slice_get, refl, sym, ap, subst, ◌∙◌, inl, inr, arith}
use Rattle.std.specs.declared.vec.Vec.{Vec}
use Rattle.std.specs.Option.{is_some, option_copied}
use Rattle.std.specs.Prelude.{nat_lt}
use Rattle.std.proofs.lemmas.List.{length-append}
use Rattle.std.proofs.lemmas.Option.{none-some, slice_get_cases}
use Rattle.app_machine.specs.declared.app.App.{App}
use Rattle.app_machine.specs.declared.app.Class.{Class}
use Rattle.app_machine.specs.declared.lists.Lists.{Lists}
use Rattle.app_machine.specs.declared.method.Method.{Method}
use Rattle.app_machine.specs.Lookups.{class_named}
use Rattle.app_machine.specs.Names.{Name}
use Rattle.app_model.specs.Above.{is_below, is_class_below, is_listed_below}
use Rattle.app_model.specs.Marks.{is_marked}
use Rattle.event_index.specs.declared.asked.Asked.{Asked}
use Rattle.event_index.specs.declared.below_table.BelowTable.{BelowTable}
use Rattle.event_index.specs.declared.kinds.Kinds.{Kinds}
use Rattle.event_index.specs.Asked.{AreAsked, HasAsked, IsAsked, TellsAbove, argument_type, takes_class}
use Rattle.event_index.specs.Kinds.{HasKinds, IsNumberOf}
use Rattle.event_index.specs.Settled.{IsBelowTable}
use Rattle.event_index.proofs.Asking.{is_class_below_by_row, is_class_below_listed}
use Rattle.event_index.proofs.Classes.{name_of_class}
use Rattle.event_index.proofs.Pushed.{at_pushed, item_there, read_there}

pub told_above : (table : BelowTable) (class type : Name) (row : List ℕ) (k : ℕ) → TellsAbove table class row → IsNumberOf table.listed.kinds type k → is_marked row k ≡ is_class_below table.app.now table.listed.lists.now class type
told_above table class type row k tells number = tells.at type k number

pub asked_there : {A : Type 0} (kinds : Kinds) (methods : List Method) (all : List (Vec (Option Asked) A)) (n i : ℕ) (m : Method) (own : Vec (Option Asked) A) (asked : Option Asked) →
    HasAsked kinds methods all → slice_get methods n ≡ Some m → slice_get all n ≡ Some own → slice_get own.items i ≡ Some asked → IsAsked kinds (argument_type m.at.proto.params i) asked
asked_there kinds methods all n i m own asked has is at there = (has.at n m own is at).at i asked there

-- the same of a look-up that may find nothing
pub asked_where_found : {A : Type 0} (kinds : Kinds) (methods : List Method) (all : List (Vec (Option Asked) A)) (n i : ℕ) (m : Method) (own : Vec (Option Asked) A) (items : List (Option Asked)) (found : Option (Bor (Option Asked))) →
    HasAsked kinds methods all → slice_get methods n ≡ Some m → slice_get all n ≡ Some own → items ≡ own.items → is_some found ≡ nat_lt i (length items) → IfSome found (λ x. x.now ≡ get_or items i x.now) →
    IfSome (option_copied found) (λ asked. IsAsked kinds (argument_type m.at.proto.params i) asked)
asked_where_found kinds methods all n i m own items None has is at same within read = tt
asked_where_found kinds methods all n i m own items (Some x) has is at same within read =
    asked_there kinds methods all n i m own x.now has is at (ap (λ (l : List (Option Asked)). slice_get l i) (sym same) ∙ item_there items i x.now within read)

-- the row of a class of the app, and that of one of the lists
pub row_tells : (table : BelowTable) (i : ℕ) (name : Name) (class : Class) (row : List ℕ) → IsBelowTable table → slice_get table.app.now.classes i ≡ Some class → class_named table.app.now name ≡ Some class →
    slice_get table.rows.items i ≡ Some (Some row) → TellsAbove table name row
row_tells table i name class row is there named at = record {
  at = λ type k number.
      is_class_below_by_row table.app.now table.listed table.rows.items i class row type k is.rows there at number
      ∙ ap (λ n. is_class_below table.app.now table.listed.lists.now n type) (name_of_class table.app.now name class named);
}

-- the same by the number of the class that has the name
pub row_of_class : (table : BelowTable) (i : ℕ) (name : Name) (row : List ℕ) → IsBelowTable table → slice_get table.app.now.classes i ≡ class_named table.app.now name → i < length table.app.now.classes →
    slice_get table.rows.items i ≡ Some (Some row) → TellsAbove table name row
row_of_class table i name row is there within at = by_class (slice_get_cases table.app.now.classes i).1
  where
    by_class : ((x : Class) × (i < length table.app.now.classes) × (slice_get table.app.now.classes i ≡ Some x) × (get_or table.app.now.classes i x ≡ x)) ⊎ ((length table.app.now.classes ≤ i) × (slice_get table.app.now.classes i ≡ None)) →
        TellsAbove table name row
    by_class (inl (class, inside, found, same)) = row_tells table i name class row is found (sym there ∙ found) at
    by_class (inr (past, none)) = absurd (omega (arith, within, past))

pub listed_tells : (table : BelowTable) (class : Name) (row : List ℕ) → IsBelowTable table → class_named table.app.now class ≡ None →
    HasKinds table.listed.kinds row (is_listed_below table.listed.lists.now class) → TellsAbove table class row
listed_tells table class row is outside has = record { at = λ type k number. is_class_below_listed table.app.now table.listed class type k is.listed outside number row has }

module _ (app : App) (lists : Lists) (class : Name) (kinds : Kinds) where
  -- a register that takes no object
  pub takes_none : (type : Option Name) → IsAsked kinds type None → false ≡ takes_class app lists class type
  takes_none None asked = refl
  takes_none (Some type) other = ap (λ b. b && is_below app lists class type) (sym other)

  -- one that is asked for
  pub takes_asked : (type : Option Name) (asked : Asked) (answer : Bool) → IsAsked kinds type (Some asked) → answer ≡ is_below app lists class asked.kind.now → answer ≡ takes_class app lists class type
  takes_asked None asked answer none is = absurd none
  takes_asked (Some type) asked answer by is =
      is ∙ ap (is_below app lists class) by.0 ∙ ap (λ b. b && is_below app lists class type) (sym by.1)

-- how the argument registers before a place are asked for
pub record RegistersTo (kinds : Kinds) (params : List Name) (own : List (Option Asked)) (i : ℕ) : Type 0 where
  pub long : length own ≡ i
  pub has : AreAsked kinds params own

module _ (kinds : Kinds) (params : List Name) where
  pub none_asked : RegistersTo kinds params [] 0
  none_asked = record { long = refl; has = record { at = λ i asked there. absurd (none-some asked there) } }

  pub one_more_asked : (own : List (Option Asked)) (i : ℕ) (asked : Option Asked) → IsAsked kinds (argument_type params i) asked → RegistersTo kinds params own i → RegistersTo kinds params (own ++ asked ∷ []) (i + 1)
  one_more_asked own i asked is so_far = record {
    long = length-append own (asked ∷ []) ∙ let long = so_far.long in omega arith;
    has = record { at = λ j other there. by_place j other (at_pushed own asked other j there) };
  }
    where
      by_place : (j : ℕ) (other : Option Asked) → (slice_get own j ≡ Some other) ⊎ ((j ≡ length own) × (asked ≡ other)) → IsAsked kinds (argument_type params j) other
      by_place j other (inl before) = so_far.has.at j other before
      by_place j other (inr last) =
          subst (λ n. IsAsked kinds (argument_type params n) other) (sym (last.0 ∙ so_far.long)) (subst (IsAsked kinds (argument_type params i)) last.1 is)

-- how the methods before a place are asked for
pub record AskedTo {A : Type 0} (kinds : Kinds) (methods : List Method) (all : List (Vec (Option Asked) A)) (i : ℕ) : Type 0 where
  pub long : length all ≡ i
  pub has : HasAsked kinds methods all

module _ {A : Type 0} (kinds : Kinds) (methods : List Method) where
  pub no_methods : AskedTo {A = A} kinds methods [] 0
  no_methods = record { long = refl; has = record { at = λ n m own is there. absurd (none-some own there) } }

  pub one_more_method : (all : List (Vec (Option Asked) A)) (i : ℕ) (method : Method) (own : Vec (Option Asked) A) → i < length methods → method ≡ get_or methods i method → AreAsked kinds method.at.proto.params own.items →
      AskedTo kinds methods all i → AskedTo kinds methods (all ++ own ∷ []) (i + 1)
  one_more_method all i method own within is asked so_far = record {
    long = length-append all (own ∷ []) ∙ let long = so_far.long in omega arith;
    has = record { at = λ n m given is' there. by_place n m given is' (at_pushed all own given n there) };
  }
    where
      by_place : (n : ℕ) (m : Method) (given : Vec (Option Asked) A) → slice_get methods n ≡ Some m → (slice_get all n ≡ Some given) ⊎ ((n ≡ length all) × (own ≡ given)) → AreAsked kinds m.at.proto.params given.items
      by_place n m given is' (inl before) = so_far.has.at n m given is' before
      by_place n m given is' (inr last) =
          let place : n ≡ i = last.0 ∙ so_far.long in
          let same : method ≡ m = read_there methods i method m within is (ap (slice_get methods) (sym place) ∙ is') in
          subst (λ (o : Vec (Option Asked) A). AreAsked kinds m.at.proto.params o.items) last.1 (subst (λ (x : Method). AreAsked kinds x.at.proto.params own.items) same asked)
