-- The rows of the classes of an app, each from those above it.
use Rattle.std.proofs.Common.{◌≡◌, ◌↔◌, ℕ, ◌+◌, ◌<◌, ◌≤◌, Bool, true, false, IsTrue, ◌||◌, List, [], ◌∷◌, ◌++◌, length, take, set, get_or, Option, Some, None, slice_get, refl, sym, ap, subst, ◌∙◌, ◌⊎◌, inl, inr}
use Rattle.std.specs.List.{list_any}
use Rattle.std.specs.Option.{MatchOption}
use Rattle.std.specs.Prelude.{option_to_list}
use Rattle.std.proofs.lemmas.Bool.{or_cases, or_left, or_right, false_from_ne_true}
use Rattle.std.proofs.lemmas.List.{take_all}
use Rattle.std.proofs.lemmas.List.Folds.{list_any-append, list_any_more}
use Rattle.std.proofs.lemmas.Option.{none-some, same_Some, slice_get_read}
use Rattle.vet_base.specs.Members.{In}
use Rattle.vet_base.proofs.Bools.{same_answers}
use Rattle.vet_base.proofs.Lists.{element_at}
use Rattle.vet_base.proofs.Members.{one_passes, passes_if}
use Rattle.vet_base.proofs.Texts.{same_equal, same_itself}
use Rattle.app_machine.specs.declared.app.App.{App}
use Rattle.app_machine.specs.declared.app.Class.{Class}
use Rattle.app_machine.specs.declared.lists.Lists.{Lists}
use Rattle.app_machine.specs.Lookups.{all_above, class_named, directly_above}
use Rattle.app_machine.specs.Names.{Name, same_name, object_class}
use Rattle.app_machine.specs.Summaries.{listed_above, ClassBelow}
use Rattle.app_machine.specs.Summaries.ClassBelow.{is_same, is_object, is_through, is_listed}
use Rattle.app_model.specs.Above.{has_below, is_among, is_class_below, is_listed_below}
use Rattle.app_model.specs.EventLaws.{EventsAreExact}
use Rattle.app_model.specs.Marks.{is_marked}
use Rattle.event_index.specs.declared.keys.NameKey.{NameKey}
use Rattle.event_index.specs.declared.kinds.Kinds.{Kinds}
use Rattle.event_index.specs.declared.listed.Listed.{Listed}
use Rattle.event_index.specs.Kinds.{Adds, AreKinds, HasKinds, has_number, nothing}
use Rattle.event_index.specs.Listed.{IsListed}
use Rattle.event_index.specs.Settled.{AddsIf, AreNone, AreSettled, any_below}
use Rattle.event_index.proofs.Classes.{name_of_class, nothing_above}
use Rattle.event_index.proofs.Pushed.{at_pushed, at_set, read_there}
use Rattle.event_index.proofs.Rows.{adds_as, adds_both, adds_nothing, adds_row_of, has_first}

or_false : (a : Bool) → a ≡ (a || false)
or_false true = refl
or_false false = refl

module _ (app : App) (lists : Lists) where
  -- a class that is not of the app is below what the lists have above it
  pub below_outside : (name type : Name) → class_named app name ≡ None → (type ≡ object_class → ⊥) → is_listed_below lists name type ≡ is_class_below app lists name type
  unfolding is_class_below
  below_outside name type outside other =
      let object : same_name type object_class ≡ false = false_from_ne_true (same_name type object_class) (λ same. other (same_equal type object_class same)) in
      or_false (is_listed_below lists name type)
      ∙ (ap (λ classes. is_listed_below lists name type || list_any (λ (c : Class). has_below c lists type) classes) (sym (nothing_above app name outside))
      ∙ ap (λ b. b || (is_listed_below lists name type || list_any (λ (c : Class). has_below c lists type) (all_above app name))) (sym object))

  -- what the lists have above a class it is below
  listed_is_below : (name type : Name) → is_listed_below lists name type ≡ true → is_class_below app lists name type ≡ true
  unfolding is_class_below
  listed_is_below name type is =
      or_right (same_name type object_class) (is_listed_below lists name type || list_any (λ (c : Class). has_below c lists type) (all_above app name))
      (or_left (is_listed_below lists name type) (list_any (λ (c : Class). has_below c lists type) (all_above app name)) is)

  module _ (events : EventsAreExact app lists) (class : Class) (there : class_named app class.name ≡ Some class) (type : Name) (other : type ≡ object_class → ⊥) where
    below_if : (is_listed_below lists class.name type || any_below app lists (directly_above class) type) ≡ true → ClassBelow app lists class.name type
    below_if holds = elim (or_cases (is_listed_below lists class.name type) (any_below app lists (directly_above class) type) holds) [
      | inl here ↦ (events.class_below class.name type).0 (listed_is_below class.name type here)
      | inr up ↦ let one = one_passes (λ above. is_class_below app lists above type) (directly_above class) up in is_through class there one.1 ((events.class_below one.0 type).0 one.2)
    ]

    here_is : is_listed_below lists class.name type ≡ true → (is_listed_below lists class.name type || any_below app lists (directly_above class) type) ≡ true
    here_is is = or_left (is_listed_below lists class.name type) (any_below app lists (directly_above class) type) is

    below_only_if : (name : Name) → name ≡ class.name → ClassBelow app lists name type → (is_listed_below lists class.name type || any_below app lists (directly_above class) type) ≡ true
    unfolding is_listed_below is_among
    below_only_if name same is_same =
        here_is (or_left (same_name class.name type) (is_among (listed_above lists class.name) type) (ap (λ n. same_name n type) (sym same) ∙ same_itself type))
    below_only_if name same (is_object object) = absurd (other object)
    below_only_if name same (is_through {above} c at up rest) =
        let one : c ≡ class = same_Some c class (sym at ∙ (ap (class_named app) same ∙ there)) in
        or_right (is_listed_below lists class.name type) (any_below app lists (directly_above class) type)
        (passes_if (λ a. is_class_below app lists a type) (directly_above class) above (subst (λ (d : Class). In above (directly_above d)) one up) ((events.class_below above type).1 rest))
    below_only_if name same (is_listed among) =
        here_is (or_right (same_name class.name type) (is_among (listed_above lists class.name) type)
        (passes_if (λ a. same_name a type) (listed_above lists class.name) type (subst (λ n. In type (listed_above lists n)) same among) (same_itself type)))

    pub below_class : (is_listed_below lists class.name type || any_below app lists (directly_above class) type) ≡ is_class_below app lists class.name type
    below_class =
        same_answers (is_listed_below lists class.name type || any_below app lists (directly_above class) type) (is_class_below app lists class.name type)
        (below_if, λ below. below_only_if class.name refl below) (events.class_below class.name type)

module _ (app : App) (listed : Listed) where
  abbrev below : Name → Name → Bool
  below name type = is_class_below app listed.lists.now name type

  pub adds_outside : (name : Name) (old new : List ℕ) → IsListed listed → class_named app name ≡ None → Adds listed.kinds old new (is_listed_below listed.lists.now name) →
      AddsIf listed.kinds old new (below name) true
  adds_outside name old new is outside adds = record {
    long = adds.long;
    adds = λ yes. adds_as listed.kinds (is_listed_below listed.lists.now name) (below name) old new
        (λ q k has. below_outside app listed.lists.now name q.name.now outside (is.kinds.no_object q k has)) adds;
  }

  pub adds_settled : (rows : List (Option (List ℕ))) (name : Name) (i : ℕ) (above old new : List ℕ) → AreSettled app listed rows → i < length app.classes → slice_get app.classes i ≡ class_named app name →
      slice_get rows i ≡ Some (Some above) → length new ≡ length old → ((j : ℕ) → is_marked new j ≡ (is_marked old j || is_marked above j)) → AddsIf listed.kinds old new (below name) true
  adds_settled rows name i above old new settled within is there long marks =
      let at = element_at app.classes i within in
      let here : slice_get app.classes i ≡ Some at.0 = slice_get_read_at at.0 at.1 in
      let named : at.0.name ≡ name = name_of_class app name at.0 (sym is ∙ here) in
      let has : HasKinds listed.kinds above (below name) = subst (λ n. HasKinds listed.kinds above (below n)) named (settled.at i at.0 above here there) in
      record { long = long; adds = λ yes. adds_row_of listed.kinds (below name) above old new has long marks }
    where
      slice_get_read_at : (c : Class) → c ≡ get_or app.classes i c → slice_get app.classes i ≡ Some c
      slice_get_read_at c is = slice_get_read app.classes (length app.classes) i c refl within is

  -- a row to which not all came
  pub adds_not : (test : Name → Bool) (first old new : List ℕ) → length old ≡ length first → length new ≡ length old → AddsIf listed.kinds first new test false
  adds_not test first old new one other = record { long = other ∙ one; adds = λ yes. absurd cc }

  abbrev any_of : List Name → Name → Bool
  any_of names type = any_below app listed.lists.now names type

  pub none_of : (row : List ℕ) (names : List Name) → AddsIf listed.kinds row row (any_of (take 0 names)) true
  none_of row names = record { long = refl; adds = λ yes. adds_nothing listed.kinds row (any_of []) (λ type. refl) }

  pub one_of : (first old new : List ℕ) (names : List Name) (i : ℕ) (name : Name) → i < length names → name ≡ get_or names i name →
      AddsIf listed.kinds first old (any_of (take i names)) true → AddsIf listed.kinds old new (below name) true → AddsIf listed.kinds first new (any_of (take (i + 1) names)) true
  one_of first old new names i name within is so_far one = record {
    long = one.long ∙ so_far.long;
    adds = λ yes. adds_as listed.kinds (λ type. any_of (take i names) type || below name type) (any_of (take (i + 1) names)) first new
        (λ q k has. sym (list_any_more (λ class. below class q.name.now) names i name within ∙ ap (λ n. any_of (take i names) q.name.now || below n q.name.now) (sym is)))
        (adds_both listed.kinds (any_of (take i names)) (below name) first old new (so_far.adds refl) (one.adds refl));
  }

  pub all_of : (first new : List ℕ) (names : List Name) (i : ℕ) → length names ≤ i → AddsIf listed.kinds first new (any_of (take i names)) true → AddsIf listed.kinds first new (any_of names) true
  all_of first new names i past so_far = subst (λ ns. AddsIf listed.kinds first new (any_of ns) true) (take_all i names past) so_far

  slice_of_option : (o : Option Name) (xs : List Name) → MatchOption o (xs ≡ []) (λ x. xs ≡ x ∷ []) → xs ≡ option_to_list o
  slice_of_option None xs is = is
  slice_of_option (Some x) xs is = is

  -- what comes to the row of a class
  pub class_adds : (class : Class) (superclass interfaces : List Name) (old named middle new : List ℕ) (answer : Bool) → IsListed listed → EventsAreExact app listed.lists.now → class_named app class.name ≡ Some class →
      MatchOption class.superclass (superclass ≡ []) (λ x. superclass ≡ x ∷ []) → interfaces ≡ class.interfaces →
      Adds listed.kinds old named (is_listed_below listed.lists.now class.name) →
      AddsIf listed.kinds named middle (any_of superclass) true → AddsIf listed.kinds middle new (any_of interfaces) answer → AddsIf listed.kinds old new (below class.name) answer
  class_adds class superclass interfaces old named middle new answer is events there one are itself ups others = record {
    long = others.long ∙ (ups.long ∙ itself.long);
    adds = λ yes. adds_as listed.kinds (λ type. (is_listed_below listed.lists.now class.name type || any_of superclass type) || any_of interfaces type) (below class.name) old new
        (λ q k number. or_or (is_listed_below listed.lists.now class.name q.name.now) (any_of superclass q.name.now) (any_of interfaces q.name.now)
        ∙ (ap (λ b. is_listed_below listed.lists.now class.name q.name.now || b) (together q.name.now) ∙ below_class app listed.lists.now events class there q.name.now (is.kinds.no_object q k number)))
        (adds_both listed.kinds (λ type. is_listed_below listed.lists.now class.name type || any_of superclass type) (any_of interfaces) old middle new
        (adds_both listed.kinds (is_listed_below listed.lists.now class.name) (any_of superclass) old named middle itself (ups.adds refl)) (others.adds yes));
  }
    where
      or_or : (a b c : Bool) → ((a || b) || c) ≡ (a || (b || c))
      or_or true b c = refl
      or_or false b c = refl

      together : (type : Name) → (any_of superclass type || any_of interfaces type) ≡ any_of (directly_above class) type
      together type =
          ap (λ xs. any_of xs type || any_of interfaces type) (slice_of_option class.superclass superclass one)
          ∙ (ap (λ xs. any_of (option_to_list class.superclass) type || any_of xs type) are
          ∙ sym (list_any-append (λ above. below above type) (option_to_list class.superclass) class.interfaces))

  pub has_filled : (test : Name → Bool) (row new : List ℕ) → HasKinds listed.kinds row nothing → AddsIf listed.kinds row new test true → HasKinds listed.kinds new test
  has_filled test row new has adds = has_first listed.kinds test row new has (adds.adds refl)

  -- the row of one more class
  pub one_settled : (rows : List (Option (List ℕ))) (i : ℕ) (class : Class) (row : List ℕ) → slice_get app.classes i ≡ Some class → HasKinds listed.kinds row (below class.name) →
      AreSettled app listed rows → AreSettled app listed (set rows i (Some row))
  one_settled rows i class row there has settled = record { at = λ j c own at own_at. by_place j c own at (at_set rows (Some row) (Some own) i j own_at) }
    where
      by_place : (j : ℕ) (c : Class) (own : List ℕ) → slice_get app.classes j ≡ Some c → ((i ≡ j) × (Some row ≡ Some own)) ⊎ (slice_get rows j ≡ Some (Some own)) → HasKinds listed.kinds own (below c.name)
      by_place j c own at (inl here) =
          let same : class ≡ c = same_Some class c (sym there ∙ (ap (slice_get app.classes) here.0 ∙ at)) in
          subst (λ r. HasKinds listed.kinds r (below c.name)) (same_Some row own here.1) (subst (λ (d : Class). HasKinds listed.kinds row (below d.name)) same has)
      by_place j c own at (inr before) = settled.at j c own at before

  pub none_settled : (rows : List (Option (List ℕ))) → AreNone rows → AreSettled app listed rows
  none_settled rows none = record { at = λ i c row at there. absurd (none.at i row there) }

pub none_there : AreNone []
none_there = record { at = λ i row there. none-some (Some row) there }

pub one_more_none : (rows : List (Option (List ℕ))) → AreNone rows → AreNone (rows ++ None ∷ [])
one_more_none rows none = record { at = λ i row there. by_place i row (at_pushed rows None (Some row) i there) }
  where
    by_place : (i : ℕ) (row : List ℕ) → (slice_get rows i ≡ Some (Some row)) ⊎ ((i ≡ length rows) × (None ≡ Some row)) → ⊥
    by_place i row (inl before) = none.at i row before
    by_place i row (inr last) = none-some row last.1
