-- Types that come to a row of bits.
use Rattle.std.proofs.Common.{◌≡◌, ℕ, ◌+◌, ◌<◌, ◌≤◌, Bool, true, false, ◌||◌, ◌==◌, List, [], ◌∷◌, length, take, get_or, Option, Some, None, refl, sym, ap, subst, ◌∙◌, eqb-true, eq-eqb, nat_eq}
use Rattle.std.specs.HashMap.{get}
use Rattle.std.specs.Map.{lookup}
use Rattle.std.specs.List.{list_any}
use Rattle.std.specs.Cmp.Lexicographic.{pointwise}
use Rattle.std.proofs.lemmas.Bool.{false_from_ne_true}
use Rattle.std.proofs.lemmas.List.{take_all}
use Rattle.std.proofs.lemmas.List.Folds.{list_any_more}
use Rattle.std.proofs.lemmas.Option.{none-some, same_Some}
use Rattle.vet_base.proofs.Texts.{same_equal, same_itself}
use Rattle.app_machine.specs.Names.{Name, same_name, object_class}
use Rattle.app_model.specs.Above.{is_among}
use Rattle.app_model.specs.Marks.{is_marked}
use Rattle.event_index.specs.contracts.keys.NameKeyPartialEq.TheImpl.{ghosts as key_eq}
use Rattle.event_index.specs.declared.keys.NameKey.{NameKey}
use Rattle.event_index.specs.declared.kinds.Kinds.{Kinds}
use Rattle.event_index.specs.Kinds.{AreKinds, Adds, HasKinds, has_number, IsNumberOf, nothing}

or_none : (a : Bool) → a ≡ (a || false)
or_none true = refl
or_none false = refl

or_turned : (a b : Bool) → (a || b) ≡ (b || a)
or_turned true true = refl
or_turned true false = refl
or_turned false true = refl
or_turned false false = refl

or_or : (a b c : Bool) → ((a || b) || c) ≡ (a || (b || c))
or_or true b c = refl
or_or false b c = refl

-- a type is known by its name
pub same_number : (kinds : Kinds) (q r : NameKey) → q.name.now ≡ r.name.now → get key_eq.eq kinds.numbers q ≡ get key_eq.eq kinds.numbers r
same_number kinds q r same = ap (λ n. lookup (λ (x : NameKey). pointwise nat_eq n x.name.now) kinds.numbers.entries) same

pub is_number : (kinds : Kinds) (key : NameKey) (type : Name) (k : ℕ) → key.name.now ≡ type → has_number kinds key k → IsNumberOf kinds type k
is_number kinds key type k name has = record { key = key; name = name; has = has }

module _ (kinds : Kinds) where
  -- tests that agree on the types that have numbers
  pub adds_as : (f g : Name → Bool) (old new : List ℕ) → ((q : NameKey) (k : ℕ) → has_number kinds q k → f q.name.now ≡ g q.name.now) → Adds kinds old new f → Adds kinds old new g
  adds_as f g old new agree adds = record { long = adds.long; at = λ q k has. adds.at q k has ∙ ap (λ b. is_marked old k || b) (agree q k has) }

  pub adds_nothing : (row : List ℕ) (f : Name → Bool) → ((type : Name) → f type ≡ false) → Adds kinds row row f
  adds_nothing row f none = record { long = refl; at = λ q k has. or_none (is_marked row k) ∙ ap (λ b. is_marked row k || b) (sym (none q.name.now)) }

  pub adds_both : (f g : Name → Bool) (old middle new : List ℕ) → Adds kinds old middle f → Adds kinds middle new g → Adds kinds old new (λ type. f type || g type)
  adds_both f g old middle new one other = record {
    long = other.long ∙ one.long;
    at = λ q k has. other.at q k has ∙ (ap (λ b. b || g q.name.now) (one.at q k has) ∙ or_or (is_marked old k) (f q.name.now) (g q.name.now));
  }

  pub has_more : (f g : Name → Bool) (old new : List ℕ) → HasKinds kinds old f → Adds kinds old new g → HasKinds kinds new (λ type. f type || g type)
  has_more f g old new has adds = record {
    long = adds.long ∙ has.long;
    at = λ q k number. adds.at q k number ∙ ap (λ b. b || g q.name.now) (has.at q k number);
  }

  pub has_first : (f : Name → Bool) (old new : List ℕ) → HasKinds kinds old nothing → Adds kinds old new f → HasKinds kinds new f
  has_first f old new has adds = has_more nothing f old new has adds

  pub has_as : (f g : Name → Bool) (row : List ℕ) → ((q : NameKey) (k : ℕ) → has_number kinds q k → f q.name.now ≡ g q.name.now) → HasKinds kinds row f → HasKinds kinds row g
  has_as f g row agree has = record { long = has.long; at = λ q k number. has.at q k number ∙ agree q k number }

  -- what a row has comes to another one
  pub adds_row_of : (f : Name → Bool) (row old new : List ℕ) → HasKinds kinds row f → length new ≡ length old → ((j : ℕ) → is_marked new j ≡ (is_marked old j || is_marked row j)) → Adds kinds old new f
  adds_row_of f row old new has long marks = record { long = long; at = λ q k number. marks k ∙ ap (λ b. is_marked old k || b) (has.at q k number) }

  module _ (are : AreKinds kinds) where
    pub marks_one : (key : NameKey) (number : ℕ) (old new : List ℕ) → has_number kinds key number → length new ≡ length old → ((j : ℕ) → is_marked new j ≡ ((j == number) || is_marked old j)) → Adds kinds old new (same_name key.name.now)
    marks_one key number old new has long marks = record {
      long = long;
      at = λ q k there. marks k ∙ (or_turned (k == number) (is_marked old k) ∙ ap (λ b. is_marked old k || b) (by_number q k there (k == number) refl));
    }
      where
        itself : (k : ℕ) → (k == k) ≡ true
        itself k = eq-eqb k k refl

        by_number : (q : NameKey) (k : ℕ) → has_number kinds q k → (b : Bool) → (k == number) ≡ b → (k == number) ≡ same_name key.name.now q.name.now
        by_number q k there true e =
            let same : k ≡ number = eqb-true k number e in
            let names : key.name.now ≡ q.name.now = are.apart key q number has (there ∙ ap (λ n. Some n) same) in
            e ∙ sym (ap (λ n. same_name n q.name.now) names ∙ same_itself q.name.now)
        by_number q k there false e =
            e ∙ sym (false_from_ne_true (same_name key.name.now q.name.now) (λ same.
            let names : key.name.now ≡ q.name.now = same_equal key.name.now q.name.now same in
            let number_is : number ≡ k = same_Some number k (sym has ∙ (same_number kinds key q names ∙ there)) in
            let not : (k == number) ≡ true = ap (λ n. k == n) number_is ∙ itself k in cc))

    pub marks_none : (key : NameKey) (row : List ℕ) → get key_eq.eq kinds.numbers key ≡ None → Adds kinds row row (same_name key.name.now)
    marks_none key row absent = record {
      long = refl;
      at = λ q k has. or_none (is_marked row k) ∙ ap (λ b. is_marked row k || b) (sym (false_from_ne_true (same_name key.name.now q.name.now) (λ same.
          none-some k (sym absent ∙ (same_number kinds key q (same_equal key.name.now q.name.now same) ∙ has)))));
    }

  -- the types of some names
  pub adds_none_of : (row : List ℕ) (names : List Name) → Adds kinds row row (is_among (take 0 names))
  unfolding is_among
  adds_none_of row names = adds_nothing row (is_among []) (λ type. refl)

  pub adds_one_of : (first old new : List ℕ) (names : List Name) (i : ℕ) (name : Name) → i < length names → name ≡ get_or names i name →
      Adds kinds first old (is_among (take i names)) → Adds kinds old new (same_name name) → Adds kinds first new (is_among (take (i + 1) names))
  unfolding is_among
  adds_one_of first old new names i name within is so_far one =
      adds_as (λ type. is_among (take i names) type || same_name name type) (is_among (take (i + 1) names)) first new
      (λ q k has. sym (list_any_more (λ other. same_name other q.name.now) names i name within ∙ ap (λ n. is_among (take i names) q.name.now || same_name n q.name.now) (sym is)))
      (adds_both (is_among (take i names)) (same_name name) first old new so_far one)

  pub adds_all_of : (first new : List ℕ) (names : List Name) (i : ℕ) → length names ≤ i → Adds kinds first new (is_among (take i names)) → Adds kinds first new (is_among names)
  adds_all_of first new names i past so_far =
      subst (λ ns. Adds kinds first new (is_among ns)) (take_all i names past) so_far
