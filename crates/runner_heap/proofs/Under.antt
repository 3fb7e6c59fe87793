-- What stands under a key of an object that is kept.
use Rattle.std.proofs.Common.{◌≡◌, ◌==◌, ℕ, zero, suc, ◌+◌, Bool, true, false, cond, List, [], ◌∷◌, ◌++◌, map, reverse, Option, Some, None, option_map, refl, sym, ap, ◌∙◌, subst, arith, add-one, eqb-true, eq-eqb}
use Rattle.std.specs.Prelude.{nat_lt, option_to_list}
use Rattle.std.specs.declared.cmp.Ordering.TheVariants.{Less, Equal, Greater}
use Rattle.std.specs.Ordering.{is_eq, nat_cmp}
use Rattle.std.specs.Map.{lookup}
use Rattle.std.specs.BTreeMap.{is_at}
use Rattle.std.specs.List.{cons_option}
use Rattle.std.proofs.lemmas.Bool.{ltb-true}
use Rattle.std.proofs.lemmas.List.{append-nil, reverse-append, reverse-reverse, map-append}
use Rattle.std.proofs.lemmas.List.Elements.{filter_map-append}
use Rattle.vet_base.specs.declared.key_id.KeyId.{KeyId}
use Rattle.app_machine.specs.Heap.{Value, Object, without, put_entry}
use Rattle.app_machine.specs.Lookups.{elem_key}
use Rattle.app_machine.specs.Names.{Name}
use Rattle.played_machine.specs.Local.{first_or_blank}
use Rattle.played_machine.specs.Reading.{under}
use Rattle.played_machine.proofs.Ordered.{false_true}
use Rattle.played_alike.specs.Alike.{Pairwise, AlikeValue, values_under, AlikeEntries, AlikeObject}
use Rattle.played_alike.proofs.Heaps.{alike_itself, values_without}
use Rattle.played_alike.proofs.Pairs.{pair_same}
use Rattle.runner_heap.specs.Shown.{field_key, element_of, fields_of, entries_by, put_on}
use Rattle.runner_state.specs.declared.value.Held.{Held}
use Rattle.runner_state.specs.Shown.{value_of, shown_or_blank}

-- tests of keys
same_test : (a b : Bool) → (a ≡ true → b ≡ true) → (b ≡ true → a ≡ true) → a ≡ b
same_test true true to from = refl
same_test true false to from = absurd (false_true (to refl))
same_test false true to from = absurd (false_true (from refl))
same_test false false to from = refl

same_next : (x y : ℕ) → (x + 1 == y + 1) ≡ (x == y)
same_next x y = same_test (x + 1 == y + 1) (x == y)
    (λ e. let same : x ≡ y = omega (arith, eqb-true (x + 1) (y + 1) e) in eq-eqb x y same)
    (λ e. let same : x + 1 ≡ y + 1 = omega (arith, eqb-true x y e) in eq-eqb (x + 1) (y + 1) same)

swapped : (x y : ℕ) → (x == y) ≡ (y == x)
swapped x y = same_test (x == y) (y == x) (λ e. eq-eqb y x (sym (eqb-true x y e))) (λ e. eq-eqb x y (sym (eqb-true y x e)))

above_zero : (n : ℕ) → (n + 1 == 0) ≡ false
above_zero n = same_test (n + 1 == 0) false (λ e. absurd (omega (arith, eqb-true (n + 1) 0 e))) (λ e. absurd (false_true e))

zero_below : (n : ℕ) → (0 == n + 1) ≡ false
zero_below n = swapped 0 (n + 1) ∙ above_zero n

pub order_test : (q k : ℕ) → is_eq (nat_cmp q k) ≡ (q == k)
order_test q k = by_order (nat_lt q k) (q == k) refl refl
  where
    by_order : (a b : Bool) → nat_lt q k ≡ a → (q == k) ≡ b → is_eq (cond a Less (cond b Equal Greater)) ≡ b
    by_order true true less same = absurd (omega (arith, ltb-true q k less, eqb-true q k same))
    by_order true false less same = refl
    by_order false true less same = refl
    by_order false false less same = refl

-- elements
elements_here : (xs : List Held) → values_under elem_key (map element_of xs) ≡ map value_of xs
elements_here [] = refl
elements_here (x ∷ xs) = ap (λ vs. value_of x ∷ vs) (elements_here xs)

elements_elsewhere : (n : ℕ) (xs : List Held) → values_under (field_key n) (map element_of xs) ≡ []
elements_elsewhere n [] = refl
elements_elsewhere n (x ∷ xs) = ap (λ b. cons_option (cond b (Some (value_of x)) None) (values_under (field_key n) (map element_of xs))) (zero_below n) ∙ elements_elsewhere n xs

-- fields
abbrev pub field_in : ℕ → List (ℕ × Held) → Option Held
field_in n fields = lookup (is_at (nat_cmp n)) fields

fields_elsewhere : (fields : List (ℕ × Held)) → values_under elem_key (fields_of fields) ≡ []
fields_elsewhere [] = refl
fields_elsewhere (e ∷ es) =
    ap (λ b. cons_option (cond b (Some (value_of e.1)) None) (values_under elem_key (without (field_key e.0) (fields_of es)))) (above_zero e.0)
    ∙ (values_without elem_key (field_key e.0) (fields_of es)
    ∙ (ap (λ b. cond b [] (values_under elem_key (fields_of es))) (zero_below e.0) ∙ fields_elsewhere es))

field_here : (n : ℕ) (fields : List (ℕ × Held)) → values_under (field_key n) (fields_of fields) ≡ option_to_list (option_map value_of (field_in n fields))
field_here n [] = refl
field_here n (e ∷ es) =
    ap (λ vs. cons_option (cond (e.0 + 1 == n + 1) (Some (value_of e.1)) None) vs) (values_without (field_key n) (field_key e.0) (fields_of es))
    ∙ by_key (n == e.0) (e.0 + 1 == n + 1) (n + 1 == e.0 + 1) (is_eq (nat_cmp n e.0)) (same_next e.0 n ∙ swapped e.0 n) (same_next n e.0) (order_test n e.0) (field_here n es)
  where
    by_key : (b one other third : Bool) → one ≡ b → other ≡ b → third ≡ b → values_under (field_key n) (fields_of es) ≡ option_to_list (option_map value_of (field_in n es)) →
        cons_option (cond one (Some (value_of e.1)) None) (cond other [] (values_under (field_key n) (fields_of es))) ≡ option_to_list (option_map value_of (cond third (Some e.1) (field_in n es)))
    by_key true true true true e f g later = refl
    by_key false false false false e f g later = later
    by_key true false other third e f g later = absurd (false_true e)
    by_key true true false third e f g later = absurd (false_true f)
    by_key true true true false e f g later = absurd (false_true g)
    by_key false true other third e f g later = absurd (false_true (sym e))
    by_key false false true third e f g later = absurd (false_true (sym f))
    by_key false false false true e f g later = absurd (false_true (sym g))

-- all entries
pub elements_under : (elements : List Held) (fields : List (ℕ × Held)) → values_under elem_key (entries_by elements fields) ≡ map value_of (reverse elements)
elements_under elements fields =
    filter_map-append (under elem_key) (map element_of (reverse elements)) (fields_of fields)
    ∙ (ap (λ vs. values_under elem_key (map element_of (reverse elements)) ++ vs) (fields_elsewhere fields)
    ∙ (append-nil (values_under elem_key (map element_of (reverse elements))) ∙ elements_here (reverse elements)))

pub field_under : (n : ℕ) (elements : List Held) (fields : List (ℕ × Held)) → values_under (field_key n) (entries_by elements fields) ≡ option_to_list (option_map value_of (field_in n fields))
field_under n elements fields =
    filter_map-append (under (field_key n)) (map element_of (reverse elements)) (fields_of fields)
    ∙ (ap (λ vs. vs ++ values_under (field_key n) (fields_of fields)) (elements_elsewhere n (reverse elements)) ∙ field_here n fields)

-- read
one_or_blank : (o : Option Held) → shown_or_blank o ≡ first_or_blank (reverse (option_to_list (option_map value_of o)))
one_or_blank None = refl
one_or_blank (Some held) = refl

pub field_read : (n : ℕ) (elements : List Held) (fields : List (ℕ × Held)) (o : Option Held) → o ≡ field_in n fields →
    shown_or_blank o ≡ first_or_blank (reverse (values_under (field_key n) (entries_by elements fields)))
field_read n elements fields o is = ap shown_or_blank is ∙ (one_or_blank (field_in n fields) ∙ ap (λ vs. first_or_blank (reverse vs)) (sym (field_under n elements fields)))

map_reverse : {A B : Type 0} (f : A → B) (xs : List A) → map f (reverse xs) ≡ reverse (map f xs)
map_reverse f [] = refl
map_reverse f (x ∷ xs) =
    ap (map f) (reverse-append (x ∷ []) xs)
    ∙ (map-append f (reverse xs) (x ∷ [])
    ∙ (ap (λ ys. ys ++ f x ∷ []) (map_reverse f xs) ∙ sym (reverse-append (f x ∷ []) (map f xs))))

pub elements_read : (elements : List Held) (fields : List (ℕ × Held)) → map value_of elements ≡ reverse (values_under elem_key (entries_by elements fields))
elements_read elements fields = sym (ap reverse (elements_under elements fields) ∙ (ap reverse (map_reverse value_of elements) ∙ reverse-reverse (map value_of elements)))

-- put
pub element_put : (elements : List Held) (fields : List (ℕ × Held)) (v : Held) → entries_by (elements ++ v ∷ []) fields ≡ put_entry elem_key (value_of v) (entries_by elements fields)
element_put elements fields v = ap (λ xs. map element_of xs ++ fields_of fields) (reverse-append elements (v ∷ []))

put_under : (j : KeyId) (n : ℕ) (v : Value) (es : List (KeyId × Value)) → values_under j (put_entry (field_key n) v es) ≡ cond (j.0 == n + 1) (v ∷ []) (values_under j es)
put_under j n v es =
    ap (λ b. values_under j (cond b ((field_key n, v) ∷ es) ((field_key n, v) ∷ without (field_key n) es))) (above_zero n)
    ∙ (ap (λ vs. cons_option (cond (n + 1 == j.0) (Some v) None) vs) (values_without j (field_key n) es) ∙ by_key (n + 1 == j.0) (j.0 == n + 1) (swapped (n + 1) j.0))
  where
    by_key : (a b : Bool) → a ≡ b → cons_option (cond a (Some v) None) (cond b [] (values_under j es)) ≡ cond b (v ∷ []) (values_under j es)
    by_key true true same = refl
    by_key true false same = absurd (false_true (sym same))
    by_key false true same = absurd (false_true same)
    by_key false false same = refl

-- the fields after one is put: the value under its number, and under the others what was there
abbrev pub PutsField : ℕ → Held → List (ℕ × Held) → List (ℕ × Held) → Type 0
PutsField n v old new = (q : ℕ) → field_in q new ≡ cond (is_at (nat_cmp n) q) (Some v) (field_in q old)

module _ (elements : List Held) (old new : List (ℕ × Held)) (n : ℕ) (v : Held) (puts : PutsField n v old new) where
  put_field_under : (m : ℕ) → values_under (field_key m) (put_entry (field_key n) (value_of v) (entries_by elements old)) ≡ values_under (field_key m) (entries_by elements new)
  put_field_under m =
      put_under (field_key m) n (value_of v) (entries_by elements old)
      ∙ (by_key (m == n) (m + 1 == n + 1) (is_eq (nat_cmp n m)) (same_next m n) (order_test n m ∙ swapped n m)
      ∙ (ap (λ o. option_to_list (option_map value_of o)) (sym (puts m)) ∙ sym (field_under m elements new)))
    where
      by_key : (b one other : Bool) → one ≡ b → other ≡ b → cond one (value_of v ∷ []) (values_under (field_key m) (entries_by elements old)) ≡ option_to_list (option_map value_of (cond other (Some v) (field_in m old)))
      by_key true true true e f = refl
      by_key false false false e f = field_under m elements old
      by_key true false other e f = absurd (false_true e)
      by_key true true false e f = absurd (false_true f)
      by_key false true other e f = absurd (false_true (sym e))
      by_key false false true e f = absurd (false_true (sym f))

  put_beside : values_under elem_key (put_entry (field_key n) (value_of v) (entries_by elements old)) ≡ values_under elem_key (entries_by elements new)
  put_beside =
      put_under elem_key n (value_of v) (entries_by elements old)
      ∙ (ap (λ b. cond b (value_of v ∷ []) (values_under elem_key (entries_by elements old))) (zero_below n)
      ∙ (elements_under elements old ∙ sym (elements_under elements new)))

  same_under : (k : ℕ) → values_under (record { 0 = k }) (put_entry (field_key n) (value_of v) (entries_by elements old)) ≡ values_under (record { 0 = k }) (entries_by elements new)
  same_under zero = put_beside
  same_under (suc m) = subst (λ k. values_under (record { 0 = k }) (put_entry (field_key n) (value_of v) (entries_by elements old)) ≡ values_under (record { 0 = k }) (entries_by elements new)) (add-one m) (put_field_under m)

  pub field_put : AlikeEntries (put_entry (field_key n) (value_of v) (entries_by elements old)) (entries_by elements new)
  field_put j = subst (λ vs. Pairwise AlikeValue vs (values_under j (entries_by elements new))) (sym (same_under j.0)) (pair_same AlikeValue alike_itself (values_under j (entries_by elements new)))

-- an object by its parts
abbrev pub object_by : Name → List Held → List (ℕ × Held) → Object
object_by class elements fields = record { class = class; entries = entries_by elements fields }

pub element_added : (class : Name) (elements new : List Held) (fields : List (ℕ × Held)) (v : Held) → new ≡ elements ++ v ∷ [] → object_by class new fields ≡ put_on elem_key (value_of v) (object_by class elements fields)
element_added class elements new fields v is =
    ap (λ xs. object_by class xs fields) is ∙ ap {B = Object} (λ es. record { class = class; entries = es }) (element_put elements fields v)

pub field_added : (class : Name) (elements : List Held) (old new : List (ℕ × Held)) (n : ℕ) (v : Held) → PutsField n v old new →
    AlikeObject (put_on (field_key n) (value_of v) (object_by class elements old)) (object_by class elements new)
field_added class elements old new n v puts = record { class = refl; entries = field_put elements old new n v puts }
