-- The derived order of paths is the stated one, and tells all paths not_equal.
use Rattle.std.proofs.Common.{refl, ap}
use Rattle.std.specs.Prelude.{◌≡◌, ℕ, ◌+◌, Bool, true, false, List, [], ◌∷◌, ◌++◌, length, map}
use Rattle.std.specs.Ordering.{nat_cmp, ordering_then, bool_cmp}
use Rattle.std.specs.Cmp.Lexicographic.{slice_cmp}
use Rattle.std.specs.declared.cmp.Ordering.{Ordering}
use Rattle.std.specs.declared.cmp.Ordering.TheVariants.{Less, Greater}
use Rattle.std.proofs.lemmas.Map.Lookups.{CmpEqualImpliesEq, exact_unsigned, exact_pairs}
use Rattle.vet_base.proofs.Orders.{not_equal}
use Rattle.vet_base.specs.declared.key_id.KeyId.{KeyId}
use Rattle.vet_base.specs.contracts.key_id.KeyIdOrd.TheImpl.{ghosts as key_order}
use Rattle.access_path.specs.declared.keys.Keys.{Keys}
use Rattle.access_path.specs.declared.keys.Keys.TheVariants.{Zero, One, Two, Three, Four, Five}
use Rattle.access_path.specs.contracts.keys.KeysOrd.TheImpl.{ghosts as keys_order}
use Rattle.access_path.specs.declared.path.Path.{Path}
use Rattle.access_path.specs.Compared.{then_by, ComparesAs, compares_pair}
use Rattle.access_path.specs.Keys.{keys_in}
use Rattle.access_path.specs.Order.{path_cmp, numbers_of_path, PathOrder}

pub exact_key : CmpEqualImpliesEq key_order.cmp
exact_key a b e = ap (λ (n : ℕ). record { 0 = n }) (exact_unsigned a.0 b.0 e)

exact_bool : CmpEqualImpliesEq bool_cmp
exact_bool true true e = refl
exact_bool false false e = refl
exact_bool true false e = absurd (not_equal Greater refl e)
exact_bool false true e = absurd (not_equal Less refl e)

abbrev by_two : KeyId × KeyId → KeyId × KeyId → Ordering
by_two = then_by key_order.cmp key_order.cmp

abbrev by_three : KeyId × (KeyId × KeyId) → KeyId × (KeyId × KeyId) → Ordering
by_three = then_by key_order.cmp by_two

abbrev by_four : KeyId × (KeyId × (KeyId × KeyId)) → KeyId × (KeyId × (KeyId × KeyId)) → Ordering
by_four = then_by key_order.cmp by_three

exact_two : CmpEqualImpliesEq by_two
exact_two = exact_pairs key_order.cmp key_order.cmp exact_key exact_key

exact_three : CmpEqualImpliesEq by_three
exact_three = exact_pairs key_order.cmp by_two exact_key exact_two

exact_four : CmpEqualImpliesEq by_four
exact_four = exact_pairs key_order.cmp by_three exact_key exact_three

exact_keys : CmpEqualImpliesEq keys_order.cmp
exact_keys Zero Zero e = refl
exact_keys (One a) (One b) e = ap One (exact_key a b e)
exact_keys (Two a b) (Two k l) e = ap (λ (p : KeyId × KeyId). Two p.0 p.1) (exact_two (a, b) (k, l) e)
exact_keys (Three a b c) (Three k l m) e =
    ap (λ (p : KeyId × (KeyId × KeyId)). Three p.0 p.1.0 p.1.1) (exact_three (a, (b, c)) (k, (l, m)) e)
exact_keys (Four a b c d) (Four k l m n) e =
    ap (λ (p : KeyId × (KeyId × (KeyId × KeyId))). Four p.0 p.1.0 p.1.1.0 p.1.1.1) (exact_four (a, (b, (c, d))) (k, (l, (m, n))) e)
exact_keys (Five a b c d x) (Five k l m n y) e =
    ap (λ (p : KeyId × (KeyId × (KeyId × (KeyId × KeyId)))). Five p.0 p.1.0 p.1.1.0 p.1.1.1.0 p.1.1.1.1)
    (exact_pairs key_order.cmp by_four exact_key exact_four (a, (b, (c, (d, x)))) (k, (l, (m, (n, y)))) e)
exact_keys _ _ e = absurd (not_equal _ refl e)

exact_path : CmpEqualImpliesEq path_cmp
exact_path a b e =
    ap (λ (p : Bool × Keys). record { is_open = p.0; keys = p.1 })
    (exact_pairs bool_cmp keys_order.cmp exact_bool exact_keys (a.is_open, a.keys) (b.is_open, b.keys) e)

-- keys behind one another
abbrev number : KeyId → List ℕ
number k = k.0 ∷ []

one : ComparesAs nat_cmp key_order.cmp number
one = record { is = λ a b xs ys. refl }

abbrev two_numbers : KeyId × KeyId → List ℕ
two_numbers p = number p.0 ++ number p.1

two : ComparesAs nat_cmp by_two two_numbers
two = compares_pair one one

abbrev three_numbers : KeyId × (KeyId × KeyId) → List ℕ
three_numbers p = number p.0 ++ two_numbers p.1

three : ComparesAs nat_cmp by_three three_numbers
three = compares_pair one two

four : ComparesAs nat_cmp by_four (λ p. number p.0 ++ three_numbers p.1)
four = compares_pair one three

abbrev numbers : Keys → List ℕ
numbers keys = map (λ (k : KeyId). k.0) (keys_in keys)

-- the keys of two paths that are both closed or both open, behind the same number for as many keys
abbrev AreStated : (ℕ → ℕ) → Keys → Keys → Type 0
AreStated first a b = (xs ys : List ℕ)
    → slice_cmp nat_cmp (first (length (keys_in a)) ∷ numbers a ++ xs) (first (length (keys_in b)) ∷ numbers b ++ ys)
    ≡ ordering_then (keys_order.cmp a b) (slice_cmp nat_cmp xs ys)

stated_closed : (a b : Keys) → AreStated (λ n. n) a b
stated_closed Zero Zero xs ys = refl
stated_closed (One a) (One b) xs ys = one.is a b xs ys
stated_closed (Two a b) (Two k l) xs ys = two.is (a, b) (k, l) xs ys
stated_closed (Three a b c) (Three k l m) xs ys = three.is (a, (b, c)) (k, (l, m)) xs ys
stated_closed (Four a b c d) (Four k l m n) xs ys = four.is (a, (b, (c, d))) (k, (l, (m, n))) xs ys
stated_closed (Five a b c d e) (Five k l m n o) xs ys = (compares_pair one four).is (a, (b, (c, (d, e)))) (k, (l, (m, (n, o)))) xs ys
stated_closed _ _ xs ys = refl

stated_open : (a b : Keys) → AreStated (λ n. 128 + n) a b
stated_open Zero Zero xs ys = refl
stated_open (One a) (One b) xs ys = one.is a b xs ys
stated_open (Two a b) (Two k l) xs ys = two.is (a, b) (k, l) xs ys
stated_open (Three a b c) (Three k l m) xs ys = three.is (a, (b, c)) (k, (l, m)) xs ys
stated_open (Four a b c d) (Four k l m n) xs ys = four.is (a, (b, (c, d))) (k, (l, (m, n))) xs ys
stated_open (Five a b c d e) (Five k l m n o) xs ys = (compares_pair one four).is (a, (b, (c, (d, e)))) (k, (l, (m, (n, o)))) xs ys
stated_open _ _ xs ys = refl

-- the number of a closed path is below that of an open one
below_open : (a b : Keys) → nat_cmp (length (keys_in a)) (128 + length (keys_in b)) ≡ Less
below_open Zero Zero = refl
below_open (One a) (One b) = refl
below_open (Two a b) (Two k l) = refl
below_open (Three a b c) (Three k l m) = refl
below_open (Four a b c d) (Four k l m n) = refl
below_open (Five a b c d e) (Five k l m n o) = refl
below_open _ _ = refl

above_closed : (a b : Keys) → nat_cmp (128 + length (keys_in a)) (length (keys_in b)) ≡ Greater
above_closed Zero Zero = refl
above_closed (One a) (One b) = refl
above_closed (Two a b) (Two k l) = refl
above_closed (Three a b c) (Three k l m) = refl
above_closed (Four a b c d) (Four k l m n) = refl
above_closed (Five a b c d e) (Five k l m n o) = refl
above_closed _ _ = refl

abbrev path : Bool → Keys → Path
path is_open keys = record { is_open = is_open; keys = keys }

stated_path : ComparesAs nat_cmp path_cmp numbers_of_path
stated_path = record { is = λ p q xs ys. go p.is_open q.is_open p.keys q.keys xs ys }
  where
    go : (o u : Bool) (a b : Keys) (xs ys : List ℕ)
        → slice_cmp nat_cmp (numbers_of_path (path o a) ++ xs) (numbers_of_path (path u b) ++ ys)
        ≡ ordering_then (path_cmp (path o a) (path u b)) (slice_cmp nat_cmp xs ys)
    go false false a b xs ys = stated_closed a b xs ys
    go true true a b xs ys = stated_open a b xs ys
    go false true a b xs ys = ap (λ o. ordering_then o (slice_cmp nat_cmp (numbers a ++ xs) (numbers b ++ ys))) (below_open a b)
    go true false a b xs ys = ap (λ o. ordering_then o (slice_cmp nat_cmp (numbers a ++ xs) (numbers b ++ ys))) (above_closed a b)

pub path_order_is : PathOrder
path_order_is = record { exact = exact_path; stated = stated_path }
