-- Entries that are put into an ordered list one after the other, each under a new key.
use Rattle.std.proofs.Common.{◌≡◌, true, false, not, Option, Ok, List, [], ◌∷◌, ◌++◌, refl, sym, ap, subst, ◌∙◌, ◌⊎◌, inl, inr}
use Rattle.std.specs.Prelude.{◌↔◌, IsTrue, is_some}
use Rattle.std.specs.BTreeMap.{insert_entry, is_at}
use Rattle.std.specs.Cmp.{IsTotalOrder}
use Rattle.std.specs.List.{AllByRecursion, IsDistinct}
use Rattle.std.specs.List.Sorted.{IsStrictlySortedBy}
use Rattle.std.specs.Map.{lookup, keys_of}
use Rattle.std.specs.Ordering.{match_ordering, eq_by_cmp, is_eq, on}
use Rattle.std.specs.declared.cmp.Ordering.{Ordering}
use Rattle.std.specs.declared.cmp.Ordering.TheVariants.{Less, Equal, Greater}
use Rattle.std.proofs.lemmas.Cmp.{on_total}
use Rattle.std.proofs.lemmas.Map.{NonePasses, lookup-none, none_passes_from_lookup}
use Rattle.std.proofs.lemmas.Map.Keys.{IsDistinct-head, IsDistinct-tail, IsDistinct-cons}
use Rattle.vet_base.specs.Script.{Script, Value, Test, ◌>>=◌, run}
use Rattle.vet_base.specs.Members.{In}
use Rattle.vet_base.specs.Ascending.{Ascends}
use Rattle.link_listing.specs.Orders.{AreOrdered}
use Rattle.vet_base.proofs.Runs.{value_is, test_ok, test_passes}
use Rattle.vet_base.proofs.Options.{none_of}
use Rattle.std.proofs.lemmas.Bool.{not-true}
use Rattle.vet_base.proofs.Orders.{turned_back, differs_back}
use Rattle.vet_base.proofs.Ascending.{ascending_alike}

module _ {A : Type 0} (order : A → A → Ordering) (total : IsTotalOrder order) where
  not_tied : (x y : A) → order x y ≡ Equal → eq_by_cmp order x y ≡ false → ⊥
  not_tied x y tie differs = let same : eq_by_cmp order x y ≡ true = ap is_eq tie in absurd cc

module _ {K X : Type 0} (order : K → K → Ordering) (total : IsTotalOrder order) where
  all_above : (P : K → Type 0) (es : List (K × X)) (e : K × X) → AllByRecursion P (keys_of es) → In e es → P e.0
  all_above P [] e all k = absurd k
  all_above P (d ∷ ds) e all (inl same) = subst (λ (x : K × X). P x.0) (sym same) all.0
  all_above P (d ∷ ds) e all (inr k) = all_above P ds e all.1 k

  all_from : (P : K → Type 0) (es : List (K × X)) → ((e : K × X) → In e es → P e.0) → AllByRecursion P (keys_of es)
  all_from P [] each = tt
  all_from P (d ∷ ds) each = (each d (inl refl), all_from P ds (λ e k. each e (inr k)))

  by_key : (es : List (K × X)) → IsStrictlySortedBy order (keys_of es) → Ascends (on (λ (e : K × X). e.0) order) es
  unfolding IsStrictlySortedBy
  by_key [] sorted = tt
  by_key (x ∷ []) sorted = tt
  by_key (x ∷ y ∷ ys) sorted = (sorted.0.0, by_key (y ∷ ys) sorted.1)

  -- entries in order that have the same members are one list
  entries_alike : (xs ys : List (K × X)) → IsStrictlySortedBy order (keys_of xs) → IsStrictlySortedBy order (keys_of ys) → ((e : K × X) → In e xs ↔ In e ys) → xs ≡ ys
  entries_alike xs ys one two same = ascending_alike (on (λ (e : K × X). e.0) order) (on_total (λ (e : K × X). e.0) total) xs ys (by_key xs one) (by_key ys two) same

  -- no entry has the key
  abbrev Lacks : List (K × X) → K → Type 0
  Lacks s k = (e : K × X) → In e s → eq_by_cmp order k e.0 ≡ false

  lacks_behind : (d : K × X) (ds : List (K × X)) (k : K) → Lacks (d ∷ ds) k → Lacks ds k
  lacks_behind d ds k lacks e i = lacks e (inr i)

  lacks_from : (s : List (K × X)) (k : K) → NonePasses (is_at (order k)) s → Lacks s k
  lacks_from [] k none e i = absurd i
  lacks_from (d ∷ ds) k none e (inl same) = subst (λ (x : K × X). eq_by_cmp order k x.0 ≡ false) (sym same) none.0
  lacks_from (d ∷ ds) k none e (inr i) = lacks_from ds k none.1 e i

  lacks_to : (s : List (K × X)) (k : K) → Lacks s k → NonePasses (is_at (order k)) s
  lacks_to [] k lacks = tt
  lacks_to (d ∷ ds) k lacks = (lacks d (inl refl), lacks_to ds k (lacks_behind d ds k lacks))

  new_in : (s : List (K × X)) (k : K) (x : X) → Lacks s k → In (k, x) (insert_entry order s k x)
  new_in [] k x lacks = inl refl
  new_in (d ∷ ds) k x lacks = by_order (order k d.0) refl (new_in ds k x (lacks_behind d ds k lacks))
    where
      by_order : (o : Ordering) → order k d.0 ≡ o → In (k, x) (insert_entry order ds k x) → In (k, x) (match_ordering o ((k, x) ∷ d ∷ ds) ((d.0, x) ∷ ds) (d ∷ insert_entry order ds k x))
      by_order Less o later = inl refl
      by_order Equal o later = absurd (not_tied order total k d.0 o (lacks d (inl refl)))
      by_order Greater o later = inr later

  old_in : (s : List (K × X)) (k : K) (x : X) (e : K × X) → Lacks s k → In e s → In e (insert_entry order s k x)
  old_in [] k x e lacks i = absurd i
  old_in (d ∷ ds) k x e lacks i = by_order (order k d.0) refl (old_in ds k x e (lacks_behind d ds k lacks)) i
    where
      by_order : (o : Ordering) → order k d.0 ≡ o → (In e ds → In e (insert_entry order ds k x)) → In e (d ∷ ds) → In e (match_ordering o ((k, x) ∷ d ∷ ds) ((d.0, x) ∷ ds) (d ∷ insert_entry order ds k x))
      by_order Less o later j = inr j
      by_order Equal o later j = absurd (not_tied order total k d.0 o (lacks d (inl refl)))
      by_order Greater o later (inl same) = inl same
      by_order Greater o later (inr j) = inr (later j)

  old_or_new : (s : List (K × X)) (k : K) (x : X) (e : K × X) → Lacks s k → In e (insert_entry order s k x) → In e s ⊎ (e ≡ (k, x))
  old_or_new [] k x e lacks (inl same) = inr same
  old_or_new [] k x e lacks (inr i) = absurd i
  old_or_new (d ∷ ds) k x e lacks i = by_order (order k d.0) refl (old_or_new ds k x e (lacks_behind d ds k lacks)) i
    where
      by_order : (o : Ordering) → order k d.0 ≡ o → (In e (insert_entry order ds k x) → In e ds ⊎ (e ≡ (k, x))) → In e (match_ordering o ((k, x) ∷ d ∷ ds) ((d.0, x) ∷ ds) (d ∷ insert_entry order ds k x)) → In e (d ∷ ds) ⊎ (e ≡ (k, x))
      by_order Less o later (inl same) = inr same
      by_order Less o later (inr j) = inl j
      by_order Equal o later j = absurd (not_tied order total k d.0 o (lacks d (inl refl)))
      by_order Greater o later (inl same) = inl (inl same)
      by_order Greater o later (inr j) = elim (later j) [ inl old ↦ inl (inr old) | inr new ↦ inr new ]

  sorted_more : (s : List (K × X)) (k : K) (x : X) → Lacks s k → IsStrictlySortedBy order (keys_of s) → IsStrictlySortedBy order (keys_of (insert_entry order s k x))
  unfolding IsStrictlySortedBy
  sorted_more [] k x lacks sorted = (tt, tt)
  sorted_more (d ∷ ds) k x lacks sorted = by_order (order k d.0) refl (sorted_more ds k x (lacks_behind d ds k lacks) sorted.1)
    where
      by_order : (o : Ordering) → order k d.0 ≡ o → IsStrictlySortedBy order (keys_of (insert_entry order ds k x)) → IsStrictlySortedBy order (keys_of (match_ordering o ((k, x) ∷ d ∷ ds) ((d.0, x) ∷ ds) (d ∷ insert_entry order ds k x)))
      by_order Less o later = ((o, all_from (λ q. order k q ≡ Less) ds (λ e i. total.trans k d.0 e.0 o (all_above (λ q. order d.0 q ≡ Less) ds e sorted.0 i))), sorted)
      by_order Equal o later = absurd (not_tied order total k d.0 o (lacks d (inl refl)))
      by_order Greater o later = (
        all_from (λ q. order d.0 q ≡ Less) (insert_entry order ds k x) (λ e i. elim (old_or_new ds k x e (lacks_behind d ds k lacks) i) [
          | inl old ↦ all_above (λ q. order d.0 q ≡ Less) ds e sorted.0 old
          | inr new ↦ subst (λ (y : K × X). order d.0 y.0 ≡ Less) (sym new) (turned_back total k d.0 o)
        ]),
        later,
      )

  module _ {F : Type 0} (fault : K → F) where
    -- the entries are put in one after the other, each under a new key
    abbrev pub putting : List (K × X) → List (K × X) → Script F (List (K × X))
    putting [] s = Value s
    putting (e ∷ es) s = Test (not (is_some (lookup (is_at (order e.0)) s))) (fault e.0) (putting es (insert_entry order s e.0 e.1))

    pub putting_joined : (xs ys s : List (K × X)) → putting (xs ++ ys) s ≡ (putting xs s >>= putting ys)
    putting_joined [] ys s = refl
    putting_joined (x ∷ xs) ys s = ap (λ (rest : Script F (List (K × X))). Test (not (is_some (lookup (is_at (order x.0)) s))) (fault x.0) rest) (putting_joined xs ys (insert_entry order s x.0 x.1))

    -- what was put into a list in order: each entry was new, and they and the old ones stand in order
    record Put (es s t : List (K × X)) : Type 0 where
      once : IsDistinct (eq_by_cmp order) (keys_of es)
      new : (e : K × X) → In e es → Lacks s e.0
      sorted : IsStrictlySortedBy order (keys_of t)
      from : (e : K × X) → In e t → In e s ⊎ In e es
      old : (e : K × X) → In e s → In e t
      there : (e : K × X) → In e es → In e t

    put_stands : (es s t : List (K × X)) → run (putting es s) ≡ Ok t → IsStrictlySortedBy order (keys_of s) → Put es s t
    unfolding IsDistinct
    put_stands [] s t e sorted =
        let same : s ≡ t = value_is {F = F} s t e in
        record {
          once = tt;
          new = λ d i. absurd i;
          sorted = subst (λ (x : List (K × X)). IsStrictlySortedBy order (keys_of x)) same sorted;
          from = λ d i. inl (subst (λ (x : List (K × X)). In d x) (sym same) i);
          old = λ d i. subst (λ (x : List (K × X)). In d x) same i;
          there = λ d i. absurd i;
        }
    put_stands (x ∷ xs) s t e sorted =
        let first = test_ok (not (is_some (lookup (is_at (order x.0)) s))) (fault x.0) (putting xs (insert_entry order s x.0 x.1)) t e in
        let lacks : Lacks s x.0 = lacks_from s x.0 (none_passes_from_lookup (is_at (order x.0)) s (none_of (lookup (is_at (order x.0)) s) (not-true (is_some (lookup (is_at (order x.0)) s)) first.0))) in
        let rest : Put xs (insert_entry order s x.0 x.1) t = put_stands xs (insert_entry order s x.0 x.1) t first.1 (sorted_more s x.0 x.1 lacks sorted) in
        record {
          once = IsDistinct-cons (eq_by_cmp order) x.0 (keys_of xs) (all_from (λ q. eq_by_cmp order x.0 q ≡ false) xs (λ d i. differs_back total d.0 x.0 (rest.new d i (x.0, x.1) (new_in s x.0 x.1 lacks)))) rest.once;
          new = λ d i. elim i [
            | inl same ↦ subst (λ (y : K × X). Lacks s y.0) (sym same) lacks
            | inr j ↦ (λ y k. rest.new d j y (old_in s x.0 x.1 y lacks k))
          ];
          sorted = rest.sorted;
          from = λ d i. elim (rest.from d i) [
            | inl j ↦ elim (old_or_new s x.0 x.1 d lacks j) [ inl k ↦ inl k | inr same ↦ inr (inl same) ]
            | inr j ↦ inr (inr j)
          ];
          old = λ d i. rest.old d (old_in s x.0 x.1 d lacks i);
          there = λ d i. elim i [
            | inl same ↦ rest.old d (subst (λ (y : K × X). In y (insert_entry order s x.0 x.1)) (sym same) (new_in s x.0 x.1 lacks))
            | inr j ↦ rest.there d j
          ];
        }

    put_runs : (es s : List (K × X)) → IsDistinct (eq_by_cmp order) (keys_of es) → ((e : K × X) → In e es → Lacks s e.0) → (t : List (K × X)) × (run (putting es s) ≡ Ok t)
    put_runs [] s once new = (s, refl)
    put_runs (x ∷ xs) s once new =
        let lacks : Lacks s x.0 = new x (inl refl) in
        let rest = put_runs xs (insert_entry order s x.0 x.1) (IsDistinct-tail (eq_by_cmp order) x.0 (keys_of xs) once) later in
        let fresh : IsTrue (not (is_some (lookup (is_at (order x.0)) s))) = ap (λ (o : Option X). not (is_some o)) (lookup-none (is_at (order x.0)) s (lacks_to s x.0 lacks)) in
        (rest.0, test_passes (not (is_some (lookup (is_at (order x.0)) s))) (fault x.0) (putting xs (insert_entry order s x.0 x.1)) fresh ∙ rest.1)
      where
        differs : (d : K × X) → In d xs → eq_by_cmp order d.0 x.0 ≡ false
        differs d i = differs_back total x.0 d.0 (all_above (λ q. eq_by_cmp order x.0 q ≡ false) xs d (IsDistinct-head (eq_by_cmp order) x.0 (keys_of xs) once) i)

        later : (d : K × X) → In d xs → Lacks (insert_entry order s x.0 x.1) d.0
        later d i y k = elim (old_or_new s x.0 x.1 y (new x (inl refl)) k) [
          | inl old ↦ new d (inr i) y old
          | inr same ↦ subst (λ (z : K × X). eq_by_cmp order d.0 z.0 ≡ false) (sym same) (differs d i)
        ]

    -- putting all into an empty list gives the ordered list of the same entries
    pub put_ordered : (whole t : List (K × X)) → run (putting whole []) ≡ Ok t → AreOrdered order whole t
    unfolding IsStrictlySortedBy
    put_ordered whole t e =
        let put : Put whole [] t = put_stands whole [] t e tt in
        record { once = put.once; sorted = put.sorted; each = λ d. ((λ i. elim (put.from d i) [ inl j ↦ absurd j | inr j ↦ j ]), put.there d) }

    pub ordered_put : (whole t : List (K × X)) → AreOrdered order whole t → run (putting whole []) ≡ Ok t
    ordered_put whole t are =
        let some = put_runs whole [] are.once (λ e i d k. absurd k) in
        let made : AreOrdered order whole some.0 = put_ordered whole some.0 some.1 in
        let same : some.0 ≡ t = entries_alike some.0 t made.sorted are.sorted (λ e. ((λ i. (are.each e).1 ((made.each e).0 i)), (λ i. (made.each e).1 ((are.each e).0 i)))) in
        some.1 ∙ ap (λ (x : List (K × X)). Ok x) same
