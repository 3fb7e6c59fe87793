-- Fields that were put into a set: each once, and in order.
use Rattle.std.proofs.Common.{◌≡◌, List, [], ◌∷◌, refl, sym, subst, ◌∙◌, ◌⊎◌, inl, inr}
use Rattle.std.specs.Prelude.{fold}
use Rattle.std.specs.BTreeSet.{insert_key}
use Rattle.std.specs.List.Sorted.{IsStrictlySortedBy}
use Rattle.std.specs.Ordering.{match_ordering}
use Rattle.std.specs.declared.cmp.Ordering.{Ordering}
use Rattle.std.specs.declared.cmp.Ordering.TheVariants.{Less, Equal, Greater}
use Rattle.std.proofs.lemmas.Cmp.{tied_itself}
use Rattle.dex_tables.specs.declared.dex.Dex.{Dex}
use Rattle.app_machine.specs.declared.app.App.{App}
use Rattle.vet_base.specs.Members.{In}
use Rattle.vet_base.specs.Ascending.{Ascends}
use Rattle.link_code.specs.declared.coded.Coded.{Coded}
use Rattle.link_listing.specs.Texts.{Triple}
use Rattle.link_listing.specs.MemberRows.{Fields}
use Rattle.link_listing.specs.Orders.{triple_order}
use Rattle.link_code.specs.StaticList.{AreStatics, statics_named}
use Rattle.link_listing.proofs.Triples.{triple_total, tied_triples_equal}
use Rattle.vet_base.proofs.Ascending.{ascends_from_sorted, below_later}
use Rattle.vet_base.specs.Apart.{Apart}

new_in : (ks : List Triple) (k : Triple) → In k (insert_key triple_order ks k)
new_in [] k = inl refl
new_in (x ∷ xs) k = by_order (triple_order k x) refl (new_in xs k)
  where
    by_order : (o : Ordering) → triple_order k x ≡ o → In k (insert_key triple_order xs k) → In k (match_ordering o (k ∷ x ∷ xs) (x ∷ xs) (x ∷ insert_key triple_order xs k))
    by_order Less e later = inl refl
    by_order Equal e later = inl (tied_triples_equal k x e)
    by_order Greater e later = inr later

old_in : (ks : List Triple) (k y : Triple) → In y ks → In y (insert_key triple_order ks k)
old_in [] k y j = absurd j
old_in (x ∷ xs) k y j = by_order (triple_order k x) (old_in xs k y) j
  where
    by_order : (o : Ordering) → (In y xs → In y (insert_key triple_order xs k)) → In y (x ∷ xs) → In y (match_ordering o (k ∷ x ∷ xs) (x ∷ xs) (x ∷ insert_key triple_order xs k))
    by_order Less later i = inr i
    by_order Equal later i = i
    by_order Greater later (inl e) = inl e
    by_order Greater later (inr i) = inr (later i)

old_or_new : (ks : List Triple) (k y : Triple) → In y (insert_key triple_order ks k) → In y ks ⊎ (y ≡ k)
old_or_new [] k y (inl e) = inr e
old_or_new [] k y (inr j) = absurd j
old_or_new (x ∷ xs) k y j = by_order (triple_order k x) (old_or_new xs k y) j
  where
    by_order : (o : Ordering) → (In y (insert_key triple_order xs k) → In y xs ⊎ (y ≡ k)) → In y (match_ordering o (k ∷ x ∷ xs) (x ∷ xs) (x ∷ insert_key triple_order xs k)) → In y (x ∷ xs) ⊎ (y ≡ k)
    by_order Less later (inl e) = inr e
    by_order Less later (inr i) = inl i
    by_order Equal later i = inl i
    by_order Greater later (inl e) = inl (inl e)
    by_order Greater later (inr i) = elim (later i) [ inl there ↦ inl (inr there) | inr e ↦ inr e ]

there_still : (named ks : List Triple) (y : Triple) → In y ks → In y (fold (insert_key triple_order) ks named)
there_still [] ks y j = j
there_still (k ∷ named) ks y j = there_still named (insert_key triple_order ks k) y (old_in ks k y j)

there_then : (named ks : List Triple) (y : Triple) → In y named → In y (fold (insert_key triple_order) ks named)
there_then [] ks y j = absurd j
there_then (k ∷ named) ks y (inl e) = there_still named (insert_key triple_order ks k) y (subst (λ (t : Triple). In t (insert_key triple_order ks k)) (sym e) (new_in ks k))
there_then (k ∷ named) ks y (inr j) = there_then named (insert_key triple_order ks k) y j

there_from : (named ks : List Triple) (y : Triple) → In y (fold (insert_key triple_order) ks named) → In y ks ⊎ In y named
there_from [] ks y j = inl j
there_from (k ∷ named) ks y j = elim (there_from named (insert_key triple_order ks k) y j) [
  | inl old ↦ elim (old_or_new ks k y old) [ inl i ↦ inl i | inr e ↦ inr (inl e) ]
  | inr later ↦ inr (inr later)
]

-- the keys of a set into which all statics were put that are named
pub are_statics : (app : App) (fields : Fields) (dexes : List Dex) (coded : List Coded) (keys statics : List Triple) → keys ≡ fold (insert_key triple_order) [] (statics_named app fields dexes coded) → statics ≡ keys → IsStrictlySortedBy triple_order statics → AreStatics app fields dexes coded statics
are_statics app fields dexes coded keys statics made listed sorted =
    let whole : statics ≡ fold (insert_key triple_order) [] (statics_named app fields dexes coded) = listed ∙ made in
    record {
      order = ascends_from_sorted triple_order statics sorted;
      each = λ field. (
        λ k. from_none field (there_from (statics_named app fields dexes coded) [] field (subst (λ (ts : List Triple). In field ts) whole k)),
        λ k. subst (λ (ts : List Triple). In field ts) (sym whole) (there_then (statics_named app fields dexes coded) [] field k),
      );
    }
  where
    from_none : (field : Triple) → ⊥ ⊎ In field (statics_named app fields dexes coded) → In field (statics_named app fields dexes coded)
    from_none field (inl k) = absurd k
    from_none field (inr k) = k

-- in order none stands twice
pub ascend_apart : (xs : List Triple) → Ascends triple_order xs → Apart xs
ascend_apart [] up = tt
ascend_apart (x ∷ []) up = (λ k. k, tt)
ascend_apart (x ∷ y ∷ ys) up = (λ k. not_below (below_later triple_order triple_total x (y ∷ ys) up x k) (tied_itself triple_total x), ascend_apart (y ∷ ys) up.1)
  where
    not_below : triple_order x x ≡ Less → triple_order x x ≡ Equal → ⊥
    not_below less tie = absurd cc
