-- What is first of rows: its keys are what was found in its order, and each row is the first of its key.
use Rattle.std.proofs.Common.{◌≡◌, ℕ, zero, suc, ◌<◌, List, [], ◌∷◌, Option, Some, None, slice_get, filter_map, refl, sym, ap, subst, ◌∙◌, inl, inr, arith}
use Rattle.std.specs.BTreeSet.{insert_key}
use Rattle.std.specs.Cmp.{IsTotalOrder}
use Rattle.std.specs.List.{cons_option}
use Rattle.std.specs.List.Sorted.{IsStrictlySortedBy}
use Rattle.std.specs.Map.{keys_of}
use Rattle.std.specs.Ordering.{nat_cmp}
use Rattle.std.proofs.lemmas.Cmp.{on_total, then_total, nat_cmp_total}
use Rattle.std.proofs.lemmas.Map.Lookups.{CmpEqualImpliesEq, exact_pairs, exact_unsigned, exact_bytes}
use Rattle.std.proofs.lemmas.Option.{none-some, same_Some}
use Rattle.app_machine.specs.declared.lists.Lists.{Lists}
use Rattle.app_machine.specs.declared.papers.Declaration.{Declaration}
use Rattle.app_machine.specs.Sound.{name_order}
use Rattle.fact_rows.specs.declared.row.Row.{Row}
use Rattle.outcomes.specs.Ascending.{ascending}
use Rattle.outcomes.specs.Spots.{Found, Spot, found_order, spot_order, undeclared_at, undeclared_in}
use Rattle.outcomes.proofs.Pairs.{pair_order, pair_total}
use Rattle.outcomes.proofs.Sorting.{in_ascending}
use Rattle.vet_base.specs.Members.{In}
use Rattle.vet_base.proofs.Ascending.{ascends_from_sorted, ascending_alike}
use Rattle.finding_rows.specs.Firsts.{firsts, noted}
use Rattle.finding_rows.proofs.Entries.{keys_inserted, rises_more, ascending_rises, in_inserted, in_older, from_inserted, from_ascending, from_entry}

spot_total : IsTotalOrder spot_order
spot_total = then_total (on_total (λ (s : Spot). s.0) nat_cmp_total) (on_total (λ (s : Spot). s.1) nat_cmp_total)

pub exact_spot : CmpEqualImpliesEq spot_order
exact_spot = exact_pairs nat_cmp nat_cmp exact_unsigned exact_unsigned

pub spots_total : IsTotalOrder spot_order
spots_total = spot_total

found_total : IsTotalOrder found_order
found_total = then_total (on_total (λ (f : Found). f.0) pair_total) (on_total (λ (f : Found). f.1) spot_total)

exact_found : CmpEqualImpliesEq found_order
exact_found = exact_pairs pair_order spot_order (exact_pairs name_order name_order exact_bytes exact_bytes) exact_spot

-- the row is the first of the rows that gives this
pub record IsFirstOf (gives : Row → Option Found) (rows : List Row) (found : Found) (row : Row) : Type 0 where
  pub place : ℕ
  pub there : slice_get rows place ≡ Some row
  pub is : gives row ≡ Some found
  pub before : (earlier : ℕ) (other : Row) → earlier < place → slice_get rows earlier ≡ Some other → gives other ≡ Some found → ⊥

module _ (lists : Lists) (declaration : Declaration) where
  abbrev gives : Row → Option Found
  gives row = undeclared_at lists declaration row

  abbrev entries : List Row → List (Found × Row)
  entries rows = firsts lists declaration rows

  -- their keys rise
  rises : (rows : List Row) → IsStrictlySortedBy found_order (keys_of (entries rows))
  unfolding IsStrictlySortedBy
  rises [] = tt
  rises (row ∷ rows) = by_found (gives row) (rises rows)
    where
      by_found : (o : Option Found) → IsStrictlySortedBy found_order (keys_of (entries rows)) → IsStrictlySortedBy found_order (keys_of (noted o row (entries rows)))
      by_found None up = up
      by_found (Some found) up =
          subst (IsStrictlySortedBy found_order) (sym (keys_inserted found_order (entries rows) found row))
          (rises_more found_order found_total exact_found (keys_of (entries rows)) found up)

  -- and are what was found
  found_in : List Row → List Found
  found_in rows = filter_map gives rows

  to_keys : (rows : List Row) (k : Found) → In k (filter_map gives rows) → In k (keys_of (entries rows))
  to_keys [] k there = absurd there
  to_keys (row ∷ rows) k there = by_found (gives row) (to_keys rows k) there
    where
      by_found : (o : Option Found) → (In k (filter_map gives rows) → In k (keys_of (entries rows))) → In k (cons_option o (filter_map gives rows)) → In k (keys_of (noted o row (entries rows)))
      by_found None later is = later is
      by_found (Some found) later (inl same) =
          subst (In k) (sym (keys_inserted found_order (entries rows) found row))
          (subst (λ z. In z (insert_key found_order (keys_of (entries rows)) found)) (sym same) (in_inserted found_order found_total exact_found (keys_of (entries rows)) found))
      by_found (Some found) later (inr is) =
          subst (In k) (sym (keys_inserted found_order (entries rows) found row))
          (in_older found_order found_total exact_found (keys_of (entries rows)) found k (later is))

  from_keys : (rows : List Row) (k : Found) → In k (keys_of (entries rows)) → In k (filter_map gives rows)
  from_keys [] k there = absurd there
  from_keys (row ∷ rows) k there = by_found (gives row) (from_keys rows k) there
    where
      by_found : (o : Option Found) → (In k (keys_of (entries rows)) → In k (filter_map gives rows)) → In k (keys_of (noted o row (entries rows))) → In k (cons_option o (filter_map gives rows))
      by_found None later is = later is
      by_found (Some found) later is =
          elim (from_inserted found_order found_total exact_found (keys_of (entries rows)) found k (subst (In k) (keys_inserted found_order (entries rows) found row) is)) [
            | inl new ↦ inl new
            | inr old ↦ inr (later old)
          ]

  pub keys_are : (rows : List Row) → ascending found_order (undeclared_in lists declaration rows) ≡ keys_of (entries rows)
  unfolding undeclared_in
  keys_are rows =
      ascending_alike found_order found_total (ascending found_order (filter_map gives rows)) (keys_of (entries rows))
      (ascends_from_sorted found_order (ascending found_order (filter_map gives rows)) (ascending_rises found_order found_total exact_found (filter_map gives rows)))
      (ascends_from_sorted found_order (keys_of (entries rows)) (rises rows))
      (λ k. (
        λ there. to_keys rows k (from_ascending found_order found_total exact_found (filter_map gives rows) k there),
        λ there. in_ascending found_order found_total k exact_found (filter_map gives rows) (from_keys rows k there),
      ))

  one_behind : (row : Row) (rows : List Row) (k : Found) (r : Row) → (gives row ≡ Some k → ⊥) → IsFirstOf gives rows k r → IsFirstOf gives (row ∷ rows) k r
  one_behind row rows k r not first = record { place = suc first.place; there = first.there; is = first.is; before = before }
    where
      before : (earlier : ℕ) (other : Row) → earlier < suc first.place → slice_get (row ∷ rows) earlier ≡ Some other → gives other ≡ Some k → ⊥
      before zero other below at says = not (ap gives (same_Some row other at) ∙ says)
      before (suc earlier) other below at says = first.before earlier other (omega arith) at says

  pub each_is_first : (rows : List Row) (k : Found) (r : Row) → In (k, r) (entries rows) → IsFirstOf gives rows k r
  each_is_first [] k r there = absurd there
  each_is_first (row ∷ rows) k r there = by_found (gives row) refl (each_is_first rows k r) there
    where
      by_found : (o : Option Found) → gives row ≡ o → (In (k, r) (entries rows) → IsFirstOf gives rows k r) → In (k, r) (noted o row (entries rows)) → IsFirstOf gives (row ∷ rows) k r
      by_found None is later there = one_behind row rows k r (λ says. none-some k (sym is ∙ says)) (later there)
      by_found (Some found) is later there = elim (from_entry found_order found_total exact_found (entries rows) found row (rises rows) k r there) [
        | inl new ↦ record {
          place = 0;
          there = ap (λ z. Some z) (sym new.1);
          is = ap gives new.1 ∙ is ∙ ap (λ z. Some z) (sym new.0);
          before = λ earlier other below at says. absurd (omega (arith, below));
        }
        | inr old ↦ one_behind row rows k r (λ says. old.1 (same_Some found k (sym is ∙ says))) (later old.0)
      ]

-- a set of the declared pairs serves as the declaration does
pub firsts_agree : (lists : Lists) (one other : Declaration) → ((row : Row) → undeclared_at lists one row ≡ undeclared_at lists other row) → (rows : List Row) → firsts lists one rows ≡ firsts lists other rows
firsts_agree lists one other same [] = refl
firsts_agree lists one other same (row ∷ rows) = λ i. noted (same row i) row (firsts_agree lists one other same rows i)
