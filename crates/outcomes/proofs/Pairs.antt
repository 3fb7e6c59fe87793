-- Pairs of names in a set.
use Rattle.std.proofs.Common.{◌≡◌, Bool, ◌&&◌, List, sym, ◌∙◌, ap}
use Rattle.std.specs.Cmp.{IsTotalOrder}
use Rattle.std.specs.Cmp.Lexicographic.{texts_ties, nat_list_cmp_total}
use Rattle.std.specs.List.{list_any}
use Rattle.std.specs.Ordering.{is_eq, ordering_then}
use Rattle.std.specs.declared.cmp.Ordering.{Ordering}
use Rattle.std.specs.BTreeMap.{is_at}
use Rattle.std.proofs.lemmas.Cmp.{on_total, then_total}
use Rattle.app_machine.specs.Names.{Name, same_name}
use Rattle.app_machine.specs.Sound.{name_order}
use Rattle.outcomes.specs.Ascending.{ascending}
use Rattle.outcomes.specs.Findings.{names_pair}
use Rattle.outcomes.proofs.Sorting.{any_ascending}
use Rattle.vet_base.proofs.Orders.{is_eq-then}
use Rattle.vet_base.proofs.Lists.{list_any_agree}

abbrev Pair : Type 0
Pair = Name × Name

abbrev pub pair_order : Pair → Pair → Ordering
pair_order a b = ordering_then (name_order a.0 b.0) (name_order a.1 b.1)

pub pair_total : IsTotalOrder pair_order
pair_total = then_total (on_total (λ (p : Pair). p.0) nat_list_cmp_total) (on_total (λ (p : Pair). p.1) nat_list_cmp_total)

pair_ties : (k p : Pair) → is_at (pair_order k) p ≡ (same_name k.0 p.0 && same_name k.1 p.1)
pair_ties k p =
    is_eq-then (name_order k.0 p.0) (name_order k.1 p.1)
    ∙ ap (λ (b : Bool). b && is_eq (name_order k.1 p.1)) (sym (texts_ties k.0 p.0)) ∙ ap (λ (b : Bool). same_name k.0 p.0 && b) (sym (texts_ties k.1 p.1))

-- a set of pairs has the pair
pub contains_pair : (keys : List Pair) (k : Pair) → list_any (is_at (pair_order k)) keys ≡ names_pair keys k.0 k.1
unfolding names_pair
contains_pair keys k = list_any_agree (is_at (pair_order k)) (λ (p : Pair). same_name k.0 p.0 && same_name k.1 p.1) (pair_ties k) keys

-- the set of the pairs has it just where they have it
pub pair_of_set : (pairs : List Pair) (source sink : Name) → names_pair (ascending pair_order pairs) source sink ≡ names_pair pairs source sink
pair_of_set pairs source sink =
    sym (contains_pair (ascending pair_order pairs) (source, sink)) ∙ any_ascending pair_order pair_total (source, sink) pairs ∙ contains_pair pairs (source, sink)

name_ties : (k n : Name) → is_at (name_order k) n ≡ same_name k n
name_ties k n = sym (texts_ties k n)

-- the set of the names has a name just where one of them is the same
pub name_of_set : (names : List Name) (k : Name) → list_any (is_at (name_order k)) (ascending name_order names) ≡ list_any (λ n. same_name k n) names
name_of_set names k = any_ascending name_order nat_list_cmp_total k names ∙ list_any_agree (is_at (name_order k)) (λ n. same_name k n) (name_ties k) names
