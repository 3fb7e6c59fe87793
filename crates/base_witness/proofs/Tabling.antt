-- Tables that keep no row, or keep it elsewhere, are none.
use Rattle.std.proofs.Common.{◌≡◌, ℕ, zero, suc, List, [], ◌∷◌, All, length, take, ap, lit<, arith}
use Rattle.std.proofs.lemmas.List.Edits.{length-insert}
use Rattle.std.specs.List.{insert}
use Rattle.std.specs.Ordering.{nat_cmp}
use Rattle.std.specs.declared.cmp.Ordering.TheVariants.{Less}
use Rattle.base_witness.specs.TableFacts.{TablesKeepRows}

-- in front of 2 it is another list, and behind it 2 is not below 1
behind : (place : ℕ) → ◌≡◌ {A = List ℕ} (2 ∷ 1 ∷ []) (insert (2 ∷ []) place 1) → All (λ y. nat_cmp y 1 ≡ Less) (take place (2 ∷ [])) → ⊥
behind zero is below = let none : ⊥ = cc in none
behind (suc place) is below = let less : nat_cmp 2 1 ≡ Less = below 0 0 (omega arith) in let none : ⊥ = cc in none

pub tables_keep_rows : TablesKeepRows
tables_keep_rows = record {
  at_its_place = λ a. behind a.place a.is a.below;
  once = λ a. let more = length-insert {X = ℕ} (1 ∷ []) a.place 1 a.within in let same = ap length a.is in let none : ⊥ = omega (arith, more, same) in none;
  whole_range = λ r. let greater = r.behind 0 0 (lit< tt) in let none : ⊥ = cc in none;
  filled = λ low high starts count empty w. let some = (w.kept.filled 1 high (lit< tt)).0 in let no_rows = ap length empty in let none : ⊥ = omega (arith, some, no_rows) in none;
  starts = λ first count w. let numbers = w.kept.numbers in let none : ⊥ = cc in none;
}
