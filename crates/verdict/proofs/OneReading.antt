-- What the DEX files hold is one list, or one of them is the first bad one, and not both.
use Rattle.std.proofs.Common.{◌≡◌, ◌⊎◌, ℕ, zero, suc, ◌<◌, List, [], ◌∷◌, take, Some, refl, sym, ◌∙◌, subst, inl, inr}
use Rattle.std.specs.Prelude.{slice_get}
use Rattle.std.proofs.lemmas.Bool.{cases_order}
use Rattle.dex_tables.specs.declared.dex.Dex.{Dex}
use Rattle.dex_tables.specs.declared.fault.Fault.{Fault}
use Rattle.dex_reader.specs.Dex.{IsDex, OneDexOrFault}
use Rattle.dex_reader.specs.Whole.{FirstDexFault}
use Rattle.verdict.specs.Refuses.{AreDex, IsFirstBad}
use Rattle.vet_base.proofs.Lists.{slice_get-take}

module _ (law : OneDexOrFault) where
  pub one_list : (files : List (List ℕ)) (a b : List Dex) → AreDex files a → AreDex files b → a ≡ b
  one_list [] [] [] one two = refl
  one_list [] [] (y ∷ b) one two = absurd two
  one_list [] (x ∷ a) b one two = absurd one
  one_list (file ∷ files) [] b one two = absurd one
  one_list (file ∷ files) (x ∷ a) [] one two = absurd two
  one_list (file ∷ files) (x ∷ a) (y ∷ b) one two =
      let first : x ≡ y = (law file).one_dex x y one.0 two.0 in
      let later : a ≡ b = one_list files a b one.1 two.1 in
      cc

  -- each of DEX files is one
  dex_there : (files : List (List ℕ)) (i : ℕ) (dexes : List Dex) (file : List ℕ) → AreDex files dexes → slice_get files i ≡ Some file → (dex : Dex) × IsDex file dex
  dex_there [] i dexes file stand there = absurd cc
  dex_there (f ∷ files) i [] file stand there = absurd stand
  dex_there (f ∷ files) zero (d ∷ dexes) file stand there = let same : f ≡ file = cc in (d, subst (λ (x : List ℕ). IsDex x d) same stand.0)
  dex_there (f ∷ files) (suc i) (d ∷ dexes) file stand there = dex_there files i dexes file stand.1 there

  neither : (file : List ℕ) (fault : Fault) → (dex : Dex) × IsDex file dex → FirstDexFault file fault → ⊥
  neither file fault dex fails = (law file).not_both dex.0 fault dex.1 fails

  module _ (files : List (List ℕ)) where
    pub all_or_bad : (dexes : List Dex) (i : ℕ) (fault : Fault) → AreDex files dexes → IsFirstBad files i fault → ⊥
    all_or_bad dexes i fault stand bad = neither bad.file fault (dex_there files i dexes bad.file stand bad.there) bad.fails

    none_before : (i j : ℕ) (f g : Fault) → i < j → IsFirstBad files i f → IsFirstBad files j g → ⊥
    none_before i j f g lt one two = neither one.file f (dex_there (take j files) i two.before one.file two.stand (slice_get-take files j i one.file lt one.there)) one.fails

    same_place : (i j : ℕ) (f g : Fault) → IsFirstBad files i f → IsFirstBad files j g → i ≡ j
    same_place i j f g one two = by_order (cases_order i j)
      where
        by_order : (i ≡ j) ⊎ ((i < j) ⊎ (j < i)) → i ≡ j
        by_order (inl same) = same
        by_order (inr (inl lt)) = absurd (none_before i j f g lt one two)
        by_order (inr (inr lt)) = absurd (none_before j i g f lt two one)

    same_fault : (i j : ℕ) (f g : Fault) → i ≡ j → IsFirstBad files i f → IsFirstBad files j g → f ≡ g
    same_fault i j f g same one two =
        let at : slice_get files j ≡ Some one.file = subst (λ (k : ℕ). slice_get files k ≡ Some one.file) same one.there in
        let both : Some one.file ≡ Some two.file = sym at ∙ two.there in
        let file : one.file ≡ two.file = cc in
        (law two.file).one_fault f g (subst (λ (x : List ℕ). FirstDexFault x f) file one.fails) two.fails

    pub one_bad : (i j : ℕ) (f g : Fault) → IsFirstBad files i f → IsFirstBad files j g → (i ≡ j) × (f ≡ g)
    one_bad i j f g one two = let same = same_place i j f g one two in (same, same_fault i j f g same one two)
