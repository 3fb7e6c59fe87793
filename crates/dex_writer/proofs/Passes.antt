-- Loops over a list: one that goes on from what it has made, and one that makes a list of the same length.
use Rattle.std.proofs.Common.{◌≡◌, ℕ, ◌+◌, ◌<◌, ◌≤◌, List, [], ◌∷◌, ◌++◌, length, map, take, drop, get_or, refl, sym}
use Rattle.std.proofs.lemmas.List.{drop_all}
use Rattle.vet_base.proofs.Lists.{drop_read, map_more_read}

module _ {S X : Type 0} (all : S → List X → S) (one : S → X → S) where
  pub pass_step : ((s : S) (x : X) (xs : List X) → all s (x ∷ xs) ≡ all (one s x) xs) → (i : ℕ) (xs : List X) (x : X) (now new whole : S)
      → i < length xs → x ≡ get_or xs i x → all now (drop i xs) ≡ whole → new ≡ one now x → all new (drop (i + 1) xs) ≡ whole
  pass_step more i xs x now new whole lt item so_far e = rw (e, ← more now x (drop (i + 1) xs), ← drop_read xs i x lt item) so_far

  pub pass_done : ((s : S) → all s [] ≡ s) → (i : ℕ) (xs : List X) (now whole : S) → length xs ≤ i → all now (drop i xs) ≡ whole → now ≡ whole
  pass_done none i xs now whole le so_far = rw (drop_all i xs le, none now) at so_far

pub map_step : {X Y : Type 0} (f : X → Y) (i : ℕ) (xs : List X) (x : X) (now new : List Y)
    → i < length xs → x ≡ get_or xs i x → now ≡ map f (take i xs) → new ≡ now ++ f x ∷ [] → new ≡ map f (take (i + 1) xs)
map_step f i xs x now new lt item so_far one = rw (one, so_far) (sym (map_more_read f xs i x lt item))
