-- Options. The kit has `none-some`, `same_Some`, `cond_some` and `slice_get-map` in `Rattle.std.proofs.lemmas.Option`.
use Rattle.std.proofs.Common.{◌≡◌, ℕ, ◌<◌, Bool, true, false, cond, Option, Some, None, is_some, is_none, option_map, unwrap_or, refl, ap}

pub some_of : {X : Type 0} (o : Option X) → is_some o ≡ true → (x : X) × (o ≡ Some x)
some_of None h = absurd cc
some_of (Some x) h = (x, refl)

pub none_of : {X : Type 0} (o : Option X) → is_some o ≡ false → o ≡ None
none_of None h = refl
none_of (Some x) h = absurd cc

pub none_from_is_none : {X : Type 0} (o : Option X) → is_none o ≡ true → o ≡ None
none_from_is_none None h = refl
none_from_is_none (Some x) h = absurd cc

pub map_itself : {X : Type 0} (f : X → X) → ((x : X) → f x ≡ x) → (o : Option X) → option_map f o ≡ o
map_itself f same None = refl
map_itself f same (Some x) = ap (λ y. Some y) (same x)

-- where neither gives one
pub cond_none : {X : Type 0} (b : Bool) (x : X) (o : Option X) → cond b (Some x) o ≡ None → (b ≡ false) × (o ≡ None)
cond_none true x o e = absurd cc
cond_none false x o e = (refl, e)

-- a number that is below the bound, or 0
pub unwrap_below : (o : Option ℕ) (n : ℕ) → 0 < n → ((j : ℕ) → o ≡ Some j → j < n) → unwrap_or o 0 < n
unwrap_below None n some below = some
unwrap_below (Some j) n some below = below j refl
