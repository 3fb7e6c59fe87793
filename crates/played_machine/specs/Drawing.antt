-- Choices that the bytes of a script make.
use Rattle.std.specs.Prelude.{◌≡◌, ℕ, ◌%◌, List, [], ◌∷◌, length, Option, Some, None, slice_get}

-- what the next bytes choose, and the bytes behind them; nothing where the bytes are too few
abbrev pub Drawing : Type 0 → Type 0
Drawing A = List ℕ → Option (A × List ℕ)

-- a value that needs no byte
abbrev pub give : {A : Type 0} → A → Drawing A
give x bytes = Some (x, bytes)

abbrev pub continue : {A B : Type 0} → (A → Drawing B) → Option (A × List ℕ) → Option (B × List ℕ)
continue next None = None
continue next (Some drawn) = next drawn.0 drawn.1

-- first the one, and then what follows from its value
infixr 10 ◌>>=◌
abbrev pub ◌>>=◌ : {A B : Type 0} → Drawing A → (A → Drawing B) → Drawing B
first >>= next = λ bytes. continue next (first bytes)

-- one of m: the next byte b chooses b mod m, also where m is 1
abbrev pub draw : ℕ → Drawing ℕ
draw m [] = None
draw m (b ∷ bytes) = Some (b % m, bytes)

abbrev pub given : {A : Type 0} → Option A → Drawing A
given None bytes = None
given (Some x) bytes = Some (x, bytes)

-- one of these, by its index; nothing where there are none
unfoldable pub one_of : {A : Type 0} → List A → Drawing A
one_of xs = draw (length xs) >>= λ i. given (slice_get xs i)

-- some bytes choose this
pub record Draws {A : Type 0} (drawing : Drawing A) (x : A) : Type 0 where
  pub bytes : List ℕ
  pub rest : List ℕ
  pub drawn : drawing bytes ≡ Some (x, rest)
