-- A reading of bytes or text as one value: its tests in their order, each with its fault, and what stands behind them. From a
-- script come the one list of tests of a format, the first that fails, the value that is there where all hold, and what a
-- reader of the format answers.
use Rattle.std.specs.Prelude.{◌≡◌, ℕ, ◌+◌, zero, suc, Bool, true, false, Result, Ok, Err, List, [], ◌∷◌, ◌++◌, IsTrue, if◌then◌else◌}
use Rattle.vet_base.specs.declared.stop.Stop.{Stop}
use Rattle.vet_base.specs.declared.stop.Stop.TheVariants as stops

-- some tests, each with its fault, and then a value
pub data Script (F A : Type 0) : Type 0 where
  Value : A → Script F A
  Test : Bool → F → Script F A → Script F A

-- one script after another; this is what `do` stands for
infixl 10 ◌>>=◌
abbrev pub ◌>>=◌ : {F A B : Type 0} → Script F A → (A → Script F B) → Script F B
(Value x) >>= f = f x
(Test holds fault rest) >>= f = Test holds fault (rest >>= f)

-- a test alone
abbrev pub test : {F : Type 0} → Bool → F → Script F (Unit {0})
test holds fault = Test holds fault (Value tt)

-- the tests in their order
abbrev pub tests : {F A : Type 0} → Script F A → List (Bool × F)
tests (Value x) = []
tests (Test holds fault rest) = (holds, fault) ∷ tests rest

-- the value behind them
abbrev pub value_of : {F A : Type 0} → Script F A → A
value_of (Value x) = x
value_of (Test holds fault rest) = value_of rest

-- every test holds
abbrev pub AllHold : {F : Type 0} → List (Bool × F) → Type 0
AllHold [] = Unit {0}
AllHold (t ∷ ts) = IsTrue t.0 × AllHold ts

-- the fault belongs to the first test that does not hold
pub record IsFirst {F : Type 0} (ts : List (Bool × F)) (fault : F) : Type 0 where
  pub before : List (Bool × F)
  pub after : List (Bool × F)
  pub stands : ts ≡ before ++ (false, fault) ∷ after
  pub hold : AllHold before

-- the value where all tests hold, else the fault of the first that does not
abbrev pub run : {F A : Type 0} → Script F A → Result A F
run (Value x) = Ok x
run (Test true fault rest) = run rest
run (Test false fault rest) = Err fault

abbrev pub then_run : {F A B : Type 0} → Result A F → (A → Script F B) → Result B F
then_run (Ok x) f = run (f x)
then_run (Err e) f = Err e

-- What a reader stopped with is what running gives, unless memory ran out.
abbrev pub Fails : {F Y : Type 0} → Stop F → Result Y F → Type 0
Fails stops.Memory read = Unit {0}
Fails (stops.Fault f) read = read ≡ Err f

-- What a reader returned, seen by a view of its value, is what running gives, unless memory ran out.
abbrev pub Gives : {F X Y : Type 0} → (X → Y) → Result X (Stop F) → Script F Y → Type 0
Gives view (Ok x) script = run script ≡ Ok (view x)
Gives view (Err e) script = Fails e (run script)

-- so many rows one after the other, numbered from i on, each read in the state that the rows before it left
unfoldable pub rows : {F S X : Type 0} → ℕ → ℕ → (ℕ → S → Script F (X × S)) → S → Script F (List X × S)
rows zero i row s = Value ([], s)
rows (suc n) i row s = do
  first ← row i s
  others ← rows n (i + 1) row first.1
  Value (first.0 ∷ others.0, others.1)

-- the same, where a row does not ask for its number
unfoldable pub repeat : {F S X : Type 0} → ℕ → (S → Script F (X × S)) → S → Script F (List X × S)
repeat zero row s = Value ([], s)
repeat (suc n) row s = do
  first ← row s
  others ← repeat n row first.1
  Value (first.0 ∷ others.0, others.1)

-- rows one after the other while there are more, at most so many
unfoldable pub sweep : {F S X : Type 0} → ℕ → (S → Bool) → (S → Script F (X × S)) → S → Script F (List X × S)
sweep zero more row s = Value ([], s)
sweep (suc n) more row s = if more s then (do
  first ← row s
  others ← sweep n more row first.1
  Value (first.0 ∷ others.0, others.1)) else Value ([], s)

-- a row for each item of a list, each read in the state that the rows before it left
unfoldable pub walk : {F S X Y : Type 0} → (X → S → Script F (Y × S)) → List X → S → Script F (List Y × S)
walk row [] s = Value ([], s)
walk row (x ∷ xs) s = do
  first ← row x s
  others ← walk row xs first.1
  Value (first.0 ∷ others.0, others.1)

-- a script for each item of a list, each in the state that the items before it left
unfoldable pub each : {F S X : Type 0} → (X → S → Script F S) → List X → S → Script F S
each row [] s = Value s
each row (x ∷ xs) s = do
  next ← row x s
  each row xs next

-- the same, where a row asks for its number too: the first item has the number i
unfoldable pub through : {F S X : Type 0} → (ℕ → X → S → Script F S) → ℕ → List X → S → Script F S
through row i [] s = Value s
through row i (x ∷ xs) s = do
  next ← row i x s
  through row (i + 1) xs next
