-- How a row is read: the tests of its bytes in their order, and the row behind them with the bytes that follow. A byte that is
-- not there is `Cut`; a byte that no row has there is `Bad`.
use Rattle.std.specs.Prelude.{◌≡◌, ℕ, ◌+◌, ◌*◌, ◌==◌, false, Result, Ok, Err, List, [], ◌∷◌, if◌then◌else◌}
use Rattle.vet_base.specs.Script.{Script, Value, Test, ◌>>=◌, test, run}
use Rattle.fact_rows.specs.declared.context.Ctx.{Ctx}
use Rattle.fact_rows.specs.declared.context.Ctx.TheVariants as ctx
use Rattle.fact_rows.specs.declared.context.Activation.{Activation}
use Rattle.fact_rows.specs.declared.context.Node.{Node}
use Rattle.cert_rows.specs.declared.fault.RowFault.{RowFault}
use Rattle.cert_rows.specs.declared.fault.RowFault.TheVariants.{Cut, Bad}
use Rattle.cert_rows.specs.declared.sets.Set.{Set}
use Rattle.cert_rows.specs.Sets.{is_paths, is_cells}

-- what a reader returned, seen by a view of its value, is what running gives
abbrev pub Reads : {F X Y : Type 0} → (X → Y) → Result X F → Script F Y → Type 0
Reads view (Ok x) script = run script ≡ Ok (view x)
Reads view (Err e) script = run script ≡ Err e

-- something, and the bytes behind it
abbrev pub From : Type 0 → Type 0
From A = Script RowFault (A × List ℕ)

-- what rows of the first set alone have
abbrev pub of_paths : {A : Type 0} → Set → From A → From A
of_paths set script = do
  _ ← test (is_paths set) Bad
  script

-- what rows of the second alone have
abbrev pub of_cells : {A : Type 0} → Set → From A → From A
of_cells set script = do
  _ ← test (is_cells set) Bad
  script

abbrev pub byte_from : List ℕ → From ℕ
byte_from [] = Test false Cut (Value (0, []))
byte_from (b ∷ rest) = Value (b, rest)

-- four bytes, the low one first
abbrev pub u4_from : List ℕ → From ℕ
u4_from (a ∷ b ∷ c ∷ d ∷ rest) = Value (a + 256 * b + 65536 * c + 16777216 * d, rest)
u4_from _ = Test false Cut (Value (0, []))

unfoldable pub zero_byte_from : List ℕ → Script RowFault (List ℕ)
zero_byte_from bytes = do
  byte ← byte_from bytes
  _ ← test (byte.0 == 0) Bad
  Value byte.1

-- a number of four bytes that is 0
unfoldable pub zero_from : List ℕ → Script RowFault (List ℕ)
zero_from bytes = do
  one ← zero_byte_from bytes
  two ← zero_byte_from one
  three ← zero_byte_from two
  zero_byte_from three

unfoldable pub two_from : List ℕ → From (ℕ × ℕ)
two_from bytes = do
  a ← u4_from bytes
  b ← u4_from a.1
  Value ((a.0, b.0), b.1)

-- a number, and a 0 behind it
unfoldable pub lone_from : List ℕ → From ℕ
lone_from bytes = do
  a ← u4_from bytes
  rest ← zero_from a.1
  Value (a.0, rest)

-- something, made into something else
abbrev pub with : {A B : Type 0} → (A → B) → From A → From B
with make script = do
  x ← script
  Value (make x.0, x.1)

unfoldable pub call2_from : List ℕ → From Ctx
call2_from bytes = do
  last ← two_from bytes
  before ← two_from last.1
  Value (ctx.Call2 last.0.0 last.0.1 before.0.0 before.0.1, before.1)

abbrev pub no_ctx : From Ctx
no_ctx = Test false Bad (Value (ctx.Init 0, []))

unfoldable pub ctx_of : ℕ → List ℕ → From Ctx
ctx_of kind bytes =
    if kind == 0 then with (λ p. ctx.Row p.0 p.1) (two_from bytes) else
    if kind == 1 then with (λ p. ctx.Callback p.0 p.1) (two_from bytes) else
    if kind == 2 then with (λ p. ctx.Click p.0 p.1) (two_from bytes) else
    if kind == 3 then with ctx.Handed (lone_from bytes) else
    if kind == 4 then with ctx.Init (lone_from bytes) else
    if kind == 5 then with (λ p. ctx.Call p.0 p.1) (two_from bytes) else
    if kind == 6 then call2_from bytes else no_ctx

unfoldable pub ctx_from : List ℕ → From Ctx
ctx_from bytes = do
  kind ← byte_from bytes
  ctx_of kind.0 kind.1

unfoldable pub activation_from : List ℕ → From Activation
activation_from bytes = do
  c ← ctx_from bytes
  m ← u4_from c.1
  Value (record { ctx = c.0; method = m.0 }, m.1)

unfoldable pub node_from : List ℕ → From Node
node_from bytes = do
  a ← activation_from bytes
  pc ← u4_from a.1
  Value (record { by = a.0; pc = pc.0 }, pc.1)
