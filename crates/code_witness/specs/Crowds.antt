-- Two methods that are code and list more than a method may, so that they are answered with want of memory: what the clauses `listed`
-- and `handled` of `decode` say of every answer does not hold of what their units are decoded to. Without a count, or with a slip in
-- it, this would be the answer.
use Rattle.std.specs.Prelude.{ℕ, ◌+◌, ◌*◌, ◌<◌, pos, zero, suc, List, [], ◌∷◌, ◌++◌, length, None}
use Rattle.dex_tables.specs.declared.dex.RawCode.{RawCode}
use Rattle.dex_tables.specs.declared.dex.RawTry.{RawTry}
use Rattle.dex_code.specs.declared.decoder.Decoded.{Decoded}
use Rattle.dex_code.specs.declared.insn.Insn.TheVariants.{F10x, F31t, Sparse}
use Rattle.dex_code.specs.Code.{IsCode}
use Rattle.dex_code.specs.Handled.{catches_listed}
use Rattle.dex_code.specs.Lines.{Line}
use Rattle.dex_code.specs.Listed.{listed_by_all}
use Rattle.code_witness.specs.Codes.{bare, method, untried}

abbrev pub times : {A : Type 0} → ℕ → A → List A
times zero x = []
times (suc n) x = x ∷ times n x

-- so many `sparse-switch v0`, one after the other, by a table one unit behind the last
abbrev pub switches : ℕ → List ℕ
switches zero = []
switches (suc n) = 0x2C ∷ (3 * n + 4) ∷ 0 ∷ switches n

-- these lines from a pc on, the table at 91
abbrev pub switch_lines : ℕ → ℕ → List Line
switch_lines zero pc = []
switch_lines (suc n) pc = (pc, F31t 0x2C 0 91) ∷ switch_lines n (pc + 3)

-- 30 switches; `return-void`; their table, whose 27 entries, all of the key 0, go to the switch itself
abbrev pub switching : RawCode
switching = method 1 (switches 30 ++ 0x0E ∷ 0x200 ∷ 27 ∷ times 108 0) []

abbrev pub switched : Decoded
switched = untried (switch_lines 30 0 ++ (90, F10x 0x0E) ∷ (91, Sparse (times 27 (pos 0, pos 0))) ∷ [])

-- so many handlers of exceptions of type 0, each a unit behind the one before
abbrev pub handlers : ℕ → ℕ → List (ℕ × ℕ)
handlers zero pc = []
handlers (suc n) pc = (0, pc) ∷ handlers n (pc + 1)

-- a try of 17 units with a handler at each
abbrev pub guard : RawTry
guard = record { start = 0; count = 17; handlers = handlers 17 0; catch_all = None }

-- so many `nop` from a pc on
abbrev pub nop_lines : ℕ → ℕ → List Line
nop_lines zero pc = []
nop_lines (suc n) pc = (pc, F10x 0) ∷ nop_lines n (pc + 1)

-- 16 `nop` and `return-void`, all tried
abbrev pub guarding : RawCode
guarding = method 1 (times 16 0 ++ 0x0E ∷ []) (guard ∷ [])

abbrev pub guarded : Decoded
guarded = record { lines = nop_lines 16 0 ++ (16, F10x 0x0E) ∷ []; tries = guard ∷ [] }

pub record CrowdsAreTold : Type 0 where
  -- 30 times 27 targets are more than 4 for each of 201 units, though the table has fewer entries than that
  pub switches : IsCode switching bare switched
  pub many_targets : 4 * length switching.units < listed_by_all switched.lines switched.lines
  -- 17 times 17 handlers are more than 16 for each of 17 units, and fewer than 160
  pub guards : IsCode guarding bare guarded
  pub many_handlers : 16 * length guarding.units < catches_listed guarded.tries guarded.lines
