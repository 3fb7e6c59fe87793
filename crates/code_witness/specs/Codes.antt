-- What the units of some methods are decoded to, and the first fault of others ("Dalvik bytecode", "Dalvik executable instruction
-- formats"). Behind each fact stands what a slip would answer.
use Rattle.std.specs.Prelude.{ℕ, pos, List, [], ◌∷◌}
use Rattle.dex_tables.specs.declared.dex.RawCode.{RawCode}
use Rattle.dex_tables.specs.declared.dex.RawTry.{RawTry}
use Rattle.dex_code.specs.declared.decoder.Counts.{Counts}
use Rattle.dex_code.specs.declared.decoder.Decoded.{Decoded}
use Rattle.dex_code.specs.declared.fault.CodeFault.TheVariants.{Index, Payload, Register, Target}
use Rattle.dex_code.specs.declared.insn.Insn.TheVariants.{F10x, F23x, F30t, F31t, Packed, Filled}
use Rattle.dex_code.specs.Code.{FirstFault, IsCode}
use Rattle.dex_code.specs.Lines.{Line}

-- a method with so many registers, these units and these tries
abbrev pub method : ℕ → List ℕ → List RawTry → RawCode
method registers units tries = record { registers = registers; ins = 0; outs = 0; units = units; tries = tries }

-- a file without strings, types, fields and methods
abbrev pub bare : Counts
bare = record { strings = 0; types = 0; fields = 0; methods = 0 }

-- lines without a try
abbrev pub untried : List Line → Decoded
untried lines = record { lines = lines; tries = [] }

-- `return-void`; a `nop` that is padding; the data of an array, without an element
abbrev pub padded : RawCode
padded = method 1 (0x0E ∷ 0 ∷ 0x300 ∷ 0 ∷ 0 ∷ 0 ∷ []) []

-- `packed-switch v0`, whose table stands 4 units on; `return-void`; a table that goes 3 units on from the switch
abbrev pub switch : RawCode
switch = method 1 (0x2B ∷ 4 ∷ 0 ∷ 0x0E ∷ 0x100 ∷ 1 ∷ 0 ∷ 0 ∷ 3 ∷ 0 ∷ []) []

-- the same instructions before a table of a `sparse-switch`, without an entry
abbrev pub other_table : RawCode
other_table = method 1 (0x2B ∷ 4 ∷ 0 ∷ 0x0E ∷ 0x200 ∷ 0 ∷ []) []

-- `goto/32` to itself
abbrev pub round : RawCode
round = method 2 (0x2A ∷ 0 ∷ 0 ∷ []) []

-- two `packed-switch v0` by one table of two entries; `return-void`; a `nop` that is padding; the table
abbrev pub sharing : RawCode
sharing = method 2 (0x2B ∷ 8 ∷ 0 ∷ 0x2B ∷ 5 ∷ 0 ∷ 0x0E ∷ 0 ∷ 0x100 ∷ 2 ∷ 0 ∷ 0 ∷ 3 ∷ 0 ∷ 3 ∷ 0 ∷ []) []

-- `goto/16`, which goes one unit on, into itself; `return-void`
abbrev pub inward : RawCode
inward = method 1 (0x29 ∷ 1 ∷ 0x0E ∷ []) []

-- `const-string v0`, string 0; `return-void`
abbrev pub string : RawCode
string = method 1 (0x1A ∷ 0 ∷ 0x0E ∷ []) []

-- `shl-long v0, v2, v4`, of five registers; `return-void`
abbrev pub shift : RawCode
shift = method 5 (0xA3 ∷ 0x402 ∷ 0x0E ∷ []) []

-- `const-wide/16 v0`, of one register; `return-void`
abbrev pub half : RawCode
half = method 1 (0x16 ∷ 0 ∷ 0x0E ∷ []) []

pub record CodesAreTold : Type 0 where
  -- control may come to the padding before data (else it falls off at 1)
  pub comes_to_padding : IsCode padded bare (untried ((0, F10x 0x0E) ∷ (1, F10x 0) ∷ (2, Filled 0 0) ∷ []))
  -- the distances of a table count from the switch (else 3 units from the table on there is no instruction, and the target is wrong)
  pub from_the_switch : IsCode switch bare (untried ((0, F31t 0x2B 0 4) ∷ (3, F10x 0x0E) ∷ (4, Packed (pos 0) (pos 3 ∷ [])) ∷ []))
  -- a branch may go to itself (else it would fall off)
  pub goes_round : IsCode round bare (untried ((0, F30t 0x2A 0) ∷ []))
  -- two switches may go by one table, and each distance counts from the switch (else the second would have no table)
  pub shares_table : IsCode sharing bare (untried ((0, F31t 0x2B 0 8) ∷ (3, F31t 0x2B 0 8) ∷ (6, F10x 0x0E) ∷ (7, F10x 0) ∷ (8, Packed (pos 0) (pos 3 ∷ pos 3 ∷ [])) ∷ []))
  -- the distance of a shift is one register, here the last (else it would be a pair, and v5 not there)
  pub short_distance : IsCode shift bare (untried ((0, F23x 0xA3 0 2 4) ∷ (2, F10x 0x0E) ∷ []))
  -- a table of another kind is none of the switch (else it would be code)
  pub no_other_table : FirstFault other_table bare (Payload 0)
  -- no instruction starts within another (else it would be code)
  pub not_within : FirstFault inward bare (Target 0)
  -- a file without strings has no string 0 (else it would be code)
  pub no_such_string : FirstFault string bare (Index 0)
  -- the second register of a pair is not there (else it would be code)
  pub no_half_pair : FirstFault half bare (Register 0)
