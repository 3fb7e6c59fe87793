-- What holds of all code of methods, and of every act: whoever lifts code to steps rests on it.
use Rattle.std.specs.Prelude.{◌≡◌, ◌↔◌, ℕ, ◌<◌, ◌≤◌, Bool, true, false, List, [], ◌∷◌, ◌++◌, length, Ok}
use Rattle.vet_base.specs.Members.{In}
use Rattle.vet_base.specs.Script.{run}
use Rattle.dex_tables.specs.declared.dex.RawCode.{RawCode}
use Rattle.app_machine.specs.Lookups.{is_static_call}
use Rattle.app_machine.specs.Sound.{AllBelow, registers_of, keys_of, statics_of, TakesItsRegisters, taken}
use Rattle.dex_code.specs.declared.decoder.Counts.{Counts}
use Rattle.dex_code.specs.declared.decoder.Decoded.{Decoded}
use Rattle.dex_code.specs.declared.insn.Insn.{Insn}
use Rattle.dex_code.specs.declared.names.Named.{Named}
use Rattle.dex_code.specs.declared.names.Named.TheVariants as named
use Rattle.dex_code.specs.Acts.{act_of, arguments_of, call_kind_of}
use Rattle.dex_code.specs.Code.{decoding, IsCode}
use Rattle.dex_code.specs.Find.{Ascend}
use Rattle.dex_code.specs.Insns.{is_payload, kind_of}
use Rattle.dex_code.specs.Lines.{Line}
use Rattle.dex_code.specs.Next.{next_of, catches_of}

abbrev pub start_if : Bool → ℕ → List ℕ
start_if true pc = []
start_if false pc = pc ∷ []

-- the pcs of the instructions
abbrev pub starts_of : List Line → List ℕ
starts_of [] = []
starts_of (line ∷ lines) = start_if (is_payload line.1) line.0 ++ starts_of lines

-- an instruction stands first, at 0
abbrev pub BeginsAtZero : List Line → Type 0
BeginsAtZero [] = ⊥
BeginsAtZero (line ∷ lines) = (line.0 ≡ 0) × (is_payload line.1 ≡ false)

-- the lines of a method's code can be lifted to steps of a method with as many registers
pub record AreSound (code : RawCode) (decoded : Decoded) : Type 0 where
  pub order : Ascend decoded.lines
  pub few : length decoded.lines ≤ length code.units
  pub first : BeginsAtZero decoded.lines
  pub ins : code.ins ≤ code.registers
  -- control goes from each line to instructions, without an exception and by one
  pub next : (front : List Line) (line : Line) (rest : List Line) → decoded.lines ≡ front ++ line ∷ rest → (pc : ℕ) → In pc (next_of decoded.lines line rest) → In pc (starts_of decoded.lines)
  pub catches : (at pc : ℕ) → In pc (catches_of decoded.tries at) → In pc (starts_of decoded.lines)
  -- whatever it names, an act's registers are the method's
  pub registers : (line : Line) → In line decoded.lines → (name : Named) (r : ℕ) → In r (registers_of (act_of line.1 name)) → r < code.registers

-- a key or a static that is named is one of so many; a call that is named takes the registers that the instruction has
abbrev pub NamesKey : Named → ℕ → Type 0
NamesKey (named.Key key) n = key.0 < n
NamesKey name n = Unit {0}

abbrev pub NamesStatic : Named → ℕ → Type 0
NamesStatic (named.Static g) n = g < n
NamesStatic name n = Unit {0}

abbrev pub NamesCall : Insn → Named → Type 0
NamesCall insn (named.Method at) = length (arguments_of insn) ≡ taken (is_static_call (call_kind_of (kind_of insn))) at.proto
NamesCall insn name = Unit {0}

pub record CodeLaws : Type 0 where
  -- the tests in their order lead to what is the code, and only to that
  pub decoding : (code : RawCode) (counts : Counts) (decoded : Decoded) → (run (decoding code counts) ≡ Ok decoded) ↔ IsCode code counts decoded
  pub lines : (code : RawCode) (counts : Counts) (decoded : Decoded) → IsCode code counts decoded → AreSound code decoded
  -- the keys and statics of an act are those that are named, or the key of all elements, and its call is the one that is named
  pub keys : (insn : Insn) (name : Named) (n : ℕ) → 0 < n → NamesKey name n → AllBelow n (keys_of (act_of insn name))
  pub statics : (insn : Insn) (name : Named) (n : ℕ) → NamesStatic name n → AllBelow n (statics_of (act_of insn name))
  pub call : (insn : Insn) (name : Named) → NamesCall insn name → TakesItsRegisters (act_of insn name)
