-- The code of the methods: decoded, with as many arguments as each descriptor takes, and as many registers as each call's
-- reference takes.
use Rattle.std.specs.Prelude.{◌≡◌, ◌<◌, ℕ, ◌==◌, min, Bool, true, false, List, [], ◌∷◌, ◌++◌, length, Option, Some, None, slice_get, if◌then◌else◌}
use Rattle.vet_base.specs.Script.{Script, Value, Test, ◌>>=◌, test, each}
use Rattle.dex_tables.specs.declared.dex.Dex.{Dex}
use Rattle.dex_tables.specs.declared.dex.ClassDef.{ClassDef}
use Rattle.dex_tables.specs.declared.dex.Body.{Body}
use Rattle.dex_tables.specs.declared.dex.RawCode.{RawCode}
use Rattle.dex_code.specs.declared.decoder.Counts.{Counts}
use Rattle.dex_code.specs.declared.decoder.Decoded.{Decoded}
use Rattle.dex_code.specs.declared.insn.Insn.{Insn}
use Rattle.dex_code.specs.declared.names.Naming.{Naming}
use Rattle.dex_code.specs.declared.names.Naming.TheVariants as naming
use Rattle.dex_code.specs.declared.fault.CodeFault.TheVariants.{Register}
use Rattle.dex_code.specs.Acts.{arguments_of, call_kind_of, naming_of}
use Rattle.dex_code.specs.Code.{decoding}
use Rattle.dex_code.specs.Insns.{kind_of}
use Rattle.dex_code.specs.Lines.{Line}
use Rattle.app_machine.specs.declared.call.CallKind.{CallKind}
use Rattle.app_machine.specs.declared.call.MethodRef.{MethodRef}
use Rattle.app_machine.specs.Lookups.{is_static_call}
use Rattle.app_machine.specs.Sound.{taken}
use Rattle.link_listing.specs.declared.fault.Fault.{Fault}
use Rattle.link_listing.specs.declared.fault.Fault.TheVariants as faults
use Rattle.link_listing.specs.declared.members.Place.{Place}
use Rattle.link_listing.specs.declared.members.Listed.{Listed}
use Rattle.link_code.specs.declared.coded.Coded.{Coded}
use Rattle.link_listing.specs.Texts.{Triple, proto_of, method_row}

-- the same script with its faults seen by f
abbrev pub blamed : {F G A : Type 0} → (F → G) → Script F A → Script G A
blamed f (Value x) = Value x
blamed f (Test holds fault rest) = Test holds (f fault) (blamed f rest)

abbrev pub small : ℕ → ℕ
small n = min n 4294967295

unfoldable pub counts_of : Dex → Counts
counts_of dex = record { strings = small (length dex.strings); types = small (length dex.types); fields = small (length dex.fields); methods = small (length dex.methods) }

abbrev pub bodies_of : ClassDef → Bool → List Body
bodies_of def true = def.virtuals
bodies_of def false = def.directs

-- the file of a place, and the code there
unfoldable pub code_at : List Dex → Place → Option (Dex × RawCode)
code_at dexes place = elim (slice_get dexes place.dex) [
  | None ↦ None
  | Some dex ↦
      elim (slice_get dex.classes place.class) [
        | None ↦ None
        | Some def ↦
            elim (slice_get (bodies_of def place.is_virtual) place.body) [
              | None ↦ None
              | Some body ↦
                  elim body.code [ None ↦ None | Some code ↦ Some (dex, code) ]
            ]
      ]
]

-- fewer than 2^32 units and tries
pub record ShortCode (code : RawCode) : Type 0 where
  pub units : length code.units < 4294967296
  pub tries : length code.tries < 4294967296

-- each code is short
pub record ShortCodes (dexes : List Dex) : Type 0 where
  pub short : (place : Place) (dex : Dex) (code : RawCode) → code_at dexes place ≡ Some (dex, code) → ShortCode code

-- how many registers a call of the method takes
abbrev pub taken_by : Dex → CallKind → ℕ → ℕ
taken_by dex kind i = taken (is_static_call kind) (proto_of dex (method_row dex i).proto)

abbrev pub call_takes : Dex → CallKind → ℕ → Naming → Bool
call_takes dex kind count (naming.Method i) = taken_by dex kind i == count
call_takes dex kind count needed = true

-- the instruction is no call, or it has the registers that its reference takes
unfoldable pub call_fits : Dex → Insn → Bool
call_fits dex insn = call_takes dex (call_kind_of (kind_of insn)) (length (arguments_of insn)) (naming_of insn)

unfoldable pub call_row : Dex → MethodRef → Line → Unit {0} → Script Fault (Unit {0})
call_row dex at line s = test (call_fits dex line.1) (faults.Code at (Register line.0))

unfoldable pub calls_fit : Dex → MethodRef → List Line → Script Fault (Unit {0})
calls_fit dex at lines = each (call_row dex at) lines tt

-- a method as the files list it
unfoldable pub reference : Triple → Listed → MethodRef
reference triple listed = record { class = triple.0; name = triple.1; proto = listed.proto }

-- the method's code, decoded and tested
unfoldable pub tested : MethodRef → Bool → Dex → RawCode → Script Fault Decoded
tested at is_static dex code = do
  decoded ← blamed (faults.Code at) (decoding code (counts_of dex))
  _ ← test (taken is_static at.proto == code.ins) (faults.Code at (Register 0))
  _ ← calls_fit dex at decoded.lines
  Value decoded

abbrev pub with_code : MethodRef → Listed → ℕ → RawCode → Decoded → Coded
with_code at listed dex code decoded = record { at = at; is_static = listed.is_static; is_native = false; registers = code.registers; ins = code.ins; dex = dex; decoded = decoded }

abbrev pub native_coded : MethodRef → Listed → Coded
native_coded at listed = record { at = at; is_static = listed.is_static; is_native = true; registers = 0; ins = 0; dex = 0; decoded = record { lines = []; tries = [] } }

-- one more method with code
unfoldable pub one_code : MethodRef → Listed → Option (Dex × RawCode) → List Coded → Script Fault (List Coded)
one_code at listed None coded = Value coded
one_code at listed (Some found) coded = do
  decoded ← tested at listed.is_static found.0 found.1
  Value (coded ++ with_code at listed listed.place.dex found.1 decoded ∷ [])

-- one more method, native or with code; the bare ones are passed by
unfoldable pub code_row : List Dex → Triple × Listed → List Coded → Script Fault (List Coded)
code_row dexes entry coded = if entry.1.is_native then Value (coded ++ native_coded (reference entry.0 entry.1) entry.1 ∷ []) else one_code (reference entry.0 entry.1) entry.1 (code_at dexes entry.1.place) coded

unfoldable pub all_codes : List Dex → List (Triple × Listed) → Script Fault (List Coded)
all_codes dexes methods = each (code_row dexes) methods []
