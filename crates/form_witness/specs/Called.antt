-- What the methods of a file are whose code calls one of them. Behind each fact stands what a slip would answer.
use Rattle.std.specs.Prelude.{◌≡◌, ℕ, true, false, List, [], ◌∷◌, None, Some, codes, Ok, Err}
use Rattle.vet_base.specs.Script.{run}
use Rattle.app_machine.specs.declared.call.MethodRef.{MethodRef}
use Rattle.app_machine.specs.Names.{Name}
use Rattle.dex_code.specs.declared.fault.CodeFault.TheVariants.{Register}
use Rattle.dex_code.specs.declared.insn.Insn.TheVariants.{F10x, F35c}
use Rattle.dex_tables.specs.declared.dex.Body.{Body}
use Rattle.dex_tables.specs.declared.dex.Dex.{Dex}
use Rattle.link_code.specs.declared.coded.Coded.{Coded}
use Rattle.link_code.specs.Code.{all_codes}
use Rattle.link_code.specs.Units.{units_in}
use Rattle.link_listing.specs.declared.fault.Fault.TheVariants.{Code}
use Rattle.link_listing.specs.InFiles.{methods_in}
use Rattle.link_listing.specs.MemberRows.{Methods}
use Rattle.form_witness.specs.Linked.{AppsTell, HierarchyTells, first_class}

-- a static method of this row, of one register and no argument, with these units
abbrev pub coded_body : ℕ → List ℕ → Body
coded_body index units = record { index = index; flags = 8; code = Some (record { registers = 1; ins = 0; outs = 1; units = units; tries = [] }) }

-- a file of `La;` with a native method `m` of a number, and with `n` and `o` of these units
unfoldable pub file : List ℕ → Dex
file units = record {
  strings = codes "I" ∷ first_class ∷ codes "V" ∷ codes "m" ∷ codes "n" ∷ codes "o" ∷ [];
  types = 0 ∷ 1 ∷ 2 ∷ [];
  protos = record { ret = 2; params = 0 ∷ [] } ∷ record { ret = 2; params = [] } ∷ [];
  fields = [];
  methods = record { class = 1; proto = 0; name = 3 } ∷ record { class = 1; proto = 1; name = 4 } ∷ record { class = 1; proto = 1; name = 5 } ∷ [];
  classes =
      record {
        class = 1;
        flags = 1;
        superclass = None;
        interfaces = [];
        statics = [];
        instances = [];
        directs = coded_body 1 units ∷ coded_body 2 units ∷ [];
        virtuals = record { index = 0; flags = 256; code = None } ∷ [];
      }
      ∷ [];
}

-- `invoke-static {v0}, La;.m(I)V` and `return-void`; and a call of it with no register
abbrev pub calling : List ℕ
calling = 0x1071 ∷ 0 ∷ 0 ∷ 0x000E ∷ []

abbrev pub lacking : List ℕ
lacking = 0x0071 ∷ 0 ∷ 0 ∷ 0x000E ∷ []

-- the methods of the file
abbrev pub methods_of_file : List ℕ → Methods
methods_of_file units = methods_in (file units ∷ [])

abbrev pub bare_ref : Name → MethodRef
bare_ref name = record { class = first_class; name = name; proto = record { params = []; ret = codes "V" } }

-- the method of this name, with the call decoded
abbrev pub decoded : Name → Coded
decoded name = record {
  at = bare_ref name;
  is_static = true;
  is_native = false;
  registers = 1;
  ins = 0;
  dex = 0;
  decoded = record { lines = (0, F35c 0x71 0 (0 ∷ [])) ∷ (3, F10x 0x0E) ∷ []; tries = [] };
}

abbrev pub native : Coded
native = record {
  at = record { class = first_class; name = codes "m"; proto = record { params = codes "I" ∷ []; ret = codes "V" } };
  is_static = false;
  is_native = true;
  registers = 0;
  ins = 0;
  dex = 0;
  decoded = record { lines = []; tries = [] };
}

pub record CallsTell : Type 0 where
  -- As many registers as parameters are enough, and a native method stands among the others, without lines. Else the call would
  -- be a fault of `n`, or the native one would be left out.
  pub all : run (all_codes (file calling ∷ []) (methods_of_file calling)) ≡ Ok (decoded (codes "n") ∷ decoded (codes "o") ∷ native ∷ [])
  -- a call with fewer registers is a fault of the first method that has it (else it would be taken)
  pub too_few : run (all_codes (file lacking ∷ []) (methods_of_file lacking)) ≡ Err (Code (bare_ref (codes "n")) (Register 0))
  -- the units of all methods count (else those of the last would, 4)
  pub units : units_in (file calling ∷ []) (methods_of_file calling) ≡ 8

abbrev pub LinksTell : Type 0
LinksTell = HierarchyTells × AppsTell × CallsTell
