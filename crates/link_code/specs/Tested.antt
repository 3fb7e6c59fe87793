-- What holds of the methods that were decoded and tested.
use Rattle.std.specs.Prelude.{◌≡◌, true, false, IsTrue, List, [], Some, slice_get}
use Rattle.std.specs.Ordering.{ordering_then}
use Rattle.std.specs.declared.cmp.Ordering.{Ordering}
use Rattle.dex_tables.specs.declared.dex.Dex.{Dex}
use Rattle.dex_tables.specs.declared.dex.RawCode.{RawCode}
use Rattle.dex_code.specs.Lines.{Line}
use Rattle.dex_code.specs.Code.{IsCode}
use Rattle.vet_base.specs.Members.{In}
use Rattle.app_machine.specs.Names.{descriptor_of}
use Rattle.vet_base.specs.Ascending.{Ascends}
use Rattle.app_machine.specs.Sound.{name_order, taken}
use Rattle.link_code.specs.declared.coded.Coded.{Coded}
use Rattle.link_code.specs.Code.{counts_of, call_fits}

-- its lines and tries are those of a code of its file, which takes as many registers of arguments as its descriptor tells; each call
-- has as many as its reference tells
pub record HasCode (dexes : List Dex) (c : Coded) : Type 0 where
  pub dex : Dex
  pub code : RawCode
  pub file : slice_get dexes c.dex ≡ Some dex
  pub is : IsCode code (counts_of dex) c.decoded
  pub registers : c.registers ≡ code.registers
  pub ins : c.ins ≡ code.ins
  pub takes : c.ins ≡ taken c.is_static c.at.proto
  pub calls : (line : Line) → In line c.decoded.lines → IsTrue (call_fits dex line.1)

pub record IsTested (dexes : List Dex) (c : Coded) : Type 0 where
  pub of_native : c.is_native ≡ true → c.decoded.lines ≡ []
  pub of_code : c.is_native ≡ false → HasCode dexes c

-- methods by class, name and descriptor
abbrev pub coded_order : Coded → Coded → Ordering
coded_order a b = ordering_then (name_order a.at.class b.at.class) (ordering_then (name_order a.at.name b.at.name) (name_order (descriptor_of a.at.proto) (descriptor_of b.at.proto)))

-- they stand in order, and each was tested
pub record Tested (dexes : List Dex) (coded : List Coded) : Type 0 where
  pub order : Ascends coded_order coded
  pub each : (c : Coded) → In c coded → IsTested dexes c
