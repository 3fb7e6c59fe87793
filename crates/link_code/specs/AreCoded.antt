-- The code of the methods, by what holds of each.
use Rattle.std.specs.Prelude.{◌≡◌, Bool, true, false, ◌||◌, IsTrue, List, Some, is_some}
use Rattle.std.specs.List.{AllZip, filter}
use Rattle.dex_tables.specs.declared.dex.Dex.{Dex}
use Rattle.dex_tables.specs.declared.dex.RawCode.{RawCode}
use Rattle.dex_code.specs.declared.decoder.Decoded.{Decoded}
use Rattle.dex_code.specs.Code.{IsCode}
use Rattle.dex_code.specs.Lines.{Line}
use Rattle.app_machine.specs.declared.call.MethodRef.{MethodRef}
use Rattle.vet_base.specs.Members.{In}
use Rattle.app_machine.specs.Sound.{taken}
use Rattle.link_code.specs.declared.coded.Coded.{Coded}
use Rattle.link_listing.specs.declared.members.Listed.{Listed}
use Rattle.link_listing.specs.Texts.{Triple}
use Rattle.link_code.specs.Code.{code_at, counts_of, call_fits, reference, native_coded, with_code}
use Rattle.link_listing.specs.MemberRows.{Methods}

-- these lines and tries are the code; it takes as many registers of arguments as the method's descriptor tells, and each call has as
-- many as its reference tells
pub record IsTestedCode (at : MethodRef) (is_static : Bool) (dex : Dex) (code : RawCode) (decoded : Decoded) : Type 0 where
  pub is : IsCode code (counts_of dex) decoded
  pub takes : code.ins ≡ taken is_static at.proto
  pub calls : (line : Line) → In line decoded.lines → IsTrue (call_fits dex line.1)

-- a listed method that is native, or that has code in its file
pub data IsCoded (dexes : List Dex) (entry : Triple × Listed) : Coded → Type 0 where
  of_native : entry.1.is_native ≡ true → IsCoded dexes entry (native_coded (reference entry.0 entry.1) entry.1)
  of_code : (dex : Dex) (code : RawCode) (decoded : Decoded) → entry.1.is_native ≡ false → code_at dexes entry.1.place ≡ Some (dex, code) → IsTestedCode (reference entry.0 entry.1) entry.1.is_static dex code decoded
      → IsCoded dexes entry (with_code (reference entry.0 entry.1) entry.1 entry.1.place.dex code decoded)

-- the method is native or has code
unfoldable pub has_body : List Dex → Triple × Listed → Bool
has_body dexes entry = entry.1.is_native || is_some (code_at dexes entry.1.place)

-- the methods that are native or have code, in the order of the list
pub record AreCoded (dexes : List Dex) (methods : Methods) (coded : List Coded) : Type 0 where
  pub each : AllZip (IsCoded dexes) (filter (has_body dexes) methods) coded
