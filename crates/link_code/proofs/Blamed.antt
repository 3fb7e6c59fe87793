-- What running a script with its faults seen otherwise gives.
use Rattle.std.proofs.Common.{◌≡◌, true, false, Ok, Err, ap}
use Rattle.vet_base.specs.Script.{Script, Value, Test, run}
use Rattle.dex_tables.specs.declared.dex.RawCode.{RawCode}
use Rattle.dex_code.specs.declared.decoder.Counts.{Counts}
use Rattle.dex_code.specs.declared.decoder.Decoded.{Decoded}
use Rattle.dex_code.specs.declared.fault.CodeFault.{CodeFault}
use Rattle.dex_code.specs.Code.{decoding, IsCode, FirstFault}
use Rattle.dex_code.specs.CodeLaws.{CodeLaws}
use Rattle.std.specs.Prelude.{List, Some}
use Rattle.dex_tables.specs.declared.dex.Dex.{Dex}
use Rattle.link_listing.specs.declared.members.Place.{Place}
use Rattle.link_code.specs.Code.{blamed, code_at, ShortCode, ShortCodes}
use Rattle.vet_base.proofs.Runs.{fails_first}

pub blamed_ok : {F G A : Type 0} (f : F → G) (s : Script F A) (x : A) → run s ≡ Ok x → run (blamed f s) ≡ Ok x
blamed_ok f (Value y) x e = ap (λ r. elim r [ Ok z ↦ Ok z | Err _ ↦ Ok y ]) e
blamed_ok f (Test true fault rest) x e = blamed_ok f rest x e
blamed_ok f (Test false fault rest) x e = absurd cc

pub blamed_err : {F G A : Type 0} (f : F → G) (s : Script F A) (e : F) → run s ≡ Err e → run (blamed f s) ≡ Err (f e)
blamed_err f (Value y) e h = absurd cc
blamed_err f (Test true fault rest) e h = blamed_err f rest e h
blamed_err f (Test false fault rest) e h = let same : fault ≡ e = cc in ap (λ x. Err (f x)) same

pub code_runs : {G : Type 0} (laws : CodeLaws) (f : CodeFault → G) (code : RawCode) (counts : Counts) (decoded : Decoded) → IsCode code counts decoded → run (blamed f (decoding code counts)) ≡ Ok decoded
code_runs laws f code counts decoded is = blamed_ok f (decoding code counts) decoded ((laws.decoding code counts decoded).1 is)

pub fault_runs : {G : Type 0} (f : CodeFault → G) (code : RawCode) (counts : Counts) (fault : CodeFault) → FirstFault code counts fault → run (blamed f (decoding code counts)) ≡ Err (f fault)
unfolding FirstFault
fault_runs f code counts fault first = blamed_err f (decoding code counts) fault (fails_first (decoding code counts) fault first)

-- what is found at a place is short
pub short_at : (dexes : List Dex) (place : Place) (dex : Dex) (code : RawCode) → ShortCodes dexes → code_at dexes place ≡ Some (dex, code) → ShortCode code
short_at dexes place dex code short there = short.short place dex code there
