-- A body with code has few parameters.
use Rattle.std.proofs.Common.{◌≡◌, ℕ, ◌<◌, ◌≤◌, Bool, true, false, List, [], ◌∷◌, length, Option, Some, None, slice_get, cond, refl, sym, subst, arith}
use Rattle.std.proofs.lemmas.Option.{none-some, same_Some}
use Rattle.vet_base.proofs.Members.{in_slice_get}
use Rattle.app_machine.specs.declared.app.App.{App}
use Rattle.app_machine.specs.declared.call.Proto.{Proto}
use Rattle.app_machine.specs.declared.method.Method.{Method}
use Rattle.app_machine.specs.Names.{Name, is_wide, width, widths}
use Rattle.app_machine.specs.Sound.{SoundApp, SoundCode, taken}
use Rattle.played_machine.specs.Calling.{code_of, if_code}

width_least : (type : Name) → 1 ≤ width type
width_least type = by_test (is_wide type)
  where
    by_test : (b : Bool) → 1 ≤ cond b 2 1
    by_test true = omega arith
    by_test false = omega arith

each_has_one : (types : List Name) → length types ≤ widths types
each_has_one [] = omega arith
each_has_one (type ∷ types) =
    let first : 1 ≤ width type = width_least type in
    let others : length types ≤ widths types = each_has_one types in
    omega (arith, first, others)

taken_least : (is_static : Bool) (proto : Proto) → length proto.params ≤ taken is_static proto
taken_least true proto = each_has_one proto.params
taken_least false proto = let all : length proto.params ≤ widths proto.params = each_has_one proto.params in omega (arith, all)

sound_code : (app : App) (body : ℕ) (m : Method) → SoundApp app → Some m ≡ code_of app body → SoundCode app m
unfolding code_of
sound_code app body m sound code = by_there (slice_get app.methods body) refl code
  where
    by_native : (n : Method) → slice_get app.methods body ≡ Some n → (b : Bool) → n.is_native ≡ b → Some m ≡ cond b None (Some n) → SoundCode app m
    by_native n there true is e = absurd (none-some m (sym e))
    by_native n there false is e = subst (SoundCode app) (same_Some n m (sym e)) ((sound.bodies n (in_slice_get app.methods body n there)).of_code is)

    by_there : (o : Option Method) → slice_get app.methods body ≡ o → Some m ≡ if_code o → SoundCode app m
    by_there None there e = absurd (none-some m (sym e))
    by_there (Some n) there e = by_native n there n.is_native refl e

pub few_parameters : (app : App) (body : ℕ) (m : Method) → SoundApp app → Some m ≡ code_of app body → length m.at.proto.params < 4294967295
few_parameters app body m sound code =
    let well = sound_code app body m sound code in
    let least : length m.at.proto.params ≤ taken m.is_static m.at.proto = taken_least m.is_static m.at.proto in
    let ins : m.ins ≡ taken m.is_static m.at.proto = well.ins in
    let within : m.ins ≤ m.registers = well.within in
    let few : m.registers ≤ 65535 = well.registers in
    omega (arith, least, ins, within, few)
