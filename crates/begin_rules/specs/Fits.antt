-- The registers of a method's arguments can be numbered.
use Rattle.std.proofs.Common.{◌≡◌, ◌+◌, ◌-◌, ◌<◌, ◌^◌, ℕ, false, Some, slice_get, arith}
use Rattle.app_machine.specs.declared.app.App.{App}
use Rattle.app_machine.specs.declared.method.Method.{Method}
use Rattle.app_machine.specs.Sound.{SoundApp, SoundCode}
use Rattle.vet_base.proofs.Members.{in_slice_get}

pub fits : (app : App) (body : ℕ) (m : Method) → SoundApp app → slice_get app.methods body ≡ Some m → m.is_native ≡ false →
    (m.registers - m.ins) + m.ins < 2 ^ 32
fits app body m sound there code =
    let c : SoundCode app m = (sound.bodies m (in_slice_get app.methods body m there)).of_code code in
    let within = c.within in
    let few = c.registers in
    omega arith
