-- What an act does by its definition is what it is given by the script and what it does then.
use Rattle.std.proofs.Common.{◌≡◌, ℕ, List, refl}
use Rattle.app_machine.specs.declared.app.App.{App}
use Rattle.app_machine.specs.declared.lists.Lists.{Lists}
use Rattle.app_machine.specs.declared.method.Act.{Act}
use Rattle.app_machine.specs.declared.method.Act.TheVariants.{Skip, Join, Move, Blank, New, Fill, Get, Put, GetStatic, PutStatic, Call, Return, Throw, TakeResult, TakeException, Go}
use Rattle.app_machine.specs.State.{World, Frame}
use Rattle.played_machine.specs.Drawing.{give, ◌>>=◌}
use Rattle.played_machine.specs.Local.{local}
use Rattle.runner_local.specs.Changed.{changed, read_by, written}

pub local_is : (app : App) (lists : Lists) (w : World) (f : Frame) (act : Act) (bytes : List ℕ) → local app lists w f act bytes ≡ (read_by w.heap f.registers act >>= λ v. give (changed app lists w f.registers act v)) bytes
unfolding local changed written
local_is app lists w f Skip bytes = refl
local_is app lists w f (Join ds xs) bytes = refl
local_is app lists w f (Move ds x) bytes = refl
local_is app lists w f (Blank ds) bytes = refl
local_is app lists w f (New d class size) bytes = refl
local_is app lists w f (Fill xs class) bytes = refl
local_is app lists w f (Get ds o k) bytes = refl
local_is app lists w f (Put o k x) bytes = refl
local_is app lists w f (GetStatic ds g) bytes = refl
local_is app lists w f (PutStatic g x) bytes = refl
local_is app lists w f (Call kind at args) bytes = refl
local_is app lists w f (Return x) bytes = refl
local_is app lists w f (Throw x) bytes = refl
local_is app lists w f (TakeResult ds) bytes = refl
local_is app lists w f (TakeException d) bytes = refl
local_is app lists w f Go bytes = refl
