-- What the code of the second set needs of an app and of what an index tells of its registers.
use Rattle.std.proofs.Common.{◌≡◌, ℕ, refl, sym, subst}
use Rattle.app_machine.specs.declared.method.Act.{Act}
use Rattle.app_machine.specs.declared.app.App.{App}
use Rattle.vet_base.specs.Members.{In}
use Rattle.app_machine.specs.Sound.{SoundApp}
use Rattle.app_machine.specs.State.{result_register, exception_register}
use Rattle.fact_rows.specs.declared.context.Node.{Node}
use Rattle.flow_rules.specs.Nodes.{Acts, GoesOn, CaughtAt, ArgumentRegister, EventRegister}
use Rattle.cell_rules.specs.Reading.{ReadAt}
use Rattle.register_readers.specs.Asked.{IsAsked, given_to, at_entry, behind, result_behind, at_handler}
use Rattle.register_readers.specs.Readings.{Readings, AreReaders, readers_from}

-- the app is sound, and the readings are of this app and right
pub record Ready (app : App) (readings : Readings) : Type 0 where
  pub sound : SoundApp app
  pub same : readings.app ≡ app
  pub readers : AreReaders readings

module _ (app : App) (readings : Readings) (ready : Ready app readings) where
  -- what is listed reads the register
  pub read_at : (method r pc u : ℕ) → In u (readers_from readings method r pc) → ReadAt app method r pc u
  read_at method r pc u i = subst (λ a. ReadAt a method r pc u) ready.same (ready.readers.sound method r pc u i)

  -- and where rules ask, what reads it is listed
  pub listed_at : (method r pc u : ℕ) → IsAsked app method r pc → ReadAt app method r pc u → In u (readers_from readings method r pc)
  listed_at method r pc u asked read =
      ready.readers.complete method r pc u (subst (λ a. IsAsked a method r pc) (sym ready.same) asked) (subst (λ a. ReadAt a method r pc u) (sym ready.same) read)

  -- behind a step that gives the register a value, and of the exception at a handler
  pub listed_behind : (n : Node) (a : Act) (r pc u : ℕ) → Acts app n a → In r (given_to a) → GoesOn app n pc → ReadAt app n.by.method r pc u →
      In u (readers_from readings n.by.method r pc)
  listed_behind n a r pc u acts given goes read = listed_at n.by.method r pc u (behind acts given goes) read

  pub listed_caught : (n : Node) (pc u : ℕ) → CaughtAt app n pc → ReadAt app n.by.method exception_register pc u →
      In u (readers_from readings n.by.method exception_register pc)
  listed_caught n pc u caught read = listed_at n.by.method exception_register pc u (at_handler refl caught) read

  -- behind any step of the result, which what it enters may give
  pub listed_result : (n : Node) (pc u : ℕ) → GoesOn app n pc → ReadAt app n.by.method result_register pc u →
      In u (readers_from readings n.by.method result_register pc)
  listed_result n pc u goes read = listed_at n.by.method result_register pc u (result_behind refl goes) read

  -- and where a body begins, of a register that takes an argument of a call or a position of an event
  pub listed_argument : (body i z u : ℕ) → ArgumentRegister app body i z → ReadAt app body z 0 u → In u (readers_from readings body z 0)
  listed_argument body i z u at read = listed_at body z 0 u (at_entry at.has at.below at.is) read

  pub listed_position : (body i z u : ℕ) → EventRegister app body i z → ReadAt app body z 0 u → In u (readers_from readings body z 0)
  listed_position body i z u at read = listed_at body z 0 u (at_entry at.has at.below at.is) read
