-- What a search for the readers of a register has to give.
use Rattle.std.specs.Prelude.{◌==◌, ◌↔◌, ℕ, IsFalse, List}
use Rattle.app_machine.specs.declared.method.Act.{Act}
use Rattle.app_machine.specs.declared.app.App.{App}
use Rattle.vet_base.specs.Members.{In}
use Rattle.app_machine.specs.Lookups.{ActAt, Goes, Catches}
use Rattle.app_machine.specs.State.{exception_register}
use Rattle.app_machine.specs.Local.{writes}
use Rattle.cell_rules.specs.Reading.{reads, ReadAt}

module _ (app : App) (method r : ℕ) where
  -- the register keeps its value from the first pc to the second
  pub data Keeps : ℕ → ℕ → Type 0 where
    to_next : {pc next : ℕ} {act : Act} →
        ActAt app method pc act →
        IsFalse (writes act r) →
        Goes app method pc next →
        Keeps pc next
    to_handler : {pc next : ℕ} →
        IsFalse (r == exception_register) →
        Catches app method pc next →
        Keeps pc next

  -- and from the pc over others to this one
  pub data KeepsTo (pc : ℕ) : ℕ → Type 0 where
    at_once : KeepsTo pc pc
    further : {v next : ℕ} →
        KeepsTo pc v →
        Keeps v next →
        KeepsTo pc next

  -- these are all to which it keeps its value from the pc
  pub record AreMet (pc : ℕ) (met : List ℕ) : Type 0 where
    pub first : In pc met
    pub closed : (v next : ℕ) → In v met → Keeps v next → In next met
    pub only : (v : ℕ) → In v met → KeepsTo pc v

  -- the act at the pc reads the register
  pub record ReadsHere (pc : ℕ) : Type 0 where
    pub act : Act
    pub at : ActAt app method pc act
    pub is_read : In r (reads act)

abbrev pub ReadersAreMet : Type 0
ReadersAreMet =
    (app : App) (method r pc : ℕ) (met : List ℕ) →
    AreMet app method r pc met →
    (u : ℕ) → ReadAt app method r pc u ↔ (In u met × ReadsHere app method r u)
