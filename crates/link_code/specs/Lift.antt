-- The steps of a method: one for each instruction, none for a payload.
use Rattle.std.specs.Prelude.{ℕ, List, [], ◌∷◌, ◌++◌, if◌then◌else◌}
use Rattle.dex_tables.specs.declared.dex.Dex.{Dex}
use Rattle.dex_tables.specs.declared.dex.RawTry.{RawTry}
use Rattle.dex_code.specs.Acts.{act_of, naming_of}
use Rattle.dex_code.specs.Insns.{is_payload}
use Rattle.dex_code.specs.Lines.{Line}
use Rattle.dex_code.specs.Next.{next_of, catches_of}
use Rattle.app_machine.specs.declared.app.App.{App}
use Rattle.app_machine.specs.declared.method.Step.{Step}
use Rattle.link_listing.specs.Texts.{Triple}
use Rattle.link_listing.specs.MemberRows.{Fields}
use Rattle.link_code.specs.Named.{named_of}

-- the step of a line, before these others, under these handlers
unfoldable pub step_of : App → Fields → List Triple → Dex → List Line → Line → List Line → List ℕ → Step
step_of app fields statics dex lines line rest catches = record { pc = line.0; act = act_of line.1 (named_of app fields statics dex (naming_of line.1)); next = next_of lines line rest; catches = catches }

-- the step of a line, where it is an instruction
unfoldable pub step_if : App → Fields → List Triple → Dex → List Line → Line → List Line → List ℕ → List Step
step_if app fields statics dex lines line rest catches = if is_payload line.1 then [] else step_of app fields statics dex lines line rest catches ∷ []

unfoldable pub steps_of : App → Fields → List Triple → Dex → List RawTry → List Line → List Line → List Step
steps_of app fields statics dex tries lines [] = []
steps_of app fields statics dex tries lines (line ∷ rest) = step_if app fields statics dex lines line rest (catches_of tries line.0) ++ steps_of app fields statics dex tries lines rest
