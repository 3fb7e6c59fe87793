-- What words of any form ask for: a vetting, or a desk.
use Rattle.std.specs.Prelude.{◌≡◌, ℕ, List, Option, Some, None}
use Rattle.desk_words.specs.declared.command.Command.{Command}
use Rattle.desk_words.specs.declared.command.Command.TheVariants as commands
use Rattle.desk_words.specs.Serve as serve
use Rattle.desk_words.specs.Serve.{Serve, asked_words}
use Rattle.desk_words.specs.Words as vet
use Rattle.desk_words.specs.Words.{Words, vetting_words, IsWithin}

-- the vetting that a command asks for, if it asks for one, and the desk
abbrev pub vetting_of : Option Command → Option Words
vetting_of None = None
vetting_of (Some (commands.Vetting vetting)) = Some (vetting_words vetting)
vetting_of (Some (commands.Serving serving)) = None

abbrev pub serving_of : Option Command → Option Serve
serving_of None = None
serving_of (Some (commands.Vetting vetting)) = None
serving_of (Some (commands.Serving serving)) = Some (asked_words serving)

-- the words are none of the forms
pub record IsUsage (words : List (List ℕ)) : Type 0 where
  pub no_vetting : vet.parse words ≡ None
  pub no_desk : serve.parse words ≡ None

-- the numbers of a command are within their limits
abbrev pub IsWithinCommand : Option Command → Type 0
IsWithinCommand None = Unit {0}
IsWithinCommand (Some (commands.Vetting vetting)) = IsWithin vetting
IsWithinCommand (Some (commands.Serving serving)) = Unit {0}
