-- The result of a method row.
use Rattle.std.specs.Prelude.{ℕ, ◌==◌, ◌&&◌, not, Bool, true, false, codes, List, length, slice_index, Option, Some, None, unwrap_or, if◌then◌else◌}
use Rattle.std.specs.Str.{bytes_eq}
use Rattle.toml.specs.Data.{Members}
use Rattle.vet_base.specs.Script.{Script, Value, Test, ◌>>=◌, test}
use Rattle.app_machine.specs.Names.{Name}
use Rattle.app_machine.specs.declared.summary.Gives.{Gives}
use Rattle.app_machine.specs.declared.summary.Gives.TheVariants as gives
use Rattle.form_fields.specs.declared.fault.Fault.{Fault}
use Rattle.form_fields.specs.declared.fault.Fault.TheVariants.{Wrong, Range}
use Rattle.form_fields.specs.declared.words.Section.TheVariants as section
use Rattle.form_fields.specs.declared.words.Key.TheVariants as key
use Rattle.method_fields.specs.declared.gives.GivesWord.{GivesWord}
use Rattle.method_fields.specs.declared.gives.GivesWord.TheVariants.{Blank, Same, Taken, Joined, Shared, Handed}
use Rattle.form_fields.specs.Fields.{word_at}
use Rattle.method_fields.specs.Positions.{has_key, positions_at, listed_at}

-- the result that a word names
unfoldable pub gives_word : Name → Option GivesWord
gives_word word =
    if bytes_eq word (codes "blank") then Some Blank
    else if bytes_eq word (codes "same") then Some Same
    else if bytes_eq word (codes "taken") then Some Taken
    else if bytes_eq word (codes "joined") then Some Joined
    else if bytes_eq word (codes "shared") then Some Shared
    else if bytes_eq word (codes "handed") then Some Handed
    else None

-- a source allows a joined result alone
abbrev pub allows : Bool → GivesWord → Bool
allows false word = true
allows true Joined = true
allows true Blank = false
allows true Same = false
allows true Taken = false
allows true Shared = false
allows true Handed = false

unfoldable pub source_allows : Bool → GivesWord → Bool
source_allows has_source word = allows has_source word

-- what the library has is a result of a reference type alone
abbrev pub suits : Bool → GivesWord → Bool
suits reference Handed = reference
suits reference Blank = true
suits reference Same = true
suits reference Taken = true
suits reference Joined = true
suits reference Shared = true

unfoldable pub type_allows : Bool → GivesWord → Bool
type_allows reference word = suits reference word

unfoldable pub is_allowed : Bool → Bool → GivesWord → Bool
is_allowed has_source reference word = source_allows has_source word && type_allows reference word

abbrev pub result_named : Bool → Bool → Option GivesWord → Script Fault GivesWord
result_named has_source reference None = Test false (Wrong section.Method key.Result) (Value Blank)
result_named has_source reference (Some word) = Test (is_allowed has_source reference word) (Range section.Method key.Result) (Value word)

-- a missing result is joined where there is a source, and blank otherwise
unfoldable pub default_word : Bool → GivesWord
default_word has_source = if has_source then Joined else Blank

abbrev pub result_in : Bool → Bool → Option Name → Script Fault GivesWord
result_in has_source reference None = Value (default_word has_source)
result_in has_source reference (Some word) = result_named has_source reference (gives_word word)

unfoldable pub result_at : Bool → Members → Script Fault GivesWord
result_at reference t = do
  word ← word_at section.Method key.Result t
  result_in (has_key key.Source t) reference word

-- one position for `same` and `taken`, any number for `joined`; otherwise the key is not there
abbrev pub fits_from : GivesWord → Bool → ℕ → Bool
fits_from Blank there n = not there
fits_from Same there n = n == 1
fits_from Taken there n = n == 1
fits_from Joined there n = true
fits_from Shared there n = not there
fits_from Handed there n = not there

unfoldable pub from_fits : GivesWord → Bool → List ℕ → Bool
from_fits word there from = fits_from word there (length from)

-- the shared name is there exactly with the result `shared`; its type is tested before
abbrev pub fits_shared : GivesWord → Bool → Bool
fits_shared Shared there = there
fits_shared Blank there = not there
fits_shared Same there = not there
fits_shared Taken there = not there
fits_shared Joined there = not there
fits_shared Handed there = not there

unfoldable pub shared_fits : GivesWord → Bool → Bool
shared_fits word there = fits_shared word there

unfoldable pub shared_at : GivesWord → List Name → Members → Script Fault ℕ
shared_at word shared t = do
  _ ← word_at section.Method key.Shared t
  _ ← test (shared_fits word (has_key key.Shared t)) (Range section.Method key.Shared)
  number ← listed_at section.Method key.Shared shared t
  Value (unwrap_or number 0)

abbrev pub gives_in : GivesWord → List ℕ → ℕ → Gives
gives_in Blank from number = gives.Blank
gives_in Same from number = gives.Same (slice_index from 0)
gives_in Taken from number = gives.Taken (slice_index from 0)
gives_in Joined from number = gives.Joined from
gives_in Shared from number = gives.Shared number
gives_in Handed from number = gives.Handed

unfoldable pub gives_of : GivesWord → List ℕ → ℕ → Gives
gives_of word from number = gives_in word from number

-- the result of a row, of a method with so many positions and a result of a reference type or none
unfoldable pub gives_at : List Name → ℕ → Bool → Members → Script Fault Gives
gives_at shared count reference t = do
  word ← result_at reference t
  from ← positions_at section.Method key.From count t
  _ ← test (from_fits word (has_key key.From t) from) (Range section.Method key.From)
  number ← shared_at word shared t
  Value (gives_of word from number)
