-- How an app is judged of which more rows follow than the lists allow.
use Rattle.std.specs.Prelude.{false, codes, Option, Some, None, if◌then◌else◌}
use Rattle.std.specs.Str.{bytes_eq}
use Rattle.toml.specs.Data.{Members}
use Rattle.vet_base.specs.Script.{Script, Value, Test, ◌>>=◌}
use Rattle.app_machine.specs.Names.{Name}
use Rattle.form_fields.specs.declared.fault.Fault.{Fault}
use Rattle.form_fields.specs.declared.fault.Fault.TheVariants.{Wrong}
use Rattle.form_fields.specs.declared.words.Section.TheVariants as section
use Rattle.form_fields.specs.declared.words.Key.TheVariants as key
use Rattle.form_fields.specs.Fields.{word_at}
use Rattle.store_lists.specs.declared.large.Large.{Large}
use Rattle.store_lists.specs.declared.large.Large.TheVariants.{Cells}

-- the way that a word names
unfoldable pub large_of : Name → Option Large
large_of word = if bytes_eq word (codes "cells") then Some Cells else None

abbrev pub large_named : Option Large → Script Fault (Option Large)
large_named None = Test false (Wrong section.Lists key.Large) (Value None)
large_named (Some large) = Value (Some large)

-- the word that may be missing
abbrev pub large_in : Option Name → Script Fault (Option Large)
large_in None = Value None
large_in (Some word) = large_named (large_of word)

unfoldable pub large_at : Members → Script Fault (Option Large)
large_at t = do
  word ← word_at section.Lists key.Large t
  large_in word
