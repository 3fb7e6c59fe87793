-- The classes of the library, each with the classes above it.
use Rattle.std.specs.Prelude.{nat_le, false, codes, List, [], ◌∷◌, ◌++◌, length, Option, Some, None, is_some, unwrap_or, if◌then◌else◌}
use Rattle.std.specs.Str.{bytes_eq}
use Rattle.toml.specs.Data.{Data, Members}
use Rattle.vet_base.specs.Script.{Script, Value, Test, ◌>>=◌, test, each}
use Rattle.app_machine.specs.Names.{Name, same_name}
use Rattle.app_machine.specs.declared.lists.LibClass.{LibClass}
use Rattle.app_machine.specs.declared.lists.FallbackWord.{FallbackWord}
use Rattle.app_machine.specs.declared.lists.FallbackWord.TheVariants.{Blank, Joined, Mixed}
use Rattle.form_fields.specs.declared.fault.Fault.{Fault}
use Rattle.form_fields.specs.declared.fault.Fault.TheVariants.{Wrong, Range}
use Rattle.form_fields.specs.declared.words.Section.TheVariants as section
use Rattle.form_fields.specs.declared.words.Key.TheVariants as key
use Rattle.form_fields.specs.declared.spelling.Spelling.TheVariants as spelling
use Rattle.form_fields.specs.Once.{with_new}
use Rattle.form_fields.specs.Fields.{known, at_key, text_at, texts_in, word_at, table_in}

-- the classes above the first row of that name
unfoldable pub above_in : List LibClass → Name → Option (List Name)
above_in [] name = None
above_in (c ∷ cs) name = if same_name name c.name then Some c.above else above_in cs name

-- a parent, whose row stands earlier: the classes above it come behind those that are above already
unfoldable pub parent_row : List LibClass → Name → List Name → Script Fault (List Name)
parent_row classes parent above = do
  _ ← test (is_some (above_in classes parent)) (Range section.Class key.Parents)
  _ ← test (nat_le (length (with_new above (unwrap_or (above_in classes parent) []))) 64) (Range section.Class key.Parents)
  Value (with_new above (unwrap_or (above_in classes parent) []))

unfoldable pub parents_above : List LibClass → List Name → Name → Script Fault (List Name)
parents_above classes parents name = each (parent_row classes) parents (name ∷ [])

-- the parents that a row names, each once
abbrev pub parents_in : Option Data → Script Fault (List Name)
parents_in None = Value []
parents_in (Some d) = do
  texts ← texts_in section.Class key.Parents d
  Value (with_new [] texts)

unfoldable pub parents_at : Members → Script Fault (List Name)
parents_at t = parents_in (at_key key.Parents t)

-- the default that a word names
unfoldable pub fallback_of : Name → Option FallbackWord
fallback_of word =
    if bytes_eq word (codes "blank") then Some Blank
    else if bytes_eq word (codes "joined") then Some Joined
    else if bytes_eq word (codes "mixed") then Some Mixed
    else None

abbrev pub fallback_named : Option FallbackWord → Script Fault (Option FallbackWord)
fallback_named None = Test false (Wrong section.Class key.Default) (Value None)
fallback_named (Some fallback) = Value (Some fallback)

abbrev pub fallback_in : Option Name → Script Fault (Option FallbackWord)
fallback_in None = Value None
fallback_in (Some word) = fallback_named (fallback_of word)

unfoldable pub fallback_at : Members → Script Fault (Option FallbackWord)
fallback_at t = do
  word ← word_at section.Class key.Default t
  fallback_in word

-- what a row says: the class itself stands first among those above it
unfoldable pub class_at : Data → List LibClass → Script Fault LibClass
class_at d classes = do
  t ← table_in section.Lists key.Class d
  _ ← known section.Class t
  name ← text_at section.Class key.Name spelling.Class t
  parents ← parents_at t
  above ← parents_above classes parents name
  fallback ← fallback_at t
  Value (record { name = name; above = above; fallback = fallback })

-- a row more
unfoldable pub class_row : Data → List LibClass → Script Fault (List LibClass)
class_row d classes = do
  class ← class_at d classes
  Value (classes ++ class ∷ [])

unfoldable pub classes_of : List Data → Script Fault (List LibClass)
classes_of tables = each class_row tables []

-- the names of the classes
abbrev pub class_name : LibClass → Name
class_name c = c.name
