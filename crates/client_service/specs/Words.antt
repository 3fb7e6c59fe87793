-- The words that hand in an app.
use Rattle.std.specs.Prelude.{ℕ, Bool, ◌&&◌, nat_eq, List, [], ◌∷◌, Option, Some, None, codes, IsTrue, if◌then◌else◌}
use Rattle.std.specs.Cmp.Lexicographic.{pointwise}
use Rattle.store_office.specs.Reference.{is_reference}
use Rattle.desk_words.specs.Words.{is_file_name}
use Rattle.client_service.specs.declared.words.Submitting.{Submitting}

-- the folder of the app, and the reference under which it is handed in
pub record Submit : Type 0 where
  pub dir : List ℕ
  pub reference : List ℕ

unfoldable pub is_submit : List ℕ → Bool
is_submit word = pointwise nat_eq word (codes "submit")

abbrev pub submit_words : List ℕ → List ℕ → List ℕ → Option Submit
submit_words command dir reference =
    if is_submit command && is_file_name dir && is_reference reference
    then Some (record { dir = dir; reference = reference }) else None

-- `submit DIR REF`, with a folder of 1 to 1,024 bytes
abbrev pub parse : List (List ℕ) → Option Submit
parse (command ∷ dir ∷ reference ∷ []) = submit_words command dir reference
parse words = None

abbrev pub asked_words : Submitting → Submit
asked_words asked = record { dir = asked.dir.now; reference = asked.reference.now }

-- the reference is of its form
abbrev pub IsWithin : Submitting → Type 0
IsWithin asked = IsTrue (is_reference asked.reference.now)
