-- The words that ask for a desk.
use Rattle.std.specs.Prelude.{ℕ, Bool, ◌&&◌, nat_eq, List, [], ◌∷◌, ◌++◌, Option, Some, None, codes, if◌then◌else◌}
use Rattle.std.specs.Cmp.Lexicographic.{pointwise}
use Rattle.desk_words.specs.declared.serving.Serving.{Serving}
use Rattle.desk_words.specs.Numbers.{positive}
use Rattle.desk_words.specs.Words.{is_file_name}

-- the folder of the office, and from how many connections on no more is taken
pub record Serve : Type 0 where
  pub office : List ℕ
  pub most : ℕ

unfoldable pub is_serve : List ℕ → Bool
is_serve word = pointwise nat_eq word (codes "serve")

-- a number from 1 to 9,999, without sign and without a leading zero
unfoldable pub count_of : List ℕ → Option ℕ
count_of word = positive 9999 word

abbrev pub serve_of : List ℕ → Option ℕ → Option Serve
serve_of office None = None
serve_of office (Some most) = Some (record { office = office; most = most })

abbrev pub serve_words : List ℕ → List ℕ → List ℕ → Option Serve
serve_words command office most = if is_serve command && is_file_name office then serve_of office (count_of most) else None

-- `serve OFFICE N`
abbrev pub parse : List (List ℕ) → Option Serve
parse (command ∷ office ∷ most ∷ []) = serve_words command office most
parse words = None

abbrev pub asked_words : Serving → Serve
asked_words asked = record { office = asked.office.now; most = asked.most }

-- the file of the desk's cases
unfoldable pub database_name : List ℕ → List ℕ
database_name office = office ++ codes "/desk.sqlite"
