-- Which length some fields announce, and which they do not. Behind each fact stands what a slip would answer.
use Rattle.std.specs.Prelude.{◌≡◌, ℕ, true, false, List, [], ◌∷◌, Ok, Err, codes}
use Rattle.desk_http.specs.declared.asked.HttpFault.TheVariants.{Bad, NoLength, TooLong}
use Rattle.desk_http.specs.Fields.{FieldList, length_by_fields}

abbrev pub field : List ℕ → List ℕ → FieldList
field name value = (name, value) ∷ []

-- a Content-Length with this value
abbrev pub content_length : List ℕ → FieldList
content_length value = field (codes "Content-Length") value

pub record FieldsTell : Type 0 where
  -- a GET with a coding has no length (else it would have no body)
  pub coded : length_by_fields false (field (codes "Transfer-Encoding") (codes "chunked")) ≡ Err NoLength
  -- one length is one
  pub one : length_by_fields true (content_length (codes "1")) ≡ Ok 1
  -- two lengths are none, even where they are one (else the first would be taken)
  pub two : length_by_fields true ((codes "Content-Length", codes "1") ∷ (content_length (codes "1"))) ≡ Err Bad
  -- a sign is no digit (else it would be taken as one)
  pub signed : length_by_fields true (content_length (codes "+1")) ≡ Err Bad
  -- 67,108,864 bytes are a body
  pub longest : length_by_fields true (content_length (codes "67108864")) ≡ Ok 67108864
  -- one byte more is too long (else it would be taken)
  pub too_long : length_by_fields true (content_length (codes "67108865")) ≡ Err TooLong
