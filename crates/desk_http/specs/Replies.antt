-- A reply as bytes (RFC 9112, sections 4 to 6; RFC 9110, sections 7.6.1, 8.3, 8.6 and 15), and what becomes of them.
use Rattle.std.specs.Prelude.{◌≡◌, ℕ, Bool, List, [], ◌∷◌, ◌++◌, length, take, Option, Result, Ok, Err, if◌then◌else◌, unwrap_or, codes, decimal}
use Rattle.std.specs.Option.{option_map}
use Rattle.http.specs.StatusCode.{reason_phrase}
use Rattle.desk_links.specs.Links.{Told, with_written}
use Rattle.desk_http.specs.Fields.{content_length}
use Rattle.desk_http.specs.declared.reply.SendFault.{SendFault}
use Rattle.desk_http.specs.declared.reply.SendFault.TheVariants.{Failed, Memory}

-- the phrase of the crate `http`, or none where it has none for this status
abbrev pub phrase_of : ℕ → List ℕ
phrase_of status = unwrap_or (reason_phrase status) []

-- the media type of the body
unfoldable pub type_of : Bool → List ℕ
type_of is_text = if is_text then codes "text/plain" else codes "application/json"

unfoldable pub version : List ℕ
version = codes "HTTP/1.1 "

unfoldable pub content_type : List ℕ
content_type = codes "content-type"

unfoldable pub connection : List ℕ
connection = codes "connection"

unfoldable pub close : List ℕ
close = codes "close"

-- what stands between a name and its value
unfoldable pub colon : List ℕ
colon = codes ": "

unfoldable pub space : List ℕ
space = codes " "

-- the end of a line: CR LF
unfoldable pub crlf : List ℕ
crlf = 13 ∷ 10 ∷ []

-- the version, the status in decimal digits and its phrase
unfoldable pub status_line : ℕ → List ℕ
status_line status = version ++ decimal status ++ space ++ phrase_of status ++ crlf

-- the line of a field
unfoldable pub field : List ℕ → List ℕ → List ℕ
field name value = name ++ colon ++ value ++ crlf

-- the status line and three fields, and an empty line
unfoldable pub reply_head : ℕ → Bool → ℕ → List ℕ
reply_head status is_text count =
    status_line status
    ++ field content_type (type_of is_text)
    ++ field content_length (decimal count)
    ++ field connection close
    ++ crlf

-- the head, and the body
abbrev pub reply_bytes : ℕ → Bool → List ℕ → List ℕ
reply_bytes status is_text body = reply_head status is_text (length body) ++ body

-- these bytes were written, and nothing else that is told changed
unfoldable pub Wrote : Option Told → Option Told → List ℕ → Type 0
Wrote old new bytes = new ≡ option_map (with_written bytes) old

-- Ok writes all bytes, `Failed` a front of them, and want of memory none.
abbrev pub Sends : Option Told → Option Told → List ℕ → Result (Unit {0}) SendFault → Type 0
Sends old new bytes (Ok x) = Wrote old new bytes
Sends old new bytes (Err Failed) = (n : ℕ) × Wrote old new (take n bytes)
Sends old new bytes (Err Memory) = new ≡ old
