-- What the fields of a head say (RFC 9110, sections 5.1, 8.6 and 9.1; RFC 9112, sections 6.1 to 6.3).
use Rattle.std.specs.Prelude.{ℕ, Bool, true, false, ◌&&◌, ◌||◌, List, [], ◌∷◌, map, length, Option, Some, None, Result, Ok, Err, if◌then◌else◌, nat_lt, nat_le, codes, bytes_eq}
use Rattle.std.specs.Char.{to_ascii_lowercase}
use Rattle.std.specs.Str.{all_ascii_digits}
use Rattle.std.specs.Str.Parse.{digits_value}
use Rattle.httparse.specs.Grammar.{RequestHead}
use Rattle.httparse.specs.Spans.{name_and_value}
use Rattle.desk_http.specs.declared.asked.HttpFault.{HttpFault}
use Rattle.desk_http.specs.declared.asked.HttpFault.TheVariants.{Bad, NoLength, TooLong}

unfoldable pub content_length : List ℕ
content_length = codes "content-length"

unfoldable pub transfer_encoding : List ℕ
transfer_encoding = codes "transfer-encoding"

unfoldable pub desk_token : List ℕ
desk_token = codes "x-desk-token"

-- the methods that are served: GET and POST
unfoldable pub is_get : List ℕ → Bool
is_get method = bytes_eq method (codes "GET")

unfoldable pub is_post : List ℕ → Bool
is_post method = bytes_eq method (codes "POST")

abbrev pub FieldList : Type 0
FieldList = List (List ℕ × List ℕ)

-- whether a field has this name; names are compared without regard to ASCII case
unfoldable pub has_name : List ℕ → List ℕ × List ℕ → Bool
has_name name field = bytes_eq (map to_ascii_lowercase field.0) (map to_ascii_lowercase name)

-- the values of the fields of this name, in their order
abbrev pub values_of : List ℕ → FieldList → List (List ℕ)
values_of name [] = []
values_of name (field ∷ fields) = if has_name name field then field.1 ∷ values_of name fields else values_of name fields

abbrev pub is_any : List (List ℕ) → Bool
is_any [] = false
is_any (value ∷ values) = true

abbrev pub first_of : List (List ℕ) → Option (List ℕ)
first_of [] = None
first_of (value ∷ values) = Some value

-- a length is one to ten decimal digits
unfoldable pub is_length : List ℕ → Bool
is_length value = nat_lt 0 (length value) && nat_le (length value) 10 && all_ascii_digits value

-- the length that a value announces
abbrev pub length_in : List ℕ → Result ℕ HttpFault
length_in value = if is_length value then Ok (digits_value 10 value) else Err Bad

-- what the values of the fields Content-Length announce: nothing, one length, or a fault where it is none or two stand there
abbrev pub announced : List (List ℕ) → Result (Option ℕ) HttpFault
announced [] = Ok None
announced (value ∷ []) = if is_length value then Ok (Some (digits_value 10 value)) else Err Bad
announced (value ∷ second ∷ values) = Err Bad

-- the length of the body by what is announced: with a Transfer-Encoding, or without a length under POST, there is none;
-- and at most 67,108,864
abbrev pub length_after : Bool → Bool → Result (Option ℕ) HttpFault → Result ℕ HttpFault
length_after post coded (Err fault) = Err fault
length_after post coded (Ok None) = if post || coded then Err NoLength else Ok 0
length_after post coded (Ok (Some n)) = if coded then Err NoLength else (if nat_lt 67108864 n then Err TooLong else Ok n)

abbrev pub length_by_fields : Bool → FieldList → Result ℕ HttpFault
length_by_fields post fields = length_after post (is_any (values_of transfer_encoding fields)) (announced (values_of content_length fields))

-- the length of the body of a request with this method and these fields
abbrev pub length_by : List ℕ → FieldList → Result ℕ HttpFault
length_by method fields = if is_get method || is_post method then length_by_fields (is_post method) fields else Err Bad

-- the names and values of a head's fields, each value without the white space around it
abbrev pub fields_of : RequestHead → FieldList
fields_of head = map name_and_value head.fields

-- the length of the body of a request with this head
abbrev pub body_length : RequestHead → Result ℕ HttpFault
body_length head = length_by head.method (fields_of head)

-- the token stands in the first field x-desk-token
abbrev pub token_of : RequestHead → Option (List ℕ)
token_of head = first_of (values_of desk_token (fields_of head))
