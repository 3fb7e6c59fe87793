-- Values in JSON (RFC 8259, sections 3, 6 and 7).
use Rattle.std.specs.Prelude.{ℕ, List, Option, Some, None, codes, decimal}
use Rattle.std.specs.Str.{encode_utf8_all}
use Rattle.json.specs.Print.{quoted}

-- each byte is the character of that number (ISO/IEC 8859-1, as Unicode has it), in UTF-8
unfoldable pub latin1 : List ℕ → List ℕ
latin1 bytes = encode_utf8_all bytes

-- a text of bytes as a string of JSON
abbrev pub text_json : List ℕ → List ℕ
text_json bytes = quoted (latin1 bytes)

-- a number, or null
abbrev pub number_or_null : Option ℕ → List ℕ
number_or_null None = codes "null"
number_or_null (Some n) = decimal n

-- a word, or null
abbrev pub word_or_null : Option (List ℕ) → List ℕ
word_or_null None = codes "null"
word_or_null (Some word) = quoted word
