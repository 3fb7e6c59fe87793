-- Bytes as characters, one after the other.
use Rattle.std.proofs.Common.{◌≡◌, ℕ, ◌+◌, ◌<◌, List, [], ◌∷◌, ◌++◌, length, take, get_or, ap, ◌∙◌, encode_utf8, append-nil}
use Rattle.std.proofs.lemmas.List.{take_more}
use Rattle.std.proofs.lemmas.Str.{encodes-append}
use Rattle.desk_answers.specs.Json.{latin1}

pub latin1_more : (bytes : List ℕ) (i : ℕ) → i < length bytes
    → latin1 (take (i + 1) bytes) ≡ latin1 (take i bytes) ++ encode_utf8 (get_or bytes i 0)
unfolding latin1
latin1_more bytes i lt =
    rw (take_more bytes i 0 lt, encodes-append, append-nil)
