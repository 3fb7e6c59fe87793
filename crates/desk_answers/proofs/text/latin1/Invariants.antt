use Rattle.std.proofs.Common.{◌≡◌, string_bytes, take}
use Rattle.desk_answers.specs.Json.{latin1}
use Rattle.desk_answers.proofs.text.latin1.Given as goal

-- what was read stands in the text
abbrev pub invariant-loop-byte : goal.invariant-loop-byte
invariant-loop-byte l = string_bytes l.text ≡ latin1 (take l.byte-index l.bytes)
