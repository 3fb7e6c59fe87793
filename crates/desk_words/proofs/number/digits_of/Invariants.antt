use Rattle.std.proofs.Common.{◌≡◌, ◌≤◌, drop}
use Rattle.desk_words.specs.Numbers.{digits}
use Rattle.desk_words.proofs.number.digits_of.Given as goal

abbrev pub invariant-loop-byte : goal.invariant-loop-byte
invariant-loop-byte l = (l.n ≤ l.limit) × (digits l.limit l.n (drop l.byte-index l.text) ≡ digits l.limit l.so_far l.text)
