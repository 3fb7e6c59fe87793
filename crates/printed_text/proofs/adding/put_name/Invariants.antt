use Rattle.std.proofs.Common.{◌≡◌, ◌++◌, take}
use Rattle.printed_text.specs.Printed.{escaped}
use Rattle.printed_text.proofs.adding.put_name.Given as goal

abbrev pub invariant-loop-byte : goal.invariant-loop-byte
invariant-loop-byte l = l.text.items ≡ l.initial.text.items ++ escaped (take l.byte-index l.name)
