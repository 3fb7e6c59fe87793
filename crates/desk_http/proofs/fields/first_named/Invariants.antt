use Rattle.std.proofs.Common.{◌≡◌}
use Rattle.desk_http.proofs.Named.{values_from}
use Rattle.desk_http.proofs.fields.first_named.Given as goal

abbrev pub invariant-loop-place : goal.invariant-loop-place
invariant-loop-place l = values_from l.bytes l.name l.fields l.place ≡ values_from l.bytes l.name l.fields 0
