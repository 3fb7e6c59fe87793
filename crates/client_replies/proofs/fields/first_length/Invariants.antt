use Rattle.std.proofs.Common.{◌≡◌}
use Rattle.desk_http.specs.Fields.{content_length}
use Rattle.desk_http.proofs.Named.{values_from}
use Rattle.client_replies.proofs.fields.first_length.Given as goal

abbrev pub invariant-loop-place : goal.invariant-loop-place
invariant-loop-place l = values_from l.bytes content_length l.fields l.place ≡ values_from l.bytes content_length l.fields 0
