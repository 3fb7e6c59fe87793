use Rattle.desk_http.proofs.Digits.{Reads}
use Rattle.client_replies.proofs.fields.number_in.Given as goal

abbrev pub invariant-loop-digit : goal.invariant-loop-digit
invariant-loop-digit l = Reads l.value l.digit-index l.number
