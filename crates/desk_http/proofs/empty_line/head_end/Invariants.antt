use Rattle.desk_http.specs.Heads.{HasNoEnd}
use Rattle.desk_http.proofs.empty_line.head_end.Given as goal

abbrev pub invariant-loop-end : goal.invariant-loop-end
invariant-loop-end l = HasNoEnd l.bytes l.end
