use Rattle.std.proofs.Common.{sym, arith, eq-eqb, get_or}
use Rattle.desk_routes.proofs.Slashes.{slash_is}
use Rattle.desk_routes.proofs.target.slash_at.Goals as goal

pub returns-then-byte-eq47-clause-place : goal.returns-then-byte-eq47-clause-place
returns-then-byte-eq47-clause-place c =
    sym (slash_is c.args.bytes.now c.loop-place.place (omega arith) c.loop-place.invariant
    (λ _. eq-eqb (get_or c.args.bytes.now c.loop-place.place 0) 47 c.if-byte-eq47.true))
