use Rattle.std.proofs.Common.{rules, ◌≡◌, ◌+◌, Some, sym}
use Rattle.gated_log.specs.Format.{record_length}
use Rattle.gated_log.proofs.Pieces.{same_told}
use Rattle.gated_log.proofs.Records.{HasPiece}
use Rattle.gated_log.proofs.Records as records
use Rattle.gated_log.proofs.reading.record_at.Goals as goal

pub returns-then-len-at-lt9-clause-answer : goal.returns-then-len-at-lt9-clause-answer
returns-then-len-at-lt9-clause-answer g c =
    records.no_room c.args.at c.args.len c.requires.within (g.D.Disk.told c.args.disk.now) c.if-len-at-lt9.true c.requires.long

pub returns-then-count-len-clause-answer : goal.returns-then-count-len-clause-answer
returns-then-count-len-clause-answer g c =
    let head = c.in_ok-head.head.items in
    let known : record_length head ≡ Some c.in-Some.count = search rules in
    records.no_end c.args.at c.args.len c.requires.within head c.in-Some.count known (g.D.Disk.told c.args.disk.now)
    c.if-count-len.true c.requires.long c.in_ok-head.ensures.piece

pub returns-clause-answer : goal.returns-clause-answer
returns-clause-answer g c =
    let told = g.D.Disk.told in
    let head = c.in_ok-head.head.items in
    let count = c.in-Some.count in
    let payload = c.in_ok-payload.payload.items in
    let known : record_length head ≡ Some count = search rules in
    let piece = same_told (HasPiece (c.args.at + 9) count payload) (told c.piece.new.disk) (told c.args.disk.now)
    (sym c.in_ok-head.ensures.told) c.in_ok-payload.ensures.piece in
    records.is_there c.args.at c.args.len c.requires.within head count known c.if-count-len.false payload
    (told c.args.disk.now) c.requires.long c.in_ok-head.ensures.piece piece
