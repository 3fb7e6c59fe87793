use Rattle.std.proofs.Common.{◌≡◌, Err, refl, subst}
use Rattle.desk_callers.specs.declared.caller.DialFault.{DialFault}
use Rattle.desk_callers.specs.declared.caller.DialFault.TheVariants.{Failed}
use Rattle.desk_callers.specs.Dials.{Dialled}
use Rattle.desk_client.specs.Tries.{not_dialled, not_written, not_answered, answered}
use Rattle.desk_client.proofs.one_try.one_try.Goals as goal

-- there is one fault of a dial
only_failed : (fault : DialFault) → fault ≡ Failed
only_failed Failed = refl

pub returns-in-Err-Failed : goal.returns-in-Err-Failed
returns-in-Err-Failed g c =
    not_dialled (subst (λ (fault : DialFault). Dialled (g.N.Link.told c.args.caller.now) (g.N.Link.told c.dial.new.self) (Err fault)) (only_failed c.in-Err-Failed.field-0) c.in-Err-Failed.ensures.told) c.in-Err-Failed.ensures.cause

pub returns-in-Err : goal.returns-in-Err
returns-in-Err g c =
    let front = c.in-Err.ensures.front in
    not_written (record { told = g.N.Link.told c.dial.new.self; faults = g.N.Link.fault_count c.dial.new.self })
    (record { told = c.in-Ok.ensures.told; faults = c.in-Ok.ensures.never_falls })
    (record { n = front.0; within = front.1; told = front.2; faults = c.in-Err.ensures.cause })

pub returns-in-Ok-read_reply : goal.returns-in-Ok-read_reply
returns-in-Ok-read_reply g c =
    let reads = c.in-Ok-read_reply.ensures in
    answered (record { told = g.N.Link.told c.dial.new.self; faults = g.N.Link.fault_count c.dial.new.self })
    (record { told = g.N.Link.told c.write_all.new.link; faults = g.N.Link.fault_count c.write_all.new.link })
    c.in-Ok-read_reply.answered
    (record { told = c.in-Ok.ensures.told; faults = c.in-Ok.ensures.never_falls })
    (record { told = c.in-Ok-write_all.ensures.all; faults = c.in-Ok-write_all.ensures.never_falls })
    (record { told = reads.taken; answer = reads.answer; cause = reads.cause; faults = reads.never_falls })

pub returns-in-Err-read_reply : goal.returns-in-Err-read_reply
returns-in-Err-read_reply g c =
    let reads = c.in-Err-read_reply.ensures in
    not_answered (record { told = g.N.Link.told c.dial.new.self; faults = g.N.Link.fault_count c.dial.new.self })
    (record { told = g.N.Link.told c.write_all.new.link; faults = g.N.Link.fault_count c.write_all.new.link })
    c.in-Err-read_reply.fault
    (record { told = c.in-Ok.ensures.told; faults = c.in-Ok.ensures.never_falls })
    (record { told = c.in-Ok-write_all.ensures.all; faults = c.in-Ok-write_all.ensures.never_falls })
    (record { told = reads.taken; answer = reads.answer; cause = reads.cause; faults = reads.never_falls })
