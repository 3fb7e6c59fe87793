use Rattle.vet_base.specs.Script.{run, Fails}
use Rattle.vet_base.proofs.Repeats.{repeat_begins, repeat_goes_on, repeat_fails, repeat_is_done}
use Rattle.dex_reader.specs.ClassData.{members_at}
use Rattle.std.proofs.Common.{rules}
use Rattle.dex_reader.proofs.class_data.members_of.Goals as goal

pub loop-init : goal.loop-init
unfolding members_at
loop-init c = rw c.new-members.ensures.items (repeat_begins _ _ _)

pub returns-in_err-member : goal.returns-in_err-member
returns-in_err-member c =
    let stopped : Fails c.in_err-member.field-0.0 (run (members_at c.args.file.now c.args.fields c.args.class c.args.count c.args.before.at c.args.before.totals)) =
    repeat_fails _ _ _ _ _ _ _ c.loop-test.true c.in_err-member.ensures c.loop.invariant in
    search rules

pub loop-preserved : goal.loop-preserved
loop-preserved c = rw c.in_ok-push.ensures.items (repeat_goes_on _ _ _ _ _ _ _ _ c.loop-test.true c.in_ok-member.ensures c.loop.invariant)

pub returns : goal.returns
returns c = rw c.from_vec.ensures (repeat_is_done _ _ _ _ _ _ c.loop-test.false c.loop.invariant)
