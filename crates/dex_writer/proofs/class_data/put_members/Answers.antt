use Rattle.std.proofs.Common.{get_or}
use Rattle.std.proofs.lemmas.List.{get_or_default}
use Rattle.dex_tables.specs.declared.dex.Member.{Member}
use Rattle.dex_writer.proofs.ClassLemmas.{member_step, members_done}
use Rattle.dex_writer.proofs.class_data.put_members.Goals as goal

pub loop-member-preserved : goal.loop-member-preserved
loop-member-preserved c =
    let none : Member = record { index = 0; flags = 0 } in
    let member : Member = get_or c.args.members.now c.loop-member.member-index none in
    member_step c.args.members.now c.loop-member.member-index c.loop-member.before member _ _ _ c.loop-member-test.true
    (get_or_default c.args.members.now c.loop-member.member-index none member c.loop-member-test.true) c.loop-member.invariant c.in_ok-put_member.ensures

pub returns : goal.returns
returns c = members_done c.args.members.now c.loop-member.member-index c.loop-member.before _ _ c.loop-member-test.false c.loop-member.invariant
