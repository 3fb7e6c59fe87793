use Rattle.std.proofs.Common.{◌≡◌, ◌++◌, drop}
use Rattle.dex_writer.specs.ClassData.{members_bytes}
use Rattle.dex_writer.proofs.class_data.put_members.Given as goal

abbrev pub invariant-loop-member : goal.invariant-loop-member
invariant-loop-member l = l.out.items ++ members_bytes l.before (drop l.member-index l.members) ≡ l.fn.out.items ++ members_bytes 0 l.members
