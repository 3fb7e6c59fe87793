use Rattle.vet_base.specs.Script.{run}
use Rattle.dex_reader.specs.ClassData.{member_row, members_at}
use Rattle.vet_base.proofs.Repeats.{Repeats}
use Rattle.dex_reader.proofs.class_data.members_of.Given as goal

abbrev pub invariant-loop : goal.invariant-loop
invariant-loop l = Repeats l.count l.counter (member_row l.file l.fields l.class) l.members.items l.walk (run (members_at l.file l.fields l.class l.count l.fn.before.at l.fn.before.totals))
