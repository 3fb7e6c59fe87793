use Rattle.std.proofs.Common.{◌≡◌, ◌+◌, take}
use Rattle.std.specs.List.{sum_by}
use Rattle.dex_maker.specs.Classes.{member_count}
use Rattle.dex_maker.proofs.limits.after_all_members.Given as goal

abbrev pub invariant-loop-class : goal.invariant-loop-class
invariant-loop-class l = l.left + sum_by member_count (take l.class-index l.classes) ≡ l.budget
