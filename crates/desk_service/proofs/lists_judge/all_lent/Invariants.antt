use Rattle.std.proofs.Common.{◌≡◌, take}
use Rattle.desk_service.proofs.lists_judge.all_lent.Given as goal

abbrev pub invariant-loop-file : goal.invariant-loop-file
invariant-loop-file l = l.all.items ≡ take l.file-index l.files
