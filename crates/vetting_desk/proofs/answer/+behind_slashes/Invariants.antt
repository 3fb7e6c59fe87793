use Rattle.std.proofs.Common.{length}
use Rattle.vetting_desk.proofs.answer.+behind_slashes.Given as goal

abbrev pub decreases-behind_slashes : goal.decreases-behind_slashes
decreases-behind_slashes l = length l.rest.now
