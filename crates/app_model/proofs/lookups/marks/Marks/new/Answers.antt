use Rattle.std.proofs.Common.{replicate}
use Rattle.std.proofs.lemmas.List.{get_or-replicate}
use Rattle.app_model.proofs.Marked.{none_marked}
use Rattle.app_model.proofs.lookups.marks.Marks.new.Goals as goal

pub returns : goal.returns
returns c = none_marked (replicate 2048 0) (λ k within. get_or-replicate 2048 k 0 0 within)
