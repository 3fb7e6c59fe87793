use Rattle.std.proofs.Common.{◌∙◌}
use Rattle.std.proofs.lemmas.List.Filters.{dedup_is}
use Rattle.dex_code.proofs.Ordered.{ordered}
use Rattle.dex_code.proofs.order.put_in_order.Goals as goal

pub returns : goal.returns
returns c = dedup_is _ _ _ c.dedup.ensures.filtered ∙ ordered _ _ c.sort_unstable.ensures.permutation c.sort_unstable.ensures.sorted
