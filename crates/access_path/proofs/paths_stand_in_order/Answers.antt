use Rattle.access_path.specs.OrderLaws.{path_order_is}
use Rattle.access_path.proofs.paths_stand_in_order.Goals as goal

pub returns : goal.returns
returns c = path_order_is
