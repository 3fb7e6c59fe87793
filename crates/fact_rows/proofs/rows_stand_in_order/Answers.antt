use Rattle.fact_rows.specs.OrderLaws.{row_order_is}
use Rattle.fact_rows.proofs.rows_stand_in_order.Goals as goal

pub returns : goal.returns
returns c = row_order_is
