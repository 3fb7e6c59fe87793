use Rattle.std.proofs.Common.{arith, rules, nat_lt}
use Rattle.std.proofs.lemmas.List.Sorted.{IsPartitionPoint-from_clause, IsPartitionedBy-ltb}
use Rattle.dex_code.proofs.Halving.{no_line}
use Rattle.dex_code.proofs.HandledLines.{count_at_point, pcs_rise}
use Rattle.dex_code.proofs.handled.lines_before.Goals as goal

pub returns : goal.returns
returns c =
    let parted = IsPartitionedBy-ltb (λ line. line.0) _ c.args.pc (pcs_rise _ c.requires) in
    let point = IsPartitionPoint-from_clause (λ line. nat_lt line.0 c.args.pc) _ _ c.partition_point.ensures.partitioned parted (λ a r q k. search rules) in
    count_at_point (λ line. nat_lt line.0 c.args.pc) _ _ no_line c.partition_point.ensures.bound (λ k lt. point.0 k no_line (omega arith) lt) (λ k ge lt. point.1 k no_line ge lt)
