use Rattle.std.proofs.Common.{◌≡◌, ◌∙◌, All, ap, length, sym, subst, arith}
use Rattle.std.proofs.lemmas.List.{length-map}
use Rattle.desk_callers.specs.Memory.{IsWaiting}
use Rattle.desk_callers.proofs.Calling.{each_waits}
use Rattle.desk_callers.proofs.mem_caller.MemCaller.new.Goals as goal

pub invariant_of-result : goal.invariant_of-result
invariant_of-result c =
    let size : length c.in_ok-left.left.items ≡ length c.args.dials.items = ap length c.in_ok-left.ensures ∙ length-map c.args.dials.items _ in (
      subst (All IsWaiting) (sym c.in_ok-left.ensures) (each_waits c.args.room c.args.dials.items),
      tt,
      omega (arith, size, c.args.dials.ok.0, c.in_ok-ended.ensures.len, c.in_ok-ended.ensures.capacity, c.len.ensures),
    )
