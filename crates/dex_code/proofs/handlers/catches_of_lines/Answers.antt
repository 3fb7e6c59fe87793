use Rattle.std.proofs.Common.{map, refl}
use Rattle.dex_code.specs.Next.{in_order}
use Rattle.dex_code.specs.Handlers.{AddsCatches}
use Rattle.dex_code.proofs.Halves.{catches_alone}
use Rattle.dex_code.proofs.handlers.catches_of_lines.Goals as goal

pub fill-requires-clause-order : goal.fill-requires-clause-order
unfolding in_order
fill-requires-clause-order c = rw c.new-none.ensures refl

pub returns : goal.returns
returns c =
    let adds : AddsCatches c.new-none.result (map (λ t. t.now) c.deref.result.now) c.args.lines.now c.new-found.result.items c.fill.new.found.items = c.in_ok-fill.ensures in
    catches_alone c.args.tries.now _ _ _ c.new-found.ensures.items (rw (c.new-none.ensures, c.deref.ensures.value, c.in_ok-all.ensures) at adds)
