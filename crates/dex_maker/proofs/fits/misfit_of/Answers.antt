use Rattle.std.proofs.Common.{◌≤◌, arith}
use Rattle.std.specs.List.{sum_by}
use Rattle.dex_maker.specs.Lines.{width_of, width_sum}
use Rattle.dex_maker.proofs.LineLemmas.{lines_within}
use Rattle.dex_maker.proofs.fits.misfit_of.Goals as goal

pub overflow_add-number : goal.overflow_add-number
unfolding width_sum
overflow_add-number c =
    let few : sum_by width_of c.args.lines.now ≤ 8388608 = c.requires in
    omega (arith, few, lines_within c.args.lines.now)
