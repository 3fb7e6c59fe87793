use Rattle.std.proofs.Common.{◌≡◌, ◌-◌, sym, ◌∙◌, arith}
use Rattle.flow_trail.specs.Trails.{lines_of}
use Rattle.flow_trail.proofs.Worklist.{line_stands}
use Rattle.story_finder.proofs.Before.{named_below}
use Rattle.story_finder.proofs.cutting.line_of.Goals as goal

pub returns : goal.returns
returns g c =
    let number = c.args.number in
    let some : number ≡ 0 → ⊥ = λ e. omega (arith, e) in
    c.line.ensures ∙ (line_stands c.args.trail.now c.requires (number - 1) ∙ sym (named_below (lines_of c.args.trail.now) number some))
