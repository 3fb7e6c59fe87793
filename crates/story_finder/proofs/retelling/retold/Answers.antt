use Rattle.std.proofs.Common.{◌≡◌, ◌+◌, ap, filter_map, option_map, Some, sym, subst, take, ◌∙◌}
use Rattle.flow_trail.specs.Trails.{lines_of}
use Rattle.story_finder.specs.Retelling.{retell, retold}
use Rattle.story_finder.proofs.Renumbering.{one_retold, none_retold}
use Rattle.story_finder.proofs.retelling.retold.Goals as goal
use Rattle.story_finder.proofs.retelling.retold.Goals.{in-Some+in_ok-push, in_default}

pub loop-number-preserved : goal.loop-number-preserved
loop-number-preserved g c =
    let numbers = c.args.numbers.now in
    let f = retold (lines_of c.args.trail.now) numbers in
    let i = c.loop-number.number-index in
    elim c.match-line_of.branch [
      | in-Some+in_ok-push w ↦
          let gives = ap (option_map (retell numbers)) (sym c.line_of.ensures ∙ w.in-Some.is) in
          subst (λ z. z.items ≡ filter_map f (take (i + 1) numbers)) (sym w.lines-is)
          (one_retold f numbers i _ c.loop-number.lines.items c.loop-number-test.true c.loop-number.invariant w.retell.result w.push.new.self.items (gives ∙ ap (λ z. Some z) (sym w.retell.ensures)) w.in_ok-push.ensures.items)
      | in_default w ↦
          subst (λ z. z.items ≡ filter_map f (take (i + 1) numbers)) (sym w.lines-is)
          (none_retold f numbers i _ c.loop-number.lines.items c.loop-number-test.true c.loop-number.invariant (ap (option_map (retell numbers)) (sym c.line_of.ensures ∙ w.in_default.is)))
    ]
