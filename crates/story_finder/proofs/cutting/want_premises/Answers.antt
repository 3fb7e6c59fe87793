use Rattle.std.proofs.Common.{OnOk, sym, subst, ◌∙◌}
use Rattle.story_finder.specs.Cutting.{HasMore, premises_by}
use Rattle.story_finder.proofs.WantedNumbers.{none_more}
use Rattle.story_finder.proofs.cutting.want_premises.Goals as goal

pub returns-in-Some : goal.returns-in-Some
returns-in-Some g c =
    subst (λ o. OnOk c.want_all.result (HasMore (premises_by o) c.args.wanted.now.keys c.want_all.new.wanted.keys)) (sym c.in-Some.is ∙ c.line_of.ensures) c.want_all.ensures

pub returns-in-None : goal.returns-in-None
returns-in-None g c =
    subst (λ o. HasMore (premises_by o) c.args.wanted.now.keys c.args.wanted.now.keys) (sym c.in-None.is ∙ c.line_of.ensures) (none_more c.args.wanted.now.keys)
