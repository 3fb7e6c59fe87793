use Rattle.std.proofs.Common.{false, refl, sym, subst}
use Rattle.vet_base.specs.Members.{In}
use Rattle.rule_ground.specs.TableHits.{hits_in, table_hits}
use Rattle.flow_story.proofs.Looking.{answered, first_in, stands_first}
use Rattle.flow_story.proofs.following.follows.Goals as goal

pub returns : goal.returns
returns g c =
    let rules_now = c.args.rules.now in
    let few = c.new-few.result in
    let first = c.row_at-first.result in
    let at = stands_first c.args.premises.now first c.requires.some c.row_at-first.ensures in
    answered (g.R.Rules.rule rules_now) (record { rule = c.args.rule; premises = c.args.premises; row = c.args.row.now; found = false }) c.conclude.new.out few first _ c.in-Ok.ensures refl c.new-few.ensures at
    (g.met.R.Rules.exact rules_now few (hits_in few) c.requires.ready (table_hits few) first (subst (λ z. In first z) (sym c.new-few.ensures) (first_in c.args.premises.now first at)))
