use Rattle.std.proofs.Common.{◌∷◌, refl, inl}
use Rattle.rule_ground.specs.TableHits.{hits_in, table_hits}
use Rattle.flow_story.proofs.Telling.{tellable, short}
use Rattle.flow_story.proofs.law.what_is_derivable_has_a_story.Goals as goal

pub returns : goal.returns
returns g c =
    let rules = c.args.rules.now in
    tellable (g.R.Rules.rule rules) (g.R.RuleSet.is_start rules)
    (short (g.R.Rules.rule rules) (g.R.RuleSet.is_start rules)
    (g.met.R.RuleSet.has_premises rules)
    (λ first others. (
      g.R.Rules.gives rules (hits_in (first ∷ others)) first,
      g.met.R.Rules.exact rules (first ∷ others) (hits_in (first ∷ others)) c.requires (table_hits (first ∷ others)) first (inl refl),
    )))
