use Rattle.std.proofs.Common.{rules, refl}
use Rattle.kept_rules.proofs.Through.{comes_back}
use Rattle.kept_rules.proofs.kept_rules.KeptRulesRules.lead.Goals as goal

pub returns : goal.returns
returns g c = comes_back g.S.Sink.then _ (g.R.Rules.leads c.args.self.now.rules.now (g.F.Facts.hits c.args.facts.now) c.args.row) c.args.out.now _ c.lead.new.out c.in_ok-lead.ensures refl (search rules)
