use Rattle.std.proofs.Common.{◌≡◌, ◌∙◌, ap}
use Rattle.device_causes.specs.Sets.{is_listed}
use Rattle.device_causes.proofs.NameSets.{contains_triple}
use Rattle.device_causes.proofs.sets.TripleSet.has.Goals as goal

pub returns : goal.returns
returns c =
    let h = c.self.view_is in
    let keys : c.self.inside.triples.keys ≡ c.args.self.now = cc in
    c.contains.ensures ∙ contains_triple c.self.inside.triples.keys c.args.triple.now ∙ ap (λ ks. is_listed ks c.args.triple.now) keys
