use Rattle.std.proofs.Common.{◌≡◌, rules}
use Rattle.form_fields.specs.Places.{place_of}
use Rattle.form_fields.proofs.Placing.{is_within}
use Rattle.form_fields.proofs.index.Index.place_of.Goals as goal

pub returns-clause-within : goal.returns-clause-within
returns-clause-within g c =
    let e : c.copied.result ≡ place_of g.K.PartialEq.eq c.args.key.now c.args.self.now = search rules in
    is_within g.K.PartialEq.eq c.copied.result c.args.key.now c.args.self.now e
