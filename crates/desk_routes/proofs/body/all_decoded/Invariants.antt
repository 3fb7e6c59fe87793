use Rattle.std.proofs.Common.{map}
use Rattle.serde_json.specs.View.{view}
use Rattle.desk_routes.specs.Bodies.{all_decoded}
use Rattle.desk_routes.proofs.Decoding.{Continues}
use Rattle.desk_routes.proofs.body.all_decoded.Given as goal

abbrev pub invariant-loop-value : goal.invariant-loop-value
invariant-loop-value l = Continues l.list.items l.values l.value-index (all_decoded (map view l.values))
