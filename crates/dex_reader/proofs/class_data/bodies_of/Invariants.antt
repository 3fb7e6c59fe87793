use Rattle.vet_base.specs.Script.{run}
use Rattle.dex_reader.specs.ClassData.{body_row, bodies_at}
use Rattle.vet_base.proofs.Repeats.{Repeats}
use Rattle.dex_reader.proofs.class_data.bodies_of.Given as goal

abbrev pub invariant-loop : goal.invariant-loop
invariant-loop l = Repeats l.count l.counter (body_row l.file l.sizes l.class) l.bodies.items l.walk (run (bodies_at l.file l.sizes l.class l.count l.fn.before.at l.fn.before.totals))
