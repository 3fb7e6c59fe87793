use Rattle.std.proofs.Common.{◌≡◌, ◌++◌, Option, map, slice_get, subst}
use Rattle.std.specs.Prelude.{OnOk}
use Rattle.app_machine.specs.Names.{Name}
use Rattle.played_growth.specs.Growth.{classes_of}
use Rattle.runner_below.specs.Below.{if_below}
use Rattle.runner_below.proofs.Looked.{none_below}
use Rattle.runner_below.proofs.looking.add_behind.Goals as goal
use Rattle.runner_heap.specs.Objects.{heap_of}

pub returns-in-None : goal.returns-in-None
returns-in-None c =
    none_below c.args.index.now.0 c.args.index.now.1 c.args.kind.now (slice_get (classes_of (heap_of c.args.heap.now) ++ map (λ k. k.now) c.args.fresh.now) c.args.place) c.args.place c.args.places.now.items c.in-None.ensures

pub returns-in-Some : goal.returns-in-Some
returns-in-Some c =
    subst (λ (o : Option Name). OnOk c.add.result (c.add.new.places.items ≡ c.args.places.now.items ++ if_below c.args.index.now.0 c.args.index.now.1 c.args.kind.now o c.args.place)) c.in-Some.ensures c.add.ensures
