use Rattle.std.proofs.Common.{ℕ, List, sym, subst}
use Rattle.runner_handed.specs.Menu as handed
use Rattle.runner_handed.specs.Menu.{HasAll}
use Rattle.played_growth.specs.Growth.{classes_of}
use Rattle.runner_heap.specs.Objects.{heap_of}
use Rattle.runner_menu.proofs.menu.Menu.catch_up.Goals as goal

pub catch_up-requires-clause-fits : goal.catch_up-requires-clause-fits
catch_up-requires-clause-fits c =
    subst (λ (places : List ℕ). handed.Fits c.args.index.now.0 c.args.index.now.1 (classes_of (heap_of c.args.world.now.heap)) places c.args.self.now.handed) (sym c.places-places.ensures.same) c.requires.fits.handed

pub returns-clause-fits : goal.returns-clause-fits
returns-clause-fits c = record {
  tables = c.requires.fits.tables;
  handed = subst (λ (places : List ℕ). handed.Fits c.args.index.now.0 c.args.index.now.1 (classes_of (heap_of c.args.world.now.heap)) places c.catch_up.new.self) c.places-places.ensures.same c.in_ok-catch_up.ensures.fits;
}

pub returns-clause-ready : goal.returns-clause-ready
returns-clause-ready c = record {
  tables = c.requires.fits.tables;
  handed = subst (λ (places : List ℕ). HasAll c.args.index.now.0 c.args.index.now.1 (classes_of (heap_of c.args.world.now.heap)) places c.catch_up.new.self) c.places-places.ensures.places c.in_ok-catch_up.ensures.all;
}
