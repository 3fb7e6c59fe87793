use Rattle.std.proofs.Common.{List, reverse, sym, ap, subst, ◌∙◌}
use Rattle.app_machine.specs.declared.app.App.{App}
use Rattle.app_machine.specs.declared.lists.Lists.{Lists}
use Rattle.app_machine.specs.Heap.{Object}
use Rattle.app_machine.specs.Names.{Name}
use Rattle.app_machine.specs.Sound.{SoundApp}
use Rattle.played_growth.specs.Growth.{classes_of}
use Rattle.runner_begin.specs.Begun.{code_at, types_of}
use Rattle.runner_begin.specs.Parameters.{labels_by, parameters_by, planned_in}
use Rattle.runner_begin.proofs.beginning.drawn_for.Goals as goal
use Rattle.runner_below.specs.Kept.{AreBelow}
use Rattle.runner_heap.specs.Objects.{heap_of}

pub parameters-requires-clause-app : goal.parameters-requires-clause-app
parameters-requires-clause-app c = subst (λ (g : App × Lists). SoundApp g.0) (sym c.requires.ground.events) c.requires.ground.app

pub parameters-requires-clause-fits : goal.parameters-requires-clause-fits
parameters-requires-clause-fits c = subst (λ (g : App × Lists). AreBelow g.0 g.1 (classes_of (heap_of c.args.world.now.heap)) c.args.world.now.handed c.args.belows.now) (sym c.requires.ground.events) c.requires.fits

pub returns-clause-fits : goal.returns-clause-fits
returns-clause-fits c = subst (λ (g : App × Lists). AreBelow g.0 g.1 (classes_of (heap_of c.args.world.now.heap)) c.args.world.now.handed c.parameters.new.belows) c.requires.ground.events c.in_ok-drawn.ensures.fits

pub returns-clause-drawn : goal.returns-clause-drawn
returns-clause-drawn c =
    c.in_ok-drawn.ensures.drawn
    ∙ (ap (λ (g : App × Lists). parameters_by g.0 g.1 (reverse c.args.world.now.handed) (labels_by c.args.received.sources.now) 1 c.kinds_of-kinds.result.now (planned_in (heap_of c.args.world.now.heap) c.as_slice.result.now) c.args.script.left.now) c.requires.ground.events
    ∙ (ap (λ (types : List Name). parameters_by c.args.ground.now.app.now c.args.ground.now.lists.now (reverse c.args.world.now.handed) (labels_by c.args.received.sources.now) 1 types (planned_in (heap_of c.args.world.now.heap) c.as_slice.result.now) c.args.script.left.now) c.kinds_of-kinds.ensures.same
    ∙ ap (λ (heap : List Object). parameters_by c.args.ground.now.app.now c.args.ground.now.lists.now (reverse c.args.world.now.handed) (labels_by c.args.received.sources.now) 1 (types_of (code_at c.args.ground.now.app.now c.args.received.body)) heap c.args.script.left.now)
    (ap (planned_in (heap_of c.args.world.now.heap)) c.as_slice.ensures.value ∙ c.in_ok-first.ensures (heap_of c.args.world.now.heap))))
