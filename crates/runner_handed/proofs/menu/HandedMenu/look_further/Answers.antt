use Rattle.std.proofs.Common.{◌≡◌, ℕ, length, subst, arith}
use Rattle.played_growth.specs.Growth.{classes_of}
use Rattle.runner_handed.proofs.Rows.{Looked, fits_then, has_all, looked_before, looked_further}
use Rattle.runner_handed.proofs.menu.HandedMenu.look_further.Goals as goal
use Rattle.runner_heap.specs.Objects.{heap_of}

pub loop-i-init : goal.loop-i-init
loop-i-init c = looked_before c.args.index.now.0 c.args.index.now.1 (classes_of (heap_of c.args.heap.now)) c.args.handed.now c.args.self.now c.requires.fits c.requires.whole

pub look_at-requires-clause-long : goal.look_at-requires-clause-long
look_at-requires-clause-long c = c.loop-i.invariant.long

pub loop-i-preserved : goal.loop-i-preserved
loop-i-preserved c =
    looked_further c.args.index.now.0 c.args.index.now.1 (classes_of (heap_of c.args.heap.now)) c.args.handed.now c.loop-i.self.rows.items c.look_at.new.rows.items c.loop-i.i 0 c.loop-i.self.whole c.in_ok-is_object.is_object c.both-whole.result
    (omega arith) c.in_ok-is_object.ensures c.both-whole.ensures.one c.both-whole.ensures.other c.loop-i.invariant

pub returns-clause-fits : goal.returns-clause-fits
returns-clause-fits c =
    let same : c.loop-i.i ≡ length c.args.handed.now = omega (arith, c.loop-i.invariant.within) in
    fits_then c.args.index.now.0 c.args.index.now.1 (classes_of (heap_of c.args.heap.now)) c.args.handed.now _
    (subst (λ (n : ℕ). Looked c.args.index.now.0 c.args.index.now.1 (classes_of (heap_of c.args.heap.now)) c.args.handed.now c.loop-i.self.rows.items n c.loop-i.self.whole) same c.loop-i.invariant)

pub returns-clause-all : goal.returns-clause-all
returns-clause-all c =
    let same : c.loop-i.i ≡ length c.args.handed.now = omega (arith, c.loop-i.invariant.within) in
    has_all c.args.index.now.0 c.args.index.now.1 (classes_of (heap_of c.args.heap.now)) c.args.handed.now _ (omega arith)
    (subst (λ (n : ℕ). Looked c.args.index.now.0 c.args.index.now.1 (classes_of (heap_of c.args.heap.now)) c.args.handed.now c.loop-i.self.rows.items n c.loop-i.self.whole) same c.loop-i.invariant)
