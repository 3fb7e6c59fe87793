use Rattle.std.proofs.Common.{ℕ, ◌-◌, ap, arith}
use Rattle.app_machine.specs.Heap.{Value}
use Rattle.app_machine.specs.State.{Frame}
use Rattle.runner_calls.proofs.Stacking.{go_on_none, goes_on}
use Rattle.runner_calls.proofs.frames.Frames.go_on.Goals as goal
use Rattle.runner_state.specs.Shown.{value_of}

pub returns-then-count-eq0 : goal.returns-then-count-eq0
returns-then-count-eq0 c = go_on_none c.args.self.now.called.items c.args.register (value_of c.args.value) c.args.pc (omega arith)

pub returns : goal.returns
returns c =
    goes_on c.args.self.now.called.items (c.len-count.result - 1) c.index_mut-running.result.now (record c.index_mut-running.result.now { pc = c.args.pc; registers = c.set.new.self }) c.args.register (value_of c.args.value) c.args.pc
    (omega arith) c.index_mut-running.ensures.value
    (ap {B = Frame} (λ (rs : ℕ → Value). record { method = c.index_mut-running.result.now.method; pc = c.args.pc; registers = rs; initialises = c.index_mut-running.result.now.initialises }) c.in_ok-set.ensures.ok)
