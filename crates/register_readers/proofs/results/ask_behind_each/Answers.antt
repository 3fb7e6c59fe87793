use Rattle.std.proofs.Common.{◌≡◌, subst, ◌∙◌}
use Rattle.app_machine.specs.State.{result_register}
use Rattle.vet_base.specs.Members.{In}
use Rattle.register_readers.specs.Found.{Asks}
use Rattle.register_readers.proofs.Late.{behind_more}
use Rattle.register_readers.proofs.results.ask_behind_each.Goals as goal

pub loop-step-preserved : goal.loop-step-preserved
loop-step-preserved c = record {
  free = c.in_ok-ask_at.ensures.free;
  right = c.in_ok-ask_at.ensures.right;
  asks = behind_more c.args.found.now c.loop-step.found c.ask_at.new.found c.args.steps.now c.loop-step.step-index c.step-item.result c.loop-step-test.true c.step-item.is
      c.loop-step.invariant.asks (subst (λ pcs. Asks (λ q v. (q ≡ result_register) × In v pcs) c.loop-step.found c.ask_at.new.found) c.as_slice-next.ensures c.in_ok-ask_at.ensures.asks);
  counted = c.in_ok-ask_at.ensures.counted ∙ c.loop-step.invariant.counted;
}
