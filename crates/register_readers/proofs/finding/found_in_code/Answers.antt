use Rattle.std.proofs.Common.{◌≡◌, List, subst}
use Rattle.std.specs.Prelude.{IsTrue}
use Rattle.app_machine.specs.declared.method.Step.{Step}
use Rattle.app_machine.specs.State.{result_register}
use Rattle.register_readers.specs.Found.{Asks, IsOfOne, IsBehindOne}
use Rattle.register_readers.specs.Results.{any_late}
use Rattle.register_readers.proofs.Indexing.{indexed_code}
use Rattle.register_readers.proofs.finding.found_in_code.Goals as goal

pub returns-clause-found : goal.returns-clause-found
returns-clause-found c =
    indexed_code c.args.app.now c.args.number c.args.method.now c.new-found.result c.ask_arguments.new.found c.ask_steps.new.found c.ask_results.new.found c.requires.there
    c.in_ok-ask_arguments.ensures.asks
    (subst (λ (steps : List Step). Asks (IsOfOne steps) c.ask_arguments.new.found c.ask_steps.new.found) c.as_slice-steps.ensures c.in_ok-ask_steps.ensures.asks)
    (subst (λ (steps : List Step). Asks (λ r pc. IsTrue (any_late c.args.app.now c.args.number steps) × ((r ≡ result_register) × IsBehindOne steps pc)) c.ask_steps.new.found c.ask_results.new.found) c.as_slice-steps.ensures c.in_ok-ask_results.ensures.asks)
    c.in_ok-ask_results.ensures.right
