use Rattle.std.proofs.Common.{◌==◌, sym, subst, ◌∙◌}
use Rattle.std.proofs.lemmas.Result.{on_ok_weaker}
use Rattle.app_machine.specs.State.{exception_register}
use Rattle.vet_base.specs.Members.{In}
use Rattle.register_readers.specs.Searched.{Adds}
use Rattle.register_readers.proofs.Adding.{adds_where}
use Rattle.register_readers.proofs.search.Search.add_handlers.Goals as goal

pub returns-else-is_exception : goal.returns-else-is_exception
returns-else-is_exception c = on_ok_weaker c.add_each.result
    (λ adds.
    adds_where c.args.self.now c.add_each.new.self (c.args.register == exception_register) c.args.step.now.catches (sym c.is_exception.ensures ∙ c.if-is_exception.false)
    (subst (λ pcs. Adds (λ v. In v pcs) c.args.self.now c.add_each.new.self) c.as_slice.ensures adds)) c.add_each.ensures
