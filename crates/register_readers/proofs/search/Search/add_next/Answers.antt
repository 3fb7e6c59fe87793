use Rattle.std.proofs.Common.{sym, subst, ◌∙◌}
use Rattle.std.proofs.lemmas.Result.{on_ok_weaker}
use Rattle.app_machine.specs.Local.{writes}
use Rattle.vet_base.specs.Members.{In}
use Rattle.register_readers.specs.Searched.{Adds}
use Rattle.register_readers.proofs.Adding.{adds_where}
use Rattle.register_readers.proofs.search.Search.add_next.Goals as goal

pub returns-else-writes : goal.returns-else-writes
returns-else-writes c = on_ok_weaker c.add_each.result
    (λ adds.
    adds_where c.args.self.now c.add_each.new.self (writes c.args.step.now.act c.args.register) c.args.step.now.next (sym c.writes.ensures ∙ c.if-writes.false)
    (subst (λ pcs. Adds (λ v. In v pcs) c.args.self.now c.add_each.new.self) c.as_slice.ensures adds)) c.add_each.ensures
