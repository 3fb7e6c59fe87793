use Rattle.std.proofs.Common.{Ok, sym, ap, inl}
use Rattle.app_machine.specs.declared.app.App.{App}
use Rattle.app_link.proofs.OneAnswer.{no_app, one_answer, told_alone}
use Rattle.app_link.proofs.linking.link.Goals as goal

pub returns-in-Ok-clause-one : goal.returns-in-Ok-clause-one
returns-in-Ok-clause-one c other is = inl (ap (λ (a : App). Ok a) (sym (c.in-Ok.ensures.only.only other is)))

pub returns-in-Ok-clause-first : goal.returns-in-Ok-clause-first
returns-in-Ok-clause-first c f first = absurd ((one_answer c.code_laws.ensures c.args.dexes.now c.args.manifest.now c.args.layouts.now).not_both c.in-Ok.app f c.in-Ok.ensures.app first)

pub returns-in-Err-Fault-clause-one : goal.returns-in-Err-Fault-clause-one
returns-in-Err-Fault-clause-one c app is =
    no_app c.code_laws.ensures c.args.dexes.now c.args.manifest.now c.args.layouts.now c.in-Err-Fault.fault c.told_of.result app (rw c.in-Err-Fault.field-0-is at c.in-Err-Fault.ensures.fault) c.told_of.ensures is

pub returns-in-Err-Fault-clause-first : goal.returns-in-Err-Fault-clause-first
returns-in-Err-Fault-clause-first c f first =
    told_alone c.args.dexes.now c.args.manifest.now c.args.layouts.now c.in-Err-Fault.fault c.told_of.result f (rw c.in-Err-Fault.field-0-is at c.in-Err-Fault.ensures.fault) c.told_of.ensures first
