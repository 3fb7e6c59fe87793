use Rattle.std.proofs.Common.{◌≡◌, ◌≢◌, ◌∙◌, sym, take, arith}
use Rattle.std.specs.declared.cmp.Ordering.TheVariants.{Equal}
use Rattle.app_machine.specs.Sound.{name_order}
use Rattle.app_model.proofs.Descriptors.{alike_taken, differ_taken}
use Rattle.app_model.proofs.lookups.descriptor.after_common.Goals as goal

pub returns-in-Equal-clause-alike : goal.returns-in-Equal-clause-alike
returns-in-Equal-clause-alike c =
    let ties : name_order (take c.min-common.result c.args.a.now) (take c.min-common.result c.args.b.now) ≡ Equal = rw (← c.split_at.ensures.front, ← c.split_at-2.ensures.front) (sym c.cmp.ensures ∙ c.in-Equal.is) in
    rw (c.split_at.ensures.back, c.split_at-2.ensures.back) (alike_taken c.min-common.result c.args.a.now c.args.b.now ties)

pub returns-in_default : goal.returns-in_default
returns-in_default c =
    let same : c.cmp.result ≡ name_order (take c.min-common.result c.args.a.now) (take c.min-common.result c.args.b.now) = rw (← c.split_at.ensures.front, ← c.split_at-2.ensures.front) c.cmp.ensures in
    let apart : name_order (take c.min-common.result c.args.a.now) (take c.min-common.result c.args.b.now) ≢ Equal = λ ties. c.in_default.not-Equal (same ∙ ties) in
    record { alike = tt; shorter = tt; differ = λ more_a more_b. differ_taken c.min-common.result c.args.a.now c.args.b.now (omega arith) (omega arith) apart more_a more_b ∙ sym same }
