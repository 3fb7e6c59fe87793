use Rattle.link_code.specs.Methods.{lifted}
use Rattle.link_code.proofs.Narrowed.{narrow_goes_on, mapped_goes_on}
use Rattle.link_code.proofs.methods.methods_of.Goals as goal

pub loop-method-preserved : goal.loop-method-preserved
loop-method-preserved c = (
  mapped_goes_on (lifted c.args.app.now c.args.fields.now.entries c.args.statics.now c.args.dexes.now) c.args.coded.now c.loop-method.method-index c.method-item.result
      c.loop-method.methods.items c.push.new.self.items c.in_ok-method_at.field-0 c.loop-method-test.true c.method-item.is c.in_ok-push.ensures.items c.in_ok-method_at.ensures.value c.loop-method.invariant.0,
  narrow_goes_on c.loop-method.methods.items c.push.new.self.items c.in_ok-method_at.field-0 c.in_ok-push.ensures.items c.in_ok-method_at.ensures.narrow c.loop-method.invariant.1,
)
