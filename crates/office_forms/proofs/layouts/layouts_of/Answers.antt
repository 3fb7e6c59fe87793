use Rattle.form_fields.proofs.Walking.{is_done}
use Rattle.office_forms.proofs.layouts.layouts_of.Goals as goal

pub returns : goal.returns
returns c = is_done _ _ _ _ _ _ _ c.loop-value-test.false c.loop-value.invariant
