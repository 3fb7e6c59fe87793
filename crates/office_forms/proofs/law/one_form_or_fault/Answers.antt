use Rattle.office_forms.proofs.OneForms.{each_is_one}
use Rattle.office_forms.proofs.law.one_form_or_fault.Goals as goal

pub returns : goal.returns
returns c = each_is_one
