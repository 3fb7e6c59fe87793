use Rattle.office_forms.proofs.OfficeSound.{sound_office}
use Rattle.office_forms.proofs.office.read_office.Goals as goal

pub returns-in-Ok-office_in-clause-sound : goal.returns-in-Ok-office_in-clause-sound
returns-in-Ok-office_in-clause-sound c = sound_office _ c.in-Ok-office_in.office c.in-Ok-office_in.ensures
