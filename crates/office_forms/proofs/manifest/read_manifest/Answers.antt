use Rattle.office_forms.proofs.FormsSound.{sound_manifest, sound_named}
use Rattle.office_forms.proofs.manifest.read_manifest.Goals as goal

pub returns-in-Ok-manifest_in-clause-sound : goal.returns-in-Ok-manifest_in-clause-sound
returns-in-Ok-manifest_in-clause-sound c = sound_manifest _ c.in-Ok-manifest_in.manifest c.in-Ok-manifest_in.ensures

pub returns-in-Ok-manifest_in-clause-named : goal.returns-in-Ok-manifest_in-clause-named
returns-in-Ok-manifest_in-clause-named c = sound_named _ c.in-Ok-manifest_in.manifest c.in-Ok-manifest_in.ensures
