use Rattle.store_lists.proofs.DeviceSound.{sound_device}
use Rattle.store_lists.proofs.ListsSound.{sound_lists}
use Rattle.store_lists.proofs.ListsSpelled.{spelled_lists}
use Rattle.store_lists.proofs.lists.read_lists.Goals as goal

pub returns-in-Ok-lists_in-clause-sound : goal.returns-in-Ok-lists_in-clause-sound
returns-in-Ok-lists_in-clause-sound c = sound_lists _ c.in-Ok-lists_in.lists c.in-Ok-lists_in.ensures

pub returns-in-Ok-lists_in-clause-spelled : goal.returns-in-Ok-lists_in-clause-spelled
returns-in-Ok-lists_in-clause-spelled c = spelled_lists _ c.in-Ok-lists_in.lists c.in-Ok-lists_in.ensures

pub returns-in-Ok-lists_in-clause-device : goal.returns-in-Ok-lists_in-clause-device
returns-in-Ok-lists_in-clause-device c = sound_device _ c.in-Ok-lists_in.lists c.in-Ok-lists_in.ensures
