-- The keys that are still to come.
use Rattle.std.specs.Prelude.{List}
use Rattle.vet_base.specs.declared.key_id.KeyId.{KeyId}
use Rattle.access_path.specs.declared.path_keys.PathKeys.{PathKeys}
use Rattle.access_path.specs.Keys.{keys_in}

abbrev pub keys_left : PathKeys → List KeyId
keys_left keys = keys_in keys.left
