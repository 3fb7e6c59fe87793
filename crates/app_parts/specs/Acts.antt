-- Keys by their numbers.
use Rattle.std.specs.Prelude.{ℕ}
use Rattle.vet_base.specs.declared.key_id.KeyId.{KeyId}

abbrev pub key_number : KeyId → ℕ
key_number key = key.0
