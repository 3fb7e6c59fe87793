-- Access flags. Android documentation, Dalvik Executable format: "access_flags Definitions".
use Rattle.std.specs.Prelude.{ℕ, ◌/◌, ◌%◌, ◌==◌, Bool}

abbrev pub has_flag : ℕ → ℕ → Bool
has_flag flag flags = flags / flag % 2 == 1

unfoldable pub is_static : ℕ → Bool
is_static flags = has_flag 8 flags

unfoldable pub is_native : ℕ → Bool
is_native flags = has_flag 256 flags

unfoldable pub is_interface : ℕ → Bool
is_interface flags = has_flag 512 flags
