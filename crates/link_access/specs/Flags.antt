-- Access flags. Android documentation, Dalvik Executable format: "access_flags Definitions".
use Rattle.std.specs.Prelude.{ℕ, ◌||◌, Bool}
use Rattle.link_listing.specs.Flags.{has_flag}

unfoldable pub is_private : ℕ → Bool
is_private flags = has_flag 2 flags

-- public or protected: seen in other packages too
unfoldable pub is_open : ℕ → Bool
is_open flags = has_flag 1 flags || has_flag 4 flags
