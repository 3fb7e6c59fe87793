-- Whether bytes begin as a log.
use Rattle.std.specs.Prelude.{◌≡◌, ◌≢◌, ℕ, Bool, true, false, List, take}
use Rattle.gated_log.specs.Format.{magic}

abbrev pub IsKnown : Bool → List ℕ → Type 0
IsKnown true bytes = take 8 bytes ≡ magic
IsKnown false bytes = take 8 bytes ≢ magic
