-- The form of a reference, by which a developer names an app, and of a party's name.
use Rattle.std.specs.Prelude.{ℕ, Bool, ◌&&◌, ◌||◌, List, length, nat_le, nat_eq}
use Rattle.std.specs.List.{list_all}

-- `A-Z a-z 0-9 . _ -`
abbrev pub is_reference_byte : ℕ → Bool
is_reference_byte b = (nat_le 65 b && nat_le b 90) || (nat_le 97 b && nat_le b 122) || (nat_le 48 b && nat_le b 57)
    || nat_eq b 46 || nat_eq b 95 || nat_eq b 45

-- 1 to 64 bytes of these
abbrev pub is_reference : List ℕ → Bool
is_reference bytes = nat_le 1 (length bytes) && nat_le (length bytes) 64 && list_all is_reference_byte bytes
