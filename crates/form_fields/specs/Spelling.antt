-- How the texts of the forms are spelled.
use Rattle.std.specs.Prelude.{ℕ, ◌-◌, ◌==◌, ◌&&◌, ◌||◌, nat_le, Bool, true, length, slice_index}
use Rattle.std.specs.List.{list_all}
use Rattle.app_machine.specs.Names.{Name}
use Rattle.store_office.specs.Reference.{is_reference}
use Rattle.form_fields.specs.declared.spelling.Spelling.{Spelling}
use Rattle.form_fields.specs.declared.spelling.Spelling.TheVariants as spelling

-- 1 to 255 bytes
unfoldable pub is_short : Name → Bool
is_short s = nat_le 1 (length s) && nat_le (length s) 255

-- the descriptor of a class, `L..;`, of 3 to 255 bytes
-- Android documentation, Dalvik Executable format: "TypeDescriptor semantics"
unfoldable pub is_class : Name → Bool
is_class s = nat_le 3 (length s) && nat_le (length s) 255 && (slice_index s 0 == 76) && (slice_index s (length s - 1) == 59)

-- the beginning of the descriptor of a class: `L` and more, of 1 to 255 bytes
unfoldable pub is_prefix : Name → Bool
is_prefix s = nat_le 1 (length s) && nat_le (length s) 255 && (slice_index s 0 == 76)

-- `a` to `z`, `0` to `9` and `_`
unfoldable pub is_category_byte : ℕ → Bool
is_category_byte b = (nat_le 97 b && nat_le b 122) || (nat_le 48 b && nat_le b 57) || (b == 95)

unfoldable pub are_category_bytes : Name → Bool
are_category_bytes s = list_all (λ b. is_category_byte b) s

unfoldable pub is_category : Name → Bool
is_category s = is_short s && are_category_bytes s

-- a visible ASCII character, 33 to 126
-- RFC 5234, appendix B.1: `VCHAR`
unfoldable pub is_visible : ℕ → Bool
is_visible b = nat_le 33 b && nat_le b 126

unfoldable pub are_visible : Name → Bool
are_visible s = list_all (λ b. is_visible b) s

-- 8 to 128 of these
unfoldable pub is_token : Name → Bool
is_token s = nat_le 8 (length s) && nat_le (length s) 128 && are_visible s

unfoldable pub fits : Spelling → Name → Bool
fits spelling.Any s = true
fits spelling.Text s = is_short s
fits spelling.Class s = is_class s
fits spelling.Prefix s = is_prefix s
fits spelling.Category s = is_category s
fits spelling.Reference s = is_reference s
fits spelling.Token s = is_token s
