-- A row's key is that of a static field exactly where the row is of the field.
use Rattle.std.proofs.Common.{◌≡◌, ℕ, refl, sym, ap, ◌∙◌}
use Rattle.std.specs.HashMap.{HashMap, get}
use Rattle.app_machine.specs.declared.lists.Lists.{Lists}
use Rattle.app_machine.specs.declared.lists.StaticRow.{StaticRow}
use Rattle.app_machine.specs.Names.{Name}
use Rattle.app_machine.specs.Summaries.{listed_static}
use Rattle.app_index.specs.contracts.keys.FieldKeyPartialEq.TheImpl.{ghosts as field_key_eq}
use Rattle.app_index.specs.declared.keys.FieldKey.{FieldKey}
use Rattle.app_index.specs.Numbers.{is_field_of, HasStatics}
use Rattle.app_index.proofs.ClassKeys.{at_number, find_at}

-- the key has these parts
pub record IsFieldKey (c n k : Name) (key : FieldKey) : Type 0 where
  pub class : key.class.now ≡ c
  pub name : key.name.now ≡ n
  pub kind : key.kind.now ≡ k

pub same_field : (s : StaticRow) (key : FieldKey) → IsFieldKey s.class s.name s.kind key → (q : FieldKey) → field_key_eq.eq key q ≡ is_field_of q s
same_field s key is q = rw (is.class, is.name, is.kind) refl

-- the number at the key of a field is that of the field's row
pub static_there : {S : Type 0} (numbers : HashMap FieldKey ℕ S) (lists : Lists) (field : Name × Name × Name) (key : FieldKey) → HasStatics numbers lists.statics → IsFieldKey field.0 field.1 field.2 key →
    at_number lists.statics (get field_key_eq.eq numbers key) ≡ listed_static lists field
unfolding listed_static
static_there numbers lists field key has is =
    ap (at_number lists.statics) (has.at key) ∙ (sym (find_at (is_field_of key) lists.statics) ∙ rw (is.class, is.name, is.kind) refl)
