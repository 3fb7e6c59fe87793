-- What lists that are read say of a device keeps to its numbers and spellings.
use Rattle.std.proofs.Common.{◌≡◌, ℕ, ◌+◌, ◌≤◌, List, [], length, Ok}
use Rattle.std.specs.List.{All}
use Rattle.toml.specs.Data.{Data, Members}
use Rattle.vet_base.specs.Script.{run}
use Rattle.app_machine.specs.Names.{Name}
use Rattle.form_fields.specs.declared.fault.Fault.TheVariants.{Range}
use Rattle.form_fields.specs.declared.words.Section.TheVariants as section
use Rattle.form_fields.specs.declared.words.Key.{Key}
use Rattle.form_fields.specs.declared.words.Key.TheVariants as key
use Rattle.form_fields.specs.declared.spelling.Spelling.TheVariants as spelling
use Rattle.form_fields.specs.Spelling.{fits}
use Rattle.form_fields.specs.Once.{with_new}
use Rattle.form_fields.specs.Fields.{known, maybe_texts_at, number_at, tables_at}
use Rattle.method_fields.specs.Positions.{flag_at}
use Rattle.store_lists.specs.declared.device.DeviceKeys.{DeviceKeys}
use Rattle.store_lists.specs.declared.lists.StoreLists.{StoreLists}
use Rattle.store_lists.specs.Device.{are_counted, prefixes_at, device_at}
use Rattle.store_lists.specs.Large.{large_at}
use Rattle.store_lists.specs.Lists.{categories_at, all_rows, arrays_at, lists_form}
use Rattle.store_lists.specs.Spelled.{SoundDevice}
use Rattle.form_fields.proofs.Yields.{Yields, yields_value, yields_tested, yields_then, yields_past, yields_both}
use Rattle.form_fields.proofs.FieldYields.{tables_few, maybe_texts_few}
use Rattle.form_fields.proofs.Spelled.{Fits, maybe_texts_fit}

-- few names, and each begins the descriptor of a class
abbrev Starts : List Name → Type 0
Starts names = (length names ≤ 4096) × All (Fits spelling.Prefix) names

prefixes_sound : (k : Key) (before : List Name) (t : Members) → Yields (λ x. Starts x.0) (prefixes_at k before t)
unfolding prefixes_at
prefixes_sound k before t =
    yields_then Starts _ (maybe_texts_at section.Lists k spelling.Prefix 4096 t) _
    (yields_both _ _ _ (maybe_texts_few section.Lists k spelling.Prefix 4096 t) (maybe_texts_fit section.Lists k spelling.Prefix 4096 t))
    (λ names start. yields_tested _ (are_counted (length before + length names) (with_new before names)) (Range section.Lists k) (names, with_new before names) (λ _. start))

record SoundKeys (keys : DeviceKeys × List Data) : Type 0 where
  platform : Starts keys.0.platform
  bundled : Starts keys.0.bundled

keys_sound : (t : Members) → Yields SoundKeys (device_at t)
unfolding device_at
keys_sound t =
    yields_past _ (flag_at section.Lists key.Strict t) _
    (λ strict. yields_then (λ x. Starts x.0) _ (prefixes_at key.Platform [] t) _ (prefixes_sound key.Platform [] t)
    (λ platform start. yields_then (λ x. Starts x.0) _ (prefixes_at key.Bundled platform.1 t) _ (prefixes_sound key.Bundled platform.1 t)
    (λ bundled more. yields_past _ (tables_at section.Lists key.Static 65536 t) _
    (λ statics. yields_value _ _ (record { platform = start; bundled = more })))))

-- at most so many tables of static fields
pub static_tables_few : (t : Members) → Yields (λ x. length x.1 ≤ 65536) (device_at t)
unfolding device_at
static_tables_few t =
    yields_past _ (flag_at section.Lists key.Strict t) _
    (λ strict. yields_past _ (prefixes_at key.Platform [] t) _
    (λ platform. yields_past _ (prefixes_at key.Bundled platform.1 t) _
    (λ bundled. yields_then _ _ (tables_at section.Lists key.Static 65536 t) _ (tables_few section.Lists key.Static 65536 t)
    (λ statics few. yields_value _ _ few))))

device_sound : (t : Members) → Yields (λ d. SoundDevice d.device) (lists_form t)
unfolding lists_form fits
device_sound t =
    yields_past _ (known section.Lists t) _
    (λ _. yields_past _ (number_at section.Lists key.Rows 1 4000000 t) _
    (λ most. yields_past _ (categories_at t) _
    (λ categories. yields_past _ (arrays_at t) _
    (λ arrays. yields_then SoundKeys _ (device_at t) _ (keys_sound t)
    (λ device sound. yields_past _ (large_at t) _
    (λ large. yields_past _ (all_rows categories arrays device.1) _
    (λ all. yields_value _ _ (record {
      few_platform = sound.platform.0;
      few_bundled = sound.bundled.0;
      platform = sound.platform.1;
      bundled = sound.bundled.1;
    }))))))))

pub sound_device : (t : Members) (d : StoreLists) → run (lists_form t) ≡ Ok d → SoundDevice d.device
sound_device t d e = (device_sound t).at d e
