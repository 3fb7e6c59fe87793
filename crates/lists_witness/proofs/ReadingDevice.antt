-- Each reading of what the lists say of a device computes.
use Rattle.std.proofs.Common.{refl}
use Rattle.vet_base.specs.Script.{each, walk}
use Rattle.form_fields.specs.Fields.{is_known, least_unknown, known, at_key, text_of_value, text_at, word_at, number_at, text_item, text_items, texts_in, all_fit, texts_at, maybe_texts_at, tables_at, table_in}
use Rattle.form_fields.specs.Once.{names_once, with_one, with_new}
use Rattle.form_fields.specs.Places.{place_of}
use Rattle.form_fields.specs.Shape.{is_table, has_shape, all_have}
use Rattle.form_fields.specs.Spelling.{is_short, is_class, is_prefix, is_category_byte, are_category_bytes, is_category, fits}
use Rattle.form_fields.specs.Tree.{items_in}
use Rattle.form_fields.specs.Words.{text_of, keys_of}
use Rattle.method_fields.specs.Descriptor.{is_primitive, base_length, first_of_base, first_semicolon, type_length, is_type}
use Rattle.method_fields.specs.Positions.{flag_at, listed_at}
use Rattle.method_fields.specs.Signature.{key_once, keys_once, type_at}
use Rattle.store_lists.specs.Callbacks.{callbacks_of}
use Rattle.store_lists.specs.Classes.{classes_of}
use Rattle.store_lists.specs.Device.{are_counted, prefixes_at, device_at, static_key, static_at, static_row, statics_of}
use Rattle.store_lists.specs.Large.{large_at}
use Rattle.store_lists.specs.Lists.{are_categories, categories_at, shared_of, rows_of, rows_once, all_rows, arrays_at, lists_form}
use Rattle.store_lists.specs.Methods.{methods_of}
use Rattle.lists_witness.specs.DeviceFacts.{DeviceIsRead}

pub device_is_read : DeviceIsRead
unfolding lists_form known least_unknown is_known keys_of text_of number_at at_key categories_at texts_at texts_in text_items text_item walk items_in all_fit fits is_category is_short are_category_bytes is_category_byte with_new with_one place_of are_categories arrays_at tables_at all_have has_shape is_table device_at flag_at listed_at prefixes_at are_counted maybe_texts_at is_prefix large_at word_at all_rows rows_of classes_of shared_of methods_of callbacks_of statics_of each static_row static_at table_in text_at text_of_value is_class type_at is_type type_length first_of_base base_length first_semicolon is_primitive static_key rows_once names_once keys_once key_once
device_is_read = record {
  in_both = refl;
  twice_in_one = refl;
  begins_with = refl;
  kept_apart = refl;
  is_strict = refl;
  no_word = refl;
  static_once = refl;
  two_types = refl;
  source = refl;
  no_source = refl;
  no_void = refl;
}
