-- Each reading of the word for large apps computes.
use Rattle.std.proofs.Common.{refl}
use Rattle.vet_base.specs.Script.{each, walk}
use Rattle.form_fields.specs.Fields.{is_known, least_unknown, known, at_key, word_at, number_at, text_item, text_items, texts_in, all_fit, texts_at, maybe_texts_at, tables_at}
use Rattle.form_fields.specs.Once.{names_once, with_one, with_new}
use Rattle.form_fields.specs.Places.{place_of}
use Rattle.form_fields.specs.Shape.{is_table, has_shape, all_have}
use Rattle.form_fields.specs.Spelling.{is_short, is_category_byte, are_category_bytes, is_category, fits}
use Rattle.form_fields.specs.Tree.{items_in}
use Rattle.form_fields.specs.Words.{text_of, keys_of}
use Rattle.method_fields.specs.Positions.{flag_at}
use Rattle.method_fields.specs.Signature.{keys_once}
use Rattle.store_lists.specs.Callbacks.{callbacks_of}
use Rattle.store_lists.specs.Classes.{classes_of}
use Rattle.store_lists.specs.Device.{are_counted, prefixes_at, device_at, statics_of}
use Rattle.store_lists.specs.Large.{large_of, large_at}
use Rattle.store_lists.specs.Lists.{are_categories, categories_at, shared_of, rows_of, rows_once, all_rows, arrays_at, lists_form}
use Rattle.store_lists.specs.Methods.{methods_of}
use Rattle.lists_witness.specs.LargeFacts.{LargeIsRead}

pub large_is_read : LargeIsRead
unfolding lists_form known least_unknown is_known keys_of text_of number_at at_key categories_at texts_at texts_in text_items text_item walk items_in all_fit fits is_category is_short are_category_bytes is_category_byte with_new with_one place_of are_categories arrays_at tables_at all_have has_shape is_table device_at flag_at prefixes_at are_counted maybe_texts_at large_at word_at large_of all_rows rows_of classes_of shared_of methods_of callbacks_of statics_of each rows_once names_once keys_once
large_is_read = record {
  cells = refl;
  no_word = refl;
  other_word = refl;
  other_case = refl;
  longer_word = refl;
  empty_word = refl;
  number = refl;
  flag = refl;
  other_key = refl;
  behind_statics = refl;
  before_tables = refl;
}
