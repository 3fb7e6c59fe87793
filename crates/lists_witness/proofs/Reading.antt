-- Each reading computes.
use Rattle.std.proofs.Common.{refl}
use Rattle.vet_base.specs.Script.{each, sweep, walk}
use Rattle.form_fields.specs.Fields.{is_known, least_unknown, known, at_key, text_of_value, text_at, word_at, number_at, text_item, text_items, texts_in, all_fit, texts_at, maybe_texts_at, tables_at, table_in}
use Rattle.form_fields.specs.Once.{once, names_once, with_one, with_new}
use Rattle.form_fields.specs.Places.{place_of}
use Rattle.form_fields.specs.Shape.{is_table, is_number, has_shape, all_have}
use Rattle.form_fields.specs.Spelling.{is_short, is_class, is_category_byte, are_category_bytes, is_category, is_visible, are_visible, is_token, fits}
use Rattle.form_fields.specs.Tree.{items_in}
use Rattle.form_fields.specs.Words.{text_of, keys_of}
use Rattle.method_fields.specs.Descriptor.{has_param, params_of, is_void, has_result, has_params, proto_of}
use Rattle.method_fields.specs.Gives.{default_word, result_at, from_fits, shared_fits, shared_at, gives_at}
use Rattle.method_fields.specs.Positions.{has_key, flag_at, items_at, position_rows, positions_at, pair_rows, pairs_at, named_rows, named_at, listed_at}
use Rattle.method_fields.specs.Signature.{keys_once, proto_at}
use Rattle.store_lists.specs.Callbacks.{called_at, callback_at, callback_row, callbacks_of}
use Rattle.store_lists.specs.Classes.{parents_above, parents_at, fallback_of, fallback_at, class_at, class_row, classes_of}
use Rattle.store_lists.specs.Device.{are_counted, prefixes_at, device_at, statics_of}
use Rattle.store_lists.specs.Large.{large_at}
use Rattle.store_lists.specs.Lists.{are_categories, categories_at, shared_object, shared_row, shared_of, rows_of, rows_once, all_rows, arrays_at, lists_form}
use Rattle.store_lists.specs.Methods.{is_listed, listed_class, signature_at, sink_at, summary_of, method_row, methods_of}
use Rattle.office_forms.specs.Office.{role_of, role_at, party_row, parties_of, name_once, token_once, party_names_once, party_tokens_once, parties_once, office_form}
use Rattle.lists_witness.specs.ListFacts.{ListsAreRead}
use Rattle.lists_witness.specs.OfficeFacts.{OfficeIsRead}

pub lists_are_read : ListsAreRead
unfolding lists_form device_at prefixes_at are_counted maybe_texts_at large_at statics_of known least_unknown is_known keys_of text_of number_at at_key categories_at texts_at texts_in text_items text_item walk items_in all_fit fits is_category is_short are_category_bytes is_category_byte with_new with_one place_of are_categories arrays_at tables_at all_have has_shape is_table is_number all_rows rows_of classes_of each class_row class_at table_in text_at text_of_value is_class parents_at parents_above fallback_at word_at fallback_of shared_of shared_row shared_object methods_of method_row signature_at listed_class is_listed flag_at proto_at proto_of has_params params_of sweep has_param is_void has_result summary_of gives_at result_at has_key default_word positions_at items_at position_rows from_fits shared_at shared_fits listed_at pairs_at pair_rows named_at named_rows sink_at callbacks_of callback_row callback_at called_at rows_once names_once once keys_once
lists_are_read = record { callback_name = refl; category = refl; mixed_default = refl; positions_type = refl; rows_first = refl }

pub office_is_read : OfficeIsRead
unfolding office_form known least_unknown is_known keys_of text_of number_at at_key tables_at items_in all_have has_shape is_table parties_of walk party_row table_in text_at text_of_value fits is_token are_visible is_visible role_at word_at role_of parties_once party_names_once each name_once once place_of party_tokens_once token_once
office_is_read = record { no_port_zero = refl; role = refl; token_once = refl }
