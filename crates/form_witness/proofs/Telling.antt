-- The facts hold by what the definitions say.
use Rattle.std.proofs.Common.{refl, arith}
use Rattle.std.specs.Fmt.{digits}
use Rattle.vet_base.specs.Script.{each, walk}
use Rattle.dalvik_formats.specs.Layouts.{layout_of, row_of}
use Rattle.dex_maker.specs.Codes.{raw_try, raw_code}
use Rattle.dex_maker.specs.Made.{dex_bytes}
use Rattle.dex_writer.specs.declared.tables.Tables.{Tables}
use Rattle.dex_writer.specs.File.{file_bytes, header_bytes, header_begin}
use Rattle.form_fields.specs.Fields.{is_known, least_unknown, known, at_key, word_at}
use Rattle.form_fields.specs.Shape.{is_number, is_text, are_texts, number_and_texts, is_named_pair, has_shape, all_have}
use Rattle.form_fields.specs.Spelling.{fits, is_token, are_visible, is_visible}
use Rattle.form_fields.specs.Tree.{items_in}
use Rattle.form_fields.specs.Words.{text_of, keys_of}
use Rattle.link_listing.specs.Classes.{class_row, dex_classes, all_classes}
use Rattle.link_listing.specs.Gathered.{gathering}
use Rattle.link_listing.specs.Orders.{named, with_name}
use Rattle.link_listing.specs.Texts.{text_of as string_of, type_of}
use Rattle.made_apps.specs.Code.{returned_lines, passed_on_lines, stored_lines, body_lines, main_lines}
use Rattle.made_apps.specs.Draws.{next_state, drawn, body_drawn, state_behind}
use Rattle.made_apps.specs.Forms.{manifest_text}
use Rattle.made_apps.specs.Lists.{lists_text}
use Rattle.made_apps.specs.Made.{main_method, main_listed, method_listed, field_listed, work_listed, made}
use Rattle.made_apps.specs.Names.{main_class, work_class, activity_class, bundle_class, object_class, string_class, device_class, net_class, void, on_create, id, post, static_field, method_name}
use Rattle.method_fields.specs.Gives.{default_word, gives_word, source_allows, type_allows, is_allowed, result_at, from_fits, shared_fits, shared_at, gives_of, gives_at}
use Rattle.method_fields.specs.Positions.{has_key, items_at, position_rows, positions_at, listed_at}
use Rattle.form_witness.specs.Codes.{CodesTell}
use Rattle.form_witness.specs.Fields.{FieldsTell, RowsTell}
use Rattle.form_witness.specs.Listed.{ListingsTell}
use Rattle.form_witness.specs.Made.{MadeAppsTell}

pub fields_tell : FieldsTell
unfolding all_have has_shape is_named_pair items_in number_and_texts is_number are_texts is_text fits is_token are_visible is_visible known least_unknown is_known keys_of text_of
fields_tell = record { pair = refl; no_longer_pair = refl; shortest_token = refl; no_shorter_token = refl; least_key = refl }

pub rows_tell : RowsTell
unfolding gives_at result_at word_at at_key text_of has_key default_word positions_at items_at items_in all_have position_rows walk from_fits shared_at shared_fits gives_word source_allows type_allows is_allowed gives_of listed_at
rows_tell = record { shared_is_text = refl; blank_has_none = refl; handed_back = refl; no_number_handed = refl; no_source_handed = refl; handed_from_none = refl; with_receiver = refl }

pub listings_tell : ListingsTell
unfolding gathering all_classes dex_classes class_row each named with_name string_of type_of
listings_tell = record { two_classes = refl; too_dear = λ left rest cost less same. omega arith }

pub made_apps_tell : MadeAppsTell
unfolding made main_listed main_method work_listed field_listed method_listed main_lines body_lines returned_lines passed_on_lines stored_lines body_drawn state_behind drawn next_state method_name digits main_class work_class activity_class bundle_class object_class string_class device_class net_class void on_create id post static_field dex_bytes file_bytes header_bytes header_begin manifest_text lists_text
made_apps_tell = record { stored = refl; passed_on = refl; begins = λ listing. refl; one_file = refl; most_rows = refl }

pub codes_tell : (t : Tables) → CodesTell t
unfolding raw_code raw_try layout_of row_of
codes_tell t = record { outs = refl; handlers = refl }
