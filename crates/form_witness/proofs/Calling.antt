-- What methods of a file are computes.
use Rattle.std.proofs.Common.{refl}
use Rattle.app_machine.specs.Names.{descriptor_of, is_wide}
use Rattle.vet_base.specs.Script.{each, sweep}
use Rattle.dalvik_formats.specs.Layouts.{group_of, layout_of, pairing_of, row_of}
use Rattle.dex_code.specs.Acts.{naming_of}
use Rattle.dex_code.specs.Code.{decoding}
use Rattle.dex_code.specs.Flow.{all_start, flow_at, flows_at, found, second_parts, starts}
use Rattle.dex_code.specs.Insns.{insn_at, int_pairs_at, ints_at, shape_at, shape_of, width_at}
use Rattle.dex_code.specs.Lines.{line_at, lines_at}
use Rattle.dex_code.specs.Registers.{all_below, one_fits, three_fit, two_fit}
use Rattle.dex_code.specs.Tries.{handlers_start, tries_at, try_stands}
use Rattle.dex_code.specs.Units.{int_at, long_at, pc_of, signed, target_of, wide_at}
use Rattle.link_code.specs.Code.{all_codes, call_fits, call_row, calls_fit, code_at, code_row, counts_of, one_code, reference, tested}
use Rattle.link_code.specs.Units.{units_of}
use Rattle.link_listing.specs.Flags.{is_native, is_static}
use Rattle.link_listing.specs.InFiles.{class_methods, method_entry, methods_in, methods_of}
use Rattle.link_listing.specs.MemberRows.{listed_of, method_named}
use Rattle.link_listing.specs.Texts.{proto_of, text_of, type_of, types_of}
use Rattle.form_witness.specs.Called.{CallsTell, LinksTell, file}
use Rattle.form_witness.proofs.Linking.{apps_tell, hierarchy_tells}

pub calls_tell : CallsTell
unfolding file methods_in methods_of class_methods method_entry method_named listed_of is_static is_native text_of type_of types_of proto_of descriptor_of all_codes code_row one_code code_at reference tested counts_of decoding lines_at line_at shape_at shape_of width_at insn_at int_pairs_at ints_at long_at int_at wide_at signed pc_of target_of one_fits two_fit three_fit all_below flows_at flow_at all_start found starts second_parts tries_at try_stands handlers_start calls_fit call_row call_fits naming_of layout_of row_of pairing_of group_of each sweep is_wide units_of
calls_tell = record { all = refl; too_few = refl; units = refl }

pub links_tell : LinksTell
links_tell = (hierarchy_tells, apps_tell, calls_tell)
