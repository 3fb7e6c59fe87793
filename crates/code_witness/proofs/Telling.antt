-- The facts hold by what the definitions say.
use Rattle.std.proofs.Common.{◌≡◌, ◌*◌, ◌<◌, Ok, length, refl, arith}
use Rattle.dalvik_formats.specs.Layouts.{layout_of, row_of, pairing_of, group_of}
use Rattle.vet_base.specs.Script.{run, sweep}
use Rattle.dex_code.specs.Acts.{act_of, naming_of}
use Rattle.dex_code.specs.Code.{decoding}
use Rattle.dex_code.specs.Flow.{found, starts, all_start, second_parts, flow_at, flows_at}
use Rattle.dex_code.specs.Handled.{catches_listed}
use Rattle.dex_code.specs.Insns.{shape_of, ints_at, int_pairs_at, shape_at, width_at, insn_at}
use Rattle.dex_code.specs.Lines.{line_at, lines_at}
use Rattle.dex_code.specs.Listed.{listed_by_all}
use Rattle.dex_code.specs.Next.{in_order, targets_from, next_of, addresses, covering, catches_of}
use Rattle.dex_code.specs.Registers.{one_fits, two_fit, three_fit, all_below}
use Rattle.dex_code.specs.Tries.{handlers_start, try_stands, tries_at}
use Rattle.dex_code.specs.Units.{long_at, int_at, signed, pc_of, target_of}
use Rattle.dex_code.proofs.Whole.{is_code, first_fault}
use Rattle.code_witness.specs.Codes.{CodesAreTold, bare}
use Rattle.code_witness.specs.Crowds.{CrowdsAreTold, switching, switched, guarding, guarded}
use Rattle.code_witness.specs.Lines.{LinesAreTold}

pub codes_are_told : CodesAreTold
unfolding decoding lines_at line_at sweep shape_of shape_at width_at insn_at ints_at int_pairs_at layout_of row_of pairing_of group_of one_fits two_fit three_fit all_below long_at int_at signed pc_of target_of found starts all_start second_parts flow_at flows_at tries_at
codes_are_told = record {
  comes_to_padding = is_code _ _ _ refl;
  from_the_switch = is_code _ _ _ refl;
  goes_round = is_code _ _ _ refl;
  shares_table = is_code _ _ _ refl;
  short_distance = is_code _ _ _ refl;
  no_other_table = first_fault _ _ _ refl;
  not_within = first_fault _ _ _ refl;
  no_such_string = first_fault _ _ _ refl;
  no_half_pair = first_fault _ _ _ refl;
}

pub lines_are_told : LinesAreTold
unfolding act_of naming_of catches_of covering addresses in_order pairing_of group_of row_of next_of targets_from target_of pc_of found second_parts
lines_are_told = record {
  needs_no_name = refl;
  wide_move = refl;
  beside_a_handler = refl;
  behind_a_try = refl;
  wide_sum = refl;
  sum_needs_no_name = refl;
  element_put = refl;
  put_needs_no_name = refl;
  names_its_method = refl;
  itself = refl;
  first_switch = refl;
  second_switch = refl;
  returned = refl;
  padded = refl;
  under_two = refl;
  under_five = refl;
}

are_switches : run (decoding switching bare) ≡ Ok switched
unfolding decoding lines_at line_at sweep shape_of shape_at width_at insn_at int_pairs_at layout_of row_of pairing_of group_of one_fits long_at int_at target_of pc_of found starts all_start second_parts flow_at flows_at tries_at
are_switches = refl

many_targets : 4 * length switching.units < listed_by_all switched.lines switched.lines
unfolding listed_by_all found second_parts group_of row_of
many_targets = omega arith

are_guards : run (decoding guarding bare) ≡ Ok guarded
unfolding decoding lines_at line_at sweep shape_of shape_at width_at insn_at layout_of row_of pairing_of group_of found starts flow_at flows_at tries_at try_stands handlers_start
are_guards = refl

many_handlers : 16 * length guarding.units < catches_listed guarded.tries guarded.lines
unfolding catches_listed catches_of covering addresses in_order
many_handlers = omega arith

pub crowds_are_told : CrowdsAreTold
crowds_are_told = record {
  switches = is_code switching bare switched are_switches;
  many_targets = many_targets;
  guards = is_code guarding bare guarded are_guards;
  many_handlers = many_handlers;
}
