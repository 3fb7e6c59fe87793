-- The lines of a listing are read as they were written, one behind the other, and are all that is read.
use Rattle.std.proofs.Common.{◌≡◌, ℕ, zero, suc, ◌+◌, ◌<◌, ◌≤◌, Bool, true, false, cond, List, [], ◌∷◌, ◌++◌, length, drop, get_or, Option, Some, None, refl, sym, ap, subst, ◌∙◌, inl, inr, arith}
use Rattle.std.specs.Prelude.{slice_index, nat_lt, ◌&&◌, IsTrue}
use Rattle.std.specs.List.{AllByRecursion, list_all, sum_by}
use Rattle.std.proofs.lemmas.Bool.{and_parts, ltb-true}
use Rattle.std.proofs.lemmas.List.{length-drop}
use Rattle.std.proofs.lemmas.List.Sums.{sum_by-cons}
use Rattle.vet_base.specs.Members.{In}
use Rattle.dalvik_formats.specs.Layouts.{layout_of}
use Rattle.dex_tables.specs.declared.dex.ClassDef.{ClassDef}
use Rattle.dex_tables.specs.declared.dex.RawCode.{RawCode}
use Rattle.dex_maker.specs.declared.fault.IdTable.{IdTable}
use Rattle.dex_writer.specs.declared.tables.Tables.{Tables}
use Rattle.dex_maker.specs.declared.listing.ListedClass.{ListedClass}
use Rattle.dex_maker.specs.declared.listing.ListedMethod.{ListedMethod}
use Rattle.dex_maker.specs.declared.listing.ListedCode.{ListedCode}
use Rattle.dex_maker.specs.declared.listing.ListedLine.{ListedLine}
use Rattle.dex_maker.specs.declared.listing.ListedLine.TheVariants.{Plain, Packed, Sparse, Filled}
use Rattle.dex_maker.specs.Classes.{class_defs_from, code_width, method_width, class_width, unit_count}
use Rattle.dex_maker.specs.Codes.{index_for, line_units, units_from, raw_code}
use Rattle.dex_writer.specs.File.{AreShort}
use Rattle.dex_maker.specs.Fits.{registers_fit, literal_fits, operand_fits, reach_of, target_fits, is_line, pair_stands, line_fits, misfit_from, code_misfit, at_line, misfit_in, first_of_two, first_misfit}
use Rattle.dex_maker.specs.Lines.{width_of, width_sum, starts_from}
use Rattle.dex_maker.specs.Made.{long_table, no_file, fault_of, TablesAreShort}
use Rattle.dex_maker.specs.Naming.{tables_of}
use Rattle.dex_code.specs.declared.decoder.Counts.{Counts}
use Rattle.dex_code.specs.declared.insn.Insn.{Insn}
use Rattle.dex_code.specs.Insns.{width_at, insn_at}
use Rattle.dex_code.specs.Lines.{Line, StandFrom}
use Rattle.line_round_trip.specs.Decoding.{HasItsTypes, index_in, AllStand, lines_from, AreDecodedBack, LinesAreDecodedBack}
use Rattle.line_round_trip.specs.Said.{insn_of}
use Rattle.line_round_trip.proofs.Payloads.{packed_passes, sparse_passes, filled_passes}
use Rattle.line_round_trip.proofs.Plain.{plain_passes}
use Rattle.line_round_trip.proofs.Rows.{operand_small}
use Rattle.line_round_trip.proofs.Units.{Passes, one_behind}

-- where there is no misfit, the line fits and so do those behind it
fits_and_rest : (b : Bool) (o : Option ℕ) (i : ℕ) → cond b o (Some i) ≡ None → (b ≡ true) × (o ≡ None)
fits_and_rest true o i e = (refl, e)
fits_and_rest false o i e = absurd cc

module _ (t : Tables) (classes : List ClassDef) (short : AreShort t classes) (starts : List ℕ) (few : (k : ℕ) → slice_index starts k ≤ 8388608) (count : ℕ) (units : List ℕ) where
  line_passes : (at : ℕ) (line : ListedLine) (rest : List ℕ) → HasItsTypes line → IsTrue (line_fits count starts at line) → width_of line ≤ 8388608 → drop at units ≡ line_units t starts at line ++ rest
      → Passes units at (width_of line) (insn_of (index_in t line) starts line) rest
  unfolding line_fits
  line_passes at (Plain opcode registers literal operand target) rest types fits small here =
      let format = layout_of opcode in
      let a = and_parts (registers_fit format registers && literal_fits format literal && operand_fits format operand) (target_fits (reach_of format) count starts at target) fits in
      let b = and_parts (registers_fit format registers && literal_fits format literal) (operand_fits format operand) a.0 in
      let c = and_parts (registers_fit format registers) (literal_fits format literal) b.0 in
      plain_passes units rest starts registers at opcode (index_for t operand) count literal target
      (record { small = λ k. omega (arith, few k); opcode = types.0; registers = types.1; literal = types.2; index_fits = operand_small t classes operand short })
      format refl c.0 c.1 a.1 here
  line_passes at (Packed switch first_key targets) rest types fits small here =
      let a = and_parts (is_line count switch && nat_lt (length targets) 65536) (list_all (is_line count) targets) fits in
      let b = and_parts (is_line count switch) (nat_lt (length targets) 65536) a.0 in
      packed_passes starts few switch units at first_key targets rest types (ltb-true (length targets) 65536 b.1) here
  line_passes at (Sparse switch pairs) rest types fits small here =
      let a = and_parts (is_line count switch && nat_lt (length pairs) 65536) (list_all (pair_stands count) pairs) fits in
      let b = and_parts (is_line count switch) (nat_lt (length pairs) 65536) a.0 in
      sparse_passes starts few switch units at pairs rest types (ltb-true (length pairs) 65536 b.1) here
  line_passes at (Filled width bytes) rest types fits small here = filled_passes units at width bytes rest (omega (arith, small)) fits here

  lines_pass : (at i : ℕ) (lines : List ListedLine) → AllByRecursion HasItsTypes lines → misfit_from count starts at i lines ≡ None → width_sum lines ≤ 8388608 → at ≤ length units → drop at units ≡ units_from t starts at lines
      → AllStand t starts units at lines
  unfolding width_sum
  lines_pass at i [] types none small le here = omega (arith, le, length-drop at units, ap length here)
  lines_pass at i (line ∷ lines) types none small le here =
      let parts = fits_and_rest (line_fits count starts at line) (misfit_from count starts (at + width_of line) (i + 1) lines) i none in
      let sums : width_of line + sum_by width_of lines ≤ 8388608 = omega (arith, small, sum_by-cons width_of line lines) in
      let passes = line_passes at line (units_from t starts (at + width_of line) lines) types.0 parts.0 (omega (arith, sums)) here in
      (passes.stands, lines_pass (at + width_of line) (i + 1) lines types.1 parts.1 (omega (arith, sums)) passes.stands.whole passes.next)

-- where lines begin
starts_within : (at : ℕ) (lines : List ListedLine) (k : ℕ) → get_or (starts_from at lines) k 0 ≤ at + width_sum lines
unfolding width_sum
starts_within at [] zero = omega arith
starts_within at [] (suc k) = omega arith
starts_within at (line ∷ lines) zero = omega arith
starts_within at (line ∷ lines) (suc k) = omega (arith, starts_within (at + width_of line) lines k, sum_by-cons width_of line lines)

-- whatever lines stand end to end in these units are those
module _ (code : RawCode) (counts : Counts) (t : Tables) (starts : List ℕ) where
  same_line : (d : Line) (at : ℕ) (insn : Insn) → d.0 ≡ at → d.1 ≡ insn → d ≡ (at, insn)
  same_line d at insn place says = λ k. (place k, says k)

  lines_alone : (at : ℕ) (lines : List Line) (listed : List ListedLine) → StandFrom code counts at lines → AllStand t starts code.units at listed → lines ≡ lines_from t starts at listed
  lines_alone at [] [] end stand = refl
  lines_alone at [] (l ∷ ls) end stand = absurd (omega (arith, end, stand.0.whole, stand.0.some))
  lines_alone at (d ∷ ds) [] stand end =
      let wide = one_behind code.units d.0 (omega (arith, stand.0, end)) in
      absurd (omega (arith, stand.0, stand.1.whole, wide, end))
  lines_alone at (d ∷ ds) (l ∷ ls) those these =
      let insn = insn_of (index_in t l) starts l in
      let says : d.1 ≡ insn = those.1.says ∙ ap (insn_at code.units) those.0 ∙ these.0.says in
      let head : d ≡ (at, insn) = same_line d at insn those.0 says in
      let rest : StandFrom code counts (at + width_of l) ds = subst (λ (w : ℕ). StandFrom code counts (at + w) ds) these.0.wide those.2 in
      let tail : ds ≡ lines_from t starts (at + width_of l) ls = lines_alone (at + width_of l) ds ls rest these.1 in
      ap (λ (x : Line). x ∷ ds) head ∙ ap (λ (xs : List Line). (at, insn) ∷ xs) tail

pub code_decoded_back : (t : Tables) (classes : List ClassDef) (code : ListedCode) → AreShort t classes → AllByRecursion HasItsTypes code.lines → code_misfit (Some code) ≡ None → width_sum code.lines ≤ 8388608 → AreDecodedBack t code
unfolding raw_code
code_decoded_back t classes code short types none small =
    let starts = starts_from 0 code.lines in
    let units = units_from t starts 0 code.lines in
    let few = λ (k : ℕ). let le : slice_index starts k ≤ 8388608 = omega (arith, starts_within 0 code.lines k, small) in le in
    let stand = lines_pass t classes short starts few (length code.lines) units 0 0 code.lines types none small (omega arith) refl in
    record { stand = stand; alone = λ counts decoded is. lines_alone (raw_code t code) counts t starts 0 decoded.lines code.lines is.lines stand }

-- each method of a listing without a misfit
line_none : (n : ℕ) (o : Option ℕ) (later : Option (ℕ × ℕ)) → at_line n o later ≡ None → (o ≡ None) × (later ≡ None)
line_none n None later e = (refl, e)
line_none n (Some line) later e = absurd cc

first_none : (o later : Option (ℕ × ℕ)) → first_of_two o later ≡ None → (o ≡ None) × (later ≡ None)
first_none None later e = (refl, e)
first_none (Some x) later e = absurd cc

method_fits : (n : ℕ) (ms : List ListedMethod) (m : ListedMethod) → misfit_in n ms ≡ None → In m ms → code_misfit m.code ≡ None
method_fits n [] m none is = absurd is
method_fits n (x ∷ ms) m none (inl e) = ap (λ (y : ListedMethod). code_misfit y.code) e ∙ (line_none n (code_misfit x.code) (misfit_in (n + 1) ms) none).0
method_fits n (x ∷ ms) m none (inr is) = method_fits (n + 1) ms m (line_none n (code_misfit x.code) (misfit_in (n + 1) ms) none).1 is

class_fits : (n : ℕ) (cs : List ListedClass) (c : ListedClass) (m : ListedMethod) → first_misfit n cs ≡ None → In c cs → In m c.methods → code_misfit m.code ≡ None
class_fits n [] c m none is within = absurd is
class_fits n (x ∷ cs) c m none (inl e) within =
    method_fits n x.methods m (first_none (misfit_in n x.methods) (first_misfit (n + length x.methods) cs) none).0 (subst (λ (y : ListedClass). In m y.methods) e within)
class_fits n (x ∷ cs) c m none (inr is) within = class_fits (n + length x.methods) cs c m (first_none (misfit_in n x.methods) (first_misfit (n + length x.methods) cs) none).1 is within

within_sum : {X : Type 0} (f : X → ℕ) (x : X) (xs : List X) → In x xs → f x ≤ sum_by f xs
within_sum f x [] is = absurd is
within_sum f x (y ∷ xs) (inl e) = omega (arith, ap f e, sum_by-cons f y xs)
within_sum f x (y ∷ xs) (inr is) = omega (arith, within_sum f x xs is, sum_by-cons f y xs)

no_misfit : (table : Option IdTable) (misfit : Option (ℕ × ℕ)) → no_file table misfit ≡ None → misfit ≡ None
no_misfit None None e = refl
no_misfit None (Some line) e = absurd cc
no_misfit (Some table) misfit e = absurd cc

pub lines_back : TablesAreShort → LinesAreDecodedBack
unfolding fault_of unit_count
lines_back short listing makeable none class in_class m in_methods code is types =
    let t = tables_of listing in
    let misfit = no_misfit (long_table t) (first_misfit 0 listing.classes) none in
    let fits : code_misfit (Some code) ≡ None = ap code_misfit (sym is) ∙ class_fits 0 listing.classes class m misfit in_class in_methods in
    let of_method : width_sum code.lines ≡ method_width m = ap code_width (sym is) in
    let small : width_sum code.lines ≤ 8388608 = omega (arith, of_method, within_sum method_width m class.methods in_methods, within_sum class_width class listing.classes in_class, makeable.units) in
    code_decoded_back t (class_defs_from t 0 0 listing.classes) code (short listing makeable none) types fits small
