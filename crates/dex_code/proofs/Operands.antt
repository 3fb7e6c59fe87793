-- The registers that an act names are the instruction's: what it does stands with a format that has its operands.
use Rattle.std.proofs.Common.{◌≡◌, ℕ, zero, suc, ◌+◌, ◌<◌, ◌≤◌, ◌%◌, Bool, true, false, cond, ◌&&◌, ◌||◌, List, [], ◌∷◌, ◌++◌, nat_lt, nat_le, ◌==◌, slice_index, slice_index_or, IsTrue, refl, subst, arith, inl, inr, sym, ◌∙◌}
use Rattle.std.specs.List.{list_all}
use Rattle.std.proofs.lemmas.Bool.Decides.{nat_tests}
use Rattle.vet_base.specs.declared.key_id.KeyId.{KeyId}
use Rattle.dalvik_formats.specs.declared.format.Format.{Format}
use Rattle.dalvik_formats.specs.declared.format.Format.TheVariants as formats
use Rattle.dalvik_formats.specs.declared.kind.Kind.{Kind}
use Rattle.dalvik_formats.specs.declared.kind.Kind.TheVariants as kinds
use Rattle.dalvik_formats.specs.declared.opcodes.TheConstants.{OPCODES}
use Rattle.dalvik_formats.specs.declared.pairs.Pairs.{Pairs}
use Rattle.dalvik_formats.specs.declared.pairs.Pairs.TheVariants as pairs
use Rattle.dalvik_formats.specs.Layouts.{row_of, layout_of, pairing_of, group_of}
use Rattle.vet_base.specs.Members.{In}
use Rattle.app_machine.specs.Sound.{registers_of}
use Rattle.dex_code.specs.declared.insn.Insn.{Insn}
use Rattle.dex_code.specs.declared.insn.Insn.TheVariants.{F12x, F11n, F11x, F22x, F21t, F21s, F21h, F21c, F23x, F22b, F22t, F22s, F22c, F32x, F31t, F31i, F31c, F35c, F3rc, F51l}
use Rattle.dex_code.specs.declared.names.Named.{Named}
use Rattle.dex_code.specs.declared.names.Named.TheVariants as named
use Rattle.dex_code.specs.declared.shape.Shape.{Shape}
use Rattle.dex_code.specs.declared.shape.Shape.TheVariants as shapes
use Rattle.dex_code.specs.Acts.{operands_of, range_of, arguments_of, begins_wide, wide_with, written, plain_act, class_act, field_act, static_act, act_of}
use Rattle.dex_code.specs.Insns.{said_with, said_by, shape_of, shape_at, insn_at, opcode_of, kind_of}
use Rattle.dex_code.specs.Registers.{first_more, second_more, third_more, one_fits, two_fit, three_fit, all_below, registers_fit}
use Rattle.vet_base.proofs.Members.{in_either, list_all_in}
use Rattle.std.proofs.lemmas.Bool.{and_parts, leb-true, ltb-true}
use Rattle.vet_base.proofs.Lists.{list_all-get_or}
use Rattle.vet_base.proofs.Bools.{or_skip}

-- how many operands an act of the kind names
abbrev needed : Kind → ℕ
needed kinds.Move = 2
needed kinds.MoveResult = 1
needed kinds.MoveException = 1
needed kinds.Return = 1
needed kinds.Const = 1
needed kinds.InstanceOf = 1
needed kinds.ArrayLength = 2
needed kinds.NewInstance = 1
needed kinds.NewArray = 2
needed kinds.Throw = 1
needed kinds.Compare = 3
needed kinds.ArrayGet = 2
needed kinds.ArrayPut = 2
needed kinds.InstanceGet = 2
needed kinds.InstancePut = 2
needed kinds.StaticGet = 1
needed kinds.StaticPut = 1
needed kinds.Unary = 2
needed kinds.Binary = 3
needed kinds.BinaryInPlace = 2
needed kinds.BinaryLiteral = 2
needed kind = 0

-- how many a format has
abbrev told_by : Format → ℕ
told_by formats.F12x = 2
told_by formats.F11n = 1
told_by formats.F11x = 1
told_by formats.F22x = 2
told_by formats.F21t = 1
told_by formats.F21s = 1
told_by formats.F21h = 1
told_by (formats.F21c pool) = 1
told_by formats.F23x = 3
told_by formats.F22b = 2
told_by formats.F22t = 2
told_by formats.F22s = 2
told_by (formats.F22c pool) = 2
told_by formats.F32x = 2
told_by formats.F31t = 1
told_by formats.F31i = 1
told_by formats.F31c = 1
told_by formats.F51l = 1
told_by format = 0

abbrev told : Insn → ℕ
told (F12x op a b) = 2
told (F11n op a n) = 1
told (F11x op a) = 1
told (F22x op a b) = 2
told (F21t op a t) = 1
told (F21s op a n) = 1
told (F21h op a n) = 1
told (F21c op a i) = 1
told (F23x op a b c) = 3
told (F22b op a b n) = 2
told (F22t op a b t) = 2
told (F22s op a b n) = 2
told (F22c op a b i) = 2
told (F32x op a b) = 2
told (F31t op a t) = 1
told (F31i op a n) = 1
told (F31c op a i) = 1
told (F51l op a n) = 1
told insn = 0

abbrev row_tells : Format × Pairs × Kind → Bool
row_tells row = nat_le (needed row.2) (told_by row.0)

table_tells : IsTrue (list_all row_tells OPCODES)
table_tells = refl

told_at : (op : ℕ) (format : Format) → layout_of op ≡ format → needed (group_of op) ≤ told_by format
unfolding layout_of group_of row_of
told_at op format is =
    let row : Format × Pairs × Kind = slice_index_or OPCODES op (formats.Unused, pairs.NoPair, kinds.NoInstruction) in
    let h : IsTrue (row_tells row) = list_all-get_or row_tells OPCODES op (formats.Unused, pairs.NoPair, kinds.NoInstruction) table_tells refl in
    subst (λ (f : Format). needed row.2 ≤ told_by f) is (leb-true (needed row.2) (told_by row.0) h)

format_tells : (u v : ℕ) (format : Format) (units : List ℕ) (pc : ℕ) → layout_of (u % 256) ≡ format → needed (kind_of (said_with u v format units pc)) ≤ told (said_with u v format units pc)
format_tells u v formats.Unused units pc e = told_at (u % 256) formats.Unused e
format_tells u v format units pc e = told_at (u % 256) format e

-- the shape is the one that the unit has
abbrev Shows : ℕ → Shape → Type 0
Shows u (shapes.Instruction format) = layout_of (u % 256) ≡ format
Shows u shape = Unit {0}

unit_shows : (u : ℕ) → Shows u (shape_of u)
unfolding shape_of
unit_shows u = by_tests (u == 256) (u == 512) (u == 768)
  where
    by_tests : (a b c : Bool) → Shows u (cond a shapes.Packed (cond b shapes.Sparse (cond c shapes.Filled (shapes.Instruction (layout_of (u % 256))))))
    by_tests true b c = tt
    by_tests false true c = tt
    by_tests false false true = tt
    by_tests false false false = refl

shape_tells : (shape : Shape) (units : List ℕ) (pc : ℕ) → Shows (slice_index units pc) shape → needed (kind_of (said_by shape units pc)) ≤ told (said_by shape units pc)
shape_tells (shapes.Instruction format) units pc e = format_tells (slice_index units pc) (slice_index units (pc + 1)) format units pc e
shape_tells shapes.Packed units pc e = omega arith
shape_tells shapes.Sparse units pc e = omega arith
shape_tells shapes.Filled units pc e = omega arith

insn_tells : (units : List ℕ) (pc : ℕ) → needed (kind_of (insn_at units pc)) ≤ told (insn_at units pc)
unfolding insn_at shape_at
insn_tells units pc = shape_tells (shape_of (slice_index units pc)) units pc (unit_shows (slice_index units pc))

-- the first n operands are below the limit, and so is the other register of a first one that is wide
record Fits (limit n : ℕ) (wide : Bool) (r : ℕ × ℕ × ℕ) : Type 0 where
  first : 1 ≤ n → r.0 < limit
  pair : 1 ≤ n → wide ≡ true → r.0 + 1 < limit
  second : 2 ≤ n → r.1 < limit
  third : 3 ≤ n → r.2 < limit

fits_none : (limit : ℕ) (wide : Bool) (r : ℕ × ℕ × ℕ) → Fits limit 0 wide r
fits_none limit wide r = record { first = λ h. absurd (omega arith); pair = λ h e. absurd (omega arith); second = λ h. absurd (omega arith); third = λ h. absurd (omega arith) }

wide_more : (p : Pairs) → begins_wide p ≡ true → first_more p ≡ 1
wide_more pairs.First e = refl
wide_more pairs.FirstTwo e = refl
wide_more pairs.All e = refl
wide_more pair e = absurd cc

with_more : (a more limit : ℕ) → a + more < limit → a < limit
with_more a more limit h = omega (arith, h)

with_one : (a more limit : ℕ) → a + more < limit → more ≡ 1 → a + 1 < limit
with_one a more limit h e = omega (arith, h, e)

module _ (limit op : ℕ) where
  abbrev wide : Bool
  wide = begins_wide (pairing_of op)

  fits_first : (n a b c : ℕ) → a + first_more (pairing_of op) < limit → (2 ≤ n → b < limit) → (3 ≤ n → c < limit) → Fits limit n wide (a, b, c)
  fits_first n a b c h second third = record {
    first = λ k. with_more a (first_more (pairing_of op)) limit h;
    pair = λ k e. with_one a (first_more (pairing_of op)) limit h (wide_more (pairing_of op) e);
    second = second;
    third = third;
  }

  fits_one : (a : ℕ) → IsTrue (one_fits limit op a) → Fits limit 1 wide (a, 0, 0)
  unfolding one_fits
  fits_one a h = fits_first 1 a 0 0 (ltb-true (a + first_more (pairing_of op)) limit h) (λ k. absurd (omega arith)) (λ k. absurd (omega arith))

  fits_two : (a b : ℕ) → IsTrue (two_fit limit op a b) → Fits limit 2 wide (a, b, 0)
  unfolding two_fit
  fits_two a b h =
      let both = and_parts (nat_lt (a + first_more (pairing_of op)) limit) (nat_lt (b + second_more (pairing_of op)) limit) h in
      let second : b < limit = with_more b (second_more (pairing_of op)) limit (ltb-true (b + second_more (pairing_of op)) limit both.1) in
      fits_first 2 a b 0 (ltb-true (a + first_more (pairing_of op)) limit both.0) (λ k. second) (λ k. absurd (omega arith))

  fits_three : (a b c : ℕ) → IsTrue (three_fit limit op a b c) → Fits limit 3 wide (a, b, c)
  unfolding three_fit
  fits_three a b c h =
      let all = and_parts (nat_lt (a + first_more (pairing_of op)) limit && nat_lt (b + second_more (pairing_of op)) limit) (nat_lt (c + third_more (pairing_of op)) limit) h in
      let both = and_parts (nat_lt (a + first_more (pairing_of op)) limit) (nat_lt (b + second_more (pairing_of op)) limit) all.0 in
      let second : b < limit = with_more b (second_more (pairing_of op)) limit (ltb-true (b + second_more (pairing_of op)) limit both.1) in
      let third : c < limit = with_more c (third_more (pairing_of op)) limit (ltb-true (c + third_more (pairing_of op)) limit all.1) in
      fits_first 3 a b c (ltb-true (a + first_more (pairing_of op)) limit both.0) (λ k. second) (λ k. third)

operands_fit : (limit : ℕ) (insn : Insn) → IsTrue (registers_fit limit insn) → Fits limit (told insn) (wide_with (opcode_of insn)) (operands_of insn)
operands_fit limit (F12x op a b) h = fits_two limit op a b h
operands_fit limit (F11n op a n) h = fits_one limit op a h
operands_fit limit (F11x op a) h = fits_one limit op a h
operands_fit limit (F22x op a b) h = fits_two limit op a b h
operands_fit limit (F21t op a t) h = fits_one limit op a h
operands_fit limit (F21s op a n) h = fits_one limit op a h
operands_fit limit (F21h op a n) h = fits_one limit op a h
operands_fit limit (F21c op a i) h = fits_one limit op a h
operands_fit limit (F23x op a b c) h = fits_three limit op a b c h
operands_fit limit (F22b op a b n) h = fits_two limit op a b h
operands_fit limit (F22t op a b t) h = fits_two limit op a b h
operands_fit limit (F22s op a b n) h = fits_two limit op a b h
operands_fit limit (F22c op a b i) h = fits_two limit op a b h
operands_fit limit (F32x op a b) h = fits_two limit op a b h
operands_fit limit (F31t op a t) h = fits_one limit op a h
operands_fit limit (F31i op a n) h = fits_one limit op a h
operands_fit limit (F31c op a i) h = fits_one limit op a h
operands_fit limit (F51l op a n) h = fits_one limit op a h
operands_fit limit insn h = fits_none limit (wide_with (opcode_of insn)) (0, 0, 0)

range_below : (first n x limit : ℕ) → first + n ≤ limit → In x (range_of first n) → x < limit
unfolding range_of
range_below first zero x limit h k = absurd k
range_below first (suc n) x limit h (inl e) = omega (arith, e, h)
range_below first (suc n) x limit h (inr k) = let more : first + 1 + n ≤ limit = omega (arith, h) in range_below (first + 1) n x limit more k

some_arguments : (n : ℕ) → (suc n == 0) ≡ false
some_arguments n = grind (arith, nat_tests)

range_fits : (first n x limit : ℕ) → IsTrue ((n == 0) || nat_le (first + n) limit) → In x (range_of first n) → x < limit
unfolding range_of
range_fits first zero x limit h k = absurd k
range_fits first (suc n) x limit h k =
    range_below first (suc n) x limit (leb-true (first + suc n) limit ((sym (or_skip (suc n == 0) (nat_le (first + suc n) limit) (some_arguments n)) ∙ h))) k

arguments_fit : (limit : ℕ) (insn : Insn) (x : ℕ) → IsTrue (registers_fit limit insn) → In x (arguments_of insn) → x < limit
unfolding all_below
arguments_fit limit (F35c op i registers) x h k = ltb-true x limit (list_all_in (λ (r : ℕ). nat_lt r limit) registers x h k)
arguments_fit limit (F3rc op i first count) x h k = range_fits first count x limit h k
arguments_fit limit insn x h k = absurd k

module _ (limit n : ℕ) (wide : Bool) (r : ℕ × ℕ × ℕ) (fits : Fits limit n wide r) (x : ℕ) where
  same : (y : ℕ) → x ≡ y → y < limit → x < limit
  same y e h = omega (arith, e, h)

  alone : (y : ℕ) → y < limit → In x (y ∷ []) → x < limit
  alone y h (inl e) = same y e h
  alone y h (inr k) = absurd k

  two : (y z : ℕ) → y < limit → z < limit → In x (y ∷ z ∷ []) → x < limit
  two y z h g (inl e) = same y e h
  two y z h g (inr k) = alone z g k

  in_written : 1 ≤ n → In x (written wide r.0) → x < limit
  in_written some k = by_width wide (fits.pair some) k
    where
      by_width : (b : Bool) → (b ≡ true → r.0 + 1 < limit) → In x (written b r.0) → x < limit
      by_width true other k = two r.0 (r.0 + 1) (fits.first some) (other refl) k
      by_width false other k = alone r.0 (fits.first some) k

  joined : (sources : List ℕ) → 1 ≤ n → (In x sources → x < limit) → In x (written wide r.0 ++ sources) → x < limit
  joined sources some others k = elim (in_either x (written wide r.0) sources k) [ inl j ↦ in_written some j | inr j ↦ others j ]

  one_of : 2 ≤ n → 1 ≤ n
  one_of h = omega (arith, h)

  two_of : 3 ≤ n → 2 ≤ n
  two_of h = omega (arith, h)

  plain_below : (kind : Kind) → needed kind ≤ n → In x (registers_of (plain_act kind wide r)) → x < limit
  plain_below kinds.Move h (inl e) = same r.1 e (fits.second h)
  plain_below kinds.Move h (inr k) = in_written (one_of h) k
  plain_below kinds.MoveResult h k = in_written h k
  plain_below kinds.MoveException h k = alone r.0 (fits.first h) k
  plain_below kinds.Return h k = alone r.0 (fits.first h) k
  plain_below kinds.Const h k = in_written h k
  plain_below kinds.InstanceOf h k = alone r.0 (fits.first h) k
  plain_below kinds.ArrayLength h k = two r.0 r.1 (fits.first (one_of h)) (fits.second h) k
  plain_below kinds.Throw h k = alone r.0 (fits.first h) k
  plain_below kinds.Compare h (inl e) = same r.0 e (fits.first (one_of (two_of h)))
  plain_below kinds.Compare h (inr k) = two r.1 r.2 (fits.second (two_of h)) (fits.third h) k
  plain_below kinds.ArrayGet h (inl e) = same r.1 e (fits.second h)
  plain_below kinds.ArrayGet h (inr k) = in_written (one_of h) k
  plain_below kinds.ArrayPut h k = two r.1 r.0 (fits.second h) (fits.first (one_of h)) k
  plain_below kinds.Unary h k = joined (r.1 ∷ []) (one_of h) (alone r.1 (fits.second h)) k
  plain_below kinds.Binary h k = joined (r.1 ∷ r.2 ∷ []) (one_of (two_of h)) (two r.1 r.2 (fits.second (two_of h)) (fits.third h)) k
  plain_below kinds.BinaryInPlace h k = joined (r.0 ∷ r.1 ∷ []) (one_of h) (two r.0 r.1 (fits.first (one_of h)) (fits.second h)) k
  plain_below kinds.BinaryLiteral h k = two r.0 r.1 (fits.first (one_of h)) (fits.second h) k
  plain_below kind h k = absurd k

  class_below : (kind : Kind) (elements class : List ℕ) → needed kind ≤ n → (In x elements → x < limit) → In x (registers_of (class_act kind r elements class)) → x < limit
  class_below kinds.NewInstance elements class h all k = alone r.0 (fits.first h) k
  class_below kinds.NewArray elements class h all k = two r.0 r.1 (fits.first (one_of h)) (fits.second h) k
  class_below kinds.FilledNewArray elements class h all k = all k
  class_below kind elements class h all k = absurd k

  field_below : (kind : Kind) (key : KeyId) → needed kind ≤ n → In x (registers_of (field_act kind wide r key)) → x < limit
  field_below kinds.InstanceGet key h (inl e) = same r.1 e (fits.second h)
  field_below kinds.InstanceGet key h (inr k) = in_written (one_of h) k
  field_below kinds.InstancePut key h k = two r.1 r.0 (fits.second h) (fits.first (one_of h)) k
  field_below kind key h k = absurd k

  static_below : (kind : Kind) (g : ℕ) → needed kind ≤ n → In x (registers_of (static_act kind wide r.0 g)) → x < limit
  static_below kinds.StaticGet g h k = in_written h k
  static_below kinds.StaticPut g h k = alone r.0 (fits.first h) k
  static_below kind g h k = absurd k

act_below : (limit : ℕ) (insn : Insn) (name : Named) (x : ℕ) → needed (kind_of insn) ≤ told insn → IsTrue (registers_fit limit insn) → In x (registers_of (act_of insn name)) → x < limit
unfolding act_of
act_below limit insn named.Nothing x tells h k = plain_below limit (told insn) (wide_with (opcode_of insn)) (operands_of insn) (operands_fit limit insn h) x (kind_of insn) tells k
act_below limit insn (named.Class class) x tells h k = class_below limit (told insn) (wide_with (opcode_of insn)) (operands_of insn) (operands_fit limit insn h) x (kind_of insn) (arguments_of insn) class tells (arguments_fit limit insn x h) k
act_below limit insn (named.Method at) x tells h k = arguments_fit limit insn x h k
act_below limit insn (named.Key key) x tells h k = field_below limit (told insn) (wide_with (opcode_of insn)) (operands_of insn) (operands_fit limit insn h) x (kind_of insn) key tells k
act_below limit insn (named.Static g) x tells h k = static_below limit (told insn) (wide_with (opcode_of insn)) (operands_of insn) (operands_fit limit insn h) x (kind_of insn) g tells k

-- the registers that the act of an instruction names are below the limit that the instruction's own are below
pub registers_below : (units : List ℕ) (pc limit : ℕ) (name : Named) (x : ℕ) → IsTrue (registers_fit limit (insn_at units pc)) → In x (registers_of (act_of (insn_at units pc) name)) → x < limit
registers_below units pc limit name x h k = act_below limit (insn_at units pc) name x (insn_tells units pc) h k
