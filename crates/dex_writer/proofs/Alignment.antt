-- Tries stand at a multiple of four bytes of their code item.
use Rattle.std.proofs.Common.{◌≡◌, ℕ, zero, suc, ◌+◌, ◌*◌, ◌/◌, ◌%◌, ◌<◌, false, cond, eqb, List, [], ◌∷◌, ◌++◌, length, refl, append_assoc, length-append, arith}
use Rattle.std.specs.List.{flat_map}
use Rattle.std.proofs.lemmas.Bool.Decides.{nat_tests}
use Rattle.dex_tables.specs.declared.dex.RawCode.{RawCode}
use Rattle.dex_tables.specs.declared.dex.RawTry.{RawTry}
use Rattle.dex_writer.specs.Bytes.{u2_bytes}
use Rattle.dex_writer.specs.CodeItem.{before_tries, try_items, handlers_bytes, tries_bytes, code_head, code_item}
use Rattle.dex_writer.specs.Law.{TriesStand}

not_none : (n : ℕ) → 0 < n → eqb n 0 ≡ false
not_none n some = grind (arith, nat_tests)

some_tries : (units : ℕ) (tries : List RawTry) → 0 < length tries → tries_bytes units tries ≡ before_tries units ++ try_items tries ++ handlers_bytes tries
unfolding tries_bytes
some_tries units [] some = absurd (omega arith)
some_tries units (t ∷ ts) some = rw (not_none (suc (length ts)) some) refl

head_length : (code : RawCode) → length (code_head code) ≡ 16
unfolding code_head
head_length code = refl

units_length : (xs : List ℕ) → length (flat_map u2_bytes xs) ≡ 2 * length xs
units_length [] = omega arith
units_length (x ∷ xs) = let rest = units_length xs in omega arith

-- two bytes behind an odd number of units
fill : ℕ → ℕ
fill r = length (cond (eqb r 1) (u2_bytes 0) [])

filled : (units q r : ℕ) → r < 2 → units ≡ 2 * q + r → (16 + 2 * units + fill r) % 4 ≡ 0
unfolding fill
filled units q zero small is = let e : fill zero ≡ 0 = refl in omega (arith, is, e)
filled units q (suc zero) small is = let e : fill (suc zero) ≡ 2 = refl in omega (arith, is, e)
filled units q (suc (suc r)) small is = absurd (omega arith)

pub tries_stand : (code : RawCode) → 0 < length code.tries → TriesStand code
unfolding code_item fill
tries_stand code some =
    let n = length code.units in
    let head = code_head code in
    let units = flat_map u2_bytes code.units in
    let fill_bytes = before_tries n in
    let two : length fill_bytes ≡ fill (n % 2) = refl in
    let size : length (head ++ units ++ fill_bytes) ≡ 16 + 2 * n + fill (n % 2) = omega (arith, two, head_length code, units_length code.units, length-append (head ++ units) fill_bytes, length-append head units) in
    record {
      before = head ++ units ++ fill_bytes;
      item = rw (some_tries n code.tries some) (simp append_assoc refl);
      aligned = rw size (filled n (n / 2) (n % 2) (omega arith) (omega arith));
    }
