-- A log is begun.
use Rattle.std.proofs.Common.{◌≡◌, ◌≤◌, ℕ, List, [], ◌∷◌, ◌++◌, length, take, drop, sym, ◌∙◌, ap, arith, Option, Result, Ok, Err}
use Rattle.std.specs.Prelude.{IfSome, OnOk}
use Rattle.std.proofs.lemmas.List.{take_all, drop_all, append-nil}
use Rattle.disks.specs.declared.disk.DiskFault.{DiskFault}
use Rattle.disks.specs.Disks.{Moment, Told, IsTorn, Reaches, solid, wrote, over}
use Rattle.gated_log.specs.Format.{magic}
use Rattle.gated_log.specs.Calls.{WriteStays}
use Rattle.gated_log.specs.Ends.{Runs, IsShort, IsEmptyLog, LeavesShort}
use Rattle.gated_log.proofs.Going as going
use Rattle.gated_log.proofs.Pieces.{both_told, if_told}

abbrev pub empty : List ℕ
empty = magic ++ 0 ∷ []

abbrev Left : Told → List ℕ → Type 0
Left = λ t left. length left ≤ 9

-- at most nine bytes, whatever a crash does
record IsLittle (t : Told) (m : Moment) : Type 0 where
  most : m.most ≤ 9
  long : length m.bytes ≤ 9

abbrev IsBegun : Told → Moment → Type 0
IsBegun t m = m ≡ solid empty

safe_little : going.Safe Left IsLittle
safe_little t m little left may = omega (arith, may.no_longer, little.most)

safe_begun : going.Safe Left IsBegun
safe_begun t m is left may = omega (arith, may.no_longer, ap (λ (z : Moment). z.most) is)

short_little : (t : Told) → IsShort t → IsLittle t t.now
short_little t short = record { most = omega (arith, short.1, ap (λ (z : Moment). z.most) short.0); long = short.1 }

little_torn : (t : Told) (m : Moment) → IsLittle t m → (bs : List ℕ) → IsTorn m.bytes 0 9 bs → IsLittle t (wrote m 0 9 bs)
little_torn t m little bs torn =
    let most = little.most in
    let long = little.long in
    record { most = omega arith; long = omega (arith, torn.no_longer) }

little_begun : (t : Told) (m : Moment) → IsLittle t m → IsBegun t (solid (over m.bytes 0 empty))
little_begun t m little =
    ap solid (ap (λ (l : List ℕ). empty ++ l) (drop_all 9 m.bytes little.long) ∙ append-nil empty)

abbrev IsNine : Told → Moment → Type 0
IsNine t m = length m.bytes ≤ 9

little_there : (t : Told) (m : Moment) → IsLittle t m → 0 ≤ length m.bytes
little_there t m little = omega arith

little_nine : (t : Told) (m : Moment) → IsLittle t m → IsNine t m
little_nine t m little = little.long

begun_nine : (t : Told) (m : Moment) → IsBegun t m → IsNine t m
begun_nine t m is = omega (arith, ap (λ (z : Moment). length z.bytes) is)

module _ (o b : Option Told) (short : IfSome o IsShort) where
  little_run : Runs Left IsLittle o o
  little_run = going.begins Left IsLittle o (if_told IsShort (λ t. IsLittle t t.now) o short_little short) safe_little

  pub short_reach : IfSome o (Reaches 0)
  short_reach = going.reaches Left IsLittle o o 0 little_there little_run

  pub kept_moments : LeavesShort o o
  kept_moments = going.so_now Left IsLittle IsNine o o little_nine little_run

  begun_run : (x : Unit {0}) → WriteStays o b 0 empty (Ok x) → Runs Left IsBegun o b
  begun_run x w = going.write_stays Left IsLittle IsLittle 0 empty little_there little_torn safe_little IsBegun o o b x little_run little_begun safe_begun w

  pub begun_moments : (r : Result (Unit {0}) DiskFault) → WriteStays o b 0 empty r → LeavesShort o b
  begun_moments (Ok x) w = going.so_now Left IsBegun IsNine o b begun_nine (begun_run x w)
  begun_moments (Err fault) w =
      going.so_now Left IsLittle IsNine o b little_nine
      (going.write_fails Left IsLittle IsLittle 0 empty little_there little_torn safe_little o o b fault little_run (λ t m little. little) w)

  pub is_begun : (r : Result (Unit {0}) DiskFault) → WriteStays o b 0 empty r → OnOk r (IfSome b IsEmptyLog)
  is_begun (Ok x) w = going.at_last Left IsBegun IsEmptyLog o b (λ t u is. is) (begun_run x w)
  is_begun (Err fault) w = tt

  pub found_begun : (found : List ℕ) → found ≡ empty → IfSome o (λ t. found ≡ take 10 (drop 0 t.now.bytes)) → IfSome o IsEmptyLog
  found_begun found is read = both_told IsShort (λ t. found ≡ take 10 (drop 0 t.now.bytes)) IsEmptyLog o one short read
    where
      one : (t : Told) → IsShort t → found ≡ take 10 (drop 0 t.now.bytes) → IsEmptyLog t
      one t here at =
          let whole : t.now.bytes ≡ empty = sym (take_all 10 t.now.bytes (omega (arith, here.1))) ∙ sym at ∙ is in
          here.0 ∙ ap solid whole
