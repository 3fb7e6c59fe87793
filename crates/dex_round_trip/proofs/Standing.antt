-- What stands in a file is read there.
use Rattle.std.proofs.Common.{◌≡◌, ℕ, zero, suc, ◌+◌, ◌*◌, ◌/◌, ◌%◌, ◌<◌, ◌≤◌, true, false, ltb, leb, List, ◌++◌, length, get_or, drop, Some, inl, inr, refl, sym, ap, ◌∙◌, append_assoc, length-append, arith}
use Rattle.std.proofs.lemmas.Bool.{lt-ltb, le-leb, le-ltb, ltb-false, cases_Bool}
use Rattle.std.proofs.lemmas.List.{get_or-append-add, drop_at}
use Rattle.vet_base.specs.Numbers.{u2, u4, uleb, groups}
use Rattle.dex_writer.specs.Bytes.{u2_bytes, u4_bytes, uleb_bytes, groups_of}

-- a piece of a file that begins at an offset
pub record Stands (file : List ℕ) (at : ℕ) (piece : List ℕ) : Type 0 where
  pub before : List ℕ
  pub after : List ℕ
  pub parts : file ≡ before ++ (piece ++ after)
  pub place : length before ≡ at

pub stands_front : (file : List ℕ) (at : ℕ) (a b : List ℕ) → Stands file at (a ++ b) → Stands file at a
stands_front file at a b s = record { before = s.before; after = b ++ s.after; parts = s.parts ∙ ap (λ (x : List ℕ). s.before ++ x) (append_assoc a b s.after); place = s.place }

pub stands_back : (file : List ℕ) (at : ℕ) (a b : List ℕ) → Stands file at (a ++ b) → Stands file (at + length a) b
stands_back file at a b s = record {
  before = s.before ++ a;
  after = s.after;
  parts = s.parts ∙ ap (λ (x : List ℕ). s.before ++ x) (append_assoc a b s.after) ∙ sym (append_assoc s.before a (b ++ s.after));
  place = length-append s.before a ∙ ap (λ (n : ℕ). n + length a) s.place;
}

pub stands_within : (file : List ℕ) (at : ℕ) (piece : List ℕ) → Stands file at piece → at + length piece ≤ length file
stands_within file at piece s = omega (arith, ap length s.parts, length-append s.before (piece ++ s.after), length-append piece s.after, s.place)

byte_at : (file : List ℕ) (at k : ℕ) (piece : List ℕ) (s : Stands file at piece) → get_or file (at + k) 0 ≡ get_or (piece ++ s.after) k 0
byte_at file at k piece s = rw (s.parts, ← s.place) (get_or-append-add s.before (piece ++ s.after) k 0)

pub u2_reads : (file : List ℕ) (at n : ℕ) → n < 65536 → Stands file at (u2_bytes n) → u2 file at ≡ Some (n, at + 2)
u2_reads file at n lt s =
    let fits : leb (at + 2) (length file) ≡ true = le-leb _ _ (stands_within file at (u2_bytes n) s) in
    let zero-is : at ≡ at + 0 = omega arith in
    let b0 : get_or file at 0 ≡ n % 256 = ap (λ (i : ℕ). get_or file i 0) zero-is ∙ byte_at file at 0 (u2_bytes n) s in
    let b1 : get_or file (at + 1) 0 ≡ n / 256 % 256 = byte_at file at 1 (u2_bytes n) s in
    let whole : n % 256 + 256 * (n / 256 % 256) ≡ n = omega arith in
    rw (fits, b0, b1, whole) refl

pub u4_reads : (file : List ℕ) (at n : ℕ) → n < 4294967296 → Stands file at (u4_bytes n) → u4 file at ≡ Some (n, at + 4)
u4_reads file at n lt s =
    let fits : leb (at + 4) (length file) ≡ true = le-leb _ _ (stands_within file at (u4_bytes n) s) in
    let zero-is : at ≡ at + 0 = omega arith in
    let b0 : get_or file at 0 ≡ n % 256 = ap (λ (i : ℕ). get_or file i 0) zero-is ∙ byte_at file at 0 (u4_bytes n) s in
    let b1 : get_or file (at + 1) 0 ≡ n / 256 % 256 = byte_at file at 1 (u4_bytes n) s in
    let b2 : get_or file (at + 2) 0 ≡ n / 65536 % 256 = byte_at file at 2 (u4_bytes n) s in
    let b3 : get_or file (at + 3) 0 ≡ n / 16777216 % 256 = byte_at file at 3 (u4_bytes n) s in
    let whole : n % 256 + 256 * (n / 256 % 256) + 65536 * (n / 65536 % 256) + 16777216 * (n / 16777216 % 256) ≡ n = omega arith in
    rw (fits, b0, b1, b2, b3, whole) refl

-- the numbers that so many groups and one more can say
abbrev pub reach : ℕ → ℕ
reach zero = 128
reach (suc more) = 128 * reach more

pub groups_read : (more n : ℕ) (rest : List ℕ) → n < reach more → n < 4294967296 → groups false (suc more) (groups_of more n ++ rest) ≡ Some (n, length (groups_of more n))
unfolding groups groups_of
groups_read zero n rest lt word =
    let same : n % 128 ≡ n = omega arith in
    let low : ltb n 128 ≡ true = lt-ltb _ _ lt in
    rw (same, low) refl
groups_read (suc more) n rest lt word =
    elim (cases_Bool (ltb n 128)) [
      | inl low ↦ rw (low, low) refl
      | inr high ↦
          let big : 128 ≤ n = ltb-false _ _ high in
          let less : n / 128 < reach more = omega arith in
          let word2 : n / 128 < 4294967296 = omega arith in
          let marked : ltb (n % 128 + 128) 128 ≡ false = le-ltb _ _ (omega arith) in
          let whole : ((n % 128 + 128) % 128 + 128 * (n / 128)) % 4294967296 ≡ n = omega arith in
          let len : length (groups_of more (n / 128)) + 1 ≡ suc (length (groups_of more (n / 128))) = omega arith in
          rw (high, marked, groups_read more (n / 128) rest less word2, whole, len) refl
    ]

pub dropped : (file : List ℕ) (at : ℕ) (piece : List ℕ) (s : Stands file at piece) → drop at file ≡ piece ++ s.after
dropped file at piece s = rw s.parts (drop_at s.before (piece ++ s.after) at s.place)

pub uleb_reads : (file : List ℕ) (at n : ℕ) → n < 4294967296 → Stands file at (uleb_bytes n) → uleb file at ≡ Some (n, at + length (uleb_bytes n))
uleb_reads file at n lt s =
    let within : n < 34359738368 = omega arith in
    rw (dropped file at (uleb_bytes n) s, groups_read 4 n s.after within lt) refl

-- the pieces of a piece
pub stands_moved : (file : List ℕ) (at place : ℕ) (piece : List ℕ) → at ≡ place → Stands file at piece → Stands file place piece
stands_moved file at place piece e s = record { before = s.before; after = s.after; parts = s.parts; place = s.place ∙ e }

pub stands_as : (file : List ℕ) (at : ℕ) (a b : List ℕ) → a ≡ b → Stands file at a → Stands file at b
stands_as file at a b e s = record { before = s.before; after = s.after; parts = s.parts ∙ ap (λ (x : List ℕ). s.before ++ (x ++ s.after)) e; place = s.place }

pub record Three (file : List ℕ) (at : ℕ) (a b c : List ℕ) : Type 0 where
  pub first : Stands file at a
  pub second : Stands file (at + length a) b
  pub third : Stands file (at + length a + length b) c

pub stands_three : (file : List ℕ) (at : ℕ) (a b c : List ℕ) → Stands file at (a ++ b ++ c) → Three file at a b c
stands_three file at a b c s =
    let front = stands_front file at (a ++ b) c s in
    let back = stands_back file at (a ++ b) c s in
    let moved : at + length (a ++ b) ≡ at + length a + length b = omega (arith, length-append a b) in
    record {
      first = stands_front file at a b front;
      second = stands_back file at a b front;
      third = stands_moved file (at + length (a ++ b)) (at + length a + length b) c moved back;
    }
