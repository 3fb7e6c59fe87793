-- Texts, and offsets of what there may be none of.
use Rattle.std.proofs.Common.{◌≡◌, ◌≢◌, ℕ, zero, suc, ◌<◌, ◌≤◌, eqb, List, length, refl, inl, inr, false, arith}
use Rattle.std.specs.Prelude.{All}
use Rattle.std.specs.List.{AllByRecursion}
use Rattle.std.proofs.lemmas.Bool.{cases_Bool}
use Rattle.std.proofs.lemmas.Bool.Decides.{nat_tests}
use Rattle.std.proofs.lemmas.List.Elements.{All-from_recursion}
use Rattle.std.proofs.lemmas.List.Sums.{count_by-le-length}
use Rattle.dex_tables.specs.Sequences.{AtOffset}
use Rattle.dex_writer.specs.Bytes.{text_len}
use Rattle.dex_writer.specs.Placed.{offset_of}
use Rattle.dex_round_trip.proofs.TableGrowth.{all_imp}

pub eqb_above : (b : ℕ) → 0 < b → eqb b 0 ≡ false
eqb_above b lt = grind (arith, nat_tests)

pub no_zero : (name : List ℕ) → AllByRecursion (λ b. 0 < b) name → All (λ b. b ≢ 0) name
no_zero name all = All-from_recursion (λ b. b ≢ 0) name (all_imp (λ b. 0 < b) (λ b. b ≢ 0) (λ b some e. absurd (omega arith)) name all)

pub text_len_small : (name : List ℕ) → text_len name ≤ length name
unfolding text_len
text_len_small name = count_by-le-length _ name

pub offset_small : (at : ℕ) (piece : List ℕ) → at < 4294967296 → offset_of at piece < 4294967296
offset_small at piece lt = elim (cases_Bool (eqb (length piece) 0)) [ inl empty ↦ rw empty (omega arith) | inr there ↦ rw there lt ]

pub offset_some : (at : ℕ) (piece : List ℕ) → 0 < length piece → offset_of at piece ≡ at
offset_some at piece lt = rw (eqb_above (length piece) lt) refl

pub at_some : (at : ℕ) (nothing something : Type 0) → 0 < at → something → AtOffset at nothing something
at_some zero nothing something lt s = absurd (omega arith)
at_some (suc at) nothing something lt s = s
