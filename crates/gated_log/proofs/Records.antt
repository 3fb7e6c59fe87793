-- What was read of a record.
use Rattle.std.proofs.Common.{◌≡◌, ◌<◌, ◌≤◌, ◌-◌, ℕ, zero, suc, ◌+◌, true, false, List, [], ◌∷◌, length, take, drop, refl, sym, ◌∙◌, ap, arith, Option, Some, None, Result, Ok, Err, inl, inr}
use Rattle.std.specs.Prelude.{IfSome, IfOk, nat_le, if◌then◌else◌}
use Rattle.std.proofs.lemmas.Bool.{le-leb}
use Rattle.std.proofs.lemmas.Bool.Decides.{nat_tests}
use Rattle.std.proofs.lemmas.List.{drop-drop, length-drop, length-take}
use Rattle.disks.specs.declared.disk.DiskFault.{DiskFault}
use Rattle.disks.specs.Disks.{Told, Measures, Syncs}
use Rattle.gated_log.specs.Calls.{Settles}
use Rattle.gated_log.specs.Format.{record_length, payload_by, first_record}
use Rattle.gated_log.proofs.Pieces.{if_told, both_told, same_told}
use Rattle.gated_log.proofs.Standing.{too_short}

-- nine bytes tell the length of the record that they begin
pub length_by_nine : (bytes : List ℕ) → record_length (take 9 bytes) ≡ record_length bytes
length_by_nine [] = refl
length_by_nine (zero ∷ rest) = refl
length_by_nine (suc (suc g) ∷ rest) = refl
length_by_nine (suc zero ∷ []) = refl
length_by_nine (suc zero ∷ a ∷ []) = refl
length_by_nine (suc zero ∷ a ∷ b ∷ []) = refl
length_by_nine (suc zero ∷ a ∷ b ∷ c ∷ []) = refl
length_by_nine (suc zero ∷ a ∷ b ∷ c ∷ d ∷ []) = refl
length_by_nine (suc zero ∷ a ∷ b ∷ c ∷ d ∷ e ∷ []) = refl
length_by_nine (suc zero ∷ a ∷ b ∷ c ∷ d ∷ e ∷ f ∷ []) = refl
length_by_nine (suc zero ∷ a ∷ b ∷ c ∷ d ∷ e ∷ f ∷ g ∷ []) = refl
length_by_nine (suc zero ∷ a ∷ b ∷ c ∷ d ∷ e ∷ f ∷ g ∷ h ∷ rest) = refl

-- what is asked of the disk where no record stands at the offset, and where one does
abbrev pub HasNone : ℕ → Told → Type 0
HasNone at t = None ≡ first_record (drop at t.now.bytes)

abbrev pub HasPayload : ℕ → List ℕ → Told → Type 0
HasPayload at payload t = Some payload ≡ first_record (drop at t.now.bytes)

abbrev pub HasPiece : ℕ → ℕ → List ℕ → Told → Type 0
HasPiece at count piece t = piece ≡ take count (drop at t.now.bytes)

module _ (at len : ℕ) (within : at ≤ len) where
  room_none : len - at < 9 → (t : Told) → Measures len t → HasNone at t
  room_none lt t long = sym (too_short (drop at t.now.bytes) (omega (arith, lt, long, within, length-drop at t.now.bytes)))

  pub no_room : (o : Option Told) → len - at < 9 → IfSome o (Measures len) → IfSome o (HasNone at)
  no_room o lt long = if_told (Measures len) (HasNone at) o (room_none lt) long

  head_none : (head : List ℕ) → record_length head ≡ None → (t : Told) → HasPiece at 9 head t → HasNone at t
  head_none head none t is =
      let bytes = drop at t.now.bytes in
      let same : record_length bytes ≡ None = sym (length_by_nine bytes) ∙ ap record_length (sym is) ∙ none in
      sym (ap (λ (n : Option ℕ). payload_by n (drop 9 bytes)) same)

  pub no_head : (o : Option Told) (head : List ℕ) → record_length head ≡ None → IfSome o (HasPiece at 9 head) → IfSome o (HasNone at)
  no_head o head none is = if_told (HasPiece at 9 head) (HasNone at) o (head_none head none) is

  module _ (head : List ℕ) (count : ℕ) (known : record_length head ≡ Some count) where
    known_there : (t : Told) → HasPiece at 9 head t → record_length (drop at t.now.bytes) ≡ Some count
    known_there t is = sym (length_by_nine (drop at t.now.bytes)) ∙ ap record_length (sym is) ∙ known

    by_count : (t : Told) → HasPiece at 9 head t → first_record (drop at t.now.bytes) ≡ payload_by (Some count) (drop 9 (drop at t.now.bytes))
    by_count t is = ap (λ (n : Option ℕ). payload_by n (drop 9 (drop at t.now.bytes))) (known_there t is)

    rest_long : (t : Told) → Measures len t → length (drop 9 (drop at t.now.bytes)) ≡ len - at - 9
    rest_long t long = omega (arith, long, length-drop 9 (drop at t.now.bytes), length-drop at t.now.bytes)

    too_few : len - at - 9 < count → (t : Told) → Measures len t → HasPiece at 9 head t → HasNone at t
    too_few lt t long is =
        let rest = drop 9 (drop at t.now.bytes) in
        let size = rest_long t long in
        let no : nat_le count (length rest) ≡ false = grind (arith, nat_tests) in
        sym (by_count t is ∙ ap (λ b. if b then Some (take count rest) else None) no)

    pub no_end : (o : Option Told) → len - at - 9 < count → IfSome o (Measures len) → IfSome o (HasPiece at 9 head) → IfSome o (HasNone at)
    no_end o lt long is = both_told (Measures len) (HasPiece at 9 head) (HasNone at) o (too_few lt) long is

    module _ (fits : count ≤ len - at - 9) (payload : List ℕ) where
      there_so : (t : Told) → Measures len t → HasPiece at 9 head t → HasPiece (at + 9) count payload t
          → HasPayload at payload t × (length payload ≡ count)
      there_so t long is piece =
          let rest = drop 9 (drop at t.now.bytes) in
          let size = rest_long t long in
          let yes : nat_le count (length rest) ≡ true = le-leb count (length rest) (omega (arith, fits, size)) in
          let on : drop (at + 9) t.now.bytes ≡ rest = sym (drop-drop 9 at t.now.bytes) in
          let part : payload ≡ take count rest = piece ∙ ap (take count) on in (
            sym (by_count t is ∙ ap (λ b. if b then Some (take count rest) else None) yes ∙ ap (λ (l : List ℕ). Some l) (sym part)),
            omega (arith, ap (λ (l : List ℕ). length l) part, length-take count rest, size, fits),
          )

      pub is_there : (o : Option Told) → IfSome o (Measures len) → IfSome o (HasPiece at 9 head) → IfSome o (HasPiece (at + 9) count payload)
          → IfSome o (HasPayload at payload)
      is_there None long is piece = tt
      is_there (Some t) long is piece = (there_so t long is piece).0

      pub not_short : (o : Option Told) → (length payload ≡ count → ⊥) → IfSome o (Measures len) → IfSome o (HasPiece at 9 head) → IfSome o (HasPiece (at + 9) count payload)
          → IfSome o (HasNone at)
      not_short None short long is piece = tt
      not_short (Some t) short long is piece = absurd (short (there_so t long is piece).1)

-- the front of a room that was filled
pub is_piece : (o : Option Told) (at count n : ℕ) (before room piece : List ℕ) → length before ≡ count → piece ≡ take n room
    → IfSome o (λ t. take n room ≡ take (length before) (drop at t.now.bytes)) → IfSome o (HasPiece at count piece)
is_piece None at count n before room piece size is filled = tt
is_piece (Some t) at count n before room piece size is filled = is ∙ filled ∙ ap (λ k. take k (drop at t.now.bytes)) size

-- A sync and a look.
pub settle_failed : (X : Type 0) (o a : Option Told) (fault other : DiskFault) → Syncs o a (Err fault) → Settles {X = X} o a (Err other)
settle_failed X None a fault other s = s
settle_failed X (Some t) a fault other s = inl s

pub settle_done : {X : Type 0} (o a b : Option Told) (x : Unit {0}) (r : Result X DiskFault) → Syncs o a (Ok x) → b ≡ a → Settles o b r
settle_done None a b x r s same = same ∙ s
settle_done (Some t) a b x (Ok y) s same = same ∙ s
settle_done (Some t) a b x (Err fault) s same = inr (same ∙ s)

pub settle_long : (a b : Option Told) (r : Result ℕ DiskFault) → b ≡ a → IfOk r (λ n. IfSome a (Measures n)) → IfOk r (λ n. IfSome b (Measures n))
settle_long a b (Ok n) same long = same_told (Measures n) a b same long
settle_long a b (Err fault) same long = tt
