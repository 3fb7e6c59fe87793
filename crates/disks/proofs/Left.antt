-- What a read gives is among what a crash may leave.
use Rattle.std.proofs.Common.{◌≤◌, ◌+◌, max, ℕ, List, ◌++◌, length, take, drop, refl, arith, length-append}
use Rattle.std.proofs.lemmas.List.{length-drop, length-take}
use Rattle.disks.specs.Disks.{Moment, MayLeaveItself, IsTorn, IsFrayed, BytesMayBeLeft, solid, wrote, shortened, over}

-- bytes that a failed write left as they were are torn in no part
pub whole_torn : (old : List ℕ) (at n : ℕ) → IsTorn old at n old
whole_torn old at n = record { before = refl; behind = refl; no_shorter = omega arith; no_longer = omega arith }

pub whole_frayed : (old : List ℕ) (len : ℕ) → len ≤ length old → IsFrayed old len old
whole_frayed old len le = record { front = refl; no_shorter = le; no_longer = omega arith }

itself : (m : Moment) → m.least ≤ length m.bytes → length m.bytes ≤ m.most → MayLeaveItself m
itself m least most = record { no_shorter = least; no_longer = most; same = λ i lt out. refl }

over_long : (old : List ℕ) (at : ℕ) (bytes : List ℕ) → at ≤ length old → (length old ≤ length (over old at bytes)) × (length (over old at bytes) ≤ max (length old) (at + length bytes))
over_long old at bytes le =
    let rest = drop (at + length bytes) old in
    let front = length-take at old in
    let behind = length-drop (at + length bytes) old in
    let whole = length-append (take at old) (bytes ++ rest) in
    let inner = length-append bytes rest in
    (omega arith, omega arith)

pub bytes_may_be_left : BytesMayBeLeft
bytes_may_be_left = record {
  synced = λ bytes. itself (solid bytes) (omega arith) (omega arith);
  written = λ m at bytes le may.
      let long = over_long m.bytes at bytes le in
      let low = may.no_shorter in
      let high = may.no_longer in
      itself (wrote m at (length bytes) (over m.bytes at bytes)) (omega (arith, long.0)) (omega (arith, long.1));
  torn = λ m at n torn is may.
      let low = may.no_shorter in
      let high = may.no_longer in
      itself (wrote m at n torn) (omega (arith, is.no_shorter)) (omega (arith, is.no_longer));
  cut = λ m len le may.
      let high = may.no_longer in
      let long = length-take len m.bytes in
      itself (shortened m len (take len m.bytes)) (omega (arith, long)) (omega (arith, long));
  frayed = λ m len frayed is may.
      let high = may.no_longer in
      itself (shortened m len frayed) (omega (arith, is.no_shorter)) (omega (arith, is.no_longer));
}
