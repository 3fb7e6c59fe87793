-- A call adds the moment that is due, and no other.
use Rattle.std.proofs.Common.{◌≡◌, ◌<◌, ℕ, List, [], ◌∷◌, length, Some, sym, ap, ◌∙◌, arith}
use Rattle.std.specs.Prelude.{min, true, false}
use Rattle.std.proofs.lemmas.Option.{same_Some}
use Rattle.disks.specs.Disks.{Moment, Told, after}
use Rattle.disks.specs.Memory.{MemState, is_listed}
use Rattle.store_witness.specs.DiskFacts.{DisksTell}

now_of : (new t : Told) → Some new ≡ Some t → new.now ≡ t.now
now_of new t same = ap (λ (t : Told). t.now) (same_Some new t same)

no_least : (least len kept : ℕ) → len < least → kept ≡ least → kept ≡ min least len → ⊥
no_least least len kept less same is = omega (arith, less, same, is)

no_range : (range : ℕ × ℕ) (ranges loose : List (ℕ × ℕ)) → loose ≡ ranges → loose ≡ range ∷ ranges → ⊥
no_range range ranges loose same is = let longer = ap length (sym same ∙ is) in omega (arith, longer)

no_most : (most len kept : ℕ) → len < most → kept ≡ most → kept ≡ len → ⊥
no_most most len kept less same is = omega (arith, less, same, is)

first_call : (disk : MemState) → disk.failing ≡ 1 ∷ [] → disk.calls ≡ [] → is_listed disk.failing disk.calls ≡ false → ⊥
first_call disk failing calls not_listed =
    let listed : is_listed disk.failing disk.calls ≡ is_listed (1 ∷ []) []
    = ap (λ (ns : List ℕ). is_listed ns disk.calls) failing ∙ ap (is_listed (1 ∷ [])) calls in
    let both : true ≡ false = sym listed ∙ not_listed in
    cc

pub disks_tell : DisksTell
disks_tell = record {
  cut = λ old new len less same cuts. no_least old.now.least len new.now.least less same (ap (λ (m : Moment). m.least) (now_of new (after old _) cuts));
  written = λ old new at bytes same writes. no_range _ old.now.loose new.now.loose same (ap (λ (m : Moment). m.loose) (now_of new (after old _) writes));
  synced = λ old new less same syncs. no_most old.now.most (length old.now.bytes) new.now.most less same (ap (λ (m : Moment). m.most) (now_of new (after old _) syncs));
  counted = λ risen. let none : ⊥ = omega (arith, risen.0) in none;
  first_call = first_call;
}
