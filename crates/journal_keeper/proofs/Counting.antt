-- The failures of the disk and those of the journal, and their sum.
use Rattle.std.proofs.Common.{◌≡◌, ◌⊎◌, ◌≤◌, inl, inr, ℕ, refl, sym, ◌∙◌, ap, subst, arith, Option, Some, None, Result, Ok, Err}
use Rattle.std.specs.Prelude.{IfSome, OnErr}
use Rattle.vet_base.specs.Outside.{HasRisen}
use Rattle.disks.specs.declared.disk.DiskFault.{DiskFault}
use Rattle.disks.specs.declared.disk.DiskFault.TheVariants as disk
use Rattle.disks.specs.Disks.{Told, DiskCause}
use Rattle.case_keeper.specs.declared.keeper.KeepFault.{KeepFault}
use Rattle.case_keeper.specs.declared.keeper.KeepFault.TheVariants as keep
use Rattle.case_keeper.specs.Keeper.{KeepCause}
use Rattle.journal_reading.specs.declared.fault.OpenFault.{OpenFault}
use Rattle.journal_reading.specs.declared.fault.OpenFault.TheVariants.{Magic, Bad, Failed, Memory}
use Rattle.journal_reading.specs.Opening.{Answers, IsNoJournal, OpenCause}
use Rattle.journal_keeper.specs.Causes.{keep_fault_of, total, Counts, CountsBy, IsUnopenable}

abbrev Rises : ℕ → ℕ → Type 0
Rises before now = HasRisen before now × (before ≤ now)

disk_rises : (d e w : ℕ) → HasRisen d e → d ≤ e → Rises (total d w) (total e w)
disk_rises d e w rise le = (omega (arith, rise, le), omega (arith, rise, le))

own_rises : (d w : ℕ) → Rises (total d w) (total d (total w 1))
own_rises d w = (omega arith, omega arith)

-- what is counted says when the sum rises
pub counts_cause : {X : Type 0} (Other : Type 0) (d e w v : ℕ) (r : Result X KeepFault) → CountsBy Other d e w v r
    → KeepCause (total d w) (total e v) r
counts_cause Other d e w v (Ok x) counts = ap (λ n. total n v) counts.0 ∙ ap (total d) counts.1
counts_cause Other d e w v (Err keep.Memory) counts = ap (λ n. total n v) counts.0 ∙ ap (total d) counts.1
counts_cause Other d e w v (Err keep.Failed) (inl risen) =
    subst (λ n. Rises (total d w) (total e n)) (sym risen.2) (disk_rises d e w risen.0 risen.1)
counts_cause Other d e w v (Err keep.Failed) (inr other) =
    subst (λ n. Rises (total d w) (total n v)) (sym other.1)
    (subst (λ n. Rises (total d w) (total d n)) (sym other.2) (own_rises d w))

-- a call of the disk alone
pub disk_counts : {X : Type 0} (Other : Type 0) (d e w : ℕ) (r : Result X KeepFault) → KeepCause d e r → CountsBy Other d e w w r
disk_counts Other d e w (Ok x) cause = (cause, refl)
disk_counts Other d e w (Err keep.Failed) cause = inl (cause.0, cause.1, refl)
disk_counts Other d e w (Err keep.Memory) cause = (cause, refl)

pub kept_cause : (X Y : Type 0) (d e : ℕ) (fault : DiskFault) → DiskCause {X = X} d e (Err fault) → KeepCause {X = Y} d e (Err (keep_fault_of fault))
kept_cause X Y d e disk.Failed cause = cause
kept_cause X Y d e disk.Memory cause = cause

-- an opening that failed
module _ (X Y : Type 0) (told : Option Told) where
  foreign_bytes : (o : Option Told) → IfSome o (λ t. Answers {X = X} t.now.bytes (Err Magic)) → IfSome o IsNoJournal
  foreign_bytes None answer = tt
  foreign_bytes (Some t) answer = inl answer

  bad_bytes : (at : ℕ) (o : Option Told) → IfSome o (λ t. Answers {X = X} t.now.bytes (Err (Bad at))) → IfSome o IsNoJournal
  bad_bytes at None answer = tt
  bad_bytes at (Some t) answer = inr (at, answer)

  counted_so : (d e w v : ℕ) (out first : KeepFault) → out ≡ first → CountsBy {X = Y} (IsUnopenable None told) d e w v (Err first)
      → CountsBy {X = Y} (IsUnopenable None told) d e w v (Err out)
  counted_so d e w v out first same counts =
      subst (λ (f : KeepFault). CountsBy {X = Y} (IsUnopenable None told) d e w v (Err f)) (sym same) counts

  pub open_counts : (d e w v : ℕ) (fault : OpenFault) (out : KeepFault) → OpenCause {X = X} d e (Err fault)
      → Counts fault w v out → IfSome told (λ t. Answers {X = X} t.now.bytes (Err fault))
      → CountsBy {X = Y} (IsUnopenable None told) d e w v (Err out)
  open_counts d e w v Magic out cause counts answer =
      counted_so d e w v out keep.Failed counts.1
      (inr (record { closed = refl; bytes = foreign_bytes told answer }, cause, counts.0))
  open_counts d e w v (Bad at) out cause counts answer =
      counted_so d e w v out keep.Failed counts.1
      (inr (record { closed = refl; bytes = bad_bytes at told answer }, cause, counts.0))
  open_counts d e w v Failed out cause counts answer =
      counted_so d e w v out keep.Failed counts.1 (inl (cause.0, cause.1, counts.0))
  open_counts d e w v Memory out cause counts answer =
      counted_so d e w v out keep.Memory counts.1 (cause, counts.0)

-- a call that failed behind another result
pub err_counts : (X Y A : Type 0) (d e w v : ℕ) (fault : KeepFault) → CountsBy {X = X} A d e w v (Err fault) → CountsBy {X = Y} A d e w v (Err fault)
err_counts X Y A d e w v keep.Failed counts = counts
err_counts X Y A d e w v keep.Memory counts = counts

-- two calls, of which the first failed, or did not
pub first_counts : (X Y A B : Type 0) (d e w v : ℕ) (fault : KeepFault) → CountsBy {X = X} A d e w v (Err fault)
    → CountsBy {X = Y} (A ⊎ B) d e w v (Err fault)
first_counts X Y A B d e w v keep.Failed (inl risen) = inl risen
first_counts X Y A B d e w v keep.Failed (inr other) = inr (inl other.0, other.1, other.2)
first_counts X Y A B d e w v keep.Memory counts = counts

pub then_counts : {X : Type 0} (A B : Type 0) (c d e u w v : ℕ) (r : Result X KeepFault) → d ≡ c → w ≡ u → CountsBy B d e w v r
    → CountsBy (A ⊎ B) c e u v r
then_counts A B c d e u w v (Ok x) first second counts = (counts.0 ∙ first, counts.1 ∙ second)
then_counts A B c d e u w v (Err keep.Failed) first second (inl risen) =
    inl (subst (λ n. HasRisen n e) first risen.0, subst (λ n. n ≤ e) first risen.1, risen.2 ∙ second)
then_counts A B c d e u w v (Err keep.Failed) first second (inr other) =
    inr (inr other.0, other.1 ∙ first, other.2 ∙ ap (λ n. total n 1) second)
then_counts A B c d e u w v (Err keep.Memory) first second counts = (counts.0 ∙ first, counts.1 ∙ second)

failed_memory : {Y : Type 0} → ◌≡◌ {A = Result Y KeepFault} (Err keep.Failed) (Err keep.Memory) → ⊥
failed_memory same = absurd cc

-- a look-up behind a call that did not fail
pub look_counts : {X Y : Type 0} (A : Type 0) (d e w v : ℕ) (x : X) (r : Result Y KeepFault) → CountsBy A d e w v (Ok x)
    → OnErr r (r ≡ Err keep.Memory) → CountsBy A d e w v r
look_counts A d e w v x (Ok y) counts memory = counts
look_counts A d e w v x (Err keep.Memory) counts memory = counts
look_counts A d e w v x (Err keep.Failed) counts memory = absurd (failed_memory memory)

-- want of memory in a call that counts nothing
pub memory_counts : (X Y A : Type 0) (d w : ℕ) (fault : KeepFault) → ◌≡◌ {A = Result X KeepFault} (Err fault) (Err keep.Memory)
    → CountsBy {X = Y} A d d w w (Err fault)
memory_counts X Y A d w keep.Memory same = (refl, refl)
memory_counts X Y A d w keep.Failed same = absurd (failed_memory same)
