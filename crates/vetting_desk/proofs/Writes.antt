-- What a write of a file came to.
use Rattle.std.proofs.Common.{◌≡◌, inl, inr, ℕ, List, Option, Some, None, Err, refl, ap}
use Rattle.vet_base.specs.Outside.{Told, WritesFile, FileCause}
use Rattle.vet_base.specs.declared.outside.FileFault.{FileFault}
use Rattle.vet_base.specs.declared.outside.FileFault.TheVariants.{Absent, TooLong, Failed, Memory}
use Rattle.vetting_desk.specs.Top.{status_of_write, WritesDue}

never_absent : (old new : Option Told) (name bytes : List ℕ) → WritesFile old new name bytes (Err Absent) → ⊥
never_absent None None name bytes w = w.0 refl
never_absent None (Some new) name bytes w = w
never_absent (Some old) None name bytes w = w
never_absent (Some old) (Some new) name bytes w = w

never_long : (old new : Option Told) (name bytes : List ℕ) → WritesFile old new name bytes (Err TooLong) → ⊥
never_long None None name bytes w = w.1 refl
never_long None (Some new) name bytes w = w
never_long (Some old) None name bytes w = w
never_long (Some old) (Some new) name bytes w = w

same_files : (old new : Option Told) (name bytes : List ℕ) → WritesFile old new name bytes (Err Memory) → new ≡ old
same_files None None name bytes w = refl
same_files None (Some new) name bytes w = absurd w
same_files (Some old) None name bytes w = absurd w
same_files (Some old) (Some new) name bytes w = ap (λ (t : Told). Some t) w

pub not_written : (old new : Option Told) (before after : ℕ) (name bytes : List ℕ) (fault : FileFault)
    → WritesFile old new name bytes (Err fault) → FileCause {X = Unit {0}} before after (Err fault) → WritesDue (Some (name, bytes)) old new before after (Err (status_of_write fault))
not_written old new before after name bytes Absent w cause = absurd (never_absent old new name bytes w)
not_written old new before after name bytes TooLong w cause = absurd (never_long old new name bytes w)
not_written old new before after name bytes Failed w cause = inl (refl, w, cause)
not_written old new before after name bytes Memory w cause = inr (refl, same_files old new name bytes w, cause)
