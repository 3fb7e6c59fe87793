-- What is found of parts by the certificate in a file.
use Rattle.std.proofs.Common.{◌≡◌, ◌≤◌, ◌<◌, ◌⊎◌, inl, inr, ℕ, List, [], ◌∷◌, ◌++◌, length, Option, Some, None, Result, Ok, Err, refl, sym, ◌∙◌, ap, subst, arith}
use Rattle.std.specs.Prelude.{IfOk, IsSomeAnd, IsTrue, is_some, String, string_bytes, Vec}
use Rattle.std.specs.declared.alloc.Global.{Global}
use Rattle.vet_base.specs.Outside.{Told, held_by, AnswersRead, told_after_read, FileCause}
use Rattle.vet_base.specs.declared.outside.FileFault.{FileFault}
use Rattle.vet_base.specs.declared.outside.FileFault.TheVariants as faults
use Rattle.vet_base.specs.declared.memory.Memory.{Memory as NoMemory}
use Rattle.heard_files.specs.Outside.{Entry}
use Rattle.verdict.specs.declared.parts.Parts.{Parts}
use Rattle.vetting_desk.specs.declared.answer.Answer.{Answer}
use Rattle.app_folder.specs.Due.{Due}
use Rattle.vetting_desk.specs.Due.{no_certificate, long_certificate, due_of}
use Rattle.vetting_desk.specs.PartsDue.{FileTold, GivesTold, RechecksBy, Rechecks}
use Rattle.vetting_desk.specs.Answer.{ComesByRows}
use Rattle.vetting_desk.specs.Found.{FindsOfParts, FindsByFile, HearsFile, said, unread}
use Rattle.app_folder.specs.Reading.{TellsRead, SameFiles}

-- a status from 3 on is none of a finding
no_finding : (n : ℕ) → 3 ≤ n → (n ≡ 1) ⊎ (n ≡ 2) → ⊥
no_finding n above (inl one) = omega (arith, above, one)
no_finding n above (inr two) = omega (arith, above, two)

some_same : (file : Option (List ℕ)) (bytes other : List ℕ) → file ≡ Some bytes → file ≡ Some other → bytes ≡ other
some_same file bytes other one two = cc

none_or_some : (file : Option (List ℕ)) (bytes : List ℕ) → file ≡ None → file ≡ Some bytes → ⊥
none_or_some file bytes none some = cc

not_longer : (limit : ℕ) (file : Option (List ℕ)) (bytes : List ℕ) → IsSomeAnd file (λ b. limit < length b) → file ≡ Some bytes → length bytes ≤ limit → ⊥
not_longer limit file bytes long some within =
    let P : Option (List ℕ) → Type 0 = λ f. IsSomeAnd f (λ b. limit < length b) in
    let h : limit < length bytes = subst P some long in
    omega (arith, h, within)

none_or_long : (limit : ℕ) (file : Option (List ℕ)) → file ≡ None → IsSomeAnd file (λ b. limit < length b) → ⊥
none_or_long limit file none long =
    let P : Option (List ℕ) → Type 0 = λ f. IsSomeAnd f (λ b. limit < length b) in
    subst P none long

only_absent : (path : List ℕ) (told : Option Told) (parts : Parts) → FileTold told path (λ file. file ≡ None) → IsTrue (is_some told) → (other : Due) → Rechecks path (GivesTold told path) parts other → other ≡ no_certificate path
only_absent path told parts none tells _ (Rechecks.absent is) = refl
only_absent path told parts none tells _ (Rechecks.too_long is) = absurd (none_or_long 536870912 (held_by told path) (none tells) (is tells))
only_absent path told parts none tells _ (Rechecks.read bytes due is within has) = absurd (none_or_some (held_by told path) bytes (none tells) (is tells))

pub finds_absent : (path : List ℕ) (told : Option Told) (parts : Parts) → FileTold told path (λ file. file ≡ None) → FindsOfParts (IsTrue (is_some told)) (Rechecks path (GivesTold told path)) ComesByRows parts (no_certificate path)
finds_absent path told parts none = record { is = Rechecks.absent none; only = only_absent path told parts none; safe = λ zero. absurd (omega (arith, zero)); full = λ found. absurd (no_finding 3 (omega arith) found) }

only_long : (path : List ℕ) (told : Option Told) (parts : Parts) → FileTold told path (λ file. IsSomeAnd file (λ bytes. 536870912 < length bytes)) → IsTrue (is_some told)
    → (other : Due) → Rechecks path (GivesTold told path) parts other → other ≡ long_certificate path
only_long path told parts long tells _ (Rechecks.absent is) = absurd (none_or_long 536870912 (held_by told path) (is tells) (long tells))
only_long path told parts long tells _ (Rechecks.too_long is) = refl
only_long path told parts long tells _ (Rechecks.read bytes due is within has) = absurd (not_longer 536870912 (held_by told path) bytes (long tells) (is tells) within)

pub finds_long : (path : List ℕ) (told : Option Told) (parts : Parts) → FileTold told path (λ file. IsSomeAnd file (λ bytes. 536870912 < length bytes))
    → FindsOfParts (IsTrue (is_some told)) (Rechecks path (GivesTold told path)) ComesByRows parts (long_certificate path)
finds_long path told parts long = record { is = Rechecks.too_long long; only = only_long path told parts long; safe = λ zero. absurd (omega (arith, zero)); full = λ found. absurd (no_finding 3 (omega arith) found) }

only_read : (path : List ℕ) (told : Option Told) (parts : Parts) (bytes : List ℕ) (due : Due) → FileTold told path (λ file. file ≡ Some bytes) → length bytes ≤ 536870912
    → ((other : Due) → RechecksBy bytes parts other → other ≡ due) → IsTrue (is_some told) → (other : Due) → Rechecks path (GivesTold told path) parts other → other ≡ due
only_read path told parts bytes due some within only tells _ (Rechecks.absent is) = absurd (none_or_some (held_by told path) bytes (is tells) (some tells))
only_read path told parts bytes due some within only tells _ (Rechecks.too_long is) = absurd (not_longer 536870912 (held_by told path) bytes (is tells) (some tells) within)
only_read path told parts bytes due some within only tells _ (Rechecks.read bytes2 due2 is within2 has) =
    let same : bytes2 ≡ bytes = some_same (held_by told path) bytes2 bytes (is tells) (some tells) in
    only due2 (subst (λ (b : List ℕ). RechecksBy b parts due2) same has)

finds_read : (path : List ℕ) (told : Option Told) (parts : Parts) (bytes : List ℕ) (due : Due) → FileTold told path (λ file. file ≡ Some bytes) → length bytes ≤ 536870912
    → FindsOfParts (Unit {0}) (RechecksBy bytes) ComesByRows parts due → FindsOfParts (IsTrue (is_some told)) (Rechecks path (GivesTold told path)) ComesByRows parts due
finds_read path told parts bytes due some within finds = record {
  is = Rechecks.read bytes due some within finds.is;
  only = only_read path told parts bytes due some within (finds.only tt);
  safe = finds.safe;
  full = finds.full;
}

-- the file was read
pub found_read : (path : List ℕ) (told new : Option Told) (parts : Parts) (bytes : List ℕ) (before after : ℕ) (answer : Result Answer NoMemory)
    → FileTold told path (λ file. file ≡ Some bytes) → length bytes ≤ 536870912 → IfOk answer (λ a. FindsOfParts (Unit {0}) (RechecksBy bytes) ComesByRows parts (due_of a)) → new ≡ told → after ≡ before
    → FindsByFile path parts told new before after (said answer)
found_read path told new parts bytes before after (Ok answer) some within finds same count = (finds_read path told parts bytes (due_of answer) some within finds, same, count)
found_read path told new parts bytes before after (Err e) some within finds same count = (same, count)

after_failed : (told new : Option Told) (name : List ℕ) → new ≡ told_after_read {X = Vec ℕ Global} told name (Err faults.Failed) → TellsRead new name × SameFiles told new
after_failed None new name same =
    let P : Option Told → Type 0 = λ t. TellsRead t name × SameFiles None t in
    subst P (sym same) (tt, tt)
after_failed (Some told) new name same =
    let P : Option Told → Type 0 = λ t. TellsRead t name × SameFiles (Some told) t in
    subst P (sym same) (refl, refl)

at_path : (path : String Global) (told new : Option Told) (parts : Parts) (before after : ℕ) (fault : FileFault)
    → AnswersRead told (string_bytes path) 536870912 (Err fault) → new ≡ told_after_read {X = Vec ℕ Global} told (string_bytes path) (Err fault) → FileCause {X = Vec ℕ Global} before after (Err fault)
    → FindsByFile (string_bytes path) parts told new before after (unread path fault)
at_path path told new parts before after faults.Absent answer same cause = (finds_absent (string_bytes path) told parts answer, same, cause)
at_path path told new parts before after faults.TooLong answer same cause = (finds_long (string_bytes path) told parts answer, same, cause)
at_path path told new parts before after faults.Failed answer same cause = let left = after_failed told new (string_bytes path) same in (refl, cause, left.0, left.1)
at_path path told new parts before after faults.Memory answer same cause = (same, cause)

-- the file could not be had
pub found_unread : (path : String Global) (name : List ℕ) (told new : Option Told) (parts : Parts) (before after : ℕ) (fault : FileFault)
    → name ≡ string_bytes path
    → AnswersRead told name 536870912 (Err fault) → new ≡ told_after_read {X = Vec ℕ Global} told name (Err fault) → FileCause {X = Vec ℕ Global} before after (Err fault)
    → FindsByFile (string_bytes path) parts told new before after (unread path fault)
found_unread path name told new parts before after fault named answer same cause =
    let AnswersAt : List ℕ → Type 0 = λ n. AnswersRead told n 536870912 (Err fault) in
    let ToldAt : List ℕ → Type 0 = λ n. new ≡ told_after_read {X = Vec ℕ Global} told n (Err fault) in
    at_path path told new parts before after fault (subst AnswersAt named answer) (subst ToldAt named same) cause

-- what was heard of it
pub heard_read : (path name : List ℕ) (parts : Parts) (bytes : List ℕ) (old new : List Entry) (answer : Result Answer NoMemory)
    → name ≡ path → new ≡ old ++ (name, 536870912, Ok bytes) ∷ [] → length bytes ≤ 536870912
    → IfOk answer (λ a. FindsOfParts (Unit {0}) (RechecksBy bytes) ComesByRows parts (due_of a)) → HearsFile path parts old new (said answer)
heard_read path name parts bytes old new (Ok answer) named heard within finds = (
  Ok bytes,
  heard ∙ ap (λ (n : List ℕ). old ++ (n, 536870912, Ok bytes) ∷ []) named,
  Rechecks.read bytes (due_of answer) refl within finds.is,
)
heard_read path name parts bytes old new (Err e) named heard within finds = tt

pub heard_unread : (path : String Global) (name : List ℕ) (parts : Parts) (old new : List Entry) (fault : FileFault)
    → name ≡ string_bytes path → new ≡ old ++ (name, 536870912, Err fault) ∷ [] → HearsFile (string_bytes path) parts old new (unread path fault)
heard_unread path name parts old new faults.Absent named heard =
    (Err faults.Absent, heard ∙ ap (λ (n : List ℕ). old ++ (n, 536870912, Err faults.Absent) ∷ []) named, Rechecks.absent refl)
heard_unread path name parts old new faults.TooLong named heard =
    (Err faults.TooLong, heard ∙ ap (λ (n : List ℕ). old ++ (n, 536870912, Err faults.TooLong) ∷ []) named, Rechecks.too_long refl)
heard_unread path name parts old new faults.Failed named heard = tt
heard_unread path name parts old new faults.Memory named heard = tt
