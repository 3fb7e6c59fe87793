-- Reading the files of an app one after the other.
use Rattle.std.proofs.Common.{◌≡◌, ℕ, ◌+◌, ◌≤◌, List, [], ◌∷◌, ◌++◌, length, Option, Result, Ok, Err, refl, sym, subst, arith, length-append}
use Rattle.std.specs.Prelude.{IsTrue, is_some, IfOk, IfErr}
use Rattle.vet_base.specs.Outside.{Told, held_by}
use Rattle.vet_base.specs.Script.{run, Fails}
use Rattle.vet_base.proofs.Scripts.{Continues, is_done}
use Rattle.verdict.specs.declared.outcome.Part.TheVariants.{Manifest as manifest_part}
use Rattle.verdict.specs.declared.outcome.Reason.TheVariants.{Form}
use Rattle.app_folder.specs.declared.folder.Halt.{Halt}
use Rattle.app_folder.specs.declared.folder.Halt.TheVariants.{Refused, ReadFault, Memory}
use Rattle.app_folder.specs.Folder.{Refusal, part_at, dex_row, dexes_at}
use Rattle.app_folder.specs.Reading.{stop_of, ReadsAs, CountsDex}
use Rattle.case_rules.specs.declared.case.Content.{Content}
use Rattle.client_service.specs.Content.{content_at, Gathers, GathersAs}

-- the manifest is no file that is read
pub of_no_manifest : (told : Option Told) (dir : List ℕ) (halt : Halt)
    → (IsTrue (is_some told) → Fails (stop_of halt) (run (part_at (held_by told) dir manifest_part))) → GathersAs told dir (Err halt)
of_no_manifest told dir (Refused part reason) fails = λ tells. Gathers.no_manifest (part, reason) (fails tells)
of_no_manifest told dir (ReadFault name) fails = tt
of_no_manifest told dir Memory fails = tt

-- the manifest is not of its form
pub of_bad_manifest : (told : Option Told) (dir text seen : List ℕ) (halt : Halt)
    → seen ≡ text → (IsTrue (is_some told) → run (part_at (held_by told) dir manifest_part) ≡ Ok text) → CountsDex seen (Err halt)
    → GathersAs told dir (Err halt)
of_bad_manifest told dir text seen (Refused part reason) same reads bad = λ tells.
    let Reads : List ℕ → Type 0 = λ t. run (part_at (held_by told) dir manifest_part) ≡ Ok t in
    let e : (part, reason) ≡ (manifest_part, Form bad.0) = rw (bad.2, bad.3) refl in
    let P : Refusal → Type 0 = λ r. Gathers (held_by told) dir (Err r) in
    subst P (sym e) (Gathers.bad_manifest seen bad.0 (subst Reads (sym same) (reads tells)) bad.1)
of_bad_manifest told dir text seen (ReadFault name) same reads bad = tt
of_bad_manifest told dir text seen Memory same reads bad = tt

-- the manifest says how many DEX files there are, and the others were read
gathers_others : (told : Option Told) (dir text : List ℕ) (count : ℕ) (gathered : Result Content Refusal)
    → run (part_at (held_by told) dir manifest_part) ≡ Ok text → CountsDex text (Ok count)
    → run (content_at (held_by told) dir text count) ≡ gathered → Gathers (held_by told) dir gathered
gathers_others told dir text count gathered reads counts is =
    let P : ℕ → Type 0 = λ n. run (content_at (held_by told) dir text n) ≡ gathered in
    Gathers.others text counts.0 gathered reads counts.1 (subst P (sym counts.2) is)

module _ (new told : Option Told) (dir text seen : List ℕ) (count : ℕ) where
  abbrev Read : Result Content Halt → Option Told → Type 0
  Read result t = ReadsAs t (λ (c : Content). c) result (content_at (held_by t) dir text count)

  pub of_others : (result : Result Content Halt) → new ≡ told → seen ≡ text
      → (IsTrue (is_some told) → run (part_at (held_by told) dir manifest_part) ≡ Ok text) → CountsDex seen (Ok count)
      → ReadsAs new (λ (c : Content). c) result (content_at (held_by new) dir text count) → GathersAs told dir result
  of_others (Ok content) same is_text reads counts is = λ tells.
      gathers_others told dir text count (Ok content) (reads tells)
      (subst (λ (t : List ℕ). CountsDex t (Ok count)) is_text counts) (subst (Read (Ok content)) same is tells)
  of_others (Err (Refused part reason)) same is_text reads counts is = λ tells.
      gathers_others told dir text count (Err (part, reason)) (reads tells)
      (subst (λ (t : List ℕ). CountsDex t (Ok count)) is_text counts) (subst (Read (Err (Refused part reason))) same is tells)
  of_others (Err (ReadFault name)) same is_text reads counts is = tt
  of_others (Err Memory) same is_text reads counts is = tt

-- a list with one item more
pub one_more : {A : Type 0} (xs : List A) (x : A) (n : ℕ) → length xs ≡ n → length (xs ++ x ∷ []) ≡ n + 1
one_more xs x n is = omega (arith, is, length-append xs (x ∷ []))

-- all DEX files were read, and listed unless memory ran out
pub all_read : (old : Option Told) (dir : List ℕ) (count i : ℕ) (front : List (List ℕ)) (result : Result (List (List ℕ)) Halt)
    → IfOk result (λ files. files ≡ front) → IfErr result (λ halt. halt ≡ Memory) → count ≤ i
    → (IsTrue (is_some old) → Continues count i (dex_row (held_by old) dir) front tt (run (dexes_at (held_by old) dir count)))
    → ReadsAs old (λ (files : List (List ℕ)). (files, tt)) result (dexes_at (held_by old) dir count)
all_read old dir count i front (Ok files) is err done so_far = λ tells.
    subst (λ (fs : List (List ℕ)). run (dexes_at (held_by old) dir count) ≡ Ok (fs, tt)) (sym is)
    (is_done count i (dex_row (held_by old) dir) front tt (run (dexes_at (held_by old) dir count)) done (so_far tells))
all_read old dir count i front (Err halt) is err done so_far = λ tells.
    subst (λ (h : Halt). Fails (stop_of h) (run (dexes_at (held_by old) dir count))) (sym err) tt
