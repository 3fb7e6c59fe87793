-- Reading the files of a folder one after the other.
use Rattle.std.proofs.Common.{◌≡◌, ℕ, ◌+◌, ◌<◌, List, [], ◌∷◌, ◌++◌, Option, Result, Ok, Err, refl, sym, subst, ◌∙◌}
use Rattle.std.specs.Prelude.{IsTrue, is_some}
use Rattle.std.specs.List.{AllByRecursion}
use Rattle.vet_base.specs.Outside.{Told, held_by}
use Rattle.vet_base.specs.Script.{Value, run, Fails}
use Rattle.vet_base.proofs.Scripts.{run_bind, first_fails, Continues, goes_on, ends}
use Rattle.verdict.specs.declared.outcome.Part.TheVariants.{Manifest as manifest_part, Layouts, Declaration, Lists, Dex}
use Rattle.verdict.specs.declared.outcome.Reason.TheVariants.{Form}
use Rattle.verdict.specs.declared.parts.Parts.{Parts}
use Rattle.app_folder.specs.declared.folder.Halt.{Halt}
use Rattle.app_folder.specs.declared.folder.Halt.TheVariants.{Refused, ReadFault, Memory}
use Rattle.app_folder.specs.Folder.{Refusal, part_at, dex_row, dexes_at, parts_at, Gathers}
use Rattle.app_folder.specs.Reading.{stop_of, ReadsAs, CountsDex, GathersAs}

-- one of the DEX files is refused, or its reading is broken off
pub row_fails : (told old : Option Told) (dir : List ℕ) (count i : ℕ) (front : List (List ℕ)) (halt : Halt) (whole : Result (List (List ℕ) × Unit {0}) Refusal)
    → told ≡ old → i < count → (IsTrue (is_some told) → Fails (stop_of halt) (run (part_at (held_by told) dir (Dex i))))
    → (IsTrue (is_some old) → Continues count i (dex_row (held_by old) dir) front tt whole)
    → IsTrue (is_some old) → Fails (stop_of halt) whole
unfolding dex_row
row_fails told old dir count i front halt whole same lt fails so_far tells =
    let P : Option Told → Type 0 = λ t. IsTrue (is_some t) → Fails (stop_of halt) (run (part_at (held_by t) dir (Dex i))) in
    ends (stop_of halt) count i (dex_row (held_by old) dir) front tt whole lt (first_fails (stop_of halt) (part_at (held_by old) dir (Dex i)) (λ bytes. Value (bytes, tt)) (subst P same fails tells)) (so_far tells)

-- one of them was read
pub row_goes_on : (told old : Option Told) (dir : List ℕ) (count i : ℕ) (front : List (List ℕ)) (bytes : List ℕ) (whole : Result (List (List ℕ) × Unit {0}) Refusal)
    → told ≡ old → i < count → (IsTrue (is_some told) → run (part_at (held_by told) dir (Dex i)) ≡ Ok bytes)
    → (IsTrue (is_some old) → Continues count i (dex_row (held_by old) dir) front tt whole)
    → IsTrue (is_some old) → Continues count (i + 1) (dex_row (held_by old) dir) (front ++ bytes ∷ []) tt whole
unfolding dex_row
row_goes_on told old dir count i front bytes whole same lt reads so_far tells =
    let P : Option Told → Type 0 = λ t. IsTrue (is_some t) → run (part_at (held_by t) dir (Dex i)) ≡ Ok bytes in
    let one : run (part_at (held_by old) dir (Dex i)) ≡ Ok bytes = subst P same reads tells in
    let row : run (dex_row (held_by old) dir i tt) ≡ Ok (bytes, tt) = rw (run_bind, one) refl in
    goes_on count i (dex_row (held_by old) dir) front tt bytes tt whole lt row (so_far tells)

-- the other parts were read, and one of the DEX files was not
pub no_dexes : (t0 t1 t2 t3 : Option Told) (dir manifest : List ℕ) (count : ℕ) (layouts declaration lists : List ℕ) (halt : Halt)
    → t1 ≡ t0 → t2 ≡ t1 → t3 ≡ t2
    → (IsTrue (is_some t0) → run (part_at (held_by t0) dir Layouts) ≡ Ok layouts)
    → (IsTrue (is_some t1) → run (part_at (held_by t1) dir Declaration) ≡ Ok declaration)
    → (IsTrue (is_some t2) → run (part_at (held_by t2) dir Lists) ≡ Ok lists)
    → (IsTrue (is_some t3) → Fails (stop_of halt) (run (dexes_at (held_by t3) dir count)))
    → IsTrue (is_some t0) → Fails (stop_of halt) (run (parts_at (held_by t0) dir manifest count))
unfolding parts_at
no_dexes t0 t1 t2 t3 dir manifest count layouts declaration lists halt same_1 same_2 same_3 reads_0 reads_1 reads_2 fails tells =
    let D : Option Told → Type 0 = λ t. IsTrue (is_some t) → run (part_at (held_by t) dir Declaration) ≡ Ok declaration in
    let L : Option Told → Type 0 = λ t. IsTrue (is_some t) → run (part_at (held_by t) dir Lists) ≡ Ok lists in
    let X : Option Told → Type 0 = λ t. IsTrue (is_some t) → Fails (stop_of halt) (run (dexes_at (held_by t) dir count)) in
    let layouts_0 : run (part_at (held_by t0) dir Layouts) ≡ Ok layouts = reads_0 tells in
    let declaration_0 : run (part_at (held_by t0) dir Declaration) ≡ Ok declaration = subst D same_1 reads_1 tells in
    let lists_0 : run (part_at (held_by t0) dir Lists) ≡ Ok lists = subst L (same_2 ∙ same_1) reads_2 tells in
    let fails_0 : Fails (stop_of halt) (run (dexes_at (held_by t0) dir count)) = subst X (same_3 ∙ (same_2 ∙ same_1)) fails tells in
    rw (run_bind, layouts_0, run_bind, declaration_0, run_bind, lists_0)
    (first_fails (stop_of halt) (dexes_at (held_by t0) dir count) (λ (dexes : List (List ℕ) × Unit {0}). Value (record { manifest = manifest; layouts = layouts; declaration = declaration; lists = lists; dex = dexes.0 })) fails_0)

-- the manifest is no file that is read
pub of_no_manifest : (told : Option Told) (dir : List ℕ) (halt : Halt)
    → (IsTrue (is_some told) → Fails (stop_of halt) (run (part_at (held_by told) dir manifest_part))) → GathersAs told dir (Err halt)
of_no_manifest told dir (Refused part reason) fails = λ tells. Gathers.no_manifest (part, reason) (fails tells)
of_no_manifest told dir (ReadFault name) fails = tt
of_no_manifest told dir Memory fails = tt

-- the manifest is not of its form
pub of_bad_manifest : (told : Option Told) (dir text seen : List ℕ) (halt : Halt)
    → seen ≡ text → (IsTrue (is_some told) → run (part_at (held_by told) dir manifest_part) ≡ Ok text) → CountsDex seen (Err halt) → GathersAs told dir (Err halt)
of_bad_manifest told dir text seen (Refused part reason) same reads bad = λ tells.
    let Reads : List ℕ → Type 0 = λ t. run (part_at (held_by told) dir manifest_part) ≡ Ok t in
    let e : (part, reason) ≡ (manifest_part, Form bad.0) = rw (bad.2, bad.3) refl in
    let P : Refusal → Type 0 = λ r. Gathers (held_by told) dir (Err r) in
    subst P (sym e) (Gathers.bad_manifest seen bad.0 (subst Reads (sym same) (reads tells)) bad.1)
of_bad_manifest told dir text seen (ReadFault name) same reads bad = tt
of_bad_manifest told dir text seen Memory same reads bad = tt

-- the manifest says how many DEX files there are, and the others were read
gathers_others : (told : Option Told) (dir text : List ℕ) (count : ℕ) (gathered : Result Parts Refusal)
    → run (part_at (held_by told) dir manifest_part) ≡ Ok text → CountsDex text (Ok count) → run (parts_at (held_by told) dir text count) ≡ gathered → Gathers (held_by told) dir gathered
gathers_others told dir text count gathered reads counts is =
    let P : ℕ → Type 0 = λ n. run (parts_at (held_by told) dir text n) ≡ gathered in
    Gathers.others text counts.0 gathered reads counts.1 (subst P (sym counts.2) is)

pub of_others : (new told : Option Told) (dir text seen : List ℕ) (count : ℕ) (result : Result Parts Halt)
    → new ≡ told → seen ≡ text → (IsTrue (is_some told) → run (part_at (held_by told) dir manifest_part) ≡ Ok text) → CountsDex seen (Ok count)
    → ReadsAs new (λ (parts : Parts). parts) result (parts_at (held_by new) dir text count) → GathersAs told dir result
of_others new told dir text seen count (Ok parts) same is_text reads counts is = λ tells.
    let Counts : List ℕ → Type 0 = λ t. CountsDex t (Ok count) in
    let result : Result Parts Halt = Ok parts in
    let P : Option Told → Type 0 = λ t. ReadsAs t (λ (p : Parts). p) result (parts_at (held_by t) dir text count) in
    gathers_others told dir text count (Ok parts) (reads tells) (subst Counts is_text counts) (subst P same is tells)
of_others new told dir text seen count (Err (Refused part reason)) same is_text reads counts is = λ tells.
    let Counts : List ℕ → Type 0 = λ t. CountsDex t (Ok count) in
    let result : Result Parts Halt = Err (Refused part reason) in
    let P : Option Told → Type 0 = λ t. ReadsAs t (λ (p : Parts). p) result (parts_at (held_by t) dir text count) in
    gathers_others told dir text count (Err (part, reason)) (reads tells) (subst Counts is_text counts) (subst P same is tells)
of_others new told dir text seen count (Err (ReadFault name)) same is_text reads counts is = tt
of_others new told dir text seen count (Err Memory) same is_text reads counts is = tt

-- what holds of all and of one more holds of all of them
pub all_then : {A : Type 0} (P : A → Type 0) (xs : List A) (x : A) → AllByRecursion P xs → P x → AllByRecursion P (xs ++ x ∷ [])
all_then P [] x all here = (here, tt)
all_then P (y ∷ ys) x all here = (all.0, all_then P ys x all.1 here)
