-- Parts that a folder gives are what its files hold.
use Rattle.std.proofs.Common.{◌≡◌, ℕ, zero, suc, ◌+◌, ◌≤◌, Bool, true, false, List, [], ◌∷◌, length, Option, Some, None, Result, Ok, Err, refl, sym, ap, ◌∙◌, subst}
use Rattle.std.specs.Prelude.{nat_le}
use Rattle.std.proofs.lemmas.Bool.{leb-true}
use Rattle.vet_base.specs.Script.{Script, Value, Test, ◌>>=◌, run, rows}
use Rattle.form_fields.specs.Form.{IsForm}
use Rattle.office_forms.specs.Manifest.{manifest_form}
use Rattle.verdict.specs.declared.outcome.Part.{Part}
use Rattle.verdict.specs.declared.outcome.Part.TheVariants.{Manifest as manifest_part, Layouts, Declaration, Lists, Dex}
use Rattle.verdict.specs.declared.outcome.Reason.TheVariants.{TooLong}
use Rattle.verdict.specs.declared.parts.Parts.{Parts}
use Rattle.app_folder.specs.Folder.{Held, Refusal, file_name, present, part_at, dex_row, dexes_at, parts_at, Gathers, IsFile, AreDexFiles, Holds}

-- what stands before the rest of a script was read
record Reads {F A B : Type 0} (m : Script F A) (f : A → Script F B) (y : B) : Type 0 where
  value : A
  first : run m ≡ Ok value
  rest : run (f value) ≡ Ok y

reads : {F A B : Type 0} (m : Script F A) (f : A → Script F B) (y : B) → run (m >>= f) ≡ Ok y → Reads m f y
reads (Value x) f y is = record { value = x; first = refl; rest = is }
reads (Test true fault more) f y is = let r = reads more f y is in record { value = r.value; first = r.first; rest = r.rest }
reads (Test false fault more) f y is = absurd cc

is_within : (b : Bool) (n : ℕ) → nat_le n 16777216 ≡ b → (bytes : List ℕ) (fault : Refusal) (text : List ℕ) → run (Test b fault (Value text)) ≡ Ok bytes → (n ≤ 16777216) × (text ≡ bytes)
is_within true n test bytes fault text is = (leb-true n 16777216 test, ok_is text bytes is)
  where
    ok_is : (xs ys : List ℕ) → ◌≡◌ {A = Result (List ℕ) Refusal} (Ok xs) (Ok ys) → xs ≡ ys
    ok_is xs ys e = ap (λ (r : Result (List ℕ) Refusal). elim r [ Ok zs ↦ zs | Err f ↦ xs ]) e
is_within false n test bytes fault text is = absurd cc

present_file : (part : Part) (file : Option (List ℕ)) (bytes : List ℕ) → run (present part file) ≡ Ok bytes → (file ≡ Some bytes) × (length bytes ≤ 16777216)
present_file part None bytes is = absurd cc
present_file part (Some text) bytes is =
    let h = is_within (nat_le (length text) 16777216) (length text) refl bytes (part, TooLong 16777216) text is in
    let P : List ℕ → Type 0 = λ t. length t ≤ 16777216 in
    (ap (λ (t : List ℕ). Some t) h.1, subst P h.1 h.0)

is_file : (held : Held) (dir : List ℕ) (part : Part) (bytes : List ℕ) → run (part_at held dir part) ≡ Ok bytes → IsFile held dir part bytes
unfolding part_at
is_file held dir part bytes is = let h = present_file part (held (file_name dir part)) bytes is in record { there = h.0; within = h.1 }

pair_is : {A : Type 0} (x y : A) → ◌≡◌ {A = Result A Refusal} (Ok x) (Ok y) → x ≡ y
pair_is {A} x y e = ap (λ (r : Result A Refusal). elim r [ Ok z ↦ z | Err f ↦ x ]) e

-- so many DEX files
record AreRead (held : Held) (dir : List ℕ) (n i : ℕ) (files : List (List ℕ)) : Type 0 where
  count : length files ≡ n
  stand : AreDexFiles held dir i files

are_files : (held : Held) (dir : List ℕ) (n i : ℕ) (s : Unit {0}) (read : List (List ℕ) × Unit {0}) → run (rows n i (dex_row held dir) s) ≡ Ok read → AreRead held dir n i read.0
unfolding rows dex_row
are_files held dir zero i s read is =
    let e : [] ≡ read.0 = ap (λ (r : List (List ℕ) × Unit {0}). r.0) (pair_is ([], s) read is) in
    let P : List (List ℕ) → Type 0 = λ files. AreRead held dir 0 i files in
    subst P e (record { count = refl; stand = tt })
are_files held dir (suc n) i s read is =
    let row = reads (dex_row held dir i s) _ read is in
    let file = reads (part_at held dir (Dex i)) _ row.value row.first in
    let more = reads (rows n (i + 1) (dex_row held dir) row.value.1) _ read row.rest in
    let others = are_files held dir n (i + 1) row.value.1 more.value more.first in
    let bytes : file.value ≡ row.value.0 = ap (λ (r : List ℕ × Unit {0}). r.0) (pair_is (file.value, tt) row.value file.rest) in
    let e : row.value.0 ∷ more.value.0 ≡ read.0 = ap (λ (r : List (List ℕ) × Unit {0}). r.0) (pair_is (row.value.0 ∷ more.value.0, more.value.1) read more.rest) in
    let P : List (List ℕ) → Type 0 = λ files. AreRead held dir (suc n) i files in
    let Q : List ℕ → Type 0 = λ b. IsFile held dir (Dex i) b in
    subst P e (record { count = ap suc others.count; stand = (subst Q bytes (is_file held dir (Dex i) file.value file.first), others.stand) })

-- what the files hold, but for the number of DEX files
record HoldsParts (held : Held) (dir text : List ℕ) (count : ℕ) (parts : Parts) : Type 0 where
  manifest : parts.manifest ≡ text
  layouts : IsFile held dir Layouts parts.layouts
  declaration : IsFile held dir Declaration parts.declaration
  lists : IsFile held dir Lists parts.lists
  dex : AreRead held dir count 0 parts.dex

parts_held : (held : Held) (dir text : List ℕ) (count : ℕ) (parts : Parts) → run (parts_at held dir text count) ≡ Ok parts → HoldsParts held dir text count parts
unfolding parts_at dexes_at
parts_held held dir text count parts is =
    let layouts = reads (part_at held dir Layouts) _ parts is in
    let declaration = reads (part_at held dir Declaration) _ parts layouts.rest in
    let lists = reads (part_at held dir Lists) _ parts declaration.rest in
    let dexes = reads (dexes_at held dir count) _ parts lists.rest in
    let P : Parts → Type 0 = λ p. HoldsParts held dir text count p in
    let made : Parts = record { manifest = text; layouts = layouts.value; declaration = declaration.value; lists = lists.value; dex = dexes.value.0 } in
    subst P (pair_is made parts dexes.rest) (record {
      manifest = refl;
      layouts = is_file held dir Layouts layouts.value layouts.first;
      declaration = is_file held dir Declaration declaration.value declaration.first;
      lists = is_file held dir Lists lists.value lists.first;
      dex = are_files held dir count 0 tt dexes.value dexes.first;
    })

holds_gathered : (held : Held) (dir : List ℕ) (gathered : Result Parts Refusal) (parts : Parts) → Gathers held dir gathered → gathered ≡ Ok parts → Holds held dir parts
holds_gathered held dir gathered parts (Gathers.no_manifest refusal is) e = absurd cc
holds_gathered held dir gathered parts (Gathers.bad_manifest text fault is bad) e = absurd cc
holds_gathered held dir gathered parts (Gathers.others text manifest same is form rest) e =
    let h = parts_held held dir text manifest.manifest.dex_files parts (rest ∙ e) in
    let File : List ℕ → Type 0 = λ t. IsFile held dir manifest_part t in
    let Form : List ℕ → Type 0 = λ t. IsForm manifest_form t manifest in
    record {
      manifest = subst File (sym h.manifest) (is_file held dir manifest_part text is);
      layouts = h.layouts;
      declaration = h.declaration;
      lists = h.lists;
      says = manifest;
      form = subst Form (sym h.manifest) form;
      count = h.dex.count;
      dex = h.dex.stand;
    }

pub holds_parts : (held : Held) (dir : List ℕ) (parts : Parts) → Gathers held dir (Ok parts) → Holds held dir parts
holds_parts held dir parts gathers = holds_gathered held dir (Ok parts) parts gathers refl
