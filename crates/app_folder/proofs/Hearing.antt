-- What was heard as the files of a folder were read.
use Rattle.std.proofs.Common.{◌≡◌, ℕ, zero, suc, ◌+◌, ◌-◌, ◌<◌, List, [], ◌∷◌, ◌++◌, length, map, Result, Ok, Err, IfOk, refl, sym, ◌∙◌, ap, subst, append_assoc, append-nil, arith}
use Rattle.vet_base.specs.declared.outside.FileFault.{FileFault}
use Rattle.heard_files.specs.Outside.{Entry}
use Rattle.verdict.specs.declared.outcome.Part.{Part}
use Rattle.verdict.specs.declared.outcome.Part.TheVariants.{Manifest as manifest_part, Layouts, Declaration, Lists, Dex}
use Rattle.verdict.specs.declared.outcome.Reason.{Reason}
use Rattle.verdict.specs.declared.outcome.Reason.TheVariants.{Form}
use Rattle.verdict.specs.declared.parts.Parts.{Parts}
use Rattle.app_folder.specs.declared.folder.Halt.{Halt}
use Rattle.app_folder.specs.declared.folder.Halt.TheVariants.{Refused, ReadFault, Memory}
use Rattle.app_folder.specs.Folder.{Refusal, file_name}
use Rattle.app_folder.specs.Heard.{read_of, dex_entries, entries_behind, entries_of, GaveParts, dex_parts, parts_behind, Refuses, GaveUpTo, GaveRefusal, HeardUpTo, Hears, HearsFolder}
use Rattle.app_folder.specs.Reading.{CountsDex}

one_more : (dir : List ℕ) (i j : ℕ) (dexes : List (List ℕ)) (bytes : List ℕ) → j ≡ i + length dexes
    → dex_entries dir i (dexes ++ bytes ∷ []) ≡ dex_entries dir i dexes ++ read_of dir (Dex j) (Ok bytes) ∷ []
one_more dir i j [] bytes at =
    let same : i ≡ j = omega (arith, at) in
    ap (λ (n : ℕ). read_of dir (Dex n) (Ok bytes) ∷ []) same
one_more dir i j (first ∷ dexes) bytes at =
    ap (λ (es : List Entry). read_of dir (Dex i) (Ok first) ∷ es) (one_more dir (i + 1) j dexes bytes (omega (arith, at)))

-- one more DEX file was read
pub heard_on : (dir : List ℕ) (i : ℕ) (dexes : List (List ℕ)) (bytes : List ℕ) (old now next : List Entry) → length dexes ≡ i
    → now ≡ old ++ dex_entries dir 0 dexes → next ≡ now ++ read_of dir (Dex i) (Ok bytes) ∷ []
    → next ≡ old ++ dex_entries dir 0 (dexes ++ bytes ∷ [])
heard_on dir i dexes bytes old now next count before here =
    here ∙ (ap (λ (es : List Entry). es ++ read_of dir (Dex i) (Ok bytes) ∷ []) before
    ∙ (append_assoc old (dex_entries dir 0 dexes) (read_of dir (Dex i) (Ok bytes) ∷ [])
    ∙ ap (λ (es : List Entry). old ++ es) (sym (one_more dir 0 i dexes bytes (omega (arith, count))))))

-- what was heard of some files and of more behind them
follows : (old mid new front more : List Entry) → mid ≡ old ++ front → new ≡ mid ++ more → new ≡ old ++ (front ++ more)
follows old mid new front more before here = here ∙ (ap (λ (es : List Entry). es ++ more) before ∙ append_assoc old front more)

-- the files behind the manifest were read
pub heard_behind : (dir layouts declaration lists : List ℕ) (dexes : List (List ℕ)) (old a b c new : List Entry)
    → a ≡ old ++ read_of dir Layouts (Ok layouts) ∷ [] → b ≡ a ++ read_of dir Declaration (Ok declaration) ∷ []
    → c ≡ b ++ read_of dir Lists (Ok lists) ∷ [] → new ≡ c ++ dex_entries dir 0 dexes
    → new ≡ old ++ (read_of dir Layouts (Ok layouts) ∷ read_of dir Declaration (Ok declaration) ∷ read_of dir Lists (Ok lists) ∷ dex_entries dir 0 dexes)
heard_behind dir layouts declaration lists dexes old a b c new first second third rest =
    follows old a new (read_of dir Layouts (Ok layouts) ∷ []) (read_of dir Declaration (Ok declaration) ∷ read_of dir Lists (Ok lists) ∷ dex_entries dir 0 dexes) first
    (follows a b new (read_of dir Declaration (Ok declaration) ∷ []) (read_of dir Lists (Ok lists) ∷ dex_entries dir 0 dexes) second
    (follows b c new (read_of dir Lists (Ok lists) ∷ []) (dex_entries dir 0 dexes) third rest))

-- all files were read, and the manifest says how many DEX files there are
pub gave_parts : (dir text seen : List ℕ) (count : ℕ) (parts : Parts) (old mid new : List Entry)
    → seen ≡ text → mid ≡ old ++ read_of dir manifest_part (Ok text) ∷ [] → CountsDex seen (Ok count) → parts.manifest ≡ text
    → length parts.dex ≡ count → new ≡ mid ++ entries_behind dir parts → GaveParts old new dir parts
gave_parts dir text seen count parts old mid new is_text first counts manifest length_is rest =
    let Counts : List ℕ → Type 0 = λ t. CountsDex t (Ok count) in
    let says : CountsDex parts.manifest (Ok count) = subst Counts (is_text ∙ sym manifest) counts in
    let all : new ≡ old ++ entries_of dir parts =
    follows old mid new (read_of dir manifest_part (Ok parts.manifest) ∷ []) (entries_behind dir parts)
    (first ∙ ap (λ (t : List ℕ). old ++ read_of dir manifest_part (Ok t) ∷ []) (sym manifest)) rest in
    record {
      more = [];
      heard = all ∙ sym (append-nil (old ++ entries_of dir parts));
      says = says.0;
      form = says.1;
      count = length_is ∙ sym says.2;
    }

-- a file is refused at once
pub refused_at : (dir : List ℕ) (part : Part) (name : List ℕ) (reason : Reason) (seen fault : FileFault) (old new : List Entry)
    → name ≡ file_name dir part → seen ≡ fault → new ≡ old ++ (name, 16777216, Err seen) ∷ [] → Refuses fault reason
    → GaveUpTo (part ∷ []) old new dir (part, reason)
refused_at dir part name reason seen fault old new named same here refuses = record {
  files = [];
  others = [];
  order = refl;
  fault = fault;
  refuses = refuses;
  heard = here ∙ (ap (λ (n : List ℕ). old ++ (n, 16777216, Err seen) ∷ []) named ∙ ap (λ (f : FileFault). old ++ read_of dir part (Err f) ∷ []) same);
}

-- whatever parts there are behind it
with_more : (parts more : List Part) (old new : List Entry) (dir : List ℕ) (refusal : Refusal)
    → GaveUpTo parts old new dir refusal → GaveUpTo (parts ++ more) old new dir refusal
with_more parts more old new dir refusal gave = record {
  files = gave.files;
  others = gave.others ++ more;
  order = ap (λ (ps : List Part). ps ++ more) gave.order ∙ append_assoc (map (λ (file : Part × List ℕ). file.0) gave.files) (refusal.0 ∷ gave.others) more;
  fault = gave.fault;
  refuses = gave.refuses;
  heard = gave.heard;
}

-- and behind a file that was read
behind : (part : Part) (bytes : List ℕ) (parts : List Part) (old mid new : List Entry) (dir : List ℕ) (refusal : Refusal)
    → mid ≡ old ++ read_of dir part (Ok bytes) ∷ [] → GaveUpTo parts mid new dir refusal
    → GaveUpTo (part ∷ parts) old new dir refusal
behind part bytes parts old mid new dir refusal first gave = record {
  files = (part, bytes) ∷ gave.files;
  others = gave.others;
  order = ap (λ (ps : List Part). part ∷ ps) gave.order;
  fault = gave.fault;
  refuses = gave.refuses;
  heard = follows old mid new (read_of dir part (Ok bytes) ∷ []) (map (λ (file : Part × List ℕ). read_of dir file.0 (Ok file.1)) gave.files ++ read_of dir refusal.0 (Err gave.fault) ∷ []) first gave.heard;
}

-- and behind DEX files that were read
behind_dexes : (dir : List ℕ) (dexes : List (List ℕ)) (m n from at : ℕ) (old now new : List Entry) (refusal : Refusal)
    → m ≡ length dexes + n → at ≡ from + length dexes → now ≡ old ++ dex_entries dir from dexes
    → GaveUpTo (dex_parts n at) now new dir refusal → GaveUpTo (dex_parts m from) old new dir refusal
behind_dexes dir [] m n from at old now new refusal count place before gave =
    let same_count : n ≡ m = omega (arith, count) in
    let same_place : at ≡ from = omega (arith, place) in
    let AtCount : ℕ → Type 0 = λ k. GaveUpTo (dex_parts k from) old new dir refusal in
    let AtPlace : ℕ → Type 0 = λ k. GaveUpTo (dex_parts n k) old new dir refusal in
    let AtOld : List Entry → Type 0 = λ es. GaveUpTo (dex_parts n at) es new dir refusal in
    subst AtCount same_count (subst AtPlace same_place (subst AtOld (before ∙ append-nil old) gave))
behind_dexes dir (bytes ∷ dexes) zero n from at old now new refusal count place before gave = absurd (omega (arith, count))
behind_dexes dir (bytes ∷ dexes) (suc m) n from at old now new refusal count place before gave =
    let first : List Entry = read_of dir (Dex from) (Ok bytes) ∷ [] in
    behind (Dex from) bytes (dex_parts m (from + 1)) old (old ++ first) new dir refusal refl
    (behind_dexes dir dexes m n (from + 1) at (old ++ first) now new refusal (omega (arith, count)) (omega (arith, place))
    (before ∙ sym (append_assoc old first (dex_entries dir (from + 1) dexes))) gave)

-- what is known of a refusal is known of what a reading left
as_refused : (ps qs : List Part) (old mid new : List Entry) (dir : List ℕ) (halt : Halt)
    → ((refusal : Refusal) → GaveUpTo ps mid new dir refusal → GaveUpTo qs old new dir refusal)
    → HeardUpTo ps mid new dir halt → HeardUpTo qs old new dir halt
as_refused ps qs old mid new dir (Refused part reason) as_is hears = as_is (part, reason) hears
as_refused ps qs old mid new dir (ReadFault name) as_is hears = tt
as_refused ps qs old mid new dir Memory as_is hears = tt

-- one of the DEX files was not read
pub no_dex : (dir : List ℕ) (count i : ℕ) (dexes : List (List ℕ)) (halt : Halt) (old now new : List Entry)
    → length dexes ≡ i → i < count → now ≡ old ++ dex_entries dir 0 dexes
    → HeardUpTo (Dex i ∷ []) now new dir halt → HeardUpTo (dex_parts count 0) old new dir halt
no_dex dir count i dexes halt old now new read less before hears =
    let rest : ℕ = count - (i + 1) in
    let whole : count ≡ length dexes + suc rest = omega (arith, read, less) in
    as_refused (Dex i ∷ []) (dex_parts count 0) old now new dir halt
    (λ refusal gave.
    behind_dexes dir dexes count (suc rest) 0 i old now new refusal whole (omega (arith, read)) before
    (with_more (Dex i ∷ []) (dex_parts rest (i + 1)) now new dir refusal gave))
    hears

-- the layouts were not read
pub no_layouts : (dir : List ℕ) (count : ℕ) (halt : Halt) (old new : List Entry)
    → HeardUpTo (Layouts ∷ []) old new dir halt → HeardUpTo (parts_behind count) old new dir halt
no_layouts dir count halt old new hears =
    as_refused (Layouts ∷ []) (parts_behind count) old old new dir halt
    (λ refusal gave. with_more (Layouts ∷ []) (Declaration ∷ Lists ∷ dex_parts count 0) old new dir refusal gave) hears

-- nor was the declaration
pub no_declaration : (dir layouts : List ℕ) (count : ℕ) (halt : Halt) (old one new : List Entry)
    → one ≡ old ++ read_of dir Layouts (Ok layouts) ∷ []
    → HeardUpTo (Declaration ∷ []) one new dir halt → HeardUpTo (parts_behind count) old new dir halt
no_declaration dir layouts count halt old one new first hears =
    as_refused (Declaration ∷ []) (parts_behind count) old one new dir halt
    (λ refusal gave.
    behind Layouts layouts (Declaration ∷ Lists ∷ dex_parts count 0) old one new dir refusal first
    (with_more (Declaration ∷ []) (Lists ∷ dex_parts count 0) one new dir refusal gave))
    hears

-- nor were the lists
pub no_lists : (dir layouts declaration : List ℕ) (count : ℕ) (halt : Halt) (old one two new : List Entry)
    → one ≡ old ++ read_of dir Layouts (Ok layouts) ∷ [] → two ≡ one ++ read_of dir Declaration (Ok declaration) ∷ []
    → HeardUpTo (Lists ∷ []) two new dir halt → HeardUpTo (parts_behind count) old new dir halt
no_lists dir layouts declaration count halt old one two new first second hears =
    as_refused (Lists ∷ []) (parts_behind count) old two new dir halt
    (λ refusal gave.
    behind Layouts layouts (Declaration ∷ Lists ∷ dex_parts count 0) old one new dir refusal first
    (behind Declaration declaration (Lists ∷ dex_parts count 0) one two new dir refusal second
    (with_more (Lists ∷ []) (dex_parts count 0) two new dir refusal gave)))
    hears

-- nor were the DEX files
pub no_code : (dir layouts declaration lists : List ℕ) (count : ℕ) (halt : Halt) (old one two three new : List Entry)
    → one ≡ old ++ read_of dir Layouts (Ok layouts) ∷ [] → two ≡ one ++ read_of dir Declaration (Ok declaration) ∷ []
    → three ≡ two ++ read_of dir Lists (Ok lists) ∷ []
    → HeardUpTo (dex_parts count 0) three new dir halt → HeardUpTo (parts_behind count) old new dir halt
no_code dir layouts declaration lists count halt old one two three new first second third hears =
    as_refused (dex_parts count 0) (parts_behind count) old three new dir halt
    (λ refusal gave.
    behind Layouts layouts (Declaration ∷ Lists ∷ dex_parts count 0) old one new dir refusal first
    (behind Declaration declaration (Lists ∷ dex_parts count 0) one two new dir refusal second
    (behind Lists lists (dex_parts count 0) two three new dir refusal third gave)))
    hears

-- the manifest was not read
pub no_manifest_heard : (dir : List ℕ) (halt : Halt) (old new : List Entry)
    → HeardUpTo (manifest_part ∷ []) old new dir halt → HearsFolder old new dir (Err halt)
no_manifest_heard dir (Refused part reason) old new hears = GaveRefusal.no_manifest (part, reason) hears
no_manifest_heard dir (ReadFault name) old new hears = tt
no_manifest_heard dir Memory old new hears = tt

-- or is not of its form
pub bad_manifest_heard : (dir text seen : List ℕ) (halt : Halt) (old new : List Entry)
    → seen ≡ text → new ≡ old ++ read_of dir manifest_part (Ok text) ∷ [] → CountsDex seen (Err halt)
    → HearsFolder old new dir (Err halt)
bad_manifest_heard dir text seen (Refused part reason) old new same hears bad =
    let e : (part, reason) ≡ (manifest_part, Form bad.0) = rw (bad.2, bad.3) refl in
    let P : Refusal → Type 0 = λ r. GaveRefusal old new dir r in
    subst P (sym e)
    (GaveRefusal.bad_manifest seen bad.0 (hears ∙ ap (λ (t : List ℕ). old ++ read_of dir manifest_part (Ok t) ∷ []) (sym same)) bad.1)
bad_manifest_heard dir text seen (ReadFault name) old new same hears bad = tt
bad_manifest_heard dir text seen Memory old new same hears bad = tt

-- one of the others was not read
no_other_heard : (dir text seen : List ℕ) (count : ℕ) (refusal : Refusal) (old mid new : List Entry)
    → seen ≡ text → mid ≡ old ++ read_of dir manifest_part (Ok text) ∷ [] → CountsDex seen (Ok count)
    → GaveUpTo (parts_behind count) mid new dir refusal → GaveRefusal old new dir refusal
no_other_heard dir text seen count refusal old mid new same first counts gave =
    let AtMid : List Entry → Type 0 = λ es. GaveUpTo (parts_behind count) es new dir refusal in
    let AtCount : ℕ → Type 0 = λ n. GaveUpTo (parts_behind n) (old ++ read_of dir manifest_part (Ok seen) ∷ []) new dir refusal in
    let mid_is : mid ≡ old ++ read_of dir manifest_part (Ok seen) ∷ [] =
    first ∙ ap (λ (t : List ℕ). old ++ read_of dir manifest_part (Ok t) ∷ []) (sym same) in
    GaveRefusal.no_other seen counts.0 refusal counts.1 (subst AtCount (sym counts.2) (subst AtMid mid_is gave))

-- what the folder left to be heard, behind a manifest that says how many DEX files there are
pub folder_heard : (dir text seen : List ℕ) (count : ℕ) (result : Result Parts Halt) (old mid new : List Entry)
    → seen ≡ text → mid ≡ old ++ read_of dir manifest_part (Ok text) ∷ [] → CountsDex seen (Ok count)
    → IfOk result (λ parts. parts.manifest ≡ text) → IfOk result (λ parts. length parts.dex ≡ count)
    → Hears (entries_behind dir) (parts_behind count) mid new dir result → HearsFolder old new dir result
unfolding gave_parts
folder_heard dir text seen count (Ok parts) old mid new is_text first counts manifest length_is rest =
    (gave_parts dir text seen count parts old mid new is_text first counts manifest length_is rest, refl)
folder_heard dir text seen count (Err (Refused part reason)) old mid new is_text first counts manifest length_is rest =
    no_other_heard dir text seen count (part, reason) old mid new is_text first counts rest
folder_heard dir text seen count (Err (ReadFault name)) old mid new is_text first counts manifest length_is rest = tt
folder_heard dir text seen count (Err Memory) old mid new is_text first counts manifest length_is rest = tt
