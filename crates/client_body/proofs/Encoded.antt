-- DEX files as texts in base64: what was made of the files so far, and how deep the value of a body nests.
use Rattle.std.proofs.Common.{◌≡◌, ℕ, ◌+◌, ◌<◌, ◌≤◌, max, true, false, List, [], ◌∷◌, ◌++◌, length, map, take, get_or, Option, Some, None, option_map, option_and_then, Ok, codes, refl, ap, ap₂, sym, subst, ◌∙◌, arith}
use Rattle.std.specs.Str.{IsUtf8, is_utf8}
use Rattle.std.proofs.lemmas.Str.{is_utf8-from_IsUtf8}
use Rattle.std.proofs.lemmas.List.{map_push, take_more, take_all}
use Rattle.serde_json.specs.Data.{Data, string, array, object, member, no_members, depth, items_depth}
use Rattle.serde_json.specs.Read.{read}
use Rattle.serde_json.specs.View.{view, items_of, items_view}
use Rattle.serde_json.specs.Written.{has_float, items_have_float, compact_text}
use Rattle.serde_json.specs.declared.value.Value.{Value}
use Rattle.desk_routes.specs.Bodies.{json_of, decoded, all_decoded, listed}
use Rattle.client_body.specs.Bodies.{dex_text, body_value, body_text}

-- the values so far are the texts of the files so far, and decode to them
pub record AreTexts (values : List Value) (files : List (List ℕ)) (i : ℕ) : Type 0 where
  pub texts : map view values ≡ map dex_text (take i files)
  pub back : all_decoded (map view values) ≡ Some (take i files)

one_more : (values : List Data) (files : List (List ℕ)) (value : Data) (file : List ℕ)
    → all_decoded values ≡ Some files → decoded value ≡ Some file → all_decoded (values ++ value ∷ []) ≡ Some (files ++ file ∷ [])
one_more [] files value file all one =
    let none : [] ≡ files = cc in
    rw one (ap (λ fs. Some (fs ++ file ∷ [])) none)
one_more (v ∷ vs) files value file all one = by (decoded v) (all_decoded vs) refl refl all (λ more rest. one_more vs more value file rest one)
  where
    by : (d : Option (List ℕ)) (rest : Option (List (List ℕ))) → decoded v ≡ d → all_decoded vs ≡ rest
        → option_and_then (λ bytes. option_map (λ others. bytes ∷ others) rest) d ≡ Some files
        → ((more : List (List ℕ)) → all_decoded vs ≡ Some more → all_decoded (vs ++ value ∷ []) ≡ Some (more ++ file ∷ []))
        → all_decoded ((v ∷ vs) ++ value ∷ []) ≡ Some (files ++ file ∷ [])
    by None rest first others e later = cc
    by (Some bytes) None first others e later = cc
    by (Some bytes) (Some more) first others e later =
        let whole : bytes ∷ more ≡ files = cc in
        rw (first, later more others) (ap (λ fs. Some (fs ++ file ∷ [])) whole)

pub begins : (values : List Value) (files : List (List ℕ)) → values ≡ [] → AreTexts values files 0
begins values files none = record { texts = ap (map view) none; back = ap (λ vs. all_decoded (map view vs)) none }

pub goes_on : (values : List Value) (files : List (List ℕ)) (i : ℕ) (value : Value) (file : List ℕ)
    → i < length files → file ≡ get_or files i file → view value ≡ dex_text file → decoded (view value) ≡ Some file
    → AreTexts values files i → AreTexts (values ++ value ∷ []) files (i + 1)
goes_on values files i value file within at text one so_far =
    let front : take (i + 1) files ≡ take i files ++ file ∷ [] = take_more files i file within ∙ ap (λ f. take i files ++ f ∷ []) (sym at) in
    record {
      texts = map_push view values value ∙ ap₂ (λ vs v. vs ++ v ∷ []) so_far.texts text ∙ sym (map_push dex_text (take i files) file) ∙ ap (map dex_text) (sym front);
      back = ap all_decoded (map_push view values value) ∙ one_more (map view values) (take i files) (view value) file so_far.back one ∙ ap Some (sym front);
    }

pub texts_done : (values : List Value) (files : List (List ℕ)) (i : ℕ) → length files ≤ i → AreTexts values files i → map view values ≡ map dex_text files
texts_done values files i over so_far = so_far.texts ∙ ap (map dex_text) (take_all i files over)

pub decoded_done : (values : List Value) (files : List (List ℕ)) (i : ℕ) → length files ≤ i → AreTexts values files i → all_decoded (map view values) ≡ Some files
decoded_done values files i over so_far = so_far.back ∙ ap Some (take_all i files over)

-- texts nest nothing, and have no float
flat : (files : List (List ℕ)) → items_depth (items_of (map dex_text files)) ≡ 0
unfolding dex_text
flat [] = refl
flat (file ∷ files) = ap (λ n. max 0 n) (flat files)

no_floats : (files : List (List ℕ)) → items_have_float (items_of (map dex_text files)) ≡ false
unfolding dex_text
no_floats [] = refl
no_floats (file ∷ files) = no_floats files

pub body_depth : (reference manifest layouts declaration : List ℕ) (dex : List (List ℕ)) → depth (body_value reference manifest layouts declaration dex) ≤ 127
unfolding body_value
body_depth reference manifest layouts declaration dex = rw (flat dex) (omega arith)

pub body_has_no_float : (reference manifest layouts declaration : List ℕ) (dex : List (List ℕ)) → has_float (body_value reference manifest layouts declaration dex) ≡ false
unfolding body_value
body_has_no_float reference manifest layouts declaration dex = rw (no_floats dex) refl

pub listed_texts : (files : List Data) → listed (items_of files) ≡ files
listed_texts [] = refl
listed_texts (file ∷ files) = ap (λ fs. file ∷ fs) (listed_texts files)

-- the value that was built is that of the body
pub value_is : (v : Data) (reference manifest layouts declaration : List ℕ) (values : List Value) (dex : List (List ℕ))
    → v ≡ object (member (codes "declaration") (string declaration) (member (codes "dex") (array (items_view values)) (member (codes "layouts") (string layouts) (member (codes "manifest") (string manifest) (member (codes "reference") (string reference) no_members)))))
    → map view values ≡ map dex_text dex → v ≡ body_value reference manifest layouts declaration dex
unfolding body_value
value_is v reference manifest layouts declaration values dex is texts =
    is ∙ ap (λ (items : List Data). object (member (codes "declaration") (string declaration) (member (codes "dex") (array (items_of items)) (member (codes "layouts") (string layouts) (member (codes "manifest") (string manifest) (member (codes "reference") (string reference) no_members)))))) texts

-- its text, without white space
pub text_is : (v : Data) (text reference manifest layouts declaration : List ℕ) (dex : List (List ℕ))
    → v ≡ body_value reference manifest layouts declaration dex → (has_float v ≡ false → text ≡ compact_text v)
    → text ≡ body_text reference manifest layouts declaration dex
unfolding body_text
text_is v text reference manifest layouts declaration dex is gives =
    gives (ap has_float is ∙ body_has_no_float reference manifest layouts declaration dex) ∙ ap compact_text is

read_known : (text : List ℕ) (v : Data) → is_utf8 text ≡ true → read text ≡ Some v → json_of text ≡ Ok v
unfolding json_of
read_known text v utf8 reads = rw (utf8, reads) refl

-- and the text is read back as it
pub reads_back : (v : Data) (text reference manifest layouts declaration : List ℕ) (dex : List (List ℕ))
    → v ≡ body_value reference manifest layouts declaration dex → (depth v ≤ 127 → read text ≡ Some v)
    → IsUtf8 text → json_of text ≡ Ok (body_value reference manifest layouts declaration dex)
reads_back v text reference manifest layouts declaration dex is gives utf8 =
    let shallow : depth v ≤ 127 = subst (λ (d : Data). depth d ≤ 127) (sym is) (body_depth reference manifest layouts declaration dex) in
    read_known text (body_value reference manifest layouts declaration dex) (is_utf8-from_IsUtf8 text utf8) (gives shallow ∙ ap Some is)

pub decoded_back : (values : List Value) (dex : List (List ℕ)) → map view values ≡ map dex_text dex → all_decoded (map view values) ≡ Some dex → all_decoded (map dex_text dex) ≡ Some dex
decoded_back values dex texts back = sym (ap all_decoded texts) ∙ back
