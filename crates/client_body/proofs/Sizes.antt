-- The body of a submission is at least as long as its files.
use Rattle.std.proofs.Common.{◌≡◌, ℕ, ◌+◌, ◌/◌, ◌%◌, ◌≤◌, Bool, true, false, cond, nat_lt, List, [], ◌∷◌, ◌++◌, length, map, replicate, codes, arith, length-append}
use Rattle.std.specs.Char.{digit_char}
use Rattle.std.specs.List.{sum_by}
use Rattle.std.proofs.lemmas.List.Sums.{sum_by-cons}
use Rattle.json.specs.Print.{escape_letter, escape_byte, escape, quoted}
use Rattle.serde_json.specs.Data.{Data, string, array, Members, member, no_members}
use Rattle.serde_json.specs.View.{items_of}
use Rattle.serde_json.specs.Written.{compact_text, items_text, members_text, comma_if}
use Rattle.base64.specs.Engines.{standard}
use Rattle.base64.specs.GeneralPurpose.{encode_of}
use Rattle.base64.specs.Rfc4648.{encode_symbols, padding_len}
use Rattle.base64.proofs.RoundTrip.{length-encode_symbols}
use Rattle.case_rules.specs.declared.case.Content.{Content}
use Rattle.client_body.specs.Bodies.{dex_text, body_value, body_text, body_of}

escape_some : (x : ℕ) → 1 ≤ length (escape_byte x)
unfolding escape_byte
escape_some x = by (nat_lt 0 (escape_letter x)) (nat_lt x 32)
  where
    by : (a b : Bool) → 1 ≤ length (cond a (92 ∷ escape_letter x ∷ []) (cond b (92 ∷ 117 ∷ 48 ∷ 48 ∷ digit_char (x / 16) ∷ digit_char (x % 16) ∷ []) (x ∷ [])))
    by true b = omega arith
    by false true = omega arith
    by false false = omega arith

escaped_longer : (s : List ℕ) → length s ≤ length (escape s)
escaped_longer [] = omega arith
escaped_longer (x ∷ s) = omega (arith, escape_some x, escaped_longer s, length-append (escape_byte x) (escape s))

quoted_longer : (s : List ℕ) → length s ≤ length (quoted s)
quoted_longer s = omega (arith, escaped_longer s, length-append (escape s) (34 ∷ []))

encoded_longer : (file : List ℕ) → length file ≤ length (encode_of standard file)
encoded_longer file =
    let symbols = encode_symbols standard.encode_table file in
    let size = length-encode_symbols standard.encode_table file in
    omega (arith, size, length-append symbols (replicate (padding_len (length file)) 61))

item_longer : (later : Bool) (d : Data) (rest : List ℕ) → length (compact_text d) + length rest ≤ length (comma_if later ++ (compact_text d ++ rest))
item_longer later d rest = omega (arith, length-append (comma_if later) (compact_text d ++ rest), length-append (compact_text d) rest)

longer : (total one others encoded quotes rest whole : ℕ) → total ≡ one + others → one ≤ encoded → encoded ≤ quotes → others ≤ rest → quotes + rest ≤ whole → total ≤ whole
longer total one others encoded quotes rest whole a b c d e = omega arith

files_longer : (later : Bool) (files : List (List ℕ)) → sum_by length files ≤ length (items_text later (items_of (map dex_text files)))
unfolding dex_text
files_longer later [] = omega arith
files_longer later (file ∷ files) =
    let encoded = encode_of standard file in
    let rest = items_text true (items_of (map dex_text files)) in
    let step : length (quoted encoded) + length rest ≤ length (items_text later (items_of (map dex_text (file ∷ files)))) = item_longer later (string encoded) rest in
    let total : sum_by length (file ∷ files) ≡ length file + sum_by length files = sum_by-cons length file files in
    longer (sum_by length (file ∷ files)) (length file) (sum_by length files) (length encoded) (length (quoted encoded)) (length rest) (length (items_text later (items_of (map dex_text (file ∷ files)))))
    total (encoded_longer file) (quoted_longer encoded) (files_longer true files) step

member_longer : (later : Bool) (k : List ℕ) (d : Data) (ms : Members) → length (compact_text d) + length (members_text true ms) ≤ length (members_text later (member k d ms))
member_longer later k d ms =
    let rest = compact_text d ++ members_text true ms in
    omega (arith, length-append (comma_if later) (quoted k ++ 58 ∷ rest), length-append (quoted k) (58 ∷ rest), length-append (compact_text d) (members_text true ms))

chain : (whole m0 m1 m2 m3 m4 qd it ql qm declaration dex layouts manifest : ℕ) → m0 ≤ whole → qd + m1 ≤ m0 → it + m2 ≤ m1 → ql + m3 ≤ m2 → qm + m4 ≤ m3
    → declaration ≤ qd → dex ≤ it → layouts ≤ ql → manifest ≤ qm → declaration + dex + layouts + manifest ≤ whole
chain whole m0 m1 m2 m3 m4 qd it ql qm declaration dex layouts manifest a b c d e f g h i = omega arith

one_less : (x : ℕ) (xs : List ℕ) → length xs ≤ length (x ∷ xs)
one_less x xs = omega arith

in_brackets : (n : ℕ) (xs : List ℕ) (x : ℕ) → n ≤ length xs → n ≤ length (x ∷ xs)
in_brackets n xs x le = omega (arith, le)

text_longer : (reference manifest layouts declaration : List ℕ) (dex : List (List ℕ))
    → length declaration + sum_by length dex + length layouts + length manifest ≤ length (body_text reference manifest layouts declaration dex)
unfolding body_text body_value
text_longer reference manifest layouts declaration dex =
    let items = items_of (map dex_text dex) in
    let e = member (codes "reference") (string reference) no_members in
    let d = member (codes "manifest") (string manifest) e in
    let c = member (codes "layouts") (string layouts) d in
    let b = member (codes "dex") (array items) c in
    let a = member (codes "declaration") (string declaration) b in
    chain (length (123 ∷ members_text false a)) (length (members_text false a)) (length (members_text true b)) (length (members_text true c)) (length (members_text true d)) (length (members_text true e))
    (length (quoted declaration)) (length (91 ∷ items_text false items)) (length (quoted layouts)) (length (quoted manifest))
    (length declaration) (sum_by length dex) (length layouts) (length manifest)
    (one_less 123 (members_text false a))
    (member_longer false (codes "declaration") (string declaration) b)
    (member_longer true (codes "dex") (array items) c)
    (member_longer true (codes "layouts") (string layouts) d)
    (member_longer true (codes "manifest") (string manifest) e)
    (quoted_longer declaration) (in_brackets (sum_by length dex) (items_text false items) 91 (files_longer false dex)) (quoted_longer layouts) (quoted_longer manifest)

pub body_is_longer : (reference : List ℕ) (content : Content) → length content.declaration + sum_by length content.dex + length content.layouts + length content.manifest ≤ length (body_of reference content)
body_is_longer reference content = text_longer reference content.manifest content.layouts content.declaration content.dex
