-- Bytes are a log of one list of payloads.
use Rattle.std.proofs.Common.{◌≡◌, ◌<◌, ℕ, true, List, [], ◌∷◌, ◌++◌, length, take, drop, refl, sym, ◌∙◌, ap, arith, append_assoc, length-append, Some, None}
use Rattle.std.specs.Prelude.{nat_le, if◌then◌else◌}
use Rattle.std.specs.List.{flat_map}
use Rattle.std.proofs.lemmas.Bool.{le-leb}
use Rattle.std.proofs.lemmas.List.{append-nil, take_at, drop_at}
use Rattle.gated_log.specs.Format.{magic, record_bytes, payload_by, first_record, NoRecord}
use Rattle.gated_log.specs.Logs.{AreShort, IsLog, LogLaws}
use Rattle.gated_log.proofs.Eights.{whole8}

-- a record is found where it stands
pub first_again : (payload more : List ℕ) → length payload < 18446744073709551616 → first_record (record_bytes payload ++ more) ≡ Some payload
first_again payload more small =
    let n = length payload in
    let yes : nat_le n (length (payload ++ more)) ≡ true = le-leb n (length (payload ++ more)) (omega (arith, length-append payload more)) in
    ap (λ k. payload_by (Some k) (payload ++ more)) (whole8 n small)
    ∙ ap (λ b. if b then Some (take n (payload ++ more)) else None) yes
    ∙ ap (λ (l : List ℕ). Some l) (take_at payload more n refl)

some_same : {x y : List ℕ} → Some x ≡ Some y → x ≡ y
some_same e = cc

-- the first record, and what is behind it
first_of : (payload : List ℕ) (payloads : List (List ℕ)) (rest : List ℕ)
    → flat_map record_bytes (payload ∷ payloads) ++ rest ≡ record_bytes payload ++ (flat_map record_bytes payloads ++ rest)
first_of payload payloads rest = append_assoc (record_bytes payload) (flat_map record_bytes payloads) rest

not_none : (payload : List ℕ) → Some payload ≡ None → ⊥
not_none payload e = cc

one_list : (payloads others : List (List ℕ)) (rest left : List ℕ) → AreShort payloads → AreShort others → NoRecord rest → NoRecord left
    → flat_map record_bytes payloads ++ rest ≡ flat_map record_bytes others ++ left → payloads ≡ others
one_list [] [] rest left short few none nothing e = refl
one_list [] (q ∷ qs) rest left short few none nothing e =
    let is : rest ≡ record_bytes q ++ (flat_map record_bytes qs ++ left) = e ∙ first_of q qs left in
    absurd (not_none q (sym (first_again q (flat_map record_bytes qs ++ left) few.0) ∙ ap first_record (sym is) ∙ none))
one_list (p ∷ ps) [] rest left short few none nothing e =
    let is : left ≡ record_bytes p ++ (flat_map record_bytes ps ++ rest) = sym e ∙ first_of p ps rest in
    absurd (not_none p (sym (first_again p (flat_map record_bytes ps ++ rest) short.0) ∙ ap first_record (sym is) ∙ nothing))
one_list (p ∷ ps) (q ∷ qs) rest left short few none nothing e =
    let more = flat_map record_bytes ps ++ rest in
    let others = flat_map record_bytes qs ++ left in
    let whole : record_bytes p ++ more ≡ record_bytes q ++ others = sym (first_of p ps rest) ∙ e ∙ first_of q qs left in
    let same : p ≡ q = some_same (sym (first_again p more short.0) ∙ ap first_record whole ∙ first_again q others few.0) in
    let size : length (record_bytes q) ≡ length (record_bytes p) = ap (λ (l : List ℕ). length (record_bytes l)) (sym same) in
    let behind : more ≡ others =
    sym (drop_at (record_bytes p) more (length (record_bytes p)) refl) ∙ ap (drop (length (record_bytes p))) whole
    ∙ drop_at (record_bytes q) others (length (record_bytes p)) size in
    let tails = one_list ps qs rest left short.1 few.1 none nothing behind in
    λ i. same i ∷ tails i

one_log : (payloads others : List (List ℕ)) (bytes : List ℕ) → IsLog payloads bytes → IsLog others bytes → payloads ≡ others
one_log payloads others bytes log other =
    let here : magic ++ (flat_map record_bytes payloads ++ log.ends.rest) ≡ magic ++ (flat_map record_bytes others ++ other.ends.rest) =
    sym (append_assoc magic (flat_map record_bytes payloads) log.ends.rest) ∙ sym log.ends.is ∙ other.ends.is
    ∙ append_assoc magic (flat_map record_bytes others) other.ends.rest in
    one_list payloads others log.ends.rest other.ends.rest log.short other.short log.ends.none other.ends.none
    (ap (λ (l : List ℕ). drop 8 l) here)

flat_more : (payloads : List (List ℕ)) (payload : List ℕ)
    → flat_map record_bytes payloads ++ record_bytes payload ≡ flat_map record_bytes (payloads ++ payload ∷ [])
flat_more [] payload = sym (append-nil (record_bytes payload))
flat_more (p ∷ ps) payload =
    append_assoc (record_bytes p) (flat_map record_bytes ps) (record_bytes payload)
    ∙ ap (λ (l : List ℕ). record_bytes p ++ l) (flat_more ps payload)

pub log_laws : LogLaws
log_laws = record {
  one = one_log;
  more = λ payloads payload.
      append_assoc magic (flat_map record_bytes payloads) (record_bytes payload) ∙ ap (λ (l : List ℕ). magic ++ l) (flat_more payloads payload);
}
