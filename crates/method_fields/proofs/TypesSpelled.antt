-- The types that are cut out of a descriptor are spelled as types.
use Rattle.std.proofs.Common.{◌≡◌, ℕ, ◌+◌, ◌-◌, ◌<◌, ◌≤◌, Bool, true, false, cond, List, [], ◌∷◌, length, take, drop, Option, Some, None, refl, sym, ap, subst, ◌∙◌, arith, length-drop, get_or-take}
use Rattle.std.specs.Prelude.{IsTrue, nat_le, nat_lt, ◌==◌, ◌&&◌, ◌||◌, not, slice_index}
use Rattle.std.specs.List.{All, position, position_or_len}
use Rattle.std.proofs.lemmas.Bool.{lt-ltb, eq-eqb, and_parts}
use Rattle.std.proofs.lemmas.List.{length-take-le, drop-take}
use Rattle.std.proofs.lemmas.List.Quantifiers.{position-Some}
use Rattle.std.proofs.lemmas.List.Sums.{position_or_len_is}
use Rattle.toml.specs.Data.{Members}
use Rattle.vet_base.specs.Script.{test}
use Rattle.app_machine.specs.declared.call.Proto.{Proto}
use Rattle.form_fields.specs.declared.fault.Fault.TheVariants.{Range}
use Rattle.form_fields.specs.declared.words.Section.{Section}
use Rattle.form_fields.specs.declared.words.Key.{Key}
use Rattle.form_fields.specs.declared.words.Key.TheVariants as key
use Rattle.form_fields.specs.declared.spelling.Spelling.TheVariants as spelling
use Rattle.method_fields.specs.Descriptor.{is_primitive, ends_at, first_semicolon, base_length, first_of_base, plus, behind, type_length, has_param, param_of, param_at, params_of, is_type, is_void, has_result, has_params, proto_of}
use Rattle.form_fields.specs.Fields.{text_at}
use Rattle.method_fields.specs.Signature.{proto_at}
use Rattle.method_fields.specs.Spelled.{SpelledProto}
use Rattle.form_fields.proofs.Yields.{Yields, yields_value, yields_tested, yields_never, yields_then, yields_past, yields_sweep_all}

-- the first item that passes is the same in a front of the list that holds it
in_front : (p : ℕ → Bool) (s : List ℕ) (i n : ℕ) → position p s ≡ Some i → i < n → n ≤ length s → position p (take n s) ≡ Some i
in_front p s i n e lt le =
    let found = position-Some p s i 0 e in
    let long : length (take n s) ≡ n = length-take-le n s le in
    let at : position_or_len p (take n s) ≡ i = position_or_len_is p (take n s) i 0 (omega arith)
    (λ k under. let within : k < n = omega arith in ap p (get_or-take n s k 0 within) ∙ found.2 k under)
    (λ _. ap p (get_or-take n s i 0 lt) ∙ found.1) in
    let below : nat_lt i (length (take n s)) ≡ true = lt-ltb _ _ (omega arith) in
    rw (at, below) refl

-- a length that is told by the items which it counts
record Front (f : List ℕ → Option ℕ) (n : ℕ) (s : List ℕ) : Type 0 where
  some : 0 < n
  within : n ≤ length s
  same : f (take n s) ≡ Some n

ends_front : (s : List ℕ) (o : Option ℕ) (n : ℕ) → first_semicolon s ≡ o → ends_at o ≡ Some n → Front (λ t. ends_at (first_semicolon t)) n s
unfolding first_semicolon
ends_front s None n e f = absurd cc
ends_front s (Some i) n e f = by (nat_le 2 i) f
  where
    by : (b : Bool) → cond b (Some (i + 1)) None ≡ Some n → Front (λ t. ends_at (first_semicolon t)) n s
    by true g =
        let long : i + 1 ≡ n = cc in
        let lt : i < length s = (position-Some (λ b. b == 59) s i 0 e).0 in
        record { some = omega arith; within = omega arith; same = ap ends_at (in_front (λ b. b == 59) s i n e (omega arith) (omega arith)) ∙ f }
    by false g = absurd cc

base_is : (s : List ℕ) (primitive class : Bool) → is_primitive (slice_index s 0) ≡ primitive → (slice_index s 0 == 76) ≡ class → base_length s ≡ cond primitive (Some 1) (cond class (ends_at (first_semicolon s)) None)
unfolding base_length
base_is s primitive class p c = rw (p, c) refl

not_empty : (s : List ℕ) → is_primitive (slice_index s 0) ≡ true → 0 < length s
unfolding is_primitive
not_empty [] p = absurd cc
not_empty (b ∷ bs) p = omega arith

base_cases : (s : List ℕ) (n : ℕ) (primitive class : Bool) → is_primitive (slice_index s 0) ≡ primitive → (slice_index s 0 == 76) ≡ class → cond primitive (Some 1) (cond class (ends_at (first_semicolon s)) None) ≡ Some n → Front base_length n s
base_cases s n true class p c e =
    let one : 1 ≡ n = cc in
    let some : 0 < length s = not_empty s p in
    let first : slice_index (take 1 s) 0 ≡ slice_index s 0 = get_or-take 1 s 0 0 (omega arith) in
    subst (λ (k : ℕ). Front base_length k s) one
    (record { some = omega arith; within = omega arith; same = base_is (take 1 s) true class (ap is_primitive first ∙ p) (ap (λ (b : ℕ). b == 76) first ∙ c) })
base_cases s n false true p c e =
    let front = ends_front s (first_semicolon s) n refl e in
    let some : 0 < n = front.some in
    let first : slice_index (take n s) 0 ≡ slice_index s 0 = get_or-take n s 0 0 some in
    record { some = some; within = front.within; same = base_is (take n s) false true (ap is_primitive first ∙ p) (ap (λ (b : ℕ). b == 76) first ∙ c) ∙ front.same }
base_cases s n false false p c e = absurd cc

base_front : (s : List ℕ) (n : ℕ) → base_length s ≡ Some n → Front base_length n s
base_front s n e = base_cases s n (is_primitive (slice_index s 0)) (slice_index s 0 == 76) refl refl (sym (base_is s _ _ refl refl) ∙ e)

behind_front : (s : List ℕ) (i m : ℕ) → first_of_base s ≡ Some i → nat_le i 255 ≡ true → base_length (drop i s) ≡ Some m → Front type_length (i + m) s
unfolding type_length first_of_base
behind_front s i m e few base =
    let front = base_front (drop i s) m base in
    let some : 0 < m = front.some in
    let lt : i < length s = (position-Some (λ b. not (b == 91)) s i 0 e).0 in
    let within : m ≤ length (drop i s) = front.within in
    let long : length (drop i s) ≡ length s - i = length-drop i s in
    let le : i + m ≤ length s = omega arith in
    let first : first_of_base (take (i + m) s) ≡ Some i = in_front (λ b. not (b == 91)) s i (i + m) e (omega arith) le in
    let rest : base_length (drop i (take (i + m) s)) ≡ Some m = ap base_length (drop-take i m s) ∙ front.same in
    record { some = omega arith; within = le; same = rw (first, few, rest) refl }

type_cases : (s : List ℕ) (n : ℕ) (o : Option ℕ) → first_of_base s ≡ o → behind s o ≡ Some n → Front type_length n s
type_cases s n None e f = absurd cc
type_cases s n (Some i) e f = few (nat_le i 255) refl f
  where
    based : (o : Option ℕ) → nat_le i 255 ≡ true → base_length (drop i s) ≡ o → plus i o ≡ Some n → Front type_length n s
    based None b g h = absurd cc
    based (Some m) b g h = let sum : i + m ≡ n = cc in subst (λ (k : ℕ). Front type_length k s) sum (behind_front s i m e b g)

    few : (b : Bool) → nat_le i 255 ≡ b → cond b (plus i (base_length (drop i s))) None ≡ Some n → Front type_length n s
    few true b h = based (base_length (drop i s)) b refl h
    few false b h = absurd cc

type_front : (s : List ℕ) (n : ℕ) → type_length s ≡ Some n → Front type_length n s
unfolding type_length
type_front s n e = type_cases s n (first_of_base s) refl e

-- the type at the head of a text is a type
head_is_type : (s : List ℕ) (n : ℕ) → type_length s ≡ Some n → IsTrue (is_type (take n s))
unfolding is_type
head_is_type s n e =
    let front = type_front s n e in
    let long : length (take n s) ≡ n = length-take-le n s front.within in
    rw (front.same) (eq-eqb n (length (take n s)) (sym long))

abbrev Typed : List ℕ → Type 0
Typed type = IsTrue (is_type type)

param_typed : (s : Section) (k : Key) (text : List ℕ) (at : ℕ) (o : Option ℕ) → type_length (drop at text) ≡ o → Yields (λ r. Typed r.0) (param_of s k text at o)
param_typed s k text at None e = yields_never _ (Range s k) _
param_typed s k text at (Some n) e = yields_value _ (take n (drop at text), at + n) (head_is_type (drop at text) n e)

params_typed : (s : Section) (k : Key) (text : List ℕ) → Yields (λ r. All Typed r.0) (params_of s k text)
unfolding params_of param_at
params_typed s k text = yields_sweep_all Typed (has_param text) (param_at s k text) (λ at. param_typed s k text at (type_length (drop at text)) refl) (length text) 1

result_typed : (text : List ℕ) (at : ℕ) → IsTrue (has_result text at) → IsTrue (is_void (drop (at + 1) text) || is_type (drop (at + 1) text))
unfolding has_result
result_typed text at h = (and_parts (nat_lt at (length text) && (slice_index text at == 41)) (is_void (drop (at + 1) text) || is_type (drop (at + 1) text)) h).1

proto_typed : (s : Section) (k : Key) (text : List ℕ) → Yields SpelledProto (proto_of s k text)
unfolding proto_of
proto_typed s k text =
    yields_past _ (test (has_params text) (Range s k)) _
    (λ _. yields_then (λ r. All Typed r.0) _ (params_of s k text) _ (params_typed s k text)
    (λ params all. yields_tested _ (has_result text params.1) (Range s k) (record { params = params.0; ret = drop (params.1 + 1) text })
    (λ h. record { params = all; result = result_typed text params.1 h })))

pub proto_spelled : (s : Section) (t : Members) → Yields (λ r. SpelledProto r.0) (proto_at s t)
unfolding proto_at
proto_spelled s t =
    yields_past _ (text_at s key.Proto spelling.Any t) _
    (λ descriptor. yields_then SpelledProto _ (proto_of s key.Proto descriptor) _ (proto_typed s key.Proto descriptor)
    (λ proto typed. yields_value _ _ typed))
