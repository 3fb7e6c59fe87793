-- What is read of any bytes is what is written there.
use Rattle.std.proofs.Common.{◌≡◌, ◌⊎◌, inl, inr, ℕ, zero, suc, ◌+◌, ◌*◌, ◌/◌, ◌%◌, ◌<◌, ◌≤◌, ◌==◌, Bool, true, false, List, [], ◌∷◌, ◌++◌, length, take, drop, Ok, refl, sym, ap, subst, ◌∙◌, append_assoc, arith}
use Rattle.std.specs.Prelude.{nat_le, if◌then◌else◌}
use Rattle.std.specs.List.{flat_map}
use Rattle.std.proofs.lemmas.Bool.{eqb-true, leb-true}
use Rattle.std.proofs.lemmas.Bool.Decides.{nat_tests}
use Rattle.std.proofs.lemmas.List.{append-nil, take-append-drop, length-take-le}
use Rattle.vet_base.specs.Script.{Value, Test, run, repeat, ◌>>=◌, test}
use Rattle.vet_base.proofs.Results.{ok_parts}
use Rattle.vet_base.proofs.Runs.{bind_ok, test_ok, value_is}
use Rattle.gated_log.specs.Format.{u8_bytes, u8_of}
use Rattle.case_rules.specs.declared.case.Appeal.{Appeal}
use Rattle.case_rules.specs.declared.case.Content.{Content}
use Rattle.case_rules.specs.declared.case.Decision.{Decision}
use Rattle.case_rules.specs.declared.case.OutcomeWord.{OutcomeWord}
use Rattle.case_rules.specs.declared.case.OutcomeWord.TheVariants.{Clear, Flagged, Undecided, Refused}
use Rattle.case_rules.specs.declared.case.Ruling.{Ruling}
use Rattle.case_rules.specs.declared.case.RulingWord.{RulingWord}
use Rattle.case_rules.specs.declared.case.RulingWord.TheVariants.{Uphold, Overturn}
use Rattle.case_rules.specs.declared.reply.Change.{Change}
use Rattle.case_rules.specs.declared.reply.Change.TheVariants as changes
use Rattle.case_rules.specs.Cases.{new_case}
use Rattle.case_records.specs.declared.fault.NoPayload.{NoPayload}
use Rattle.case_records.specs.declared.fault.NoPayload.TheVariants.{Cut, Bad, Rest}
use Rattle.case_records.specs.Fitting.{IsSmall, TextFits, AllFit, ContentFits, DecisionFits, AppealFits, RulingFits, NamesFit, ChangeFits}
use Rattle.case_records.specs.Laws.{AreBytes, ChangesAreFound}
use Rattle.case_records.specs.Reading.{Reading, byte_from, u4_from, u8_from, bytes_from, text_from, end_from, texts_of, content_of, outcome_of, decision_of, appeal_of, word_of, ruling_of, with, no_change, named_change, change_of}
use Rattle.case_records.specs.Spelling.{u4_bytes, text_bytes, texts_bytes, content_bytes, outcome_byte, decision_bytes, appeal_bytes, word_byte, ruling_bytes, named_bytes, change_bytes}
use Rattle.gated_log.proofs.Eights.{eight, eight_small}

-- the bytes begin with what was read, which could be written
record Begins {A : Type 0} (spelled : A → List ℕ) (Fits : A → Type 0) (bytes : List ℕ) (x : A) (rest : List ℕ) : Type 0 where
  is : bytes ≡ spelled x ++ rest
  fits : Fits x
  left : AreBytes rest

-- the bytes are what was read
record Is {A : Type 0} (spelled : A → List ℕ) (Fits : A → Type 0) (bytes : List ℕ) (x : A) : Type 0 where
  is : bytes ≡ spelled x
  fits : Fits x

are_behind : (n : ℕ) (bytes : List ℕ) → AreBytes bytes → AreBytes (drop n bytes)
are_behind zero bytes are = are
are_behind (suc n) [] are = tt
are_behind (suc n) (x ∷ xs) are = are_behind n xs are.1

byte_found : (bytes : List ℕ) (n : ℕ) (rest : List ℕ) → AreBytes bytes → run (byte_from bytes) ≡ Ok (n, rest)
    → (bytes ≡ n ∷ rest) × AreBytes rest
byte_found [] n rest are e = absurd cc
byte_found (x ∷ more) n rest are e =
    let p = ok_parts x n more rest (Ok (x, more)) refl e in
    ((λ i. p.0 i ∷ p.1 i), subst AreBytes p.1 are.1)

four : (a b c d : ℕ) → a < 256 → b < 256 → c < 256 → d < 256 → u4_bytes (a + 256 * b + 65536 * c + 16777216 * d) ≡ a ∷ b ∷ c ∷ d ∷ []
four a b c d ha hb hc hd =
    let n = a + 256 * b + 65536 * c + 16777216 * d in
    let one : n % 256 ≡ a = omega arith in
    let two : n / 256 % 256 ≡ b = omega arith in
    let three : n / 65536 % 256 ≡ c = omega arith in
    let last : n / 16777216 % 256 ≡ d = omega arith in
    λ i. one i ∷ two i ∷ three i ∷ last i ∷ []

u4_found : (bytes : List ℕ) (n : ℕ) (rest : List ℕ) → AreBytes bytes → run (u4_from bytes) ≡ Ok (n, rest) → Begins u4_bytes IsSmall bytes n rest
u4_found [] n rest h e = absurd cc
u4_found (a ∷ []) n rest h e = absurd cc
u4_found (a ∷ b ∷ []) n rest h e = absurd cc
u4_found (a ∷ b ∷ c ∷ []) n rest h e = absurd cc
u4_found (a ∷ b ∷ c ∷ d ∷ more) n rest h e =
    let ha : a < 256 = h.0 in
    let hb : b < 256 = h.1.0 in
    let hc : c < 256 = h.1.1.0 in
    let hd : d < 256 = h.1.1.1.0 in
    let p = ok_parts (a + 256 * b + 65536 * c + 16777216 * d) n more rest (Ok (a + 256 * b + 65536 * c + 16777216 * d, more)) refl e in
    let small : a + 256 * b + 65536 * c + 16777216 * d < 4294967296 = omega arith in
    record {
      is = ap (λ (bs : List ℕ). bs ++ more) (sym (four a b c d ha hb hc hd)) ∙ (λ i. u4_bytes (p.0 i) ++ p.1 i);
      fits = subst IsSmall p.0 small;
      left = subst AreBytes p.1 h.1.1.1.1;
    }

abbrev IsLong : ℕ → Type 0
IsLong n = n < 18446744073709551616

u8_found : (bytes : List ℕ) (n : ℕ) (rest : List ℕ) → AreBytes bytes → run (u8_from bytes) ≡ Ok (n, rest) → Begins u8_bytes IsLong bytes n rest
u8_found [] n rest are e = absurd cc
u8_found (a ∷ []) n rest are e = absurd cc
u8_found (a ∷ b ∷ []) n rest are e = absurd cc
u8_found (a ∷ b ∷ c ∷ []) n rest are e = absurd cc
u8_found (a ∷ b ∷ c ∷ d ∷ []) n rest are e = absurd cc
u8_found (a ∷ b ∷ c ∷ d ∷ x ∷ []) n rest are e = absurd cc
u8_found (a ∷ b ∷ c ∷ d ∷ x ∷ f ∷ []) n rest are e = absurd cc
u8_found (a ∷ b ∷ c ∷ d ∷ x ∷ f ∷ g ∷ []) n rest are e = absurd cc
u8_found (a ∷ b ∷ c ∷ d ∷ x ∷ f ∷ g ∷ h ∷ more) n rest are e =
    let r = are.1.1.1.1 in
    let p = ok_parts (u8_of a b c d x f g h) n more rest (Ok (u8_of a b c d x f g h, more)) refl e in
    record {
      is = ap (λ (bs : List ℕ). bs ++ more) (sym (eight a b c d x f g h are.0 are.1.0 are.1.1.0 are.1.1.1.0 r.0 r.1.0 r.1.1.0 r.1.1.1.0))
          ∙ (λ i. u8_bytes (p.0 i) ++ p.1 i);
      fits = subst IsLong p.0 (eight_small a b c d x f g h are.0 are.1.0 are.1.1.0 are.1.1.1.0 r.0 r.1.0 r.1.1.0 r.1.1.1.0);
      left = subst AreBytes p.1 r.1.1.1.1;
    }

bytes_found : (n : ℕ) (bytes found rest : List ℕ) → AreBytes bytes → run (bytes_from n bytes) ≡ Ok (found, rest)
    → (bytes ≡ found ++ rest) × (length found ≡ n) × AreBytes rest
unfolding bytes_from
bytes_found n bytes found rest are e =
    let a = test_ok (nat_le n (length bytes)) Cut (Value (take n bytes, drop n bytes)) (found, rest) e in
    let p = ok_parts (take n bytes) found (drop n bytes) rest (Ok (take n bytes, drop n bytes)) refl a.1 in
    let long : n ≤ length bytes = leb-true n (length bytes) a.0 in
    (sym (take-append-drop n bytes) ∙ (λ i. p.0 i ++ p.1 i), ap length (sym p.0) ∙ length-take-le n bytes long, subst AreBytes p.1 (are_behind n bytes are))

text_found : (bytes text rest : List ℕ) → AreBytes bytes → run (text_from bytes) ≡ Ok (text, rest) → Begins text_bytes TextFits bytes text rest
unfolding text_from text_bytes
text_found bytes text rest are e =
    let a = bind_ok (u8_from bytes) (λ n. bytes_from n.0 n.1) (text, rest) e in
    let number = u8_found bytes a.0.0 a.0.1 are a.1 in
    let b = bytes_found a.0.0 a.0.1 text rest number.left a.2 in
    record {
      is = number.is ∙ (let size = sym b.1 in λ i. u8_bytes (size i) ++ b.0 i) ∙ sym (append_assoc (u8_bytes (length text)) text rest);
      fits = record { short = subst IsLong (sym b.1) number.fits };
      left = b.2;
    }

end_found : (bytes : List ℕ) → run (end_from bytes) ≡ Ok tt → bytes ≡ []
unfolding end_from
end_found [] e = refl
end_found (x ∷ xs) e =
    let a = test_ok (length (x ∷ xs) == 0) Rest (Value tt) tt e in
    let size : length (x ∷ xs) ≡ 0 = eqb-true (length (x ∷ xs)) 0 a.0 in
    let none : ⊥ = omega (arith, size) in
    absurd none

-- where the end came, what began the bytes is all of them
all_of : {A : Type 0} (spelled : A → List ℕ) (Fits : A → Type 0) (bytes : List ℕ) (x : A) (rest : List ℕ) → rest ≡ [] → Begins spelled Fits bytes x rest
    → bytes ≡ spelled x
all_of spelled Fits bytes x rest none begins = begins.is ∙ ap (λ (l : List ℕ). spelled x ++ l) none ∙ append-nil (spelled x)

each_found : (n : ℕ) (bytes : List ℕ) (texts : List (List ℕ)) (rest : List ℕ) → AreBytes bytes
    → run (repeat n text_from bytes) ≡ Ok (texts, rest)
    → (bytes ≡ flat_map text_bytes texts ++ rest) × (length texts ≡ n) × AllFit texts
unfolding repeat
each_found zero bytes texts rest are e =
    let p = ok_parts [] texts bytes rest (Ok ([], bytes)) refl e in
    (p.1 ∙ ap (λ (ts : List (List ℕ)). flat_map text_bytes ts ++ rest) p.0, ap length (sym p.0), subst AllFit p.0 tt)
each_found (suc n) bytes texts rest are e =
    let a = bind_ok (text_from bytes) (λ first. repeat n text_from first.1 >>= λ others. Value (first.0 ∷ others.0, others.1)) (texts, rest) e in
    let first = text_found bytes a.0.0 a.0.1 are a.1 in
    let b = bind_ok (repeat n text_from a.0.1) (λ others. Value (a.0.0 ∷ others.0, others.1)) (texts, rest) a.2 in
    let others = each_found n a.0.1 b.0.0 b.0.1 first.left b.1 in
    let p = ok_parts (a.0.0 ∷ b.0.0) texts b.0.1 rest (Ok (a.0.0 ∷ b.0.0, b.0.1)) refl b.2 in
    let whole : bytes ≡ flat_map text_bytes (a.0.0 ∷ b.0.0) ++ b.0.1 =
    first.is ∙ ap (λ (l : List ℕ). text_bytes a.0.0 ++ l) others.0 ∙ sym (append_assoc (text_bytes a.0.0) (flat_map text_bytes b.0.0) b.0.1) in
    let count : length (a.0.0 ∷ b.0.0) ≡ suc n = ap suc others.1 in
    (whole ∙ (λ i. flat_map text_bytes (p.0 i) ++ p.1 i), ap length (sym p.0) ∙ count, subst AllFit p.0 (first.fits, others.2))

abbrev TextsFit : List (List ℕ) → Type 0
TextsFit texts = IsLong (length texts) × AllFit texts

texts_found : (bytes : List ℕ) (texts : List (List ℕ)) → AreBytes bytes → run (texts_of bytes) ≡ Ok texts → Is texts_bytes TextsFit bytes texts
unfolding texts_of texts_bytes
texts_found bytes texts are e =
    let a = bind_ok (u8_from bytes) (λ n. repeat n.0 text_from n.1 >>= λ ts. end_from ts.1 >>= λ _. Value ts.0) texts e in
    let number = u8_found bytes a.0.0 a.0.1 are a.1 in
    let b = bind_ok (repeat a.0.0 text_from a.0.1) (λ ts. end_from ts.1 >>= λ _. Value ts.0) texts a.2 in
    let each = each_found a.0.0 a.0.1 b.0.0 b.0.1 number.left b.1 in
    let c = bind_ok (end_from b.0.1) (λ _. Value b.0.0) texts b.2 in
    let none : b.0.1 ≡ [] = end_found b.0.1 c.1 in
    let same : b.0.0 ≡ texts = value_is {F = NoPayload} b.0.0 texts c.2 in
    let parts : a.0.1 ≡ flat_map text_bytes b.0.0 = each.0 ∙ ap (λ (l : List ℕ). flat_map text_bytes b.0.0 ++ l) none ∙ append-nil (flat_map text_bytes b.0.0) in
    let whole : bytes ≡ u8_bytes (length b.0.0) ++ flat_map text_bytes b.0.0 = number.is ∙ (let size = sym each.1 in λ i. u8_bytes (size i) ++ parts i) in
    record {
      is = whole ∙ ap (λ (ts : List (List ℕ)). u8_bytes (length ts) ++ flat_map text_bytes ts) same;
      fits = subst TextsFit same (subst IsLong (sym each.1) number.fits, each.2);
    }

content_found : (bytes : List ℕ) (content : Content) → AreBytes bytes → run (content_of bytes) ≡ Ok content → Is content_bytes ContentFits bytes content
unfolding content_of content_bytes
content_found bytes content are e =
    let a = bind_ok (text_from bytes) (λ m. text_from m.1 >>= λ l. text_from l.1 >>= λ d. texts_of d.1 >>= λ dex. Value (record { manifest = m.0; layouts = l.0; declaration = d.0; dex = dex })) content e in
    let manifest = text_found bytes a.0.0 a.0.1 are a.1 in
    let b = bind_ok (text_from a.0.1) (λ l. text_from l.1 >>= λ d. texts_of d.1 >>= λ dex. Value (record { manifest = a.0.0; layouts = l.0; declaration = d.0; dex = dex })) content a.2 in
    let layouts = text_found a.0.1 b.0.0 b.0.1 manifest.left b.1 in
    let c = bind_ok (text_from b.0.1) (λ d. texts_of d.1 >>= λ dex. Value (record { manifest = a.0.0; layouts = b.0.0; declaration = d.0; dex = dex })) content b.2 in
    let declaration = text_found b.0.1 c.0.0 c.0.1 layouts.left c.1 in
    let d = bind_ok (texts_of c.0.1) (λ dex. Value (record { manifest = a.0.0; layouts = b.0.0; declaration = c.0.0; dex = dex })) content c.2 in
    let dex = texts_found c.0.1 d.0 declaration.left d.1 in
    let made : Content = record { manifest = a.0.0; layouts = b.0.0; declaration = c.0.0; dex = d.0 } in
    let same : made ≡ content = value_is {F = NoPayload} made content d.2 in
    let whole : bytes ≡ text_bytes a.0.0 ++ (text_bytes b.0.0 ++ (text_bytes c.0.0 ++ texts_bytes d.0)) =
    manifest.is ∙ ap (λ (l : List ℕ). text_bytes a.0.0 ++ l) (layouts.is ∙ ap (λ (l : List ℕ). text_bytes b.0.0 ++ l) (declaration.is ∙ ap (λ (l : List ℕ). text_bytes c.0.0 ++ l) dex.is)) in
    let fits : ContentFits made = record { manifest = manifest.fits; layouts = layouts.fits; declaration = declaration.fits; count = dex.fits.0; dex = dex.fits.1 } in
    record { is = whole ∙ ap (λ (x : Content). content_bytes x) same; fits = subst ContentFits same fits }

by_test : {A : Type 0} (b : Bool) (s t : Reading A) (y : A) → run (if b then s else t) ≡ Ok y → ((b ≡ true) × (run s ≡ Ok y)) ⊎ ((b ≡ false) × (run t ≡ Ok y))
by_test true s t y e = inl (refl, e)
by_test false s t y e = inr (refl, e)

is_number : (x n : ℕ) → (x == n) ≡ true → x ≡ n
is_number x n h = grind (arith, nat_tests)

outcome_found : (byte : ℕ) (outcome : OutcomeWord) → run (outcome_of byte) ≡ Ok outcome → byte ≡ outcome_byte outcome
unfolding outcome_of
outcome_found byte outcome e = first (by_test (byte == 0) (Value Clear) (if byte == 1 then Value Flagged else if byte == 2 then Value Undecided else if byte == 3 then Value Refused else Test false Bad (Value Clear)) outcome e)
  where
    last : ((byte == 3) ≡ true) × (run {F = NoPayload} (Value Refused) ≡ Ok outcome) ⊎ ((byte == 3) ≡ false) × (run (Test false Bad (Value Clear)) ≡ Ok outcome)
        → byte ≡ outcome_byte outcome
    last (inl t) = is_number byte 3 t.0 ∙ ap outcome_byte (value_is {F = NoPayload} Refused outcome t.1)
    last (inr t) = let none = t.1 in absurd cc

    third : ((byte == 2) ≡ true) × (run {F = NoPayload} (Value Undecided) ≡ Ok outcome) ⊎ ((byte == 2) ≡ false) × (run (if byte == 3 then Value Refused else Test false Bad (Value Clear)) ≡ Ok outcome)
        → byte ≡ outcome_byte outcome
    third (inl t) = is_number byte 2 t.0 ∙ ap outcome_byte (value_is {F = NoPayload} Undecided outcome t.1)
    third (inr t) = last (by_test (byte == 3) (Value Refused) (Test false Bad (Value Clear)) outcome t.1)

    second : ((byte == 1) ≡ true) × (run {F = NoPayload} (Value Flagged) ≡ Ok outcome) ⊎ ((byte == 1) ≡ false) × (run (if byte == 2 then Value Undecided else if byte == 3 then Value Refused else Test false Bad (Value Clear)) ≡ Ok outcome)
        → byte ≡ outcome_byte outcome
    second (inl t) = is_number byte 1 t.0 ∙ ap outcome_byte (value_is {F = NoPayload} Flagged outcome t.1)
    second (inr t) = third (by_test (byte == 2) (Value Undecided) (if byte == 3 then Value Refused else Test false Bad (Value Clear)) outcome t.1)

    first : ((byte == 0) ≡ true) × (run {F = NoPayload} (Value Clear) ≡ Ok outcome) ⊎ ((byte == 0) ≡ false) × (run (if byte == 1 then Value Flagged else if byte == 2 then Value Undecided else if byte == 3 then Value Refused else Test false Bad (Value Clear)) ≡ Ok outcome)
        → byte ≡ outcome_byte outcome
    first (inl t) = is_number byte 0 t.0 ∙ ap outcome_byte (value_is {F = NoPayload} Clear outcome t.1)
    first (inr t) = second (by_test (byte == 1) (Value Flagged) (if byte == 2 then Value Undecided else if byte == 3 then Value Refused else Test false Bad (Value Clear)) outcome t.1)

word_found : (byte : ℕ) (word : RulingWord) → run (word_of byte) ≡ Ok word → byte ≡ word_byte word
unfolding word_of
word_found byte word e = first (by_test (byte == 0) (Value Uphold) (if byte == 1 then Value Overturn else Test false Bad (Value Uphold)) word e)
  where
    last : ((byte == 1) ≡ true) × (run {F = NoPayload} (Value Overturn) ≡ Ok word) ⊎ ((byte == 1) ≡ false) × (run (Test false Bad (Value Uphold)) ≡ Ok word)
        → byte ≡ word_byte word
    last (inl t) = is_number byte 1 t.0 ∙ ap word_byte (value_is {F = NoPayload} Overturn word t.1)
    last (inr t) = let none = t.1 in absurd cc

    first : ((byte == 0) ≡ true) × (run {F = NoPayload} (Value Uphold) ≡ Ok word) ⊎ ((byte == 0) ≡ false) × (run (if byte == 1 then Value Overturn else Test false Bad (Value Uphold)) ≡ Ok word)
        → byte ≡ word_byte word
    first (inl t) = is_number byte 0 t.0 ∙ ap word_byte (value_is {F = NoPayload} Uphold word t.1)
    first (inr t) = last (by_test (byte == 1) (Value Overturn) (Test false Bad (Value Uphold)) word t.1)

decision_found : (bytes : List ℕ) (decision : Decision) → AreBytes bytes → run (decision_of bytes) ≡ Ok decision → Is decision_bytes DecisionFits bytes decision
unfolding decision_of decision_bytes
decision_found bytes decision are e =
    let a = bind_ok (byte_from bytes) (λ byte. outcome_of byte.0 >>= λ outcome. text_from byte.1 >>= λ report. bytes_from 32 report.1 >>= λ lists. text_from lists.1 >>= λ reviewer. u4_from reviewer.1 >>= λ day. end_from day.1 >>= λ _. Value (record { outcome = outcome; report = report.0; lists = lists.0; reviewer = reviewer.0; day = day.0 })) decision e in
    let byte = byte_found bytes a.0.0 a.0.1 are a.1 in
    let b = bind_ok (outcome_of a.0.0) (λ outcome. text_from a.0.1 >>= λ report. bytes_from 32 report.1 >>= λ lists. text_from lists.1 >>= λ reviewer. u4_from reviewer.1 >>= λ day. end_from day.1 >>= λ _. Value (record { outcome = outcome; report = report.0; lists = lists.0; reviewer = reviewer.0; day = day.0 })) decision a.2 in
    let c = bind_ok (text_from a.0.1) (λ report. bytes_from 32 report.1 >>= λ lists. text_from lists.1 >>= λ reviewer. u4_from reviewer.1 >>= λ day. end_from day.1 >>= λ _. Value (record { outcome = b.0; report = report.0; lists = lists.0; reviewer = reviewer.0; day = day.0 })) decision b.2 in
    let report = text_found a.0.1 c.0.0 c.0.1 byte.1 c.1 in
    let d = bind_ok (bytes_from 32 c.0.1) (λ lists. text_from lists.1 >>= λ reviewer. u4_from reviewer.1 >>= λ day. end_from day.1 >>= λ _. Value (record { outcome = b.0; report = c.0.0; lists = lists.0; reviewer = reviewer.0; day = day.0 })) decision c.2 in
    let lists = bytes_found 32 c.0.1 d.0.0 d.0.1 report.left d.1 in
    let f = bind_ok (text_from d.0.1) (λ reviewer. u4_from reviewer.1 >>= λ day. end_from day.1 >>= λ _. Value (record { outcome = b.0; report = c.0.0; lists = d.0.0; reviewer = reviewer.0; day = day.0 })) decision d.2 in
    let reviewer = text_found d.0.1 f.0.0 f.0.1 lists.2 f.1 in
    let g = bind_ok (u4_from f.0.1) (λ day. end_from day.1 >>= λ _. Value (record { outcome = b.0; report = c.0.0; lists = d.0.0; reviewer = f.0.0; day = day.0 })) decision f.2 in
    let day = u4_found f.0.1 g.0.0 g.0.1 reviewer.left g.1 in
    let h = bind_ok (end_from g.0.1) (λ _. Value (record { outcome = b.0; report = c.0.0; lists = d.0.0; reviewer = f.0.0; day = g.0.0 })) decision g.2 in
    let made : Decision = record { outcome = b.0; report = c.0.0; lists = d.0.0; reviewer = f.0.0; day = g.0.0 } in
    let same : made ≡ decision = value_is {F = NoPayload} made decision h.2 in
    let last : f.0.1 ≡ u4_bytes g.0.0 = all_of u4_bytes IsSmall f.0.1 g.0.0 g.0.1 (end_found g.0.1 h.1) day in
    let behind : a.0.1 ≡ text_bytes c.0.0 ++ (d.0.0 ++ (text_bytes f.0.0 ++ u4_bytes g.0.0)) =
    report.is ∙ ap (λ (l : List ℕ). text_bytes c.0.0 ++ l) (lists.0 ∙ ap (λ (l : List ℕ). d.0.0 ++ l) (reviewer.is ∙ ap (λ (l : List ℕ). text_bytes f.0.0 ++ l) last)) in
    let first : a.0.0 ≡ outcome_byte b.0 = outcome_found a.0.0 b.0 b.1 in
    let whole : bytes ≡ outcome_byte b.0 ∷ (text_bytes c.0.0 ++ (d.0.0 ++ (text_bytes f.0.0 ++ u4_bytes g.0.0))) = byte.0 ∙ (λ i. first i ∷ behind i) in
    let fits : DecisionFits made = record { report = report.fits; lists = lists.1; reviewer = reviewer.fits; day = day.fits } in
    record { is = whole ∙ ap (λ (x : Decision). decision_bytes x) same; fits = subst DecisionFits same fits }

appeal_found : (bytes : List ℕ) (appeal : Appeal) → AreBytes bytes → run (appeal_of bytes) ≡ Ok appeal → Is appeal_bytes AppealFits bytes appeal
unfolding appeal_of appeal_bytes
appeal_found bytes appeal are e =
    let a = bind_ok (u4_from bytes) (λ day. text_from day.1 >>= λ text. end_from text.1 >>= λ _. Value (record { day = day.0; text = text.0 })) appeal e in
    let day = u4_found bytes a.0.0 a.0.1 are a.1 in
    let b = bind_ok (text_from a.0.1) (λ text. end_from text.1 >>= λ _. Value (record { day = a.0.0; text = text.0 })) appeal a.2 in
    let text = text_found a.0.1 b.0.0 b.0.1 day.left b.1 in
    let c = bind_ok (end_from b.0.1) (λ _. Value (record { day = a.0.0; text = b.0.0 })) appeal b.2 in
    let made : Appeal = record { day = a.0.0; text = b.0.0 } in
    let same : made ≡ appeal = value_is {F = NoPayload} made appeal c.2 in
    let last : a.0.1 ≡ text_bytes b.0.0 = all_of text_bytes TextFits a.0.1 b.0.0 b.0.1 (end_found b.0.1 c.1) text in
    let whole : bytes ≡ u4_bytes a.0.0 ++ text_bytes b.0.0 = day.is ∙ ap (λ (l : List ℕ). u4_bytes a.0.0 ++ l) last in
    let fits : AppealFits made = record { day = day.fits; text = text.fits } in
    record { is = whole ∙ ap (λ (x : Appeal). appeal_bytes x) same; fits = subst AppealFits same fits }

ruling_found : (bytes : List ℕ) (ruling : Ruling) → AreBytes bytes → run (ruling_of bytes) ≡ Ok ruling → Is ruling_bytes RulingFits bytes ruling
unfolding ruling_of ruling_bytes
ruling_found bytes ruling are e =
    let a = bind_ok (text_from bytes) (λ reviewer. u4_from reviewer.1 >>= λ day. byte_from day.1 >>= λ byte. word_of byte.0 >>= λ word. end_from byte.1 >>= λ _. Value (record { reviewer = reviewer.0; day = day.0; word = word })) ruling e in
    let reviewer = text_found bytes a.0.0 a.0.1 are a.1 in
    let b = bind_ok (u4_from a.0.1) (λ day. byte_from day.1 >>= λ byte. word_of byte.0 >>= λ word. end_from byte.1 >>= λ _. Value (record { reviewer = a.0.0; day = day.0; word = word })) ruling a.2 in
    let day = u4_found a.0.1 b.0.0 b.0.1 reviewer.left b.1 in
    let c = bind_ok (byte_from b.0.1) (λ byte. word_of byte.0 >>= λ word. end_from byte.1 >>= λ _. Value (record { reviewer = a.0.0; day = b.0.0; word = word })) ruling b.2 in
    let byte = byte_found b.0.1 c.0.0 c.0.1 day.left c.1 in
    let d = bind_ok (word_of c.0.0) (λ word. end_from c.0.1 >>= λ _. Value (record { reviewer = a.0.0; day = b.0.0; word = word })) ruling c.2 in
    let f = bind_ok (end_from c.0.1) (λ _. Value (record { reviewer = a.0.0; day = b.0.0; word = d.0 })) ruling d.2 in
    let made : Ruling = record { reviewer = a.0.0; day = b.0.0; word = d.0 } in
    let same : made ≡ ruling = value_is {F = NoPayload} made ruling f.2 in
    let none : c.0.1 ≡ [] = end_found c.0.1 f.1 in
    let word : c.0.0 ≡ word_byte d.0 = word_found c.0.0 d.0 d.1 in
    let last : b.0.1 ≡ word_byte d.0 ∷ [] = byte.0 ∙ (λ i. word i ∷ none i) in
    let whole : bytes ≡ text_bytes a.0.0 ++ (u4_bytes b.0.0 ++ word_byte d.0 ∷ []) =
    reviewer.is ∙ ap (λ (l : List ℕ). text_bytes a.0.0 ++ l) (day.is ∙ ap (λ (l : List ℕ). u4_bytes b.0.0 ++ l) last) in
    let fits : RulingFits made = record { reviewer = reviewer.fits; day = day.fits } in
    record { is = whole ∙ ap (λ (x : Ruling). ruling_bytes x) same; fits = subst RulingFits same fits }

-- something that was made of what was read
with_found : {A B : Type 0} (make : A → B) (script : Reading A) (y : B) → run (with make script) ≡ Ok y → (x : A) × (run script ≡ Ok x) × (make x ≡ y)
with_found make script y e =
    let b = bind_ok script (λ x. Value (make x)) y e in
    (b.0, b.1, value_is {F = NoPayload} (make b.0) y b.2)

module _ (party reference bytes : List ℕ) (names : NamesFit party reference) (are : AreBytes bytes) where
  -- the change of this kind, with its name, as it is spelled
  record IsNamed (kind : ℕ) (change : Change) : Type 0 where
    is : named_bytes kind party reference bytes ≡ change_bytes change
    fits : ChangeFits change

  adds : (change : Change) → run (with (λ content. changes.Add (new_case party reference content)) (content_of bytes)) ≡ Ok change → IsNamed 0 change
  unfolding change_bytes
  adds change e =
      let a = with_found (λ content. changes.Add (new_case party reference content)) (content_of bytes) change e in
      let found = content_found bytes a.0 are a.1 in
      let made : IsNamed 0 (changes.Add (new_case party reference a.0)) =
      record { is = ap (λ (l : List ℕ). named_bytes 0 party reference l) found.is; fits = ((names, found.fits), refl) } in
      subst (IsNamed 0) a.2 made

  decides : (change : Change) → run (with (changes.Decide party reference) (decision_of bytes)) ≡ Ok change → IsNamed 1 change
  unfolding change_bytes
  decides change e =
      let a = with_found (changes.Decide party reference) (decision_of bytes) change e in
      let found = decision_found bytes a.0 are a.1 in
      let made : IsNamed 1 (changes.Decide party reference a.0) =
      record { is = ap (λ (l : List ℕ). named_bytes 1 party reference l) found.is; fits = ((names, found.fits), tt) } in
      subst (IsNamed 1) a.2 made

  appeals : (change : Change) → run (with (changes.Appeal party reference) (appeal_of bytes)) ≡ Ok change → IsNamed 2 change
  unfolding change_bytes
  appeals change e =
      let a = with_found (changes.Appeal party reference) (appeal_of bytes) change e in
      let found = appeal_found bytes a.0 are a.1 in
      let made : IsNamed 2 (changes.Appeal party reference a.0) =
      record { is = ap (λ (l : List ℕ). named_bytes 2 party reference l) found.is; fits = ((names, found.fits), tt) } in
      subst (IsNamed 2) a.2 made

  rules : (change : Change) → run (with (changes.Rule party reference) (ruling_of bytes)) ≡ Ok change → IsNamed 3 change
  unfolding change_bytes
  rules change e =
      let a = with_found (changes.Rule party reference) (ruling_of bytes) change e in
      let found = ruling_found bytes a.0 are a.1 in
      let made : IsNamed 3 (changes.Rule party reference a.0) =
      record { is = ap (λ (l : List ℕ). named_bytes 3 party reference l) found.is; fits = ((names, found.fits), tt) } in
      subst (IsNamed 3) a.2 made

  abbrev from_rule : ℕ → Reading Change
  from_rule kind = if kind == 3 then with (changes.Rule party reference) (ruling_of bytes) else no_change

  abbrev from_appeal : ℕ → Reading Change
  from_appeal kind = if kind == 2 then with (changes.Appeal party reference) (appeal_of bytes) else from_rule kind

  abbrev from_decision : ℕ → Reading Change
  from_decision kind = if kind == 1 then with (changes.Decide party reference) (decision_of bytes) else from_appeal kind

  of_kind : (kind n : ℕ) (change : Change) → (kind == n) ≡ true → IsNamed n change → IsNamed kind change
  of_kind kind n change test named = subst (λ k. IsNamed k change) (sym (is_number kind n test)) named

  rule_found : (kind : ℕ) (change : Change) → run (from_rule kind) ≡ Ok change → IsNamed kind change
  rule_found kind change e = pick (by_test (kind == 3) (with (changes.Rule party reference) (ruling_of bytes)) no_change change e)
    where
      pick : ((kind == 3) ≡ true) × (run (with (changes.Rule party reference) (ruling_of bytes)) ≡ Ok change) ⊎ ((kind == 3) ≡ false) × (run no_change ≡ Ok change)
          → IsNamed kind change
      pick (inl t) = of_kind kind 3 change t.0 (rules change t.1)
      pick (inr t) = let none = t.1 in absurd cc

  appeal_or : (kind : ℕ) (change : Change) → run (from_appeal kind) ≡ Ok change → IsNamed kind change
  appeal_or kind change e = pick (by_test (kind == 2) (with (changes.Appeal party reference) (appeal_of bytes)) (from_rule kind) change e)
    where
      pick : ((kind == 2) ≡ true) × (run (with (changes.Appeal party reference) (appeal_of bytes)) ≡ Ok change) ⊎ ((kind == 2) ≡ false) × (run (from_rule kind) ≡ Ok change)
          → IsNamed kind change
      pick (inl t) = of_kind kind 2 change t.0 (appeals change t.1)
      pick (inr t) = rule_found kind change t.1

  decision_or : (kind : ℕ) (change : Change) → run (from_decision kind) ≡ Ok change → IsNamed kind change
  decision_or kind change e = pick (by_test (kind == 1) (with (changes.Decide party reference) (decision_of bytes)) (from_appeal kind) change e)
    where
      pick : ((kind == 1) ≡ true) × (run (with (changes.Decide party reference) (decision_of bytes)) ≡ Ok change) ⊎ ((kind == 1) ≡ false) × (run (from_appeal kind) ≡ Ok change)
          → IsNamed kind change
      pick (inl t) = of_kind kind 1 change t.0 (decides change t.1)
      pick (inr t) = appeal_or kind change t.1

  named_found : (kind : ℕ) (change : Change) → run (named_change kind party reference bytes) ≡ Ok change → IsNamed kind change
  unfolding named_change
  named_found kind change e = pick (by_test (kind == 0) (with (λ content. changes.Add (new_case party reference content)) (content_of bytes)) (from_decision kind) change e)
    where
      pick : ((kind == 0) ≡ true) × (run (with (λ content. changes.Add (new_case party reference content)) (content_of bytes)) ≡ Ok change) ⊎ ((kind == 0) ≡ false) × (run (from_decision kind) ≡ Ok change)
          → IsNamed kind change
      pick (inl t) = of_kind kind 0 change t.0 (adds change t.1)
      pick (inr t) = decision_or kind change t.1

pub changes_found : ChangesAreFound
unfolding change_of
changes_found bytes change are e =
    let a = bind_ok (byte_from bytes) (λ kind. text_from kind.1 >>= λ party. text_from party.1 >>= λ reference. named_change kind.0 party.0 reference.0 reference.1) change e in
    let kind = byte_found bytes a.0.0 a.0.1 are a.1 in
    let b = bind_ok (text_from a.0.1) (λ party. text_from party.1 >>= λ reference. named_change a.0.0 party.0 reference.0 reference.1) change a.2 in
    let party = text_found a.0.1 b.0.0 b.0.1 kind.1 b.1 in
    let c = bind_ok (text_from b.0.1) (λ reference. named_change a.0.0 b.0.0 reference.0 reference.1) change b.2 in
    let reference = text_found b.0.1 c.0.0 c.0.1 party.left c.1 in
    let names : NamesFit b.0.0 c.0.0 = record { party = party.fits; reference = reference.fits } in
    let found = named_found b.0.0 c.0.0 c.0.1 names reference.left a.0.0 change c.2 in
    let whole : bytes ≡ named_bytes a.0.0 b.0.0 c.0.0 c.0.1 =
    kind.0 ∙ ap (λ (l : List ℕ). a.0.0 ∷ l) (party.is ∙ ap (λ (l : List ℕ). text_bytes b.0.0 ++ l) reference.is) in
    record { is = whole ∙ found.is; fits = found.fits }
