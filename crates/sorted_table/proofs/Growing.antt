-- What a row that goes in, and a part that is cut in two, do to all rows and to the numbers of rows.
use Rattle.std.proofs.Common.{◌≡◌, ℕ, zero, suc, ◌+◌, ◌-◌, ◌<◌, ◌≤◌, List, [], ◌∷◌, ◌++◌, length, get_or, take, drop, set, refl, sym, ap, ap₂, subst, ◌∙◌, arith, append_assoc, length-append, length-take, length-drop, length-set, get_or-set_same, get_or-set_other, take-append-drop}
use Rattle.std.specs.List.{insert}
use Rattle.std.proofs.lemmas.List.{get_or_default}
use Rattle.std.proofs.lemmas.List.Edits.{length-insert, get_or-insert_below, get_or-insert_at, insert-append_left, insert-append_right}
use Rattle.std.proofs.lemmas.List.Elements.{All-set, All-append, All-take, All-drop, All-cons}
use Rattle.sorted_table.specs.Parts.{rows_of, all_rows, before, IsKept, HasRoom, starts_of, raised, IsSplit}
use Rattle.sorted_table.specs.declared.part.Part.{Part}
use Rattle.sorted_table.specs.declared.part.TheConstants.{FULL}
use Rattle.sorted_table.proofs.Placing.{get_or-starts_of, length-starts_of, before_within, before_next}

pub raised_none : (from : ℕ) (ns : List ℕ) → ns ≡ raised from from ns
raised_none from [] = refl
raised_none zero (n ∷ ns) = refl
raised_none (suc from) (n ∷ ns) = ap (λ z. n ∷ z) (raised_none from ns)

pub length-raised : (from to : ℕ) (ns : List ℕ) → length (raised from to ns) ≡ length ns
length-raised from to [] = refl
length-raised zero zero (n ∷ ns) = refl
length-raised (suc from) zero (n ∷ ns) = refl
length-raised zero (suc to) (n ∷ ns) = ap suc (length-raised zero to ns)
length-raised (suc from) (suc to) (n ∷ ns) = ap suc (length-raised from to ns)

-- what was not raised yet
pub get_or-raised : (from to : ℕ) (ns : List ℕ) (d : ℕ) → from ≤ to → get_or (raised from to ns) to d ≡ get_or ns to d
get_or-raised from to [] d le = refl
get_or-raised zero zero (n ∷ ns) d le = refl
get_or-raised (suc from) zero (n ∷ ns) d le = refl
get_or-raised zero (suc to) (n ∷ ns) d le = get_or-raised zero to ns d (omega arith)
get_or-raised (suc from) (suc to) (n ∷ ns) d le = get_or-raised from to ns d (omega arith)

pub raised_more : (from to : ℕ) (ns : List ℕ) (d : ℕ) → from ≤ to → to < length ns
    → set (raised from to ns) to (get_or ns to d + 1) ≡ raised from (to + 1) ns
raised_more from to [] d le lt = absurd (omega arith)
raised_more zero zero (n ∷ ns) d le lt = ap (λ z. (n + 1) ∷ z) (raised_none zero ns)
raised_more (suc from) zero (n ∷ ns) d le lt = absurd (omega arith)
raised_more zero (suc to) (n ∷ ns) d le lt = let one : suc to + 1 ≡ suc (to + 1) = omega arith in ap (λ z. (n + 1) ∷ z) (raised_more zero to ns d (omega arith) (omega arith)) ∙ ap (λ z. raised zero z (n ∷ ns)) (sym one)
raised_more (suc from) (suc to) (n ∷ ns) d le lt = let one : suc to + 1 ≡ suc (to + 1) = omega arith in ap (λ z. n ∷ z) (raised_more from to ns d (omega arith) (omega arith)) ∙ ap (λ z. raised (suc from) z (n ∷ ns)) (sym one)

-- no start is above the number of rows
pub starts_below : {K : Type 0} (ps : List (Part K)) (starts : List ℕ) (i d : ℕ) → IsKept ps starts → i < length starts
    → get_or starts i d ≤ length (all_rows ps)
starts_below ps starts i d kept lt =
    let there : i < length ps = omega (arith, ap length kept.numbers, length-starts_of 0 ps) in
    omega (arith, ap (λ z. get_or z i d) kept.numbers, get_or-starts_of 0 ps i d there, before_within ps i)

pub length-starts : {K : Type 0} (ps : List (Part K)) (starts : List ℕ) → IsKept ps starts → length starts ≡ length ps
length-starts ps starts kept = ap length kept.numbers ∙ length-starts_of 0 ps

-- a row goes into a part
pub all_rows-put : {K : Type 0} (ps : List (Part K)) (i j : ℕ) (e q : Part K) (x : K) → i < length ps
    → j ≤ length (rows_of (get_or ps i e)) → rows_of q ≡ insert (rows_of (get_or ps i e)) j x
    → all_rows (set ps i q) ≡ insert (all_rows ps) (before ps i + j) x
all_rows-put [] i j e q x lt le is = absurd (omega arith)
all_rows-put (p ∷ ps) zero j e q x lt le is = ap (λ z. z ++ all_rows ps) is ∙ (sym (insert-append_left (rows_of p) (all_rows ps) j x le) ∙ ap (λ z. insert (rows_of p ++ all_rows ps) z x) (omega arith))
all_rows-put (p ∷ ps) (suc i) j e q x lt le is =
    let at : before (p ∷ ps) (suc i) + j ≡ length (rows_of p) + (before ps i + j) = omega (arith, length-append (rows_of p) (all_rows (take i ps))) in
    let rest : (length (rows_of p) + (before ps i + j)) - length (rows_of p) ≡ before ps i + j = omega arith in
    ap (λ z. rows_of p ++ z) (all_rows-put ps i j e q x (omega arith) le is)
    ∙ (ap (λ z. rows_of p ++ insert (all_rows ps) z x) (sym rest)
    ∙ (sym (insert-append_right (rows_of p) (all_rows ps) (length (rows_of p)) (length (rows_of p) + (before ps i + j)) x refl (omega arith))
    ∙ ap (λ z. insert (rows_of p ++ all_rows ps) z x) (sym at)))

starts_raised : {K : Type 0} (n : ℕ) (ps : List (Part K)) → starts_of (n + 1) ps ≡ raised 0 (length ps) (starts_of n ps)
starts_raised n [] = refl
starts_raised n (p ∷ ps) = let sum : n + 1 + length (rows_of p) ≡ n + length (rows_of p) + 1 = omega arith in ap (λ z. (n + 1) ∷ starts_of z ps) sum ∙ ap (λ z. (n + 1) ∷ z) (starts_raised (n + length (rows_of p)) ps)

pub starts_of-put : {K : Type 0} (n : ℕ) (ps : List (Part K)) (i : ℕ) (e q : Part K) → i < length ps
    → length (rows_of q) ≡ length (rows_of (get_or ps i e)) + 1
    → starts_of n (set ps i q) ≡ raised (i + 1) (length ps) (starts_of n ps)
starts_of-put n [] i e q lt more = absurd (omega arith)
starts_of-put n (p ∷ ps) zero e q lt more = let sum : n + length (rows_of q) ≡ n + length (rows_of p) + 1 = omega arith in ap (λ z. n ∷ starts_of z ps) sum ∙ ap (λ z. n ∷ z) (starts_raised (n + length (rows_of p)) ps)
starts_of-put n (p ∷ ps) (suc i) e q lt more = let one : suc i + 1 ≡ suc (i + 1) = omega arith in ap (λ z. n ∷ z) (starts_of-put (n + length (rows_of p)) ps i e q (omega arith) more) ∙ ap (λ z. raised z (suc (length ps)) (n ∷ starts_of (n + length (rows_of p)) ps)) (sym one)

-- with one more row in a part that has room the parts are kept
pub kept_put : {K : Type 0} (ps : List (Part K)) (starts new : List ℕ) (i j : ℕ) (e q : Part K) (x : K) → IsKept ps starts
    → HasRoom ps i → j ≤ length (rows_of (get_or ps i e)) → rows_of q ≡ insert (rows_of (get_or ps i e)) j x
    → new ≡ raised (i + 1) (length starts) starts → IsKept (set ps i q) new
kept_put {K} ps starts new i j e q x kept room le is raise =
    let more : length (rows_of q) ≡ length (rows_of (get_or ps i e)) + 1 = ap length is ∙ length-insert (rows_of (get_or ps i e)) j x le in
    record {
      filled = All-set (λ (p : Part K). (0 < length (rows_of p)) × (length (rows_of p) ≤ FULL)) ps i q (omega arith, omega (arith, room.1 e)) kept.filled;
      numbers = raise ∙ (ap₂ (λ n z. raised (i + 1) n z) (length-starts ps starts kept) kept.numbers ∙ sym (starts_of-put 0 ps i e q room.0 more));
    }

-- a part is written back as it was
pub all_rows-same : {K : Type 0} (ps : List (Part K)) (i : ℕ) (e q : Part K) → i < length ps → rows_of q ≡ rows_of (get_or ps i e)
    → all_rows (set ps i q) ≡ all_rows ps
all_rows-same [] i e q lt is = absurd (omega arith)
all_rows-same (p ∷ ps) zero e q lt is = ap (λ z. z ++ all_rows ps) is
all_rows-same (p ∷ ps) (suc i) e q lt is = ap (λ z. rows_of p ++ z) (all_rows-same ps i e q (omega arith) is)

starts_of-same : {K : Type 0} (n : ℕ) (ps : List (Part K)) (i : ℕ) (e q : Part K) → i < length ps
    → length (rows_of q) ≡ length (rows_of (get_or ps i e)) → starts_of n (set ps i q) ≡ starts_of n ps
starts_of-same n [] i e q lt is = absurd (omega arith)
starts_of-same n (p ∷ ps) zero e q lt is = ap (λ z. n ∷ starts_of (n + z) ps) is
starts_of-same n (p ∷ ps) (suc i) e q lt is = ap (λ z. n ∷ z) (starts_of-same (n + length (rows_of p)) ps i e q (omega arith) is)

pub kept_same : {K : Type 0} (ps : List (Part K)) (starts : List ℕ) (i : ℕ) (e q : Part K) → i < length ps
    → rows_of q ≡ rows_of (get_or ps i e) → IsKept ps starts → IsKept (set ps i q) starts
kept_same {K} ps starts i e q lt is kept = record {
  filled = All-set (λ (p : Part K). (0 < length (rows_of p)) × (length (rows_of p) ≤ FULL)) ps i q (subst (λ z. (0 < length z) × (length z ≤ FULL)) (sym is) (kept.filled i e lt)) kept.filled;
  numbers = kept.numbers ∙ sym (starts_of-same 0 ps i e q lt (ap length is));
}

-- a full part in two
module _ {K : Type 0} (cut : ℕ) (q r : Part K) where
  abbrev pub Halves : Part K → Type 0
  Halves p = (rows_of q ≡ take cut (rows_of p)) × (rows_of r ≡ drop cut (rows_of p)) × (cut ≤ length (rows_of p))

  halves_join : (p : Part K) → Halves p → rows_of q ++ rows_of r ≡ rows_of p
  halves_join p h = ap₂ (λ a b. a ++ b) h.0 h.1 ∙ take-append-drop cut (rows_of p)

  pub low_length : (p : Part K) → Halves p → length (rows_of q) ≡ cut
  low_length p h = ap length h.0 ∙ omega (arith, length-take cut (rows_of p), h.2)

  pub high_length : (p : Part K) → Halves p → length (rows_of r) + cut ≡ length (rows_of p)
  high_length p h = omega (arith, ap length h.1, length-drop cut (rows_of p), h.2)

  pub all_rows-split : (ps : List (Part K)) (i : ℕ) (e : Part K) → i < length ps → Halves (get_or ps i e)
      → all_rows (set (insert ps (i + 1) r) i q) ≡ all_rows ps
  all_rows-split [] i e lt h = absurd (omega arith)
  all_rows-split (p ∷ ps) zero e lt h = sym (append_assoc (rows_of q) (rows_of r) (all_rows ps)) ∙ ap (λ z. z ++ all_rows ps) (halves_join p h)
  all_rows-split (p ∷ ps) (suc i) e lt h = let one : suc i + 1 ≡ suc (i + 1) = omega arith in ap (λ n. all_rows (set (insert (p ∷ ps) n r) (suc i) q)) one ∙ ap (λ z. rows_of p ++ z) (all_rows-split ps i e (omega arith) h)

  starts_of-split : (n : ℕ) (ps : List (Part K)) (i : ℕ) (e : Part K) → i < length ps → Halves (get_or ps i e)
      → starts_of n (set (insert ps (i + 1) r) i q) ≡ insert (starts_of n ps) (i + 1) (n + before ps i + cut)
  starts_of-split n [] i e lt h = absurd (omega arith)
  starts_of-split n (p ∷ ps) zero e lt h =
      let first : n + length (rows_of q) ≡ n + 0 + cut = omega (arith, low_length p h) in
      let second : n + length (rows_of q) + length (rows_of r) ≡ n + length (rows_of p) = omega (arith, low_length p h, high_length p h) in
      ap₂ (λ a b. n ∷ a ∷ starts_of b ps) first second
  starts_of-split n (p ∷ ps) (suc i) e lt h =
      let one : suc i + 1 ≡ suc (i + 1) = omega arith in
      let sum : n + length (rows_of p) + before ps i + cut ≡ n + before (p ∷ ps) (suc i) + cut = omega (arith, length-append (rows_of p) (all_rows (take i ps))) in
      ap (λ z. starts_of n (set (insert (p ∷ ps) z r) (suc i) q)) one
      ∙ (ap (λ z. n ∷ z) (starts_of-split (n + length (rows_of p)) ps i e (omega arith) h)
      ∙ (ap (λ z. n ∷ insert (starts_of (n + length (rows_of p)) ps) (i + 1) z) sum
      ∙ ap (λ z. insert (n ∷ starts_of (n + length (rows_of p)) ps) z (n + before (p ∷ ps) (suc i) + cut)) (sym one)))

  pub kept_split : (ps : List (Part K)) (starts new : List ℕ) (i start : ℕ) (e : Part K) → i < length ps → Halves (get_or ps i e)
      → length (rows_of (get_or ps i e)) ≡ FULL → 0 < cut → cut < FULL → IsKept ps starts → start ≡ before ps i + cut
      → new ≡ insert starts (i + 1) start → IsKept (set (insert ps (i + 1) r) i q) new
  kept_split ps starts new i start e lt h full some less kept at is =
      let P = λ (p : Part K). (0 < length (rows_of p)) × (length (rows_of p) ≤ FULL) in
      let low = low_length (get_or ps i e) h in
      let high = high_length (get_or ps i e) h in
      record {
        filled = All-set P (insert ps (i + 1) r) i q (omega arith, omega arith) (All-append P (take (i + 1) ps) (r ∷ drop (i + 1) ps) (All-take P (i + 1) ps kept.filled) (All-cons P r (drop (i + 1) ps) (omega arith, omega arith) (All-drop P (i + 1) ps kept.filled)));
        numbers = is ∙ (ap₂ (λ a b. insert a (i + 1) b) kept.numbers (at ∙ omega arith) ∙ sym (starts_of-split 0 ps i e lt h));
      }

  length_split : (ps : List (Part K)) (i : ℕ) → i < length ps → length (set (insert ps (i + 1) r) i q) ≡ length ps + 1
  length_split ps i lt = length-set (insert ps (i + 1) r) i q ∙ length-insert ps (i + 1) r (omega arith)

  before_low : (ps : List (Part K)) (i : ℕ) → i < length ps → before (set (insert ps (i + 1) r) i q) i ≡ before ps i
  before_low [] i lt = absurd (omega arith)
  before_low (p ∷ ps) zero lt = refl
  before_low (p ∷ ps) (suc i) lt =
      let one : suc i + 1 ≡ suc (i + 1) = omega arith in
      let new = set (insert ps (i + 1) r) i q in
      ap (λ z. before (set (insert (p ∷ ps) z r) (suc i) q) (suc i)) one
      ∙ omega (arith, length-append (rows_of p) (all_rows (take i new)), length-append (rows_of p) (all_rows (take i ps)), before_low ps i (omega arith))

  pub is_split : (ps : List (Part K)) (i : ℕ) (e : Part K) → i < length ps → Halves (get_or ps i e)
      → length (rows_of (get_or ps i e)) ≡ FULL → IsSplit ps i cut (set (insert ps (i + 1) r) i q)
  is_split ps i e lt h full =
      let new = set (insert ps (i + 1) r) i q in
      let count = length_split ps i lt in
      let low : (d : Part K) → get_or new i d ≡ q = λ d. get_or-set_same (insert ps (i + 1) r) i q d (omega (arith, length-insert ps (i + 1) r (omega arith))) in
      record {
        there = omega (arith, count);
        low = λ d. ap (λ z. length (rows_of z)) (low d) ∙ low_length (get_or ps i e) h;
        high = λ d. ap (λ z. length (rows_of z) + cut) (high_is d) ∙ (high_length (get_or ps i e) h ∙ full);
        before_low = before_low ps i lt;
        before_high = before_next new i q (omega (arith, count)) ∙ omega (arith, before_low ps i lt, ap (λ z. length (rows_of z)) (low q), low_length (get_or ps i e) h);
      }
    where
      high_is : (d : Part K) → get_or (set (insert ps (i + 1) r) i q) (i + 1) d ≡ r
      high_is d = get_or-set_other (insert ps (i + 1) r) i (i + 1) q d (λ e. absurd (omega arith)) ∙ get_or-insert_at ps (i + 1) r d (omega arith)

-- what a cut does, step by step as it is done
pub record Cut {K : Type 0} (ps : List (Part K)) (starts : List ℕ) (i cut : ℕ) (done : List (Part K)) (new : List ℕ) : Type 0 where
  pub same : all_rows done ≡ all_rows ps
  pub kept : IsKept done new
  pub split : IsSplit ps i cut done

pub cut_is : {K : Type 0} (ps inserted : List (Part K)) (starts new : List ℕ) (i cut start : ℕ) (e d q r : Part K) → i < length ps
    → length (rows_of (get_or ps i e)) ≡ FULL → 0 < cut → cut < FULL → IsKept ps starts →
    e ≡ get_or ps i e → rows_of r ≡ drop cut (rows_of e) → inserted ≡ insert ps (i + 1) r → d ≡ get_or inserted i d → rows_of q ≡ take cut (rows_of d) → start ≡ before ps i + cut → new ≡ insert starts (i + 1) start → Cut ps starts i cut (set inserted i q) new
cut_is {K} ps inserted starts new i cut start e d q r lt full some less kept old high put was low at is =
    subst (λ z. Cut ps starts i cut (set z i q) new) (sym put) (record {
      same = all_rows-split cut q r ps i e lt halves;
      kept = kept_split cut q r ps starts new i start e lt halves full some less kept at is;
      split = is_split cut q r ps i e lt halves full;
    })
  where
    unchanged : d ≡ get_or ps i e
    unchanged = was ∙ (ap (λ z. get_or z i d) put ∙ (get_or-insert_below ps (i + 1) r d i (omega arith) (omega arith) ∙ get_or_default ps i d e lt))

    halves : Halves cut q r (get_or ps i e)
    halves = (low ∙ ap (λ z. take cut (rows_of z)) unchanged, high ∙ ap (λ z. drop cut (rows_of z)) old, omega arith)
