-- Try items and their handlers stand where they were written.
use Rattle.std.proofs.Common.{◌≡◌, ℕ, ℤ, zero, suc, ◌+◌, ◌*◌, ◌%◌, ◌<◌, ◌≤◌, true, false, ltb, eqb, List, [], ◌∷◌, ◌++◌, length, Option, Some, None, refl, sym, ap, subst, ◌∙◌, append_assoc, length-append, ◌-◌, ◌/◌, inl, inr, arith}
use Rattle.std.specs.Prelude.{IfSome, IfNone, sum_by}
use Rattle.std.specs.Int.{w32, cast_signed}
use Rattle.std.specs.List.{AllByRecursion, flat_map}
use Rattle.std.proofs.lemmas.Bool.{lt-ltb, cases_Bool, eq-eqb}
use Rattle.std.proofs.lemmas.Bool.Decides.{nat_tests}
use Rattle.std.proofs.lemmas.List.Sums.{sum_by-cons}
use Rattle.vet_base.specs.Numbers.{sleb, groups, last_group}
use Rattle.dex_tables.specs.declared.dex.RawTry.{RawTry}
use Rattle.dex_bodies.specs.declared.handlers.Handler.{Handler}
use Rattle.dex_bodies.specs.declared.tries.TryItem.{TryItem}
use Rattle.dex_bodies.specs.Handlers.{pair_count, catches_all, handler_of, handler_at}
use Rattle.dex_tables.specs.Sequences.{RowsStand, Follow}
use Rattle.dex_bodies.specs.CodeStands.{IsPair, IsHandler, IsTryItem, AreTries, pairs_of, HasTries}
use Rattle.dex_writer.specs.Bytes.{u2_bytes, u4_bytes, uleb_bytes, groups_of}
use Rattle.dex_writer.specs.Placed.{rows_of}
use Rattle.dex_writer.specs.CodeItem.{pair_bytes, handler_size, catch_all_bytes, handler_bytes, try_bytes, try_items, handlers_bytes}
use Rattle.dex_round_trip.specs.Costs.{try_cost}
use Rattle.dex_round_trip.proofs.Fits.{PairFits, TryFits}
use Rattle.dex_round_trip.proofs.Standing.{Stands, stands_front, stands_back, stands_moved, stands_three, dropped, u2_reads, u4_reads, uleb_reads}

pub pairs_stand : (file : List ℕ) (types at : ℕ) (pairs : List (ℕ × ℕ)) → types ≤ 65536 → Stands file at (flat_map pair_bytes pairs) → AllByRecursion (PairFits types) pairs
    → Follow 0 (λ a b. a + b) (IsPair file types) at pairs (length pairs) (at + length (flat_map pair_bytes pairs))
pairs_stand file types at [] few stand fit = (omega arith, refl)
pairs_stand file types at (p ∷ ps) few stand fit =
    let k = uleb_bytes p.0 in
    let a = uleb_bytes p.1 in
    let rest = flat_map pair_bytes ps in
    let parts = stands_three file at k a rest stand in
    let end : at + length (k ++ a ++ rest) ≡ at + length k + length a + length rest = omega (arith, length-append (k ++ a) rest, length-append k a) in
    let small : p.0 < 4294967296 = omega (arith, fit.0.kind) in (
      at + length k + length a,
      1,
      length ps,
      record { mid = at + length k; kind_is = uleb_reads file at p.0 small parts.first; kind_below = fit.0.kind; address_is = uleb_reads file (at + length k) p.1 fit.0.address parts.second; one = refl },
      rw end (pairs_stand file types (at + length k + length a) ps few parts.third fit.1),
      omega arith,
    )

-- ---- the size of a handler

nine : (P : ℕ → Type 0) → P 0 → P 1 → P 2 → P 3 → P 4 → P 5 → P 6 → P 7 → P 8 → (n : ℕ) → n ≤ 8 → P n
nine P a b c d e f g h i zero le = a
nine P a b c d e f g h i (suc zero) le = b
nine P a b c d e f g h i (suc (suc zero)) le = c
nine P a b c d e f g h i (suc (suc (suc zero))) le = d
nine P a b c d e f g h i (suc (suc (suc (suc zero)))) le = e
nine P a b c d e f g h i (suc (suc (suc (suc (suc zero))))) le = f
nine P a b c d e f g h i (suc (suc (suc (suc (suc (suc zero)))))) le = g
nine P a b c d e f g h i (suc (suc (suc (suc (suc (suc (suc zero))))))) le = h
nine P a b c d e f g h i (suc (suc (suc (suc (suc (suc (suc (suc zero)))))))) le = i
nine P a b c d e f g h i (suc (suc (suc (suc (suc (suc (suc (suc (suc n))))))))) le = absurd (omega arith)

abbrev signed : ℕ → ℤ
signed byte = cast_signed w32 (last_group true byte)

CountIs : Option ℕ → ℕ → Type 0
CountIs c n = pair_count (signed (handler_size n c)) ≡ n

count_is : (c : Option ℕ) (n : ℕ) → n ≤ 8 → CountIs c n
unfolding pair_count CountIs
count_is None n le = nine (CountIs None) refl refl refl refl refl refl refl refl refl n le
count_is (Some a) n le = nine (CountIs (Some a)) refl refl refl refl refl refl refl refl refl n le

CatchesIs : ℕ → Type 0
CatchesIs n = catches_all (signed ((128 - n % 64) % 128)) ≡ true

catches : (n : ℕ) → n ≤ 8 → CatchesIs n
unfolding catches_all CatchesIs
catches n le = nine CatchesIs refl refl refl refl refl refl refl refl refl n le

NoneIs : ℕ → Type 0
NoneIs n = 0 < n → catches_all (signed (n % 64)) ≡ false

catches_not : (n : ℕ) → n ≤ 8 → NoneIs n
unfolding catches_all NoneIs
catches_not n le = nine NoneIs (λ lt. absurd (omega arith)) (λ lt. refl) (λ lt. refl) (λ lt. refl) (λ lt. refl) (λ lt. refl) (λ lt. refl) (λ lt. refl) (λ lt. refl) n le

size_small : (n : ℕ) (c : Option ℕ) → handler_size n c < 128
size_small n None = omega arith
size_small n (Some a) = omega arith

size_reads : (file : List ℕ) (at byte : ℕ) (rest : List ℕ) → byte < 128 → Stands file at (byte ∷ rest) → sleb file at ≡ Some (signed byte, at + 1)
unfolding groups
size_reads file at byte rest lt s =
    let low : ltb byte 128 ≡ true = lt-ltb _ _ lt in
    rw (dropped file at (byte ∷ rest) s, low) refl

count_of : (c : Option ℕ) (n : ℕ) → n ≤ 8 → pair_count (signed (handler_size n c)) ≡ n
unfolding CountIs
count_of c n le = count_is c n le

catches_some : (n : ℕ) → n ≤ 8 → catches_all (signed ((128 - n % 64) % 128)) ≡ true
unfolding CatchesIs
catches_some n le = catches n le

catches_none : (n : ℕ) → n ≤ 8 → 0 < n → catches_all (signed (n % 64)) ≡ false
unfolding NoneIs
catches_none n le lt = catches_not n le lt

-- ---- handlers

record Parts (file : List ℕ) (at byte : ℕ) (a b : List ℕ) : Type 0 where
  pub size : Stands file at (byte ∷ [])
  pub pairs : Stands file (at + 1) a
  pub last : Stands file (at + 1 + length a) b

parts_of : (file : List ℕ) (at byte : ℕ) (pairs last : List ℕ) → Stands file at (byte ∷ pairs ++ last) → Parts file at byte pairs last
parts_of file at byte pairs last s =
    let three = stands_three file at (byte ∷ []) pairs last s in
    record { size = three.first; pairs = three.second; last = three.third }

handler_stands : (file : List ℕ) (types at : ℕ) (pairs : List (ℕ × ℕ)) (c : Option ℕ) → types ≤ 65536 → Stands file at (handler_size (length pairs) c ∷ flat_map pair_bytes pairs ++ catch_all_bytes c)
    → AllByRecursion (PairFits types) pairs → length pairs ≤ 8 → IfSome c (λ a. a < 4294967296) → IfNone c (0 < length pairs)
    → IsHandler file types at (handler_of at pairs c) (length pairs + 1) (at + length (handler_size (length pairs) c ∷ flat_map pair_bytes pairs ++ catch_all_bytes c))
handler_stands file types at pairs None few stand fit short address some =
    let n = length pairs in
    let p = flat_map pair_bytes pairs in
    let parts = parts_of file at (handler_size n None) p [] stand in
    let end : at + 1 + length p ≡ at + length (handler_size n None ∷ p ++ []) = omega (arith, length-append p []) in
    record {
      size = signed (handler_size n None);
      begin = at + 1;
      end = at + 1 + length p;
      paired = n;
      stands_at = refl;
      size_is = size_reads file at (handler_size n None) [] (size_small n None) parts.size;
      count = sym (count_of None n short);
      pairs = pairs_stand file types (at + 1) pairs few parts.pairs fit;
      catch_all = rw (catches_none n short some) (refl, end);
      one_more = refl;
    }
handler_stands file types at pairs (Some a) few stand fit short address some =
    let n = length pairs in
    let p = flat_map pair_bytes pairs in
    let parts = parts_of file at (handler_size n (Some a)) p (uleb_bytes a) stand in
    let end : at + 1 + length p + length (uleb_bytes a) ≡ at + length (handler_size n (Some a) ∷ p ++ uleb_bytes a) = omega (arith, length-append p (uleb_bytes a)) in
    record {
      size = signed (handler_size n (Some a));
      begin = at + 1;
      end = at + 1 + length p;
      paired = n;
      stands_at = refl;
      size_is = size_reads file at (handler_size n (Some a)) [] (size_small n (Some a)) parts.size;
      count = sym (count_of (Some a) n short);
      pairs = pairs_stand file types (at + 1) pairs few parts.pairs fit;
      catch_all = rw (catches_some n short) (a, refl, rw (← end) (uleb_reads file (at + 1 + length p) a address parts.last));
      one_more = refl;
    }

-- the handlers of some tries, the first of which begins there
abbrev pub handler_values : ℕ → List RawTry → List Handler
handler_values at [] = []
handler_values at (t ∷ ts) = handler_of at t.handlers t.catch_all ∷ handler_values (at + length (handler_bytes t)) ts

abbrev pub handled : List RawTry → ℕ
handled [] = 0
handled (t ∷ ts) = length t.handlers + 1 + handled ts

handler_is : (file : List ℕ) (types at : ℕ) (t : RawTry) → types ≤ 65536 → Stands file at (handler_bytes t) → TryFits types t
    → IsHandler file types at (handler_of at t.handlers t.catch_all) (length t.handlers + 1) (at + length (handler_bytes t))
unfolding handler_bytes
handler_is file types at t few stand fit = handler_stands file types at t.handlers t.catch_all few stand fit.pairs fit.few fit.catch_all fit.handles

pub handlers_follow : (file : List ℕ) (types at : ℕ) (tries : List RawTry) → types ≤ 65536 → Stands file at (flat_map handler_bytes tries) → AllByRecursion (TryFits types) tries
    → Follow 0 (λ a b. a + b) (IsHandler file types) at (handler_values at tries) (handled tries) (at + length (flat_map handler_bytes tries))
handlers_follow file types at [] few stand fit = (omega arith, refl)
handlers_follow file types at (t ∷ ts) few stand fit =
    let b = handler_bytes t in
    let rest = flat_map handler_bytes ts in
    let end : at + length (b ++ rest) ≡ at + length b + length rest = omega (arith, length-append b rest) in (
      at + length b,
      length t.handlers + 1,
      handled ts,
      handler_is file types at t few (stands_front file at b rest stand) fit.0,
      rw end (handlers_follow file types (at + length b) ts few (stands_back file at b rest stand) fit.1),
      refl,
    )

-- ---- try items

abbrev pub item_values : ℕ → List RawTry → List TryItem
item_values h [] = []
item_values h (t ∷ ts) = record { start = t.start; count = t.count; handler = h } ∷ item_values (h + length (handler_bytes t)) ts

pub items_stand : (file : List ℕ) (types at h : ℕ) (tries : List RawTry) → Stands file at (rows_of try_bytes handler_bytes h tries) → h + length (flat_map handler_bytes tries) < 65536
    → AllByRecursion (TryFits types) tries → RowsStand (IsTryItem file) 8 at (item_values h tries)
unfolding try_bytes
items_stand file types at h [] stand small fit = tt
items_stand file types at h (t ∷ ts) stand small fit =
    let b = handler_bytes t in
    let s = u4_bytes t.start in
    let c = u2_bytes t.count in
    let o = u2_bytes h in
    let rest = flat_map handler_bytes ts in
    let later = rows_of try_bytes handler_bytes (h + length b) ts in
    let sizes : h + length (b ++ rest) ≡ h + length b + length rest = omega (arith, length-append b rest) in
    let parts = stands_three file at s c o (stands_front file at (try_bytes h t) later stand) in
    let here : h < 65536 = omega (arith, sizes) in
    let moved : at + 4 + 2 ≡ at + 6 = omega arith in
    let next : h + length b + length rest < 65536 = omega (arith, sizes) in (
      record {
        start_is = u4_reads file at t.start fit.0.start parts.first;
        count_is = u2_reads file (at + 4) t.count fit.0.count parts.second;
        handler_is = u2_reads file (at + 6) h here (stands_moved file (at + 4 + 2) (at + 6) o moved parts.third);
      },
      items_stand file types (at + 8) (h + length b) ts (stands_back file at (try_bytes h t) later stand) next fit.1,
    )

pub items_length : (h : ℕ) (tries : List RawTry) → length (item_values h tries) ≡ length tries
items_length h [] = refl
items_length h (t ∷ ts) = ap (λ (n : ℕ). suc n) (items_length (h + length (handler_bytes t)) ts)

pub handlers_length : (at : ℕ) (tries : List RawTry) → length (handler_values at tries) ≡ length tries
handlers_length at [] = refl
handlers_length at (t ∷ ts) = ap (λ (n : ℕ). suc n) (handlers_length (at + length (handler_bytes t)) ts)

pub items_bytes : (h : ℕ) (tries : List RawTry) → length (rows_of try_bytes handler_bytes h tries) ≡ 8 * length tries
unfolding try_bytes
items_bytes h [] = omega arith
items_bytes h (t ∷ ts) =
    let rest = items_bytes (h + length (handler_bytes t)) ts in
    omega (arith, length-append (try_bytes h t) (rows_of try_bytes handler_bytes (h + length (handler_bytes t)) ts))

-- ---- which handler is whose

abbrev AllBelow : ℕ → List Handler → Type 0
AllBelow at hs = AllByRecursion (λ (h : Handler). h.at < at) hs

other_at : (a b : ℕ) → a < b → eqb a b ≡ false
other_at a b lt = grind (arith, nat_tests)

found : (front : List Handler) (at : ℕ) (h : Handler) (rest : List Handler) → AllBelow at front → h.at ≡ at → handler_at at (front ++ h ∷ rest) ≡ Some h
unfolding handler_at
found [] at h rest all here = rw (here, eq-eqb at at refl) refl
found (x ∷ front) at h rest all here = rw (other_at x.at at all.0) (found front at h rest all.1 here)

below_more : (front : List Handler) (at next : ℕ) (h : Handler) → AllBelow at front → h.at ≡ at → at < next → AllBelow next (front ++ h ∷ [])
below_more [] at next h all here lt = (omega (arith, here), tt)
below_more (x ∷ front) at next h all here lt = (omega (arith, all.0), below_more front at next h all.1 here lt)

handler_some : (t : RawTry) → 0 < length (handler_bytes t)
unfolding handler_bytes
handler_some t = omega arith

pub tries_are : (front : List Handler) (list h at : ℕ) (tries : List RawTry) → list + h ≡ at → AllBelow at front
    → AreTries (front ++ handler_values at tries) list (item_values h tries) tries
tries_are front list h at [] here all = tt
tries_are front list h at (t ∷ ts) here all =
    let b = handler_bytes t in
    let x = handler_of at t.handlers t.catch_all in
    let later = handler_values (at + length b) ts in
    let regroup : (front ++ x ∷ []) ++ later ≡ front ++ x ∷ later = append_assoc front (x ∷ []) later in
    let lt : at < at + length b = omega (arith, handler_some t) in
    let next : list + (h + length b) ≡ at + length b = omega arith in
    let rest = tries_are (front ++ x ∷ []) list (h + length b) (at + length b) ts next (below_more front at (at + length b) x all refl lt) in (
      record { handler = x; begins = rw here (found front at x later all refl); is = refl },
      subst (λ (hs : List Handler). AreTries hs list (item_values (h + length b) ts) ts) regroup rest,
    )

-- ---- the totals

cost_parts : (tries : List RawTry) → length tries + handled tries + sum_by pairs_of tries ≡ sum_by try_cost tries
cost_parts [] = refl
cost_parts (t ∷ ts) = omega (arith, cost_parts ts, sum_by-cons pairs_of t ts, sum_by-cons try_cost t ts)

-- ---- how long the handlers are, and all tries

pub groups_short : (more n : ℕ) → length (groups_of more n) ≤ more + 1
unfolding groups_of
groups_short zero n = omega arith
groups_short (suc more) n = elim (cases_Bool (ltb n 128)) [ inl low ↦ rw low (omega arith) | inr high ↦ rw high (omega (arith, groups_short more (n / 128))) ]

pairs_short : (pairs : List (ℕ × ℕ)) → length (flat_map pair_bytes pairs) ≤ 10 * length pairs
pairs_short [] = omega arith
pairs_short (p ∷ ps) =
    let k = uleb_bytes p.0 in
    let a = uleb_bytes p.1 in
    omega (arith, pairs_short ps, length-append (k ++ a) (flat_map pair_bytes ps), length-append k a, groups_short 4 p.0, groups_short 4 p.1)

catch_short : (c : Option ℕ) → length (catch_all_bytes c) ≤ 5
catch_short None = omega arith
catch_short (Some a) = omega (arith, groups_short 4 a)

pub handler_short : (t : RawTry) → length (handler_bytes t) ≤ 6 + 10 * length t.handlers
unfolding handler_bytes
handler_short t = omega (arith, length-append (flat_map pair_bytes t.handlers) (catch_all_bytes t.catch_all), pairs_short t.handlers, catch_short t.catch_all)

handlers_short : (types : ℕ) (tries : List RawTry) → AllByRecursion (TryFits types) tries → length (flat_map handler_bytes tries) ≤ 86 * length tries
handlers_short types [] fit = omega arith
handlers_short types (t ∷ ts) fit =
    let b = handler_bytes t in
    let rest = flat_map handler_bytes ts in
    omega (arith, length-append b rest, handlers_short types ts fit.1, handler_short t, fit.0.few)

-- tries with their handlers behind them
pub tries_stand : (file : List ℕ) (types at : ℕ) (tries : List RawTry) → types ≤ 65536 → Stands file at (try_items tries ++ handlers_bytes tries) → AllByRecursion (TryFits types) tries → length tries ≤ 500
    → HasTries file types at tries (sum_by try_cost tries)
unfolding try_items handlers_bytes
tries_stand file types at tries few stand fit short =
    let n = uleb_bytes (length tries) in
    let h = length n in
    let items = rows_of try_bytes handler_bytes h tries in
    let list = flat_map handler_bytes tries in
    let front = stands_front file at items (n ++ list) stand in
    let back = stands_back file at items (n ++ list) stand in
    let place : at + length items ≡ at + 8 * length (item_values h tries) = omega (arith, items_bytes h tries, items_length h tries) in
    let begin = at + 8 * length (item_values h tries) in
    let second = stands_moved file (at + length items) begin (n ++ list) place back in
    let small : h + length list < 65536 = omega (arith, groups_short 4 (length tries), handlers_short types tries fit) in
    let number : length tries < 4294967296 = omega arith in
    let count : length (handler_values (begin + h) tries) ≡ length tries = handlers_length (begin + h) tries in
    record {
      items = item_values h tries;
      handlers = handler_values (begin + h) tries;
      first = begin + h;
      end = begin + h + length list;
      handled = handled tries;
      items_stand = items_stand file types at h tries front small fit;
      size_is = rw count (uleb_reads file begin (length tries) number (stands_front file begin n list second));
      handlers_stand = handlers_follow file types (begin + h) tries few (stands_back file begin n list second) fit;
      are = tries_are [] begin h (begin + h) tries refl tt;
      sum = sym (cost_parts tries) ∙ ap (λ (k : ℕ). k + handled tries + sum_by pairs_of tries) (sym (items_length h tries));
    }
