-- The tries of a code item that are read stand there, each with its handler, and those that stand there are read.
use Rattle.std.proofs.Common.{◌≡◌, inl, inr, ℕ, zero, suc, ◌+◌, ◌*◌, ◌<◌, ◌≤◌, List, [], ◌∷◌, length, Some, Ok, refl, sym, ap, subst, ◌∙◌, arith}
use Rattle.std.proofs.lemmas.Bool.{ltb-true, lt-ltb, leb-true, le-leb}
use Rattle.std.proofs.lemmas.Bool.Decides.{eqb_tells}
use Rattle.std.proofs.lemmas.List.Sums.{sum_by-cons}
use Rattle.std.specs.Prelude.{nat_le, sum_by}
use Rattle.vet_base.specs.Numbers.{u2, u4, uleb}
use Rattle.vet_base.specs.Script.{Value, run, walk}
use Rattle.dex_tables.specs.declared.fault.Fault.{Fault}
use Rattle.dex_tables.specs.declared.dex.RawTry.{RawTry}
use Rattle.dex_bodies.specs.declared.handlers.Handler.{Handler}
use Rattle.dex_bodies.specs.declared.tries.CodeHead.{CodeHead}
use Rattle.dex_bodies.specs.declared.tries.TryItem.{TryItem}
use Rattle.dex_tables.specs.declared.place.Place.{Place}
use Rattle.dex_tables.specs.TypeLists.{place}
use Rattle.dex_bodies.specs.Handlers.{handler_rows_at, handler_at}
use Rattle.dex_bodies.specs.Tries.{tries_begin, try_row, try_rows_at, raw_try, try_of, joined_at, some_tries_at, tries_at}
use Rattle.dex_tables.specs.Sequences.{RowsStand, Follow}
use Rattle.dex_bodies.specs.CodeStands.{IsTryItem, IsTry, AreTries, pairs_of, HasTries, MaybeTries}
use Rattle.dex_tables.proofs.Readings.{there_ok, repeat_read, repeat_again, OneRead}
use Rattle.dex_tables.proofs.Numbers.{u4_is, u2_behind, u4_within}
use Rattle.dex_tables.proofs.RunningTotals.{number_adds, rows_from_follow, follow_from_rows}
use Rattle.dex_bodies.proofs.HandlerReadings.{handlers_are, handlers_again}
use Rattle.vet_base.proofs.Runs.{bind_ok, test_ok, bind_runs, value_is}

-- Try items, of eight bytes and one more each.
one_of : TryItem → ℕ
one_of item = 1

try_item_is : (file : List ℕ) (code at t : ℕ) (x : TryItem) (s : Place) → t ≤ 1000000 → run (try_row file code (place at t)) ≡ Ok (x, s)
    → OneRead (λ a b. a + b) (λ a. a ≤ 1000000) (λ at item adds to. IsTryItem file at item × (adds ≡ one_of item) × (to ≡ at + 8)) place at t x s
unfolding try_row one_of
try_item_is file code at t x s fit e =
    let a = there_ok (u4 file at) _ _ _ _ e in
    let b = there_ok (u2 file a.0.1) _ _ _ _ a.2 in
    let c = there_ok (u2 file b.0.1) _ _ _ _ b.2 in
    let d = test_ok _ _ _ _ c.2 in
    let start = u4_is file at a.0 a.1 in
    let count = u2_behind file (at + 4) a.0.1 b.0 b.1 start.1 in
    let handler = u2_behind file (at + 6) b.0.1 c.0 c.1 (let k : b.0.1 ≡ at + 4 + 2 = count.1 in omega arith) in
    let end : c.0.1 ≡ at + 6 + 2 = handler.1 in
    let next : c.0.1 ≡ at + 8 = omega arith in
    let under : t < 1000000 = ltb-true _ _ d.0 in
    let fits : t + 1 ≤ 1000000 = omega arith in
    subst (λ (p : TryItem × Place). OneRead (λ a b. a + b) (λ a. a ≤ 1000000) (λ at item adds to. IsTryItem file at item × (adds ≡ 1) × (to ≡ at + 8)) place at t p.0 p.1) (value_is _ _ d.1)
    (record { to = c.0.1; adds = 1; stands = (record { start_is = start.0; count_is = count.0; handler_is = handler.0 }, refl, next); is = refl; fits = fits })

try_item_again : (file : List ℕ) (code at t : ℕ) (x : TryItem) (adds to : ℕ) → IsTryItem file at x × (adds ≡ one_of x) × (to ≡ at + 8) → t + adds ≤ 1000000
    → run (try_row file code (place at t)) ≡ Ok (x, place to (t + adds))
unfolding try_row one_of
try_item_again file code at t x adds to is fit =
    let start : u4 file at ≡ Some (x.start, at + 4) = is.0.start_is in
    let count : u2 file (at + 4) ≡ Some (x.count, at + 6) = is.0.count_is ∙ ap (λ (o : ℕ). Some (x.count, o)) (omega arith) in
    let handler : u2 file (at + 6) ≡ Some (x.handler, at + 8) = is.0.handler_is ∙ ap (λ (o : ℕ). Some (x.handler, o)) (omega arith) in
    let one : adds ≡ 1 = is.1 in
    let end : to ≡ at + 8 = is.2 in
    let under : t < 1000000 = omega arith in
    rw (start, count, handler, lt-ltb t 1000000 under, one, end) refl

ones : (xs : List TryItem) → sum_by one_of xs ≡ length xs
unfolding one_of
ones [] = refl
ones (x ∷ xs) = let rest : sum_by one_of xs ≡ length xs = ones xs in sum_by-cons one_of x xs ∙ omega (arith, rest)

items_end : (file : List ℕ) (at : ℕ) (xs : List TryItem) (adds to : ℕ)
    → Follow 0 (λ a b. a + b) (λ at item adds to. IsTryItem file at item × (adds ≡ one_of item) × (to ≡ at + 8)) at xs adds to → to ≡ at + 8 * length xs
items_end file at [] adds to follow = let e : at ≡ to = follow.0 in omega arith
items_end file at (x ∷ xs) adds to follow =
    let rest : to ≡ follow.0 + 8 * length xs = items_end file follow.0 xs follow.2 to follow.4 in
    let next : follow.0 ≡ at + 8 = follow.3.2 in
    omega arith

record ItemsRead (file : List ℕ) (n at t : ℕ) (xs : List TryItem) (s : Place) : Type 0 where
  stand : RowsStand (IsTryItem file) 8 at xs
  count : length xs ≡ n
  is : s ≡ place (at + 8 * length xs) (t + length xs)
  fits : t + length xs ≤ 1000000

items_are : (file : List ℕ) (code n at t : ℕ) (xs : List TryItem) (s : Place) → t ≤ 1000000 → run (try_rows_at file code n (place at t)) ≡ Ok (xs, s) → ItemsRead file n at t xs s
unfolding try_rows_at
items_are file code n at t xs s fit e =
    let read = repeat_read 0 (λ a b. a + b) (λ a. a ≤ 1000000) (λ at item adds to. IsTryItem file at item × (adds ≡ one_of item) × (to ≡ at + 8)) place (try_row file code) (number_adds 1000000)
    (λ q t x s. try_item_is file code q t x s) n at t xs s fit e in
    let rows = rows_from_follow (IsTryItem file) one_of 8 at xs read.adds read.to read.stand in
    let sum : read.adds ≡ length xs = rows.1 ∙ ones xs in
    let end : read.to ≡ at + 8 * length xs = items_end file at xs read.adds read.to read.stand in
    record { stand = rows.0; count = read.count; is = read.is ∙ ap (λ (o : ℕ). place o (t + read.adds)) end ∙ ap (λ (u : ℕ). place (at + 8 * length xs) (t + u)) sum; fits = subst (λ (u : ℕ). t + u ≤ 1000000) sum read.fits }

items_again : (file : List ℕ) (code at t : ℕ) (xs : List TryItem) → RowsStand (IsTryItem file) 8 at xs → t + length xs ≤ 1000000
    → run (try_rows_at file code (length xs) (place at t)) ≡ Ok (xs, place (at + 8 * length xs) (t + length xs))
unfolding try_rows_at
items_again file code at t xs stand fit =
    let follow = follow_from_rows (IsTryItem file) one_of 8 at xs stand in
    let sum : sum_by one_of xs ≡ length xs = ones xs in
    let end : follow.0 ≡ at + 8 * length xs = items_end file at xs (sum_by one_of xs) follow.0 follow.1 in
    let read = repeat_again 0 (λ a b. a + b) (λ a. a ≤ 1000000) (λ at item adds to. IsTryItem file at item × (adds ≡ one_of item) × (to ≡ at + 8)) place (try_row file code) (number_adds 1000000)
    (λ q t x adds to. try_item_again file code q t x adds to) at t xs (sum_by one_of xs) follow.0 follow.1 (subst (λ (u : ℕ). t + u ≤ 1000000) (sym sum) fit) in
    read ∙ ap (λ (o : ℕ). Ok (xs, place o (t + sum_by one_of xs))) end ∙ ap (λ (u : ℕ). Ok (xs, place (at + 8 * length xs) (t + u))) sum

-- Each try with its handler.
record TriesRead (handlers : List Handler) (list t : ℕ) (items : List TryItem) (xs : List RawTry) (u : ℕ) : Type 0 where
  are : AreTries handlers list items xs
  is : u ≡ t + sum_by pairs_of xs
  fits : u ≤ 1000000

try_is : (handlers : List Handler) (list code : ℕ) (item : TryItem) (t : ℕ) (x : RawTry) (u : ℕ) → run (try_of handlers list code item t) ≡ Ok (x, u)
    → IsTry handlers list item x × (u ≡ t + length x.handlers) × (u ≤ 1000000)
unfolding try_of
try_is handlers list code item t x u e =
    let a = there_ok (handler_at (list + item.handler) handlers) _ _ _ _ e in
    let b = test_ok (nat_le (t + length a.0.pairs) 1000000) _ _ _ a.2 in
    subst (λ (p : RawTry × ℕ). IsTry handlers list item p.0 × (p.1 ≡ t + length p.0.handlers) × (p.1 ≤ 1000000)) (value_is _ _ b.1)
    (record { handler = a.0; begins = a.1; is = refl }, refl, leb-true _ _ b.0)

try_again : (handlers : List Handler) (list code : ℕ) (item : TryItem) (t : ℕ) (x : RawTry) → IsTry handlers list item x → t + length x.handlers ≤ 1000000
    → run (try_of handlers list code item t) ≡ Ok (x, t + length x.handlers)
unfolding try_of
try_again handlers list code item t x is fit =
    let found : handler_at (list + item.handler) handlers ≡ Some is.handler = is.begins in
    let x-is : raw_try item is.handler ≡ x = sym is.is in
    let under : t + length is.handler.pairs ≤ 1000000 = subst (λ (r : RawTry). t + length r.handlers ≤ 1000000) is.is fit in
    rw (found, le-leb (t + length is.handler.pairs) 1000000 under) (ap (λ (r : RawTry). Ok (r, t + length r.handlers)) x-is)

joined_are : (handlers : List Handler) (list code : ℕ) (items : List TryItem) (t : ℕ) (xs : List RawTry) (u : ℕ) → t ≤ 1000000 → run (walk (try_of handlers list code) items t) ≡ Ok (xs, u) → TriesRead handlers list t items xs u
unfolding walk
joined_are handlers list code [] t xs u fit e =
    subst (λ (p : List RawTry × ℕ). TriesRead handlers list t [] p.0 p.1) (value_is ([], t) (xs, u) e) (record { are = tt; is = omega arith; fits = fit })
joined_are handlers list code (item ∷ items) t xs u fit e =
    let a = bind_ok (try_of handlers list code item t) _ _ e in
    let one = try_is handlers list code item t a.0.0 a.0.1 a.1 in
    let c = bind_ok (walk (try_of handlers list code) items a.0.1) _ _ a.2 in
    let rest = joined_are handlers list code items a.0.1 c.0.0 c.0.1 one.2 c.1 in
    let first : a.0.1 ≡ t + length a.0.0.handlers = one.1 in
    let total : c.0.1 ≡ a.0.1 + sum_by pairs_of c.0.0 = rest.is in
    let cons : sum_by pairs_of (a.0.0 ∷ c.0.0) ≡ length a.0.0.handlers + sum_by pairs_of c.0.0 = sum_by-cons pairs_of a.0.0 c.0.0 in
    let sum : c.0.1 ≡ t + sum_by pairs_of (a.0.0 ∷ c.0.0) = omega arith in
    subst (λ (p : List RawTry × ℕ). TriesRead handlers list t (item ∷ items) p.0 p.1) (value_is _ _ c.2)
    (record { are = (one.0, rest.are); is = sum; fits = rest.fits })

joined_again : (handlers : List Handler) (list code : ℕ) (items : List TryItem) (t : ℕ) (xs : List RawTry) → AreTries handlers list items xs → t + sum_by pairs_of xs ≤ 1000000
    → run (walk (try_of handlers list code) items t) ≡ Ok (xs, t + sum_by pairs_of xs)
unfolding walk
joined_again handlers list code [] t [] are fit = let e : t ≡ t + 0 = omega arith in ap (λ (u : ℕ). Ok ([], u)) e
joined_again handlers list code [] t (x ∷ xs) are fit = absurd are
joined_again handlers list code (item ∷ items) t [] are fit = absurd are
joined_again handlers list code (item ∷ items) t (x ∷ xs) are fit =
    let cons : sum_by pairs_of (x ∷ xs) ≡ length x.handlers + sum_by pairs_of xs = sum_by-cons pairs_of x xs in
    let under : t + length x.handlers ≤ 1000000 = omega arith in
    let sum : t + length x.handlers + sum_by pairs_of xs ≡ t + sum_by pairs_of (x ∷ xs) = omega arith in
    let rest = joined_again handlers list code items (t + length x.handlers) xs are.1 (omega arith) in
    bind_runs (try_of handlers list code item t) (x, t + length x.handlers) _ _ (try_again handlers list code item t x are.0 under)
    (bind_runs (walk (try_of handlers list code) items (t + length x.handlers)) (xs, t + length x.handlers + sum_by pairs_of xs) _ _ rest
    (ap (λ (u : ℕ). Ok (x ∷ xs, u)) sum))

above_zero : (n m : ℕ) → m ≡ n → (n ≡ 0 → ⊥) → 0 < m
above_zero zero m same other = absurd (other refl)
above_zero (suc n) m same other = omega arith

pub as_many : (handlers : List Handler) (list : ℕ) (items : List TryItem) (xs : List RawTry) → AreTries handlers list items xs → length items ≡ length xs
as_many handlers list [] [] are = refl
as_many handlers list [] (x ∷ xs) are = absurd are
as_many handlers list (item ∷ items) [] are = absurd are
as_many handlers list (item ∷ items) (x ∷ xs) are = ap (λ (n : ℕ). suc n) (as_many handlers list items xs are.1)

-- the try items, the list of handlers behind them, and which handler is whose
record Tried (file : List ℕ) (types begin t : ℕ) (tries : List RawTry) (n u : ℕ) : Type 0 where
  adds : ℕ
  has : HasTries file types begin tries adds
  count : length tries ≡ n
  is : u ≡ t + adds
  fits : u ≤ 1000000

some_tries_are : (file : List ℕ) (types code : ℕ) (head : CodeHead) (t : ℕ) (xs : List RawTry) (u : ℕ) → t ≤ 1000000 → run (some_tries_at file types code head t) ≡ Ok (xs, u)
    → Tried file types (tries_begin head) t xs head.tries u
unfolding some_tries_at joined_at
some_tries_are file types code head t xs u fit e =
    let a = test_ok (nat_le (tries_begin head) (length file)) _ _ _ e in
    let b = bind_ok (try_rows_at file code head.tries (place (tries_begin head) t)) _ _ a.1 in
    let items = items_are file code head.tries (tries_begin head) t b.0.0 b.0.1 fit b.1 in
    let c = there_ok (uleb file b.0.1.at) _ _ _ _ b.2 in
    let d = bind_ok (handler_rows_at file types code c.0.0 (place c.0.1 b.0.1.total)) _ _ c.2 in
    let list-is : b.0.1.at ≡ tries_begin head + 8 * length b.0.0 = ap (λ (p : Place). p.at) items.is in
    let total-is : b.0.1.total ≡ t + length b.0.0 = ap (λ (p : Place). p.total) items.is in
    let fits : t + length b.0.0 ≤ 1000000 = items.fits in
    let read = handlers_are file types code c.0.0 c.0.1 b.0.1.total d.0.0 d.0.1 (omega arith) d.1 in
    let after : d.0.1.total ≡ b.0.1.total + read.adds = ap (λ (p : Place). p.total) read.is in
    let fits-more : b.0.1.total + read.adds ≤ 1000000 = read.fits in
    let tries = joined_are d.0.0 b.0.1.at code b.0.0 d.0.1.total xs u (omega arith) d.2 in
    let u-is : u ≡ d.0.1.total + sum_by pairs_of xs = tries.is in
    let size : uleb file b.0.1.at ≡ Some (length d.0.0, c.0.1) = c.1 ∙ ap (λ (n : ℕ). Some (n, c.0.1)) (sym read.count) in
    record {
      adds = length b.0.0 + read.adds + sum_by pairs_of xs;
      has = record {
        items = b.0.0;
        handlers = d.0.0;
        first = c.0.1;
        end = read.to;
        handled = read.adds;
        items_stand = items.stand;
        size_is = subst (λ (o : ℕ). uleb file o ≡ Some (length d.0.0, c.0.1)) list-is size;
        handlers_stand = read.stand;
        are = subst (λ (o : ℕ). AreTries d.0.0 o b.0.0 xs) list-is tries.are;
        sum = refl;
      };
      count = sym (as_many d.0.0 b.0.1.at b.0.0 xs tries.are) ∙ items.count;
      is = omega arith;
      fits = tries.fits;
    }

items_within : (file : List ℕ) (at : ℕ) (items : List TryItem) → 0 < length items → RowsStand (IsTryItem file) 8 at items → at ≤ length file
items_within file at [] some stand = absurd (omega arith)
items_within file at (item ∷ items) some stand = let within : at + 4 ≤ length file = u4_within file at item.start stand.0.start_is in omega arith

some_tries_again : (file : List ℕ) (types code : ℕ) (head : CodeHead) (t : ℕ) (xs : List RawTry) (adds : ℕ) → HasTries file types (tries_begin head) xs adds → length xs ≡ head.tries → 0 < length xs → t + adds ≤ 1000000
    → run (some_tries_at file types code head t) ≡ Ok (xs, t + adds)
unfolding some_tries_at joined_at
some_tries_again file types code head t xs adds has count some fit =
    let same : length has.items ≡ length xs = as_many has.handlers (tries_begin head + 8 * length has.items) has.items xs has.are in
    let within : tries_begin head ≤ length file = items_within file (tries_begin head) has.items (omega arith) has.items_stand in
    let sum : adds ≡ length has.items + has.handled + sum_by pairs_of xs = has.sum in
    let n-is : length has.items ≡ head.tries = same ∙ count in
    let items : run (try_rows_at file code head.tries (place (tries_begin head) t)) ≡ Ok (has.items, place (tries_begin head + 8 * length has.items) (t + length has.items)) =
    subst (λ (n : ℕ). run (try_rows_at file code n (place (tries_begin head) t)) ≡ Ok (has.items, place (tries_begin head + 8 * length has.items) (t + length has.items))) n-is
    (items_again file code (tries_begin head) t has.items has.items_stand (omega arith)) in
    let size : uleb file (tries_begin head + 8 * length has.items) ≡ Some (length has.handlers, has.first) = has.size_is in
    let handlers = handlers_again file types code has.first (t + length has.items) has.handlers has.handled has.end has.handlers_stand (omega arith) in
    let tries = joined_again has.handlers (tries_begin head + 8 * length has.items) code has.items (t + length has.items + has.handled) xs has.are (omega arith) in
    let all : t + length has.items + has.handled + sum_by pairs_of xs ≡ t + adds = omega arith in
    rw (le-leb (tries_begin head) (length file) within)
    (bind_runs (try_rows_at file code head.tries (place (tries_begin head) t)) (has.items, place (tries_begin head + 8 * length has.items) (t + length has.items)) _ _ items
    (rw size (bind_runs (handler_rows_at file types code (length has.handlers) (place has.first (t + length has.items))) (has.handlers, place has.end (t + length has.items + has.handled)) _ _ handlers
    (tries ∙ ap (λ (u : ℕ). Ok (xs, u)) all))))

-- without try items, and with some
pub record MaybeTried (file : List ℕ) (types begin t : ℕ) (tries : List RawTry) (n u : ℕ) : Type 0 where
  pub adds : ℕ
  pub has : MaybeTries file types begin tries adds
  pub count : length tries ≡ n
  pub is : u ≡ t + adds
  pub fits : u ≤ 1000000

some_are : (file : List ℕ) (types begin : ℕ) (xs : List RawTry) (adds : ℕ) → 0 < length xs → HasTries file types begin xs adds → MaybeTries file types begin xs adds
some_are file types begin [] adds some has = absurd (omega arith)
some_are file types begin (x ∷ xs) adds some has = has

has_some : (file : List ℕ) (types begin : ℕ) (xs : List RawTry) (adds : ℕ) → 0 < length xs → MaybeTries file types begin xs adds → HasTries file types begin xs adds
has_some file types begin [] adds some has = absurd (omega arith)
has_some file types begin (x ∷ xs) adds some has = has

none_added : (file : List ℕ) (types begin : ℕ) (xs : List RawTry) (adds : ℕ) → length xs ≡ 0 → MaybeTries file types begin xs adds → (xs ≡ []) × (adds ≡ 0)
none_added file types begin [] adds none has = (refl, has)
none_added file types begin (x ∷ xs) adds none has = absurd (omega arith)

pub tries_are : (file : List ℕ) (types code : ℕ) (head : CodeHead) (t : ℕ) (xs : List RawTry) (u : ℕ) → t ≤ 1000000 → run (tries_at file types code head t) ≡ Ok (xs, u)
    → MaybeTried file types (tries_begin head) t xs head.tries u
unfolding tries_at
tries_are file types code head t xs u fit e = elim (eqb_tells head.tries 0) [
  | inl none ↦ (let f : run {F = Fault} {A = List RawTry × ℕ} (Value ([], t)) ≡ Ok (xs, u) = (rw none.0 at e) in
      subst (λ (p : List RawTry × ℕ). MaybeTried file types (tries_begin head) t p.0 head.tries p.1) (value_is ([], t) (xs, u) f)
      (record { adds = 0; has = refl; count = sym none.1; is = omega arith; fits = fit }))
  | inr some ↦ (let f : run (some_tries_at file types code head t) ≡ Ok (xs, u) = (rw some.0 at e) in
      let tried = some_tries_are file types code head t xs u fit f in
      let n-is : length xs ≡ head.tries = tried.count in
      let other : head.tries ≡ 0 → ⊥ = some.1 in
      record { adds = tried.adds; has = some_are file types (tries_begin head) xs tried.adds (above_zero head.tries (length xs) n-is other) tried.has; count = tried.count; is = tried.is; fits = tried.fits })
]

pub tries_again : (file : List ℕ) (types code : ℕ) (head : CodeHead) (t : ℕ) (xs : List RawTry) (adds : ℕ) → MaybeTries file types (tries_begin head) xs adds → length xs ≡ head.tries → t + adds ≤ 1000000
    → run (tries_at file types code head t) ≡ Ok (xs, t + adds)
unfolding tries_at
tries_again file types code head t xs adds has count fit = elim (eqb_tells head.tries 0) [
  | inl none ↦ (let nothing = none_added file types (tries_begin head) xs adds (count ∙ none.1) has in
      let e : t ≡ t + adds = (let z : adds ≡ 0 = nothing.1 in omega arith) in
      rw none.0 (ap (λ (u : ℕ). Ok ([], u)) e ∙ ap (λ (ys : List RawTry). Ok (ys, t + adds)) (sym nothing.0)))
  | inr some ↦ (let above = above_zero head.tries (length xs) count some.1 in
      rw some.0 (some_tries_again file types code head t xs adds (has_some file types (tries_begin head) xs adds above has) count above fit))
]
