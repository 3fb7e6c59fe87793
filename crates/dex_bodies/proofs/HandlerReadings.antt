-- The handlers of a code item that are read stand there, and those that stand there are read.
use Rattle.std.proofs.Common.{◌≡◌, ℕ, ℤ, ◌+◌, ◌<◌, ◌≤◌, Bool, true, false, List, length, Option, Some, None, Ok, refl, sym, ap, subst, ◌∙◌, arith}
use Rattle.std.proofs.lemmas.Bool.{ltb-true, lt-ltb}
use Rattle.vet_base.specs.Numbers.{uleb, sleb}
use Rattle.vet_base.specs.Script.{run}
use Rattle.dex_bodies.specs.declared.handlers.Handler.{Handler}
use Rattle.dex_bodies.specs.declared.handlers.HandlerSize.{HandlerSize}
use Rattle.dex_tables.specs.declared.place.Place.{Place}
use Rattle.dex_tables.specs.TypeLists.{place}
use Rattle.dex_bodies.specs.Handlers.{pair_row, pairs_at, pair_count, catches_all, handler_size_at, catch_all_at, handler_of, handler_row, handler_rows_at}
use Rattle.dex_tables.specs.Sequences.{Follow}
use Rattle.dex_bodies.specs.CodeStands.{IsPair, IsCatchAll, IsHandler}
use Rattle.dex_tables.proofs.Readings.{there_ok, repeat_read, repeat_again, OneRead, ManyRead}
use Rattle.dex_tables.proofs.RunningTotals.{number_adds}
use Rattle.vet_base.proofs.Runs.{bind_ok, test_ok, bind_runs, value_is}

pub pair_is : (file : List ℕ) (types code at t : ℕ) (x : ℕ × ℕ) (s : Place) → t ≤ 1000000 → run (pair_row file types code (place at t)) ≡ Ok (x, s)
    → OneRead (λ a b. a + b) (λ a. a ≤ 1000000) (IsPair file types) place at t x s
unfolding pair_row
pair_is file types code at t x s fit e =
    let a = there_ok (uleb file at) _ _ _ _ e in
    let b = test_ok _ _ _ _ a.2 in
    let c = there_ok (uleb file a.0.1) _ _ _ _ b.1 in
    let d = test_ok _ _ _ _ c.2 in
    let under : t < 1000000 = ltb-true _ _ d.0 in
    subst (λ (p : (ℕ × ℕ) × Place). OneRead (λ a b. a + b) (λ a. a ≤ 1000000) (IsPair file types) place at t p.0 p.1) (value_is _ _ d.1)
    (record { to = c.0.1; adds = 1; stands = record { mid = a.0.1; kind_is = a.1; kind_below = ltb-true _ _ b.0; address_is = c.1; one = refl }; is = refl; fits = omega arith })

pub pair_again : (file : List ℕ) (types code at t : ℕ) (x : ℕ × ℕ) (adds to : ℕ) → IsPair file types at x adds to → t + adds ≤ 1000000
    → run (pair_row file types code (place at t)) ≡ Ok (x, place to (t + adds))
unfolding pair_row
pair_again file types code at t x adds to is fit =
    let kind : uleb file at ≡ Some (x.0, is.mid) = is.kind_is in
    let address : uleb file is.mid ≡ Some (x.1, to) = is.address_is in
    let one : adds ≡ 1 = is.one in
    let under : t < 1000000 = omega arith in
    rw (kind, lt-ltb x.0 types is.kind_below, address, lt-ltb t 1000000 under, one) refl

pub pairs_are : (file : List ℕ) (types code n at t : ℕ) (xs : List (ℕ × ℕ)) (s : Place) → t ≤ 1000000 → run (pairs_at file types code n (place at t)) ≡ Ok (xs, s)
    → ManyRead 0 (λ a b. a + b) (λ a. a ≤ 1000000) (IsPair file types) place n at t xs s
unfolding pairs_at
pairs_are file types code n at t xs s fit e =
    repeat_read 0 (λ a b. a + b) (λ a. a ≤ 1000000) (IsPair file types) place (pair_row file types code) (number_adds 1000000) (λ q t x s. pair_is file types code q t x s) n at t xs s fit e

pub pairs_again : (file : List ℕ) (types code at t : ℕ) (xs : List (ℕ × ℕ)) (adds to : ℕ) → Follow 0 (λ a b. a + b) (IsPair file types) at xs adds to → t + adds ≤ 1000000
    → run (pairs_at file types code (length xs) (place at t)) ≡ Ok (xs, place to (t + adds))
unfolding pairs_at
pairs_again file types code at t xs adds to follow fit =
    repeat_again 0 (λ a b. a + b) (λ a. a ≤ 1000000) (IsPair file types) place (pair_row file types code) (number_adds 1000000) (λ q t x adds to. pair_again file types code q t x adds to) at t xs adds to follow fit

catch_all_is : (file : List ℕ) (catches : Bool) (at : ℕ) (x : Option ℕ) (to : ℕ) → run (catch_all_at file catches at) ≡ Ok (x, to) → IsCatchAll catches file at x to
unfolding catch_all_at
catch_all_is file true at x to e =
    let a = there_ok (uleb file at) _ _ _ _ e in
    subst (λ (p : Option ℕ × ℕ). IsCatchAll true file at p.0 p.1) (value_is _ _ a.2) (a.0.0, refl, a.1)
catch_all_is file false at x to e = subst (λ (p : Option ℕ × ℕ). IsCatchAll false file at p.0 p.1) (value_is _ _ e) (refl, refl)

catch_all_again : (file : List ℕ) (catches : Bool) (at : ℕ) (x : Option ℕ) (to : ℕ) → IsCatchAll catches file at x to → run (catch_all_at file catches at) ≡ Ok (x, to)
unfolding catch_all_at
catch_all_again file true at x to is =
    let address : uleb file at ≡ Some (is.0, to) = is.2 in
    let some : x ≡ Some is.0 = is.1 in
    rw (address, some) refl
catch_all_again file false at x to is =
    let none : x ≡ None = is.0 in
    let end : at ≡ to = is.1 in
    rw (none, end) refl

size_is : (file : List ℕ) (at : ℕ) (x : HandlerSize) → run (handler_size_at file at) ≡ Ok x → (size : ℤ × ℕ) × (sleb file at ≡ Some size) × (x ≡ record { pairs = pair_count size.0; catches_all = catches_all size.0; at = size.1 })
unfolding handler_size_at
size_is file at x e =
    let a = there_ok (sleb file at) _ _ _ _ e in
    (a.0, a.1, sym (value_is _ _ a.2))

pub handler_is : (file : List ℕ) (types code at t : ℕ) (x : Handler) (s : Place) → t ≤ 1000000 → run (handler_row file types code (place at t)) ≡ Ok (x, s)
    → OneRead (λ a b. a + b) (λ a. a ≤ 1000000) (IsHandler file types) place at t x s
unfolding handler_row
handler_is file types code at t x s fit e =
    let a = bind_ok (handler_size_at file at) _ _ e in
    let b = bind_ok (pairs_at file types code a.0.pairs (place a.0.at t)) _ _ a.2 in
    let c = bind_ok (catch_all_at file a.0.catches_all b.0.1.at) _ _ b.2 in
    let d = test_ok _ _ _ _ c.2 in
    let size = size_is file at a.0 a.1 in
    let read = pairs_are file types code a.0.pairs a.0.at t b.0.0 b.0.1 fit b.1 in
    let count-is : a.0.pairs ≡ pair_count size.0.0 = ap (λ (u : HandlerSize). u.pairs) size.2 in
    let catches-is : a.0.catches_all ≡ catches_all size.0.0 = ap (λ (u : HandlerSize). u.catches_all) size.2 in
    let at-is : a.0.at ≡ size.0.1 = ap (λ (u : HandlerSize). u.at) size.2 in
    let end-is : b.0.1.at ≡ read.to = ap (λ (u : Place). u.at) read.is in
    let total-is : b.0.1.total ≡ t + read.adds = ap (λ (u : Place). u.total) read.is in
    let under : b.0.1.total < 1000000 = ltb-true _ _ d.0 in
    let all = catch_all_is file a.0.catches_all b.0.1.at c.0.0 c.0.1 c.1 in
    let all-at : IsCatchAll (catches_all size.0.0) file read.to c.0.0 c.0.1 = subst (λ (k : Bool). IsCatchAll k file read.to c.0.0 c.0.1) catches-is (subst (λ (o : ℕ). IsCatchAll a.0.catches_all file o c.0.0 c.0.1) end-is all) in
    let follow : Follow 0 (λ a b. a + b) (IsPair file types) size.0.1 b.0.0 read.adds read.to = subst (λ (o : ℕ). Follow 0 (λ a b. a + b) (IsPair file types) o b.0.0 read.adds read.to) at-is read.stand in
    subst (λ (p : Handler × Place). OneRead (λ a b. a + b) (λ a. a ≤ 1000000) (IsHandler file types) place at t p.0 p.1) (value_is _ _ d.1)
    (record {
      to = c.0.1;
      adds = read.adds + 1;
      stands = record { size = size.0.0; begin = size.0.1; end = read.to; paired = read.adds; stands_at = refl; size_is = size.1; count = read.count ∙ count-is; pairs = follow; catch_all = all-at; one_more = refl };
      is = ap (λ (u : ℕ). place c.0.1 u) (omega arith);
      fits = omega arith;
    })

pub handler_again : (file : List ℕ) (types code at t : ℕ) (x : Handler) (adds to : ℕ) → IsHandler file types at x adds to → t + adds ≤ 1000000
    → run (handler_row file types code (place at t)) ≡ Ok (x, place to (t + adds))
unfolding handler_row handler_size_at
handler_again file types code at t x adds to is fit =
    let size : sleb file at ≡ Some (is.size, is.begin) = is.size_is in
    let more : adds ≡ is.paired + 1 = is.one_more in
    let pairs : run (pairs_at file types code (pair_count is.size) (place is.begin t)) ≡ Ok (x.pairs, place is.end (t + is.paired)) =
    subst (λ (n : ℕ). run (pairs_at file types code n (place is.begin t)) ≡ Ok (x.pairs, place is.end (t + is.paired))) is.count (pairs_again file types code is.begin t x.pairs is.paired is.end is.pairs (omega arith)) in
    let under : t + is.paired < 1000000 = omega arith in
    let sum : t + is.paired + 1 ≡ t + adds = omega arith in
    let here : at ≡ x.at = sym is.stands_at in
    let whole : record { at = at; pairs = x.pairs; catch_all = x.catch_all } ≡ x = ap (λ (o : ℕ). handler_of o x.pairs x.catch_all) here in
    rw size (bind_runs (pairs_at file types code (pair_count is.size) (place is.begin t)) (x.pairs, place is.end (t + is.paired)) _ _ pairs
    (bind_runs (catch_all_at file (catches_all is.size) is.end) (x.catch_all, to) _ _ (catch_all_again file (catches_all is.size) is.end x.catch_all to is.catch_all)
    (rw (lt-ltb (t + is.paired) 1000000 under, sum) (ap (λ (h : Handler). Ok (h, place to (t + adds))) whole))))

pub handlers_are : (file : List ℕ) (types code n at t : ℕ) (xs : List Handler) (s : Place) → t ≤ 1000000 → run (handler_rows_at file types code n (place at t)) ≡ Ok (xs, s)
    → ManyRead 0 (λ a b. a + b) (λ a. a ≤ 1000000) (IsHandler file types) place n at t xs s
unfolding handler_rows_at
handlers_are file types code n at t xs s fit e =
    repeat_read 0 (λ a b. a + b) (λ a. a ≤ 1000000) (IsHandler file types) place (handler_row file types code) (number_adds 1000000) (λ q t x s. handler_is file types code q t x s) n at t xs s fit e

pub handlers_again : (file : List ℕ) (types code at t : ℕ) (xs : List Handler) (adds to : ℕ) → Follow 0 (λ a b. a + b) (IsHandler file types) at xs adds to → t + adds ≤ 1000000
    → run (handler_rows_at file types code (length xs) (place at t)) ≡ Ok (xs, place to (t + adds))
unfolding handler_rows_at
handlers_again file types code at t xs adds to follow fit =
    repeat_again 0 (λ a b. a + b) (λ a. a ≤ 1000000) (IsHandler file types) place (handler_row file types code) (number_adds 1000000) (λ q t x adds to. handler_again file types code q t x adds to) at t xs adds to follow fit
