-- A DEX file is sound.
use Rattle.std.proofs.Common.{◌≡◌, inl, inr, ℕ, zero, suc, ◌+◌, ◌*◌, ◌^◌, ◌<◌, ◌≤◌, true, List, [], ◌∷◌, length, take, get_or, Option, Some, None, refl, sym, ap, subst, ◌∙◌, arith}
use Rattle.std.proofs.lemmas.Bool.Decides.{eqb_tells}
use Rattle.std.proofs.lemmas.Bool.{le-leb}
use Rattle.std.proofs.lemmas.List.{length-take}
use Rattle.std.proofs.lemmas.List.Elements.{All-cons, All-nil}
use Rattle.std.proofs.lemmas.List.Sums.{sum_by-cons}
use Rattle.std.specs.Prelude.{All, sum_by, nat_le}
use Rattle.dex_tables.specs.declared.dex.Body.{Body}
use Rattle.dex_tables.specs.declared.dex.ClassDef.{ClassDef}
use Rattle.dex_tables.specs.declared.dex.Dex.{Dex}
use Rattle.dex_tables.specs.declared.dex.Member.{Member}
use Rattle.dex_tables.specs.declared.dex.RawCode.{RawCode}
use Rattle.dex_tables.specs.declared.dex.RawTry.{RawTry}
use Rattle.dex_bodies.specs.declared.handlers.Handler.{Handler}
use Rattle.dex_tables.specs.declared.header.Header.{Header}
use Rattle.dex_tables.specs.declared.place.Sizes.{Sizes}
use Rattle.dex_tables.specs.declared.place.Totals.{Totals}
use Rattle.dex_bodies.specs.declared.tries.TryItem.{TryItem}
use Rattle.dex_bodies.specs.Handlers.{handler_at}
use Rattle.dex_bodies.specs.Tries.{raw_try}
use Rattle.dex_reader.specs.Whole.{sizes_of}
use Rattle.dex_tables.specs.Sequences.{Is2, Is4, RowsStand, Follow}
use Rattle.dex_tables.specs.TablesStand.{IsType, MaybeTypeList, IsProto, IsField, IsMethod}
use Rattle.dex_bodies.specs.CodeStands.{IsPair, IsHandler, IsTryItem, AreTries, pairs_of, MaybeTries, IsCode, MaybeCode}
use Rattle.dex_reader.specs.ClassesStand.{one_member, Spot, IsMember, IsBody, MaybeClassData, IsSuperclass, IsClass, IsClassRow}
use Rattle.dex_reader.specs.Dex.{IsDex}
use Rattle.dex_reader.specs.Sound.{rows_of, IsSoundProto, IsSoundField, IsSoundMethod, IsSoundTry, IsSoundCode, IsSoundMember, IfCode, IsSoundBody, IfSuperclass, IsSoundClass, code_units, tried, code_tries, body_units, body_tries, class_members, class_units, class_tries, SoundDex}
use Rattle.dex_tables.specs.Totals.{no_totals, plus}
use Rattle.dex_tables.proofs.Numbers.{u4_within, u2_within}
use Rattle.dex_bodies.proofs.TryReadings.{as_many}
use Rattle.dex_bodies.proofs.CodeReadings.{units_again}
use Rattle.std.proofs.lemmas.Option.{same_Some}

-- what holds of each row that stands
rows_all : {X : Type 0} (IsAt : ℕ → X → Type 0) (P : X → Type 0) (width : ℕ) → ((at : ℕ) (x : X) → IsAt at x → P x) → (at : ℕ) (xs : List X) → RowsStand IsAt width at xs → All P xs
rows_all IsAt P width one at [] stand = All-nil P
rows_all IsAt P width one at (x ∷ xs) stand = All-cons P x xs (one at x stand.0) (rows_all IsAt P width one (at + width) xs stand.1)

-- what holds of each item that follows
follow_all : {Q X T : Type 0} (none : T) (plus : T → T → T) (IsAt : Q → X → T → Q → Type 0) (P : X → Type 0) → ((q : Q) (x : X) (t : T) (to : Q) → IsAt q x t to → P x)
    → (q : Q) (xs : List X) (t : T) (to : Q) → Follow none plus IsAt q xs t to → All P xs
follow_all none plus IsAt P one q [] t to follow = All-nil P
follow_all none plus IsAt P one q (x ∷ xs) t to follow = All-cons P x xs (one q x follow.1 follow.0 follow.3) (follow_all none plus IsAt P one follow.0 xs follow.2 to follow.4)

list_sound : (file : List ℕ) (types list : ℕ) (xs : List ℕ) → MaybeTypeList file types list xs → All (λ kind. kind < types) xs
list_sound file types zero xs is = subst (λ (ys : List ℕ). All (λ kind. kind < types) ys) (sym is) (All-nil (λ kind. kind < types))
list_sound file types (suc list) xs is = rows_all (λ at kind. Is2 file at kind × (kind < types)) (λ kind. kind < types) 2 (λ at x both. both.1) (suc list + 4) xs is.stand

-- the handler of a try is one of the list
handler_sound : (file : List ℕ) (types from : ℕ) (hs : List Handler) (adds to at : ℕ) (h : Handler) → Follow 0 (λ a b. a + b) (IsHandler file types) from hs adds to → handler_at at hs ≡ Some h → All (λ (pair : ℕ × ℕ). pair.0 < types) h.pairs
unfolding handler_at
handler_sound file types from [] adds to at h follow e = absurd cc
handler_sound file types from (x ∷ hs) adds to at h follow e = elim (eqb_tells x.at at) [
  | inl same ↦ (let x-is : Some x ≡ Some h = (rw same.0 at e) in
      let one : x ≡ h = cc in
      subst (λ (k : Handler). All (λ (pair : ℕ × ℕ). pair.0 < types) k.pairs) one
      (follow_all 0 (λ a b. a + b) (IsPair file types) (λ (pair : ℕ × ℕ). pair.0 < types) (λ q p t to is. is.kind_below) follow.3.begin x.pairs follow.3.paired follow.3.end follow.3.pairs))
  | inr other ↦ handler_sound file types follow.0 hs follow.2 to at h follow.4 (rw other.0 at e)
]

tries_sound : (file : List ℕ) (types from : ℕ) (hs : List Handler) (adds to list : ℕ) (items : List TryItem) (xs : List RawTry) → Follow 0 (λ a b. a + b) (IsHandler file types) from hs adds to → AreTries hs list items xs → All (IsSoundTry types) xs
tries_sound file types from hs adds to list [] [] follow are = All-nil (IsSoundTry types)
tries_sound file types from hs adds to list [] (x ∷ xs) follow are = absurd are
tries_sound file types from hs adds to list (item ∷ items) [] follow are = absurd are
tries_sound file types from hs adds to list (item ∷ items) (x ∷ xs) follow are =
    let here : All (λ (pair : ℕ × ℕ). pair.0 < types) are.0.handler.pairs = handler_sound file types from hs adds to (list + item.handler) are.0.handler follow are.0.begins in
    let x-is : raw_try item are.0.handler ≡ x = sym are.0.is in
    All-cons (IsSoundTry types) x xs (subst (λ (t : RawTry). IsSoundTry types t) x-is here) (tries_sound file types from hs adds to list items xs follow are.1)

-- how many tries and pairs at least
tries_sum : (hs : List Handler) (list : ℕ) (items : List TryItem) (xs : List RawTry) → AreTries hs list items xs → sum_by tried xs ≡ length items + sum_by pairs_of xs
tries_sum hs list [] [] are = refl
tries_sum hs list [] (x ∷ xs) are = absurd are
tries_sum hs list (item ∷ items) [] are = absurd are
tries_sum hs list (item ∷ items) (x ∷ xs) are =
    let rest : sum_by tried xs ≡ length items + sum_by pairs_of xs = tries_sum hs list items xs are.1 in
    let left : sum_by tried (x ∷ xs) ≡ 1 + length x.handlers + sum_by tried xs = sum_by-cons tried x xs in
    let right : sum_by pairs_of (x ∷ xs) ≡ length x.handlers + sum_by pairs_of xs = sum_by-cons pairs_of x xs in
    omega arith

maybe_tries_sound : (file : List ℕ) (types begin : ℕ) (xs : List RawTry) (adds : ℕ) → MaybeTries file types begin xs adds → All (IsSoundTry types) xs × (sum_by tried xs ≤ adds)
maybe_tries_sound file types begin [] adds has = (All-nil (IsSoundTry types), omega arith)
maybe_tries_sound file types begin (x ∷ xs) adds has =
    let sum : sum_by tried (x ∷ xs) ≡ length has.items + sum_by pairs_of (x ∷ xs) = tries_sum has.handlers (begin + 8 * length has.items) has.items (x ∷ xs) has.are in
    let all : adds ≡ length has.items + has.handled + sum_by pairs_of (x ∷ xs) = has.sum in
    (tries_sound file types has.first has.handlers has.handled has.end (begin + 8 * length has.items) has.items (x ∷ xs) has.handlers_stand has.are, omega arith)

-- a number of four bytes is below 2^32, where the bytes are below 256
u4_small : (bytes : List ℕ) (at x : ℕ) → ((i : ℕ) → get_or bytes i 0 < 256) → Is4 bytes at x → x < 2 ^ 32
u4_small bytes at x small is =
    let within : at + 4 ≤ length bytes = u4_within bytes at x is in
    let below : nat_le (at + 4) (length bytes) ≡ true = le-leb _ _ within in
    let same = (rw below at is) in
    let value : get_or bytes at 0 + 256 * get_or bytes (at + 1) 0 + 65536 * get_or bytes (at + 2) 0 + 16777216 * get_or bytes (at + 3) 0 ≡ x = ap (λ (p : ℕ × ℕ). p.0) (same_Some _ _ same) in
    let a = small at in
    let b = small (at + 1) in
    let c = small (at + 2) in
    let d = small (at + 3) in
    omega (arith, value, a, b, c, d)

items_fit : (file : List ℕ) (at : ℕ) (items : List TryItem) → at ≤ length file → RowsStand (IsTryItem file) 8 at items → at + 8 * length items ≤ length file
items_fit file at [] le stand = omega arith
items_fit file at (item ∷ items) le stand =
    let here : at + 6 + 2 ≤ length file = u2_within file (at + 6) item.handler stand.0.handler_is in
    let rest : at + 8 + 8 * length items ≤ length file = items_fit file (at + 8) items (omega arith) stand.1 in
    omega (arith, rest)

few_items : (file : List ℕ) (at : ℕ) (items : List TryItem) (n : ℕ) → length file < 2 ^ 32 → RowsStand (IsTryItem file) 8 at items → length items ≡ n → n < 2 ^ 32
few_items file at [] n small stand many = omega arith
few_items file at (item ∷ items) n small stand many =
    let here : at + 4 ≤ length file = u4_within file at item.start stand.0.start_is in
    let all : at + 8 * length (item ∷ items) ≤ length file = items_fit file at (item ∷ items) (omega arith) stand in
    omega (arith, all, many)

few_tries : (file : List ℕ) (types begin : ℕ) (xs : List RawTry) (adds : ℕ) → length file < 2 ^ 32 → MaybeTries file types begin xs adds → length xs < 2 ^ 32
few_tries file types begin [] adds small has = omega arith
few_tries file types begin (x ∷ xs) adds small has =
    let many : length has.items ≡ length (x ∷ xs) = as_many has.handlers (begin + 8 * length has.items) has.items (x ∷ xs) has.are in
    few_items file begin has.items (length (x ∷ xs)) small has.items_stand many

-- a code item
code_sound : (file : List ℕ) (types at : ℕ) (code : RawCode) (adds : Totals) → length file < 2 ^ 32 → IsCode file types at code adds → IsSoundCode types code
code_sound file types at code adds small is =
    let tries = maybe_tries_sound file types _ code.tries is.tried is.tries in
    let whole : at + 12 + 4 ≤ length file = u4_within file (at + 12) (length code.units) is.units_is in
    let units : at + 16 + 2 * length code.units ≤ length file = (units_again file (at + 16) code.units is.units (omega arith)).1 in
    record { units = omega arith; tries = few_tries file types _ code.tries is.tried small is.tries; handlers = tries.0 }

maybe_code_sound : (file : List ℕ) (types at : ℕ) (code : Option RawCode) (adds : Totals) → length file < 2 ^ 32 → MaybeCode file types at code adds → IfCode types code
maybe_code_sound file types zero code adds small is = subst (λ (o : Option RawCode). IfCode types o) (sym is.0) tt
maybe_code_sound file types (suc at) code adds small is = subst (λ (o : Option RawCode). IfCode types o) (sym is.is) (code_sound file types (suc at) is.item adds small is.stands)

-- what is added at least
record Sums (t : Totals) (members units tries : ℕ) : Type 0 where
  members_are : t.members ≡ members
  units_are : t.units ≡ units
  tries_are : tries ≤ t.tries

code_sums : (file : List ℕ) (types at : ℕ) (code : Option RawCode) (adds : Totals) → MaybeCode file types at code adds → Sums adds 0 (code_units code) (code_tries code)
code_sums file types zero code adds is =
    subst (λ (o : Option RawCode). Sums adds 0 (code_units o) (code_tries o)) (sym is.0) (subst (λ (t : Totals). Sums t 0 0 0) (sym is.1) (record { members_are = refl; units_are = refl; tries_are = omega arith }))
code_sums file types (suc at) code adds is =
    let tries = maybe_tries_sound file types _ is.item.tries is.stands.tried is.stands.tries in
    subst (λ (o : Option RawCode). Sums adds 0 (code_units o) (code_tries o)) (sym is.is)
    (subst (λ (t : Totals). Sums t 0 (length is.item.units) (sum_by tried is.item.tries)) (sym is.stands.adds_is) (record { members_are = refl; units_are = refl; tries_are = tries.1 }))

members_sums : (file : List ℕ) (fields : ℕ) (q : Spot) (xs : List Member) (adds : Totals) (to : Spot) → Follow no_totals plus (IsMember file fields) q xs adds to → Sums adds (length xs) 0 0
members_sums file fields q [] adds to follow = subst (λ (t : Totals). Sums t 0 0 0) (sym follow.1) (record { members_are = refl; units_are = refl; tries_are = omega arith })
members_sums file fields q (x ∷ xs) adds to follow =
    let rest = members_sums file fields follow.0 xs follow.2 to follow.4 in
    let one : follow.1 ≡ one_member = follow.3.one in
    let all : adds ≡ plus one_member follow.2 = follow.5 ∙ ap (λ (t : Totals). plus t follow.2) one in
    let m : follow.2.members ≡ length xs = rest.members_are in
    let u : follow.2.units ≡ 0 = rest.units_are in
    subst (λ (t : Totals). Sums t (suc (length xs)) 0 0) (sym all) (record { members_are = omega arith; units_are = omega arith; tries_are = omega arith })

bodies_sums : (file : List ℕ) (sizes : Sizes) (q : Spot) (xs : List Body) (adds : Totals) (to : Spot) → Follow no_totals plus (IsBody file sizes) q xs adds to → Sums adds (length xs) (sum_by body_units xs) (sum_by body_tries xs)
bodies_sums file sizes q [] adds to follow = subst (λ (t : Totals). Sums t 0 0 0) (sym follow.1) (record { members_are = refl; units_are = refl; tries_are = omega arith })
bodies_sums file sizes q (x ∷ xs) adds to follow =
    let rest = bodies_sums file sizes follow.0 xs follow.2 to follow.4 in
    let code = code_sums file sizes.types follow.3.offset x.code follow.3.coded follow.3.code in
    let one : follow.1 ≡ plus one_member follow.3.coded = follow.3.one_and_code in
    let all : adds ≡ plus (plus one_member follow.3.coded) follow.2 = follow.5 ∙ ap (λ (t : Totals). plus t follow.2) one in
    let m : follow.2.members ≡ length xs = rest.members_are in
    let u : follow.2.units ≡ sum_by body_units xs = rest.units_are in
    let r : sum_by body_tries xs ≤ follow.2.tries = rest.tries_are in
    let m1 : follow.3.coded.members ≡ 0 = code.members_are in
    let u1 : follow.3.coded.units ≡ code_units x.code = code.units_are in
    let r1 : code_tries x.code ≤ follow.3.coded.tries = code.tries_are in
    let us : sum_by body_units (x ∷ xs) ≡ code_units x.code + sum_by body_units xs = sum_by-cons body_units x xs in
    let rs : sum_by body_tries (x ∷ xs) ≡ code_tries x.code + sum_by body_tries xs = sum_by-cons body_tries x xs in
    subst (λ (t : Totals). Sums t (suc (length xs)) (sum_by body_units (x ∷ xs)) (sum_by body_tries (x ∷ xs))) (sym all) (record { members_are = omega arith; units_are = omega arith; tries_are = omega arith })

data_sums : (file : List ℕ) (sizes : Sizes) (at : ℕ) (c : ClassDef) (adds : Totals) → MaybeClassData file sizes at c adds → Sums adds (class_members c) (class_units c) (class_tries c)
data_sums file sizes zero c adds has =
    let s : length c.statics ≡ 0 = ap (λ (ys : List Member). length ys) has.statics in
    let i : length c.instances ≡ 0 = ap (λ (ys : List Member). length ys) has.instances in
    let d : length c.directs ≡ 0 = ap (λ (ys : List Body). length ys) has.directs in
    let v : length c.virtuals ≡ 0 = ap (λ (ys : List Body). length ys) has.virtuals in
    let du : sum_by body_units c.directs ≡ 0 = ap (λ (ys : List Body). sum_by body_units ys) has.directs in
    let vu : sum_by body_units c.virtuals ≡ 0 = ap (λ (ys : List Body). sum_by body_units ys) has.virtuals in
    let dt : sum_by body_tries c.directs ≡ 0 = ap (λ (ys : List Body). sum_by body_tries ys) has.directs in
    let vt : sum_by body_tries c.virtuals ≡ 0 = ap (λ (ys : List Body). sum_by body_tries ys) has.virtuals in
    subst (λ (t : Totals). Sums t (class_members c) (class_units c) (class_tries c)) (sym has.none) (record { members_are = omega arith; units_are = omega arith; tries_are = omega arith })
data_sums file sizes (suc at) c adds has =
    let s = members_sums file sizes.fields (has.counts.3, 0) c.statics has.parts.0 has.statics_to has.statics in
    let i = members_sums file sizes.fields (has.statics_to.0, 0) c.instances has.parts.1 has.instances_to has.instances in
    let d = bodies_sums file sizes (has.instances_to.0, 0) c.directs has.parts.2 has.directs_to has.directs in
    let v = bodies_sums file sizes (has.directs_to.0, 0) c.virtuals has.parts.3 has.virtuals_to has.virtuals in
    let sm = s.members_are in let su = s.units_are in
    let im = i.members_are in let iu = i.units_are in
    let dm = d.members_are in let du = d.units_are in let dt = d.tries_are in
    let vm = v.members_are in let vu = v.units_are in let vt = v.tries_are in
    subst (λ (t : Totals). Sums t (class_members c) (class_units c) (class_tries c)) (sym has.sum)
    (record { members_are = omega (arith, sm, im, dm, vm); units_are = omega (arith, su, iu, du, vu); tries_are = omega (arith, dt, vt) })

add_le : (a b c d : ℕ) → a ≤ b → c ≤ d → a + c ≤ b + d
add_le a b c d ab cd = omega arith

short_take : (n : ℕ) (bytes : List ℕ) → length (take n bytes) ≤ n
short_take n bytes = omega (arith, length-take n bytes)

classes_sums : (file : List ℕ) (sizes : Sizes) (at : ℕ) (xs : List ClassDef) (adds : Totals) (to : ℕ) → Follow no_totals plus (IsClassRow file sizes) at xs adds to
    → Sums adds (sum_by class_members xs) (sum_by class_units xs) (sum_by class_tries xs)
classes_sums file sizes at [] adds to follow = subst (λ (t : Totals). Sums t 0 0 0) (sym follow.1) (record { members_are = refl; units_are = refl; tries_are = omega arith })
classes_sums file sizes at (x ∷ xs) adds to follow =
    let rest = classes_sums file sizes follow.0 xs follow.2 to follow.4 in
    let one = data_sums file sizes follow.3.0.class_data x follow.1 follow.3.0.members in
    let ms = sum_by-cons class_members x xs in
    let us = sum_by-cons class_units x xs in
    let ts = sum_by-cons class_tries x xs in
    let m = one.members_are in let u = one.units_are in let t = one.tries_are in
    let m' = rest.members_are in let u' = rest.units_are in let t' = rest.tries_are in
    subst (λ (t : Totals). Sums t (sum_by class_members (x ∷ xs)) (sum_by class_units (x ∷ xs)) (sum_by class_tries (x ∷ xs))) (sym follow.5)
    (record {
      members_are = ap (λ (n : ℕ). n + follow.2.members) m ∙ ap (λ (n : ℕ). class_members x + n) m' ∙ sym ms;
      units_are = ap (λ (n : ℕ). n + follow.2.units) u ∙ ap (λ (n : ℕ). class_units x + n) u' ∙ sym us;
      tries_are = subst (λ (n : ℕ). n ≤ follow.1.tries + follow.2.tries) (sym ts) (add_le (class_tries x) follow.1.tries (sum_by class_tries xs) follow.2.tries t t');
    })

-- a class
superclass_sound : (types index : ℕ) (x : Option ℕ) → IsSuperclass types index x → IfSuperclass types x
superclass_sound types index None is = tt
superclass_sound types index (Some x) is = subst (λ (n : ℕ). n < types) (sym is.0) is.1

body_sound : (file : List ℕ) (sizes : Sizes) (q : Spot) (x : Body) (adds : Totals) (to : Spot) → length file < 2 ^ 32 → IsBody file sizes q x adds to → IsSoundBody sizes x
body_sound file sizes q x adds to small is = record { index = is.index_below; code = maybe_code_sound file sizes.types is.offset x.code is.coded small is.code }

record DataSound (sizes : Sizes) (c : ClassDef) : Type 0 where
  statics : All (IsSoundMember sizes.fields) c.statics
  instances : All (IsSoundMember sizes.fields) c.instances
  directs : All (IsSoundBody sizes) c.directs
  virtuals : All (IsSoundBody sizes) c.virtuals

data_sound : (file : List ℕ) (sizes : Sizes) (at : ℕ) (c : ClassDef) (adds : Totals) → length file < 2 ^ 32 → MaybeClassData file sizes at c adds → DataSound sizes c
data_sound file sizes zero c adds small has = record {
  statics = subst (λ (ys : List Member). All (IsSoundMember sizes.fields) ys) (sym has.statics) (All-nil (IsSoundMember sizes.fields));
  instances = subst (λ (ys : List Member). All (IsSoundMember sizes.fields) ys) (sym has.instances) (All-nil (IsSoundMember sizes.fields));
  directs = subst (λ (ys : List Body). All (IsSoundBody sizes) ys) (sym has.directs) (All-nil (IsSoundBody sizes));
  virtuals = subst (λ (ys : List Body). All (IsSoundBody sizes) ys) (sym has.virtuals) (All-nil (IsSoundBody sizes));
}
data_sound file sizes (suc at) c adds small has = record {
  statics = follow_all no_totals plus (IsMember file sizes.fields) (IsSoundMember sizes.fields) (λ q x t to is. is.index_below) (has.counts.3, 0) c.statics has.parts.0 has.statics_to has.statics;
  instances = follow_all no_totals plus (IsMember file sizes.fields) (IsSoundMember sizes.fields) (λ q x t to is. is.index_below) (has.statics_to.0, 0) c.instances has.parts.1 has.instances_to has.instances;
  directs = follow_all no_totals plus (IsBody file sizes) (IsSoundBody sizes) (λ q x t to is. body_sound file sizes q x t to small is) (has.instances_to.0, 0) c.directs has.parts.2 has.directs_to has.directs;
  virtuals = follow_all no_totals plus (IsBody file sizes) (IsSoundBody sizes) (λ q x t to is. body_sound file sizes q x t to small is) (has.directs_to.0, 0) c.virtuals has.parts.3 has.virtuals_to has.virtuals;
}

class_sound : (file : List ℕ) (sizes : Sizes) (at : ℕ) (c : ClassDef) (adds : Totals) → length file < 2 ^ 32 → IsClass file sizes at c adds → IsSoundClass sizes c
class_sound file sizes at c adds small is =
    let lists = data_sound file sizes is.class_data c adds small is.members in
    record {
      kind = is.class_below;
      superclass = superclass_sound sizes.types is.index c.superclass is.superclass;
      interfaces = list_sound file sizes.types is.list c.interfaces is.interfaces;
      statics = lists.statics;
      instances = lists.instances;
      directs = lists.directs;
      virtuals = lists.virtuals;
    }

-- the whole
same_sizes : (header : Header) (dex : Dex) → length dex.strings ≡ header.strings.size → length dex.types ≡ header.types.size → length dex.protos ≡ header.protos.size → length dex.fields ≡ header.fields.size → length dex.methods ≡ header.methods.size
    → sizes_of header ≡ rows_of dex
same_sizes header dex s t p f m =
    let S : ℕ → ℕ → ℕ → ℕ → ℕ → Sizes = λ a b c d e. record { strings = a; types = b; protos = c; fields = d; methods = e } in
    ap (λ (n : ℕ). S n header.types.size header.protos.size header.fields.size header.methods.size) (sym s)
    ∙ ap (λ (n : ℕ). S (length dex.strings) n header.protos.size header.fields.size header.methods.size) (sym t)
    ∙ ap (λ (n : ℕ). S (length dex.strings) (length dex.types) n header.fields.size header.methods.size) (sym p)
    ∙ ap (λ (n : ℕ). S (length dex.strings) (length dex.types) (length dex.protos) n header.methods.size) (sym f)
    ∙ ap (λ (n : ℕ). S (length dex.strings) (length dex.types) (length dex.protos) (length dex.fields) n) (sym m)

pub dex_sound : (bytes : List ℕ) (dex : Dex) → ((i : ℕ) → get_or bytes i 0 < 256) → IsDex bytes dex → SoundDex dex
dex_sound bytes dex small is =
    let header = is.header in
    let tables = is.tables in
    let file : List ℕ = take header.file_size bytes in
    let same = same_sizes header dex tables.strings.count tables.types.count tables.protos.count tables.fields.count tables.methods.count in
    let size : header.file_size < 2 ^ 32 = u4_small bytes 32 header.file_size small is.header_is.file_size in
    let long : length file ≤ header.file_size = short_take header.file_size bytes in
    let short : length (take header.file_size bytes) < 2 ^ 32 = omega arith in
    let sums = classes_sums file (sizes_of header) header.classes.at dex.classes is.totals tables.end tables.classes in
    let limits = is.limits in
    record {
      strings_size = subst (λ (n : ℕ). n < 2 ^ 32) (sym tables.strings.count) (u4_small bytes 56 header.strings.size small is.header_is.strings.0);
      types_size = subst (λ (n : ℕ). n < 2 ^ 32) (sym tables.types.count) (u4_small bytes 64 header.types.size small is.header_is.types.0);
      protos_size = subst (λ (n : ℕ). n < 2 ^ 32) (sym tables.protos.count) (u4_small bytes 72 header.protos.size small is.header_is.protos.0);
      fields_size = subst (λ (n : ℕ). n < 2 ^ 32) (sym tables.fields.count) (u4_small bytes 80 header.fields.size small is.header_is.fields.0);
      methods_size = subst (λ (n : ℕ). n < 2 ^ 32) (sym tables.methods.count) (u4_small bytes 88 header.methods.size small is.header_is.methods.0);
      types = subst (λ (s : Sizes). All (λ name. name < s.strings) dex.types) same (rows_all (IsType file (sizes_of header)) (λ name. name < header.strings.size) 4 (λ at x both. both.1) header.types.at dex.types tables.types.stand);
      protos = subst (λ (s : Sizes). All (IsSoundProto s) dex.protos) same (rows_all (IsProto file (sizes_of header)) (IsSoundProto (sizes_of header)) 12
          (λ at x p. record { ret = p.ret_below; params = list_sound file header.types.size p.list x.params p.params }) header.protos.at dex.protos tables.protos.stand);
      fields = subst (λ (s : Sizes). All (IsSoundField s) dex.fields) same (rows_all (IsField file (sizes_of header)) (IsSoundField (sizes_of header)) 8
          (λ at x f. record { class = f.class_below; kind = f.kind_below; name = f.name_below }) header.fields.at dex.fields tables.fields.stand);
      methods = subst (λ (s : Sizes). All (IsSoundMethod s) dex.methods) same (rows_all (IsMethod file (sizes_of header)) (IsSoundMethod (sizes_of header)) 8
          (λ at x m. record { class = m.class_below; proto = m.proto_below; name = m.name_below }) header.methods.at dex.methods tables.methods.stand);
      classes = subst (λ (s : Sizes). All (IsSoundClass s) dex.classes) same (follow_all no_totals plus (IsClassRow file (sizes_of header)) (IsSoundClass (sizes_of header))
          (λ at c t to row. class_sound file (sizes_of header) at c t short row.0) header.classes.at dex.classes is.totals tables.end tables.classes);
      names_limit = limits.names;
      lists_limit = limits.type_lists;
      classes_limit = limits.class_defs;
      members_limit = subst (λ (n : ℕ). n ≤ 400000) sums.members_are limits.class_data;
      units_limit = subst (λ (n : ℕ). n ≤ 8388608) sums.units_are limits.units;
      tries_limit = (let t = sums.tries_are in let l = limits.tries in omega (arith, t, l));
    }
