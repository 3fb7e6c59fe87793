-- A class that is read stands there with its class data, and one that stands there is read.
use Rattle.std.proofs.Common.{◌≡◌, ℕ, zero, suc, ◌+◌, ◌<◌, ◌≤◌, List, [], length, Option, Some, Ok, refl, sym, ap, subst, ◌∙◌, arith}
use Rattle.std.proofs.lemmas.Bool.{ltb-true, lt-ltb}
use Rattle.vet_base.specs.Numbers.{uleb}
use Rattle.vet_base.specs.Script.{run}
use Rattle.dex_tables.specs.declared.dex.Body.{Body}
use Rattle.dex_tables.specs.declared.dex.ClassDef.{ClassDef}
use Rattle.dex_tables.specs.declared.dex.Member.{Member}
use Rattle.dex_tables.specs.declared.dex.RawCode.{RawCode}
use Rattle.dex_reader.specs.declared.class_data.Counts.{Counts}
use Rattle.dex_reader.specs.declared.class_data.ClassData.{ClassData}
use Rattle.dex_reader.specs.declared.class_data.Walk.{Walk}
use Rattle.dex_reader.specs.declared.class_defs.ClassRow.{ClassRow}
use Rattle.dex_tables.specs.declared.place.Sizes.{Sizes}
use Rattle.dex_tables.specs.declared.place.Totals.{Totals}
use Rattle.dex_reader.specs.ClassData.{walk_at, one_more, counted, sum_below, member_of, member_row, members_at, body_of, body_row, bodies_at, counts_at, class_data_of, some_class_data_at, class_data_at, class_def_of}
use Rattle.dex_bodies.specs.Code.{maybe_code_at}
use Rattle.dex_tables.specs.Sequences.{IsLeb, Follow}
use Rattle.dex_reader.specs.ClassesStand.{one_member, Spot, IsMember, IsBody, HasClassData, MaybeClassData}
use Rattle.dex_tables.specs.Totals.{no_totals, plus}
use Rattle.dex_tables.proofs.Readings.{there_ok, repeat_read, repeat_again, OneRead, ManyRead}
use Rattle.dex_tables.proofs.Numbers.{suc_not_zero}
use Rattle.dex_tables.proofs.RunningTotals.{WithinTotals, same_totals, totals_add}
use Rattle.dex_bodies.proofs.CodeReadings.{maybe_code_is, maybe_code_again}
use Rattle.vet_base.proofs.Runs.{bind_ok, test_ok, bind_runs, value_is}

spot : Spot → Totals → Walk
spot q t = walk_at q.0 q.1 t

more_is : (t : Totals) → t.members < 400000 → (one_more t ≡ plus t one_member) × (WithinTotals t → WithinTotals (plus t one_member))
more_is t lt = (
  same_totals _ _ (omega arith) (omega arith) (omega arith),
  λ fit. record { members = omega arith; units = (let k : t.units ≤ 8388608 = fit.units in omega arith); tries = (let k : t.tries ≤ 1000000 = fit.tries in omega arith) },
)

member_is : (file : List ℕ) (fields class : ℕ) (q : Spot) (t : Totals) (x : Member) (s : Walk) → WithinTotals t → run (member_row file fields class (spot q t)) ≡ Ok (x, s)
    → OneRead plus WithinTotals (IsMember file fields) spot q t x s
unfolding member_row sum_below counted spot
member_is file fields class q t x s fit e =
    let a = there_ok (uleb file q.0) _ _ _ _ e in
    let b = test_ok _ _ _ _ a.2 in
    let c = there_ok (uleb file a.0.1) _ _ _ _ b.1 in
    let d = test_ok _ _ _ _ c.2 in
    let more = more_is t (ltb-true _ _ d.0) in
    subst (λ (p : Member × Walk). OneRead plus WithinTotals (IsMember file fields) (λ q t. walk_at q.0 q.1 t) q t p.0 p.1) (value_is _ _ d.1)
    (record {
      to = (c.0.1, q.1 + a.0.0);
      adds = one_member;
      stands = record { difference = a.0.0; mid = a.0.1; difference_is = a.1; index_is = refl; index_below = ltb-true _ _ b.0; flags_is = c.1; sum = refl; one = refl };
      is = ap (λ (u : Totals). walk_at c.0.1 (q.1 + a.0.0) u) more.0;
      fits = more.1 fit;
    })

member_again : (file : List ℕ) (fields class : ℕ) (q : Spot) (t : Totals) (x : Member) (adds : Totals) (to : Spot) → IsMember file fields q x adds to → WithinTotals (plus t adds)
    → run (member_row file fields class (spot q t)) ≡ Ok (x, spot to (plus t adds))
unfolding member_row sum_below counted spot
member_again file fields class q t x adds to is fit =
    let difference : uleb file q.0 ≡ Some (is.difference, is.mid) = is.difference_is in
    let flags : uleb file is.mid ≡ Some (x.flags, to.0) = is.flags_is in
    let one : adds ≡ one_member = is.one in
    let index : x.index ≡ q.1 + is.difference = is.index_is in
    let last : to.1 ≡ x.index = is.sum in
    let members : t.members + adds.members ≤ 400000 = fit.members in
    let one-more : adds.members ≡ 1 = ap (λ (u : Totals). u.members) one in
    let under : t.members < 400000 = omega arith in
    let below : q.1 + is.difference < fields = subst (λ (n : ℕ). n < fields) index is.index_below in
    let total : one_more t ≡ plus t adds = (more_is t under).0 ∙ ap (λ (u : Totals). plus t u) (sym one) in
    let at-last : q.1 + is.difference ≡ to.1 = sym index ∙ sym last in
    rw (difference, lt-ltb (q.1 + is.difference) fields below, flags, lt-ltb t.members 400000 under)
    (ap (λ (n : ℕ). Ok (member_of n x.flags, walk_at to.0 (q.1 + is.difference) (one_more t))) (sym index)
    ∙ ap (λ (n : ℕ). Ok (x, walk_at to.0 n (one_more t))) at-last ∙ ap (λ (u : Totals). Ok (x, walk_at to.0 to.1 u)) total)

members_are : (file : List ℕ) (fields class n at : ℕ) (t : Totals) (xs : List Member) (s : Walk) → WithinTotals t → run (members_at file fields class n at t) ≡ Ok (xs, s)
    → ManyRead no_totals plus WithinTotals (IsMember file fields) spot n (at, 0) t xs s
unfolding members_at spot
members_are file fields class n at t xs s fit e =
    repeat_read no_totals plus WithinTotals (IsMember file fields) (λ q t. walk_at q.0 q.1 t) (member_row file fields class) totals_add
    (λ q t x s. member_is file fields class q t x s) n (at, 0) t xs s fit e

members_again : (file : List ℕ) (fields class at : ℕ) (t : Totals) (xs : List Member) (adds : Totals) (to : Spot) → Follow no_totals plus (IsMember file fields) (at, 0) xs adds to → WithinTotals (plus t adds)
    → run (members_at file fields class (length xs) at t) ≡ Ok (xs, spot to (plus t adds))
unfolding members_at spot
members_again file fields class at t xs adds to follow fit =
    repeat_again no_totals plus WithinTotals (IsMember file fields) (λ q t. walk_at q.0 q.1 t) (member_row file fields class) totals_add
    (λ q t x adds to. member_again file fields class q t x adds to) (at, 0) t xs adds to follow fit

-- a method by what stands in its row
body_from : (file : List ℕ) (sizes : Sizes) (q : Spot) (t : Totals) (a c d : ℕ × ℕ) (g : Option RawCode × Totals) → WithinTotals t
    → uleb file q.0 ≡ Some a → q.1 + a.0 < sizes.methods → uleb file a.1 ≡ Some c → uleb file c.1 ≡ Some d → t.members < 400000 → run (maybe_code_at file sizes.types d.0 (one_more t)) ≡ Ok g
    → OneRead plus WithinTotals (IsBody file sizes) spot q t (body_of (q.1 + a.0) c.0 g.0) (walk_at d.1 (q.1 + a.0) g.1)
unfolding spot
body_from file sizes q t a c d g fit difference-is below flags-is offset-is under code-is =
    let more = more_is t under in
    let code-read : run (maybe_code_at file sizes.types d.0 (plus t one_member)) ≡ Ok g = subst (λ (u : Totals). run (maybe_code_at file sizes.types d.0 u) ≡ Ok g) more.0 code-is in
    let code = maybe_code_is file sizes.types d.0 (plus t one_member) g.0 g.1 (more.1 fit) code-read in
    let grouped : plus (plus t one_member) code.adds ≡ plus t (plus one_member code.adds) = totals_add.regroup t one_member code.adds in
    record {
      to = (d.1, q.1 + a.0);
      adds = plus one_member code.adds;
      stands = record {
        difference = a.0;
        mid = a.1;
        next = c.1;
        offset = d.0;
        coded = code.adds;
        difference_is = difference-is;
        index_is = refl;
        index_below = below;
        flags_is = flags-is;
        offset_is = offset-is;
        code = code.stands;
        sum = refl;
        one_and_code = refl;
      };
      is = ap (λ (u : Totals). walk_at d.1 (q.1 + a.0) u) (code.is ∙ grouped);
      fits = subst WithinTotals grouped code.fits;
    }

body_is : (file : List ℕ) (sizes : Sizes) (class : ℕ) (q : Spot) (t : Totals) (x : Body) (s : Walk) → WithinTotals t → run (body_row file sizes class (spot q t)) ≡ Ok (x, s)
    → OneRead plus WithinTotals (IsBody file sizes) spot q t x s
unfolding body_row sum_below counted spot
body_is file sizes class q t x s fit e =
    let a = there_ok (uleb file q.0) _ _ _ _ e in
    let b = test_ok _ _ _ _ a.2 in
    let c = there_ok (uleb file a.0.1) _ _ _ _ b.1 in
    let d = there_ok (uleb file c.0.1) _ _ _ _ c.2 in
    let f = test_ok _ _ _ _ d.2 in
    let g = bind_ok (maybe_code_at file sizes.types d.0.0 (one_more t)) _ _ f.1 in
    subst (λ (p : Body × Walk). OneRead plus WithinTotals (IsBody file sizes) spot q t p.0 p.1) (value_is _ _ g.2)
    (body_from file sizes q t a.0 c.0 d.0 g.0 fit a.1 (ltb-true _ _ b.0) c.1 d.1 (ltb-true _ _ f.0) g.1)

body_again : (file : List ℕ) (sizes : Sizes) (class : ℕ) (q : Spot) (t : Totals) (x : Body) (adds : Totals) (to : Spot) → IsBody file sizes q x adds to → WithinTotals (plus t adds)
    → run (body_row file sizes class (spot q t)) ≡ Ok (x, spot to (plus t adds))
unfolding body_row sum_below counted spot
body_again file sizes class q t x adds to is fit =
    let difference : uleb file q.0 ≡ Some (is.difference, is.mid) = is.difference_is in
    let flags : uleb file is.mid ≡ Some (x.flags, is.next) = is.flags_is in
    let offset : uleb file is.next ≡ Some (is.offset, to.0) = is.offset_is in
    let parts : adds ≡ plus one_member is.coded = is.one_and_code in
    let index : x.index ≡ q.1 + is.difference = is.index_is in
    let last : to.1 ≡ x.index = is.sum in
    let grouped : plus (plus t one_member) is.coded ≡ plus t adds = totals_add.regroup t one_member is.coded ∙ ap (λ (u : Totals). plus t u) (sym parts) in
    let fit-parts : WithinTotals (plus (plus t one_member) is.coded) = subst WithinTotals (sym grouped) fit in
    let fit-one : WithinTotals (plus t one_member) = totals_add.smaller (plus t one_member) is.coded fit-parts in
    let members : t.members + 1 ≤ 400000 = fit-one.members in
    let under : t.members < 400000 = omega arith in
    let below : q.1 + is.difference < sizes.methods = subst (λ (n : ℕ). n < sizes.methods) index is.index_below in
    let more : plus t one_member ≡ one_more t = sym (more_is t under).0 in
    let code : run (maybe_code_at file sizes.types is.offset (one_more t)) ≡ Ok (x.code, plus t adds) =
    subst (λ (u : Totals). run (maybe_code_at file sizes.types is.offset u) ≡ Ok (x.code, plus t adds)) more
    (maybe_code_again file sizes.types is.offset (plus t one_member) x.code is.coded is.code fit-parts ∙ ap (λ (u : Totals). Ok (x.code, u)) grouped) in
    let at-last : q.1 + is.difference ≡ to.1 = sym index ∙ sym last in
    rw (difference, lt-ltb (q.1 + is.difference) sizes.methods below, flags, offset, lt-ltb t.members 400000 under)
    (bind_runs (maybe_code_at file sizes.types is.offset (one_more t)) (x.code, plus t adds) _ _ code
    (ap (λ (n : ℕ). Ok (body_of n x.flags x.code, walk_at to.0 (q.1 + is.difference) (plus t adds))) (sym index)
    ∙ ap (λ (n : ℕ). Ok (x, walk_at to.0 n (plus t adds))) at-last))

bodies_are : (file : List ℕ) (sizes : Sizes) (class n at : ℕ) (t : Totals) (xs : List Body) (s : Walk) → WithinTotals t → run (bodies_at file sizes class n at t) ≡ Ok (xs, s)
    → ManyRead no_totals plus WithinTotals (IsBody file sizes) spot n (at, 0) t xs s
unfolding bodies_at spot
bodies_are file sizes class n at t xs s fit e =
    repeat_read no_totals plus WithinTotals (IsBody file sizes) (λ q t. walk_at q.0 q.1 t) (body_row file sizes class) totals_add
    (λ q t x s. body_is file sizes class q t x s) n (at, 0) t xs s fit e

bodies_again : (file : List ℕ) (sizes : Sizes) (class at : ℕ) (t : Totals) (xs : List Body) (adds : Totals) (to : Spot) → Follow no_totals plus (IsBody file sizes) (at, 0) xs adds to → WithinTotals (plus t adds)
    → run (bodies_at file sizes class (length xs) at t) ≡ Ok (xs, spot to (plus t adds))
unfolding bodies_at spot
bodies_again file sizes class at t xs adds to follow fit =
    repeat_again no_totals plus WithinTotals (IsBody file sizes) (λ q t. walk_at q.0 q.1 t) (body_row file sizes class) totals_add
    (λ q t x adds to. body_again file sizes class q t x adds to) (at, 0) t xs adds to follow fit

-- the four counts
record CountsRead (file : List ℕ) (at : ℕ) (n : Counts) : Type 0 where
  one : ℕ
  two : ℕ
  three : ℕ
  statics : IsLeb file at n.statics one
  instances : IsLeb file one n.instances two
  directs : IsLeb file two n.directs three
  virtuals : IsLeb file three n.virtuals n.at

counts_are : (file : List ℕ) (at : ℕ) (n : Counts) → run (counts_at file at) ≡ Ok n → CountsRead file at n
unfolding counts_at
counts_are file at n e =
    let a = there_ok (uleb file at) _ _ _ _ e in
    let b = there_ok (uleb file a.0.1) _ _ _ _ a.2 in
    let c = there_ok (uleb file b.0.1) _ _ _ _ b.2 in
    let d = there_ok (uleb file c.0.1) _ _ _ _ c.2 in
    subst (λ (k : Counts). CountsRead file at k) (value_is _ _ d.2) (record { one = a.0.1; two = b.0.1; three = c.0.1; statics = a.1; instances = b.1; directs = c.1; virtuals = d.1 })

counts_again : (file : List ℕ) (at a b c d one two three four : ℕ) → IsLeb file at a one → IsLeb file one b two → IsLeb file two c three → IsLeb file three d four
    → run (counts_at file at) ≡ Ok (record { statics = a; instances = b; directs = c; virtuals = d; at = four })
unfolding counts_at
counts_again file at a b c d one two three four first second third fourth =
    let f : uleb file at ≡ Some (a, one) = first in
    let g : uleb file one ≡ Some (b, two) = second in
    let h : uleb file two ≡ Some (c, three) = third in
    let k : uleb file three ≡ Some (d, four) = fourth in
    rw (f, g, h, k) refl

-- four parts of a total
four_parts : (t a b c d : Totals) → plus (plus (plus (plus t a) b) c) d ≡ plus t (plus (plus (plus a b) c) d)
four_parts t a b c d = same_totals _ _ (omega arith) (omega arith) (omega arith)

pub record DataRead (file : List ℕ) (sizes : Sizes) (at : ℕ) (t : Totals) (row : ClassRow) (lists : ClassData) (s : Totals) : Type 0 where
  pub adds : Totals
  pub stands : HasClassData file sizes at (class_def_of row lists) adds
  pub is : s ≡ plus t adds
  pub fits : WithinTotals (plus t adds)

-- the same of its parts: the counts and the four lists
class_data_from : (file : List ℕ) (sizes : Sizes) (class at : ℕ) (t : Totals) (row : ClassRow) (n : Counts) (a b : List Member × Walk) (c d : List Body × Walk) → WithinTotals t → run (counts_at file at) ≡ Ok n
    → run (members_at file sizes.fields class n.statics n.at t) ≡ Ok a → run (members_at file sizes.fields class n.instances a.1.at a.1.totals) ≡ Ok b
    → run (bodies_at file sizes class n.directs b.1.at b.1.totals) ≡ Ok c → run (bodies_at file sizes class n.virtuals c.1.at c.1.totals) ≡ Ok d
    → DataRead file sizes at t row (class_data_of a.0 b.0 c.0 d.0) d.1.totals
unfolding spot
class_data_from file sizes class at t row n a b c d fit counts-read a-read b-read c-read d-read =
    let counts = counts_are file at n counts-read in
    let statics = members_are file sizes.fields class n.statics n.at t a.0 a.1 fit a-read in
    let b-at : run (members_at file sizes.fields class n.instances statics.to.0 (plus t statics.adds)) ≡ Ok b =
    subst (λ (w : Walk). run (members_at file sizes.fields class n.instances w.at w.totals) ≡ Ok b) statics.is b-read in
    let instances = members_are file sizes.fields class n.instances statics.to.0 (plus t statics.adds) b.0 b.1 statics.fits b-at in
    let c-at : run (bodies_at file sizes class n.directs instances.to.0 (plus (plus t statics.adds) instances.adds)) ≡ Ok c =
    subst (λ (w : Walk). run (bodies_at file sizes class n.directs w.at w.totals) ≡ Ok c) instances.is c-read in
    let directs = bodies_are file sizes class n.directs instances.to.0 (plus (plus t statics.adds) instances.adds) c.0 c.1 instances.fits c-at in
    let d-at : run (bodies_at file sizes class n.virtuals directs.to.0 (plus (plus (plus t statics.adds) instances.adds) directs.adds)) ≡ Ok d =
    subst (λ (w : Walk). run (bodies_at file sizes class n.virtuals w.at w.totals) ≡ Ok d) directs.is d-read in
    let virtuals = bodies_are file sizes class n.virtuals directs.to.0 (plus (plus (plus t statics.adds) instances.adds) directs.adds) d.0 d.1 directs.fits d-at in
    let parts = four_parts t statics.adds instances.adds directs.adds virtuals.adds in
    let total : d.1.totals ≡ plus (plus (plus (plus t statics.adds) instances.adds) directs.adds) virtuals.adds = ap (λ (w : Walk). w.totals) virtuals.is in
    record {
      adds = plus (plus (plus statics.adds instances.adds) directs.adds) virtuals.adds;
      stands = record {
        counts = (counts.one, counts.two, counts.three, n.at);
        statics_to = statics.to;
        instances_to = instances.to;
        directs_to = directs.to;
        virtuals_to = virtuals.to;
        parts = (statics.adds, instances.adds, directs.adds, virtuals.adds);
        statics_count = subst (λ (k : ℕ). IsLeb file at k counts.one) (sym statics.count) counts.statics;
        instances_count = subst (λ (k : ℕ). IsLeb file counts.one k counts.two) (sym instances.count) counts.instances;
        directs_count = subst (λ (k : ℕ). IsLeb file counts.two k counts.three) (sym directs.count) counts.directs;
        virtuals_count = subst (λ (k : ℕ). IsLeb file counts.three k n.at) (sym virtuals.count) counts.virtuals;
        statics = statics.stand;
        instances = instances.stand;
        directs = directs.stand;
        virtuals = virtuals.stand;
        sum = refl;
      };
      is = total ∙ parts;
      fits = subst WithinTotals parts virtuals.fits;
    }

pub class_data_is : (file : List ℕ) (sizes : Sizes) (class at : ℕ) (t : Totals) (row : ClassRow) (lists : ClassData) (s : Totals) → WithinTotals t → run (some_class_data_at file sizes class at t) ≡ Ok (lists, s)
    → DataRead file sizes at t row lists s
unfolding some_class_data_at
class_data_is file sizes class at t row lists s fit e =
    let n = bind_ok (counts_at file at) _ _ e in
    let a = bind_ok (members_at file sizes.fields class n.0.statics n.0.at t) _ _ n.2 in
    let b = bind_ok (members_at file sizes.fields class n.0.instances a.0.1.at a.0.1.totals) _ _ a.2 in
    let c = bind_ok (bodies_at file sizes class n.0.directs b.0.1.at b.0.1.totals) _ _ b.2 in
    let d = bind_ok (bodies_at file sizes class n.0.virtuals c.0.1.at c.0.1.totals) _ _ c.2 in
    subst (λ (p : ClassData × Totals). DataRead file sizes at t row p.0 p.1) (value_is _ _ d.2)
    (class_data_from file sizes class at t row n.0 a.0 b.0 c.0 d.0 fit n.1 a.1 b.1 c.1 d.1)

unfoldable pub lists_of : ClassDef → ClassData
lists_of class = class_data_of class.statics class.instances class.directs class.virtuals

class_data_again : (file : List ℕ) (sizes : Sizes) (row at : ℕ) (t : Totals) (class : ClassDef) (adds : Totals) → HasClassData file sizes at class adds → WithinTotals (plus t adds)
    → run (some_class_data_at file sizes row at t) ≡ Ok (lists_of class, plus t adds)
unfolding some_class_data_at spot lists_of
class_data_again file sizes row at t class adds has fit =
    let n = counts_again file at (length class.statics) (length class.instances) (length class.directs) (length class.virtuals) has.counts.0 has.counts.1 has.counts.2 has.counts.3
    has.statics_count has.instances_count has.directs_count has.virtuals_count in
    let parts : plus (plus (plus (plus t has.parts.0) has.parts.1) has.parts.2) has.parts.3 ≡ plus t adds =
    four_parts t has.parts.0 has.parts.1 has.parts.2 has.parts.3 ∙ ap (λ (u : Totals). plus t u) (sym has.sum) in
    let fit-d : WithinTotals (plus (plus (plus (plus t has.parts.0) has.parts.1) has.parts.2) has.parts.3) = subst WithinTotals (sym parts) fit in
    let fit-c = totals_add.smaller (plus (plus (plus t has.parts.0) has.parts.1) has.parts.2) has.parts.3 fit-d in
    let fit-b = totals_add.smaller (plus (plus t has.parts.0) has.parts.1) has.parts.2 fit-c in
    let fit-a = totals_add.smaller (plus t has.parts.0) has.parts.1 fit-b in
    let a = members_again file sizes.fields row has.counts.3 t class.statics has.parts.0 has.statics_to has.statics fit-a in
    let b = members_again file sizes.fields row has.statics_to.0 (plus t has.parts.0) class.instances has.parts.1 has.instances_to has.instances fit-b in
    let c = bodies_again file sizes row has.instances_to.0 (plus (plus t has.parts.0) has.parts.1) class.directs has.parts.2 has.directs_to has.directs fit-c in
    let d = bodies_again file sizes row has.directs_to.0 (plus (plus (plus t has.parts.0) has.parts.1) has.parts.2) class.virtuals has.parts.3 has.virtuals_to has.virtuals fit-d in
    bind_runs (counts_at file at) _ _ _ n
    (bind_runs (members_at file sizes.fields row (length class.statics) has.counts.3 t) _ _ _ a
    (bind_runs (members_at file sizes.fields row (length class.instances) has.statics_to.0 (plus t has.parts.0)) _ _ _ b
    (bind_runs (bodies_at file sizes row (length class.directs) has.instances_to.0 (plus (plus t has.parts.0) has.parts.1)) _ _ _ c
    (bind_runs (bodies_at file sizes row (length class.virtuals) has.directs_to.0 (plus (plus (plus t has.parts.0) has.parts.1) has.parts.2)) _ _ _ d
    (ap (λ (u : Totals). Ok (lists_of class, u)) parts)))))

pub record MaybeDataRead (file : List ℕ) (sizes : Sizes) (at : ℕ) (t : Totals) (row : ClassRow) (lists : ClassData) (s : Totals) : Type 0 where
  pub adds : Totals
  pub stands : MaybeClassData file sizes at (class_def_of row lists) adds
  pub is : s ≡ plus t adds
  pub fits : WithinTotals (plus t adds)

pub maybe_data_is : (file : List ℕ) (sizes : Sizes) (class at : ℕ) (t : Totals) (row : ClassRow) (lists : ClassData) (s : Totals) → WithinTotals t → run (class_data_at file sizes class at t) ≡ Ok (lists, s)
    → MaybeDataRead file sizes at t row lists s
unfolding class_data_at
maybe_data_is file sizes class zero t row lists s fit e =
    let none : t ≡ plus t no_totals = sym (totals_add.right_none t) in
    subst (λ (p : ClassData × Totals). MaybeDataRead file sizes 0 t row p.0 p.1) (value_is _ _ e)
    (record { adds = no_totals; stands = record { statics = refl; instances = refl; directs = refl; virtuals = refl; none = refl }; is = none; fits = subst WithinTotals none fit })
maybe_data_is file sizes class (suc at) t row lists s fit e =
    let read = class_data_is file sizes class (suc at) t row lists s fit (rw (suc_not_zero at) at e) in
    record { adds = read.adds; stands = read.stands; is = read.is; fits = read.fits }

pub maybe_data_again : (file : List ℕ) (sizes : Sizes) (row at : ℕ) (t : Totals) (class : ClassDef) (adds : Totals) → MaybeClassData file sizes at class adds → WithinTotals (plus t adds)
    → run (class_data_at file sizes row at t) ≡ Ok (lists_of class, plus t adds)
unfolding class_data_at lists_of
maybe_data_again file sizes row zero t class adds has fit =
    let none : t ≡ plus t adds = sym (totals_add.right_none t) ∙ ap (λ (u : Totals). plus t u) (sym has.none) in
    ap (λ (u : Totals). Ok (class_data_of [] [] [] [], u)) none
    ∙ ap (λ (ys : List Member). Ok (class_data_of ys [] [] [], plus t adds)) (sym has.statics)
    ∙ ap (λ (ys : List Member). Ok (class_data_of class.statics ys [] [], plus t adds)) (sym has.instances)
    ∙ ap (λ (ys : List Body). Ok (class_data_of class.statics class.instances ys [], plus t adds)) (sym has.directs)
    ∙ ap (λ (ys : List Body). Ok (class_data_of class.statics class.instances class.directs ys, plus t adds)) (sym has.virtuals)
maybe_data_again file sizes row (suc at) t class adds has fit = rw (suc_not_zero at) (class_data_again file sizes row (suc at) t class adds has fit)
