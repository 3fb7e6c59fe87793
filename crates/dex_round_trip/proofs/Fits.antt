-- What a reader asks of the parts of a class: numbers of their widths, indices below the sizes of their tables, and short
-- lists of handlers.
use Rattle.std.proofs.Common.{◌≡◌, refl, arith}
use Rattle.std.specs.Prelude.{ℕ, ◌<◌, ◌≤◌, List, [], ◌∷◌, length, Option, IfSome, IfNone, sum_by}
use Rattle.std.specs.List.{AllByRecursion}
use Rattle.dex_tables.specs.declared.dex.Body.{Body}
use Rattle.dex_tables.specs.declared.dex.ClassDef.{ClassDef}
use Rattle.dex_tables.specs.declared.dex.Member.{Member}
use Rattle.dex_tables.specs.declared.dex.RawCode.{RawCode}
use Rattle.dex_tables.specs.declared.dex.RawTry.{RawTry}
use Rattle.dex_tables.specs.declared.place.Sizes.{Sizes}
use Rattle.dex_tables.specs.declared.place.Totals.{Totals}
use Rattle.std.proofs.lemmas.List.Sums.{sum_by-cons}
use Rattle.dex_reader.specs.ClassesStand.{one_member}
use Rattle.dex_reader.specs.Sound.{code_units, body_units, class_members, class_units}
use Rattle.dex_tables.specs.Totals.{no_totals, plus}
use Rattle.dex_round_trip.specs.Costs.{code_cost, body_cost, class_cost}

-- a type and the address of its handler
pub record PairFits (types : ℕ) (pair : ℕ × ℕ) : Type 0 where
  pub kind : pair.0 < types
  pub address : pair.1 < 4294967296

-- a try that handles some exception, with at most 8 types
pub record TryFits (types : ℕ) (item : RawTry) : Type 0 where
  pub start : item.start < 4294967296
  pub count : item.count < 65536
  pub pairs : AllByRecursion (PairFits types) item.handlers
  pub few : length item.handlers ≤ 8
  pub catch_all : IfSome item.catch_all (λ a. a < 4294967296)
  pub handles : IfNone item.catch_all (0 < length item.handlers)

pub record CodeFits (types : ℕ) (code : RawCode) : Type 0 where
  pub registers : code.registers < 65536
  pub ins : code.ins < 65536
  pub outs : code.outs < 65536
  pub units : AllByRecursion (λ u. u < 65536) code.units
  pub tries : AllByRecursion (TryFits types) code.tries
  pub few : length code.tries ≤ 500

-- fields whose rows rise from one on
abbrev pub MembersRise : ℕ → ℕ → List Member → Type 0
MembersRise fields before [] = Unit {0}
MembersRise fields before (m ∷ ms) = (before ≤ m.index) × (m.index < fields) × (m.flags < 4294967296) × MembersRise fields m.index ms

-- methods whose rows rise from one on
abbrev pub BodiesRise : Sizes → ℕ → List Body → Type 0
BodiesRise sizes before [] = Unit {0}
BodiesRise sizes before (b ∷ bs) = (before ≤ b.index) × (b.index < sizes.methods) × (b.flags < 4294967296) × IfSome b.code (CodeFits sizes.types) × BodiesRise sizes b.index bs

pub record DataFits (sizes : Sizes) (class : ClassDef) : Type 0 where
  pub statics : MembersRise sizes.fields 0 class.statics
  pub instances : MembersRise sizes.fields 0 class.instances
  pub directs : BodiesRise sizes 0 class.directs
  pub virtuals : BodiesRise sizes 0 class.virtuals

-- what the code of a method, fields, methods, a class and classes add to the totals
abbrev pub code_total : Option RawCode → Totals
code_total code = record { members = 0; units = code_units code; tries = code_cost code }

abbrev pub members_total : List Member → Totals
members_total [] = no_totals
members_total (m ∷ ms) = plus one_member (members_total ms)

abbrev pub bodies_total : List Body → Totals
bodies_total [] = no_totals
bodies_total (b ∷ bs) = plus (plus one_member (code_total b.code)) (bodies_total bs)

abbrev pub class_total : ClassDef → Totals
class_total class = plus (plus (plus (members_total class.statics) (members_total class.instances)) (bodies_total class.directs)) (bodies_total class.virtuals)

abbrev pub classes_total : List ClassDef → Totals
classes_total [] = no_totals
classes_total (c ∷ cs) = plus (class_total c) (classes_total cs)

-- how much that is
pub record IsTotal (total : Totals) (members units tries : ℕ) : Type 0 where
  pub members_is : total.members ≡ members
  pub units_is : total.units ≡ units
  pub tries_is : total.tries ≡ tries

members_count : (ms : List Member) → IsTotal (members_total ms) (length ms) 0 0
members_count [] = record { members_is = refl; units_is = refl; tries_is = refl }
members_count (m ∷ ms) =
    let rest = members_count ms in
    record { members_is = omega (arith, rest.members_is); units_is = omega (arith, rest.units_is); tries_is = omega (arith, rest.tries_is) }

bodies_count : (bs : List Body) → IsTotal (bodies_total bs) (length bs) (sum_by body_units bs) (sum_by body_cost bs)
bodies_count [] = record { members_is = refl; units_is = refl; tries_is = refl }
bodies_count (b ∷ bs) =
    let rest = bodies_count bs in
    record {
      members_is = omega (arith, rest.members_is);
      units_is = omega (arith, rest.units_is, sum_by-cons body_units b bs);
      tries_is = omega (arith, rest.tries_is, sum_by-cons body_cost b bs);
    }

class_count : (c : ClassDef) → IsTotal (class_total c) (class_members c) (class_units c) (class_cost c)
class_count c =
    let statics = members_count c.statics in
    let instances = members_count c.instances in
    let directs = bodies_count c.directs in
    let virtuals = bodies_count c.virtuals in
    record {
      members_is = omega (arith, statics.members_is, instances.members_is, directs.members_is, virtuals.members_is);
      units_is = omega (arith, statics.units_is, instances.units_is, directs.units_is, virtuals.units_is);
      tries_is = omega (arith, statics.tries_is, instances.tries_is, directs.tries_is, virtuals.tries_is);
    }

pub classes_count : (cs : List ClassDef) → IsTotal (classes_total cs) (sum_by class_members cs) (sum_by class_units cs) (sum_by class_cost cs)
classes_count [] = record { members_is = refl; units_is = refl; tries_is = refl }
classes_count (c ∷ cs) =
    let first = class_count c in
    let rest = classes_count cs in
    record {
      members_is = omega (arith, first.members_is, rest.members_is, sum_by-cons class_members c cs);
      units_is = omega (arith, first.units_is, rest.units_is, sum_by-cons class_units c cs);
      tries_is = omega (arith, first.tries_is, rest.tries_is, sum_by-cons class_cost c cs);
    }
