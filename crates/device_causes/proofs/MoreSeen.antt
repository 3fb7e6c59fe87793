-- One method more is asked too.
use Rattle.std.proofs.Common.{◌≡◌, Bool, true, false, ◌&&◌, ◌||◌, not, cond, Option, Some, None, refl, sym, ◌∙◌, ap}
use Rattle.app_machine.specs.Names.{Name, same_name}
use Rattle.app_machine.specs.Summaries.{same_word}
use Rattle.link_access.specs.declared.access.MethodAccess.{MethodAccess}
use Rattle.vet_base.proofs.Texts.{same_equal, same_itself}
use Rattle.device_causes.specs.declared.seen.Packages.{Packages}
use Rattle.device_causes.specs.declared.seen.Packages.TheVariants.{Without, One, Several}
use Rattle.device_causes.specs.declared.seen.Seen.{Seen}
use Rattle.device_causes.specs.Hidden.{package_of, does_not_override}
use Rattle.device_causes.specs.Seen.{same_package, is_elsewhere, seen_hides, maybe_hides, with_package, with_packages, begun, with_method}

abbrev apart : Name → Name → Bool
apart a b = not (same_package a b)

-- two packages that differ are not both that of the class
one_differs : (class first above : Name) → same_package first above ≡ false → (x y : Bool) → same_package class above ≡ x → same_package class first ≡ y → (not x || not y) ≡ true
one_differs class first above differ false y a b = refl
one_differs class first above differ true false a b = refl
one_differs class first above differ true true a b =
    let one : package_of class ≡ package_of above = same_equal (package_of class) (package_of above) a in
    let two : package_of class ≡ package_of first = same_equal (package_of class) (package_of first) b in
    let both : same_package first above ≡ true = ap (λ p. same_name p (package_of above)) (sym two ∙ one) ∙ same_itself (package_of above) in
    let clash : false ≡ true = sym differ ∙ both in
    absurd cc

or_self : (b : Bool) → b ≡ (b || b)
or_self true = refl
or_self false = refl

or_none : (b : Bool) → b ≡ (b || false)
or_none true = refl
or_none false = refl

or_all : (b : Bool) → true ≡ (b || true)
or_all true = refl
or_all false = refl

package_told : (packages : Packages) (above class : Name) → is_elsewhere (with_package packages above) class ≡ (apart class above || is_elsewhere packages class)
package_told Without above class = or_none (apart class above)
package_told Several above class = or_all (apart class above)
package_told (One first) above class = by_test (same_package first above) refl
  where
    by_test : (b : Bool) → same_package first above ≡ b → is_elsewhere (cond b (One first) Several) class ≡ (apart class above || apart class first)
    by_test true same =
        let agree : package_of first ≡ package_of above = same_equal (package_of first) (package_of above) same in
        or_self (apart class first) ∙ ap (λ p. not (same_name (package_of class) p) || apart class first) agree
    by_test false differ = sym (one_differs class first above differ (same_package class above) (same_package class first) refl refl)

packages_told : (packages : Packages) (above class : Name) (s : MethodAccess) → is_elsewhere (with_packages packages above s) class ≡ ((not s.is_open && apart class above) || is_elsewhere packages class)
packages_told packages above class s = by_test s.is_open
  where
    by_test : (b : Bool) → is_elsewhere (cond b packages (with_package packages above)) class ≡ ((not b && apart class above) || is_elsewhere packages class)
    by_test true = refl
    by_test false = package_told packages above class

-- by cases: whether m is private and static, whether s is static, what is there, whether s is of another package, and some other is
all_ways : (mp ms ss st inn p op : Bool) → ((mp && ((st || ss) || (inn || not ss))) || (cond ms (inn || not ss) (st || ss) || (p || op)))
    ≡ ((mp || (not (same_word ms ss) || p)) || ((mp && (st || inn)) || (cond ms inn st || op)))
all_ways true ms ss true inn p op = refl
all_ways true ms true false inn p op = refl
all_ways true ms false false true p op = refl
all_ways true ms false false false p op = refl
all_ways false true true st true true op = refl
all_ways false true true st true false op = refl
all_ways false true true st false p op = refl
all_ways false true false st true p op = refl
all_ways false true false st false p op = refl
all_ways false false true true inn p op = refl
all_ways false false true false inn p op = refl
all_ways false false false true inn true op = refl
all_ways false false false true inn false op = refl
all_ways false false false false inn p op = refl

of_seen : (seen : Seen) (class : Name) (m : MethodAccess) (above : Name) (s : MethodAccess) → seen_hides (with_method seen above s) class m ≡ (does_not_override class m above s || seen_hides seen class m)
of_seen seen class m above s =
    ap (λ b. (m.is_private && ((seen.statics || s.is_static) || (seen.instances || not s.is_static))) || (cond m.is_static (seen.instances || not s.is_static) (seen.statics || s.is_static) || b)) (packages_told seen.packages above class s)
    ∙ all_ways m.is_private m.is_static s.is_static seen.statics seen.instances (not s.is_open && apart class above) (is_elsewhere seen.packages class)

nothing_hides : (mp ms : Bool) → ((mp && (false || false)) || (cond ms false false || false)) ≡ false
nothing_hides true true = refl
nothing_hides true false = refl
nothing_hides false true = refl
nothing_hides false false = refl

pub more_seen : (before : Option Seen) (class : Name) (m : MethodAccess) (above : Name) (s : MethodAccess) → seen_hides (with_method (begun before) above s) class m ≡ (does_not_override class m above s || maybe_hides before class m)
more_seen (Some seen) class m above s = of_seen seen class m above s
more_seen None class m above s = of_seen (begun None) class m above s ∙ ap (λ b. does_not_override class m above s || b) (nothing_hides m.is_private m.is_static)
