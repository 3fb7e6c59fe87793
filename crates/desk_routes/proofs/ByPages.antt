-- That the routes are the targets of the pages.
use Rattle.std.proofs.Common.{◌≡◌, ℕ, suc, ◌+◌, ◌<◌, Bool, true, false, not, cond, List, [], ◌∷◌, ◌++◌, length, take, drop, Option, Some, None, option_map, refl, ap, sym, subst, ◌∙◌, arith, append_assoc, append-nil}
use Rattle.std.specs.Prelude.{IfSome, ◌==◌, if◌then◌else◌, nat_eq, ◌↔◌}
use Rattle.std.specs.List.{list_any, position_or_len, prefix_len, before_first}
use Rattle.std.proofs.lemmas.List.{take-append-drop}
use Rattle.std.proofs.Math.Seq.{take-append_seam, drop-append_seam}
use Rattle.std.proofs.lemmas.Bool.{eqb-false, ne_eqb}
use Rattle.std.proofs.Math.Dec.{eqb-suc-zero}
use Rattle.std.proofs.lemmas.Option.{same_Some}
use Rattle.vet_base.proofs.Texts.{same_equal, same_itself}
use Rattle.case_rules.specs.Cases.{same}
use Rattle.desk_routes.specs.declared.target.Page.{Page}
use Rattle.desk_routes.specs.declared.target.Page.TheVariants.{Cases, Case, Report, Appeal, Decisions, Reviews, Rulings}
use Rattle.desk_routes.specs.Routes.{cases, decisions, reviews, rulings, case_front, report_end, appeal_end, is_slash, from_slash, page_by, case_page, route_of}
use Rattle.desk_routes.specs.Targets.{target_of, IsSegment, HasReference, IsTargetOf}

abbrev Found : Type 0
Found = Page × List ℕ

abbrev At : List ℕ → Found → Type 0
At target found = IsTargetOf target found.0 found.1

-- a fact of what is found, where it is found by a test or else by the tests behind it
at_test : {X : Type 0} (P : X → Type 0) (b : Bool) (x : X) (others : Option X) → (b ≡ true → P x) → IfSome others P
    → IfSome (if b then Some x else others) P
at_test P true x others first rest = first refl
at_test P false x others first rest = rest

if_test : {X : Type 0} (P : X → Type 0) (b : Bool) (found : Option X) → (b ≡ true → IfSome found P)
    → IfSome (if b then found else None) P
if_test P true found h = h refl
if_test P false found h = tt

unless : {X : Type 0} (P : X → Type 0) (b : Bool) (found : Option X) → (b ≡ false → IfSome found P)
    → IfSome (if b then None else found) P
unless P true found h = tt
unless P false found h = h refl

mapped : {X Y : Type 0} (P : Y → Type 0) (f : X → Y) (found : Option X) → IfSome found (λ x. P (f x))
    → IfSome (option_map f found) P
mapped P f None h = tt
mapped P f (Some x) h = h

first_taken : (n x : ℕ) (xs : List ℕ) → take (1 + n) (x ∷ xs) ≡ x ∷ take n xs
first_taken n x xs = let k : 1 + n ≡ suc n = omega arith in rw k refl

-- what stands before the first `/` has none
no_slash_by : (x : ℕ) (xs : List ℕ) (b : Bool) → is_slash x ≡ b → list_any is_slash (before_first is_slash xs) ≡ false
    → list_any is_slash (before_first is_slash (x ∷ xs)) ≡ false
no_slash_by x xs true e rest = rw e refl
no_slash_by x xs false e rest = rw (e, first_taken (position_or_len is_slash xs) x xs, e) rest

no_slash : (bytes : List ℕ) → list_any is_slash (before_first is_slash bytes) ≡ false
no_slash [] = refl
no_slash (x ∷ xs) = no_slash_by x xs (is_slash x) refl (no_slash xs)

parted : (bytes : List ℕ) → before_first is_slash bytes ++ from_slash bytes ≡ bytes
parted bytes = take-append-drop (position_or_len is_slash bytes) bytes

is_segment : (bytes : List ℕ) → (length (before_first is_slash bytes) == 0) ≡ false → IsSegment (before_first is_slash bytes)
is_segment bytes e =
    let n = length (before_first is_slash bytes) in
    let some : n ≡ 0 → ⊥ = eqb-false n 0 e in
    record { some = omega (arith, some); one = no_slash bytes }

empty : (bytes : List ℕ) → (length bytes == 0) ≡ true → bytes ≡ []
empty [] e = refl
empty (x ∷ xs) e = let h : true ≡ false = sym e ∙ eqb-suc-zero (length xs) in absurd cc

-- a page that is found has the target
case_found : (target rest : List ℕ) → case_front ++ rest ≡ target → IfSome (case_page rest) (At target)
case_found target rest whole =
    let reference = before_first is_slash rest in
    let behind = from_slash rest in
    let ends : (end : List ℕ) → behind ≡ end → target ≡ case_front ++ reference ++ end =
    λ end e. sym whole
    ∙ ap (λ (x : List ℕ). case_front ++ x) (sym (parted rest) ∙ ap (λ (x : List ℕ). reference ++ x) e)
    ∙ sym (append_assoc case_front reference end) in
    unless (At target) (length reference == 0) (option_map (λ page. (page, reference)) (page_by behind)) (λ e.
    let segment = is_segment rest e in
    mapped (At target) (λ page. (page, reference)) (page_by behind)
    (at_test (λ page. At target (page, reference)) (length behind == 0) Case
    (if same behind report_end then Some Report else if same behind appeal_end then Some Appeal else None)
    (λ none. record { is = ends [] (empty behind none) ∙ append-nil (case_front ++ reference); has = segment })
    (at_test (λ page. At target (page, reference)) (same behind report_end) Report
    (if same behind appeal_end then Some Appeal else None)
    (λ is. record { is = ends report_end (same_equal behind report_end is); has = segment })
    (at_test (λ page. At target (page, reference)) (same behind appeal_end) Appeal None
    (λ is. record { is = ends appeal_end (same_equal behind appeal_end is); has = segment })
    tt))))

front_found : (target : List ℕ) → same (take (length case_front) target) case_front ≡ true
    → case_front ++ drop (length case_front) target ≡ target
front_found target e =
    let front = same_equal (take (length case_front) target) case_front e in
    ap (λ (x : List ℕ). x ++ drop (length case_front) target) (sym front) ∙ take-append-drop (length case_front) target

abbrev by_front : List ℕ → Option Found
by_front target = if same (take (length case_front) target) case_front then case_page (drop (length case_front) target) else None

abbrev by_rulings : List ℕ → Option Found
by_rulings target = if same target rulings then Some (Rulings, []) else by_front target

abbrev by_reviews : List ℕ → Option Found
by_reviews target = if same target reviews then Some (Reviews, []) else by_rulings target

abbrev by_decisions : List ℕ → Option Found
by_decisions target = if same target decisions then Some (Decisions, []) else by_reviews target

found : (target : List ℕ) → IfSome (route_of target) (At target)
found target =
    at_test (At target) (same target cases) (Cases, []) (by_decisions target)
    (λ e. record { is = same_equal target cases e; has = refl })
    (at_test (At target) (same target decisions) (Decisions, []) (by_reviews target)
    (λ e. record { is = same_equal target decisions e; has = refl })
    (at_test (At target) (same target reviews) (Reviews, []) (by_rulings target)
    (λ e. record { is = same_equal target reviews e; has = refl })
    (at_test (At target) (same target rulings) (Rulings, []) (by_front target)
    (λ e. record { is = same_equal target rulings e; has = refl })
    (if_test (At target) (same (take (length case_front) target) case_front)
    (case_page (drop (length case_front) target))
    (λ e. case_found target (drop (length case_front) target) (front_found target e))))))

found_is : (target : List ℕ) (page : Page) (reference : List ℕ) → route_of target ≡ Some (page, reference)
    → IsTargetOf target page reference
found_is target page reference e =
    subst (λ (o : Option Found). IfSome o (At target)) e (found target)

-- the first `/` behind a reference
cut_by : (x : ℕ) (xs behind : List ℕ) (b : Bool) → is_slash x ≡ b → list_any is_slash (x ∷ xs) ≡ false
    → (list_any is_slash xs ≡ false → position_or_len is_slash (xs ++ behind) ≡ length xs)
    → position_or_len is_slash ((x ∷ xs) ++ behind) ≡ length (x ∷ xs)
cut_by x xs behind true e none rest = let h : true ≡ false = rw e at none in absurd cc
cut_by x xs behind false e none rest =
    let others : list_any is_slash xs ≡ false = rw e at none in
    rw (e, rest others) (omega arith)

cut : (reference behind : List ℕ) → list_any is_slash reference ≡ false → position_or_len is_slash behind ≡ 0
    → position_or_len is_slash (reference ++ behind) ≡ length reference
cut [] behind none first = first
cut (x ∷ xs) behind none first =
    cut_by x xs behind (is_slash x) refl none (λ others. cut xs behind others first)

case_is : (reference behind : List ℕ) → IsSegment reference → position_or_len is_slash behind ≡ 0
    → case_page (reference ++ behind) ≡ option_map (λ page. (page, reference)) (page_by behind)
case_is reference behind segment first =
    let at = cut reference behind segment.one first in
    let front : before_first is_slash (reference ++ behind) ≡ reference = rw at (take-append_seam reference behind) in
    let rest : from_slash (reference ++ behind) ≡ behind = rw at (drop-append_seam reference behind) in
    let some : length reference ≡ 0 → ⊥ = λ e. let h = segment.some in omega (arith, h, e) in
    let test : (length reference == 0) ≡ false = ne_eqb (length reference) 0 some in
    rw (front, rest, test) refl

route_is : (page : Page) (reference : List ℕ) → HasReference page reference
    → route_of (target_of page reference) ≡ Some (page, reference)
unfolding cases decisions reviews rulings case_front report_end appeal_end
route_is Cases reference has = ap (λ (x : List ℕ). Some (Cases, x)) (sym has)
route_is Case reference has = ap case_page (sym (append-nil reference)) ∙ case_is reference [] has refl
route_is Report reference has = case_is reference report_end has refl
route_is Appeal reference has = case_is reference appeal_end has refl
route_is Decisions reference has = ap (λ (x : List ℕ). Some (Decisions, x)) (sym has)
route_is Reviews reference has = ap (λ (x : List ℕ). Some (Reviews, x)) (sym has)
route_is Rulings reference has = ap (λ (x : List ℕ). Some (Rulings, x)) (sym has)

pub by_pages : (target : List ℕ) (page : Page) (reference : List ℕ)
    → (route_of target ≡ Some (page, reference)) ↔ IsTargetOf target page reference
by_pages target page reference = (
  found_is target page reference,
  λ t. ap route_of t.is ∙ route_is page reference t.has,
)
