-- What is known of the orders of what fields name.
use Rattle.std.proofs.Common.{refl, ap}
use Rattle.std.specs.Prelude.{◌≡◌, ℕ, ◌++◌, List, [], ◌∷◌}
use Rattle.std.specs.Ordering.{nat_cmp, ordering_then}
use Rattle.std.specs.Cmp.Lexicographic.{slice_cmp}
use Rattle.std.specs.declared.cmp.Ordering.{Ordering}
use Rattle.std.proofs.lemmas.Map.Lookups.{CmpEqualImpliesEq, exact_unsigned, exact_pairs}
use Rattle.vet_base.specs.contracts.key_id.KeyIdOrd.TheImpl.{ghosts as key_order}
use Rattle.vet_base.proofs.Orders.{not_equal}
use Rattle.access_path.specs.Compared.{then_by, ComparesAs, compares_pair}
use Rattle.access_path.specs.Order.{path_cmp}
use Rattle.access_path.specs.OrderLaws.{exact_key, path_order_is}
use Rattle.app_machine.specs.declared.lists.SummaryId.{SummaryId}
use Rattle.app_machine.specs.declared.lists.SummaryId.TheVariants as use_of
use Rattle.app_machine.specs.contracts.lists.SummaryIdOrd.TheImpl.{ghosts as use_order}
use Rattle.fact_rows.specs.declared.context.Ctx.{Ctx}
use Rattle.fact_rows.specs.declared.context.Ctx.TheVariants as ctx
use Rattle.fact_rows.specs.declared.context.Activation.{Activation}
use Rattle.fact_rows.specs.declared.context.Node.{Node}
use Rattle.fact_rows.specs.declared.site.Site.{Site}
use Rattle.fact_rows.specs.declared.site.Site.TheVariants.{At, Param, Component, Shared, Made}
use Rattle.fact_rows.specs.declared.field.Field.TheVariants as field
use Rattle.fact_rows.specs.contracts.context.CtxOrd.TheImpl.{ghosts as ctx_order}
use Rattle.fact_rows.specs.contracts.context.ActivationOrd.TheImpl.{ghosts as activation_order}
use Rattle.fact_rows.specs.contracts.context.NodeOrd.TheImpl.{ghosts as node_order}
use Rattle.fact_rows.specs.contracts.site.SiteOrd.TheImpl.{ghosts as site_order}
use Rattle.fact_rows.specs.Order.{field_cmp, numbers_of_ctx, numbers_of_activation, numbers_of_node, numbers_of_site, numbers_of_use}
use Rattle.fact_rows.specs.Told.{ToldBy, ToldBeside}

abbrev by_two : ℕ × ℕ → ℕ × ℕ → Ordering
by_two = then_by nat_cmp nat_cmp

abbrev by_three : ℕ × (ℕ × ℕ) → ℕ × (ℕ × ℕ) → Ordering
by_three = then_by nat_cmp by_two

exact_two : CmpEqualImpliesEq by_two
exact_two = exact_pairs nat_cmp nat_cmp exact_unsigned exact_unsigned

exact_four : CmpEqualImpliesEq (then_by nat_cmp by_three)
exact_four = exact_pairs nat_cmp by_three exact_unsigned (exact_pairs nat_cmp by_two exact_unsigned exact_two)

exact_ctx : CmpEqualImpliesEq ctx_order.cmp
exact_ctx (ctx.Row a b) (ctx.Row c d) e = ap (λ (p : ℕ × ℕ). ctx.Row p.0 p.1) (exact_two (a, b) (c, d) e)
exact_ctx (ctx.Callback a b) (ctx.Callback c d) e = ap (λ (p : ℕ × ℕ). ctx.Callback p.0 p.1) (exact_two (a, b) (c, d) e)
exact_ctx (ctx.Click a b) (ctx.Click c d) e = ap (λ (p : ℕ × ℕ). ctx.Click p.0 p.1) (exact_two (a, b) (c, d) e)
exact_ctx (ctx.Handed a) (ctx.Handed b) e = ap ctx.Handed (exact_unsigned a b e)
exact_ctx (ctx.Init a) (ctx.Init b) e = ap ctx.Init (exact_unsigned a b e)
exact_ctx (ctx.Call a b) (ctx.Call c d) e = ap (λ (p : ℕ × ℕ). ctx.Call p.0 p.1) (exact_two (a, b) (c, d) e)
exact_ctx (ctx.Call2 a b x y) (ctx.Call2 c d u v) e =
    ap (λ (p : ℕ × (ℕ × (ℕ × ℕ))). ctx.Call2 p.0 p.1.0 p.1.1.0 p.1.1.1) (exact_four (a, (b, (x, y))) (c, (d, (u, v))) e)
exact_ctx _ _ e = absurd (not_equal _ refl e)

exact_activation : CmpEqualImpliesEq activation_order.cmp
exact_activation a b e =
    ap (λ (p : Ctx × ℕ). record { ctx = p.0; method = p.1 })
    (exact_pairs ctx_order.cmp nat_cmp exact_ctx exact_unsigned (a.ctx, a.method) (b.ctx, b.method) e)

exact_node : CmpEqualImpliesEq node_order.cmp
exact_node a b e =
    ap (λ (p : Activation × ℕ). record { by = p.0; pc = p.1 })
    (exact_pairs activation_order.cmp nat_cmp exact_activation exact_unsigned (a.by, a.pc) (b.by, b.pc) e)

exact_site : CmpEqualImpliesEq site_order.cmp
exact_site (At a) (At b) e = ap At (exact_node a b e)
exact_site (Param a b) (Param c d) e =
    ap (λ (p : Ctx × ℕ). Param p.0 p.1)
    (exact_pairs ctx_order.cmp nat_cmp exact_ctx exact_unsigned (a, b) (c, d) e)
exact_site (Component a) (Component b) e = ap Component (exact_unsigned a b e)
exact_site (Shared a) (Shared b) e = ap Shared (exact_unsigned a b e)
exact_site (Made a b) (Made c d) e = ap (λ (p : ℕ × ℕ). Made p.0 p.1) (exact_two (a, b) (c, d) e)
exact_site _ _ e = absurd (not_equal _ refl e)

exact_use : CmpEqualImpliesEq use_order.cmp
exact_use (use_of.Row a) (use_of.Row b) e = ap use_of.Row (exact_unsigned a b e)
exact_use (use_of.Fallback a) (use_of.Fallback b) e = ap use_of.Fallback (exact_unsigned a b e)
exact_use _ _ e = absurd (not_equal _ refl e)

-- what is written as a number, and as two or four
abbrev number : ℕ → List ℕ
number n = n ∷ []

one : ComparesAs nat_cmp nat_cmp number
one = record { is = λ a b xs ys. refl }

two : ComparesAs nat_cmp by_two (λ p. number p.0 ++ number p.1)
two = compares_pair one one

four : ComparesAs nat_cmp (then_by nat_cmp by_three) (λ p. number p.0 ++ (number p.1.0 ++ (number p.1.1.0 ++ number p.1.1.1)))
four = compares_pair one (compares_pair one two)

stated_ctx : ComparesAs nat_cmp ctx_order.cmp numbers_of_ctx
stated_ctx = record { is = go }
  where
    go : (a b : Ctx) (xs ys : List ℕ)
        → slice_cmp nat_cmp (numbers_of_ctx a ++ xs) (numbers_of_ctx b ++ ys) ≡ ordering_then (ctx_order.cmp a b) (slice_cmp nat_cmp xs ys)
    go (ctx.Row a b) (ctx.Row c d) xs ys = two.is (a, b) (c, d) xs ys
    go (ctx.Callback a b) (ctx.Callback c d) xs ys = two.is (a, b) (c, d) xs ys
    go (ctx.Click a b) (ctx.Click c d) xs ys = two.is (a, b) (c, d) xs ys
    go (ctx.Handed a) (ctx.Handed b) xs ys = refl
    go (ctx.Init a) (ctx.Init b) xs ys = refl
    go (ctx.Call a b) (ctx.Call c d) xs ys = two.is (a, b) (c, d) xs ys
    go (ctx.Call2 a b x y) (ctx.Call2 c d u v) xs ys = four.is (a, (b, (x, y))) (c, (d, (u, v))) xs ys
    go _ _ xs ys = refl

stated_activation : ComparesAs nat_cmp activation_order.cmp numbers_of_activation
stated_activation = record { is = λ a b xs ys. (compares_pair stated_ctx one).is (a.ctx, a.method) (b.ctx, b.method) xs ys }

stated_node : ComparesAs nat_cmp node_order.cmp numbers_of_node
stated_node = record { is = λ a b xs ys. (compares_pair stated_activation one).is (a.by, a.pc) (b.by, b.pc) xs ys }

stated_site : ComparesAs nat_cmp site_order.cmp numbers_of_site
stated_site = record { is = go }
  where
    go : (a b : Site) (xs ys : List ℕ)
        → slice_cmp nat_cmp (numbers_of_site a ++ xs) (numbers_of_site b ++ ys) ≡ ordering_then (site_order.cmp a b) (slice_cmp nat_cmp xs ys)
    go (At a) (At b) xs ys = stated_node.is a b xs ys
    go (Param a b) (Param c d) xs ys = (compares_pair stated_ctx one).is (a, b) (c, d) xs ys
    go (Component a) (Component b) xs ys = refl
    go (Shared a) (Shared b) xs ys = refl
    go (Made a b) (Made c d) xs ys = two.is (a, b) (c, d) xs ys
    go _ _ xs ys = refl

stated_use : ComparesAs nat_cmp use_order.cmp numbers_of_use
stated_use = record { is = go }
  where
    go : (a b : SummaryId) (xs ys : List ℕ)
        → slice_cmp nat_cmp (numbers_of_use a ++ xs) (numbers_of_use b ++ ys) ≡ ordering_then (use_order.cmp a b) (slice_cmp nat_cmp xs ys)
    go (use_of.Row a) (use_of.Row b) xs ys = refl
    go (use_of.Fallback a) (use_of.Fallback b) xs ys = refl
    go _ _ xs ys = refl

-- the fields
pub node : ToldBy node_order.cmp field.Node
node = record { exact = exact_node; alike = λ a b. refl; stated = stated_node }

pub activation : ToldBy activation_order.cmp field.Activation
activation = record { exact = exact_activation; alike = λ a b. refl; stated = stated_activation }

pub site : ToldBy site_order.cmp field.Site
site = record { exact = exact_site; alike = λ a b. refl; stated = stated_site }

pub key : ToldBy key_order.cmp field.Key
key = record { exact = exact_key; alike = λ a b. refl; stated = record { is = λ a b xs ys. refl } }

pub path : ToldBy path_cmp field.Path
path = record { exact = path_order_is.exact; alike = λ a b. refl; stated = path_order_is.stated }

pub use_made : ToldBy use_order.cmp field.Use
use_made = record { exact = exact_use; alike = λ a b. refl; stated = stated_use }

pub category : ToldBy nat_cmp field.Category
category = record { exact = exact_unsigned; alike = λ a b. refl; stated = one }

pub static_field : ToldBy nat_cmp field.Static
static_field = record { exact = exact_unsigned; alike = λ a b. refl; stated = one }

pub exit : ToldBy nat_cmp field.Exit
exit = record { exact = exact_unsigned; alike = λ a b. refl; stated = one }

pub component : ToldBy nat_cmp field.Component
component = record { exact = exact_unsigned; alike = λ a b. refl; stated = one }

pub cause : ToldBy nat_cmp field.Cause
cause = record { exact = exact_unsigned; alike = λ a b. refl; stated = one }

pub own_label : ToldBy nat_cmp field.Label
own_label = record { exact = exact_unsigned; alike = λ a b. refl; stated = one }

pub register : ToldBeside node_order.cmp nat_cmp field.Register
register = record { exact = exact_unsigned; alike = λ a c b d. refl; own = number; written = λ a b. refl; stated = one }

pub state : ToldBeside nat_cmp nat_cmp field.State
state = record { exact = exact_unsigned; alike = λ a c b d. refl; own = number; written = λ a b. refl; stated = one }

pub exact_field : CmpEqualImpliesEq field_cmp
exact_field (field.Node a) (field.Node b) e = ap field.Node (exact_node a b e)
exact_field (field.Register a b) (field.Register c d) e =
    ap (λ (p : Node × ℕ). field.Register p.0 p.1)
    (exact_pairs node_order.cmp nat_cmp exact_node exact_unsigned (a, b) (c, d) e)
exact_field (field.Activation a) (field.Activation b) e = ap field.Activation (exact_activation a b e)
exact_field (field.Site a) (field.Site b) e = ap field.Site (exact_site a b e)
exact_field (field.Key a) (field.Key b) e = ap field.Key (exact_key a b e)
exact_field (field.Path a) (field.Path b) e = ap field.Path (path_order_is.exact a b e)
exact_field (field.Category a) (field.Category b) e = ap field.Category (exact_unsigned a b e)
exact_field (field.Static a) (field.Static b) e = ap field.Static (exact_unsigned a b e)
exact_field (field.Exit a) (field.Exit b) e = ap field.Exit (exact_unsigned a b e)
exact_field (field.Component a) (field.Component b) e = ap field.Component (exact_unsigned a b e)
exact_field (field.State a b) (field.State c d) e = ap (λ (p : ℕ × ℕ). field.State p.0 p.1) (exact_two (a, b) (c, d) e)
exact_field (field.Cause a) (field.Cause b) e = ap field.Cause (exact_unsigned a b e)
exact_field (field.Use a) (field.Use b) e = ap field.Use (exact_use a b e)
exact_field (field.Label a) (field.Label b) e = ap field.Label (exact_unsigned a b e)
exact_field _ _ e = absurd (not_equal _ refl e)
