-- Each part of a row is read as it was written.
use Rattle.std.proofs.Common.{◌≡◌, ℕ, zero, suc, ◌+◌, ◌*◌, ◌/◌, ◌%◌, ◌<◌, Bool, true, false, List, [], ◌∷◌, ◌++◌, Ok, refl, append_assoc, arith}
use Rattle.vet_base.specs.Script.{run}
use Rattle.vet_base.specs.declared.key_id.KeyId.{KeyId}
use Rattle.vet_base.proofs.Scripts.{run_bind}
use Rattle.access_path.specs.declared.keys.Keys.{Keys}
use Rattle.access_path.specs.declared.keys.Keys.TheVariants.{Zero, One, Two, Three, Four, Five}
use Rattle.access_path.specs.declared.path.Path.{Path}
use Rattle.access_path.specs.Order.{numbers_of_path}
use Rattle.access_path.specs.Paths.{cut}
use Rattle.app_machine.specs.declared.lists.SummaryId.{SummaryId}
use Rattle.app_machine.specs.declared.lists.SummaryId.TheVariants as uses
use Rattle.fact_rows.specs.declared.context.Ctx.{Ctx}
use Rattle.fact_rows.specs.declared.context.Ctx.TheVariants as ctx
use Rattle.fact_rows.specs.declared.context.Activation.{Activation}
use Rattle.fact_rows.specs.declared.context.Node.{Node}
use Rattle.fact_rows.specs.declared.site.Site.{Site}
use Rattle.fact_rows.specs.declared.site.Site.TheVariants.{At, Param, Component, Shared, Made}
use Rattle.fact_rows.specs.Order.{numbers_of_ctx, numbers_of_activation, numbers_of_node, numbers_of_use}
use Rattle.cert_rows.specs.declared.sets.Set.{Set}
use Rattle.cert_rows.specs.declared.sets.Set.TheVariants.{Paths, Cells}
use Rattle.cert_rows.specs.Fitting.{AreSmall, SiteFits}
use Rattle.cert_rows.specs.Parts as parts
use Rattle.cert_rows.specs.Parts.{param_from, made_from, site_of, site_from, keys_from, path_from}
use Rattle.cert_rows.specs.Reading.{From, with, byte_from, u4_from, zero_byte_from, zero_from, two_from, lone_from, call2_from, ctx_of, ctx_from, activation_from, node_from}
use Rattle.cert_rows.specs.Rows.{key_from, exit_from, cause_from, use_of_kind, use_from, labelled_from}
use Rattle.cert_rows.specs.Spelling.{u4_bytes, ctx_bytes, activation_bytes, node_bytes, site_bytes, path_bytes, use_bytes}

-- what fits is read as it was written, whatever stands behind it
pub record Again {A : Type 0} (spelled : A → List ℕ) (Fits : A → Type 0) (read : List ℕ → From A) : Type 0 where
  pub again : (x : A) (rest : List ℕ) → Fits x → run (read (spelled x ++ rest)) ≡ Ok (x, rest)

pub small_parts : (xs ys : List ℕ) → AreSmall (xs ++ ys) → AreSmall xs × AreSmall ys
small_parts [] ys h = (tt, h)
small_parts (x ∷ xs) ys h = let p = small_parts xs ys h.1 in ((h.0, p.0), p.1)

pub whole : (n : ℕ) → n < 4294967296 → n % 256 + 256 * (n / 256 % 256) + 65536 * (n / 65536 % 256) + 16777216 * (n / 16777216 % 256) ≡ n
whole n h = omega arith

pub byte : Again (λ n. n ∷ []) (λ n. n < 256) byte_from
byte = record { again = λ n rest h. refl }

pub u4 : Again u4_bytes (λ n. AreSmall (n ∷ [])) u4_from
u4 = record { again = λ n rest h i. Ok (whole n h.0 i, rest) }

pub key : Again (λ (k : KeyId). u4_bytes k.0) (λ (k : KeyId). AreSmall (k.0 ∷ [])) key_from
key = record { again = λ k rest h i. Ok (parts.key (whole k.0 h.0 i), rest) }

ctx_again : (c : Ctx) (rest : List ℕ) → AreSmall (numbers_of_ctx c) → run (ctx_from (ctx_bytes c ++ rest)) ≡ Ok (c, rest)
unfolding ctx_bytes ctx_from ctx_of two_from lone_from call2_from zero_from zero_byte_from
ctx_again (ctx.Row a b) rest h = λ i. Ok (ctx.Row (whole a h.1.0 i) (whole b h.1.1.0 i), rest)
ctx_again (ctx.Callback a b) rest h = λ i. Ok (ctx.Callback (whole a h.1.0 i) (whole b h.1.1.0 i), rest)
ctx_again (ctx.Click a b) rest h = λ i. Ok (ctx.Click (whole a h.1.0 i) (whole b h.1.1.0 i), rest)
ctx_again (ctx.Handed a) rest h = λ i. Ok (ctx.Handed (whole a h.1.0 i), rest)
ctx_again (ctx.Init a) rest h = λ i. Ok (ctx.Init (whole a h.1.0 i), rest)
ctx_again (ctx.Call a b) rest h = λ i. Ok (ctx.Call (whole a h.1.0 i) (whole b h.1.1.0 i), rest)
ctx_again (ctx.Call2 a b c d) rest h =
    λ i. Ok (ctx.Call2 (whole a h.1.0 i) (whole b h.1.1.0 i) (whole c h.1.1.1.0 i) (whole d h.1.1.1.1.0 i), rest)

activation_again : (a : Activation) (rest : List ℕ) → AreSmall (numbers_of_activation a) → run (activation_from (activation_bytes a ++ rest)) ≡ Ok (a, rest)
unfolding activation_from
activation_again a rest h =
    let p = small_parts (numbers_of_ctx a.ctx) (a.method ∷ []) h in
    rw (append_assoc, run_bind, ctx_again a.ctx (u4_bytes a.method ++ rest) p.0) (λ i. Ok (record { ctx = a.ctx; method = whole a.method p.1.0 i }, rest))

pub activation : Again activation_bytes (λ a. AreSmall (numbers_of_activation a)) activation_from
activation = record { again = activation_again }

node_again : (n : Node) (rest : List ℕ) → AreSmall (numbers_of_node n) → run (node_from (node_bytes n ++ rest)) ≡ Ok (n, rest)
unfolding node_from
node_again n rest h =
    let p = small_parts (numbers_of_activation n.by) (n.pc ∷ []) h in
    let front : (activation_bytes n.by ++ u4_bytes n.pc) ++ rest ≡ activation_bytes n.by ++ (u4_bytes n.pc ++ rest) = append_assoc (activation_bytes n.by) (u4_bytes n.pc) rest in
    rw (front, run_bind, activation_again n.by (u4_bytes n.pc ++ rest) p.0) (λ i. Ok (record { by = n.by; pc = whole n.pc p.1.0 i }, rest))

pub node : Again node_bytes (λ n. AreSmall (numbers_of_node n)) node_from
node = record { again = node_again }

with_again : {A B : Type 0} (make : A → B) (script : From A) (x : A) (rest : List ℕ) → run script ≡ Ok (x, rest) → run (with make script) ≡ Ok (make x, rest)
with_again make script x rest e = rw (run_bind, e) refl

param_again : (c : Ctx) (k : ℕ) (rest : List ℕ) → AreSmall (numbers_of_ctx c) → k < 4294967296 → run (param_from ((ctx_bytes c ++ u4_bytes k) ++ rest)) ≡ Ok (Param c k, rest)
unfolding param_from
param_again c k rest h small = rw (append_assoc, run_bind, ctx_again c (u4_bytes k ++ rest) h) (λ i. Ok (Param c (whole k small i), rest))

made_again : (set : Set) (m pc : ℕ) (rest : List ℕ) → set ≡ Cells → m < 4294967296 → pc < 4294967296 → run (made_from set ((u4_bytes m ++ u4_bytes pc) ++ rest)) ≡ Ok (Made m pc, rest)
unfolding made_from two_from
made_again Cells m pc rest is hm hpc = λ i. Ok (Made (whole m hm i) (whole pc hpc i), rest)
made_again Paths m pc rest is hm hpc = absurd cc

site_again : (set : Set) (s : Site) (rest : List ℕ) → SiteFits set s → run (site_from set (site_bytes s ++ rest)) ≡ Ok (s, rest)
unfolding site_bytes site_from site_of
site_again set (At n) rest h = with_again At (node_from (node_bytes n ++ rest)) n rest (node_again n rest h.1.1)
site_again set (Param c k) rest h = let p = small_parts (numbers_of_ctx c) (k ∷ []) h.1.1 in param_again c k rest p.0 p.1.0
site_again set (Component c) rest h = λ i. Ok (Component (whole c h.1.1.0 i), rest)
site_again set (Shared g) rest h = λ i. Ok (Shared (whole g h.1.1.0 i), rest)
site_again set (Made m pc) rest h = made_again set m pc rest h.0 h.1.1.0 h.1.1.1.0

pub site : (set : Set) → Again site_bytes (SiteFits set) (site_from set)
site set = record { again = site_again set }

abbrev path_of : Bool → Keys → Path
path_of is_open keys = record { is_open = is_open; keys = keys }

keys_again : (is_open : Bool) (keys : Keys) (rest : List ℕ) → AreSmall (numbers_of_path (path_of is_open keys))
    → run (path_from (path_bytes (path_of is_open keys) ++ rest)) ≡ Ok (path_of is_open keys, rest)
unfolding path_bytes path_from keys_from cut
keys_again true Zero rest h = refl
keys_again true (One a) rest h = λ i. Ok (path_of true (One (parts.key (whole a.0 h.1.0 i))), rest)
keys_again true (Two a b) rest h = λ i. Ok (path_of true (Two (parts.key (whole a.0 h.1.0 i)) (parts.key (whole b.0 h.1.1.0 i))), rest)
keys_again true (Three a b c) rest h = λ i. Ok (path_of true (Three (parts.key (whole a.0 h.1.0 i)) (parts.key (whole b.0 h.1.1.0 i)) (parts.key (whole c.0 h.1.1.1.0 i))), rest)
keys_again true (Four a b c d) rest h = λ i. Ok (path_of true (Four (parts.key (whole a.0 h.1.0 i)) (parts.key (whole b.0 h.1.1.0 i)) (parts.key (whole c.0 h.1.1.1.0 i)) (parts.key (whole d.0 h.1.1.1.1.0 i))), rest)
keys_again true (Five a b c d e) rest h = λ i. Ok (path_of true (Five (parts.key (whole a.0 h.1.0 i)) (parts.key (whole b.0 h.1.1.0 i)) (parts.key (whole c.0 h.1.1.1.0 i)) (parts.key (whole d.0 h.1.1.1.1.0 i)) (parts.key (whole e.0 h.1.1.1.1.1.0 i))), rest)
keys_again false Zero rest h = refl
keys_again false (One a) rest h = λ i. Ok (path_of false (One (parts.key (whole a.0 h.1.0 i))), rest)
keys_again false (Two a b) rest h = λ i. Ok (path_of false (Two (parts.key (whole a.0 h.1.0 i)) (parts.key (whole b.0 h.1.1.0 i))), rest)
keys_again false (Three a b c) rest h = λ i. Ok (path_of false (Three (parts.key (whole a.0 h.1.0 i)) (parts.key (whole b.0 h.1.1.0 i)) (parts.key (whole c.0 h.1.1.1.0 i))), rest)
keys_again false (Four a b c d) rest h = λ i. Ok (path_of false (Four (parts.key (whole a.0 h.1.0 i)) (parts.key (whole b.0 h.1.1.0 i)) (parts.key (whole c.0 h.1.1.1.0 i)) (parts.key (whole d.0 h.1.1.1.1.0 i))), rest)
keys_again false (Five a b c d e) rest h = λ i. Ok (path_of false (Five (parts.key (whole a.0 h.1.0 i)) (parts.key (whole b.0 h.1.1.0 i)) (parts.key (whole c.0 h.1.1.1.0 i)) (parts.key (whole d.0 h.1.1.1.1.0 i)) (parts.key (whole e.0 h.1.1.1.1.1.0 i))), rest)

path_again : (p : Path) (rest : List ℕ) → AreSmall (numbers_of_path p) → run (path_from (path_bytes p ++ rest)) ≡ Ok (p, rest)
path_again p rest h = keys_again p.is_open p.keys rest h

pub labelled : Again (λ (t : Path × ℕ). path_bytes t.0 ++ t.1 ∷ []) (λ (t : Path × ℕ). AreSmall (numbers_of_path t.0) × (t.1 < 256)) labelled_from
unfolding labelled_from
labelled = record { again = λ t rest h. rw (append_assoc, run_bind, path_again t.0 (t.1 ∷ rest) h.0) refl }

exit_again : (how : ℕ) (rest : List ℕ) → how < 2 → run (exit_from (how ∷ rest)) ≡ Ok (how, rest)
unfolding exit_from
exit_again zero rest h = refl
exit_again (suc zero) rest h = refl
exit_again (suc (suc n)) rest h = absurd (omega arith)

pub exit : Again (λ n. n ∷ []) (λ n. n < 2) exit_from
exit = record { again = exit_again }

cause_again : (cause : ℕ) (rest : List ℕ) → (0 < cause) × (cause < 4) → run (cause_from (cause ∷ rest)) ≡ Ok (cause, rest)
unfolding cause_from
cause_again zero rest h = absurd (omega arith)
cause_again (suc zero) rest h = refl
cause_again (suc (suc zero)) rest h = refl
cause_again (suc (suc (suc zero))) rest h = refl
cause_again (suc (suc (suc (suc n)))) rest h = absurd (omega arith)

pub cause : Again (λ n. n ∷ []) (λ n. (0 < n) × (n < 4)) cause_from
cause = record { again = cause_again }

use_again : (u : SummaryId) (rest : List ℕ) → AreSmall (numbers_of_use u) → run (use_from (use_bytes u ++ rest)) ≡ Ok (u, rest)
unfolding use_bytes use_from use_of_kind
use_again (uses.Row r) rest h = λ i. Ok (uses.Row (whole r h.1.0 i), rest)
use_again (uses.Fallback c) rest h = λ i. Ok (uses.Fallback (whole c h.1.0 i), rest)

pub use_of : Again use_bytes (λ u. AreSmall (numbers_of_use u)) use_from
use_of = record { again = use_again }
