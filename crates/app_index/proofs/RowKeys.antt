-- A row's key is that of a call exactly where the row is of the call's method.
use Rattle.std.proofs.Common.{◌≡◌, Bool, true, false, ◌&&◌, ℕ, refl, ap, ◌∙◌}
use Rattle.std.specs.HashMap.{HashMap, get}
use mathlib.Core.Bool.{beq}
use Rattle.app_machine.specs.declared.call.Proto.{Proto}
use Rattle.app_machine.specs.declared.lists.Lists.{Lists}
use Rattle.app_machine.specs.declared.summary.Summary.{Summary}
use Rattle.app_machine.specs.Names.{Name, same_name, same_names}
use Rattle.app_machine.specs.Summaries.{same_word, row_of}
use Rattle.app_index.specs.contracts.keys.MethodKeyPartialEq.TheImpl.{ghosts as method_key_eq}
use Rattle.app_index.specs.declared.keys.MethodKey.{MethodKey}
use Rattle.app_index.specs.Numbers.{is_row_of, HasMethods}

-- the key has these parts
pub record IsKeyOf (c n : Name) (p : Proto) (word : Bool) (key : MethodKey) : Type 0 where
  pub class : key.class.now ≡ c
  pub name : key.name.now ≡ n
  pub params : key.params.now ≡ p.params
  pub ret : key.ret.now ≡ p.ret
  pub is_static : key.is_static ≡ word

word_is : (v w : Bool) → beq v w ≡ same_word v w
word_is true true = refl
word_is true false = refl
word_is false true = refl
word_is false false = refl

parts_are : (a b x y v w : Bool) → a && (b && (x && (y && beq v w))) ≡ a && b && (x && y) && same_word v w
parts_are true true true y v w = ap (λ z. y && z) (word_is v w)
parts_are true true false y v w = refl
parts_are true false x y v w = refl
parts_are false b x y v w = refl

pub same_method : (s : Summary) (key : MethodKey) → IsKeyOf s.class s.name s.proto s.is_static key → (q : MethodKey) → method_key_eq.eq key q ≡ is_row_of q s
same_method s key is q =
    rw (is.class, is.name, is.params, is.ret, is.is_static)
    (parts_are (same_name s.class q.class.now) (same_name s.name q.name.now) (same_names s.proto.params q.params.now) (same_name s.proto.ret q.ret.now) s.is_static q.is_static)

-- the number at the key of a method is that of the method's row
pub row_there : {S : Type 0} (numbers : HashMap MethodKey ℕ S) (lists : Lists) (class name : Name) (proto : Proto) (is_static : Bool) (key : MethodKey) → HasMethods numbers lists.methods → IsKeyOf class name proto is_static key →
    get method_key_eq.eq numbers key ≡ row_of lists class name proto is_static
unfolding row_of
row_there numbers lists class name proto is_static key has is = has.at key ∙ rw (is.class, is.name, is.params, is.ret, is.is_static) refl
