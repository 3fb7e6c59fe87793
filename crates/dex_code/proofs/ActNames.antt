-- The key, the static and the registers of a call that an act names are those of the name.
use Rattle.std.proofs.Common.{ℕ, ◌<◌, Bool, List}
use Rattle.vet_base.specs.declared.key_id.KeyId.{KeyId}
use Rattle.dalvik_formats.specs.declared.kind.Kind.{Kind}
use Rattle.dalvik_formats.specs.declared.kind.Kind.TheVariants as kinds
use Rattle.app_machine.specs.Sound.{AllBelow, keys_of, statics_of, TakesItsRegisters}
use Rattle.dex_code.specs.declared.insn.Insn.{Insn}
use Rattle.dex_code.specs.declared.names.Named.{Named}
use Rattle.dex_code.specs.declared.names.Named.TheVariants as named
use Rattle.dex_code.specs.Acts.{arguments_of, operands_of, wide_with, plain_act, class_act, field_act, static_act, act_of}
use Rattle.dex_code.specs.CodeLaws.{NamesKey, NamesStatic, NamesCall}
use Rattle.dex_code.specs.Insns.{opcode_of, kind_of}

module _ (wide : Bool) (r : ℕ × ℕ × ℕ) (n : ℕ) where
  plain_key : (kind : Kind) → 0 < n → AllBelow n (keys_of (plain_act kind wide r))
  plain_key kinds.ArrayGet some = (some, tt)
  plain_key kinds.ArrayPut some = (some, tt)
  plain_key kind some = tt

  plain_static : (kind : Kind) → AllBelow n (statics_of (plain_act kind wide r))
  plain_static kinds.Move = tt
  plain_static kind = tt

  plain_call : (kind : Kind) → TakesItsRegisters (plain_act kind wide r)
  plain_call kinds.Move = tt
  plain_call kind = tt

  field_key : (kind : Kind) (key : KeyId) → key.0 < n → AllBelow n (keys_of (field_act kind wide r key))
  field_key kinds.InstanceGet key lt = (lt, tt)
  field_key kinds.InstancePut key lt = (lt, tt)
  field_key kind key lt = tt

  field_static : (kind : Kind) (key : KeyId) → AllBelow n (statics_of (field_act kind wide r key))
  field_static kinds.InstanceGet key = tt
  field_static kind key = tt

  field_call : (kind : Kind) (key : KeyId) → TakesItsRegisters (field_act kind wide r key)
  field_call kinds.InstanceGet key = tt
  field_call kind key = tt

  static_key : (kind : Kind) (g : ℕ) → AllBelow n (keys_of (static_act kind wide r.0 g))
  static_key kinds.StaticGet g = tt
  static_key kind g = tt

  static_static : (kind : Kind) (g : ℕ) → g < n → AllBelow n (statics_of (static_act kind wide r.0 g))
  static_static kinds.StaticGet g lt = (lt, tt)
  static_static kinds.StaticPut g lt = (lt, tt)
  static_static kind g lt = tt

  static_call : (kind : Kind) (g : ℕ) → TakesItsRegisters (static_act kind wide r.0 g)
  static_call kinds.StaticGet g = tt
  static_call kind g = tt

  class_key : (kind : Kind) (elements class : List ℕ) → AllBelow n (keys_of (class_act kind r elements class))
  class_key kinds.NewInstance elements class = tt
  class_key kind elements class = tt

  class_static : (kind : Kind) (elements class : List ℕ) → AllBelow n (statics_of (class_act kind r elements class))
  class_static kinds.NewInstance elements class = tt
  class_static kind elements class = tt

  class_call : (kind : Kind) (elements class : List ℕ) → TakesItsRegisters (class_act kind r elements class)
  class_call kinds.NewInstance elements class = tt
  class_call kind elements class = tt

pub key_below : (insn : Insn) (name : Named) (n : ℕ) → 0 < n → NamesKey name n → AllBelow n (keys_of (act_of insn name))
unfolding act_of
key_below insn named.Nothing n some h = plain_key (wide_with (opcode_of insn)) (operands_of insn) n (kind_of insn) some
key_below insn (named.Class class) n some h = class_key (wide_with (opcode_of insn)) (operands_of insn) n (kind_of insn) (arguments_of insn) class
key_below insn (named.Method at) n some h = tt
key_below insn (named.Key key) n some h = field_key (wide_with (opcode_of insn)) (operands_of insn) n (kind_of insn) key h
key_below insn (named.Static g) n some h = static_key (wide_with (opcode_of insn)) (operands_of insn) n (kind_of insn) g

pub static_below : (insn : Insn) (name : Named) (n : ℕ) → NamesStatic name n → AllBelow n (statics_of (act_of insn name))
unfolding act_of
static_below insn named.Nothing n h = plain_static (wide_with (opcode_of insn)) (operands_of insn) n (kind_of insn)
static_below insn (named.Class class) n h = class_static (wide_with (opcode_of insn)) (operands_of insn) n (kind_of insn) (arguments_of insn) class
static_below insn (named.Method at) n h = tt
static_below insn (named.Key key) n h = field_static (wide_with (opcode_of insn)) (operands_of insn) n (kind_of insn) key
static_below insn (named.Static g) n h = static_static (wide_with (opcode_of insn)) (operands_of insn) n (kind_of insn) g h

pub takes_its_registers : (insn : Insn) (name : Named) → NamesCall insn name → TakesItsRegisters (act_of insn name)
unfolding act_of
takes_its_registers insn named.Nothing h = plain_call (wide_with (opcode_of insn)) (operands_of insn) 0 (kind_of insn)
takes_its_registers insn (named.Class class) h = class_call (wide_with (opcode_of insn)) (operands_of insn) 0 (kind_of insn) (arguments_of insn) class
takes_its_registers insn (named.Method at) h = h
takes_its_registers insn (named.Key key) h = field_call (wide_with (opcode_of insn)) (operands_of insn) 0 (kind_of insn) key
takes_its_registers insn (named.Static g) h = static_call (wide_with (opcode_of insn)) (operands_of insn) 0 (kind_of insn) g
