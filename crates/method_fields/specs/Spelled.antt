-- A prototype that was read is made of types.
use Rattle.std.specs.Prelude.{◌||◌, IsTrue}
use Rattle.std.specs.List.{All}
use Rattle.app_machine.specs.declared.call.Proto.{Proto}
use Rattle.method_fields.specs.Descriptor.{is_type, is_void}

-- each parameter is a type, and the result is one or `void`
pub record SpelledProto (proto : Proto) : Type 0 where
  pub params : All (λ type. IsTrue (is_type type)) proto.params
  pub result : IsTrue (is_void proto.ret || is_type proto.ret)
