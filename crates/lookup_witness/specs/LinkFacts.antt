-- What the code of the small app comes to as it is linked. Behind each fact stands what code would answer that does otherwise.
use Rattle.std.specs.Prelude.{◌≡◌, true, false, [], ◌∷◌, None, codes}
use Rattle.app_machine.specs.declared.method.Act.TheVariants.{Get, GetStatic, Return}
use Rattle.dex_code.specs.declared.insn.Insn.TheVariants.{F10x, F21c, F22c}
use Rattle.dex_tables.specs.declared.dex.Dex.{Dex}
use Rattle.link_code.specs.declared.coded.Coded.{Coded}
use Rattle.link_code.specs.Methods.{all_methods}
use Rattle.link_code.specs.StaticList.{statics_named}
use Rattle.link_listing.specs.MemberRows.{Fields}
use Rattle.link_listing.specs.Texts.{Triple}
use Rattle.lookup_witness.specs.Shapes.{base_class, child_class, outer_interface, int, go, does, shapes}

-- the fields: the base's own, and a static of the outer interface
abbrev pub shape_fields : Fields
shape_fields = ((base_class, codes "f", int), false) ∷ ((outer_interface, codes "s", int), true) ∷ []

-- a file that names both by the child
unfoldable pub shape_file : Dex
shape_file = record {
  strings = int ∷ child_class ∷ codes "f" ∷ codes "s" ∷ [];
  types = 0 ∷ 1 ∷ [];
  protos = [];
  fields = record { class = 1; kind = 0; name = 2 } ∷ record { class = 1; kind = 0; name = 3 } ∷ [];
  methods = [];
  classes = [];
}

-- `go` with code that gets the child's `f` and the child's `s`
abbrev pub getting : Coded
getting = record {
  at = go;
  is_static = false;
  is_native = false;
  registers = 1;
  ins = 1;
  dex = 0;
  decoded = record { lines = (0, F22c 0x52 0 0 0) ∷ (2, F21c 0x60 0 1) ∷ (4, F10x 0x0E) ∷ []; tries = [] };
}

-- the one static
abbrev pub outer_static : Triple
outer_static = (outer_interface, codes "s", int)

pub record Links : Type 0 where
  -- the static is that of the interface above the child's interface; without interfaces of interfaces, or without interfaces at
  -- all, it is one of the child's own
  pub named_static : statics_named shapes shape_fields (shape_file ∷ []) (getting ∷ []) ≡ outer_static ∷ []
  -- the field is the base's, key 1; as an element it is key 0
  pub own_key : all_methods shapes shape_fields (outer_static ∷ []) (shape_file ∷ []) (getting ∷ []) ≡ record {
    at = go;
    is_static = false;
    is_native = false;
    registers = 1;
    ins = 1;
    steps = does 0 (Get (0 ∷ []) 0 (record { 0 = 1 })) (2 ∷ []) ∷ does 2 (GetStatic (0 ∷ []) 0) (4 ∷ []) ∷ does 4 (Return None) [] ∷ [];
  } ∷ []
