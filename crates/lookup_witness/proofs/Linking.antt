-- What the code is linked to computes.
use Rattle.std.proofs.Common.{refl}
use Rattle.dalvik_formats.specs.Layouts.{group_of, layout_of, pairing_of, row_of}
use Rattle.dex_code.specs.Acts.{act_of, naming_of}
use Rattle.dex_code.specs.Next.{catches_of, covering, in_order, next_of, targets_from}
use Rattle.link_code.specs.Lift.{step_if, step_of, steps_of}
use Rattle.link_code.specs.Methods.{all_methods, lifted, steps_in}
use Rattle.link_code.specs.Named.{key_of, named_of}
use Rattle.link_code.specs.StaticList.{static_in_line, static_index, statics_in_method, statics_named}
use Rattle.link_code.specs.Statics.{class_of_static, classes_asked, defines, first_interfaces, interfaces_named, met, met_within, number_among, number_of, resolved}
use Rattle.link_hierarchy.specs.Hierarchy.{firsts}
use Rattle.link_listing.specs.Orders.{named_triple}
use Rattle.link_listing.specs.Texts.{field_of, text_of, type_of}
use Rattle.app_machine.specs.Lookups.{class_named, instance_key, up}
use Rattle.lookup_witness.specs.LinkFacts.{Links, shape_file}
use Rattle.lookup_witness.specs.Shapes.{shapes}

pub links : Links
unfolding shapes shape_file statics_named statics_in_method static_in_line static_index naming_of resolved class_of_static classes_asked defines named_triple met met_within first_interfaces interfaces_named firsts class_named up field_of text_of type_of all_methods lifted steps_in steps_of step_if step_of act_of layout_of row_of pairing_of group_of named_of key_of instance_key number_of number_among next_of targets_from in_order catches_of covering
links = record { named_static = refl; own_key = refl }
