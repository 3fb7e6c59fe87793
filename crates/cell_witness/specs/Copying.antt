-- A scene in which a label comes into an object by a copy of the library alone.
use Rattle.std.specs.Prelude.{List, [], ◌∷◌, Some, None, codes}
use Rattle.app_machine.specs.declared.call.MethodRef.{MethodRef}
use Rattle.app_machine.specs.declared.call.CallKind.TheVariants.{Static}
use Rattle.app_machine.specs.declared.method.Act.TheVariants.{New, Call, TakeResult}
use Rattle.app_machine.specs.declared.summary.Gives.TheVariants.{Joined}
use Rattle.app_machine.specs.declared.summary.Summary.{Summary}
use Rattle.app_machine.specs.declared.lists.Lists.{Lists}
use Rattle.machine_witness.specs.Apps.{device_class, net_class, step}
use Rattle.machine_witness.specs.Flows.{Scene, scene, ref, void, box_class, own_box, row_of_method, id_row, post_row, library_class, and_post}

-- a method that gives a labelled box, and one that pours its second box into the first
abbrev pub give : MethodRef
give = ref box_class (codes "give") [] box_class

abbrev pub draw : MethodRef
draw = ref box_class (codes "draw") (box_class ∷ box_class ∷ []) void

abbrev pub give_row : Summary
give_row = record (row_of_method give) { gives = Joined []; source = Some 0 }

abbrev pub draw_row : Summary
draw_row = record (row_of_method draw) { copies = (1, 0) ∷ [] }

unfoldable pub copying_lists : Lists
copying_lists = record {
  rows = 1000;
  categories = codes "device_id" ∷ codes "network" ∷ [];
  classes = library_class device_class ∷ library_class net_class ∷ library_class box_class ∷ [];
  shared = [];
  methods = id_row ∷ post_row ∷ give_row ∷ draw_row ∷ [];
  callbacks = [];
  statics = [];
}

-- a labelled box is poured into another, and this one goes to the sink
abbrev pub by_copy : Scene
by_copy =
    scene (step 0 (Call Static give []) (1 ∷ []) ∷ step 1 (TakeResult (1 ∷ [])) (2 ∷ []) ∷ step 2 (New 2 own_box None) (3 ∷ []) ∷
    step 3 (Call Static draw (2 ∷ 1 ∷ [])) (4 ∷ []) ∷ and_post 4 2) []
