use Rattle.std.proofs.Common.{rules}
use Rattle.app_link.specs.FirstLinkFault.{StopsAtFirst}
use Rattle.app_link.proofs.FirstFaults.{at_hierarchy, at_code, at_limits}
use Rattle.app_link.proofs.FrameSound.{frame_sound}
use Rattle.app_link.proofs.Limits.{few_lines}
use Rattle.app_link.proofs.Linked.{is_app}
use Rattle.app_link.proofs.OneAnswer.{only_app}
use Rattle.link_listing.proofs.SoundMembers.{gathered_described}
use Rattle.link_hierarchy.proofs.Stuck.{no_circle}
use Rattle.app_link.proofs.linking.linked.Goals as goal

pub codes_of-requires-clause-described : goal.codes_of-requires-clause-described
codes_of-requires-clause-described c = gathered_described c.args.dexes.now c.args.manifest.now (record {
  classes = c.in_ok-parts.parts.classes.entries;
  fields = c.in_ok-parts.parts.fields.entries;
  methods = c.in_ok-parts.parts.methods.entries;
  components = c.in_ok-parts.parts.components.items;
}) c.in_ok-parts.ensures.value

pub finished-requires-clause-sound : goal.finished-requires-clause-sound
finished-requires-clause-sound c = frame_sound _ _ c.in_ok-frame.frame c.in_ok-frame.ensures.frame

pub finished-requires-clause-fine : goal.finished-requires-clause-fine
finished-requires-clause-fine c = few_lines c.in_ok-coding.coding.methods.items c.in_ok-coding.coding.units _ c.in_ok-coding.ensures.units c.in_ok-check_limits.ensures.units c.in_ok-coding.ensures.fine

pub returns-clause-app : goal.returns-clause-app
returns-clause-app c = is_app c.code_laws.ensures c.args.dexes.now c.args.manifest.now c.args.layouts.now (record {
  classes = c.in_ok-parts.parts.classes.entries;
  fields = c.in_ok-parts.parts.fields.entries;
  methods = c.in_ok-parts.parts.methods.entries;
  components = c.in_ok-parts.parts.components.items;
}) c.in_ok-coding.coding.methods.items c.in_ok-frame.frame c.in_ok-app.app c.in_ok-frame.ensures.frame c.in_ok-app.ensures.others
    c.counts_of-class_count.result.0 c.counts_of-class_count.result.1 c.counts_of-class_count.result.2 c.in_ok-coding.coding.units c.counts_of-class_count.ensures.classes c.counts_of-class_count.ensures.methods c.counts_of-class_count.ensures.fields c.in_ok-coding.ensures.units
    c.in_ok-parts.ensures.value c.in_ok-coding.ensures.value c.in_ok-check_limits.ensures.value
    c.in_ok-frame.ensures.components c.in_ok-frame.ensures.clicks c.in_ok-frame.ensures.providers c.in_ok-frame.ensures.layout_classes
    c.in_ok-app.ensures.statics c.in_ok-app.ensures.methods

pub returns-clause-only : goal.returns-clause-only
returns-clause-only c = only_app c.code_laws.ensures c.args.dexes.now c.args.manifest.now c.args.layouts.now (record {
  classes = c.in_ok-parts.parts.classes.entries;
  fields = c.in_ok-parts.parts.fields.entries;
  methods = c.in_ok-parts.parts.methods.entries;
  components = c.in_ok-parts.parts.components.items;
}) c.in_ok-outers.outers.entries c.in_ok-parts.ensures.value c.in_ok-frame.ensures.frame.sorted c.in_ok-outers.ensures.ok c.in_ok-app.app (returns-clause-app c)

pub returns-in_err-outers-clause-fault : goal.returns-in_err-outers-clause-fault
returns-in_err-outers-clause-fault c =
    let first : StopsAtFirst c.args.dexes.now c.args.manifest.now c.in_err-outers.field-0.0 = at_hierarchy c.args.dexes.now c.args.manifest.now (record {
      classes = c.in_ok-parts.parts.classes.entries;
      fields = c.in_ok-parts.parts.fields.entries;
      methods = c.in_ok-parts.parts.methods.entries;
      components = c.in_ok-parts.parts.components.items;
    }) c.in_ok-parts.ensures.value c.in_err-outers.field-0.0 c.in_err-outers.ensures.fault in
    search rules

pub returns-in_err-coding-clause-fault : goal.returns-in_err-coding-clause-fault
returns-in_err-coding-clause-fault c =
    let first : StopsAtFirst c.args.dexes.now c.args.manifest.now c.in_err-coding.field-0.0 = at_code c.args.dexes.now c.args.manifest.now (record {
      classes = c.in_ok-parts.parts.classes.entries;
      fields = c.in_ok-parts.parts.fields.entries;
      methods = c.in_ok-parts.parts.methods.entries;
      components = c.in_ok-parts.parts.components.items;
    }) c.in_ok-parts.ensures.value c.in_err-coding.field-0.0 (no_circle _ _ c.in_ok-outers.ensures.ok) c.in_err-coding.ensures.value in
    search rules

pub returns-in_err-check_limits-clause-fault : goal.returns-in_err-check_limits-clause-fault
returns-in_err-check_limits-clause-fault c =
    let first : StopsAtFirst c.args.dexes.now c.args.manifest.now c.in_err-check_limits.field-0.0 = at_limits c.args.dexes.now c.args.manifest.now (record {
      classes = c.in_ok-parts.parts.classes.entries;
      fields = c.in_ok-parts.parts.fields.entries;
      methods = c.in_ok-parts.parts.methods.entries;
      components = c.in_ok-parts.parts.components.items;
    }) c.in_ok-parts.ensures.value c.in_err-check_limits.field-0.0 c.in_ok-coding.coding.methods.items
    c.counts_of-class_count.result.0 c.counts_of-class_count.result.1 c.counts_of-class_count.result.2 c.in_ok-coding.coding.units (no_circle _ _ c.in_ok-outers.ensures.ok) c.in_ok-coding.ensures.value
    c.counts_of-class_count.ensures.classes c.counts_of-class_count.ensures.methods c.counts_of-class_count.ensures.fields c.in_ok-coding.ensures.units c.in_err-check_limits.ensures.value in
    search rules
