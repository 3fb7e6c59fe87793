-- Methods by class, name and descriptor.
use Rattle.std.specs.Prelude.{◌≡◌}
use Rattle.vet_base.specs.Members.{In}
use Rattle.app_machine.specs.Names.{descriptor_of}
use Rattle.link_listing.specs.declared.members.Listed.{Listed}
use Rattle.link_listing.specs.Texts.{Triple}
use Rattle.link_listing.specs.MemberRows.{Methods}

-- the third name by which each is listed is the text of its descriptor
pub record Described (methods : Methods) : Type 0 where
  pub each : (e : Triple × Listed) → In e methods → e.0.2 ≡ descriptor_of e.1.proto
