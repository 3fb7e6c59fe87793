-- What is told computes.
use Rattle.std.proofs.Common.{refl}
use Rattle.app_machine.specs.Lookups.{class_named, up}
use Rattle.app_machine.specs.Names.{click_descriptor, initialiser_name, is_reference, descriptor_of}
use Rattle.link_access.specs.Flags.{is_open}
use Rattle.link_listing.specs.Orders.{named}
use Rattle.outcomes.specs.Ascending.{ascending}
use Rattle.outcomes.specs.Causes.{is_app_class}
use Rattle.outcomes.specs.Places.{place_in}
use Rattle.device_causes.specs.Clicks.{context_class, menu_descriptor, context_names, is_context, activity_names, all_activity_names, comes_elsewhere, is_odd_click, clicks_in, odd_clicks}
use Rattle.device_causes.specs.DeviceCauses.{hidden_causes, interface_causes, platform_causes, unlisted_causes, static_causes, click_causes, named_causes, strict_causes, device_causes}
use Rattle.device_causes.specs.Hidden.{package_of, constructor_name, is_special, hides, methods_of, any_hides, is_hidden_by, is_hidden, hidden_of, hidden}
use Rattle.device_causes.specs.Interfaces.{is_of_objects, code_in, interface_code}
use Rattle.device_causes.specs.Libraries.{is_unlisted, unlisted_above, unlisted_classes, statics_in, defined_statics, listed_statics, is_foreign, is_unknown, touches, is_touching, spots_in, spots_from, static_spots}
use Rattle.device_causes.specs.Platform.{longest_fit, has_platform_name, is_library_class, is_platform_class, platform_classes}
use Rattle.device_causes.specs.Sets.{is_among, is_listed}
use Rattle.lookup_witness.specs.Shapes.{shapes}
use Rattle.lookup_witness.proofs.Sound.{sound_shapes}
use Rattle.device_witness.specs.Packages.{packages}
use Rattle.device_witness.specs.DeviceFacts.{DeviceIsTold}
use Rattle.device_witness.proofs.SoundPackages.{sound_packages}

pub device_is_told : DeviceIsTold
unfolding packages shapes is_open class_named up click_descriptor initialiser_name is_reference descriptor_of named ascending is_app_class place_in context_class menu_descriptor context_names is_context activity_names all_activity_names comes_elsewhere is_odd_click clicks_in odd_clicks hidden_causes interface_causes platform_causes unlisted_causes static_causes click_causes named_causes strict_causes device_causes package_of constructor_name is_special hides methods_of any_hides is_hidden_by is_hidden hidden_of hidden is_of_objects code_in interface_code is_unlisted unlisted_above unlisted_classes statics_in defined_statics listed_statics is_foreign is_unknown touches is_touching spots_in spots_from static_spots longest_fit has_platform_name is_library_class is_platform_class platform_classes is_among is_listed
device_is_told = record {
  sound_packages = sound_packages;
  sound_shapes = sound_shapes;
  private_below = refl;
  other_package = refl;
  one_package = refl;
  public_above = refl;
  of_private = refl;
  in_interface = refl;
  longest = refl;
  unlisted = refl;
  put = refl;
  own_put = refl;
  clicks = refl;
  protected_seen = refl;
  loose = refl;
  named_elsewhere = refl;
}
