-- What look-ups find in the small apps.
use Rattle.std.proofs.Common.{◌≡◌, [], None, refl}
use Rattle.std.specs.Prelude.{IsFalse}
use Rattle.app_machine.specs.declared.method.Act.TheVariants.{Call}
use Rattle.app_machine.specs.declared.call.CallKind.TheVariants.{Static}
use Rattle.app_machine.specs.Lookups.{Body, ActAt, IsNative, target, superclass_of_caller, find_body, up, method_of, class_named, is_by_receiver, step_at}
use Rattle.app_machine.specs.Calls.{by_name}
use Rattle.app_machine.specs.Safe.{native_call}
use Rattle.machine_witness.specs.Apps.{native_app, StandsAtNative, family, CallsGoUpward, jni}

pub calls_go_upward : CallsGoUpward
unfolding family target superclass_of_caller find_body up method_of class_named
calls_go_upward = record { by_super = refl; by_receiver = refl; to_library = refl; by_class_of_object = refl }

at_jni : ActAt native_app 1 0 (Call Static jni [])
unfolding native_app step_at
at_jni = record { step = _; there = refl; same = refl }

goes_to_jni : target native_app Static 1 jni None ≡ Body 0
unfolding native_app target find_body up method_of class_named
goes_to_jni = refl

plain : IsFalse (is_by_receiver Static)
unfolding is_by_receiver
plain = refl

jni_is_native : IsNative native_app 0
unfolding native_app
jni_is_native = record { method = _; there = refl; native = refl }

pub stands_at_native : StandsAtNative
stands_at_native w registers initialises fs = native_call at_jni (by_name plain goes_to_jni) jni_is_native
