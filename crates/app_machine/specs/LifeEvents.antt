-- The events in the life of each kind of component, as the system calls them.
-- Android documentation: "Application", "The activity lifecycle", "Services overview", "Broadcasts overview".
use Rattle.std.specs.Prelude.{ℕ, List, [], ◌∷◌, codes}
use Rattle.app_machine.specs.declared.component.Kind.{Kind}
use Rattle.app_machine.specs.declared.component.Kind.TheVariants.{Application, Activity, Service, Receiver}
use Rattle.app_machine.specs.Names.{Name}

-- the state before, the method that runs with its descriptor, and the state after
pub record LifeEvent : Type 0 where
  pub from : ℕ
  pub name : Name
  pub descriptor : Name
  pub to : ℕ

abbrev at : ℕ → Name → Name → ℕ → LifeEvent
at from name descriptor to = record { from = from; name = name; descriptor = descriptor; to = to }

-- In each kind 0 is absent and 1 is made. An activity in 2 is created, in 3 started, in 4 resumed, in 5 paused, in 6 stopped
-- and in 7 restarted. An application in 2, and a service in 2, is created.
unfoldable pub life_events : Kind → List LifeEvent
life_events Application =
    at 0 (codes "<init>") (codes "()V") 1
    ∷ at 1 (codes "onCreate") (codes "()V") 2
    ∷ []
life_events Activity =
    at 0 (codes "<init>") (codes "()V") 1
    ∷ at 1 (codes "onCreate") (codes "(Landroid/os/Bundle;)V") 2
    ∷ at 2 (codes "onStart") (codes "()V") 3
    ∷ at 3 (codes "onResume") (codes "()V") 4
    ∷ at 3 (codes "onStop") (codes "()V") 6
    ∷ at 4 (codes "onPause") (codes "()V") 5
    ∷ at 5 (codes "onResume") (codes "()V") 4
    ∷ at 5 (codes "onStop") (codes "()V") 6
    ∷ at 6 (codes "onRestart") (codes "()V") 7
    ∷ at 7 (codes "onStart") (codes "()V") 3
    ∷ at 6 (codes "onDestroy") (codes "()V") 0
    ∷ at 2 (codes "onDestroy") (codes "()V") 0
    ∷ []
life_events Service =
    at 0 (codes "<init>") (codes "()V") 1
    ∷ at 1 (codes "onCreate") (codes "()V") 2
    ∷ at 2 (codes "onStartCommand") (codes "(Landroid/content/Intent;II)I") 2
    ∷ at 2 (codes "onBind") (codes "(Landroid/content/Intent;)Landroid/os/IBinder;") 2
    ∷ at 2 (codes "onUnbind") (codes "(Landroid/content/Intent;)Z") 2
    ∷ at 2 (codes "onRebind") (codes "(Landroid/content/Intent;)V") 2
    ∷ at 2 (codes "onDestroy") (codes "()V") 0
    ∷ []
life_events Receiver =
    at 0 (codes "<init>") (codes "()V") 1
    ∷ at 1 (codes "onReceive") (codes "(Landroid/content/Context;Landroid/content/Intent;)V") 0
    ∷ []
