-- What the code of the calls lists is just what their rules give, and rows lead all that they give.
use Rattle.std.proofs.Common.{◌≡◌, ◌⊎◌, ℕ, List, [], ◌∷◌, Option, Some, None, refl, sym, subst, inl, inr}
use Rattle.std.specs.List.{AllByRecursion}
use Rattle.vet_base.proofs.Every.{each_append}
use Rattle.vet_base.specs.Members.{In}
use Rattle.vet_base.proofs.Members.{each_in, in_front, in_back}
use Rattle.app_machine.specs.declared.method.Step.{Step}
use Rattle.app_machine.specs.declared.lists.Lists.{Lists}
use Rattle.app_machine.specs.declared.app.App.{App}
use Rattle.app_machine.specs.Lookups.{is_by_receiver}
use Rattle.app_machine.specs.State.{result_register, exception_register}
use Rattle.fact_rows.specs.declared.context.Activation.{Activation}
use Rattle.fact_rows.specs.declared.context.Node.{Node}
use Rattle.fact_rows.specs.declared.site.Site.{Site}
use Rattle.fact_rows.specs.declared.row.Row.{Row}
use Rattle.fact_rows.specs.declared.row.Row.TheVariants as fact
use Rattle.flow_rules.specs.LocalRules.{returning, throwing}
use Rattle.flow_rules.specs.Nodes.{at_pc, callee}
use Rattle.flow_rules.specs.Rules.{Each}
use Rattle.rule_ground.specs.declared.conclusion.Conclusion.{Conclusion}
use Rattle.rule_ground.specs.declared.key.Key.{Key}
use Rattle.rule_ground.specs.Given.{of_one, of_two, concludes}
use Rattle.rule_ground.specs.Hits.{IsHits}
use Rattle.rule_ground.specs.Exact.{IsSound, IsListed, IsJust, IsLed}
use Rattle.rule_ground.specs.Leading.{HasLead, HasLeader, led_by_ones}
use Rattle.rule_ground.specs.Listing.{here, only, either}
use Rattle.call_rules.specs.Initialised.{passes}
use Rattle.register_readers.specs.Readings.{Readings}
use Rattle.cell_rules.specs.CallRules.{CallRule, enter_receiver, pass_points, pass_label, returned_points, returned_label, caught_points, caught_label, unwound_label}
use Rattle.cell_rules.specs.Reading.{node_in}
use Rattle.cell_ground.specs.declared.content.Content.{Content}
use Rattle.cell_ground.specs.declared.content.Content.TheVariants.{Object, Label}
use Rattle.cell_ground.specs.Coming.{held, leaves}
use Rattle.cell_ground.specs.Ready.{Ready}
use Rattle.cell_ground.specs.Steps.{step_here}
use Rattle.cell_call_rules.specs.CellCallGiven.{received_on, content_on, cell_call_given, cell_call_leads}
use Rattle.cell_call_rules.specs.CellExitGiven.{left, exits_taken}
use Rattle.cell_call_rules.specs.CellPassGiven.{received, content_passed}
use Rattle.cell_call_rules.specs.exact.ExitExact.{exit_sound, exits_sound, returned_in, caught_in, unwound_in, exit_complete, taken_complete}
use Rattle.cell_call_rules.specs.exact.PassExact.{received_sound, content_sound, calls_sound, receiver_complete, call_complete, content_complete}

module _ (app : App) (readings : Readings) (lists : Lists) (ready : Ready app readings) (has : Row → Type 0) (hits : Key → List Row) (law : (k : Key) → IsHits has k (hits k)) where
  abbrev given : Row → List Conclusion
  given row = cell_call_given app readings lists hits row

  abbrev led : Row → List Conclusion
  led row = cell_call_leads app readings lists hits row

  abbrev Sound : Row → Conclusion → Type 0
  Sound row = IsSound (CallRule app lists) has row

  receiver_sound : (n : Node) (x : ℕ) (s : Site) → has (fact.Points n x s) → (o : Option Step) → step_here app n ≡ o →
      AllByRecursion (Sound (fact.Points n x s)) (received_on app readings lists n x s o)
  receiver_sound n x s h None e = tt
  receiver_sound n x s h (Some step) e = received_sound app readings ready lists has hits law n step e x s h step.act refl

  held_sound : (v : Content) (n : Node) (x : ℕ) → has (held v n x) → (o : Option Step) → step_here app n ≡ o →
      AllByRecursion (Sound (held v n x)) (content_on app readings hits n x v o)
  held_sound v n x h None e = tt
  held_sound v n x h (Some step) e = content_sound app readings ready lists has hits law n step e v x h step.act refl

  call_sound : (row : Row) → has row → AllByRecursion (Sound row) (given row)
  call_sound (fact.Points n x s) h =
      each_append (Sound (fact.Points n x s)) (received_on app readings lists n x s (step_here app n)) (content_on app readings hits n x (Object s) (step_here app n))
      (receiver_sound n x s h (step_here app n) refl) (held_sound (Object s) n x h (step_here app n) refl)
  call_sound (fact.Label n x l) h = held_sound (Label l) n x h (step_here app n) refl
  call_sound (fact.Calls n b) h = calls_sound app readings ready lists has hits law n b h (step_here app n) refl
  call_sound (fact.CalledBy b n) h =
      each_append (Sound (fact.CalledBy b n)) (exits_taken app readings hits b n returning) (exits_taken app readings hits b n throwing)
      (exits_sound app readings ready lists has hits law b n returning h) (exits_sound app readings ready lists has hits law b n throwing h)
  call_sound (fact.ExitPoints b how s) h = exit_sound app readings ready lists has hits law (Object s) b how h
  call_sound (fact.ExitLabel b how l) h = exit_sound app readings ready lists has hits law (Label l) b how h
  call_sound _ h = tt

  -- what leaves the activation is led by that row, and listed of the call too
  exit_led : (v : Content) (b : Activation) (how : ℕ) (n : Node) (rule : ℕ) (x : Row) → has (fact.CalledBy b n) →
      In (concludes rule (of_two (leaves v b how) (fact.CalledBy b n)) x) (left app readings b how v n) →
      IsListed (led (leaves v b how)) rule (leaves v b how ∷ fact.CalledBy b n ∷ []) x
  exit_led (Object s) b how n rule x k i =
      let both = of_two (fact.ExitPoints b how s) (fact.CalledBy b n) in
      here led (fact.ExitPoints b how s) rule both x (exit_complete app readings ready lists has hits law (Object s) b how n (concludes rule both x) k i)
  exit_led (Label l) b how n rule x k i =
      let both = of_two (fact.ExitLabel b how l) (fact.CalledBy b n) in
      here led (fact.ExitLabel b how l) rule both x (exit_complete app readings ready lists has hits law (Label l) b how n (concludes rule both x) k i)

  exit_given : (v : Content) (b : Activation) (how : ℕ) → (c : Conclusion) → In c (led (leaves v b how)) → In c (given (leaves v b how))
  exit_given (Object s) b how c i = i
  exit_given (Label l) b how c i = i

  leaves_listed : (v : Content) (b : Activation) (how : ℕ) (n : Node) (rule : ℕ) (x row : Row) → In row (leaves v b how ∷ fact.CalledBy b n ∷ []) →
      Each has (leaves v b how ∷ fact.CalledBy b n ∷ []) →
      ((c : Conclusion) → In c (exits_taken app readings hits b n how) → In c (given (fact.CalledBy b n))) →
      In (concludes rule (of_two (leaves v b how) (fact.CalledBy b n)) x) (left app readings b how v n) →
      IsListed (given row) rule (leaves v b how ∷ fact.CalledBy b n ∷ []) x
  leaves_listed v b how n rule x row u k part i =
      let both = of_two (leaves v b how) (fact.CalledBy b n) in
      let c = concludes rule both x in
      let own = exit_led v b how n rule x k.1.0 i in
      either given _ _ _ u (own.0, exit_given v b how own.0 own.1, own.2)
      (here given (fact.CalledBy b n) rule both x (part c (taken_complete app readings ready lists has hits law v b how n c k.0 i)))

  part_returned : (b : Activation) (n : Node) (c : Conclusion) → In c (exits_taken app readings hits b n returning) → In c (given (fact.CalledBy b n))
  part_returned b n c i = in_front c (exits_taken app readings hits b n returning) (exits_taken app readings hits b n throwing) i

  part_thrown : (b : Activation) (n : Node) (c : Conclusion) → In c (exits_taken app readings hits b n throwing) → In c (given (fact.CalledBy b n))
  part_thrown b n c i = in_back c (exits_taken app readings hits b n returning) (exits_taken app readings hits b n throwing) i

  -- the parts of what a register's object gives
  at_receiver : (n : Node) (y : ℕ) (s : Site) (step : Step) → step_here app n ≡ Some step → (c : Conclusion) →
      In c (received app readings lists n y s step.act) → In c (led (fact.Points n y s))
  at_receiver n y s step there c i = subst (λ o. In c (received_on app readings lists n y s o)) (sym there) i

  at_content : (v : Content) (n : Node) (y : ℕ) (step : Step) → step_here app n ≡ Some step → (c : Conclusion) →
      In c (content_passed app readings hits n y v step.act) → In c (given (held v n y))
  at_content (Object s) n y step there c i =
      in_back c (received_on app readings lists n y s (step_here app n)) (content_on app readings hits n y (Object s) (step_here app n))
      (subst (λ o. In c (content_on app readings hits n y (Object s) o)) (sym there) i)
  at_content (Label l) n y step there c i = subst (λ o. In c (content_on app readings hits n y (Label l) o)) (sym there) i

  received_given : (n : Node) (y : ℕ) (s : Site) (c : Conclusion) → In c (led (fact.Points n y s)) → In c (given (fact.Points n y s))
  received_given n y s c i = in_front c (received_on app readings lists n y s (step_here app n)) (content_on app readings hits n y (Object s) (step_here app n)) i

  call_complete_row : (row : Row) (rule : ℕ) (premises : List Row) (x : Row) → CallRule app lists rule premises x → Each has premises →
      In row premises → IsListed (given row) rule premises x
  call_complete_row row rule premises x (enter_receiver {n = n} {kind = kind} {at = at} {args = args} {x = y} {z = z} {body = body} {u = v} {s = s} {class = class} h f place is to takes read) k u =
      let holds_it = fact.Points (node_in (callee n body) v) z s in
      only given _ _ _ u (here given (fact.Points n y s) 23 (of_one (fact.Points n y s)) holds_it
      (received_given n y s (concludes 23 (of_one (fact.Points n y s)) holds_it) (at_receiver n y s h.step h.there (concludes 23 (of_one (fact.Points n y s)) holds_it)
      (receiver_complete app readings ready lists has hits law n kind at args h y s class f place is body z v to takes read))))
  call_complete_row row rule premises x (pass_points {n = n} {kind = kind} {at = at} {args = args} {x = y} {z = z} {u = v} i {b = b} {s = s} h place may none takes read) k u =
      let t = passes (is_by_receiver kind) i may in
      let both = of_two (fact.Calls n b) (fact.Points n y s) in
      let holds_it = fact.Points (node_in b v) z s in
      either given _ _ _ u
      (here given (fact.Calls n b) 24 both holds_it
      (call_complete app readings ready lists has hits law n b kind at args i y z v h place none takes read (Object s) t k.1.0))
      (here given (fact.Points n y s) 24 both holds_it (at_content (Object s) n y h.step h.there (concludes 24 both holds_it)
      (content_complete app readings ready lists has hits law n b kind at args i y z v h place none takes read (Object s) t k.0)))
  call_complete_row row rule premises x (pass_label {n = n} {kind = kind} {at = at} {args = args} {x = y} {z = z} {l = l} {u = v} i {b = b} h place none takes read) k u =
      let both = of_two (fact.Calls n b) (fact.Label n y l) in
      let has_it = fact.Label (node_in b v) z l in
      either given _ _ _ u
      (here given (fact.Calls n b) 24 both has_it
      (call_complete app readings ready lists has hits law n b kind at args i y z v h place none takes read (Label l) refl k.1.0))
      (here given (fact.Label n y l) 24 both has_it (at_content (Label l) n y h.step h.there (concludes 24 both has_it)
      (content_complete app readings ready lists has hits law n b kind at args i y z v h place none takes read (Label l) refl k.0)))
  call_complete_row row rule premises x (returned_points {n = n} {pc = pc} {u = v} {b = b} {s = s} g read) k u =
      leaves_listed (Object s) b returning n 25 (fact.Points (at_pc n v) result_register s) row u k (part_returned b n) (returned_in app readings ready lists has hits law (Object s) b n pc v g read)
  call_complete_row row rule premises x (returned_label {n = n} {pc = pc} {l = l} {u = v} {b = b} g read) k u =
      leaves_listed (Label l) b returning n 25 (fact.Label (at_pc n v) result_register l) row u k (part_returned b n) (returned_in app readings ready lists has hits law (Label l) b n pc v g read)
  call_complete_row row rule premises x (caught_points {n = n} {pc = pc} {u = v} {b = b} {s = s} g read) k u =
      leaves_listed (Object s) b throwing n 26 (fact.Points (at_pc n v) exception_register s) row u k (part_thrown b n) (caught_in app readings ready lists has hits law (Object s) b n pc v g read)
  call_complete_row row rule premises x (caught_label {n = n} {pc = pc} {l = l} {u = v} {b = b} g read) k u =
      leaves_listed (Label l) b throwing n 26 (fact.Label (at_pc n v) exception_register l) row u k (part_thrown b n) (caught_in app readings ready lists has hits law (Label l) b n pc v g read)
  call_complete_row row rule premises x (unwound_label {n = n} {l = l} {b = b}) k u =
      leaves_listed (Label l) b throwing n 26 (fact.ExitLabel n.by throwing l) row u k (part_thrown b n) (unwound_in app readings ready lists has hits law l b n)

  pub cell_calls_exact : (row : Row) → has row → IsJust (CallRule app lists) has row (given row)
  cell_calls_exact row there = record {
    sound = λ c i. each_in (IsSound (CallRule app lists) has row) (given row) c (call_sound row there) i;
    complete = λ rule premises x f. call_complete_row row rule premises x f.by f.known f.uses;
  }

  -- what rows lead is part of what they give
  led_given : (row : Row) (c : Conclusion) → In c (led row) → In c (given row)
  led_given (fact.Points n x s) c i = received_given n x s c i
  led_given (fact.Calls n b) c i = i
  led_given (fact.ExitPoints b how s) c i = i
  led_given (fact.ExitLabel b how l) c i = i
  led_given _ c i = absurd i

  leader : (rule : ℕ) (premises : List Row) (x : Row) → CallRule app lists rule premises x → Each has premises →
      HasLeader has given led premises ⊎ HasLead has led rule premises x
  leader rule premises x (enter_receiver {n = n} {kind = kind} {at = at} {args = args} {x = y} {z = z} {body = body} {u = v} {s = s} {class = class} h f place is to takes read) k =
      let holds_it = fact.Points (node_in (callee n body) v) z s in
      inr (
        fact.Points n y s,
        (
          k.0,
          here led (fact.Points n y s) 23 (of_one (fact.Points n y s)) holds_it
              (at_receiver n y s h.step h.there (concludes 23 (of_one (fact.Points n y s)) holds_it)
              (receiver_complete app readings ready lists has hits law n kind at args h y s class f place is body z v to takes read)),
        ),
      )
  leader rule premises x (pass_points {n = n} i {b = b} h place may none takes read) k = inl (fact.Calls n b, (k.0, (inl refl, refl)))
  leader rule premises x (pass_label {n = n} i {b = b} h place none takes read) k = inl (fact.Calls n b, (k.0, (inl refl, refl)))
  leader rule premises x (returned_points {b = b} {s = s} g read) k = inl (fact.ExitPoints b returning s, (k.0, (inl refl, refl)))
  leader rule premises x (returned_label {l = l} {b = b} g read) k = inl (fact.ExitLabel b returning l, (k.0, (inl refl, refl)))
  leader rule premises x (caught_points {b = b} {s = s} g read) k = inl (fact.ExitPoints b throwing s, (k.0, (inl refl, refl)))
  leader rule premises x (caught_label {l = l} {b = b} g read) k = inl (fact.ExitLabel b throwing l, (k.0, (inl refl, refl)))
  leader rule premises x (unwound_label {l = l} {b = b}) k = inl (fact.ExitLabel b throwing l, (k.0, (inl refl, refl)))

  pub cell_calls_led : IsLed (CallRule app lists) has led
  cell_calls_led = led_by_ones (CallRule app lists) has given cell_calls_exact led led_given leader
