use Rattle.std.proofs.Common.{◌≡◌, ℕ, List, ◌++◌, Ok, Err, take, drop, ap, subst, ◌∙◌, refl}
use Rattle.client_replies.specs.Replies.{AnswersHead}
use Rattle.desk_http.proofs.Coming.{takes_some, takes_body}
use Rattle.client_replies.proofs.Answering.{head_stops, head_refused, has_head, body_stops, reply_came}
use Rattle.client_replies.proofs.reply.read_reply.Goals as goal

pub returns-in-Err-clause-answer : goal.returns-in-Err-clause-answer
returns-in-Err-clause-answer g c =
    head_stops (g.L.Link.told c.args.link.now) (g.L.Link.told c.read_head.new.link) c.read_head.new.bytes.items c.in-Err.fault c.read_head.ensures.takes
    (λ is. c.in-Err.ensures.ended (ap Err is)) (λ is. c.in-Err.ensures.big (ap Err is)) c.in-Err.ensures.other

pub returns-in-Err-clause-taken : goal.returns-in-Err-clause-taken
returns-in-Err-clause-taken g c =
    takes_some (g.L.Link.told c.args.link.now) (g.L.Link.told c.read_head.new.link) c.read_head.new.bytes.items c.read_head.ensures.takes

pub returns-in-Err-head_of-clause-answer : goal.returns-in-Err-head_of-clause-answer
returns-in-Err-head_of-clause-answer g c =
    let bytes = c.read_head.new.bytes.items in
    let ended = c.in-Ok.ensures.ok in
    let refused = subst (λ (xs : List ℕ). AnswersHead xs (Err c.in-Err-head_of.fault)) (ap (take c.in-Ok.end) c.deref.ensures.value) c.in-Err-head_of.ensures in
    head_refused (g.L.Link.told c.args.link.now) (g.L.Link.told c.read_head.new.link) bytes c.in-Ok.end c.in-Err-head_of.fault c.read_head.ensures.takes ended.0 ended.1 refused

pub returns-in-Err-head_of-clause-taken : goal.returns-in-Err-head_of-clause-taken
returns-in-Err-head_of-clause-taken g c =
    takes_some (g.L.Link.told c.args.link.now) (g.L.Link.told c.read_head.new.link) c.read_head.new.bytes.items c.read_head.ensures.takes

pub returns-in_err-body-clause-taken : goal.returns-in_err-body-clause-taken
returns-in_err-body-clause-taken g c =
    takes_some (g.L.Link.told c.args.link.now) (g.L.Link.told c.read_head.new.link) c.read_head.new.bytes.items c.read_head.ensures.takes

pub returns-in-Err-read_body-clause-answer : goal.returns-in-Err-read_body-clause-answer
returns-in-Err-read_body-clause-answer g c =
    let bytes = c.read_head.new.bytes.items in
    let end = c.in-Ok.end in
    let said = c.in-Ok-head_of.head in
    let ended = c.in-Ok.ensures.ok in
    let answer = subst (λ (xs : List ℕ). AnswersHead xs (Ok said)) (ap (take end) c.deref.ensures.value) c.in-Ok-head_of.ensures in
    let copied : c.in_ok-body.body.items ≡ drop end bytes = c.in_ok-body.ensures.ok ∙ ap (drop end) c.deref-2.ensures.value in
    let takes = takes_body (g.L.Link.told c.args.link.now) (g.L.Link.told c.read_head.new.link) (g.L.Link.told c.read_body.new.link) bytes c.in_ok-body.body.items c.read_body.new.body.items end copied c.read_head.ensures.takes c.read_body.ensures.takes in
    body_stops (g.L.Link.told c.args.link.now) (g.L.Link.told c.read_body.new.link) (take end bytes) c.read_body.new.body.items said c.in-Err-read_body.fault
    (has_head bytes end said ended.0 ended.1 answer) takes (λ is. c.in-Err-read_body.ensures.ended (ap Err is)) c.in-Err-read_body.ensures.other

pub returns-in-Err-read_body-clause-taken : goal.returns-in-Err-read_body-clause-taken
returns-in-Err-read_body-clause-taken g c =
    let bytes = c.read_head.new.bytes.items in
    let end = c.in-Ok.end in
    let copied : c.in_ok-body.body.items ≡ drop end bytes = c.in_ok-body.ensures.ok ∙ ap (drop end) c.deref-2.ensures.value in
    takes_some (g.L.Link.told c.args.link.now) (g.L.Link.told c.read_body.new.link) (take end bytes ++ c.read_body.new.body.items)
    (takes_body (g.L.Link.told c.args.link.now) (g.L.Link.told c.read_head.new.link) (g.L.Link.told c.read_body.new.link) bytes c.in_ok-body.body.items c.read_body.new.body.items end copied c.read_head.ensures.takes c.read_body.ensures.takes)

pub returns-clause-answer : goal.returns-clause-answer
returns-clause-answer g c =
    let bytes = c.read_head.new.bytes.items in
    let end = c.in-Ok.end in
    let said = c.in-Ok-head_of.head in
    let ended = c.in-Ok.ensures.ok in
    let answer = subst (λ (xs : List ℕ). AnswersHead xs (Ok said)) (ap (take end) c.deref.ensures.value) c.in-Ok-head_of.ensures in
    let copied : c.in_ok-body.body.items ≡ drop end bytes = c.in_ok-body.ensures.ok ∙ ap (drop end) c.deref-2.ensures.value in
    let takes = takes_body (g.L.Link.told c.args.link.now) (g.L.Link.told c.read_head.new.link) (g.L.Link.told c.read_body.new.link) bytes c.in_ok-body.body.items c.read_body.new.body.items end copied c.read_head.ensures.takes c.read_body.ensures.takes in
    reply_came (g.L.Link.told c.args.link.now) (g.L.Link.told c.read_body.new.link) (take end bytes) c.read_body.new.body.items said _
    (has_head bytes end said ended.0 ended.1 answer) takes c.in_default.ensures.ok refl c.truncate.ensures.items

pub returns-clause-taken : goal.returns-clause-taken
returns-clause-taken g c =
    let bytes = c.read_head.new.bytes.items in
    let end = c.in-Ok.end in
    let copied : c.in_ok-body.body.items ≡ drop end bytes = c.in_ok-body.ensures.ok ∙ ap (drop end) c.deref-2.ensures.value in
    takes_some (g.L.Link.told c.args.link.now) (g.L.Link.told c.read_body.new.link) (take end bytes ++ c.read_body.new.body.items)
    (takes_body (g.L.Link.told c.args.link.now) (g.L.Link.told c.read_head.new.link) (g.L.Link.told c.read_body.new.link) bytes c.in_ok-body.body.items c.read_body.new.body.items end copied c.read_head.ensures.takes c.read_body.ensures.takes)
