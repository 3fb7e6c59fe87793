-- What tries without a failure leave: each makes a connection, writes the request and reads the reply.
use Rattle.std.proofs.Common.{◌≡◌, ℕ, suc, ◌<◌, ◌≤◌, ◌⊎◌, List, [], ◌∷◌, ◌++◌, length, map, drop, Option, Some, Result, Ok, Err, IfSome, refl, ap, sym, subst, ◌∙◌, append-nil, append_assoc, arith, inl, inr}
use Rattle.std.specs.List.{AllByRecursion}
use Rattle.std.specs.Option.{option_map}
use Rattle.desk_links.specs.Links.{Talk, Told, ended_with, opened, with_written, without_first}
use Rattle.desk_callers.specs.Dials.{Dialled}
use Rattle.desk_http.specs.Replies.{Wrote}
use Rattle.client_replies.specs.declared.answered.Answered.{Answered}
use Rattle.client_replies.specs.declared.answered.ReplyFault.{ReplyFault}
use Rattle.client_replies.specs.declared.answered.ReplyFault.TheVariants.{Ended, ReadFault, BadReply, TooLong, Memory}
use Rattle.client_replies.specs.Replies.{Answers}
use Rattle.desk_client.specs.declared.one_try.TryFault.{TryFault}
use Rattle.desk_client.specs.declared.one_try.TryFault.TheVariants.{NotDialled, NotWritten, NotAnswered}
use Rattle.desk_client.specs.declared.submission.SubmitFault.{SubmitFault}
use Rattle.desk_client.specs.declared.submission.SubmitFault.TheVariants.{NoReply}
use Rattle.desk_client.specs.Tries.{Moment, Connects, Writes, Reads, IsTry, not_dialled, not_written, not_answered, answered, IsInVain, Ends, Runs, none_left, ended, again}
use Rattle.client_witness.specs.Tries.{written_in}

-- what a try came to, by the bytes of its reply
abbrev pub Gave : List ℕ → Result Answered TryFault → Type 0
Gave reply (Ok answer) = Answers reply (Ok answer)
Gave reply (Err NotDialled) = ⊥
Gave reply (Err NotWritten) = ⊥
Gave reply (Err (NotAnswered fault)) = Answers reply (Err fault) × (fault ≡ ReadFault → ⊥)

-- The whole request was written in a connection more, and this came of its reply.
pub record Makes (request : List ℕ) (t : Told) (d : Moment) (r : Result Answered TryFault) : Type 0 where
  pub u : Told
  pub told : d.told ≡ Some u
  pub written : written_in u ≡ written_in t ++ request ∷ []
  pub reply : List ℕ
  pub first : t.left ≡ reply ∷ u.left
  pub gave : Gave reply r

-- what is told once the next connection was made, the request was written, and some of the reply was read
abbrev tried_once : List ℕ → List ℕ → List (List ℕ) → ℕ → Told → Told
tried_once request reply rest n t = without_first n (with_written request (opened reply rest t))

one_more : (talks : List Talk) (talk : Talk) → map (λ (x : Talk). x.written) (talks ++ talk ∷ []) ≡ map (λ (x : Talk). x.written) talks ++ talk.written ∷ []
one_more [] talk = refl
one_more (x ∷ talks) talk = ap (λ (more : List (List ℕ)). x.written ∷ more) (one_more talks talk)

wrote_it : (request : List ℕ) (b c : Option Told) (t : Told) → b ≡ Some t → Wrote b c request → c ≡ Some (with_written request t)
unfolding Wrote
wrote_it request b c t is wrote = wrote ∙ ap (option_map (with_written request)) is

read_it : (c d : Option Told) (t : Told) (n : ℕ) → c ≡ Some t → d ≡ option_map (without_first n) c → d ≡ Some (without_first n t)
read_it c d t n is took = took ∙ ap (option_map (without_first n)) is

-- what dial, write and read leave
makes_one : (request : List ℕ) (t : Told) (a b c d : Moment) (r : Result Answered ReplyFault) (s : Result Answered TryFault) → a.told ≡ Some t
    → Connects a b → Writes request b c → Reads c d r → ((reply : List ℕ) → Answers reply r → Gave reply s) → Makes request t d s
makes_one request t a b c d r s told connects writes reads gave =
    let dial : Dialled (Some t) b.told (Ok tt) = subst (λ (x : Option Told). Dialled x b.told (Ok tt)) told connects.told in
    let reply = dial.0 in
    let rest = dial.1 in
    let sent = wrote_it request b.told c.told (opened reply rest t) dial.3 writes.told in
    let n = reads.told.0 in
    let came : Answers reply r = subst (λ (x : Option Told). IfSome x (λ told. Answers told.coming r)) sent reads.answer in
    record {
      u = tried_once request reply rest n t;
      told = read_it c.told d.told (with_written request (opened reply rest t)) n sent reads.told.1;
      written = one_more (ended_with t) (record { coming = drop n reply; written = request });
      reply = reply;
      first = dial.2;
      gave = gave reply came;
    }

pub makes : (request : List ℕ) (t : Told) (a d : Moment) (r : Result Answered TryFault) → a.told ≡ Some t → d.faults ≡ 0 → IsTry request a d r → Makes request t d r
makes request t a d r told none (not_dialled dialled risen) = absurd (omega (arith, risen, none))
makes request t a d r told none (not_written b connects breaks) = let risen = breaks.faults in absurd (omega (arith, risen, none))
makes request t a d r told none (not_answered b c fault connects writes reads) =
    makes_one request t a b c d (Err fault) (Err (NotAnswered fault)) told connects writes reads
    (λ reply came. (came, λ is. let risen = reads.cause (ap Err is) in absurd (omega (arith, risen, none))))
makes request t a d r told none (answered b c reply connects writes reads) =
    makes_one request t a b c d (Ok reply) (Ok reply) told connects writes reads (λ bytes came. came)

-- where no call failed at the end, none had before
tried_before : (request : List ℕ) (a d : Moment) (r : Result Answered TryFault) → d.faults ≡ 0 → IsTry request a d r → a.faults ≡ 0
tried_before request a d r none (not_dialled dialled risen) = absurd (omega (arith, risen, none))
tried_before request a d r none (not_written b connects breaks) = let risen = breaks.faults in absurd (omega (arith, risen, none))
tried_before request a d r none (not_answered b c fault connects writes reads) = omega (arith, connects.faults, writes.faults, reads.faults, none)
tried_before request a d r none (answered b c reply connects writes reads) = omega (arith, connects.faults, writes.faults, reads.faults, none)

pub ran_before : (request : List ℕ) (m : ℕ) (a c : Moment) (end : Result Answered SubmitFault) → c.faults ≡ 0 → Runs request m a end c → a.faults ≡ 0
ran_before request m a c end none (none_left p) = none
ran_before request m a c end none (ended n p q r e tried ends) = tried_before request a c r none tried
ran_before request m a c end none (again n p b q r e tried vain run) = tried_before request a b r (ran_before request n b c end none run) tried

-- no try ends a submission without a reply
pub not_by_try : (r : Result Answered TryFault) (end : Result Answered SubmitFault) → Ends r end → end ≡ Err NoReply → ⊥
not_by_try (Ok reply) (Ok end) ends is = cc
not_by_try (Ok reply) (Err fault) ends is = absurd ends
not_by_try (Err NotDialled) end ends is = absurd ends
not_by_try (Err NotWritten) end ends is = absurd ends
not_by_try (Err (NotAnswered Ended)) end ends is = absurd ends
not_by_try (Err (NotAnswered ReadFault)) end ends is = absurd ends
not_by_try (Err (NotAnswered BadReply)) end ends is = absurd ends
not_by_try (Err (NotAnswered TooLong)) end ends is = absurd ends
not_by_try (Err (NotAnswered Memory)) end ends is = cc

-- The request was written in so many connections more.
pub record Went (request : List ℕ) (m : ℕ) (t : Told) (end : Result Answered SubmitFault) (b : Moment) : Type 0 where
  pub u : Told
  pub told : b.told ≡ Some u
  pub more : List (List ℕ)
  pub written : written_in u ≡ written_in t ++ more
  pub same : AllByRecursion (λ (bytes : List ℕ). bytes ≡ request) more
  pub few : length more ≤ m
  pub all : end ≡ Err NoReply → length more ≡ m

pub went : (request : List ℕ) (m : ℕ) (a c : Moment) (end : Result Answered SubmitFault) (t : Told) → a.told ≡ Some t → c.faults ≡ 0 → Runs request m a end c → Went request m t end c
went request m a c end t told none (none_left p) = record {
  u = t;
  told = told;
  more = [];
  written = sym (append-nil (written_in t));
  same = tt;
  few = omega arith;
  all = λ is. refl;
}
went request m a c end t told none (ended n p q r e tried ends) =
    let one = makes request t a c r told none tried in
    record {
      u = one.u;
      told = one.told;
      more = request ∷ [];
      written = one.written;
      same = (refl, tt);
      few = omega arith;
      all = λ is. absurd (not_by_try r end ends is);
    }
went request m a c end t told none (again n p b q r e tried vain run) =
    let one = makes request t a b r told (ran_before request n b c end none run) tried in
    let rest = went request n b c end one.u one.told none run in
    record {
      u = rest.u;
      told = rest.told;
      more = request ∷ rest.more;
      written = rest.written ∙ ap (λ (front : List (List ℕ)). front ++ rest.more) one.written ∙ append_assoc (written_in t) (request ∷ []) rest.more;
      same = (refl, rest.same);
      few = omega (arith, rest.few);
      all = λ is. let those = rest.all is in omega (arith, those);
    }

-- the first try, which ends the submission or not
abbrev pub First : List ℕ → ℕ → Moment → Result Answered SubmitFault → Moment → Type 0
First request m a end c =
    ((r : Result Answered TryFault) × IsTry request a c r × Ends r end)
    ⊎ ((n : ℕ) × (b : Moment) × (r : Result Answered TryFault) × (m ≡ suc n) × IsTry request a b r × IsInVain r × Runs request n b end c)

pub first : (request : List ℕ) (m : ℕ) (a c : Moment) (end : Result Answered SubmitFault) → 0 < m → Runs request m a end c → First request m a end c
first request m a c end some (none_left p) = absurd (omega (arith, some))
first request m a c end some (ended n p q r e tried ends) = inl (r, tried, ends)
first request m a c end some (again n p b q r e tried vain run) = inr (n, b, r, refl, tried, vain, run)
