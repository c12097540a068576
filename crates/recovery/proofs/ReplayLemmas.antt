-- The handler ran on a message that is replayed
use Rattle.std.proofs.Common.{◌≡◌, ◌≢◌, ℕ, zero, suc, ◌+◌, ◌-◌, ◌<◌, ◌≤◌, List, [], ◌∷◌, ◌++◌, length, map, take, get_or, true, false, refl, sym, ap, ◌∙◌, subst, arith}
use Rattle.std.specs.Prelude.{Option, Some, None, slice_get, nat_le, nat_lt, if◌then◌else◌}
use Rattle.std.proofs.lemmas.Bool.Decides.{nat_tests}
use Rattle.std.proofs.lemmas.List.{length-take, length-drop, length-map, take_more, get_or-drop, take-append-le, take_all}
use Rattle.packets.specs.declared.packet.NodePacket.{NodePacket}
use Rattle.world.specs.declared.message.Message.{Message}
use Rattle.world.specs.History.{count_of}
use Rattle.world.specs.Phases.{Phase, Replaying}
use Rattle.world.specs.World.{put}
use Rattle.world.specs.Logs.{sent_in_all}
use Rattle.world.specs.Calls.{phase_with, peers, released_with}
use Rattle.theorems.proofs.Changes.{at-itself}
use Rattle.cluster.specs.Cluster.{Cluster}
use Rattle.cluster.specs.Rules.{Replays, May, goes_on}
use Rattle.cluster.specs.Overlap.{Acts, goes}
use Rattle.node.specs.declared.job.OpenJob.{OpenJob}
use Rattle.node.specs.declared.job.Given.{Given}
use Rattle.packets.specs.Outbox.{Pops}
use Rattle.node.specs.Node.{log_at, given_to}
use Rattle.node.specs.Stands.{Each, KeepsOf, job_of, sent_by}
use Rattle.node.proofs.Commits.{logs-more}
use Rattle.recovery.proofs.Holds.{held-more, grown-more}
use Rattle.recovery.specs.Own.{ran, MayGive}
use Rattle.recovery.specs.Collection.{TheCollecting}
use Rattle.recovery.specs.Stands.{HasOwn, IsHeldBack, IsSent, GoesTo, Takes as CollectingTakes}
use Rattle.recovery.specs.Replays.{TheReplaying, next_job, next_number, is_over, did_replay}
use Rattle.recovery.specs.StandsAtReplay.{StandsReplaying, AnswersAfter, Handles, Owes, Takes, Ends, phase_of, replayed_of}
use Rattle.cluster.proofs.Goes.{goes-self, goes-act}
use Rattle.recovery.proofs.Moments.{AtReplaying, by-cluster}
use Rattle.recovery.proofs.Posts.{outs-still, replaying-out, collecting-out}

get-inside : {X : Type 0} (xs : List X) (i : ℕ) (x : X) → slice_get xs i ≡ Some x → i < length xs
get-inside [] i x e = absurd (cc)
get-inside (y ∷ xs) zero x e = omega arith
get-inside (y ∷ xs) (suc i) x e = let l : i < length xs = get-inside xs i x e in omega (arith, l)

get-mapped : (jobs : List OpenJob) (i : ℕ) (j : OpenJob) (d : Message) → slice_get jobs i ≡ Some j → get_or (map job_of jobs) i d ≡ job_of j
get-mapped [] i j d e = absurd (cc)
get-mapped (x ∷ jobs) zero j d e = let same : x ≡ j = (cc) in ap job_of same
get-mapped (x ∷ jobs) (suc i) j d e = get-mapped jobs i j d e

-- where some are left, one is next
pub get-some : {X : Type 0} (xs : List X) (i : ℕ) → i < length xs → (x : X) × (slice_get xs i ≡ Some x)
get-some [] i l = absurd (omega (arith, l))
get-some (x ∷ xs) zero l = (x, refl)
get-some (x ∷ xs) (suc i) l = get-some xs i (omega (arith, l))

pub did-next : (n : TheReplaying) (state : List ℕ) (given : List Given) → n.done < length n.plan → did_replay state given (next_job n) n ≡ record n { own = ran (next_number n) state given n.own; done = n.done + 1 }
did-next n state given l = let next = get-some n.plan n.done l in ap (λ (o : Option OpenJob). did_replay state given o n) next.1

-- it keeps so many messages
pub long : (n : TheReplaying) (c : Cluster) (p : ℕ) → StandsReplaying n c p → length (c.world.history p) ≡ n.own.base + length n.plan
long n c p s =
    let behind : length (c.world.history p) - n.own.base ≡ length n.plan = sym (length-drop n.own.base (c.world.history p)) ∙ ap length s.behind ∙ length-map n.plan job_of in
    let taken : length (take (n.own.base + n.done) (c.world.history p)) ≤ length (c.world.history p) = omega (arith, length-take (n.own.base + n.done) (c.world.history p)) in
    omega (arith, behind, taken, s.own.many)

module _ (n : TheReplaying) (c : Cluster) (j : OpenJob) (state : List ℕ) (given : List Given) (s : StandsReplaying n c n.own.me) (at : slice_get n.plan n.done ≡ Some j) (inside : (i : ℕ) (g : Given) → slice_get given i ≡ Some g → g.to < length n.own.logs)
    (answers : AnswersAfter c.world.handlers n.own.me (take (n.own.base + n.done) (c.world.history n.own.me)) (job_of j) state given) where
  abbrev me : ℕ
  me = n.own.me

  abbrev base : ℕ
  base = n.own.base

  abbrev h : List Message
  h = take (base + n.done) (c.world.history me)

  abbrev more : TheReplaying
  more = record n { own = ran (next_number n) state given n.own; done = n.done + 1 }

  abbrev others : List ℕ
  others = peers c.world me false

  left : n.done < length n.plan
  left = get-inside n.plan n.done j at

  open_is : nat_le (length n.plan) n.done ≡ false
  open_is = let l : n.done < length n.plan = left in grind (arith, nat_tests)

  may : May c (Replays me n.done)
  may = (s.own.inside, s.stage, s.phase ∙ rw open_is refl)

  -- the messages that are replayed then
  next-is : take (base + (n.done + 1)) (c.world.history me) ≡ h ++ job_of j ∷ []
  next-is =
      let one : base + (n.done + 1) ≡ base + n.done + 1 = omega arith in
      let there : base + n.done < length (c.world.history me) = omega (arith, long n c me s, left) in
      let got : get_or (c.world.history me) (base + n.done) (job_of j) ≡ job_of j = sym (get_or-drop base (c.world.history me) n.done (job_of j)) ∙ ap (λ (z : List Message). get_or z n.done (job_of j)) s.behind ∙ get-mapped n.plan n.done j (job_of j) at in
      ap (λ z. take z (c.world.history me)) one ∙ take_more (c.world.history me) (base + n.done) (job_of j) there ∙ ap (λ z. h ++ z ∷ []) got

  logs-ran : (d : ℕ) → d ≤ c.world.count → d ≢ me → KeepsOf (log_at (given_to (next_number n) given n.own.logs) d) (c.world.trims me d) (c.world.handlers.sends me (h ++ job_of j ∷ []) d) (c.world.numbers me d)
  logs-ran d l o =
      subst (λ xs. KeepsOf (log_at (given_to (next_number n) given n.own.logs) d) (c.world.trims me d) xs (c.world.numbers me d)) (sym (answers.sends_are d))
      (logs-more n.own.logs d (c.world.trims me d) (c.world.handlers.sends me h d) (c.world.numbers me d) (next_number n) given inside (s.own.logs d l o))

  -- what the handler gave waits for a number behind those that the checkpoint covers
  held-ran : (d : ℕ) → d ≤ c.world.count → d ≢ me → IsHeldBack (log_at (given_to (next_number n) given n.own.logs) d) (length (h ++ job_of j ∷ [])) base (sent_by c.world.handlers me (h ++ job_of j ∷ []) d)
  held-ran d l o =
      held-more c.world.handlers me h (job_of j) n.own.logs d base (c.world.trims me d) (c.world.numbers me d) (next_number n) given s.own.many h-short inside (answers.sends_are d) (s.own.logs d l o) (s.own.held d l o)
    where
      h-short : length h < next_number n
      h-short = omega (arith, length-take (base + n.done) (c.world.history me))

  grown-ran : (d : ℕ) → sent_by c.world.handlers me (h ++ job_of j ∷ []) d base ≤ length (c.world.handlers.sends me (h ++ job_of j ∷ []) d)
  grown-ran d = grown-more c.world.handlers me h (job_of j) d base given s.own.many (answers.sends_are d) (s.own.grown d)

  -- it stands, whatever it does next and releases
  module _ (ph : ℕ → Phase) (rel : ℕ → ℕ → ℕ) (phase-is : ph me ≡ phase_of more others) (shut-is : is_over more ≡ false → (e : ℕ) → rel me e ≡ 0) (released-is : is_over more ≡ true → others ≡ [] → (e : ℕ) → rel me e ≡ sent_in_all c.world me e) where
    stands-ran : StandsReplaying more (record c { world = record c.world { phase = ph; released = rel } }) me
    stands-ran =
        record {
          stage = s.stage;
          greeted = s.greeted;
          phase = phase-is;
          life = s.life;
          own = (let P : List Message → Type 0 = λ z. HasOwn more.own (record c { world = record c.world { phase = ph; released = rel } }) me z (c.world.trims me) (c.world.numbers me) in
              subst P (sym next-is) (record {
                me = refl;
                count = s.own.count;
                inside = s.own.inside;
                saved = s.own.saved;
                many = (let l : base ≤ length h = s.own.many in omega (arith, l, length-more h (job_of j)));
                state = answers.state_is;
                covered = λ q l. s.own.covered q l ∙ ap (count_of q) (sym (take-append-le base h (job_of j ∷ []) s.own.many));
                logs = logs-ran;
                held = held-ran;
                grown = grown-ran;
                heard = s.own.heard;
                durable = s.own.durable;
                exact = s.own.exact;
                lost = s.own.lost;
                sure = s.own.sure;
                greets = s.own.greets;
                out = outs-still c (record c { world = record c.world { phase = ph; released = rel } }) me n.own.out refl (λ x i. i) (λ f i. i) s.own.out;
              }));
          behind = s.behind;
          received = s.received;
          acknowledged = s.acknowledged;
          numbers = s.numbers;
          resumed = s.resumed;
          restoring = s.restoring;
          shut = shut-is;
          released = released-is;
        }
      where
        length-more : (xs : List Message) (x : Message) → length xs ≤ length (xs ++ x ∷ [])
        length-more [] x = omega arith
        length-more (y ∷ xs) x = let l : length xs ≤ length (xs ++ x ∷ []) = length-more xs x in omega (arith, l)

  -- some are left
  stands-some : nat_lt (c.world.saved me + suc n.done) (length (c.world.history me)) ≡ true → StandsReplaying more (record c { world = record c.world { phase = put c.world.phase me (Replaying (suc n.done) false false) } }) me
  stands-some e =
      let some : nat_le (length n.plan) (n.done + 1) ≡ false = (let saved : c.world.saved me ≡ base = s.own.saved in let many = long n c me s in grind (arith, nat_tests)) in
      let one : suc n.done ≡ n.done + 1 = omega arith in
      stands-ran (put c.world.phase me (Replaying (suc n.done) false false)) c.world.released
      (at-itself me (λ b. (if b then Replaying (suc n.done) false false else c.world.phase me) ≡ phase_of more others) (rw some (ap (λ z. Replaying z false false) one)))
      (λ f d. s.shut open_is d)
      (λ f g d. absurd (cc (some, f)))

  -- that was the last one
  stands-last : nat_lt (c.world.saved me + suc n.done) (length (c.world.history me)) ≡ false → StandsReplaying more (goes_on c me others) me
  stands-last e =
      let none : nat_le (length n.plan) (n.done + 1) ≡ true = (let saved : c.world.saved me ≡ base = s.own.saved in let many = long n c me s in grind (arith, nat_tests)) in
      stands-ran (put c.world.phase me (phase_with others)) (put c.world.released me (released_with c.world me others))
      (at-itself me (λ b. (if b then phase_with others else c.world.phase me) ≡ phase_of more others) (rw none refl))
      (λ f d. absurd (cc (none, f)))
      (λ f g d. at-itself me (λ b. (if b then released_with c.world me others else c.world.released me) d ≡ sent_in_all c.world me d) (ap (λ (z : List ℕ). released_with c.world me z d) g))

  stands-next : StandsReplaying more (goes c (Acts true (Replays me n.done))) me
  stands-next = by-cluster (λ d. AtReplaying more me (record d { exact = c.exact; lost = c.lost; said = c.said })) (nat_lt (c.world.saved me + suc n.done) (length (c.world.history me))) (record c { world = record c.world { phase = put c.world.phase me (Replaying (suc n.done) false false) } }) (goes_on c me others) stands-some stands-last

  goes-replayed : GoesTo n.own.exact me (AtReplaying more me) c
  goes-replayed = goes-act n.own.exact me (AtReplaying more me) c (Replays me n.done) may tt tt refl stands-next

-- what a handler gives has a log
given-inside : (n : TheReplaying) (given : List Given) → length n.own.logs ≡ suc n.own.count → MayGive n.own given → (i : ℕ) (g : Given) → slice_get given i ≡ Some g → g.to < length n.own.logs
given-inside n given wide may i g e = omega (arith, wide, (may.others i g e).0)

pub replays-so : (n : TheReplaying) (state : List ℕ) (given : List Given) → length n.own.logs ≡ suc n.own.count → MayGive n.own given → Owes (Handles state given n) n (did_replay state given (next_job n) n)
replays-so n state given wide may c s answers = by-job (next_job n) refl
  where
    by-job : (o : Option OpenJob) → next_job n ≡ o → GoesTo (did_replay state given o n).own.exact n.own.me (AtReplaying (did_replay state given o n) n.own.me) c
    by-job None e = goes-self n.own.exact n.own.me (AtReplaying n n.own.me) c s
    by-job (Some j) e = goes-replayed n c j state given s e (given-inside n given wide may) (answers j e)

-- where all are replayed, it has replayed all
pub ends-so : (n : TheReplaying) → is_over n ≡ true → n.done ≤ length n.plan → Ends n (replayed_of n)
ends-so n over within c p s =
    let all : n.own.base + n.done ≡ length (c.world.history p) = (let many = long n c p s in let o : nat_le (length n.plan) n.done ≡ true = over in grind (arith, nat_tests)) in
    let whole : take (n.own.base + n.done) (c.world.history p) ≡ c.world.history p = take_all (n.own.base + n.done) (c.world.history p) (omega (arith, all)) in
    record {
      stage = s.stage;
      greeted = s.greeted;
      phase = s.phase ∙ rw over refl;
      life = s.life;
      own = (let P : List Message → Type 0 = λ z. HasOwn n.own c p z (c.world.trims p) (c.world.numbers p) in subst P whole s.own);
      received = s.received;
      acknowledged = s.acknowledged;
      numbers = s.numbers;
      resumed = s.resumed;
      restoring = s.restoring;
      released = s.released over;
    }

-- the first packet that waits leaves
pub replaying-takes : (o : Option NodePacket) (n : TheReplaying) (rest : List NodePacket) → Pops o n.own.out rest → Takes o n (record n { own = record n.own { out = rest } })
replaying-takes None n rest e =
    (e.0, ap (λ xs. record n { own = record n.own { out = xs } }) e.1 ∙ ap (λ xs. record n { own = record n.own { out = xs } }) (let back : [] ≡ n.own.out = (cc) in back))
replaying-takes (Some x) n rest e = (
  ap (λ xs. record n { own = record n.own { out = xs } }) e,
  λ c s. (let out : Each (IsSent c n.own.me) (x ∷ rest) = subst (Each (IsSent c n.own.me)) e s.own.out in (out.0, replaying-out n c n.own.me rest out.1 s)),
)

pub collecting-takes : (o : Option NodePacket) (n : TheCollecting) (rest : List NodePacket) → Pops o n.own.out rest → CollectingTakes o n (record n { own = record n.own { out = rest } })
collecting-takes None n rest e =
    (e.0, ap (λ xs. record n { own = record n.own { out = xs } }) e.1 ∙ ap (λ xs. record n { own = record n.own { out = xs } }) (let back : [] ≡ n.own.out = (cc) in back))
collecting-takes (Some x) n rest e = (
  ap (λ xs. record n { own = record n.own { out = xs } }) e,
  λ c s. (let out : Each (IsSent c n.own.me) (x ∷ rest) = subst (Each (IsSent c n.own.me)) e s.own.out in (out.0, collecting-out n c n.own.me rest out.1 s)),
)
