-- A process recovers
use Rattle.std.proofs.Common.{◌≡◌, ℕ, suc, ◌+◌, ◌<◌, ◌≤◌, List, [], ◌++◌, length, map, take, drop, Bool, true, false, refl, sym, ap, ◌∙◌, subst, arith}
use Rattle.std.specs.Prelude.{None, nat_le, nat_lt, if◌then◌else◌}
use Rattle.std.proofs.lemmas.Bool.Decides.{nat_tests}
use Rattle.std.proofs.lemmas.List.{length-append, length-take, length-map, length-replicate, get_or-replicate, take_all}
use Rattle.world.specs.declared.message.Message.{Message}
use Rattle.world.specs.History.{count_of}
use Rattle.world.specs.Phases.{Phase, Replaying}
use Rattle.world.specs.World.{put}
use Rattle.world.specs.Logs.{sent_in_all}
use Rattle.world.specs.Calls.{phase_with, peers, released_with}
use Rattle.theorems.proofs.Changes.{at-itself}
use Rattle.cluster.specs.Cluster.{Cluster, Live}
use Rattle.cluster.specs.Rules.{Recovers, kept_by, goes_on, taken_back}
use Rattle.cluster.specs.Overlap.{Acts, goes}
use Rattle.node.specs.declared.job.OpenJob.{OpenJob}
use Rattle.node.specs.Node.{log_at}
use Rattle.node.specs.Stands.{HasReceived, KeepsOf, job_of}
use Rattle.recovery.specs.Collection.{TheCollecting}
use Rattle.recovery.specs.Stands.{HasOwn, StandsCollecting, GoesTo}
use Rattle.recovery.specs.Plan.{has_all, told_under, IsPlan, Plans, MayRecover}
use Rattle.recovery.specs.Replays.{TheReplaying, receipts_of, is_over}
use Rattle.recovery.specs.StandsAtReplay.{StandsReplaying, IsInOrder, ComesBack, phase_of}
use Rattle.cluster.proofs.Goes.{goes-act}
use Rattle.recovery.proofs.Orders.{in-order-first, follows-in-order, senders-of, front-part, back-part}
use Rattle.recovery.proofs.Plans.{recovering}
use Rattle.recovery.proofs.Posts.{outs-still}

-- where it stands
abbrev pub AtReplaying : TheReplaying → ℕ → Cluster → Type 0
AtReplaying n p = λ d. StandsReplaying n d p

-- what holds of both branches holds of the one that is taken
pub by-cluster : (P : Cluster → Type 0) (b : Bool) (x y : Cluster) → (b ≡ true → P x) → (b ≡ false → P y) → P (if b then x else y)
by-cluster P true x y f g = f refl
by-cluster P false x y f g = g refl

-- what replays these messages, and has replayed none of them
abbrev pub begins_with : TheCollecting → List OpenJob → TheReplaying
begins_with n jobs = record { own = n.own; plan = jobs; done = 0 }

module _ (n : TheCollecting) (jobs : List OpenJob) (all : has_all n ≡ true) (plans : Plans n jobs) (c : Cluster) (s : StandsCollecting n c n.own.me) (ordered : IsInOrder c n.own.me) where
  abbrev me : ℕ
  me = n.own.me

  abbrev base : ℕ
  base = n.own.base

  abbrev h : List Message
  h = take base (c.world.history me)

  abbrev ms : List Message
  ms = map job_of jobs

  abbrev k : ℕ
  k = base + length jobs

  abbrev r : TheReplaying
  r = begins_with n jobs

  abbrev back : Cluster
  back = taken_back c me k

  abbrev others : List ℕ
  others = peers c.world me false

  may-recover : MayRecover n jobs c
  may-recover = recovering n jobs plans all c s

  long : length h ≡ base
  long = omega (arith, length-take base (c.world.history me), s.own.many)

  history-is : back.world.history me ≡ h ++ ms
  history-is = at-itself me (λ b. (if b then kept_by c me k else c.world.history me) ≡ h ++ ms) may-recover.kept

  many-kept : length (h ++ ms) ≡ k
  many-kept = omega (arith, length-append h ms, long, length-map jobs job_of)

  first-is : take (base + 0) (back.world.history me) ≡ h
  first-is = ap (take (base + 0)) history-is ∙ front-part h ms (base + 0) (omega (arith, long))

  plan-is : IsPlan (told_under n.told n.own.count) h ms
  plan-is = plans h (record { many = long; counts = λ q l. s.own.covered q (omega (arith, l, s.own.count)) ∙ ap (count_of q) (take_all base h (omega (arith, long))) })

  -- the receipts of what it keeps: all is acknowledged
  received-is : HasReceived n.own.count base n.own.covered (receipts_of jobs) (h ++ ms) (λ m. nat_le m k)
  received-is =
      record {
        before = h;
        behind = ms;
        joined = refl;
        ordered = in-order-first c me base ordered;
        many = long;
        covered_is = λ q l. s.own.covered q (omega (arith, l, s.own.count)) ∙ ap (count_of q) (take_all base h (omega (arith, long)));
        senders = senders-of jobs;
        in_order = follows-in-order (told_under n.told n.own.count) h ms plan-is.follows;
        flags = length-replicate (length jobs) true ∙ sym (length-map jobs (λ (j : OpenJob). j.sender));
        acknowledged_is = λ i l.
            let inside : i < length jobs = omega (arith, l, length-map jobs (λ (j : OpenJob). j.sender)) in
            let here : nat_le (suc (base + i)) k ≡ true = grind (arith, nat_tests) in
            get_or-replicate (length jobs) i true false inside ∙ sym here;
        below = λ i l. grind (arith, nat_tests);
        above = λ i l. (let more : k < i = omega (arith, l, many-kept) in grind (arith, nat_tests));
      }

  -- so it stands, whatever it does next and releases
  module _ (ph : ℕ → Phase) (rel : ℕ → ℕ → ℕ) (phase-is : ph me ≡ phase_of r others) (shut-is : is_over r ≡ false → (e : ℕ) → rel me e ≡ 0) (released-is : is_over r ≡ true → others ≡ [] → (e : ℕ) → rel me e ≡ sent_in_all back.world me e) where
    stands-back : StandsReplaying r (record back { world = record back.world { phase = ph; released = rel } }) me
    stands-back =
        record {
          stage = at-itself me (λ b. (if b then Live else c.stage me) ≡ Live) refl;
          greeted = at-itself me (λ b. (if b then false else c.greeted me) ≡ false) refl;
          phase = phase-is;
          life = at-itself me (λ b. (if b then c.stored me else c.world.incarnation me) ≡ n.own.life) s.life;
          own = (let P : List Message → Type 0 = λ z. HasOwn n.own (record back { world = record back.world { phase = ph; released = rel } }) me z (back.world.trims me) (back.world.numbers me) in
              subst P (sym first-is) (record {
                me = refl;
                count = s.own.count;
                inside = s.own.inside;
                saved = s.own.saved;
                many = s.own.many;
                state = s.own.state;
                covered = s.own.covered;
                logs = λ e l o. at-itself me (λ b. KeepsOf (log_at n.own.logs e) ((if b then c.world.saved_trims me else c.world.trims me) e) (c.world.handlers.sends me h e) ((if b then (λ _ _. None) else c.world.numbers me) e)) (s.own.logs e l o);
                held = s.own.held;
                grown = s.own.grown;
                heard = s.own.heard;
                durable = s.own.durable;
                exact = s.own.exact;
                lost = s.own.lost;
                sure = s.own.sure;
                greets = s.own.greets;
                out = outs-still c (record back { world = record back.world { phase = ph; released = rel } }) me n.own.out refl (λ x i. i) (λ f i. i) s.own.out;
              }));
          behind = ap (drop base) history-is ∙ back-part h ms base long;
          received = (let P : List Message → Type 0 = λ z. HasReceived n.own.count base n.own.covered (receipts_of jobs) z (back.world.acknowledged me) in
              subst P (sym history-is) (at-itself me (λ b. HasReceived n.own.count base n.own.covered (receipts_of jobs) (h ++ ms) (if b then (λ m. nat_le m k) else c.world.acknowledged me)) received-is));
          acknowledged = λ i l.
              let within : i ≤ k = omega (arith, l, ap length history-is, many-kept) in
              at-itself me (λ b. (if b then (λ m. nat_le m k) else c.world.acknowledged me) i ≡ true) (grind (arith, nat_tests));
          numbers = λ e i. at-itself me (λ b. (if b then (λ _ _. None) else c.world.numbers me) e i ≡ None) refl;
          resumed = λ q. at-itself me (λ b. (if b then (λ _. true) else c.resumed me) q ≡ true) refl;
          restoring = λ q. at-itself me (λ b. (if b then (λ _. 0) else c.restoring me) q ≡ 0) refl;
          shut = shut-is;
          released = released-is;
        }

  -- some are to be replayed
  stands-some : nat_lt (c.world.saved me) k ≡ true → StandsReplaying r (record back { world = record back.world { phase = put c.world.phase me (Replaying 0 false false) } }) me
  stands-some e =
      let some : nat_le (length jobs) 0 ≡ false = (let saved : c.world.saved me ≡ base = s.own.saved in grind (arith, nat_tests)) in
      stands-back (put c.world.phase me (Replaying 0 false false)) back.world.released
      (at-itself me (λ b. (if b then Replaying 0 false false else c.world.phase me) ≡ phase_of r others) (rw some refl))
      (λ f d. at-itself me (λ b. (if b then (λ _. 0) else c.world.released me) d ≡ 0) refl)
      (λ f g d. absurd (cc (some, f)))

  -- none are
  stands-none : nat_lt (c.world.saved me) k ≡ false → StandsReplaying r (goes_on back me others) me
  stands-none e =
      let none : nat_le (length jobs) 0 ≡ true = (let saved : c.world.saved me ≡ base = s.own.saved in grind (arith, nat_tests)) in
      stands-back (put c.world.phase me (phase_with others)) (put back.world.released me (released_with back.world me others))
      (at-itself me (λ b. (if b then phase_with others else c.world.phase me) ≡ phase_of r others) (rw none refl))
      (λ f d. absurd (cc (none, f)))
      (λ f g d. at-itself me (λ b. (if b then released_with back.world me others else back.world.released me) d ≡ sent_in_all back.world me d) (ap (λ (z : List ℕ). released_with back.world me z d) g))

  stands-begun : StandsReplaying r (goes c (Acts true (Recovers me k))) me
  stands-begun = by-cluster (λ d. AtReplaying r me (record d { exact = c.exact; lost = c.lost; said = c.said })) (nat_lt (c.world.saved me) k) (record back { world = record back.world { phase = put c.world.phase me (Replaying 0 false false) } }) (goes_on back me others) stands-some stands-none

  goes-back : GoesTo true me (AtReplaying r me) c
  goes-back = goes-act true me (AtReplaying r me) c (Recovers me k) may-recover.may tt tt refl stands-begun

pub comes-back : (n : TheCollecting) (jobs : List OpenJob) → has_all n ≡ true → Plans n jobs → ComesBack n (begins_with n jobs)
comes-back n jobs all plans c s ordered = goes-back n jobs all plans c s ordered
