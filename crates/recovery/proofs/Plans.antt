-- What is kept is what the cluster keeps
use Rattle.std.proofs.Common.{Result, Ok, ◌≡◌, ◌≢◌, ℕ, zero, suc, ◌+◌, ◌-◌, ◌<◌, ◌≤◌, List, [], ◌∷◌, ◌++◌, length, map, take, Bool, true, false, refl, sym, ap, ◌∙◌, subst, arith, append_assoc}
use Rattle.std.specs.Prelude.{Option, Some, None, IfOk, IfSome, slice_index_or, slice_set, ◌||◌, ◌==◌}
use Rattle.std.proofs.lemmas.Bool.Decides.{nat_tests}
use Rattle.std.proofs.lemmas.List.{append-nil, length-append, length-take, length-map, take_all, get_or-set_same, get_or-set_other}
use Rattle.theorems.proofs.Tests.{both}
use Rattle.world.specs.declared.message.Message.{Message}
use Rattle.world.specs.History.{count_of}
use Rattle.world.specs.Plan.{or_else, first_below, if_next, pushed}
use Rattle.cluster.specs.Cluster.{Cluster, Collected}
use Rattle.cluster.specs.Rules.{IsAll, entry_in, told_by, plan, kept_by}
use Rattle.node.specs.declared.job.OpenJob.{OpenJob}
use Rattle.node.specs.Stands.{job_of}
use Rattle.node.proofs.Lists.{count-append}
use Rattle.packets.specs.declared.page.LoggedMessage.{LoggedMessage}
use Rattle.packets.specs.Says.{first_told}
use Rattle.recovery.specs.Collected.{TheCollected}
use Rattle.recovery.specs.Collection.{TheCollecting, told_of}
use Rattle.recovery.specs.Stands.{StandsCollecting, reached}
use Rattle.recovery.specs.Plan.{told_below, has_all, told_under, next_by, Follows, IsCovered, IsPlan, Plans, MayRecover, Recovering}

-- The first that there is

pub first-at : {X : Type 0} (f : ℕ → Option X) (d n : ℕ) (x : X) → first_below f d ≡ None → f d ≡ Some x → d < n → first_below f n ≡ Some x
first-at f d zero x none here l = absurd (omega (arith, l))
first-at {X} f d (suc n) x none here l = split (d == n) refl (λ m. first-at f d n x none here m)
  where
    split : (b : Bool) → (d == n) ≡ b → (d < n → first_below f n ≡ Some x) → or_else (first_below f n) (f n) ≡ Some x
    split true e rest =
        let same : d ≡ n = grind (arith, nat_tests) in
        let P : ℕ → Type 0 = λ k. or_else (first_below f k) (f k) ≡ Some x in
        subst P same (rw (none, here) refl)
    split false e rest =
        let less : d < n = (let apart : d ≢ n = grind (arith, nat_tests) in omega (arith, apart, l)) in
        rw (rest less) refl

first-same : {X : Type 0} (f g : ℕ → Option X) (n : ℕ) → ((i : ℕ) → i < n → f i ≡ g i) → first_below f n ≡ first_below g n
first-same f g zero e = refl
first-same f g (suc n) e = rw (first-same f g n (λ i l. e i (omega (arith, l))), e n (omega arith)) refl

told-sender : (q : ℕ) (es : List LoggedMessage) (m : ℕ) (x : Message) → first_told q es m ≡ Some x → x.sender ≡ q
told-sender q [] m x e = absurd (cc)
told-sender q (y ∷ es) m x e = split (y.number == m) refl (told-sender q es m x)
  where
    split : (b : Bool) → (y.number == m) ≡ b → (first_told q es m ≡ Some x → x.sender ≡ q) → x.sender ≡ q
    split true t rest =
        let at : first_told q (y ∷ es) m ≡ Some (record { sender = q; ssn = y.ssn; payload = y.payload }) = rw t refl in
        let same : record { sender = q; ssn = y.ssn; payload = y.payload } ≡ x = (cc (at, e)) in
        ap (λ (z : Message). z.sender) (sym same)
    split false t rest =
        let at : first_told q (y ∷ es) m ≡ first_told q es m = rw t refl in
        rest (sym at ∙ e)

first-sender : (f : ℕ → Option Message) (n : ℕ) (x : Message) → ((q : ℕ) (y : Message) → f q ≡ Some y → y.sender ≡ q) → first_below f n ≡ Some x → x.sender < n
first-sender f zero x of e = absurd (cc)
first-sender f (suc n) x of e = split (first_below f n) refl (λ y t. first-sender f n y of t)
  where
    split : (o : Option Message) → first_below f n ≡ o → ((y : Message) → first_below f n ≡ Some y → y.sender < n) → x.sender < suc n
    split None t rest =
        let at : first_below f (suc n) ≡ f n = rw t refl in
        let is : x.sender ≡ n = of n x (sym at ∙ e) in
        omega (arith, is)
    split (Some y) t rest =
        let at : first_below f (suc n) ≡ Some y = rw t refl in
        let same : y ≡ x = (cc (at, e)) in
        let below : y.sender < n = rest y t in
        let s : y.sender ≡ x.sender = ap (λ (z : Message). z.sender) same in
        omega (arith, below, s)

pub under-sender : (told : List TheCollected) (count m : ℕ) (x : Message) → told_under told count m ≡ Some x → x.sender ≤ count
under-sender told count m x e = omega (arith, first-sender (λ q. first_told q (told_of told q).entries m) (count + 1) x (λ q y t. told-sender q (told_of told q).entries m y t) e)

-- Plans

plan-front : (f : ℕ → Option Message) (h : List Message) (m : Message) (k : ℕ) → if_next h (f (suc (length h))) ≡ Some m → plan f h (suc k) ≡ plan f (h ++ m ∷ []) k
plan-front f h m zero e = rw e refl
plan-front f h m (suc k) e = ap (λ (z : List Message). pushed z (if_next z (f (suc (length z))))) (plan-front f h m k e)

plan-follows : (f : ℕ → Option Message) (h ms : List Message) → Follows f h ms → plan f h (length ms) ≡ h ++ ms
plan-follows f h [] t = sym (append-nil h)
plan-follows f h (m ∷ ms) t = plan-front f h m (length ms) t.0 ∙ plan-follows f (h ++ m ∷ []) ms t.1 ∙ append_assoc h (m ∷ []) ms

pushed-long : (h : List Message) (o : Option Message) → length h ≤ length (pushed h o)
pushed-long h None = omega arith
pushed-long h (Some m) = omega (arith, length-append h (m ∷ []))

plan-long : (f : ℕ → Option Message) (h : List Message) (k : ℕ) → length h ≤ length (plan f h k)
plan-long f h zero = omega arith
plan-long f h (suc k) = omega (arith, plan-long f h k, pushed-long (plan f h k) (if_next (plan f h k) (f (suc (length (plan f h k))))))

plan-same : (f g : ℕ → Option Message) (base : ℕ) (h : List Message) (k : ℕ) → base ≤ length h → ((m : ℕ) → base < m → f m ≡ g m) → plan f h k ≡ plan g h k
plan-same f g base h zero l e = refl
plan-same f g base h (suc k) l e =
    let p = plan g h k in
    ap (λ (z : List Message). pushed z (if_next z (f (suc (length z))))) (plan-same f g base h k l e)
    ∙ ap (λ (o : Option Message). pushed p (if_next p o)) (e (suc (length p)) (omega (arith, l, plan-long g h k)))

-- one more follows
pub follows-push : (f : ℕ → Option Message) (h ms : List Message) (m : Message) → Follows f h ms → if_next (h ++ ms) (f (suc (length (h ++ ms)))) ≡ Some m → Follows f h (ms ++ m ∷ [])
follows-push f h [] m t e =
    let P : List Message → Type 0 = λ z. if_next z (f (suc (length z))) ≡ Some m in
    (subst P (append-nil h) e, tt)
follows-push f h (x ∷ ms) m t e =
    let P : List Message → Type 0 = λ z. if_next z (f (suc (length z))) ≡ Some m in
    (t.0, follows-push f (h ++ x ∷ []) ms m t.1 (subst P (sym (append_assoc h (x ∷ []) ms)) e))

-- by counts or by the history, the same is next
pub next-is : (counts : List ℕ) (count : ℕ) (h : List Message) (o : Option Message) → ((q : ℕ) → q ≤ count → slice_index_or counts q 0 ≡ count_of q h) → ((m : Message) → o ≡ Some m → m.sender ≤ count) → next_by counts o ≡ if_next h o
next-is counts count h None e s = refl
next-is counts count h (Some m) e s = rw (e m.sender (s m refl)) refl

-- Where all have told

pub all-below : (told : List TheCollected) (me d q : ℕ) → told_below told me d ≡ true → q < d → q ≢ me → (told_of told q).done ≡ true
all-below told me zero q e l other = absurd (omega (arith, l))
all-below told me (suc d) q e l other = split (q == d) refl (λ m. all-below told me d q two.0 m other)
  where
    two : (told_below told me d ≡ true) × (((d == me) || (told_of told d).done) ≡ true)
    two = both (told_below told me d) ((d == me) || (told_of told d).done) e

    split : (b : Bool) → (q == d) ≡ b → (q < d → (told_of told q).done ≡ true) → (told_of told q).done ≡ true
    split true t rest =
        let same : q ≡ d = grind (arith, nat_tests) in
        let apart : (d == me) ≡ false = (let f : d ≢ me = λ g. other (same ∙ g) in grind (arith, nat_tests)) in
        let P : ℕ → Type 0 = λ z. (told_of told z).done ≡ true in
        subst P (sym same) (let g : ((d == me) || (told_of told d).done) ≡ (told_of told d).done = rw apart refl in sym g ∙ two.1)
    split false t rest = rest (let apart : q ≢ d = grind (arith, nat_tests) in omega (arith, apart, l))

all-reached : (t : Option Collected) (m : ℕ) → IsAll t → reached t m ≡ true
all-reached None m a = refl
all-reached (Some t) m a = rw a refl

module _ (n : TheCollecting) (jobs : List OpenJob) (all : has_all n ≡ true) (plans : Plans n jobs) (c : Cluster) (s : StandsCollecting n c n.own.me) (none : c.told n.own.me n.own.me ≡ None) where
  abbrev me : ℕ
  me = n.own.me

  abbrev base : ℕ
  base = n.own.base

  abbrev h : List Message
  h = take base (c.world.history me)

  abbrev ms : List Message
  ms = map job_of jobs

  told-all : (q : ℕ) → q ≤ c.world.count → q ≢ me → IsAll (c.told me q)
  told-all q l other = (s.told q l).all (all-below n.told me (n.own.count + 1) q all (omega (arith, l, s.own.count)) other)

  reach : (q m : ℕ) → q ≤ c.world.count → reached (c.told me q) m ≡ true
  reach q m l = split (q == me) refl
    where
      split : (b : Bool) → (q == me) ≡ b → reached (c.told me q) m ≡ true
      split true e =
          let same : me ≡ q = grind (arith, nat_tests) in
          let P : ℕ → Type 0 = λ z. reached (c.told me z) m ≡ true in
          subst P same (rw none refl)
      split false e = let other : q ≢ me = grind (arith, nat_tests) in all-reached (c.told me q) m (told-all q l other)

  same-told : (m : ℕ) → base < m → told_by c me m ≡ told_under n.told n.own.count m
  same-told m l =
      let one : suc c.world.count ≡ n.own.count + 1 = omega (arith, s.own.count) in
      first-same (λ q. entry_in (c.told me q) m) (λ q. first_told q (told_of n.told q).entries m) (suc c.world.count) (λ q i. (s.told q (omega (arith, i))).entries m l (reach q m (omega (arith, i))))
      ∙ ap (first_below (λ q. first_told q (told_of n.told q).entries m)) one

  long : length h ≡ base
  long = let many : base ≤ length h = s.own.many in omega (arith, length-take base (c.world.history me), many)

  covered : IsCovered base n.own.count n.own.covered h
  covered = record { many = long; counts = λ q l. s.own.covered q (omega (arith, l, s.own.count)) ∙ ap (count_of q) (take_all base h (omega (arith, long))) }

  is-plan : IsPlan (told_under n.told n.own.count) h ms
  is-plan = plans h covered

  kept-is : kept_by c me (base + length jobs) ≡ h ++ ms
  kept-is =
      let saved : take (c.world.saved me) (c.world.history me) ≡ h = ap (λ z. take z (c.world.history me)) s.own.saved in
      let many : base + length jobs - c.world.saved me ≡ length ms = omega (arith, s.own.saved, length-map jobs job_of) in
      ap (λ (z : List Message). plan (told_by c me) z (base + length jobs - c.world.saved me)) saved ∙ ap (plan (told_by c me) h) many
      ∙ plan-same (told_by c me) (told_under n.told n.own.count) base h (length ms) (omega (arith, long)) same-told ∙ plan-follows (told_under n.told n.own.count) h ms is-plan.follows

  kept-long : length (h ++ ms) ≡ base + length jobs
  kept-long = omega (arith, length-append h ms, long, length-map jobs job_of)

  none-next : if_next (kept_by c me (base + length jobs)) (told_by c me (suc (base + length jobs))) ≡ None
  none-next =
      let f = told_under n.told n.own.count in
      ap (λ (z : List Message). if_next z (told_by c me (suc (base + length jobs)))) kept-is ∙ ap (if_next (h ++ ms)) (same-told (suc (base + length jobs)) (omega arith))
      ∙ ap (λ z. if_next (h ++ ms) (f (suc z))) (sym kept-long) ∙ is-plan.most

  may-recover : MayRecover n jobs c
  may-recover = record {
    may = (s.own.inside, s.stage, told-all, (let e = s.own.saved in omega (arith, e)), ap length kept-is ∙ kept-long, none-next);
    kept = kept-is;
  }

-- Counts

pub map-push : (jobs : List OpenJob) (j : OpenJob) → map job_of (jobs ++ j ∷ []) ≡ map job_of jobs ++ job_of j ∷ []
map-push [] j = refl
map-push (x ∷ jobs) j = ap (λ l. job_of x ∷ l) (map-push jobs j)

-- one message more is counted
pub counts-push : (counts : List ℕ) (count : ℕ) (h : List Message) (m : Message) → m.sender < length counts → ((q : ℕ) → q ≤ count → slice_index_or counts q 0 ≡ count_of q h) → (q : ℕ) → q ≤ count
    → slice_index_or (slice_set counts m.sender (slice_index_or counts m.sender 0 + 1)) q 0 ≡ count_of q (h ++ m ∷ [])
counts-push counts count h m inside e q l = split (q == m.sender) refl
  where
    more : count_of q (h ++ m ∷ []) ≡ count_of q h + count_of q (m ∷ [])
    more = count-append q h (m ∷ [])

    split : (b : Bool) → (q == m.sender) ≡ b → slice_index_or (slice_set counts m.sender (slice_index_or counts m.sender 0 + 1)) q 0 ≡ count_of q (h ++ m ∷ [])
    split true t =
        let same : q ≡ m.sender = grind (arith, nat_tests) in
        let back : (m.sender == q) ≡ true = grind (arith, nat_tests) in
        let one : count_of q (m ∷ []) ≡ 1 = rw back refl in
        let at : slice_index_or (slice_set counts m.sender (slice_index_or counts m.sender 0 + 1)) q 0 ≡ slice_index_or counts m.sender 0 + 1 =
        ap (λ z. slice_index_or (slice_set counts m.sender (slice_index_or counts m.sender 0 + 1)) z 0) same ∙ get_or-set_same counts m.sender (slice_index_or counts m.sender 0 + 1) 0 inside in
        let was : slice_index_or counts m.sender 0 ≡ count_of q h = ap (λ z. slice_index_or counts z 0) (sym same) ∙ e q l in
        omega (arith, at, was, more, one)
    split false t =
        let apart : q ≢ m.sender = grind (arith, nat_tests) in
        let back : (m.sender == q) ≡ false = grind (arith, nat_tests) in
        let none : count_of q (m ∷ []) ≡ 0 = rw back refl in
        let at : slice_index_or (slice_set counts m.sender (slice_index_or counts m.sender 0 + 1)) q 0 ≡ slice_index_or counts q 0 = get_or-set_other counts m.sender q (slice_index_or counts m.sender 0 + 1) 0 apart in
        omega (arith, at, e q l, more, none)

-- and none is more than one more
pub low-push : (counts : List ℕ) (s k : ℕ) → s < length counts → ((q : ℕ) → slice_index_or counts q 0 ≤ k) → (q : ℕ) → slice_index_or (slice_set counts s (slice_index_or counts s 0 + 1)) q 0 ≤ k + 1
low-push counts s k inside low q = split (q == s) refl
  where
    split : (b : Bool) → (q == s) ≡ b → slice_index_or (slice_set counts s (slice_index_or counts s 0 + 1)) q 0 ≤ k + 1
    split true t =
        let same : q ≡ s = grind (arith, nat_tests) in
        let at : slice_index_or (slice_set counts s (slice_index_or counts s 0 + 1)) q 0 ≡ slice_index_or counts s 0 + 1 =
        ap (λ z. slice_index_or (slice_set counts s (slice_index_or counts s 0 + 1)) z 0) same ∙ get_or-set_same counts s (slice_index_or counts s 0 + 1) 0 inside in
        omega (arith, at, low s)
    split false t =
        let apart : q ≢ s = grind (arith, nat_tests) in
        omega (arith, get_or-set_other counts s q (slice_index_or counts s 0 + 1) 0 apart, low q)

-- what is next by the counts is next behind the history
pub next-at : (n : TheCollecting) (counts : List ℕ) (h : List Message) (number : ℕ) → ((q : ℕ) → q ≤ n.own.count → slice_index_or counts q 0 ≡ count_of q h) → number ≡ suc (length h)
    → next_by counts (told_under n.told n.own.count number) ≡ if_next h (told_under n.told n.own.count (suc (length h)))
next-at n counts h number agree is =
    ap (λ k. next_by counts (told_under n.told n.own.count k)) is
    ∙ next-is counts n.own.count h (told_under n.told n.own.count (suc (length h))) agree (λ m e. under-sender n.told n.own.count (suc (length h)) m e)

pub recovering : (n : TheCollecting) (jobs : List OpenJob) → Plans n jobs → Recovering n jobs
recovering n jobs plans all c s = may-recover n jobs all plans c s s.alone

-- what is said of a plan where there is one
pub ok-some : {X E : Type 0} (P Q : X → Type 0) (r : Result (Option X) E) → ((x : X) → P x → Q x) → IfOk r (λ o. IfSome o P) → IfOk r (λ o. IfSome o Q)
ok-some P Q (Ok (Some x)) f h = f x h
ok-some P Q other f h = tt
