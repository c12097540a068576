-- What is kept of a process comes back
use Rattle.std.proofs.Common.{◌≡◌, ◌≢◌, ℕ, zero, suc, ◌+◌, ◌-◌, ◌<◌, ◌≤◌, List, length, take, true, false, refl, sym, ap, ◌∙◌, arith}
use Rattle.std.specs.Prelude.{None, slice_index_or, slice_set, replicate, ◌==◌, if◌then◌else◌}
use Rattle.std.proofs.lemmas.Bool.Decides.{nat_tests}
use Rattle.std.proofs.lemmas.List.{get_or-replicate, get_or-set_same, get_or-set_other, length-replicate, take_all, length-take}
use Rattle.world.specs.declared.message.Message.{Message}
use Rattle.world.specs.History.{count_of}
use Rattle.theorems.proofs.Changes.{at-itself}
use Rattle.cluster.specs.Cluster.{Cluster, Dead, Collecting}
use Rattle.cluster.specs.Rules.{Opens, IsNode}
use Rattle.cluster.specs.Overlap.{Acts, goes}
use Rattle.packets.specs.declared.kept.Kept.{Kept}
use Rattle.node.specs.declared.limit.Limits.{Limits}
use Rattle.recovery.specs.Collected.{none_told}
use Rattle.recovery.specs.Collection.{TheCollecting, told_of, begins, revived}
use Rattle.recovery.specs.Stands.{IsTold, StandsCollecting, IsKeptOf, Reopens, Revives}
use Rattle.recovery.proofs.Told.{told-none}
use Rattle.node.specs.Stands.{sent_by}
use Rattle.recovery.proofs.Inquiries.{At, asking-all, only-below}
use Rattle.recovery.proofs.Holds.{held-kept}

abbrev zeros : ℕ → List ℕ
zeros n = replicate n 0

none_at : (n j : ℕ) → slice_index_or (zeros n) j 0 ≡ 0
none_at zero j = refl
none_at (suc n) zero = refl
none_at (suc n) (suc j) = none_at n j

-- of which incarnation of each peer one heard that begins
abbrev first_heard : ℕ → ℕ
first_heard q = if q == 0 then 1 else 0

module _ (limits : Limits) (k : Kept) (life : ℕ) (c : Cluster) (durable : c.durable k.me ≡ true → limits.durable ≡ true) (dead : c.stage k.me ≡ Dead) (early : c.stored k.me < life) (s : IsKeptOf k c k.me) (inside : IsNode c k.me) where
  abbrev me : ℕ
  me = k.me

  abbrev skipped : ℕ
  skipped = life - c.stored me - 1

  abbrev c' : Cluster
  c' = goes c (Acts true (Opens me skipped))

  abbrev h : List Message
  h = take k.length (c.world.history me)

  long : length h ≡ k.length
  long = omega (arith, length-take k.length (c.world.history me), s.many)

  stored-is : c'.stored me ≡ life
  stored-is = at-itself me (λ b. (if b then suc (skipped + c.stored me) else c.stored me) ≡ life) (omega (arith, early))

  heard-at : (q : ℕ) → first_heard q ≡ slice_index_or (slice_set (replicate (k.count + 1) 0) 0 1) q 0
  heard-at zero = sym (get_or-set_same (replicate (k.count + 1) 0) 0 1 0 (omega (arith, length-replicate {A = ℕ} (k.count + 1) 0)))
  heard-at (suc q) =
      let apart : suc q ≢ 0 = omega arith in
      let other : (suc q == 0) ≡ false = grind (arith, nat_tests) in
      let none : first_heard (suc q) ≡ 0 = rw other refl in
      none ∙ sym (get_or-set_other (replicate (k.count + 1) 0) 0 (suc q) 1 0 apart ∙ none_at (k.count + 1) (suc q))

  heard-is : (q : ℕ) → c'.heard me q ≡ slice_index_or (slice_set (replicate (k.count + 1) 0) 0 1) q 0
  heard-is q = at-itself me (λ b. (if b then first_heard else c.heard me) q ≡ slice_index_or (slice_set (replicate (k.count + 1) 0) 0 1) q 0) (heard-at q)

  told-is : (q : ℕ) → q ≤ c.world.count → IsTold q k.length (told_of (replicate (k.count + 1) (none_told k.length)) q) (c'.told me q)
  told-is q l =
      let e : told_of (replicate (k.count + 1) (none_told k.length)) q ≡ none_told k.length = get_or-replicate (k.count + 1) q (none_told k.length) (none_told 0) (omega (arith, l, s.count)) in
      at-itself me (λ b. IsTold q k.length (told_of (replicate (k.count + 1) (none_told k.length)) q) ((if b then (λ _. None) else c.told me) q))
      (rw e (told-none q k.length))

  -- the checkpoint covers all of them
  first-all : (d : ℕ) → sent_by c.world.handlers me h d k.length ≡ length (c.world.handlers.sends me h d)
  first-all d = ap (λ z. length (c.world.handlers.sends me z d)) (take_all k.length h (omega (arith, long)))

  stands-begun : StandsCollecting (begins limits k life) c' me
  stands-begun = record {
    stage = at-itself me (λ b. (if b then Collecting else c.stage me) ≡ Collecting) refl;
    life = stored-is;
    own = record {
      me = refl;
      count = s.count;
      inside = inside;
      saved = s.saved;
      many = omega (arith, long);
      state = s.state;
      covered = λ q l. s.counts q l ∙ ap (count_of q) (sym (take_all k.length h (omega (arith, long))));
      logs = s.logs;
      held = λ d l o. held-kept k c.world.handlers me h d (c.world.saved_trims me d) (omega (arith, long)) (s.logs d l o);
      grown = λ d. (let e = first-all d in omega (arith, e));
      heard = λ q l. heard-is q;
      durable = durable;
      exact = at-itself me (λ b. (if b then true else c.exact me) ≡ true) refl;
      lost = λ q l. at-itself me (λ b. (if b then (λ _. false) else c.lost me) q ≡ slice_index_or (replicate (k.count + 1) false) q true) (sym (get_or-replicate (k.count + 1) q false true (omega (arith, l, s.count))));
      sure = λ e q l. get_or-replicate (k.count + 1) q false true (omega (arith, l, s.count));
      greets = get_or-replicate (k.count + 1) 0 false true (omega arith);
      out = tt;
    };
    told = told-is;
    alone = at-itself me (λ b. (if b then (λ _. None) else c.told me) me ≡ None) refl;
  }

  pub goes-revived : Reopens me life (At (revived limits k life) me) c
  goes-revived = record { skipped = skipped; opens = (inside, dead); incarnation = omega (arith, early); goes = asking-all (begins limits k life) c' stands-begun }

pub revives : (limits : Limits) (k : Kept) (life : ℕ) → Revives k life (revived limits k life)
revives limits k life c durable dead early s inside =
    let same : (revived limits k life).own.limits ≡ limits = ap (λ (z : TheCollecting). z.own.limits) (only-below (begins limits k life) k.me (k.count + 1)) in
    goes-revived limits k life c (λ e. ap (λ (z : Limits). z.durable) (sym same) ∙ durable e) dead early s inside
