-- A number comes
use Rattle.std.proofs.Common.{◌≡◌, ◌≢◌, inl, inr, ℕ, suc, ◌+◌, ◌-◌, ◌<◌, ◌≤◌, List, length, take, Bool, true, false, refl, sym, ap, ◌∙◌, subst, arith}
use Rattle.std.specs.Prelude.{Option, Some, None, slice_index_or, slice_set, ◌&&◌, ◌==◌, nat_lt, nat_le, if◌then◌else◌}
use Rattle.std.proofs.lemmas.Bool.Decides.{nat_tests}
use Rattle.std.proofs.lemmas.List.{get_or-set_same, get_or-set_other, length-set, take_all, length-append}
use Rattle.world.specs.History.{Payload}
use Rattle.world.specs.Phases.{Phase, Up, Busy, is_up, is_down}
use Rattle.world.specs.World.{put}
use Rattle.world.specs.Logs.{sent, length_of, is_entry}
use Rattle.theorems.proofs.Changes.{at-itself}
use Rattle.theorems.proofs.PhaseLemmas.{up-length}
use Rattle.theorems.proofs.Tests.{both}
use Rattle.cluster.specs.Parcels.{Number, Acknowledgement, In, parcel}
use Rattle.cluster.specs.Cluster.{Cluster}
use Rattle.cluster.specs.Rules.{Act, Arrives, May, does}
use Rattle.packets.specs.declared.packet.Body.TheVariants as packets
use Rattle.node.specs.Queue.{TheQueue, recorded, is_kept}
use Rattle.node.specs.Node.{TheNode, posts, packet_of, log_at, numbered}
use Rattle.node.specs.Stands.{Stands, KeepsOf, IsShut, sent_by, most_released, GoesOn, Receives, PutOut}
use Rattle.node.proofs.Logs.{changed-at}
use Rattle.node.proofs.Lists.{all-pushed}
use Rattle.node.proofs.Sent.{all-still}
use Rattle.cluster.proofs.Goes.{goes-act}
use Rattle.node.proofs.Puts.{stands-takes, is-up}
use Rattle.node.proofs.StandsLemmas.{stands-with}

-- what it sent, as the rules tell it
pub sent-is : (n : TheNode) (c : Cluster) (p d : ℕ) → Stands n c p → sent c.world p d ≡ c.world.handlers.sends p (c.world.history p) d
sent-is n c p d s =
    let inner : (p == 0) ≡ false = (let z : 0 < p = s.inside.0 in grind (arith, nat_tests)) in
    let many : length_of c.world p ≡ length (c.world.history p) = up-length (c.world.phase p) (is-up n c p s) (c.world.history p) (c.world.saved p) in
    let e : take (length_of c.world p) (c.world.history p) ≡ c.world.history p = ap (λ k. take k (c.world.history p)) many ∙ take_all (length (c.world.history p)) (c.world.history p) (omega arith) in
    rw inner (ap (λ h. c.world.handlers.sends p h d) e)

-- how much it sent
pub sent-size : (n : TheNode) (c : Cluster) (p d : ℕ) → Stands n c p → d ≤ c.world.count → d ≢ p → length (c.world.handlers.sends p (c.world.history p) d) ≡ (log_at n.logs d).dropped + length (log_at n.logs d).payloads
sent-size n c p d s low other =
    let k = s.logs d low other in
    ap length (sym k.joined) ∙ length-append k.before (log_at n.logs d).payloads ∙ ap (λ z. z + length (log_at n.logs d).payloads) k.many

up-lives : (f : Phase) → is_up f ≡ true → is_down f ≡ false
up-lives Up e = refl
up-lives (Busy m) e = refl
up-lives other e = absurd (cc)

-- what a queue keeps is an entry
pub entry-is : (n : TheNode) (c : Cluster) (p d ssn : ℕ) → Stands n c p → d ≤ c.world.count → d ≢ p → is_kept ssn (log_at n.logs d) ≡ true → is_entry c.world p d ssn ≡ true
entry-is n c p d ssn s low other kept =
    let q = log_at n.logs d in
    let k = s.logs d low other in
    let two = both (nat_lt q.dropped ssn) (nat_le ssn (q.dropped + length q.payloads)) kept in
    let live : is_down (c.world.phase p) ≡ false = up-lives (c.world.phase p) (is-up n c p s) in
    let many : length (sent c.world p d) ≡ q.dropped + length q.payloads = ap length (sent-is n c p d s) ∙ ap length (sym k.joined) ∙ length-append k.before q.payloads ∙ ap (λ z. z + length q.payloads) k.many in
    let above : nat_lt (c.world.trims p d) ssn ≡ true = ap (λ z. nat_lt z ssn) k.dropped_is ∙ two.0 in
    let within : nat_le ssn (length (sent c.world p d)) ≡ true = ap (nat_le ssn) many ∙ two.1 in
    rw (live, above, within) refl

-- a queue one of whose messages gets a number
kept-numbered : (q : TheQueue) (dropped : ℕ) (xs : List Payload) (numbers : ℕ → Option ℕ) (ssn k : ℕ) → is_kept ssn q ≡ true → KeepsOf q dropped xs numbers → KeepsOf (recorded ssn k q) dropped xs (put numbers ssn (Some k))
kept-numbered q dropped xs numbers ssn k kept s =
    record {
      before = s.before;
      many = s.many;
      joined = s.joined;
      dropped_is = s.dropped_is;
      as_many = length-set q.numbers (ssn - q.dropped - 1) (Some k) ∙ s.as_many;
      numbers_are = λ i l. number i l (suc (q.dropped + i) == ssn) refl;
      beyond = λ i l. past i l (i == ssn) refl;
    }
  where
    above : q.dropped < ssn
    above = let e = (both (nat_lt q.dropped ssn) (nat_le ssn (q.dropped + length q.payloads)) kept).0 in grind (arith, nat_tests)

    within : ssn ≤ q.dropped + length q.payloads
    within = let e = (both (nat_lt q.dropped ssn) (nat_le ssn (q.dropped + length q.payloads)) kept).1 in grind (arith, nat_tests)

    number : (i : ℕ) → i < length q.payloads → (b : Bool) → (suc (q.dropped + i) == ssn) ≡ b → slice_index_or (slice_set q.numbers (ssn - q.dropped - 1) (Some k)) i None ≡ (if b then Some k else numbers (suc (q.dropped + i)))
    number i l true e =
        let same : i ≡ ssn - q.dropped - 1 = (let f : suc (q.dropped + i) ≡ ssn = grind (arith, nat_tests) in omega arith) in
        ap (λ z. slice_index_or (slice_set q.numbers (ssn - q.dropped - 1) (Some k)) z None) same ∙ get_or-set_same q.numbers (ssn - q.dropped - 1) (Some k) None (omega (arith, same, l, s.as_many))
    number i l false e =
        let apart : i ≢ ssn - q.dropped - 1 = λ f. (let g : suc (q.dropped + i) ≢ ssn = grind (arith, nat_tests) in g (omega (arith, f, above))) in
        get_or-set_other q.numbers (ssn - q.dropped - 1) i (Some k) None apart ∙ s.numbers_are i l

    past : (i : ℕ) → q.dropped + length q.payloads < i → (b : Bool) → (i == ssn) ≡ b → (if b then Some k else numbers i) ≡ None
    past i l true e = absurd (let f : i ≡ ssn = grind (arith, nat_tests) in omega (arith, within))
    past i l false e = s.beyond i l

module _ (n : TheNode) (c : Cluster) (r i ssn k : ℕ) (s : Stands n c n.me) (low : r ≤ c.world.count) (other : r ≢ n.me) (given : In (parcel r n.me (Number i ssn k)) c.parcels) (heard : i ≡ slice_index_or n.heard r 0) (wide : r < length n.logs) (live : n.frozen ≡ false) (kept : is_kept ssn (log_at n.logs r) ≡ true) where
  abbrev act : Act
  act = Arrives r n.me (Number i ssn k)

  abbrev c' : Cluster
  c' = does c act

  may : May c act
  may = (given, (stands-takes n c n.me live s, heard ∙ sym (s.heard r low), entry-is n c n.me r ssn s low other kept))

  logs : (d : ℕ) → d ≤ c.world.count → d ≢ n.me → KeepsOf (log_at (slice_set n.logs r (recorded ssn k (log_at n.logs r))) d) (c.world.trims n.me d) (c.world.handlers.sends n.me (c.world.history n.me) d) (c'.world.numbers n.me d)
  logs d l o = at-itself n.me (λ t. KeepsOf (log_at (slice_set n.logs r (recorded ssn k (log_at n.logs r))) d) (c.world.trims n.me d) (c.world.handlers.sends n.me (c.world.history n.me) d) (if t && (d == r) then put (c.world.numbers n.me r) ssn (Some k) else c.world.numbers n.me d))
      (changed-at (λ q. KeepsOf q (c.world.trims n.me d) (c.world.handlers.sends n.me (c.world.history n.me) d) (if d == r then put (c.world.numbers n.me r) ssn (Some k) else c.world.numbers n.me d)) n.logs r (recorded ssn k (log_at n.logs r)) d wide here there)
    where
      here : d ≡ r → KeepsOf (recorded ssn k (log_at n.logs r)) (c.world.trims n.me d) (c.world.handlers.sends n.me (c.world.history n.me) d) (if d == r then put (c.world.numbers n.me r) ssn (Some k) else c.world.numbers n.me d)
      here same =
          let e : (d == r) ≡ true = grind (arith, nat_tests) in
          let P : ℕ → Type 0 = λ z. KeepsOf (recorded ssn k (log_at n.logs r)) (c.world.trims n.me z) (c.world.handlers.sends n.me (c.world.history n.me) z) (put (c.world.numbers n.me r) ssn (Some k)) in
          rw e (subst P (sym same) (kept-numbered (log_at n.logs r) (c.world.trims n.me r) (c.world.handlers.sends n.me (c.world.history n.me) r) (c.world.numbers n.me r) ssn k kept (s.logs r low other)))

      there : d ≢ r → KeepsOf (log_at n.logs d) (c.world.trims n.me d) (c.world.handlers.sends n.me (c.world.history n.me) d) (if d == r then put (c.world.numbers n.me r) ssn (Some k) else c.world.numbers n.me d)
      there apart = let e : (d == r) ≡ false = grind (arith, nat_tests) in rw e (s.logs d l o)

  gates : (d : ℕ) → d ≤ c.world.count → d ≢ n.me → IsShut (log_at (slice_set n.logs r (recorded ssn k (log_at n.logs r))) d) (length (c.world.history n.me)) (most_released n.limits.durable c n.me d) (sent_by c.world.handlers n.me (c.world.history n.me) d)
  gates d l o = changed-at (λ q. IsShut q (length (c.world.history n.me)) (most_released n.limits.durable c n.me d) (sent_by c.world.handlers n.me (c.world.history n.me) d)) n.logs r (recorded ssn k (log_at n.logs r)) d wide
      (λ same. let P : ℕ → Type 0 = λ z. IsShut (recorded ssn k (log_at n.logs z)) (length (c.world.history n.me)) (most_released n.limits.durable c n.me d) (sent_by c.world.handlers n.me (c.world.history n.me) d) in
      let g = s.gates d l o in subst P same (record { within = g.within; waits = g.waits }))
      (λ apart. s.gates d l o)

  stands-recorded : Stands (posts r (packets.Acknowledgement i k) (numbered r ssn k n)) c' n.me
  stands-recorded =
      let d : Cluster = record c { parcels = c'.parcels } in
      stands-with n c n.me s logs gates s.heard s.resumed
      (all-pushed (PutOut d n.me) n.out (packet_of n r (packets.Acknowledgement i k)) (all-still c d n.me n.out refl (λ x z. inr z) (λ f z. z) s.out)
      (record { count_is = s.count; from = refl; said = (Acknowledgement i k, refl, inl refl, tt) }))

  goes-recorded : GoesOn n.me (posts r (packets.Acknowledgement i k) (numbered r ssn k n)) c
  goes-recorded = goes-act true n.me (λ d. Stands (posts r (packets.Acknowledgement i k) (numbered r ssn k n)) d n.me) c act may tt tt refl stands-recorded

-- a number for a message that is still logged is noted, and its acknowledgement is put out
pub says-acknowledgement : (n : TheNode) (r i ssn k : ℕ) → n.frozen ≡ false → r ≤ n.count → r ≢ n.me → i ≡ slice_index_or n.heard r 0 → r < length n.logs → is_kept ssn (log_at n.logs r) ≡ true
    → Receives r (Number i ssn k) n (posts r (packets.Acknowledgement i k) (numbered r ssn k n))
says-acknowledgement n r i ssn k live low other heard wide kept c s given = goes-recorded n c r i ssn k s (omega (arith, low, s.count)) other given heard wide live kept
