-- What the gateway tells a process that comes back, it may
use Rattle.std.proofs.Common.{◌≡◌, ℕ, suc, ◌+◌, ◌-◌, ◌<◌, ◌≤◌, List, [], length, map, Bool, true, false, refl, sym, ap, ◌∙◌, subst, arith}
use Rattle.std.specs.Prelude.{Option, Some, None, ◌&&◌, not, nat_lt, nat_le, slice_index_or}
use Rattle.std.proofs.lemmas.Bool.Decides.{nat_tests}
use Rattle.std.proofs.lemmas.List.{get_or-map, length-map}
use Rattle.world.specs.declared.message.Message.{Message}
use Rattle.world.specs.History.{Payload, nth}
use Rattle.world.specs.Phases.{Up, is_down}
use Rattle.world.specs.Logs.{sent, is_entry}
use Rattle.world.specs.Plan.{is_number, message_of, logged_as, first_below}
use Rattle.cluster.specs.Parcels.{Told, Restored, reaches}
use Rattle.cluster.specs.Cluster.{Cluster}
use Rattle.cluster.specs.Rules.{IsNode, entry_of}
use Rattle.packets.specs.Packet.{flags_of}
use Rattle.packets.specs.Pages.{entries_from}
use Rattle.packets.specs.Says.{first_told, told_end}
use Rattle.packets.proofs.PageLemmas.{all-told}
use Rattle.packets.proofs.Reports.{found_as, first-split, told-from, entries-over, entries-ordered, logged-when, logged-off, lost-is, exact-is, page-told, page-goes}
use Rattle.stores.specs.declared.peer.Logged.{Logged}
use Rattle.stores.specs.Peer.{ThePeer, no_entry, is_kept, payload_of}
use Rattle.stores.specs.Store.{IsOf}
use Rattle.gateway.specs.Gateway.{TheGateway, peer_of, posts}
use Rattle.gateway.specs.Calls.{entries_in, told_page, told_all, told_of, restores, restored_of}
use Rattle.gateway.specs.Stands.{Stands, Goes}
use Rattle.gateway.proofs.Preservation.{sent-size}
use Rattle.gateway.proofs.Transmission.{sent-is}
use Rattle.gateway.proofs.Changes.{node-is}
use Rattle.gateway.proofs.Steps.{posted, well-here}

abbrev payloads_in : ThePeer → List Payload
payloads_in z = map (λ (e : Logged). e.payload) z.entries

abbrev numbers_in : ThePeer → List (Option ℕ)
numbers_in z = map (λ (e : Logged). e.number) z.entries

module _ (g : TheGateway) (c : Cluster) (d : ℕ) (s : Stands g c) (o : IsNode c d) where
  abbrev z : ThePeer
  z = peer_of d g

  logged : (m i : ℕ) → i < length z.entries → logged_as c.world d m 0 (suc (z.dropped + i)) ≡ found_as 0 m (suc (z.dropped + i)) (slice_index_or (payloads_in z) i []) (slice_index_or (numbers_in z) i None)
  logged m i l =
      let ssn : ℕ = suc (z.dropped + i) in
      let k = s.logs d o in
      let size : length (c.world.inputs d) ≡ z.dropped + length z.entries = sent-size z (c.world.trims 0 d) (c.world.inputs d) (c.world.numbers 0 d) k in
      let kept : is_kept ssn z ≡ true = (let above : nat_lt z.dropped ssn ≡ true = grind (arith, nat_tests) in let within : nat_le ssn (z.dropped + length z.entries) ≡ true = grind (arith, nat_tests) in rw (above, within) refl) in
      let entry : is_entry c.world 0 d ssn ≡ true = (let above : nat_lt (c.world.trims 0 d) ssn ≡ true = (let a : c.world.trims 0 d < ssn = omega (arith, k.dropped_is) in grind (arith, nat_tests)) in
      let within : nat_le ssn (length (c.world.inputs d)) ≡ true = (let b : ssn ≤ length (c.world.inputs d) = omega (arith, size, l) in grind (arith, nat_tests)) in rw (s.phase, above, within) refl) in
      let place : ssn - z.dropped - 1 ≡ i = omega arith in
      let payload : payload_of ssn z ≡ slice_index_or (payloads_in z) i [] = ap (λ n. (slice_index_or z.entries n no_entry).payload) place ∙ sym (get_or-map (λ (e : Logged). e.payload) z.entries i no_entry [] l) in
      let number : c.world.numbers 0 d ssn ≡ slice_index_or (numbers_in z) i None = sym (k.numbers_are i l) ∙ sym (get_or-map (λ (e : Logged). e.number) z.entries i no_entry None l) in
      logged-when (is_entry c.world 0 d ssn) (c.world.numbers 0 d ssn) (slice_index_or (numbers_in z) i None) (nth (c.world.inputs d) ssn) 0 m ssn (slice_index_or (payloads_in z) i [])
      entry number (sent-is z (c.world.trims 0 d) (c.world.inputs d) (c.world.numbers 0 d) ssn k kept ∙ ap Some payload)

  unlogged : (m i : ℕ) → i < suc z.dropped → logged_as c.world d m 0 i ≡ None
  unlogged m i l =
      let k = s.logs d o in
      let off : nat_lt (c.world.trims 0 d) i ≡ false = (let e : c.world.trims 0 d ≡ z.dropped = k.dropped_is in grind (arith, nat_tests)) in
      let none : is_entry c.world 0 d i ≡ false = no_log (not (is_down (c.world.phase 0))) (nat_lt (c.world.trims 0 d) i) (nat_le i (length (sent c.world 0 d))) off in
      logged-off (is_entry c.world 0 d i) (is_number m (c.world.numbers 0 d i)) (message_of 0 i (nth (sent c.world 0 d) i)) none
    where
      no_log : (a b e : Bool) → b ≡ false → (a && b && e) ≡ false
      no_log true true e f = absurd (cc)
      no_log true false e f = refl
      no_log false b e f = refl

  -- what the log has under a number
  pub log-told : (k m : ℕ) → k < m → entry_of c 0 d m ≡ first_told 0 (entries_in k z) m
  log-told k m l =
      let f : ℕ → Option Message = logged_as c.world d m 0 in
      let r = s.logs d o in
      let many : length (payloads_in z) ≡ length z.entries = length-map z.entries (λ (e : Logged). e.payload) in
      let as_many : length (numbers_in z) ≡ length (payloads_in z) = length-map z.entries (λ (e : Logged). e.number) ∙ sym many in
      let size : suc (length (c.world.inputs d)) ≡ suc z.dropped + length (payloads_in z) = (let e : length (c.world.inputs d) ≡ z.dropped + length z.entries = sent-size z (c.world.trims 0 d) (c.world.inputs d) (c.world.numbers 0 d) r in omega (arith, e, many)) in
      let listed : first_told 0 (entries_from k z.dropped (payloads_in z) (numbers_in z)) m ≡ first_below (λ i. f (suc z.dropped + i)) (length (payloads_in z)) =
      told-from 0 k m z.dropped (payloads_in z) (numbers_in z) (λ i. f (suc z.dropped + i)) l as_many
      (λ i t. ap f (let e : suc z.dropped + i ≡ suc (z.dropped + i) = omega arith in e) ∙ logged m i (subst (λ n. i < n) many t)) in
      ap (first_below f) size ∙ first-split f (suc z.dropped) (length (payloads_in z)) (λ i t. unlogged m i t) ∙ sym listed
      ∙ sym (all-told 0 (suc k) [] (entries_from k z.dropped (payloads_in z) (numbers_in z)) m (entries-over k z.dropped (payloads_in z) (numbers_in z)) tt)

-- a page of what the log holds is told: that of the gateway before it heard of the one that asks
pub tells : (old g : TheGateway) (c : Cluster) (p i k : ℕ) → IsOf p old.store → IsOf p g.store → Stands g c → (peer_of p g).dropped ≡ (peer_of p old).dropped → (peer_of p g).entries ≡ (peer_of p old).entries → i ≡ (peer_of p g).heard
    → Goes (posts p (told_of p i k old) g) c
tells old g c p i k was o s dropped entries heard =
    posted g c p (told_of p i k old) (Told i 1 k (told_end (flags_of (told_all p k old) false true) k (told_page p k old)) (entry_of c 0 p)) (entry_of c 0 p, refl, lost-is (told_all p k old) true, told) (exact-is (told_all p k old) true) s node
    (well-here g c s, heard ∙ sym (s.heard p node), sym s.life, (λ v e. page-goes old.page k v true (entries_in k (peer_of p old)) (entries-ordered k (peer_of p old).dropped (payloads_in (peer_of p old)) (numbers_in (peer_of p old))) e), (λ m l r. refl)) tt
  where
    node : IsNode c p
    node = node-is g c p s o

    same : entries_in k (peer_of p g) ≡ entries_in k (peer_of p old)
    same = rw (dropped, entries) refl

    told : (m : ℕ) → k < m → reaches (told_end (flags_of (told_all p k old) false true) k (told_page p k old)) m ≡ true → entry_of c 0 p m ≡ first_told 0 (told_page p k old) m
    told m l r = log-told g c p s node k m l ∙ ap (λ es. first_told 0 es m) same ∙ page-told old.page 0 k m true (entries_in k (peer_of p old)) l (entries-ordered k (peer_of p old).dropped (payloads_in (peer_of p old)) (numbers_in (peer_of p old))) r

-- the answer to a Resume
pub restoring : (g : TheGateway) (c : Cluster) (p i n : ℕ) → IsOf p g.store → Stands g c → i ≡ (peer_of p g).heard → (peer_of p g).resumed ≡ true → Goes (restores p i n g) c
restoring g c p i n o s heard resumed =
    posted g c p (restored_of p i n g) (Restored i 1 (peer_of p g).shown n None (λ ssn. None)) ((λ ssn. None), refl, (λ ssn a b r. refl)) refl s node
    (well-here g c s, heard ∙ sym (s.heard p node), s.resumed p node ∙ resumed, (λ m busy. absurd (let up : c.world.phase 0 ≡ Up = s.phase in cc)), sym s.life, s.shown p node, (λ v e. absurd (cc)), (λ ssn l r. rw s.history refl)) tt
  where
    node : IsNode c p
    node = node-is g c p s o
