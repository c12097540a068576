-- What the gateway sends, and sends again, it may
use Rattle.std.proofs.Common.{◌≡◌, ℕ, zero, suc, ◌+◌, ◌-◌, ◌<◌, ◌≤◌, List, [], ◌∷◌, ◌++◌, length, map, take, drop, Bool, true, false, refl, sym, ap, ◌∙◌, subst, arith}
use Rattle.std.specs.Prelude.{Option, Some, None, is_none, slice_index_or, nat_lt, nat_le, if◌then◌else◌}
use Rattle.std.specs.List.{AllByRecursion}
use Rattle.std.proofs.lemmas.Bool.Decides.{nat_tests}
use Rattle.std.proofs.lemmas.List.{get_or-map, length-map}
use Rattle.world.specs.History.{Payload, nth}
use Rattle.cluster.specs.Parcels.{Delivery, Saved}
use Rattle.cluster.specs.Rules.{IsNode}
use Rattle.packets.specs.declared.packet.Body.TheVariants as packets
use Rattle.packets.proofs.Lists.{get-behind, get-some}
use Rattle.stores.specs.declared.peer.Logged.{Logged}
use Rattle.stores.specs.declared.change.Change.TheVariants as changes
use Rattle.stores.specs.Peer.{ThePeer, no_entry, last_of, is_kept, payload_of, number_of, appended}
use Rattle.stores.specs.Store.{IsOf}
use Rattle.gateway.specs.Gateway.{TheGateway, peer_of, delivers, happens, puts_in, hands_out, unnumbered, delivers_each, resent, ticked_to, ticked}
use Rattle.gateway.specs.Calls.{says_shown}
use Rattle.gateway.specs.Stands.{KeepsOf, Acts}
use Rattle.stores.proofs.Peers.{here-is, inside}
use Rattle.gateway.proofs.Preservation.{kept-within, sent-size}
use Rattle.gateway.proofs.Changes.{node-is, goes-input, goes-taken}
use Rattle.gateway.proofs.Steps.{posted, well-here, acts-self, acts-then, by-if}

-- Messages
abbrev payload_in : Logged → List ℕ
payload_in e = e.payload

-- a message that is kept is the one that was sent
pub sent-is : (p : ThePeer) (d : ℕ) (xs : List Payload) (numbers : ℕ → Option ℕ) (ssn : ℕ) → KeepsOf p d xs numbers → is_kept ssn p ≡ true → nth xs ssn ≡ Some (payload_of ssn p)
sent-is p d xs numbers ssn k kept =
    let w = kept-within p ssn kept in
    let place : ssn ≡ suc (length k.before + (ssn - p.dropped - 1)) = omega (arith, w.0, k.many) in
    let inside : ssn - p.dropped - 1 < length p.entries = omega (arith, w.0, w.1) in
    let within : ssn - p.dropped - 1 < length (map payload_in p.entries) = omega (arith, inside, length-map p.entries payload_in) in
    ap (λ h. nth h ssn) (sym k.joined) ∙ ap (nth (k.before ++ map payload_in p.entries)) place
    ∙ get-behind k.before (map payload_in p.entries) (ssn - p.dropped - 1) (payload_of ssn p)
    (get-some (map payload_in p.entries) (ssn - p.dropped - 1) within ∙ ap Some (get_or-map payload_in p.entries (ssn - p.dropped - 1) no_entry [] inside))

pub delivering : (g : TheGateway) (p ssn : ℕ) → IsOf p g.store → is_kept ssn (peer_of p g) ≡ true → Acts g (delivers p ssn g)
delivering g p ssn o kept c s u =
    let node : IsNode c p = node-is g c p s o in
    let l = s.logs p node in
    let w = kept-within (peer_of p g) ssn kept in
    let size : length (c.world.inputs p) ≡ last_of (peer_of p g) = sent-size (peer_of p g) (c.world.trims 0 p) (c.world.inputs p) (c.world.numbers 0 p) l in
    let x : Payload = payload_of ssn (peer_of p g) in
    posted g c p (packets.Delivery 1 ssn x) (Delivery 1 ssn x) refl tt s node
    (well-here g c s, sym s.life, omega (arith, w.1, size), omega (arith, w.0, l.dropped_is), sent-is (peer_of p g) (c.world.trims 0 p) (c.world.inputs p) (c.world.numbers 0 p) ssn l kept) (λ durable. omega (arith, w.1, size))

-- a process is told how many of its outputs were shown
pub saying-shown : (g : TheGateway) (p : ℕ) → IsOf p g.store → Acts g (says_shown p g)
saying-shown g p o c s u =
    let node : IsNode c p = node-is g c p s o in
    posted g c p (packets.Saved (peer_of p g).shown) (Saved (peer_of p g).shown) refl tt s node (well-here g c s, s.shown p node) tt

-- the last one is kept
last-kept : (p : ThePeer) (x : Payload) → is_kept (last_of p + 1) (appended x p) ≡ true
last-kept p x =
    let new : Logged = record { number = None; payload = x } in
    let size : length (p.entries ++ new ∷ []) ≡ length p.entries + 1 = pushed p.entries new in
    let a : nat_lt p.dropped (last_of p + 1) ≡ true = grind (arith, nat_tests) in
    let b : nat_le (last_of p + 1) (p.dropped + length (p.entries ++ new ∷ [])) ≡ true = (let l : last_of p + 1 ≤ p.dropped + length (p.entries ++ new ∷ []) = omega (arith, size) in grind (arith, nat_tests)) in
    rw (a, b) refl
  where
    pushed : (xs : List Logged) (y : Logged) → length (xs ++ y ∷ []) ≡ length xs + 1
    pushed [] y = refl
    pushed (z ∷ xs) y = ap suc (pushed xs y) ∙ (let e : suc (length xs + 1) ≡ suc (length xs) + 1 = omega arith in e)

-- an input is logged, and sent
pub putting-in : (g : TheGateway) (p : ℕ) (x : Payload) → IsOf p g.store → Acts g (puts_in p x g)
putting-in g p x o =
    let m : TheGateway = happens (changes.Input p x) g in
    let there : peer_of p m ≡ appended x (peer_of p g) = here-is g.store p (appended x (peer_of p g)) o in
    let kept : is_kept (last_of (peer_of p g) + 1) (peer_of p m) ≡ true = subst (λ z. is_kept (last_of (peer_of p g) + 1) z ≡ true) (sym there) (last-kept (peer_of p g) x) in
    acts-then g m (puts_in p x g) (λ c s u. goes-input g c p x o s) (delivering m p (last_of (peer_of p g) + 1) (inside g.store p (appended x (peer_of p g)) o) kept)

pub handing-out : (g : TheGateway) → Acts g (hands_out g)
handing-out g = by-if (Acts g) (nat_lt 0 (length g.store.outputs)) (happens (changes.Taken 1) g) g (λ e c s u. goes-taken g c 1 s) (λ e. acts-self g)

-- Again

-- the entries without a number are kept
one-more : (s n : ℕ) (ts : List ℕ) → AllByRecursion (λ t. (suc s < t) × (t ≤ suc s + n)) ts → AllByRecursion (λ t. (s < t) × (t ≤ s + suc n)) ts
one-more s n [] h = tt
one-more s n (t ∷ ts) h = ((omega (arith, h.0.0), omega (arith, h.0.1)), one-more s n ts h.1)

unnumbered-within : (s : ℕ) (es : List Logged) → AllByRecursion (λ t. (s < t) × (t ≤ s + length es)) (unnumbered s es)
unnumbered-within s [] = tt
unnumbered-within s (e ∷ es) =
    by-if (AllByRecursion (λ t. (s < t) × (t ≤ s + suc (length es)))) (is_none e.number) (suc s ∷ unnumbered (suc s) es) (unnumbered (suc s) es)
    (λ f. ((omega arith, omega arith), one-more s (length es) (unnumbered (suc s) es) (unnumbered-within (suc s) es)))
    (λ f. one-more s (length es) (unnumbered (suc s) es) (unnumbered-within (suc s) es))

pub delivering-each : (g : TheGateway) (p : ℕ) (ts : List ℕ) (k : ℕ) → IsOf p g.store → AllByRecursion (λ t. ((peer_of p g).dropped < t) × (t ≤ last_of (peer_of p g))) ts → Acts g (delivers_each p (take k ts) g)
delivering-each g p [] zero o h = acts-self g
delivering-each g p [] (suc k) o h = acts-self g
delivering-each g p (t ∷ ts) zero o h = acts-self g
delivering-each g p (t ∷ ts) (suc k) o h =
    let a : nat_lt (peer_of p g).dropped t ≡ true = (let l = h.0.0 in grind (arith, nat_tests)) in
    let b : nat_le t (last_of (peer_of p g)) ≡ true = (let l = h.0.1 in grind (arith, nat_tests)) in
    let kept : is_kept t (peer_of p g) ≡ true = rw (a, b) refl in
    acts-then g (delivers p t g) (delivers_each p (take k ts) (delivers p t g)) (delivering g p t o kept) (delivering-each (delivers p t g) p ts k o h.1)

resending : (g : TheGateway) (p : ℕ) → IsOf p g.store → Acts g (resent p g)
resending g p o = delivering-each g p (unnumbered (peer_of p g).dropped (peer_of p g).entries) g.tick o (unnumbered-within (peer_of p g).dropped (peer_of p g).entries)

-- what is sent changes nothing that is kept
pub store-each : (p : ℕ) (ts : List ℕ) (g : TheGateway) → (delivers_each p ts g).store ≡ g.store
store-each p [] g = refl
store-each p (t ∷ ts) g = store-each p ts (delivers p t g)

pub store-ticked : (k : ℕ) (g : TheGateway) → (ticked_to k g).store ≡ g.store
store-ticked zero g = refl
store-ticked (suc k) g = let m = ticked_to k g in store-each (suc k) (take m.tick (unnumbered (peer_of (suc k) m).dropped (peer_of (suc k) m).entries)) m ∙ store-ticked k g

ticking-to : (g : TheGateway) (k : ℕ) → k ≤ length g.store.peers → Acts g (ticked_to k g)
ticking-to g zero low = acts-self g
ticking-to g (suc k) low =
    let own : IsOf (suc k) g.store = record { some = omega arith; low = low } in
    acts-then g (ticked_to k g) (resent (suc k) (ticked_to k g)) (ticking-to g k (omega (arith, low))) (resending (ticked_to k g) (suc k) (subst (IsOf (suc k)) (sym (store-ticked k g)) own))

pub ticking : (g : TheGateway) → Acts g (ticked g)
ticking g = ticking-to g (length g.store.peers) (omega arith)

-- What the loop of a tick goes through: one message more is looked at
pub unnumbered-step : (p : ThePeer) (s : ℕ) → p.dropped ≤ s → s < last_of p → (b : Bool) → is_none (number_of (s + 1) p) ≡ b
    → unnumbered s (drop (s - p.dropped) p.entries) ≡ (if b then (s + 1) ∷ unnumbered (s + 1) (drop (s + 1 - p.dropped) p.entries) else unnumbered (s + 1) (drop (s + 1 - p.dropped) p.entries))
unnumbered-step p s above below b e =
    let i : ℕ = s - p.dropped in
    let inside : s - p.dropped < length p.entries = omega (arith, above, below) in
    let after : s + 1 - p.dropped ≡ suc (s - p.dropped) = omega (arith, above) in
    let here : s + 1 - p.dropped - 1 ≡ s - p.dropped = omega (arith, above) in
    let next : s + 1 ≡ suc s = omega arith in
    let f : is_none (slice_index_or p.entries (s - p.dropped) no_entry).number ≡ b = ap (λ z. is_none (slice_index_or p.entries z no_entry).number) (sym here) ∙ e in
    ap (unnumbered s) (split p.entries (s - p.dropped) inside) ∙ rw (after, next) (by f)
  where
    split : (es : List Logged) (i : ℕ) → i < length es → drop i es ≡ slice_index_or es i no_entry ∷ drop (suc i) es
    split [] i l = absurd (omega (arith, l))
    split (x ∷ xs) zero l = refl
    split (x ∷ xs) (suc i) l = split xs i (omega (arith, l))

    by : is_none (slice_index_or p.entries (s - p.dropped) no_entry).number ≡ b
        → unnumbered s (slice_index_or p.entries (s - p.dropped) no_entry ∷ drop (suc (s - p.dropped)) p.entries) ≡ (if b then suc s ∷ unnumbered (suc s) (drop (suc (s - p.dropped)) p.entries) else unnumbered (suc s) (drop (suc (s - p.dropped)) p.entries))
    by f = rw f refl

module _ (p : ℕ) (z : ThePeer) (s new r : TheGateway) (at left : ℕ) (above : z.dropped ≤ at) (below : at < last_of z) where
  abbrev rest : List ℕ
  rest = unnumbered at (drop (at - z.dropped) z.entries)

  abbrev next : List ℕ
  next = unnumbered (at + 1) (drop (at + 1 - z.dropped) z.entries)

  -- it has no number, and is sent
  pub resent-some : 0 < left → is_none (number_of (at + 1) z) ≡ true → new ≡ delivers p (at + 1) s → delivers_each p (take left rest) s ≡ r → delivers_each p (take (left - 1) next) new ≡ r
  resent-some some none is e =
      let l : left ≡ suc (left - 1) = omega (arith, some) in
      ap (delivers_each p (take (left - 1) next)) is ∙ sym (ap (λ k. delivers_each p (take k ((at + 1) ∷ next)) s) l) ∙ sym (ap (λ us. delivers_each p (take left us) s) (unnumbered-step z at above below true none)) ∙ e

  -- it has one
  pub resent-none : is_none (number_of (at + 1) z) ≡ false → new ≡ s → delivers_each p (take left rest) s ≡ r → delivers_each p (take left next) new ≡ r
  resent-none one is e = ap (delivers_each p (take left next)) is ∙ sym (ap (λ us. delivers_each p (take left us) s) (unnumbered-step z at above below false one)) ∙ e

pub store-resent : (p : ℕ) (g : TheGateway) → (resent p g).store ≡ g.store
store-resent p g = store-each p (take g.tick (unnumbered (peer_of p g).dropped (peer_of p g).entries)) g

-- one process more is served
pub ticked-more : (k : ℕ) (g : TheGateway) → resent (k + 1) (ticked_to k g) ≡ ticked_to (k + 1) g
ticked-more k g = let e : k + 1 ≡ suc k = omega arith in rw e refl
