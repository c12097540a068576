-- What the gateway gives and hands out
use Rattle.std.proofs.Common.{◌≡◌, ℕ, zero, suc, ◌+◌, ◌-◌, List, [], ◌∷◌, length, min, Bool, true, false, refl, sym, ap, ◌∙◌, subst, take, drop, arith, inl, inr}
use Rattle.std.specs.Prelude.{◌⊎◌, not, ◌&&◌, ◌||◌, ◌==◌, nat_lt, nat_le, if◌then◌else◌}
use Rattle.std.proofs.lemmas.Bool.Decides.{nat_tests}
use Rattle.theorems.proofs.Tests.{both}
use Rattle.packets.specs.declared.packet.Body as bodies
use Rattle.packets.specs.declared.packet.Body.TheVariants as packets
use Rattle.packets.specs.declared.packet.NodePacket.{NodePacket}
use Rattle.packets.specs.Packet.{in_range}
use Rattle.stores.specs.declared.change.Output.{Output}
use Rattle.stores.specs.declared.change.Change.{Change}
use Rattle.stores.specs.declared.change.Change.TheVariants as changes
use Rattle.stores.specs.Peer.{ThePeer, last_of, is_kept, payload_of, appended, recorded, dropped_to, hears, forgets}
use Rattle.stores.specs.Store.{TheStore, IsOf, peer_at, with_peer, applied}
use Rattle.gateway.specs.Gateway.{TheGateway, peer_of, packet_of, posts, happens, delivers, puts_in, hands_out, unnumbered, delivers_each, ticked_to, ticked}
use Rattle.gateway.specs.Calls.{is_for, is_next, says_shown, arrived, recorded_by, dropped_by, told_of, asked, obeyed, restored_of, restores, resumed_by, told, handed}
use Rattle.gateway.proofs.Steps.{by-if}
use Rattle.node.specs.Stands.{Each}
use Rattle.node.proofs.Lists.{all-pushed}
use Rattle.node_laws.specs.HostSystem.{handed_out, PutIn, Deals}

-- by itself it bears messages, says what was shown, and acknowledges
abbrev pub IsPlain : bodies.Body → Type 0
IsPlain (packets.Delivery i ssn x) = Unit {0}
IsPlain (packets.Acknowledgement i k) = Unit {0}
IsPlain (packets.Saved k) = Unit {0}
IsPlain other = ⊥

-- what waits to be sent is so; and of its store this holds
pub record Held (Own : NodePacket → Type 0) (Q : TheStore → Type 0) (g : TheGateway) : Type 0 where
  pub out : Each Own g.out
  pub store : Q g.store

-- it does so whatever else changes of a process than how many of its outputs were shown
abbrev pub Steady : (TheStore → Type 0) → Type 0
Steady Q = (p : ℕ) (new : ThePeer) (s : TheStore) → new.shown ≡ (peer_at p s).shown → Q s → Q (with_peer p new s)

-- an output of p
abbrev pub output : ℕ → ℕ → List ℕ → Output
output p ssn x = record { process = p; ssn = ssn; payload = x }

-- and where the output that a packet bears is shown, as the next of its process
abbrev pub TakesOutput : (TheStore → Type 0) → NodePacket → TheGateway → Type 0
TakesOutput Q x g =
    x.to ≡ 0 → IsOf x.from g.store → (i ssn : ℕ) (y : List ℕ) → x.body ≡ packets.Delivery i ssn y → is_next (output x.from ssn y) g ≡ true → Q g.store → Q (applied (changes.Shown (output x.from ssn y)) g.store)

-- what is sent again changes nothing in its store
sent-each : (p : ℕ) (ss : List ℕ) (g : TheGateway) → (delivers_each p ss g).store ≡ g.store
sent-each p [] g = refl
sent-each p (s ∷ ss) g = sent-each p ss (delivers p s g)

ticked-each : (k : ℕ) (g : TheGateway) → (ticked_to k g).store ≡ g.store
ticked-each zero g = refl
ticked-each (suc k) g =
    let m : TheGateway = ticked_to k g in
    sent-each (suc k) (take m.tick (unnumbered (peer_of (suc k) m).dropped (peer_of (suc k) m).entries)) m ∙ ticked-each k g

-- where as many outputs wait as before, none was handed out
none-out : (g new : TheGateway) → new.store.outputs ≡ g.store.outputs → handed_out g new ≡ []
none-out g new e =
    let none : length g.store.outputs - length new.store.outputs ≡ 0 = omega (arith, ap length e) in
    ap (λ k. take k g.store.outputs) none

ticked-outputs : (g new : TheGateway) → new ≡ ticked g → new.store.outputs ≡ g.store.outputs
ticked-outputs g new e = ap (λ (z : TheGateway). z.store.outputs) e ∙ ap (λ (z : TheStore). z.outputs) (ticked-each (length g.store.peers) g)

-- it hands out the first output, and no other
pub record HandsOut (g new : TheGateway) : Type 0 where
  pub output : Output
  pub rest : List Output
  pub waited : g.store.outputs ≡ output ∷ rest
  pub is : new ≡ happens (changes.Taken 1) g
  pub handed : handed_out g new ≡ output ∷ []

-- it hands out nothing: an input comes, it sends again what isn't answered, or it tells what happened
abbrev pub IsQuietDeal : TheGateway → TheGateway → Type 0
IsQuietDeal g new = PutIn g new ⊎ ((new ≡ ticked g) ⊎ (new ≡ record g { changes = [] }))

-- it does one of these, or nothing
abbrev pub DealsSo : TheGateway → TheGateway → Type 0
DealsSo g new = HandsOut g new ⊎ ((handed_out g new ≡ []) × ((new ≡ g) ⊎ IsQuietDeal g new))

hands-so : (g new : TheGateway) → new ≡ hands_out g → DealsSo g new
hands-so g new e = split g.store.outputs refl
  where
    split : (outs : List Output) → g.store.outputs ≡ outs → DealsSo g new
    split [] none =
        let few : nat_lt 0 (length g.store.outputs) ≡ false = (let z : length g.store.outputs ≡ 0 = ap length none in grind (arith, nat_tests)) in
        let same : new ≡ g = e ∙ ap (λ b. if b then happens (changes.Taken 1) g else g) few in
        inr (none-out g new (ap (λ (z : TheGateway). z.store.outputs) same), inl same)
    split (o ∷ os) some =
        let many : nat_lt 0 (length g.store.outputs) ≡ true = (let z : length g.store.outputs ≡ suc (length os) = ap length some in grind (arith, nat_tests)) in
        let is : new ≡ happens (changes.Taken 1) g = e ∙ ap (λ b. if b then happens (changes.Taken 1) g else g) many in
        let left : new.store.outputs ≡ os = ap (λ (z : TheGateway). z.store.outputs) is ∙ ap (drop 1) some in
        let one : length (o ∷ os) - length os ≡ 1 = omega arith in
        let out : handed_out g new ≡ take (length (o ∷ os) - length os) (o ∷ os) =
        ap (λ z. take (length g.store.outputs - length z) g.store.outputs) left ∙ ap (λ z. take (length z - length os) z) some in
        inl (record { output = o; rest = os; waited = some; is = is; handed = out ∙ ap (λ k. take k (o ∷ os)) one })

pub deals-so : (g new : TheGateway) → Deals g new → DealsSo g new
deals-so g new (inl d) = inr (none-out g new (ap (λ (z : TheGateway). z.store.outputs) d.1.1.0), inr (inl d))
deals-so g new (inr (inl e)) = hands-so g new e
deals-so g new (inr (inr (inl e))) = inr (none-out g new (ticked-outputs g new e), inr (inr (inl e)))
deals-so g new (inr (inr (inr e))) = inr (none-out g new (ap (λ (z : TheGateway). z.store.outputs) e), inr (inr (inr e)))

module _ (Own : NodePacket → Type 0) (plain : (to : ℕ) (b : bodies.Body) (g : TheGateway) → IsPlain b → Own (packet_of g to b)) (Q : TheStore → Type 0) (steady : Steady Q) where
  abbrev On : TheGateway → Type 0
  On g = Held Own Q g

  posting : (to : ℕ) (x : bodies.Body) (g : TheGateway) → Own (packet_of g to x) → On g → On (posts to x g)
  posting to x g o s = record { out = all-pushed Own g.out (packet_of g to x) s.out o; store = s.store }

  posting-plain : (to : ℕ) (x : bodies.Body) (g : TheGateway) → IsPlain x → On g → On (posts to x g)
  posting-plain to x g p s = posting to x g (plain to x g p) s

  delivering : (p ssn : ℕ) (g : TheGateway) → On g → On (delivers p ssn g)
  delivering p ssn g s = posting-plain p (packets.Delivery 1 ssn (payload_of ssn (peer_of p g))) g tt s

  delivering-each : (p : ℕ) (ss : List ℕ) (g : TheGateway) → On g → On (delivers_each p ss g)
  delivering-each p [] g o = o
  delivering-each p (s ∷ ss) g o = delivering-each p ss (delivers p s g) (delivering p s g o)

  ticking : (k : ℕ) (g : TheGateway) → On g → On (ticked_to k g)
  ticking zero g s = s
  ticking (suc k) g s =
      let m : TheGateway = ticked_to k g in
      delivering-each (suc k) (take m.tick (unnumbered (peer_of (suc k) m).dropped (peer_of (suc k) m).entries)) m (ticking k g s)

  -- something else changes of a process
  changing : (k : Change) (p : ℕ) (new : ThePeer) (g : TheGateway) → applied k g.store ≡ with_peer p new g.store → new.shown ≡ (peer_of p g).shown → On g → On (happens k g)
  changing k p new g is same s = record { out = s.out; store = subst Q (sym is) (steady p new g.store same s.store) }

  -- an input comes
  puts : (g new : TheGateway) → PutIn g new → On g → On new
  puts g new d s =
      let m : TheGateway = happens (changes.Input d.0 d.1.0) g in
      let goes : On (puts_in d.0 d.1.0 g) = delivering d.0 (last_of (peer_of d.0 g) + 1) m (changing (changes.Input d.0 d.1.0) d.0 (appended d.1.0 (peer_of d.0 g)) g refl refl s) in
      subst On (sym d.1.1.0) goes

  -- it sends again what isn't answered
  ticks : (g new : TheGateway) → new ≡ ticked g → On g → On new
  ticks g new e s = subst On (sym e) (ticking (length g.store.peers) g s)

  -- it tells what happened
  tells : (g new : TheGateway) → new ≡ record g { changes = [] } → On g → On new
  tells g new e s = let goes : On (record g { changes = [] }) = record { out = s.out; store = s.store } in subst On (sym e) goes

  -- it hands out nothing
  pub quiet : (g new : TheGateway) → (new ≡ g) ⊎ IsQuietDeal g new → On g → On new
  quiet g new (inl same) s = subst On (sym same) s
  quiet g new (inr (inl put)) s = puts g new put s
  quiet g new (inr (inr (inl is))) s = ticks g new is s
  quiet g new (inr (inr (inr is))) s = tells g new is s

  -- ---- what a process says

  delivery : (i : ℕ) (o : Output) (g : TheGateway) → (is_next o g ≡ true → Q g.store → Q (applied (changes.Shown o) g.store)) → On g → On (arrived i o g)
  delivery i o g good s =
      let m : TheGateway = if is_next o g then happens (changes.Shown o) g else g in
      let here : On m = by-if On (is_next o g) (happens (changes.Shown o) g) g (λ e. record { out = s.out; store = good e s.store }) (λ e. s) in
      by-if On (not (i == (peer_of o.process g).heard) || nat_lt ((peer_of o.process g).shown + 1) o.ssn) g (says_shown o.process m) (λ e. s)
      (λ e. posting-plain o.process (packets.Saved (peer_of o.process m).shown) m tt here)

  number : (p i ssn k : ℕ) (g : TheGateway) → On g → On (recorded_by p i ssn k g)
  number p i ssn k g s =
      let m : TheGateway = happens (changes.Numbered p ssn k) g in
      by-if On ((i == (peer_of p g).heard) && is_kept ssn (peer_of p g)) (posts p (packets.Acknowledgement i k) m) g
      (λ e. posting-plain p (packets.Acknowledgement i k) m tt (changing (changes.Numbered p ssn k) p (recorded ssn k (peer_of p g)) g refl refl s)) (λ e. s)

  drops : (p k : ℕ) (g : TheGateway) → On g → On (dropped_by p k g)
  drops p k g s =
      let n : ℕ = min k (last_of (peer_of p g)) in
      by-if On (nat_le n (peer_of p g).dropped) g (happens (changes.Dropped p n) g) (λ e. s) (λ e. changing (changes.Dropped p n) p (dropped_to n (peer_of p g)) g refl refl s)

  hearing : (p i : ℕ) (resumed : Bool) (g : TheGateway) → On g → On (happens (changes.Heard p i resumed) g)
  hearing p i resumed g s = changing (changes.Heard p i resumed) p (hears i resumed (peer_of p g)) g refl refl s

  asking : (p i k : ℕ) (g : TheGateway) → ((m : TheGateway) → Own (packet_of m p (told_of p i k g))) → On g → On (asked p i k g)
  asking p i k g own s =
      let m : TheGateway = if i == (peer_of p g).heard then g else happens (changes.Heard p i false) g in
      let here : On m = by-if On (i == (peer_of p g).heard) g (happens (changes.Heard p i false) g) (λ e. s) (λ e. hearing p i false g s) in
      by-if On (nat_lt i (peer_of p g).heard) g (posts p (told_of p i k g) m) (λ e. s) (λ e. posting p (told_of p i k g) m (own m) here)

  resuming : (p i k r : ℕ) (g : TheGateway) → ((m : TheGateway) → Own (packet_of m p (restored_of p i r m))) → On g → On (resumed_by p i k r g)
  resuming p i k r g own s =
      let m : TheGateway = if (peer_of p g).resumed then g else obeyed p i k g in
      let here : On m = by-if On (peer_of p g).resumed g (obeyed p i k g) (λ e. s)
      (λ e. hearing p i true (happens (changes.Forgotten p k) g) (changing (changes.Forgotten p k) p (forgets k (peer_of p g)) g refl refl s)) in
      by-if On (i == (peer_of p g).heard) (restores p i r m) g (λ e. posting p (restored_of p i r m) m (own m) here) (λ e. s)

  -- what it answers is so
  abbrev pub AnswersSo : ℕ → bodies.Body → TheGateway → Type 0
  AnswersSo p (packets.Ask i k) g = (m : TheGateway) → Own (packet_of m p (told_of p i k g))
  AnswersSo p (packets.Resume i k r) g = (m : TheGateway) → Own (packet_of m p (restored_of p i r m))
  AnswersSo p other g = Unit {0}

  told-on : (from : ℕ) (b : bodies.Body) (g : TheGateway) → AnswersSo from b g → ((i ssn : ℕ) (x : List ℕ) → b ≡ packets.Delivery i ssn x → is_next (output from ssn x) g ≡ true → Q g.store → Q (applied (changes.Shown (output from ssn x)) g.store)) → On g → On (told from b g)
  told-on from (packets.Delivery i ssn x) g own good s = delivery i (output from ssn x) g (good i ssn x refl) s
  told-on from (packets.Number i ssn k) g own good s = number from i ssn k g s
  told-on from (packets.Saved k) g own good s = drops from k g s
  told-on from (packets.Ask i k) g own good s = asking from i k g own s
  told-on from (packets.Resume i k r) g own good s = resuming from i k r g own s
  told-on from other g own good s = s

  pub hands : (x : NodePacket) (g : TheGateway) → AnswersSo x.from x.body g → TakesOutput Q x g → On g → On (handed x g)
  hands x g own good s = by-if On (is_for g x) (told x.from x.body g) g (λ e. let h = here e in told-on x.from x.body g own (good h.0 h.1) s) (λ e. s)
    where
      here : is_for g x ≡ true → (x.to ≡ 0) × IsOf x.from g.store
      here e =
          let a = both ((x.count == length g.store.peers) && (x.to == 0) && nat_lt 0 x.from && nat_le x.from x.count) (in_range x.body) e in
          let b = both ((x.count == length g.store.peers) && (x.to == 0) && nat_lt 0 x.from) (nat_le x.from x.count) a.0 in
          let c = both ((x.count == length g.store.peers) && (x.to == 0)) (nat_lt 0 x.from) b.0 in
          let d = both (x.count == length g.store.peers) (x.to == 0) c.0 in
          let many : (x.count == length g.store.peers) ≡ true = d.0 in
          let to : (x.to == 0) ≡ true = d.1 in
          let some : nat_lt 0 x.from ≡ true = c.1 in
          let low : nat_le x.from x.count ≡ true = b.1 in
          (grind (arith, nat_tests), record { some = grind (arith, nat_tests); low = grind (arith, nat_tests) })

-- ---- whatever it gives

abbrev pub OfGateway : (TheStore → Type 0) → TheGateway → Type 0
OfGateway = Held (λ x. Unit {0})

answers-any : (p : ℕ) (b : bodies.Body) (g : TheGateway) → AnswersSo (λ x. Unit {0}) (λ to c m i. tt) (λ s. Unit {0}) (λ q new s e a. a) p b g
answers-any p (packets.Ask i k) g = λ m. tt
answers-any p (packets.Resume i k r) g = λ m. tt
answers-any p other g = tt

pub any-hands : (Q : TheStore → Type 0) → Steady Q → (x : NodePacket) (g : TheGateway) → TakesOutput Q x g → OfGateway Q g → OfGateway Q (handed x g)
any-hands Q steady x g good s = hands (λ y. Unit {0}) (λ to c m i. tt) Q steady x g (answers-any x.from x.body g) good s
