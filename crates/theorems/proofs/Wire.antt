-- An input, and packets that are sent, copied or lost
use Rattle.std.proofs.Common.{◌≡◌, ◌≢◌, ℕ, ◌≤◌, List, [], ◌∷◌, ◌++◌, length, take, Bool, true, false, refl, arith}
use Rattle.std.specs.Prelude.{Option, Some, None, if◌then◌else◌, ◌==◌}
use Rattle.world.specs.declared.message.Message.{Message}
use Rattle.world.specs.declared.packet.Packet.{Packet}
use Rattle.world.specs.History.{Payload, nth}
use Rattle.world.specs.World.{World, put}
use Rattle.world.specs.Logs.{payloads, sent, length_of, released_to}
use Rattle.world.specs.Plan.{message_of}
use Rattle.world.specs.Calls.{input, delivery, transmit}
use Rattle.theorems.specs.Growth.{Begins}
use Rattle.theorems.specs.Invariants.Secured.{Secured}
use Rattle.theorems.specs.Invariants.Sound.{PacketShape, Sound}
use Rattle.theorems.specs.Invariants.Exact.{PacketTrue, Exact}
use Rattle.theorems.proofs.Changes.{choose}
use Rattle.theorems.proofs.ListLemmas.{begins-self, begins-length}
use Rattle.theorems.proofs.LogLemmas.{payloads-agree}
use Rattle.theorems.proofs.SecuredLemmas.{Carries, carries-grown, secured-none}
use Rattle.theorems.proofs.Frames.{put-wire, sound-wire, exact-wire, sound-beside, exact-carried}

-- one key gets a packet, or none
pub sound-put : (w : World) (key : ℕ) (x : Option Packet) → PacketShape w x → Sound w → Sound (record w { wire = put w.wire key x })
sound-put w key x now h = sound-wire w (put w.wire key x) w.started (put-wire (PacketShape w) w.wire key x h.packets now) h

pub exact-put : (w : World) (key : ℕ) (x : Option Packet) → PacketTrue w x → Exact w → Exact (record w { wire = put w.wire key x })
exact-put w key x now h = exact-wire w (put w.wire key x) w.started (put-wire (PacketTrue w) w.wire key x h.packets now) h

-- a packet goes and another comes
pub sound-swap : (w : World) (key new : ℕ) (x : Option Packet) → PacketShape w x → Sound w → Sound (record w { wire = put (put w.wire key None) new x })
sound-swap w key new x now h = sound-wire w _ w.started (put-wire (PacketShape w) (put w.wire key None) new x (put-wire (PacketShape w) w.wire key None h.packets tt) now) h

pub exact-swap : (w : World) (key new : ℕ) (x : Option Packet) → PacketTrue w x → Exact w → Exact (record w { wire = put (put w.wire key None) new x })
exact-swap w key new x now h = exact-wire w _ w.started (put-wire (PacketTrue w) (put w.wire key None) new x (put-wire (PacketTrue w) w.wire key None h.packets tt) now) h

pub sound-transmit : (w : World) (p d i key : ℕ) → p ≤ w.count → d ≤ w.count → p ≢ d → Sound w → Sound (transmit w p d i key)
sound-transmit w p d i key a b ne h = sound-put w key _ (shape (nth (sent w p d) i)) h
  where
    shape : (x : Option Payload) → PacketShape w (delivery d (message_of p i x))
    shape None = tt
    shape (Some x) = record { other = ne; inside = b; from = a }

-- what is released is sent by what is secured
released-upto : (w : World) → Exact w → (p d i : ℕ) → i ≤ released_to w p d → record { upto : ℕ; secured : Secured w p upto; within : i ≤ length (payloads w p (take upto (w.history p)) d) }
released-upto w h p d i l = split (p == 0) refl
  where
    split : (b : Bool) → (p == 0) ≡ b → record { upto : ℕ; secured : Secured w p upto; within : i ≤ length (payloads w p (take upto (w.history p)) d) }
    split true e = record { upto = 0; secured = secured-none w p; within = rw e (rw e at l) }
    split false e =
        let r = h.released p d in
        let a : w.released p d ≤ length (payloads w p (take r.upto (w.history p)) d) = r.within in
        let b : i ≤ w.released p d = rw e at l in
        record { upto = r.upto; secured = r.secured; within = omega arith }

pub exact-transmit : (w : World) (p d i key : ℕ) → i ≤ released_to w p d → Sound w → Exact w → Exact (transmit w p d i key)
exact-transmit w p d i key l s h = exact-put w key _ (truth (nth (sent w p d) i) refl) h
  where
    truth : (x : Option Payload) → nth (sent w p d) i ≡ x → PacketTrue w (delivery d (message_of p i x))
    truth None e = tt
    truth (Some x) e = let r = released-upto w h p d i l in
        record { upto = r.upto; secured = r.secured; sends = payloads-agree w s.grows p (w.history p) d (length_of w p) r.upto i x e r.within }

pub sound-input : (w : World) (d feed : ℕ) (x : Payload) → Sound w → Sound (input w d feed x)
sound-input w d feed x h = sound-beside w w.numbers w.released (put w.inputs d (w.inputs d ++ x ∷ [])) (put w.feeds feed true) h

pub carries-input : (w : World) (d feed : ℕ) (x : Payload) → Carries w (input w d feed x)
carries-input w d feed x =
    let v : World = input w d feed x in
    let more : (a : ℕ) (g : List Message) (q : ℕ) → Begins (payloads w a g q) (payloads v a g q) =
    λ a g q. choose 0 (λ j b. Begins (if b then w.inputs q else w.handlers.sends j g q) (if b then put w.inputs d (w.inputs d ++ x ∷ []) q else w.handlers.sends j g q))
    (choose d (λ j b. Begins (w.inputs j) (if b then w.inputs d ++ x ∷ [] else w.inputs j)) (x ∷ [], refl) (λ j _. begins-self _) q) (λ j _. begins-self _) a in
    carries-grown (record {
      down = λ p. refl;
      history = λ p. begins-self _;
      acknowledged = λ p m _ _ e. e;
      payloads_grow = more;
      held = λ p _. (
        refl,
        λ m _ _ l. record {
          by = l.by;
          ssn = l.ssn;
          number = l.number;
          entry = record {
            live = l.entry.live;
            above = l.entry.above;
            within = let a : length (sent w l.by p) ≤ length (sent v l.by p) = begins-length _ _ (more l.by _ p) in let b : l.ssn ≤ length (sent w l.by p) = l.entry.within in omega arith;
          };
        },
      );
    })

pub exact-input : (w : World) (d feed : ℕ) (x : Payload) → Sound w → Exact w → Exact (input w d feed x)
exact-input w d feed x s h = exact-carried w w.trims (put w.inputs d (w.inputs d ++ x ∷ [])) (put w.feeds feed true) (carries-input w d feed x) s h
