-- No recorded number is above what its receiver has, whatever fails
use Rattle.std.proofs.Common.{◌≡◌, ◌⊎◌, inl, inr, ℕ, zero, suc, ◌+◌, ◌-◌, ◌≤◌, List, [], ◌∷◌, ◌++◌, length, Bool, true, false, refl, sym, ap, ◌∙◌, subst, arith, length-append}
use Rattle.std.specs.Prelude.{Option, Some, None, nat_lt, nat_le, not, ◌&&◌, ◌==◌, if◌then◌else◌}
use Rattle.std.proofs.lemmas.Bool.Decides.{nat_tests}
use Rattle.limits.specs.declared.TheConstants.{ENTRIES}
use Rattle.world.specs.declared.message.Message.{Message}
use Rattle.world.specs.declared.packet.Packet.{Packet}
use Rattle.world.specs.declared.packet.Packet.TheVariants.{Delivery, Number, Acknowledgement}
use Rattle.world.specs.History.{Payload, nth, rsn_of}
use Rattle.world.specs.Phases.{Phase, Up, Busy, Down, Replaying, Resync, is_up, is_working, without}
use Rattle.world.specs.Handlers.{Handlers}
use Rattle.world.specs.World.{World, put, opening, is_inside}
use Rattle.world.specs.Logs.{length_of, is_entry, sent}
use Rattle.world.specs.Plan.{message_of}
use Rattle.world.specs.Calls.{delivery, number_for, duplicate, recorded, note, commit, replay, finish, arrive, ready, peers, up_to, keep, recover, told, resync, crash, after}
use Rattle.world.specs.Answers.{MayAnswer, Receives, ReceivesIf, ReceivesUp, ReceivesAs, NumbersAs, AcknowledgesAs, Finishes, Verdict, Next, Known, Ahead, judge, target_of}
use Rattle.world.specs.Refusals.{causes, refusal_of}
use Rattle.world.specs.Legal.{LegalFrom, Legal, world_after, world_of}
use Rattle.world.specs.declared.call.Call.{Call}
use Rattle.world.specs.declared.call.Call.TheVariants.{Input, Transmit, Copy, Lose, Arrive, Finish, Checkpoint, Trim, Crash, Recover, RecoverAlone, ReplayBegin, Resync as ResyncWith}
use Rattle.world.specs.declared.answer.Answer.{Answer}
use Rattle.world.specs.declared.answer.Answer.TheVariants.{Unreachable, Kept}
use Rattle.world.specs.declared.entry.Entry.{Entry}
use Rattle.theorems.specs.Growth.{Grows}
use Rattle.theorems.specs.Invariants.Sound.{PacketShape, Sound}
use Rattle.theorems.proofs.Changes.{choose}
use Rattle.theorems.proofs.Tests.{not-false, both}
use Rattle.theorems.proofs.ListLemmas.{nth-within}
use Rattle.theorems.proofs.HistoryLemmas.{names-found}
use Rattle.theorems.proofs.PhaseLemmas.{down-phase}
use Rattle.theorems.proofs.Frames.{put-wire}
use Rattle.theorems.proofs.Accepted.{clear, inside-is}
use Rattle.theorems.proofs.Receipts.{recorded-cases}
use Rattle.theorems.proofs.Recoveries.{gathered, up_to-is}
use Rattle.theorems.proofs.SoundCalls.{sound-call}
use Rattle.theorems.proofs.Journals.{opens-sound}

-- s is the outside or a process, and a process with this history received m messages at least
abbrev pub InRange : ℕ → (ℕ → List Message) → ℕ → ℕ → ℕ → Type 0
InRange n history s p m = record { from : s ≤ n; within : m ≤ length (history p) }

-- a number of the receiver's present incarnation is
abbrev pub PacketInRange : ℕ → (ℕ → List Message) → (ℕ → ℕ) → Option Packet → Type 0
PacketInRange n history incarnation None = Unit {0}
PacketInRange n history incarnation (Some (Delivery d m)) = Unit {0}
PacketInRange n history incarnation (Some (Number r s i m k)) = k ≡ incarnation r → InRange n history s r m
PacketInRange n history incarnation (Some (Acknowledgement s r m k)) = Unit {0}

-- each recorded number is, and so is each on the wire
abbrev pub InBounds : ℕ → (ℕ → List Message) → (ℕ → ℕ → ℕ → Option ℕ) → (ℕ → ℕ) → (ℕ → Option Packet) → Type 0
InBounds n history numbers incarnation wire =
    record {
      recorded : (s p i m : ℕ) → numbers s p i ≡ Some m → InRange n history s p m;
      packets : (key : ℕ) → PacketInRange n history incarnation (wire key);
    }

-- in this world no number is above what its receiver has
abbrev pub Bounded : World → Type 0
Bounded w = InBounds w.count w.history w.numbers w.incarnation w.wire

opens-bounded : (n : ℕ) (f : Handlers) → Bounded (opening n f)
opens-bounded n f = record { recorded = λ s p i m e. absurd (cc); packets = λ key. tt }

-- one key gets a packet, or none
bounded-put : (w : World) (key : ℕ) (x : Option Packet) → PacketInRange w.count w.history w.incarnation x → Bounded w → Bounded (record w { wire = put w.wire key x })
bounded-put w key x now h = record { recorded = h.recorded; packets = put-wire (PacketInRange w.count w.history w.incarnation) w.wire key x h.packets now }

-- a packet goes and another comes
bounded-swap : (w : World) (key new : ℕ) (x : Option Packet) → PacketInRange w.count w.history w.incarnation x → Bounded w → Bounded (record w { wire = put (put w.wire key None) new x })
bounded-swap w key new x now h = bounded-put (record w { wire = put w.wire key None }) new x now (bounded-put w key None tt h)

bounded-transmit : (w : World) (p d i key : ℕ) → Bounded w → Bounded (record w { wire = put w.wire key (delivery d (message_of p i (nth (sent w p d) i))) })
bounded-transmit w p d i key h = bounded-put w key _ (shape (nth (sent w p d) i)) h
  where
    shape : (x : Option Payload) → PacketInRange w.count w.history w.incarnation (delivery d (message_of p i x))
    shape None = tt
    shape (Some x) = tt

-- the number of a message that was received is one of them
number-within : (h : List Message) (s i m : ℕ) → rsn_of h s i ≡ Some m → m ≤ length h
number-within h s i m e = let n = names-found h s i m e in (nth-within h m n.message n.at).1

bounded-duplicate : (w : World) (key d : ℕ) (m : Message) (new : ℕ) → m.sender ≤ w.count → Bounded w → Bounded (duplicate w key d m new)
bounded-duplicate w key d m new from h = bounded-swap w key new _ (shape (rsn_of (w.history d) m.sender m.ssn) refl) h
  where
    shape : (x : Option ℕ) → rsn_of (w.history d) m.sender m.ssn ≡ x → PacketInRange w.count w.history w.incarnation (number_for w d m x)
    shape None e = tt
    shape (Some k) e = λ _. record { from = from; within = number-within (w.history d) m.sender m.ssn k e }

bounded-note : (w : World) (key r s i k incarnation new : ℕ) → InRange w.count w.history s r k → Bounded w → Bounded (note w key r s i k incarnation new)
bounded-note w key r s i k incarnation new now h =
    bounded-swap (record w { numbers = recorded w s r i k }) key new (Some (Acknowledgement s r k incarnation)) tt (record { recorded = λ a q j m e. of a q j m e (recorded-cases w s r i k a q j); packets = h.packets })
  where
    of : (a q j m : ℕ) → recorded w s r i k a q j ≡ Some m → ((a ≡ s) × (q ≡ r) × (j ≡ i) × (recorded w s r i k a q j ≡ Some k)) ⊎ (recorded w s r i k a q j ≡ w.numbers a q j) → InRange w.count w.history a q m
    of a q j m e (inl t) =
        let same : k ≡ m = cc in
        let P : ℕ → Type 0 = λ n. InRange w.count w.history a q n in
        subst P same (rw (t.0, t.1) now)
    of a q j m e (inr t) = h.recorded a q j m (sym t ∙ e)

-- a longer history has room for what a shorter one has
grown : (w : World) (p : ℕ) (m : Message) (s q k : ℕ) → InRange w.count w.history s q k → InRange w.count (put w.history p (w.history p ++ m ∷ [])) s q k
grown w p m s q k = choose p (λ j b. InRange w.count w.history s j k → record { from : s ≤ w.count; within : k ≤ length (if b then w.history p ++ m ∷ [] else w.history j) })
    (λ h. let l : k ≤ length (w.history p) = h.within in record { from = h.from; within = omega (arith, length-append {A = Message}) }) (λ j _ h. h) q

bounded-commit : (w : World) (p : ℕ) (m : Message) (new : ℕ) → m.sender ≤ w.count → Bounded w → Bounded (commit w p m new)
bounded-commit w p m new from h =
    record {
      recorded = λ s q i k e. grown w p m s q k (h.recorded s q i k e);
      packets = put-wire (PacketInRange w.count (put w.history p (w.history p ++ m ∷ [])) w.incarnation) w.wire new (Some (Number p m.sender m.ssn (length (w.history p) + 1) (w.incarnation p)))
          (λ key. longer (w.wire key) (h.packets key)) (λ _. record { from = from; within = itself });
    }
  where
    longer : (x : Option Packet) → PacketInRange w.count w.history w.incarnation x → PacketInRange w.count (put w.history p (w.history p ++ m ∷ [])) w.incarnation x
    longer None h = tt
    longer (Some (Delivery d t)) h = tt
    longer (Some (Number r s i k n)) h = λ e. grown w p m s r k (h e)
    longer (Some (Acknowledgement s r k n)) h = tt

    itself : length (w.history p) + 1 ≤ length (put w.history p (w.history p ++ m ∷ []) p)
    itself = let same : (p == p) ≡ true = grind (arith, nat_tests) in rw same (omega (arith, length-append {A = Message}))

bounded-crash : (w : World) (p : ℕ) → Sound w → Bounded w → Bounded (crash w p)
bounded-crash w p s h =
    record {
      recorded = choose p (λ a b. (q i m : ℕ) → (if b then (λ _ _. None) else w.numbers a) q i ≡ Some m → InRange w.count w.history a q m) (λ q i m e. absurd (cc)) (λ a _. h.recorded a);
      packets = λ key. old (w.wire key) (s.packets key) (h.packets key);
    }
  where
    old : (x : Option Packet) → PacketShape w x → PacketInRange w.count w.history w.incarnation x → PacketInRange w.count w.history (put w.incarnation p (w.incarnation p + 1)) x
    old None shape h = tt
    old (Some (Delivery d m)) shape h = tt
    old (Some (Number r t i m k)) shape h =
        choose p (λ j b. k ≤ w.incarnation j → (k ≡ w.incarnation j → InRange w.count w.history t j m) → k ≡ (if b then w.incarnation p + 1 else w.incarnation j) → InRange w.count w.history t j m)
        (λ l h e. absurd (omega arith)) (λ j _ l h. h) r shape.past h
    old (Some (Acknowledgement t r m k)) shape h = tt

-- all numbers above what p keeps are forgotten
bounded-keep : (w : World) (p k : ℕ) → w.phase p ≡ Down → length (gathered w p k) ≡ k → Sound w → Bounded w → Bounded (keep w p k)
bounded-keep w p k down e s h =
    record {
      recorded = λ a. choose p (λ j b. (i m : ℕ) → (if b then (λ i. up_to k (w.numbers a p i)) else w.numbers a j) i ≡ Some m → record { from : a ≤ w.count; within : m ≤ length (if b then gathered w p k else w.history j) })
          (λ i m f. let u = up_to-is k m (w.numbers a p i) f in let l : m ≤ k = u.1 in record { from = (h.recorded a p i m u.0).from; within = omega arith }) (λ j _. h.recorded a j);
      packets = λ key. old (w.wire key) (s.packets key) (h.packets key);
    }
  where
    old : (x : Option Packet) → PacketShape w x → PacketInRange w.count w.history w.incarnation x → PacketInRange w.count (put w.history p (gathered w p k)) w.incarnation x
    old None shape h = tt
    old (Some (Delivery d m)) shape h = tt
    old (Some (Number r t i m n)) shape h =
        choose p (λ j b. (n ≡ w.incarnation j → is_up (w.phase j) ≡ true) → (n ≡ w.incarnation j → InRange w.count w.history t j m) → n ≡ w.incarnation j → record { from : t ≤ w.count; within : m ≤ length (if b then gathered w p k else w.history j) })
        (λ l h e. absurd (let f : is_up Down ≡ true = rw down at (l e) in cc)) (λ j _ l h. h) r shape.live h
    old (Some (Acknowledgement t r m n)) shape h = tt

bounded-recover : (w : World) (p k : ℕ) (alone : Bool) → w.phase p ≡ Down → length (gathered w p k) ≡ k → Sound w → Bounded w → Bounded (recover w p k alone)
bounded-recover w p k alone down e s h = split (nat_lt (w.saved p) k) (bounded-keep w p k down e s h)
  where
    split : (c : Bool) → Bounded (keep w p k) → Bounded (if c then record (keep w p k) { phase = put w.phase p (Replaying 0 false alone) } else ready (keep w p k) p (peers w p alone))
    split true t = t
    split false t = t

bounded-replay : (w : World) (p j : ℕ) (alone : Bool) → Bounded w → Bounded (replay w p j alone)
bounded-replay w p j alone h = split (nat_lt (w.saved p + suc j) (length (w.history p)))
  where
    split : (c : Bool) → Bounded (if c then record w { phase = put w.phase p (Replaying (suc j) false alone) } else ready w p (peers w p alone))
    split true = h
    split false = h

-- what a peer tells p is a number that it received
bounded-resync : (w : World) (p r : ℕ) → p ≤ w.count → Bounded w → Bounded (resync w p r)
bounded-resync w p r inside h =
    record {
      recorded = choose p (λ a b. (q i m : ℕ) → (if b then put (w.numbers p) r (told w p r) else w.numbers a) q i ≡ Some m → InRange w.count w.history a q m)
          (choose r (λ q b. (i m : ℕ) → (if b then told w p r else w.numbers p q) i ≡ Some m → InRange w.count w.history p q m) named (λ q _. h.recorded p q)) (λ a _. h.recorded a);
      packets = h.packets;
    }
  where
    named : (i m : ℕ) → told w p r i ≡ Some m → InRange w.count w.history p r m
    named i m e = split (is_entry w p r i) e
      where
        split : (b : Bool) → (if b then rsn_of (w.history r) p i else w.numbers p r i) ≡ Some m → InRange w.count w.history p r m
        split true e = record { from = inside; within = number-within (w.history r) p i m e }
        split false e = h.recorded p r i m e

bounded-arrive-up : (w : World) (key : ℕ) (k : Packet) (a : Answer) → PacketShape w (Some k) → PacketInRange w.count w.history w.incarnation (Some k) → ReceivesUp w key k a → Bounded w → Bounded (arrive w key (Some k) a)
bounded-arrive-up w key (Delivery zero m) a shape now may h = split (judge w zero m) may
  where
    split : (v : Verdict) → ReceivesAs w key zero m v a → Bounded (arrive w key (Some (Delivery zero m)) a)
    split Next may = rw may (bounded-put w key None tt h)
    split Known may = rw may (bounded-put w key None tt h)
    split Ahead may = rw may (bounded-put w key None tt h)
bounded-arrive-up w key (Delivery (suc d) m) a shape now may h = split (judge w (suc d) m) may
  where
    split : (v : Verdict) → ReceivesAs w key (suc d) m v a → Bounded (arrive w key (Some (Delivery (suc d) m)) a)
    split Next may = rw may (bounded-put w key None tt h)
    split Known may = rw may.2 (bounded-duplicate w key (suc d) m may.0 shape.from h)
    split Ahead may = rw may (bounded-put w key None tt h)
bounded-arrive-up w key (Number r s i m k) a shape now may h = split ((k == w.incarnation r) && is_entry w s r i) refl may
  where
    present : ((k == w.incarnation r) && is_entry w s r i) ≡ true → k ≡ w.incarnation r
    present e = let x : (k == w.incarnation r) ≡ true = (both (k == w.incarnation r) (is_entry w s r i) e).0 in grind (arith, nat_tests)

    split : (b : Bool) → ((k == w.incarnation r) && is_entry w s r i) ≡ b → NumbersAs w key b a → Bounded (arrive w key (Some (Number r s i m k)) a)
    split true e may = rw may.2 (bounded-note w key r s i m k may.0 (now (present e)) h)
    split false e may = rw may (bounded-put w key None tt h)
bounded-arrive-up w key (Acknowledgement s r m k) a shape now may h = split ((k == w.incarnation r) && nat_le m (length_of w r)) may
  where
    split : (b : Bool) → AcknowledgesAs b a → Bounded (arrive w key (Some (Acknowledgement s r m k)) a)
    split true may = rw may (bounded-put w key None tt h)
    split false may = rw may (bounded-put w key None tt h)

bounded-unreachable : (w : World) (key : ℕ) (k : Packet) → Bounded w → Bounded (arrive w key (Some k) Unreachable)
bounded-unreachable w key (Delivery d m) h = bounded-put w key None tt h
bounded-unreachable w key (Number r s i m k) h = bounded-put w key None tt h
bounded-unreachable w key (Acknowledgement s r m k) h = bounded-put w key None tt h

bounded-arrive : (w : World) (key : ℕ) (x : Option Packet) (a : Answer) → PacketShape w x → PacketInRange w.count w.history w.incarnation x → Receives w key x a → Bounded w → Bounded (arrive w key x a)
bounded-arrive w key None a shape now may h = absurd may
bounded-arrive w key (Some k) a shape now may h = split (is_up (w.phase (target_of k))) may
  where
    split : (b : Bool) → ReceivesIf b w key k a → Bounded (arrive w key (Some k) a)
    split true may = bounded-arrive-up w key k a shape now may h
    split false may = rw may (bounded-unreachable w key k h)

bounded-finish : (w : World) (p : ℕ) (x : Phase) (a : Answer) → w.phase p ≡ x → Finishes w p x a → Sound w → Bounded w → Bounded (finish w p x a)
bounded-finish w p Up a e may s h = absurd may
bounded-finish w p (Busy m) a e may s h = rw may.2 (bounded-commit w p m may.0 (rw e at (s.working p)).from h)
bounded-finish w p Down a e may s h = absurd may
bounded-finish w p (Replaying j working alone) a e may s h = rw may (bounded-replay w p j alone h)
bounded-finish w p (Resync todo) a e may s h = absurd may

bounded-call : (room : ℕ) (w : World) (call : Call) (a : Answer) → refusal_of w room call ≡ None → MayAnswer w call a → Sound w → Bounded w → Bounded (after w call a)
bounded-call room w (Input d feed x) a free may s h = h
bounded-call room w (Transmit p d i) a free may s h = rw may.2 (bounded-transmit w p d i may.0 h)
bounded-call room w (Copy key) a free may s h = rw may.2 (bounded-put w may.0 (w.wire key) (h.packets key) h)
bounded-call room w (Lose key) a free may s h = bounded-put w key None tt h
bounded-call room w (Arrive key) a free may s h = bounded-arrive w key (w.wire key) a (s.packets key) (h.packets key) may h
bounded-call room w (Finish p) a free may s h = bounded-finish w p (w.phase p) a refl may s h
bounded-call room w (Checkpoint p) a free may s h = h
bounded-call room w (Trim d) a free may s h = h
bounded-call room w (Crash p) a free may s h = bounded-crash w p s h
bounded-call room w (Recover p) (Kept k) free may s h = let x = clear (causes w room (Recover p)) free in bounded-recover w p k false (down-phase _ (not-false _ x.1.1.0)) may.1 s h
bounded-call room w (Recover p) a free may s h = absurd may
bounded-call room w (RecoverAlone p) (Kept k) free may s h = let x = clear (causes w room (RecoverAlone p)) free in bounded-recover w p k true (down-phase _ (not-false _ x.1.0)) may.1 s h
bounded-call room w (RecoverAlone p) a free may s h = absurd may
bounded-call room w (ReplayBegin p) a free may s h = h
bounded-call room w (ResyncWith p r) a free may s h =
    let x = clear (causes w room (ResyncWith p r)) free in
    let t = both (is_inside w p) (is_inside w r) (not-false _ x.0) in
    bounded-resync w p r (inside-is w p (ap not t.0)).1 h

bounded-along : (k : ℕ) (w : World) (es : List Entry) → LegalFrom k w es → Sound w → Bounded w → Bounded (world_after w es)
bounded-along k w [] l s h = h
bounded-along k w (e ∷ es) l s h =
    bounded-along (suc k) (after w e.call e.answer) es l.2 (sound-call (ENTRIES - k) w e.call e.answer l.1.accepted l.1.answered s) (bounded-call (ENTRIES - k) w e.call e.answer l.1.accepted l.1.answered s h)

pub always-bounded : (n : ℕ) (f : Handlers) (es : List Entry) → Grows f → Legal n f es → Bounded (world_of n f es)
always-bounded n f es g l = bounded-along 0 (opening n f) es l (opens-sound n f g) (opens-bounded n f)
