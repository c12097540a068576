-- No orphan, and outputs in order
use Rattle.std.proofs.Common.{◌≡◌, ℕ, zero, suc, ◌+◌, ◌≤◌, List, [], ◌∷◌, length, take, Bool, true, false, refl, sym, ap, ◌∙◌, subst, arith}
use Rattle.std.specs.Prelude.{Some, slice_get, if◌then◌else◌, ◌==◌}
use Rattle.std.proofs.lemmas.Bool.Decides.{nat_tests}
use Rattle.world.specs.declared.message.Message.{Message}
use Rattle.world.specs.History.{Payload, nth, count_of}
use Rattle.world.specs.Phases.{is_down}
use Rattle.world.specs.Handlers.{Handlers}
use Rattle.world.specs.World.{World}
use Rattle.world.specs.Logs.{payloads}
use Rattle.world.specs.Legal.{world_of}
use Rattle.world.specs.declared.entry.Entry.{Entry}
use Rattle.theorems.specs.Growth.{Begins}
use Rattle.theorems.specs.Invariants.Secured.{Secured, Safe}
use Rattle.theorems.specs.Invariants.Sound.{Sound}
use Rattle.theorems.specs.Invariants.Exact.{Exact}
use Rattle.theorems.specs.Orphans.{IsSurviving, IsSent, NoOrphan, payloads_of, ReceivedBegin, ShownBegin}
use Rattle.theorems.specs.Single.{IsSingle}
use Rattle.theorems.proofs.ListLemmas.{nth-prefix}
use Rattle.theorems.proofs.LogLemmas.{payloads-prefix}
use Rattle.theorems.proofs.KeptLemmas.{secured-kept}
use Rattle.theorems.proofs.Journals.{always-exact, sound-single}

-- what is secured is part of the surviving history
secured-surviving : (w : World) (p u k : ℕ) → Secured w p u → IsSurviving w p k → u ≤ k
secured-surviving w p u k c t = split (is_down (w.phase p)) refl
  where
    split : (b : Bool) → is_down (w.phase p) ≡ b → u ≤ k
    split true e = secured-kept w p u k e c (t.down e)
    split false e = let l : u ≤ length (w.history p) = c.within in let f : k ≡ length (w.history p) = t.live e in omega arith

-- a safe message is one that its sender's surviving history sends
pub is-sent : (w : World) → Sound w → (d : ℕ) (m : Message) → Safe w d m → IsSent w d m
is-sent w s d m a k t = nth-prefix _ _ m.ssn m.payload (payloads-prefix w s.grows m.sender (w.history m.sender) d a.upto k (secured-surviving w m.sender a.upto k a.secured t)) a.sends

pub no-orphan : (n : ℕ) (f : Handlers) (es : List Entry) → IsSingle n f es → NoOrphan (world_of n f es)
no-orphan n f es i =
    let w : World = world_of n f es in
    let s : Sound w = sound-single n f es i in
    let h : Exact w = always-exact n f es i in
    record { received = λ p j m e. is-sent w s p m (h.received p j m e); shown = λ j m e. is-sent w s 0 m (h.shown j m e) }

drop : {X : Type 0} → ℕ → List X → List X
drop zero xs = xs
drop (suc k) [] = []
drop (suc k) (x ∷ xs) = drop k xs

drop-next : {X : Type 0} (xs : List X) (k : ℕ) (x : X) → slice_get xs k ≡ Some x → drop k xs ≡ x ∷ drop (suc k) xs
unfolding drop
drop-next [] k x e = absurd (cc)
drop-next (y ∷ xs) zero x e = cc
drop-next (y ∷ xs) (suc k) x e = drop-next xs k x e

drop-none : {X : Type 0} (xs : List X) → drop 0 xs ≡ xs
unfolding drop
drop-none xs = refl

in-order : (s c : ℕ) (ms : List Message) (xs : List Payload) → ((k : ℕ) (m : Message) → slice_get ms k ≡ Some m → m.sender ≡ s → (m.ssn ≡ suc (c + count_of s (take k ms))) × (nth xs m.ssn ≡ Some m.payload)) → Begins (payloads_of s ms) (drop c xs)
in-order s c [] xs all = (drop c xs, refl)
in-order s c (m ∷ ms) xs all = split (m.sender == s) refl (in-order s c ms xs) (in-order s (suc c) ms xs) all
  where
    split : (b : Bool) → (m.sender == s) ≡ b
        → (((k : ℕ) (y : Message) → slice_get ms k ≡ Some y → y.sender ≡ s → (y.ssn ≡ suc (c + count_of s (take k ms))) × (nth xs y.ssn ≡ Some y.payload)) → Begins (payloads_of s ms) (drop c xs))
        → (((k : ℕ) (y : Message) → slice_get ms k ≡ Some y → y.sender ≡ s → (y.ssn ≡ suc (suc c + count_of s (take k ms))) × (nth xs y.ssn ≡ Some y.payload)) → Begins (payloads_of s ms) (drop (suc c) xs))
        → ((k : ℕ) (y : Message) → slice_get (m ∷ ms) k ≡ Some y → y.sender ≡ s → (y.ssn ≡ suc (c + count_of s (take k (m ∷ ms)))) × (nth xs y.ssn ≡ Some y.payload))
        → Begins (if b then m.payload ∷ payloads_of s ms else payloads_of s ms) (drop c xs)
    split false e less more all = less (λ k y f g. let r = all (suc k) y f g in (let a : y.ssn ≡ suc (c + ((if m.sender == s then 1 else 0) + count_of s (take k ms))) = r.0 in let b : y.ssn ≡ suc (c + (0 + count_of s (take k ms))) = rw e at a in omega arith, r.1))
    split true e less more all =
        let one = all zero m refl (grind (arith, nat_tests)) in
        let n : m.ssn ≡ suc (c + 0) = one.0 in
        let n' : m.ssn ≡ suc c = omega arith in
        let P : ℕ → Type 0 = λ i. nth xs i ≡ Some m.payload in
        let there : slice_get xs c ≡ Some m.payload = subst P n' one.1 in
        let r = more (λ k y f g. let r = all (suc k) y f g in (let a : y.ssn ≡ suc (c + ((if m.sender == s then 1 else 0) + count_of s (take k ms))) = r.0 in let b : y.ssn ≡ suc (c + (1 + count_of s (take k ms))) = rw e at a in omega arith, r.1)) in
        (r.0, ap (λ ys. m.payload ∷ ys) r.1 ∙ sym (drop-next xs c m.payload there))

-- of a list in which each message is its sender's next and is sent to d, those of s are, in order, a beginning of what s sends to d
sent-begins : (w : World) (s d k : ℕ) (ms : List Message) → IsSurviving w s k → ((j : ℕ) (m : Message) → slice_get ms j ≡ Some m → m.ssn ≡ suc (count_of m.sender (take j ms))) → ((j : ℕ) (m : Message) → slice_get ms j ≡ Some m → IsSent w d m)
    → Begins (payloads_of s ms) (payloads w s (take k (w.history s)) d)
sent-begins w s d k ms t next sends = rw (drop-none (payloads w s (take k (w.history s)) d)) at (in-order s 0 ms (payloads w s (take k (w.history s)) d) each)
  where
    each : (j : ℕ) (m : Message) → slice_get ms j ≡ Some m → m.sender ≡ s → (m.ssn ≡ suc (0 + count_of s (take j ms))) × (nth (payloads w s (take k (w.history s)) d) m.ssn ≡ Some m.payload)
    each j m e f =
        let P : ℕ → Type 0 = λ a. m.ssn ≡ suc (count_of a (take j ms)) in
        let Q : ℕ → Type 0 = λ a. IsSurviving w a k → nth (payloads w a (take k (w.history a)) d) m.ssn ≡ Some m.payload in
        let n : m.ssn ≡ suc (count_of s (take j ms)) = subst P f (next j m e) in
        (omega arith, subst Q f (sends j m e k) t)

pub shown-begins : (w : World) → Sound w → NoOrphan w → (s k : ℕ) → IsSurviving w s k → Begins (payloads_of s w.shown) (payloads w s (take k (w.history s)) 0)
shown-begins w sound h s k t = sent-begins w s 0 k w.shown t sound.shown h.shown

pub received-begins : (w : World) → Sound w → NoOrphan w → (s d k : ℕ) → IsSurviving w s k → Begins (payloads_of s (w.history d)) (payloads w s (take k (w.history s)) d)
received-begins w sound h s d k t = sent-begins w s d k (w.history d) t (λ j m e. (sound.received d j m e).next) (h.received d)

pub received-once : (n : ℕ) (f : Handlers) (es : List Entry) → IsSingle n f es → ReceivedBegin (world_of n f es)
received-once n f es i = received-begins (world_of n f es) (sound-single n f es i) (no-orphan n f es i)

pub output-once : (n : ℕ) (f : Handlers) (es : List Entry) → IsSingle n f es → ShownBegin (world_of n f es)
output-once n f es i = shown-begins (world_of n f es) (sound-single n f es i) (no-orphan n f es i)
