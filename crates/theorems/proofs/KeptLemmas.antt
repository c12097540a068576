-- What a recovery keeps
use Rattle.std.proofs.Common.{◌≡◌, ℕ, zero, suc, ◌+◌, ◌-◌, ◌<◌, ◌≤◌, List, ◌∷◌, ◌++◌, length, take, Bool, true, false, refl, sym, ap, ◌∙◌, subst, arith}
use Rattle.std.specs.Prelude.{Option, Some, None, nat_lt, nat_le}
use Rattle.std.proofs.lemmas.Bool.Decides.{nat_tests}
use Rattle.limits.specs.declared.TheConstants.{ENTRIES}
use Rattle.world.specs.declared.message.Message.{Message}
use Rattle.world.specs.Phases.{is_down}
use Rattle.world.specs.Handlers.{Handlers}
use Rattle.world.specs.World.{World, opening}
use Rattle.world.specs.Plan.{found, chosen}
use Rattle.world.specs.Logs.{length_of, state_of}
use Rattle.world.specs.Calls.{recover}
use Rattle.world.specs.Legal.{LegalFrom, Legal, world_of}
use Rattle.world.specs.declared.entry.Entry.{Entry}
use Rattle.theorems.specs.Kept.{Held}
use Rattle.theorems.specs.Invariants.Secured.{Secured}
use Rattle.theorems.specs.Invariants.Exact.{Names, Exact}
use Rattle.theorems.specs.Invariants.Sound.{Sound}
use Rattle.theorems.specs.Kept.{IsKept, HasKept, KeptIsOne}
use Rattle.theorems.specs.Growth.{Grows}
use Rattle.theorems.specs.Recovery.{RecoversKept, RunIsKept, StateIsKept, replayed, ReplaysBack, RecoversExactly, recovery}
use Rattle.theorems.specs.Single.{IsSingle}
use Rattle.world.specs.Refusals.{causes}
use Rattle.world.specs.declared.call.Call.TheVariants.{Recover}
use Rattle.world.specs.declared.answer.Answer.TheVariants.{Kept}
use Rattle.theorems.proofs.Tests.{not-false}
use Rattle.theorems.proofs.Accepted.{clear}
use Rattle.theorems.proofs.ListLemmas.{nth-within, none-some, take-take}
use Rattle.theorems.proofs.SecuredLemmas.{Carries}
use Rattle.theorems.proofs.PlanLemmas.{Lies, found-lies, found-held, chosen-none, plan-is}
use Rattle.theorems.proofs.SoundCalls.{sound-call}
use Rattle.theorems.proofs.NumberLemmas.{Bounded, always-bounded}
use Rattle.theorems.proofs.ReturnLemmas.{Back, back-opens, back-along, back-length, back-most}
use Rattle.theorems.proofs.Journals.{always-exact, always-sound, sound-single, legal-append, single-before, secured-always}
use Rattle.world.proofs.Runs.{world_after-append, world_after-setting}

-- a recovery keeps what is kept
pub recovers-kept : (n : ℕ) (f : Handlers) (es : List Entry) → IsSingle n f es → RecoversKept (world_of n f es)
recovers-kept n f es i p k may =
    let w : World = world_of n f es in
    let s : Sound w = sound-single n f es i in
    let h : Exact w = always-exact n f es i in
    let r = plan-is w p s h k may.0 may.1 in
    let P : List Message → Type 0 = λ g. chosen w p g ≡ None in
    record { kept = record { from = may.0; held = r.2; most = chosen-none w p s h k r.1 (subst P r.0 may.2) }; within = r.1; plan = r.0 }

-- there is a kept number, whatever failed
find-kept : (w : World) (p : ℕ) → Bounded w → (f c : ℕ) → w.saved p ≤ c → c + f ≡ length (w.history p) → ((m : ℕ) → w.saved p < m → m ≤ c → Held w p m) → record { kept : ℕ; within : kept ≤ length (w.history p); is : IsKept w p kept }
find-kept w p b zero c l e held = record { kept = c; within = omega arith; is = record { from = l; held = held; most = λ x. absurd (let u : suc c ≤ length (w.history p) = (b.recorded x.by p x.ssn (suc c) x.number).within in omega arith) } }
find-kept w p b (suc f) c l e held = split (found w p (suc c)) refl (find-kept w p b f (suc c))
  where
    step : (x : Message) → found w p (suc c) ≡ Some x → (m : ℕ) → w.saved p < m → (t : Bool) → nat_le m c ≡ t → m ≤ suc c → Held w p m
    step x g m a true t u = held m a (grind (arith, nat_tests))
    step x g m a false t u =
        let same : suc c ≡ m = grind (arith, nat_tests) in
        let d : Lies w p (suc c) x = found-lies w p (suc c) x g in
        let P : ℕ → Type 0 = λ z. Held w p z in
        subst P same (record { by = d.by; ssn = d.ssn; number = d.number; entry = d.entry })

    split : (o : Option Message) → found w p (suc c) ≡ o → (w.saved p ≤ suc c → suc c + f ≡ length (w.history p) → ((m : ℕ) → w.saved p < m → m ≤ suc c → Held w p m) → record { kept : ℕ; within : kept ≤ length (w.history p); is : IsKept w p kept })
        → record { kept : ℕ; within : kept ≤ length (w.history p); is : IsKept w p kept }
    split None g more = record { kept = c; within = omega arith; is = record { from = l; held = held; most = λ x. let y = found-held w p (λ s i k n. (b.recorded s p i k n).from) (suc c) x in none-some y.0 (found w p (suc c)) g y.1 } }
    split (Some x) g more = more (omega arith) (omega arith) (λ m a u. step x g m a (nat_le m c) refl u)

pub has-kept : (n : ℕ) (f : Handlers) (es : List Entry) → Grows f → Legal n f es → HasKept (world_of n f es)
has-kept n f es g legal p =
    let l : (world_of n f es).saved p ≤ length ((world_of n f es).history p) = (always-sound n f es g legal).saved p in
    find-kept (world_of n f es) p (always-bounded n f es g legal) (length ((world_of n f es).history p) - (world_of n f es).saved p) ((world_of n f es).saved p) (omega arith) (omega arith) (λ m a b. absurd (omega arith))

-- what is secured of a process that is down is kept
pub secured-kept : (w : World) (p u k : ℕ) → is_down (w.phase p) ≡ true → Secured w p u → IsKept w p k → u ≤ k
secured-kept w p u k down c i = split (nat_le u k) refl
  where
    split : (b : Bool) → nat_le u k ≡ b → u ≤ k
    split true e = grind (arith, nat_tests)
    split false e = let l : k < u = grind (arith, nat_tests) in let f : w.saved p ≤ k = i.from in absurd (i.most (c.held down (suc k) (omega arith) (omega arith)))

kept-most : (w : World) (p j k : ℕ) → IsKept w p j → IsKept w p k → j ≤ k
kept-most w p j k a b = split (nat_le j k) refl
  where
    split : (c : Bool) → nat_le j k ≡ c → j ≤ k
    split true e = grind (arith, nat_tests)
    split false e = let l : k < j = grind (arith, nat_tests) in let f : w.saved p ≤ k = b.from in absurd (b.most (a.held (suc k) (omega arith) (omega arith)))

pub kept-one : (w : World) → KeptIsOne w
kept-one w p j k a b = let l : j ≤ k = kept-most w p j k a b in let m : k ≤ j = kept-most w p k j b a in omega arith

-- what is kept was received
kept-within : (w : World) → Sound w → Exact w → (p k : ℕ) → IsKept w p k → k ≤ length (w.history p)
kept-within w s h p k i = split (nat_lt (w.saved p) k) refl
  where
    named : (m a j : ℕ) → Names (w.history p) m a j → m ≤ length (w.history p)
    named m a j n = (nth-within (w.history p) m n.message n.at).1

    split : (b : Bool) → nat_lt (w.saved p) k ≡ b → k ≤ length (w.history p)
    split true e = let x = i.held k (grind (arith, nat_tests)) (omega arith) in named k x.by x.ssn (h.recorded x.by p x.ssn k x.number)
    split false e = let l : k ≤ w.saved p = grind (arith, nat_tests) in let m : w.saved p ≤ length (w.history p) = s.saved p in omega arith

run-lasts : (v w : World) → Carries v w → RunIsKept v w
run-lasts v w c p run k live within acknowledged down kept =
    secured-kept w p run k down (c.secured p run (record { within = within; held = λ d. absurd (let e : true ≡ false = sym d ∙ live in cc); acknowledged = λ _. acknowledged })) kept

pub run-is-kept : (n : ℕ) (f : Handlers) (es more : List Entry) → IsSingle n f (es ++ more) → RunIsKept (world_of n f es) (world_of n f (es ++ more))
run-is-kept n f es more i = run-lasts (world_of n f es) (world_of n f (es ++ more)) (secured-always n f es more i)

-- what is kept of a process that is down is secured
kept-secured : (w : World) → Sound w → Exact w → (p k : ℕ) → is_down (w.phase p) ≡ true → IsKept w p k → Secured w p k
kept-secured w s h p k down kept = record { within = kept-within w s h p k kept; held = λ _. kept.held; acknowledged = λ d. absurd (let e : true ≡ false = sym down ∙ d in cc) }

-- the kept messages stay the same, through the recovery and after it
state-lasts : (v w : World) → Carries v w → w.handlers ≡ v.handlers → Sound v → Exact v → StateIsKept v w
state-lasts v w c same s h p k down kept at =
    let secured : Secured v p k = kept-secured v s h p k down kept in
    ap (λ j. w.handlers.state p (take j (w.history p))) at ∙ ap (λ g. w.handlers.state p g) (c.same p k secured) ∙ ap (λ (g : Handlers). g.state p (take k (v.history p))) same

pub state-is-kept : (n : ℕ) (f : Handlers) (es more : List Entry) → IsSingle n f (es ++ more) → StateIsKept (world_of n f es) (world_of n f (es ++ more))
state-is-kept n f es more i =
    let before : IsSingle n f es = single-before n f es more i in
    let one : (world_of n f es).handlers ≡ f = (world_after-setting (opening n f) es).1 in
    let two : (world_of n f (es ++ more)).handlers ≡ f = (world_after-setting (opening n f) (es ++ more)).1 in
    state-lasts (world_of n f es) (world_of n f (es ++ more)) (secured-always n f es more i) (two ∙ sym one) (sound-single n f es before) (always-exact n f es before)

-- each replayed call makes p one message longer, and as long as what it kept in the end
replays-back : (n : ℕ) (f : Handlers) (es more : List Entry) (worker p k : ℕ) → IsSingle n f (es ++ recovery worker p k ∷ more) → take k ((world_of n f (es ++ recovery worker p k ∷ more)).history p) ≡ take k ((world_of n f es).history p)
    → ReplaysBack (world_of n f es) (world_of n f (es ++ recovery worker p k ∷ more)) p k more
replays-back n f es more worker p k i same returning =
    let v : World = world_of n f es in
    let w : World = world_of n f (es ++ recovery worker p k ∷ more) in
    let c : ℕ = replayed p more in
    let l = legal-append 0 (opening n f) es (recovery worker p k ∷ more) i.legal in
    let here : LegalFrom l.1.0 v (recovery worker p k ∷ more) = l.1.1 in
    let before : Sound v = sound-single n f es (single-before n f es (recovery worker p k ∷ more) i) in
    let opened : Sound (recover v p k false) = sound-call (ENTRIES - l.1.0) v (Recover p) (Kept k) here.1.accepted here.1.answered before in
    let along = back-along p (v.saved p) k 0 (suc l.1.0) (recover v p k false) more here.2 returning opened (back-opens v p k false here.1.answered.0 here.1.answered.1) in
    let P : World → Type 0 = λ u. Back u p (v.saved p) k (0 + c) × Sound u in
    let last : P w = subst P (sym (world_after-append (opening n f) es (recovery worker p k ∷ more))) along in
    let most : v.saved p + (0 + c) ≤ k = back-most w p (v.saved p) k (0 + c) last.1 last.0 in
    let long : length_of w p ≡ v.saved p + (0 + c) = back-length w p (v.saved p) k (0 + c) last.0 in
    let from : v.saved p ≤ k = here.1.answered.0 in
    let reached : length_of w p ≡ v.saved p + c = omega arith in
    let one : w.handlers ≡ f = (world_after-setting (opening n f) (es ++ recovery worker p k ∷ more)).1 in
    let two : v.handlers ≡ f = (world_after-setting (opening n f) es).1 in
    let first : take (v.saved p + c) (w.history p) ≡ take (v.saved p + c) (v.history p) =
    sym (take-take (w.history p) (v.saved p + c) k (omega arith)) ∙ ap (λ h. take (v.saved p + c) h) same ∙ take-take (v.history p) (v.saved p + c) k (omega arith) in
    let state : state_of w p ≡ v.handlers.state p (take (v.saved p + c) (v.history p)) =
    ap (λ j. w.handlers.state p (take j (w.history p))) reached ∙ ap (λ h. w.handlers.state p h) first ∙ ap (λ (g : Handlers). g.state p (take (v.saved p + c) (v.history p))) (one ∙ sym two) in
    record {
      most = omega arith;
      each = (reached, state);
      all = λ e. let whole : v.saved p + c ≡ k = omega arith in (reached ∙ whole, state ∙ ap (λ j. v.handlers.state p (take j (v.history p))) whole);
    }

pub recovers-exactly : (n : ℕ) (f : Handlers) (es more : List Entry) (worker p k : ℕ) → IsSingle n f (es ++ recovery worker p k ∷ more) → RecoversExactly (world_of n f es) (world_of n f (es ++ recovery worker p k ∷ more)) p k more
recovers-exactly n f es more worker p k i =
    let v : World = world_of n f es in
    let rest : List Entry = recovery worker p k ∷ more in
    let before : IsSingle n f es = single-before n f es rest i in
    let l = legal-append 0 (opening n f) es rest i.legal in
    let here : LegalFrom l.1.0 v (recovery worker p k ∷ more) = l.1.1 in
    let kept : IsKept v p k = (recovers-kept n f es before p k here.1.answered).kept in
    let x = clear (causes v (ENTRIES - l.1.0) (Recover p)) here.1.accepted in
    let down : is_down (v.phase p) ≡ true = not-false _ x.1.1.0 in
    let secured : Secured v p k = kept-secured v (sound-single n f es before) (always-exact n f es before) p k down kept in
    let c : Carries v (world_of n f (es ++ recovery worker p k ∷ more)) = secured-always n f es rest i in
    record { kept = kept; within = (c.secured p k secured).within; same = c.same p k secured; replays = replays-back n f es more worker p k i (c.same p k secured); state = state-is-kept n f es rest i p k down kept }
