-- From entry to entry along a journal
use Rattle.std.proofs.Common.{◌≡◌, ℕ, suc, ◌-◌, List, [], ◌∷◌, ◌++◌, true, refl, sym, subst, arith}
use Rattle.limits.specs.declared.TheConstants.{ENTRIES}
use Rattle.world.specs.Handlers.{Handlers}
use Rattle.world.specs.World.{World, opening}
use Rattle.world.specs.Calls.{after}
use Rattle.world.specs.Legal.{LegalFrom, Legal, world_after, world_of, is_single, all_single}
use Rattle.world.specs.declared.entry.Entry.{Entry}
use Rattle.world.proofs.Runs.{world_after-append}
use Rattle.theorems.specs.Growth.{Grows}
use Rattle.theorems.specs.Invariants.Sound.{Sound}
use Rattle.theorems.specs.Invariants.Exact.{Exact}
use Rattle.theorems.specs.Single.{IsSingle}
use Rattle.theorems.proofs.Tests.{both}
use Rattle.theorems.proofs.SecuredLemmas.{Carries, covers-none, carries-self, carries-trans}
use Rattle.theorems.proofs.SoundCalls.{sound-call}
use Rattle.theorems.proofs.ExactCalls.{Preserves, preserves-call}

pub opens-sound : (n : ℕ) (f : Handlers) → Grows f → Sound (opening n f)
opens-sound n f g =
    record {
      grows = g;
      outside = λ _ _. refl;
      received = λ p k x e. absurd (cc);
      working = λ p. tt;
      saved = λ p. omega arith;
      replays = λ p. tt;
      acknowledged = λ p m e. absurd (cc);
      recovering = λ p e. absurd (cc);
      covered = λ p a s. omega arith;
      shown_covered = λ s. omega arith;
      trims = λ s d. omega arith;
      packets = λ key. tt;
      shown = λ k x e. absurd (cc);
    }

pub opens-exact : (n : ℕ) (f : Handlers) → Exact (opening n f)
opens-exact n f =
    record {
      alone = λ p. refl;
      recorded = λ s p i m e. absurd (cc);
      acknowledged = λ p m e. absurd (cc);
      packets = λ key. tt;
      working = λ p. tt;
      received = λ p k x e. absurd (cc);
      shown = λ k x e. absurd (cc);
      released = λ p d. covers-none (opening n f) p d;
    }

sound-along : (k : ℕ) (w : World) (es : List Entry) → LegalFrom k w es → Sound w → Sound (world_after w es)
sound-along k w [] l s = s
sound-along k w (e ∷ es) l s = sound-along (suc k) (after w e.call e.answer) es l.2 (sound-call (ENTRIES - k) w e.call e.answer l.1.accepted l.1.answered s)

pub always-sound : (n : ℕ) (f : Handlers) (es : List Entry) → Grows f → Legal n f es → Sound (world_of n f es)
always-sound n f es g l = sound-along 0 (opening n f) es l (opens-sound n f g)

preserves-along : (k : ℕ) (w : World) (es : List Entry) → LegalFrom k w es → all_single w es ≡ true → Sound w → Exact w → Preserves w (world_after w es)
preserves-along k w [] l one s h = record { carries = carries-self w; exact = h }
preserves-along k w (e ∷ es) l one s h = last (both (is_single w e.call) (all_single (after w e.call e.answer) es) one) (preserves-along (suc k) (after w e.call e.answer) es l.2)
  where
    last : (is_single w e.call ≡ true) × (all_single (after w e.call e.answer) es ≡ true) → (all_single (after w e.call e.answer) es ≡ true → Sound (after w e.call e.answer) → Exact (after w e.call e.answer) → Preserves (after w e.call e.answer) (world_after (after w e.call e.answer) es))
        → Preserves w (world_after (after w e.call e.answer) es)
    last t rest =
        let s' : Sound (after w e.call e.answer) = sound-call (ENTRIES - k) w e.call e.answer l.1.accepted l.1.answered s in
        let g : Preserves w (after w e.call e.answer) = preserves-call (ENTRIES - k) w e.call e.answer l.1.accepted l.1.answered t.0 s h in
        let r : Preserves (after w e.call e.answer) (world_after (after w e.call e.answer) es) = rest t.1 s' g.exact in
        record { carries = carries-trans g.carries r.carries; exact = r.exact }

pub always-exact : (n : ℕ) (f : Handlers) (es : List Entry) → IsSingle n f es → Exact (world_of n f es)
always-exact n f es i = (preserves-along 0 (opening n f) es i.legal i.single (opens-sound n f i.grows) (opens-exact n f)).exact

pub sound-single : (n : ℕ) (f : Handlers) (es : List Entry) → IsSingle n f es → Sound (world_of n f es)
sound-single n f es i = always-sound n f es i.grows i.legal

-- both parts of a legal journal are legal, the later one from the world that the first one leads to
pub legal-append : (k : ℕ) (w : World) (es more : List Entry) → LegalFrom k w (es ++ more) → LegalFrom k w es × ((j : ℕ) × LegalFrom j (world_after w es) more)
legal-append k w [] more l = (tt, (k, l))
legal-append k w (e ∷ es) more l = let r = legal-append (suc k) (after w e.call e.answer) es more l.2 in ((l.0, l.1, r.0), r.1)

single-append : (w : World) (es more : List Entry) → all_single w (es ++ more) ≡ true → (all_single w es ≡ true) × (all_single (world_after w es) more ≡ true)
single-append w [] more e = (refl, e)
single-append w (x ∷ es) more e = last (both (is_single w x.call) (all_single (after w x.call x.answer) (es ++ more)) e) (single-append (after w x.call x.answer) es more)
  where
    last : (is_single w x.call ≡ true) × (all_single (after w x.call x.answer) (es ++ more) ≡ true)
        → (all_single (after w x.call x.answer) (es ++ more) ≡ true → (all_single (after w x.call x.answer) es ≡ true) × (all_single (world_after (after w x.call x.answer) es) more ≡ true))
        → (all_single w (x ∷ es) ≡ true) × (all_single (world_after (after w x.call x.answer) es) more ≡ true)
    last t rest = let r = rest t.1 in (rw t.0 r.0, r.1)

-- an earlier journal is one of single failures too
pub single-before : (n : ℕ) (f : Handlers) (es more : List Entry) → IsSingle n f (es ++ more) → IsSingle n f es
single-before n f es more i = record { grows = i.grows; legal = (legal-append 0 (opening n f) es more i.legal).0; single = (single-append (opening n f) es more i.single).0 }

-- nothing that is secured is ever lost
pub secured-always : (n : ℕ) (f : Handlers) (es more : List Entry) → IsSingle n f (es ++ more) → Carries (world_of n f es) (world_of n f (es ++ more))
secured-always n f es more i =
    let l = legal-append 0 (opening n f) es more i.legal in
    let o = single-append (opening n f) es more i.single in
    let before : IsSingle n f es = single-before n f es more i in
    let g : Preserves (world_of n f es) (world_after (world_of n f es) more) = preserves-along l.1.0 (world_of n f es) more l.1.1 o.1 (sound-single n f es before) (always-exact n f es before) in
    let P : World → Type 0 = λ w. Carries (world_of n f es) w in
    subst P (sym (world_after-append (opening n f) es more)) g.carries
