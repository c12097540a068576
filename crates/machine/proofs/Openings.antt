-- A machine that opens
use Rattle.std.proofs.Common.{◌≡◌, ℕ, suc, ◌+◌, ◌-◌, ◌<◌, ◌≤◌, List, [], ◌∷◌, ◌++◌, length, map, take, replicate, Bool, true, false, true≢false, refl, sym, ap, ◌∙◌, subst, arith, get_or}
use Rattle.std.specs.Prelude.{◌==◌, if◌then◌else◌, None, slice_index_or, nat_lt}
use Rattle.std.proofs.lemmas.List.{get_or-replicate, get_or_push, get_or_append_left, length-replicate, length-map, length_push}
use Rattle.std.proofs.Math.ListN.{get_or-eq_default}
use Rattle.std.proofs.Math.Seq.{take-nil}
use Rattle.std.proofs.lemmas.List.Elements.{All-push}
use Rattle.std.proofs.lemmas.Bool.{false≢true}
use Rattle.std.proofs.lemmas.Bool.Decides.{nat_tests}
use Rattle.std.proofs.lemmas.Option.{slice_get-get_or}
use Rattle.limits.specs.declared.TheConstants.{PARTIES, STATE_BYTES}
use Rattle.checkpoint.specs.Saved.{TheKept, nothing_kept}
use Rattle.sender_log.specs.Queue.{TheQueue, no_queue}
use Rattle.sender_log.specs.Log.{queue_of}
use Rattle.world.specs.Handlers.{Handlers}
use Rattle.world.specs.World.{World, opening}
use Rattle.world.specs.History.{Payload}
use Rattle.world.specs.Phases.{Up}
use Rattle.theorems.proofs.Journals.{opens-sound}
use Rattle.theorems.proofs.TidyLemmas.{opens-tidy}
use Rattle.theorems.proofs.GateLemmas.{opens-gated}
use Rattle.session_process.specs.Process.{TheProcess, idle_process}
use Rattle.session_process.specs.Outside.{empty_outside}
use Rattle.session_process.specs.Stable.{idle_saved}
use Rattle.machine.specs.Simulation.{Saves, TheMachine, StandsAt, Keeps, Holds, Shows, Stands}
use Rattle.machine.specs.Fields.{IsSoundAt, IsLogOf}
use Rattle.machine.specs.Openings.{AreIdle, BeginWith}

idle-split : (n : ℕ) (lengths : List ℕ) (i : ℕ) (ps : List TheProcess) → AreIdle n lengths ps → (p : ℕ) (d : TheProcess) (e : ℕ) → p < suc (length lengths) → (b : Bool) → nat_lt p (length lengths) ≡ b
    → slice_index_or (ps ++ idle_process (suc (length lengths)) n i ∷ []) p d ≡ idle_process (suc p) n (slice_index_or (lengths ++ i ∷ []) p e)
idle-split n lengths i ps a p d e h true f =
    let inside : p < length lengths = grind (arith, nat_tests) in
    let here : p < length ps = omega (arith, a.count, inside) in
    get_or_append_left ps (idle_process (suc (length lengths)) n i ∷ []) d p here ∙ a.idle p d e inside
    ∙ ap (idle_process (suc p) n) (sym (get_or_append_left lengths (i ∷ []) e p inside))
idle-split n lengths i ps a p d e h false f =
    let last : length lengths ≡ p = (let past : length lengths ≤ p = grind (arith, nat_tests) in omega (arith, past, h)) in
    get_or_push ps (idle_process (suc (length lengths)) n i) d p (a.count ∙ last) ∙ ap (λ k. idle_process (suc k) n i) last
    ∙ ap (idle_process (suc p) n) (sym (get_or_push lengths i e p last))

-- one process more
pub idle-push : (n : ℕ) (lengths : List ℕ) (i : ℕ) (ps : List TheProcess) → i ≤ STATE_BYTES → AreIdle n lengths ps → AreIdle n (lengths ++ i ∷ []) (ps ++ idle_process (suc (length lengths)) n i ∷ [])
idle-push n lengths i ps short a = record {
  count = omega (arith, length_push ps (idle_process (suc (length lengths)) n i), length_push lengths i, a.count);
  short = All-push (λ len. len ≤ STATE_BYTES) lengths i a.short short;
  idle = λ p d e h. idle-split n lengths i ps a p d e (let l = length_push lengths i in omega (arith, l, h)) (nat_lt p (length lengths)) refl;
}

-- a list of one value, read anywhere with that value as default
replicate-split : {X : Type 0} (n k : ℕ) (x : X) (b : Bool) → nat_lt k n ≡ b → slice_index_or (replicate n x) k x ≡ x
replicate-split n k x true e = get_or-replicate n k x x (grind (arith, nat_tests))
replicate-split n k x false e = get_or-eq_default (replicate n x) x {n = k} (let len = length-replicate n x in let h : n ≤ k = grind (arith, nat_tests) in omega (arith, len, h))

pub replicate-at : {X : Type 0} (n k : ℕ) (x : X) → slice_index_or (replicate n x) k x ≡ x
replicate-at n k x = replicate-split n k x (nat_lt k n) refl

-- the machine that opens with these processes, of states of these lengths
abbrev pub fresh : List ℕ → List TheProcess → TheMachine
fresh lengths ps = record { lengths = lengths; processes = ps; outside = empty_outside (length lengths); slots = []; started = 0; calls = 0 }

module _ (lengths : List ℕ) (ps : List TheProcess) (a : AreIdle (length lengths) lengths ps) where
  within : (p : ℕ) → p < length ps → p < length lengths
  within p h = omega (arith, a.count, h)

  -- each process received nothing, and has its length
  pub idle-is : (p : ℕ) (d : TheProcess) → p < length ps → slice_index_or ps p d ≡ idle_process (suc p) (length lengths) (get_or lengths p 0)
  idle-is p d h = a.idle p d 0 (within p h)

  module _ (f : Handlers) (b : BeginWith lengths f) where
    -- nothing was sent by the checkpoint
    idle-saves : (p len : ℕ) → Saves (length ps) (suc p) (idle_saved (suc p) (length lengths) len) (replicate len 0) [] (λ d. 0) (f.sends (suc p) [])
    idle-saves p len =
        record {
          state_is = refl;
          senders_are = refl;
          first = λ d within other. ap (λ (q : TheKept). q.first) (replicate-at (length lengths + 1) d nothing_kept);
          rest = λ d within other. record {
            before = [];
            count = refl;
            joined = ap (λ (q : TheKept). q.payloads) (replicate-at (length lengths + 1) d nothing_kept) ∙ sym (b.starts (suc p) d);
          };
        }

    idle-stands : (p : ℕ) (d : TheProcess) → p < length ps
        → StandsAt (length ps) (suc p) (slice_index_or ps p d) (f.state (suc p)) (f.sends (suc p)) [] Up 1 (λ k. false) 0 (λ d. 0)
    idle-stands p d h =
        let len = get_or lengths p 0 in
        let nothing : f.state (suc p) [] ≡ replicate len 0 = b.zeros (suc p) len (slice_get-get_or lengths p 0 (within p h)) in
        let kept : StandsAt (length ps) (suc p) (idle_process (suc p) (length lengths) len) (f.state (suc p)) (f.sends (suc p)) [] Up 1 (λ k. false) 0 (λ d. 0) =
        record {
          state_is = λ back. sym nothing;
          gone = λ lost. absurd (false≢true lost);
          senders = refl;
          flags = refl;
          acknowledged_is = λ k l. absurd (omega (arith, l));
          in_order = tt;
          phase_is = refl;
          works = tt;
          incarnation_is = refl;
          saves = rw nothing (idle-saves p len);
        } in
        subst (λ (x : TheProcess). StandsAt (length ps) (suc p) x (f.state (suc p)) (f.sends (suc p)) [] Up 1 (λ k. false) 0 (λ d. 0)) (sym (idle-is p d h)) kept

    w : World
    w = opening (length lengths) f

    m : TheMachine
    m = fresh lengths ps

    -- no log has a message
    unlogged : (p d : ℕ) → p ≤ length ps → (b : Bool) → (p == 0) ≡ b → queue_of d (if b then (empty_outside (length lengths)).log else (slice_index_or ps (p - 1) (idle_process 0 0 0)).outbox.log) ≡ no_queue
    unlogged p d h true e = replicate-at (length lengths + 1) d no_queue
    unlogged p d h false e =
        let inside : p - 1 < length ps = grind (arith, nat_tests) in
        ap (λ (x : TheProcess). queue_of d x.outbox.log) (idle-is (p - 1) (idle_process 0 0 0) inside) ∙ replicate-at (length lengths + 1) d no_queue

    unsent : (p d : ℕ) (b : Bool) → (if b then [] else f.sends p [] d) ≡ []
    unsent p d true = refl
    unsent p d false = b.starts p d

    empty-keeps : Keeps no_queue 0 [] (λ k. None)
    empty-keeps = record { first = refl; rest = record { before = []; count = refl; joined = refl }; as_many = refl; numbers_are = λ i l. absurd (omega (arith, l)) }

    logs-kept : (p d : ℕ) → p ≤ length ps → Keeps (queue_of d (if p == 0 then (empty_outside (length lengths)).log else (slice_index_or ps (p - 1) (idle_process 0 0 0)).outbox.log)) 0 (if p == 0 then [] else f.sends p [] d) (λ k. None)
    logs-kept p d h =
        let q = sym (unlogged p d h (p == 0) refl) in
        let s = sym (unsent p d (p == 0)) in
        let xs = if p == 0 then [] else f.sends p [] d in
        subst (λ (x : TheQueue). Keeps x 0 xs (λ k. None)) q (subst (λ (ys : List Payload). Keeps no_queue 0 ys (λ k. None)) s empty-keeps)

    gate-holds : (p d : ℕ) → 0 < p → p ≤ length ps → Holds d (slice_index_or ps (p - 1) (idle_process 0 0 0)).outbox.gate 0 0 0 (λ k. length (f.sends p (take k []) d))
    gate-holds p d positive h =
        let inside : p - 1 < length ps = omega arith in
        let empty = (idle_process (suc (p - 1)) (length lengths) (get_or lengths (p - 1) 0)).outbox.gate in
        let held : Holds d empty 0 0 0 (λ k. length (f.sends p (take k []) d)) =
        record {
          released_is = replicate-at PARTIES d 0;
          waits = λ k low high. sym (ap (λ l. length (f.sends p l d)) (take-nil k) ∙ ap length (b.starts p d));
        } in
        subst (λ (x : TheProcess). Holds d x.outbox.gate 0 0 0 (λ k. length (f.sends p (take k []) d))) (sym (idle-is (p - 1) (idle_process 0 0 0) inside)) held

    shown : Shows m w
    unfolding m w
    shown =
        record {
          count = sym a.count;
          process = λ p d h. idle-stands p d h;
          logs = λ p d hp hd apart back. logs-kept p d hp;
          gates = λ p d positive hp hd apart up. gate-holds p d positive hp;
          shut = λ p d positive hp off. absurd (true≢false off);
          feeds = λ k. refl;
          shown = refl;
          wire = λ key. refl;
          started = refl;
          outside = refl;
        }

    -- the machine stands for the opening world
    pub opens : Stands (fresh lengths ps) (opening (length lengths) f)
    unfolding m w
    opens =
        let n = length lengths in
        record { shows = shown; sound = opens-sound n f b.grows; tidy = opens-tidy n f; gated = opens-gated n f b.starts; unsent = refl }

  -- its processes are sound, and so is the outside
  pub idle-sound : (p : ℕ) (d : TheProcess) (e : ℕ) → p < length ps → IsSoundAt (length ps) (suc p) (slice_index_or lengths p e) 0 (slice_index_or ps p d)
  idle-sound p d e h =
      let len = slice_index_or lengths p e in
      let sound : IsSoundAt (length ps) (suc p) len 0 (idle_process (suc p) (length lengths) len) =
      record {
        short = a.short p e (within p h);
        state = λ back. length-replicate len 0;
        log = record { owner = refl; width = omega (arith, length-replicate (length lengths + 1) no_queue, a.count) };
        senders = refl;
        whole = λ e. refl;
        planned = tt;
        begun_by = omega arith;
        incarnation = omega arith;
        own = refl;
        count = sym a.count;
        saved_state = length-replicate len 0;
        saved_by = omega arith;
      } in
      subst (IsSoundAt (length ps) (suc p) len 0) (sym (a.idle p d e (within p h))) sound

  pub outside-sound : IsLogOf (length ps) 0 (empty_outside (length lengths)).log
  outside-sound = record { owner = refl; width = omega (arith, length-replicate (length lengths + 1) no_queue, a.count) }

  pub inputs-sound : (d : ℕ) → (queue_of d (empty_outside (length lengths)).log).first + length (queue_of d (empty_outside (length lengths)).log).payloads ≤ 1
  inputs-sound d = let e = ap (λ (q : TheQueue). q.first + length q.payloads) (replicate-at (length lengths + 1) d no_queue) in omega (arith, e)
