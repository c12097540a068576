-- The worked list of calls of hosts of two processes
use Rattle.std.proofs.Common.{◌≡◌, inl, inr, ℕ, ◌+◌, ◌≤◌, List, [], ◌∷◌, length, Bool, true, false, refl, arith}
use Rattle.std.specs.Prelude.{Some, None, slice_index_or}
use Rattle.packets.specs.Packet.{entries_in_range, pairs_in_range}
use Rattle.rsn.specs.Receipts.{Received}
use Rattle.node.specs.declared.limit.Limits.{Limits}
use Rattle.node.specs.Limit.{usual, AreAllowed}
use Rattle.node.specs.Queue.{TheQueue, no_queue}
use Rattle.node.specs.Node.{IsWithin, log_at, new_node}
use Rattle.node.specs.Kept.{kept_of}
use Rattle.node.specs.Transmission.{ticked}
use Rattle.node.proofs.Handover as nodes
use Rattle.recovery.specs.Collection.{TheCollecting}
use Rattle.recovery.specs.Plan.{Plans}
use Rattle.recovery.specs.Replays.{TheReplaying}
use Rattle.recovery.specs.StandsAtReplay.{replayed_of}
use Rattle.recovery.proofs.Reports as collecting
use Rattle.recovery.proofs.Moments.{comes-back}
use Rattle.recovery.proofs.ReplayLemmas.{ends-so, collecting-takes}
use Rattle.recovery.specs.Restoration.{IsRestoring, up}
use Rattle.recovery.proofs.Beginnings.{beginning}
use Rattle.recovery.proofs.RestorationReports as restoring
use Rattle.recovery.proofs.Returns as returns
use Rattle.gateway.specs.Gateway.{new_gateway}
use Rattle.gateway.proofs.Views as gateways
use Rattle.gateway.proofs.Handover.{handed-so}
use Rattle.verifier.specs.declared.any_image.AnyImage.{AnyImage}
use Rattle.node.proofs.Sendings.{ticking}
use Rattle.rsn.specs.declared.receipts.TheConstants.{LIMIT}
use Rattle.recovery.specs.declared.lifecycle.Lifecycle.TheVariants.{Up, Collecting, Replaying, Replayed, Restoring}
use Rattle.recovery.specs.Transitions.{Passes}
use Rattle.recovery.proofs.Preservation.{at-each}
use Rattle.node_laws.specs.HostProcess.{IsFirst}
use Rattle.node_laws.specs.WorkedMessages.{gave, quiet, collects, restores}
use Rattle.node_laws.specs.WorkedBeside.{ask, told, resume, restored, asked, resumed, other_asked, other_resumed, comes, hears, has_all, begins, enters, has_answers, Open, MayOpen, HostsComeBackBeside}
use Rattle.node_laws.proofs.WorkedMessages.{usual-allowed, early}
use Rattle.node_laws.proofs.Worked.{hears-up, gives-up, revives-as, opens-as}
use Rattle.node_laws.specs.Inside.Process.{Recovers}

abbrev replays : List ℕ → TheReplaying
replays initial = record { own = (has_all initial).own; plan = []; done = 0 }

-- nothing was told, so nothing is planned
none-planned : (initial : List ℕ) → Plans (has_all initial) []
unfolding entries_in_range
none-planned initial h c = record { follows = tt; most = refl }

recovers : (initial : List ℕ) → Recovers (has_all initial) (replays initial)
unfolding entries_in_range
recovers initial = record { all = refl; is = record { own = refl; plans = none-planned initial; none = refl }; acts = comes-back (has_all initial) [] refl (none-planned initial) }

is-restoring : (initial : List ℕ) → IsRestoring (restores [] (begins initial)).own (restores [] (begins initial)).above (restores [] (begins initial)).answered
unfolding entries_in_range
is-restoring initial = record { wide = refl; answered_wide = refl; heard_wide = refl; logs_wide = refl; alone = refl }

enters-still : (initial : List ℕ) → IsRestoring (enters initial).own (enters initial).above (enters initial).answered
unfolding entries_in_range pairs_in_range
enters-still initial = record { wide = refl; answered_wide = refl; heard_wide = refl; logs_wide = refl; alone = refl }

-- what the other keeps, which received and sent nothing
zero-at : (q : ℕ) → slice_index_or (0 ∷ 0 ∷ 0 ∷ []) q 0 ≤ 0
zero-at q = at-each (λ z. z ≤ 0) (0 ∷ 0 ∷ 0 ∷ []) 0 (omega arith) (omega arith, (omega arith, (omega arith, tt))) q

abbrev logs : List TheQueue
logs = no_queue ∷ no_queue ∷ no_queue ∷ []

none-at : (k d : ℕ) → (log_at logs d).dropped + length (log_at logs d).payloads ≤ k
none-at k d = at-each (λ (q : TheQueue). q.dropped + length q.payloads ≤ k) logs no_queue (omega arith) (omega arith, (omega arith, (omega arith, tt))) d

abbrev nothing : Received
nothing = record { senders = []; acknowledged = [] }

within : (heard : List ℕ) (resumed : List Bool) → length heard ≡ 3 → length resumed ≡ 3 → IsWithin usual 2 2 0 (0 ∷ 0 ∷ 0 ∷ []) heard resumed nothing logs None false 0 1 []
within heard resumed h r =
    record {
      allowed = usual-allowed;
      inside = omega arith;
      within = omega arith;
      few = omega arith;
      wide = refl;
      heard_wide = h;
      resumed_wide = r;
      logs_wide = refl;
      counts = zero-at;
      peers = record { total = refl; none_own = refl; behind = tt };
      young = omega arith;
      bound = omega arith;
      room = λ e. absurd (cc (e));
      waits = omega arith;
      own = tt;
      numbered = tt;
      rests = λ e. refl;
      short = λ d. none-at _ d;
      alive = (omega arith, omega arith);
      fit = tt;
    }

pub first : IsFirst 2 1
first = (omega arith, omega arith)

pub second : IsFirst 2 2
second = (omega arith, omega arith)

-- two processes open, if these bytes are what is kept of them
pub may-open : (images : ℕ → AnyImage) (limits : Limits) (initial : List ℕ) (bytes : ℕ → List ℕ) → AreAllowed limits → MayOpen images initial bytes → Open images limits initial bytes
may-open images limits initial bytes allowed o =
    record {
      opened = λ p l. (opens-as (images p) limits 2 p initial (bytes p) allowed l (omega arith) (o p l).0 (o p l).1).0;
      stored = λ p l. (opens-as (images p) limits 2 p initial (bytes p) allowed l (omega arith) (o p l).0 (o p l).1).1;
    }

-- one that waits for another answer stays in its stage
pub still-collects : (n : TheCollecting) → Passes (Collecting n) (Collecting n)
still-collects n = record { told = Collecting n; ran = Collecting n; asks = Collecting n; recovers = refl; finishes = refl; begins = refl; returns = refl }

pub hosts-come-back-beside : HostsComeBackBeside
unfolding entries_in_range pairs_in_range
hosts-come-back-beside images initial page tick bytes may =
    let one : AnyImage = images 1 in
    let two : AnyImage = images 2 in
    let none : length (replays initial).plan ≤ LIMIT = omega arith in
    let over : Passes (Collecting (has_all initial)) (Restoring (begins initial)) =
    record { told = Replaying (replays initial); ran = Replayed (replayed_of (replays initial)); asks = Restoring (begins initial); recovers = ((recovers initial).all, (recovers initial).is, (recovers initial).acts, none); finishes = (refl, refl, ends-so (replays initial) refl (omega arith)); begins = (refl, beginning (replayed_of (replays initial))); returns = (refl, refl) } in
    let waits : Passes (Restoring (enters initial)) (Restoring (enters initial)) =
    record { told = Restoring (enters initial); ran = Restoring (enters initial); asks = Restoring (enters initial); recovers = refl; finishes = refl; begins = refl; returns = (refl, refl) } in
    let returned : Passes (Restoring (has_answers initial)) (Up (ticked (up (has_answers initial)))) =
    record { told = Restoring (has_answers initial); ran = Restoring (has_answers initial); asks = Restoring (has_answers initial); recovers = refl; finishes = refl; begins = refl; returns = (refl, (up (has_answers initial), (refl, returns.is-up (has_answers initial) refl, refl, ticking (up (has_answers initial))))) } in
    record {
      opens = may-open images usual initial bytes usual-allowed may;
      calls = (first, ((first, (refl, (early, revives-as one usual (kept_of (new_node usual 1 2 initial)) (bytes 1) 2 (may 1 first).1 refl (may 1 first).0))), ((first, record { image = refl; does = collecting-takes (Some (ask 1 0)) (comes usual 1 initial) (ask 1 2 ∷ []) refl }), ((first, record { image = refl; does = collecting-takes (Some (ask 1 2)) (collects (ask 1 2 ∷ []) (comes usual 1 initial)) [] refl }), ((inr (inl refl), (refl, handed-so (ask 1 0) (new_gateway 2 page tick))), (tt, ((refl, gateways.takes-so (Some (told 0)) (asked page tick) [] refl), ((second, (inr (inl refl), hears-up two (ask 1 2) (new_node usual 2 2 initial) (other_asked initial) (refl, nodes.handed-so (ask 1 2) (new_node usual 2 2 initial) (within (1 ∷ 1 ∷ 1 ∷ []) (true ∷ true ∷ true ∷ []) refl refl)))), ((second, gives-up two (told 2) (other_asked initial) [] refl), ((first, (inr (inl refl), record { image = refl; mid = Collecting (hears initial); does = (refl, collecting.handing (collects [] (comes usual 1 initial)) (told 0) refl refl refl); passes = still-collects (hears initial) })), ((first, (inl refl, record { image = refl; mid = Collecting (has_all initial); does = (refl, collecting.handing (hears initial) (told 2) refl refl refl); passes = over })), ((first, record { image = refl; does = returns.takes-so (Some (resume 0)) (begins initial) (resume 2 ∷ []) refl }), ((first, record { image = refl; does = returns.takes-so (Some (resume 2)) (restores (resume 2 ∷ []) (begins initial)) [] refl }), ((inr (inl refl), (refl, handed-so (resume 0) (gave [] (asked page tick)))), (tt, ((refl, gateways.takes-so (Some (restored 0)) (resumed page tick) [] refl), ((second, (inr (inl refl), hears-up two (resume 2) (quiet (other_asked initial)) (other_resumed initial) (refl, nodes.handed-so (resume 2) (quiet (other_asked initial)) (within (1 ∷ 2 ∷ 1 ∷ []) (true ∷ false ∷ true ∷ []) refl refl)))), ((second, gives-up two (restored 2) (other_resumed initial) [] refl), ((first, (inr (inl refl), record { image = refl; mid = Restoring (enters initial); does = (refl, restoring.handing (restores [] (begins initial)) (restored 0) (is-restoring initial)); passes = waits })), ((first, (inl refl, record { image = refl; mid = Restoring (has_answers initial); does = (refl, restoring.handing (enters initial) (restored 2) (enters-still initial)); passes = returned })), tt))))))))))))))))))));
      alone = ((λ q inside other. (new_node usual q 2 initial, refl)), (tt, (tt, (tt, (tt, (tt, (tt, (tt, (tt, (tt, (tt, (tt, (tt, (tt, (tt, (tt, (tt, (tt, (tt, (tt, tt))))))))))))))))))));
      node = ticked (up (has_answers initial));
      is_up = refl;
      life = refl;
      exact = refl;
      other = refl;
    }
