-- What each accepted call of the machine does to the session
use Rattle.std.proofs.Common.{◌≡◌, ℕ, Bool, ◌||◌, ◌==◌, zero, suc, ◌+◌, ◌-◌, ◌≤◌, List, [], ◌∷◌, ◌++◌, length, length-append, append_assoc, true, false, refl, sym, ap, ◌∙◌, subst, arith}
use Rattle.std.specs.Prelude.{◌&&◌, Option, Some, None, Result, Ok, Err, option_and_then, unwrap_or}
use Rattle.std.proofs.lemmas.List.{length-map}
use Rattle.limits.specs.declared.TheConstants.{ENTRIES}
use Rattle.interp.specs.Image.{TheImage}
use Rattle.world.specs.declared.call.Call.{Call}
use Rattle.world.specs.declared.answer.Answer.{Answer}
use Rattle.world.specs.declared.entry.Entry.{Entry}
use Rattle.world.specs.declared.refusal.Refusal.{Refusal}
use Rattle.world.specs.declared.refusal.Refusal.TheVariants.{Memory}
use Rattle.sessions.specs.Fold.{handlers_of}
use Rattle.world.specs.World.{World, opening}
use Rattle.world.specs.Bounds.{count_below, open_jobs}
use Rattle.world.specs.Calls.{after}
use Rattle.world.specs.Refusals.{refusal_of, cause_of}
use Rattle.world.specs.Useful.{is_free, is_useful, may_call}
use Rattle.world.specs.Legal.{WStep, world_of, world_after, is_single, all_single}
use Rattle.world.proofs.Runs.{world_after-push, world_after-setting, Legal-push}
use Rattle.machine.specs.Openings.{BeginWith, Opens}
use Rattle.machine.specs.Simulation.{TheMachine, Stands, Steps}
use Rattle.theorems.specs.Recovery.{RecoversExactly, recovery}
use Rattle.theorems.specs.Single.{IsSingle}
use Rattle.theorems.proofs.KeptLemmas.{recovers-exactly}
use Rattle.sessions.specs.Seats.{TheSeat}
use Rattle.sessions.specs.Journal.{TheSession, entry, answered_more, Adds, ReturnsTo, is_exact_of, world_at, room_at}
use Rattle.sessions.specs.Fields.{IsSession, lengths_of}
use Rattle.sessions.proofs.FoldLemmas.{handlers_of-zeros}
use Rattle.sessions.proofs.HandlerLemmas.{handlers-grow, handlers-start}

-- the world of a session's fields
abbrev pub here : List TheImage → List Entry → World
here images es = world_of (length images) (handlers_of images) es

-- its world has as many processes as there are images
pub count-is : (images : List TheImage) (es : List Entry) → (here images es).count ≡ length images
count-is images es = (world_after-setting (opening (length images) (handlers_of images)) es).0

-- and so has the machine
pub sizes-are : (images : List TheImage) (m : TheMachine) (es : List Entry) → Stands m (here images es) → length m.processes ≡ length images
sizes-are images m es s = sym s.shows.count ∙ count-is images es

-- their handlers are those of the images
pub handlers-are : (images : List TheImage) (es : List Entry) → (here images es).handlers ≡ handlers_of images
handlers-are images es = (world_after-setting (opening (length images) (handlers_of images)) es).1

-- what a session without its seats at hand is
abbrev pub session : List TheImage → List Entry → List (Option TheSeat) → TheSession
session images es seats = record { images = images; entries = es; seats = seats }

-- a call that any seat may make
pub may-free : (w : World) (worker : ℕ) (call : Call) → is_free call ≡ true → may_call w worker call ≡ true
may-free w worker call free = by_worker (worker == 0)
  where
    by_worker : (b : Bool) → (b || (is_free call || is_useful w call)) ≡ true
    by_worker true = refl
    by_worker false = rw free refl

-- Failures that come one at a time

and-true : (b : Bool) → (b && true) ≡ b
and-true true = refl
and-true false = refl

and-false : (b : Bool) → (b && false) ≡ false
and-false true = refl
and-false false = refl

and-and : (a b c : Bool) → (a && (b && c)) ≡ ((a && b) && c)
and-and true b c = refl
and-and false b c = refl

single-push : (w : World) (es : List Entry) (e : Entry) → all_single w (es ++ e ∷ []) ≡ (all_single w es && is_single (world_after w es) e.call)
single-push w [] e = and-true (is_single w e.call)
single-push w (x ∷ es) e = ap (λ b. is_single w x.call && b) (single-push (after w x.call x.answer) es e) ∙ and-and (is_single w x.call) (all_single (after w x.call x.answer) es) (is_single (world_after w (x ∷ es)) e.call)

-- whether failures came one at a time, after a call by which it stays so, and by which it doesn't
abbrev pub Carries : List TheImage → List Entry → List Entry → Call → Type 0
Carries images es entries call = (b : Bool) → b ≡ is_exact_of images es → (b && is_single (here images es) call) ≡ is_exact_of images entries

-- by a call that keeps to a single failure it stays as it was
pub carried : (b x : Bool) → (b && true) ≡ x → b ≡ x
carried b x e = sym (and-true b) ∙ e

-- and by another it is so no more
pub ended : (b x : Bool) → (b && false) ≡ x → false ≡ x
ended b x e = sym (and-false b) ∙ e

-- after a crash, with every other process up or not
pub stays : (b y o u x : Bool) → b ≡ true → y ≡ o → o ≡ u → (b && u) ≡ x → y ≡ x
stays b y o u x h is same e = is ∙ same ∙ sym (ap (λ z. z && u) h) ∙ e

-- and where it wasn't so before, it isn't after
pub stops : (b y u x : Bool) → b ≡ false → y ≡ false → (b && u) ≡ x → y ≡ x
stops b y u x h is e = is ∙ sym (ap (λ z. z && u) h) ∙ e

-- what an accepted call makes of a session
abbrev pub Accepts : List TheImage → TheMachine → List Entry → List Entry → List (Option TheSeat) → TheSeat → TheSeat → Call → Answer → Type 0
Accepts images m' es entries seats by by' call answer =
    IsSession images m' entries × Adds (session images es seats) (session images entries seats) by by' call (Ok answer) × Carries images es entries call

module _ (images : List TheImage) (m m' : TheMachine) (es : List Entry) (seats : List (Option TheSeat)) (by : TheSeat) (call : Call) (answer : Answer) (s : IsSession images m es) (may : may_call (here images es) by.worker call ≡ true) (taken : Steps m m' (ENTRIES - length es) call answer (here images es)) where
  e : Entry
  e = entry by.worker call answer

  stepped : WStep (ENTRIES - length es) (here images es) call answer (here images (es ++ e ∷ []))
  unfolding e
  stepped = record { accepted = taken.accepted; answered = taken.answered; becomes = world_after-push (opening (length images) (handlers_of images)) es e }

  keeps : m'.calls ≡ m.calls + 1 → length es + 1 + open_jobs (after (here images es) call answer) ≤ ENTRIES → IsSession images m' (es ++ e ∷ [])
  unfolding e
  keeps calls room =
      let push = world_after-push (opening (length images) (handlers_of images)) es e in
      let len : length (es ++ e ∷ []) ≡ length es + 1 = length-append es (e ∷ []) in
      let leads : Stands m' (here images (es ++ e ∷ [])) = subst (Stands m') (sym push) taken.stands in
      record {
        legal = Legal-push (length images) (handlers_of images) es e s.legal may (record { accepted = taken.accepted; answered = taken.answered; becomes = refl });
        leads = leads;
        sizes = sizes-are images m' (es ++ e ∷ []) leads;
        lengths = taken.lengths ∙ s.lengths;
        calls = omega (arith, calls, s.calls, len);
        room = omega (arith, len, room, ap open_jobs push);
      }

  carry : (entries : List Entry) → entries ≡ es ++ entry by.worker call answer ∷ [] → Carries images es entries call
  carry entries is b h =
      ap (λ x. x && is_single (here images es) call) h ∙ sym (single-push (opening (length images) (handlers_of images)) es (entry by.worker call answer)) ∙ sym (ap (is_exact_of images) is)

  -- the session after an accepted call
  pub accepted : (entries : List Entry) → entries ≡ es ++ entry by.worker call answer ∷ [] → (by' : TheSeat) → by' ≡ answered_more 1 by
      → m'.calls ≡ m.calls + 1 → length es + 1 + open_jobs (after (here images es) call answer) ≤ ENTRIES
      → Accepts images m' es entries seats by by' call answer
  unfolding e
  accepted entries is by' seat calls room =
      (rw is (keeps calls room), (rw is stepped, ap (λ xs. session images xs seats) is, seat), carry entries is)

-- want of memory is told where there is no other cause
pub told : (o : Option Refusal) → option_and_then cause_of o ≡ cause_of (unwrap_or o Memory)
told None = refl
told (Some r) = refl

-- a call that the machine refuses changes nothing
pub refused : (old : TheSession) (images : List TheImage) (es entries : List Entry) (seats : List (Option TheSeat)) (by : TheSeat) (call : Call) (refusal : Refusal) (r : Result Answer Refusal)
    → session images es seats ≡ old → entries ≡ es → refusal_of (here images es) (ENTRIES - length es) call ≡ cause_of refusal → r ≡ Err refusal → Adds old (session images entries seats) by by call r
refused old images es entries seats by call refusal r view kept cause err =
    let P : TheSession → Type 0 = λ s. refusal_of (world_at s) (room_at s) call ≡ cause_of refusal in
    let Q : Result Answer Refusal → Type 0 = λ r. Adds old (session images entries seats) by by call r in
    let back : session images entries seats ≡ session images es seats = ap (λ xs. session images xs seats) kept in
    subst Q (sym err) (back ∙ view, refl, subst P view cause)

-- a cause that is told, where there is none want of memory
pub caused : (w : World) (room : ℕ) (call : Call) (o : Option Refusal) (r : Refusal) → refusal_of w room call ≡ option_and_then cause_of o → r ≡ unwrap_or o Memory → refusal_of w room call ≡ cause_of r
caused w room call o r cause is = cause ∙ told o ∙ ap cause_of (sym is)

no-jobs : (n : ℕ) → count_below (λ p. false) n ≡ 0
no-jobs zero = refl
no-jobs (suc n) = omega (arith, no-jobs n)

-- what the processes of images begin with
begin-with : (images : List TheImage) → BeginWith (lengths_of images) (handlers_of images)
begin-with images = record { grows = handlers-grow images; starts = handlers-start images; zeros = handlers_of-zeros images }

-- a session that opens
pub opened : (images : List TheImage) (m : TheMachine) → Opens (lengths_of images) (Ok m) → IsSession images m []
opened images m opens =
    let same : length (lengths_of images) ≡ length images = length-map images (λ (i : TheImage). i.len) in
    let leads : Stands m (here images []) = subst (λ n. Stands m (opening n (handlers_of images))) same (opens.3 (handlers_of images) (begin-with images)) in
    record { legal = tt; leads = leads; sizes = sizes-are images m [] leads; lengths = opens.1; calls = opens.2; room = omega (arith, no-jobs (suc (length images))) }

-- p came back with k messages
pub returns-to : (old new : TheSession) (worker p k : ℕ) → new ≡ record old { entries = old.entries ++ recovery worker p k ∷ [] } → ReturnsTo old new p k
returns-to old new worker p k is more single =
    let es : List Entry = old.entries ++ recovery worker p k ∷ more in
    let joined : new.entries ++ more ≡ es = ap (λ (s : TheSession). s.entries ++ more) is ∙ append_assoc old.entries (recovery worker p k ∷ []) more in
    let images : new.images ≡ old.images = ap (λ (s : TheSession). s.images) is in
    let P : List TheImage → List Entry → Type 0 = λ images xs. IsSingle (length images) (handlers_of images) xs in
    let Q : List TheImage → List Entry → Type 0 = λ images xs. RecoversExactly (world_at old) (world_of (length images) (handlers_of images) xs) p k more in
    let given : P old.images es = subst (λ i. P i es) images (subst (P new.images) joined single) in
    let all : Q old.images es = recovers-exactly (length old.images) (handlers_of old.images) old.entries more worker p k given in
    subst (Q new.images) (sym joined) (subst (λ i. Q i es) (sym images) all)
