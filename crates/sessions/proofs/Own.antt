-- Calls of a worker in a session of one caller
use Rattle.std.proofs.Common.{◌≡◌, ℕ, ◌+◌, ◌-◌, ◌≤◌, List, [], ◌∷◌, ◌++◌, length, length-append, true, sym, ap, ◌∙◌, subst}
use Rattle.std.specs.Prelude.{Result, Err}
use Rattle.limits.specs.declared.TheConstants.{ENTRIES}
use Rattle.interp.specs.Image.{TheImage}
use Rattle.world.specs.declared.call.Call.{Call}
use Rattle.world.specs.declared.answer.Answer.{Answer}
use Rattle.world.specs.declared.entry.Entry.{Entry}
use Rattle.world.specs.declared.refusal.Refusal.{Refusal}
use Rattle.world.specs.Bounds.{open_jobs}
use Rattle.world.specs.Calls.{after}
use Rattle.world.specs.Refusals.{refusal_of, cause_of}
use Rattle.world.specs.Useful.{may_call}
use Rattle.machine.specs.Simulation.{TheMachine, Steps}
use Rattle.sessions.specs.Seats.{TheSeat}
use Rattle.sessions.specs.Journal.{TheSession, entry, answered_more, Adds}
use Rattle.sessions.specs.Service.{seat_of, OwesAs, Returns}
use Rattle.sessions.specs.Fields.{IsSession}
use Rattle.sessions.proofs.Steps.{Accepts, accepted, here, refused, session, returns-to}

-- what a service of these fields is
abbrev pub service : List TheImage → List Entry → TheSession
service images es = session images es []

-- one entry more is one answer more
answered : (worker : ℕ) (images : List TheImage) (es entries : List Entry) (e : Entry) → entries ≡ es ++ e ∷ [] → seat_of worker (service images entries) ≡ answered_more 1 (seat_of worker (service images es))
answered worker images es entries e is =
    let more : length entries ≡ length es + 1 = ap length is ∙ length-append es (e ∷ []) in
    let P : ℕ → TheSeat = λ n. record { worker = worker; answered = n } in
    ap P more

-- what an accepted call makes of a service
abbrev pub Grows : ℕ → List TheImage → TheMachine → List Entry → List Entry → Call → Answer → Type 0
Grows worker images m' es entries call answer = Accepts images m' es entries [] (seat_of worker (service images es)) (seat_of worker (service images entries)) call answer

-- it does so where it is a step of the world to which the journal leads, and leaves a place for each open job
pub grows : (worker : ℕ) (images : List TheImage) (m m' : TheMachine) (es entries : List Entry) (call : Call) (answer : Answer) → IsSession images m es → may_call (here images es) worker call ≡ true
    → Steps m m' (ENTRIES - length es) call answer (here images es)
    → entries ≡ es ++ entry worker call answer ∷ [] → m'.calls ≡ m.calls + 1 → length es + 1 + open_jobs (after (here images es) call answer) ≤ ENTRIES → Grows worker images m' es entries call answer
grows worker images m m' es entries call answer s may step is calls room =
    accepted images m m' es [] (seat_of worker (service images es)) call answer s may step entries is (seat_of worker (service images entries)) (answered worker images es entries (entry worker call answer) is) calls room

-- a call that is refused changes nothing
pub stays : (worker : ℕ) (old : TheSession) (images : List TheImage) (es entries : List Entry) (call : Call) (refusal : Refusal) (r : Result Answer Refusal)
    → service images es ≡ old → entries ≡ es → refusal_of (here images es) (ENTRIES - length es) call ≡ cause_of refusal → r ≡ Err refusal → OwesAs worker old (service images entries) call r
stays worker old images es entries call refusal r view kept cause err =
    let back : service images entries ≡ old = ap (service images) kept ∙ view in
    let P : TheSeat → Type 0 = λ seat. Adds old (service images entries) (seat_of worker old) seat call r in
    subst P (ap (seat_of worker) (sym back)) (refused old images es entries [] (seat_of worker old) call refusal r view kept cause err)

-- what a call owes of a process that comes back
pub returns : (worker : ℕ) (old new : TheSession) (call : Call) (a : Answer) → new ≡ record old { entries = old.entries ++ entry worker call a ∷ [] } → Returns old new call a
returns worker old new call a is p k back keeps =
    returns-to old new worker p k (is ∙ (λ i. record old { entries = old.entries ++ entry worker (back i) (keeps i) ∷ [] }))
