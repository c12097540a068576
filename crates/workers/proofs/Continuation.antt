-- Sessions that continue others
use Rattle.std.proofs.Common.{◌≡◌, ◌∙◌, ◌++◌, ◌∷◌, List, [], length, take, drop, append_assoc, Bool, true, false, refl, sym, ap, subst, true≢false}
use Rattle.std.specs.Prelude.{◌&&◌, Ok}
use Rattle.std.proofs.lemmas.List.{append-nil, take-append-drop}
use Rattle.world.specs.declared.call.Call.{Call}
use Rattle.world.specs.declared.call.Call.TheVariants.{Input, Transmit, Copy, Lose, Arrive, Finish, Checkpoint, Trim, Crash, Recover, RecoverAlone, ReplayBegin, Resync}
use Rattle.world.specs.declared.answer.Answer.{Answer}
use Rattle.world.specs.declared.entry.Entry.{Entry}
use Rattle.sessions.specs.Fold.{handlers_of}
use Rattle.world.specs.World.{World, opening}
use Rattle.world.specs.Calls.{after}
use Rattle.world.specs.Useful.{may_call}
use Rattle.world.specs.Legal.{is_single, all_single, world_after, world_of}
use Rattle.world.proofs.Runs.{world_after-append}
use Rattle.sessions.specs.Seats.{TheSeat}
use Rattle.sessions.specs.Journal.{TheSession, Adds, entry, is_exact, is_exact_of, world_at}
use Rattle.workers.specs.Continues.{Begins, Continues, are_allowed}
use Rattle.workers.proofs.Served.{take-front, drop-front}

both : (a b : Bool) → (a && b) ≡ true → (a ≡ true) × (b ≡ true)
both true true e = (refl, refl)
both true false e = absurd (true≢false (sym e))
both false b e = absurd (true≢false (sym e))

-- a call that a worker may make is no failure
single-allowed : (w : World) (call : Call) → may_call w 1 call ≡ true → is_single w call ≡ true
single-allowed w (Crash p) may = absurd (true≢false (sym may))
single-allowed w (RecoverAlone p) may = absurd (true≢false (sym may))
single-allowed w (Input d feed x) may = refl
single-allowed w (Transmit p d i) may = refl
single-allowed w (Copy key) may = refl
single-allowed w (Lose key) may = refl
single-allowed w (Arrive key) may = refl
single-allowed w (Finish p) may = refl
single-allowed w (Checkpoint p) may = refl
single-allowed w (Trim d) may = refl
single-allowed w (Recover p) may = refl
single-allowed w (ReplayBegin p) may = refl
single-allowed w (Resync p r) may = refl

all-single : (w : World) (es : List Entry) → are_allowed w es ≡ true → all_single w es ≡ true
all-single w [] all = refl
all-single w (e ∷ es) all =
    let each = both (may_call w 1 e.call) (are_allowed (after w e.call e.answer) es) all in
    let one : is_single w e.call ≡ true = single-allowed w e.call each.0 in
    let rest : all_single (after w e.call e.answer) es ≡ true = all-single (after w e.call e.answer) es each.1 in
    λ i. one i && rest i

-- so failures come one at a time after such calls if they did before
single-more : (w : World) (es more : List Entry) → are_allowed (world_after w es) more ≡ true → all_single w (es ++ more) ≡ all_single w es
single-more w [] more all = all-single w more all
single-more w (e ∷ es) more all = ap (λ b. is_single w e.call && b) (single-more (after w e.call e.answer) es more all)

-- a session with such calls more
continues-more : (old new : TheSession) (more : List Entry) → new.images ≡ old.images → new.entries ≡ old.entries ++ more → are_allowed (world_at old) more ≡ true → Continues old new
continues-more old new more images entries allowed =
    let moved : is_exact new ≡ is_exact_of old.images (old.entries ++ more) = λ i. is_exact_of (images i) (entries i) in
    record {
      images = images;
      more = more;
      entries = entries;
      allowed = allowed;
      exact = moved ∙ single-more (opening (length old.images) (handlers_of old.images)) old.entries more allowed;
    }

-- the same session
pub continues-same : (old new : TheSession) → new ≡ old → Continues old new
continues-same old new same =
    continues-more old new [] (ap (λ (s : TheSession). s.images) same) (ap (λ (s : TheSession). s.entries) same ∙ sym (append-nil old.entries)) refl

-- one with an accepted call more
pub continues-one : (old new : TheSession) (by by' : TheSeat) (call : Call) (answer : Answer) → Adds old new by by' call (Ok answer) → may_call (world_at old) 1 call ≡ true → Continues old new
continues-one old new by by' call answer adds may =
    continues-more old new (entry by.worker call answer ∷ []) (ap (λ (s : TheSession). s.images) adds.1) (ap (λ (s : TheSession). s.entries) adds.1) (λ i. may i && true)

allowed-append : (w : World) (es more : List Entry) → are_allowed w es ≡ true → are_allowed (world_after w es) more ≡ true → are_allowed w (es ++ more) ≡ true
allowed-append w [] more all rest = rest
allowed-append w (e ∷ es) more all rest =
    let each = both (may_call w 1 e.call) (are_allowed (after w e.call e.answer) es) all in
    let next : are_allowed (after w e.call e.answer) (es ++ more) ≡ true = allowed-append (after w e.call e.answer) es more each.1 rest in
    λ i. each.0 i && next i

-- one that continues what continues another
pub continues-then : (old mid new : TheSession) → Continues old mid → Continues mid new → Continues old new
continues-then old mid new one two =
    let moved : world_at mid ≡ world_of (length old.images) (handlers_of old.images) (old.entries ++ one.more) = λ i. world_of (length (one.images i)) (handlers_of (one.images i)) (one.entries i) in
    let after_one : world_at mid ≡ world_after (world_at old) one.more = moved ∙ world_after-append (opening (length old.images) (handlers_of old.images)) old.entries one.more in
    continues-more old new (one.more ++ two.more) (two.images ∙ one.images)
    (two.entries ∙ ap (λ es. es ++ two.more) one.entries ∙ append_assoc old.entries one.more two.more)
    (allowed-append (world_at old) one.more two.more one.allowed (subst (λ w. are_allowed w two.more ≡ true) after_one two.allowed))

-- a session that continues another, by the parts that a running one keeps
pub continues-of : (s t : TheSession) → t.images ≡ s.images → Begins s.entries t.entries → are_allowed (world_at s) (drop (length s.entries) t.entries) ≡ true → Continues s t
continues-of s t images begins allowed =
    let rest = drop (length s.entries) t.entries in
    continues-more s t rest images (sym (take-append-drop (length s.entries) t.entries) ∙ ap (λ l. l ++ rest) begins) allowed

-- and these parts again
pub begins-of : (s t : TheSession) → Continues s t → Begins s.entries t.entries
begins-of s t c = ap (take (length s.entries)) c.entries ∙ take-front s.entries c.more

-- and its later entries are allowed
pub allowed-of : (s t : TheSession) → Continues s t → are_allowed (world_at s) (drop (length s.entries) t.entries) ≡ true
allowed-of s t c = ap (λ es. are_allowed (world_at s) (drop (length s.entries) es)) c.entries ∙ ap (are_allowed (world_at s)) (drop-front s.entries c.more) ∙ c.allowed

-- what continues it then, continues the first
pub continues-on : (s t u : TheSession) → t.images ≡ s.images → Begins s.entries t.entries → are_allowed (world_at s) (drop (length s.entries) t.entries) ≡ true → Continues t u → Continues s u
continues-on s t u images begins allowed more = continues-then s t u (continues-of s t images begins allowed) more
