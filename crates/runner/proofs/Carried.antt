-- Orders that were carried out, from what a session's calls ensure.
use Rattle.std.proofs.Common.{◌≡◌, ◌∙◌, ℕ, List, [], ◌∷◌, ◌++◌, ◌≤◌, Option, Some, None, Result, Ok, Err, refl, sym, ap, subst, inl, ◌⊎◌}
use Rattle.std.specs.Prelude.{slice_set}
use Rattle.sessions.specs.Job.{TheJob, IsOpenJob}
use Rattle.world.specs.declared.call.Call.{Call}
use Rattle.world.specs.declared.answer.Answer.{Answer}
use Rattle.world.specs.declared.refusal.Refusal.{Refusal}
use Rattle.world.specs.declared.refusal.Refusal.TheVariants as refusals
use Rattle.world.specs.Legal.{WStep}
use Rattle.world.specs.Refusals.{cause_of}
use Rattle.machine.specs.Arrival.{Told}
use Rattle.machine.specs.Choice.{IsPick}
use Rattle.machine.specs.Dispatch.{job_of}
use Rattle.sessions.specs.Journal as journal
use Rattle.sessions.specs.Journal.{IsOpenAt, Takes, TheSession, entry}
use Rattle.sessions.specs.Driver.{Driven}
use Rattle.sessions.specs.Service.{own_seat, Owes}
use Rattle.runner.specs.Orders.{HoldsJob, AcceptsCall, BringsBack, IsDriven, MakesCall, Position, with_entry}
use Rattle.runner.specs.Inside.{ComesTo, NoNumber, OnMemory}

-- where a session stands, with these jobs held and so many messages handed in
abbrev pub at : TheSession → List (Option TheJob) → ℕ → Position
at s held n = record { images = s.images; entries = s.entries; held = held; inputs = n }

-- an accepted call
pub is-entered : (old new : TheSession) (c : Call) (a : Answer) (held : List (Option TheJob)) (n : ℕ) → Owes old new c (Ok a) → at new held n ≡ with_entry (at old held n) c a
is-entered old new c a held n owes = ap (λ s. at s held n) owes.1

pub is-accepted : (old new : TheSession) (c : Call) (a : Answer) (held : List (Option TheJob)) (n : ℕ) → Owes old new c (Ok a) → AcceptsCall (at old held n) c a
is-accepted old new c a held n owes =
    let P : TheSession → Type 0 = λ s. WStep (journal.room_at old) (journal.world_at old) c a (journal.world_at s) in
    subst P owes.1 owes.0

-- a call that starts no job, accepted
pub quiet : (old new : TheSession) (c : Call) (a : Answer) (held : List (Option TheJob)) (n : ℕ) → Owes old new c (Ok a) → job_of (journal.world_at old) c a ≡ None → MakesCall (at old held n) c (at new held n) None
quiet old new c a held n owes none =
    let P : Option ℕ → Type 0 = λ o. HoldsJob (with_entry (at old held n) c a) o (at new held n) in
    (a, is-accepted old new c a held n owes, subst P (sym none) (is-entered old new c a held n owes))

-- a call that starts a job, which is held
pub begun : (old new : TheSession) (c : Call) (a : Answer) (j : TheJob) (held : List (Option TheJob)) (n : ℕ) → Owes old new c (Ok a)
    → job_of (journal.world_at old) c a ≡ Some j.task.who.me → IsOpenAt new j → MakesCall (at old held n) c (at new (slice_set held j.task.who.me (Some j)) n) None
begun old new c a j held n owes job is_open =
    let begins : Position = with_entry (at old held n) c a in
    let P : Option ℕ → Type 0 = λ o. HoldsJob begins o (at new (slice_set held j.task.who.me (Some j)) n) in
    let opens : IsOpenJob begins.images j (journal.world_at (record old { entries = old.entries ++ entry 0 c a ∷ [] })) = subst (λ s. IsOpenAt s j) owes.1 is_open in
    let holds : at new (slice_set held j.task.who.me (Some j)) n ≡ record begins { held = slice_set held j.task.who.me (Some j) } =
    ap (λ s. at s (slice_set held j.task.who.me (Some j)) n) owes.1 in
    (a, is-accepted old new c a held n owes, subst P (sym job) (j, refl, opens, holds))

-- want of memory has no number
unnumbered : (r : Refusal) (n : ℕ) → r ≡ refusals.Memory → cause_of r ≡ Some n → ⊥
unnumbered r n is told = let none : None ≡ Some n = ap cause_of (sym is) ∙ told in cc

-- a call that finds no memory
pub call-unnumbered : (old new : TheSession) (c : Call) (r : Refusal) (held : List (Option TheJob)) (n : ℕ) → Owes old new c (Err r) → r ≡ refusals.Memory
    → NoNumber (MakesCall (at old held n) c)
call-unnumbered old new c r held n owes is = λ m next made. unnumbered r m is (sym owes.2 ∙ made.1)

-- a result that finds none
pub result-unnumbered : (old new : TheSession) (j : TheJob) (r : Refusal × TheJob) (held : List (Option TheJob)) (n : ℕ) → Takes old new (own_seat old) (own_seat new) j (Err r)
    → r.0 ≡ refusals.Memory → NoNumber (BringsBack (at old held n) (Some j))
result-unnumbered old new j r held n takes is = λ m next back. back.2 (subst (λ (x : Refusal). Told x (IsOpenJob old.images j (journal.world_at old))) is takes.3)

-- a drive
pub driven : (budget : ℕ) (old new : TheSession) (r : Result ℕ Refusal) (held : List (Option TheJob)) (n : ℕ) → Driven budget old new (own_seat old) (own_seat new) r
    → ComesTo (λ refused. IsDriven budget (at old held n) (at new held n) × (refused ≡ None)) r
driven budget old new (Ok k) held n made =
    let ran = made.0 in
    let Q : ℕ → Type 0 = λ l. (budget ≤ l) ⊎ ((c : Call) → ¬ IsPick (journal.world_at new) (journal.room_at new) c) in
    (record { added = ran.added; new_is = ap (λ s. at s held n) ran.entries; run = ran.run; ended = subst Q (sym ran.as_many) made.1 }, refl)
driven budget old new (Err r) held n made = λ m told. absurd (unnumbered r m made.0 told)

-- what holds where memory runs out, or something else
pub or_else : {X : Type 0} (P Q : Type 0) (r : Result X Refusal) → OnMemory P r → OnMemory (P ⊎ Q) r
or_else P Q (Ok x) holds = tt
or_else P Q (Err r) holds = λ is. inl (holds is)
