-- What workers leave of a session that was just opened.
use Rattle.std.proofs.Common.{◌≡◌, ◌∙◌, ◌+◌, ◌<◌, ◌≤◌, ℕ, suc, zero, List, [], ◌∷◌, ◌++◌, length, length-append, map, Bool, true, false, nat_lt, refl, sym, ap, subst, arith}
use Rattle.std.specs.Prelude.{All, IsSome, Option, Some, None}
use Rattle.std.proofs.lemmas.Bool.Decides.{nat_tests}
use Rattle.std.proofs.lemmas.List.{get_or_append_left, get_or_push, length-map}
use Rattle.std.proofs.lemmas.List.Elements.{All-push}
use Rattle.std.proofs.lemmas.List.Sums.{sum_by-append}
use Rattle.limits.specs.declared.TheConstants.{SEATS, WORKERS}
use Rattle.interp.specs.Image.{TheImage}
use Rattle.world.specs.declared.entry.Entry.{Entry}
use Rattle.sessions.specs.Fold.{handlers_of}
use Rattle.world.specs.Legal.{Legal, world_of}
use Rattle.sessions.specs.Journal.{IsLegal, TheSession}
use Rattle.sessions.specs.Seats.{TheSeat, IsWhole, answered_by, listed, new_seats, seat_at, seats_from}
use Rattle.sessions.specs.Shares as shared
use Rattle.sessions.specs.declared.share.Share.{Share}
use Rattle.workers.specs.Continues.{Continues, are_allowed}
use Rattle.workers.specs.Runs.{manned}
use Rattle.workers.specs.Shares.{AreServed}
use Rattle.live.specs.declared.ended.Ended.{Ended}
use Rattle.live.specs.Inside.{AreFresh, HasMemory, ended_of}
use Rattle.live.specs.Live.{EndFrom, IsLive, answers_of}
use Rattle.results.specs.Results.{results_text}

-- ---- seats

-- no seat is out
pub whole_new : (n : ℕ) → IsWhole (new_seats n)
whole_new zero = λ k d within. absurd (omega (arith, within))
whole_new (suc n) = All-push IsSome (new_seats n) (Some (record { worker = n; answered = 0 })) (whole_new n) refl

-- the seat of a worker, before its first call
abbrev fresh : ℕ → TheSeat
fresh k = record { worker = k; answered = 0 }

new_length : (n : ℕ) → length (new_seats n) ≡ n
new_length zero = refl
new_length (suc n) = length-append (new_seats n) (Some (fresh n) ∷ []) ∙ omega (arith, new_length n)

new_at : (n k : ℕ) → k < n → seat_at (new_seats n) k ≡ Some (fresh k)
new_at zero k h = absurd (omega arith)
new_at (suc n) k h = by (new_at n k) (nat_lt k n) refl
  where
    by : (k < n → seat_at (new_seats n) k ≡ Some (fresh k)) → (b : Bool) → nat_lt k n ≡ b → seat_at (new_seats n ++ Some (fresh n) ∷ []) k ≡ Some (fresh k)
    by before true e =
        let below : k < n = grind (arith, nat_tests) in
        get_or_append_left (new_seats n) (Some (fresh n) ∷ []) None k (omega (arith, below, new_length n)) ∙ before below
    by before false e =
        let last : n ≡ k = grind (arith, nat_tests) in
        get_or_push (new_seats n) (Some (fresh n)) None k (new_length n ∙ last) ∙ ap (λ j. Some (fresh j)) last

fresh_push : (worker : ℕ) (ss : List TheSeat) (s : TheSeat) → AreFresh worker ss → s ≡ fresh (worker + length ss) → AreFresh worker (ss ++ s ∷ [])
fresh_push worker [] s all is =
    let place : worker + 0 ≡ worker = omega arith in
    (is ∙ ap fresh place, tt)
fresh_push worker (x ∷ xs) s all is =
    let place : worker + length (x ∷ xs) ≡ worker + 1 + length xs = omega arith in
    (all.0, fresh_push (worker + 1) xs s all.1 (is ∙ ap fresh place))

-- those of the workers 1, 2, .. of a session that opens
record AreManned (seats : List TheSeat) (workers : ℕ) : Type 0 where
  fresh_all : AreFresh 1 seats
  as_many : length seats ≡ workers

manned_new : (n w : ℕ) → w < n → AreManned (seats_from (new_seats n) 1 w) w
manned_new n zero h = record { fresh_all = tt; as_many = refl }
manned_new n (suc w) h =
    let seats : List TheSeat = seats_from (new_seats n) 1 w in
    let before = manned_new n w (omega arith) in
    let at : seat_at (new_seats n) (1 + w) ≡ Some (fresh (1 + w)) = new_at n (1 + w) (omega arith) in
    let place : 1 + w ≡ 1 + length seats = ap (λ k. 1 + k) (sym before.as_many) in
    let P : Option TheSeat → Type 0 = λ o. AreManned (seats ++ listed o) (suc w) in
    let many : length (seats ++ fresh (1 + w) ∷ []) ≡ suc w = length-append seats (fresh (1 + w) ∷ []) ∙ omega (arith, before.as_many) in
    subst P (sym at) (record { fresh_all = fresh_push 1 seats (fresh (1 + w)) before.fresh_all (ap fresh place); as_many = many })

fresh_answered : (worker : ℕ) (ss : List TheSeat) → AreFresh worker ss → answered_by ss ≡ 0
fresh_answered worker [] all = refl
fresh_answered worker (s ∷ ss) all =
    let none : s.answered ≡ 0 = ap (λ (x : TheSeat). x.answered) all.0 in
    let rest : answered_by ss ≡ 0 = fresh_answered (worker + 1) ss all.1 in
    let both : answered_by (s ∷ ss) ≡ 0 + s.answered + answered_by ss = sum_by-append (λ (x : TheSeat). x.answered) (s ∷ []) ss in
    omega (arith, none, rest, both)

-- ---- ends

ends_as_many : {L : Type 0} → (budget : ℕ) (ss : List TheSeat) (hs : List (Share L)) → AreServed budget ss hs → length hs ≡ length ss
ends_as_many budget [] [] served = refl
ends_as_many budget [] (h ∷ hs) served = absurd served
ends_as_many budget (s ∷ ss) [] served = absurd served
ends_as_many budget (s ∷ ss) (h ∷ hs) served = ap suc (ends_as_many budget ss hs served.1)

end_from : {L : Type 0} → (budget worker : ℕ) (ss : List TheSeat) (hs : List (Share L)) → AreFresh worker ss → AreServed budget ss hs → All HasMemory hs
    → EndFrom budget worker (map ended_of hs)
end_from budget worker [] [] fresh_all served memory = tt
end_from budget worker [] (h ∷ hs) fresh_all served memory = absurd served
end_from budget worker (s ∷ ss) [] fresh_all served memory = absurd served
end_from budget worker (s ∷ ss) (h ∷ hs) fresh_all served memory =
    let none : s.answered ≡ 0 = ap (λ (x : TheSeat). x.answered) fresh_all.0 in (
      record {
        number = served.0.seat_is.worker ∙ ap (λ (x : TheSeat). x.worker) fresh_all.0;
        spent = λ by. omega (arith, none, served.0.spent by);
        most = omega (arith, none, served.0.most);
        none = λ zero. served.0.none zero ∙ none;
        memory = memory 0 h (omega arith);
      },
      end_from budget (worker + 1) ss hs fresh_all.1 served.1 (λ k d within. memory (suc k) d (omega (arith, within))),
    )

ends_answered : {L : Type 0} → (hs : List (Share L)) → answers_of (map ended_of hs) ≡ shared.answers_of hs
ends_answered [] = refl
ends_answered (h ∷ hs) =
    let one : answers_of (map ended_of (h ∷ hs)) ≡ 0 + h.seat.answered + answers_of (map ended_of hs) = sum_by-append (λ (e : Ended). e.answered) (ended_of h ∷ []) (map ended_of hs) in
    one ∙ ap (λ n. 0 + h.seat.answered + n) (ends_answered hs) ∙ sym (sum_by-append (λ s. s.seat.answered) (h ∷ []) hs)

-- what workers leave
pub record Leave {L : Type 0} (workers budget : ℕ) (opened closed : TheSession) (shares : List (Share L)) : Type 0 where
  pub served : AreServed budget (manned workers opened.seats) shares
  pub continues : Continues opened closed
  pub grew : length closed.entries + answered_by (manned workers opened.seats) ≡ length opened.entries + shared.answers_of shares

live_new : {L : Type 0} → (names : List (List ℕ)) (images : List TheImage) (workers budget : ℕ) (closed : TheSession) (shares : List (Share L)) (ended : List Ended) (old new : List ℕ)
    → workers ≤ WORKERS → Leave workers budget (record { images = images; entries = []; seats = new_seats SEATS }) closed shares → IsLegal closed → All HasMemory shares
    → ended ≡ map ended_of shares → new ≡ old ++ results_text names closed.images closed.entries → IsLive names images workers budget ended old new
live_new names images workers budget closed shares ended old new few leave legal memory ends written =
    let seats : List TheSeat = manned workers (new_seats SEATS) in
    let men : AreManned seats workers = manned_new SEATS workers (omega (arith, few)) in
    let none : answered_by seats ≡ 0 = fresh_answered 1 seats men.fresh_all in
    let many : length closed.entries ≡ shared.answers_of shares = omega (arith, none, leave.grew) in
    let same = leave.continues.images in
    let count : length (map ended_of shares) ≡ workers = length-map shares ended_of ∙ ends_as_many budget seats shares leave.served ∙ men.as_many in
    subst (λ (es : List Ended). IsLive names images workers budget es old new) (sym ends) (record {
      all = count;
      each = end_from budget 1 seats shares men.fresh_all leave.served memory;
      entries = closed.entries;
      legal = subst (λ (is : List TheImage). Legal (length is) (handlers_of is) closed.entries) same legal;
      allowed = subst (λ (es : List Entry). are_allowed (world_of (length images) (handlers_of images) []) es ≡ true) (sym leave.continues.entries) leave.continues.allowed;
      as_many = many ∙ sym (ends_answered shares);
      text = written ∙ ap (λ (is : List TheImage). old ++ results_text names is closed.entries) same;
    })

-- the text of what they leave, and how they ended
pub live_by : {L : Type 0} → (names : List (List ℕ)) (images : List TheImage) (workers budget : ℕ) (opened closed : TheSession) (shares : List (Share L)) (ended : List Ended) (old new : List ℕ)
    → workers ≤ WORKERS → opened ≡ record { images = images; entries = []; seats = new_seats SEATS } → Leave workers budget opened closed shares → IsLegal closed
    → All HasMemory shares → ended ≡ map ended_of shares → new ≡ old ++ results_text names closed.images closed.entries → IsLive names images workers budget ended old new
live_by names images workers budget opened closed shares ended old new few is leave legal memory ends written =
    live_new names images workers budget closed shares ended old new few (subst (λ (o : TheSession). Leave workers budget o closed shares) is leave) legal memory ends written
