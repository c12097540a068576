-- What a handler gives may be sent
use Rattle.std.proofs.Common.{◌≡◌, ◌≢◌, ℕ, zero, suc, ◌+◌, ◌<◌, ◌≤◌, List, [], ◌∷◌, ◌++◌, length, map, take, get_or, Bool, true, false, refl, sym, ap, ◌∙◌, subst, arith}
use Rattle.std.specs.Prelude.{Option, Some, None, slice_get, ◌==◌, if◌then◌else◌}
use Rattle.std.specs.List.{AllByRecursion}
use Rattle.std.proofs.lemmas.Bool.Decides.{nat_tests}
use Rattle.std.proofs.lemmas.List.{length-append, length-map, append_assoc, append-nil, take_more}
use Rattle.limits.specs.declared.TheConstants.{EFFECTS}
use Rattle.helpers.specs.declared.effects.Who.{Who}
use Rattle.helpers.specs.declared.effects.Sent.{Sent}
use Rattle.helpers.specs.Effects.{Emitted}
use Rattle.world.specs.History.{Payload}
use Rattle.node.specs.declared.job.OpenJob.{OpenJob}
use Rattle.node.specs.declared.job.Given.{Given}
use Rattle.node.specs.declared.node.TheConstants.{MOST_GIVEN}
use Rattle.recovery.specs.declared.lifecycle.Lifecycle.{Lifecycle}
use Rattle.recovery.specs.declared.lifecycle.Lifecycle.TheVariants.{Up, Replaying}
use Rattle.process.specs.Work.{is_other, sent_by, shown_of, shown_by, given_of, job_as, job_at, MayTakeIn}

-- it goes to another one
MayGo : Who → Given → Type 0
MayGo who g = (g.to ≤ who.count) × (g.to ≢ who.me)

pub length-sent_by : (who : Who) (xs : List Sent) → length (sent_by who xs) ≤ length xs
length-sent_by who [] = omega arith
length-sent_by who (s ∷ xs) = by-test (is_other who s.dst) (length-sent_by who xs)
  where
    by-test : (b : Bool) → length (sent_by who xs) ≤ length xs → length ((if b then record { to = s.dst; payload = s.payload } ∷ [] else []) ++ sent_by who xs) ≤ suc (length xs)
    by-test true rest = omega (arith, rest)
    by-test false rest = omega (arith, rest)

length-shown_by : (who : Who) (xs : List Payload) → length (shown_by who xs) ≤ length xs
length-shown_by who xs = by-test (who.me == 0)
  where
    by-test : (b : Bool) → length (if b then [] else map shown_of xs) ≤ length xs
    by-test true = omega arith
    by-test false = let same = length-map xs shown_of in omega (arith, same)

pub given-few : (who : Who) (e : Emitted) → length e.sends ≤ EFFECTS → length e.outputs ≤ EFFECTS → length (given_of who e) ≤ MOST_GIVEN
given-few who e s o =
    let all : length (given_of who e) ≡ length (sent_by who e.sends) + length (shown_by who e.outputs) = length-append (sent_by who e.sends) (shown_by who e.outputs) in
    omega (arith, all, length-shown_by who e.outputs, s, o, length-sent_by who e.sends)

module _ {X : Type 0} (P : X → Type 0) where
  all-joined : (xs ys : List X) → AllByRecursion P xs → AllByRecursion P ys → AllByRecursion P (xs ++ ys)
  all-joined [] ys h g = g
  all-joined (x ∷ xs) ys h g = (h.0, all-joined xs ys h.1 g)

  all-at : (xs : List X) (i : ℕ) (x : X) → AllByRecursion P xs → slice_get xs i ≡ Some x → P x
  all-at [] i x h e = absurd (cc)
  all-at (y ∷ xs) zero x h e = let same : y ≡ x = (cc) in subst P same h.0
  all-at (y ∷ xs) (suc i) x h e = all-at xs i x h.1 e

module _ (who : Who) where
  all-sent : (xs : List Sent) → AllByRecursion (MayGo who) (sent_by who xs)
  unfolding MayGo
  all-sent [] = tt
  all-sent (s ∷ xs) = by-test (is_other who s.dst) refl (all-sent xs)
    where
      by-test : (b : Bool) → is_other who s.dst ≡ b → AllByRecursion (MayGo who) (sent_by who xs)
          → AllByRecursion (MayGo who) ((if b then record { to = s.dst; payload = s.payload } ∷ [] else []) ++ sent_by who xs)
      by-test true e rest = ((grind (arith, nat_tests), grind (arith, nat_tests)), rest)
      by-test false e rest = rest

  all-shown : who.me ≢ 0 → (xs : List Payload) → AllByRecursion (MayGo who) (map shown_of xs)
  unfolding MayGo
  all-shown h [] = tt
  all-shown h (x ∷ xs) = ((omega arith, (λ (e : 0 ≡ who.me). h (sym e))), all-shown h xs)

  all-shown_by : (xs : List Payload) → AllByRecursion (MayGo who) (shown_by who xs)
  unfolding MayGo
  all-shown_by xs = by-test (who.me == 0) refl
    where
      by-test : (b : Bool) → (who.me == 0) ≡ b → AllByRecursion (MayGo who) (if b then [] else map shown_of xs)
      by-test true e = tt
      by-test false e = all-shown (grind (arith, nat_tests)) xs

pub given-goes : (who : Who) (e : Emitted) → (i : ℕ) (g : Given) → slice_get (given_of who e) i ≡ Some g → (g.to ≤ who.count) × (g.to ≢ who.me)
unfolding MayGo
given-goes who e i g at =
    all-at (MayGo who) (given_of who e) i g (all-joined (MayGo who) (sent_by who e.sends) (shown_by who e.outputs) (all-sent who e.sends) (all-shown_by who e.outputs)) at

from-some : {X : Type 0} (x y : X) → Some x ≡ Some y → x ≡ y
from-some x y e = cc

seat-of : (me count : ℕ) (o : Option OpenJob) (j : OpenJob) (who : Who) → job_as me count o ≡ Some (j, who) → (who.me ≡ me) × (who.count ≡ count)
seat-of me count None j who e = absurd (cc)
seat-of me count (Some k) j who e =
    let both = from-some {X = OpenJob × Who} (k, record { me = me; from = k.sender; count = count }) (j, who) e in
    (sym (ap (λ (v : OpenJob × Who). v.1.me) both), sym (ap (λ (v : OpenJob × Who). v.1.count) both))

moved : (who : Who) (me count : ℕ) (given : List Given) → (who.me ≡ me) × (who.count ≡ count) → ((i : ℕ) (g : Given) → slice_get given i ≡ Some g → (g.to ≤ who.count) × (g.to ≢ who.me))
    → (i : ℕ) (g : Given) → slice_get given i ≡ Some g → (g.to ≤ count) × (g.to ≢ me)
moved who me count given is goes i g at =
    let there = goes i g at in (omega (arith, is.1, there.0), (λ (e : g.to ≡ me). there.1 (e ∙ sym is.0)))

-- what it gives on the message that is next may be taken in
pub may-take : (c : Lifecycle) (j : OpenJob) (who : Who) (e : Emitted) → job_at c ≡ Some (j, who) → length (given_of who e) ≤ MOST_GIVEN → MayTakeIn c (given_of who e)
may-take (Up n) j who e at few =
    record { few = few; others = moved who n.me n.count (given_of who e) (seat-of n.me n.count n.working j who at) (given-goes who e) }
may-take (Replaying n) j who e at few =
    record { few = few; others = moved who n.own.me n.own.count (given_of who e) (seat-of n.own.me n.own.count _ j who at) (given-goes who e) }
may-take c j who e at few = tt

-- ---- one after another

pub sent_by-append : (who : Who) (xs ys : List Sent) → sent_by who (xs ++ ys) ≡ sent_by who xs ++ sent_by who ys
sent_by-append who [] ys = refl
sent_by-append who (s ∷ xs) ys =
    let one : List Given = if is_other who s.dst then record { to = s.dst; payload = s.payload } ∷ [] else [] in
    ap (λ (r : List Given). one ++ r) (sent_by-append who xs ys) ∙ sym (append_assoc one (sent_by who xs) (sent_by who ys))

module _ (who : Who) (xs : List Sent) (k : ℕ) (s : Sent) (lt : k < length xs) (at : s ≡ get_or xs k s) where
  more : sent_by who (take (k + 1) xs) ≡ sent_by who (take k xs) ++ sent_by who (s ∷ [])
  more =
      let one : take (k + 1) xs ≡ take k xs ++ s ∷ [] = take_more xs k s lt ∙ ap (λ (x : Sent). take k xs ++ x ∷ []) (sym at) in
      ap (sent_by who) one ∙ sent_by-append who (take k xs) (s ∷ [])

  pub sent-more : is_other who s.dst ≡ true → sent_by who (take (k + 1) xs) ≡ sent_by who (take k xs) ++ record { to = s.dst; payload = s.payload } ∷ []
  sent-more e = more ∙ ap (λ (b : Bool). sent_by who (take k xs) ++ ((if b then record { to = s.dst; payload = s.payload } ∷ [] else []) ++ [])) e

  pub sent-same : is_other who s.dst ≡ false → sent_by who (take (k + 1) xs) ≡ sent_by who (take k xs)
  sent-same e = more ∙ ap (λ (b : Bool). sent_by who (take k xs) ++ ((if b then record { to = s.dst; payload = s.payload } ∷ [] else []) ++ [])) e ∙ append-nil (sent_by who (take k xs))
