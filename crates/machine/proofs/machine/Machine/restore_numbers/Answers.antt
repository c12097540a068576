use Rattle.std.proofs.Common.{◌≡◌, ◌<◌, ◌-◌, length, sym, ap, ◌∙◌, arith}
use Rattle.std.specs.Prelude.{Result, Ok, Err, IfOk}
use Rattle.sender_log.specs.Queue.{known}
use Rattle.sender_log.specs.Log.{queue_of}
use Rattle.session_process.specs.Process.{TheProcess}
use Rattle.machine.proofs.Splits.{front-at, front-log, front-sound, front-view, back-at, back-log, back-sound, back-view}
use Rattle.machine.proofs.machine.Machine.restore_numbers.Goals as goal
use Rattle.machine.proofs.machine.Machine.restore_numbers.Goals.{then-p-r, else-p-r}

if-ok : {X E : Type 0} (a : Result X E) (P Q : X → Type 0) → IfOk a P → ((x : X) → P x → Q x) → IfOk a Q
if-ok (Ok x) P Q p f = f x p
if-ok (Err e) P Q p f = tt

-- ---- p is the lower of the two, in front of the cut

pub invariant_of-self : goal.invariant_of-self
invariant_of-self c =
    let fr = c.split_at_mut-front.result.0.now in
    let parts = sym c.deref_mut.ensures.value ∙ c.split_at_mut-front.ensures.value in
    let higher : c.if-p-r.higher ≡ c.args.r = elim c.if-p-r.branch [ then-p-r b ↦ b.higher-is | else-p-r b ↦ (let no = b.if-p-r.false in let yes = c.if-p-r-2.true in absurd (omega (arith, no, yes))) ] in
    let size : length fr ≡ c.args.r - 1 = c.split_at_mut-front.ensures.front_len ∙ ap (λ n. n - 1) higher in
    let low : c.args.p - 1 < length fr = (let less = c.if-p-r-2.true in let positive = c.requires.inside in omega (arith, size, less, positive)) in
    front-sound c.self.inside c.self.invariant c.args.self.now c.self.view_is fr c.split_at_mut-front.result.1.now parts c.args.p c.args.r c.requires.inside c.requires.within c.index-front-p.result c.resync.new.self low c.resync.result c.receipts.result.now c.resync.ensures.ok c.resync.ensures.err

pub returns-then-p-r-2-clause-count : goal.returns-then-p-r-2-clause-count
returns-then-p-r-2-clause-count c =
    let fr = c.split_at_mut-front.result.0.now in
    let parts = sym c.deref_mut.ensures.value ∙ c.split_at_mut-front.ensures.value in
    let higher : c.if-p-r.higher ≡ c.args.r = elim c.if-p-r.branch [ then-p-r b ↦ b.higher-is | else-p-r b ↦ (let no = b.if-p-r.false in let yes = c.if-p-r-2.true in absurd (omega (arith, no, yes))) ] in
    let size : length fr ≡ c.args.r - 1 = c.split_at_mut-front.ensures.front_len ∙ ap (λ n. n - 1) higher in
    let low : c.args.p - 1 < length fr = (let less = c.if-p-r-2.true in let positive = c.requires.inside in omega (arith, size, less, positive)) in
    if-ok c.resync.result (λ n. n ≡ known (queue_of c.args.r c.resync.new.self.outbox.log).numbers) _ c.resync.ensures.count
    (λ n e. e ∙ ap (λ l. known (queue_of c.args.r l).numbers) (sym (front-log c.self.inside c.self.invariant c.args.self.now c.self.view_is fr c.split_at_mut-front.result.1.now parts c.args.p c.args.r c.requires.inside c.requires.within c.index-front-p.result c.resync.new.self low)))

pub returns-then-p-r-2-clause-ok : goal.returns-then-p-r-2-clause-ok
returns-then-p-r-2-clause-ok c =
    let fr = c.split_at_mut-front.result.0.now in
    let parts = sym c.deref_mut.ensures.value ∙ c.split_at_mut-front.ensures.value in
    let higher : c.if-p-r.higher ≡ c.args.r = elim c.if-p-r.branch [ then-p-r b ↦ b.higher-is | else-p-r b ↦ (let no = b.if-p-r.false in let yes = c.if-p-r-2.true in absurd (omega (arith, no, yes))) ] in
    let size : length fr ≡ c.args.r - 1 = c.split_at_mut-front.ensures.front_len ∙ ap (λ n. n - 1) higher in
    let low : c.args.p - 1 < length fr = (let less = c.if-p-r-2.true in let positive = c.requires.inside in omega (arith, size, less, positive)) in
    let peer = back-at c.self.inside c.self.invariant c.args.self.now c.self.view_is fr c.split_at_mut-front.result.1.now parts c.args.r c.requires.peer_inside c.requires.peer_within c.index-back-0.result size in
    front-view c.self.inside c.self.invariant c.args.self.now c.self.view_is fr c.split_at_mut-front.result.1.now parts c.args.p c.args.r c.requires.inside c.requires.within c.index-front-p.result c.resync.new.self low c.resync.result c.receipts.result.now c.resync.ensures.ok c.resync.ensures.err (c.receipts.ensures ∙ ap (λ (x : TheProcess). x.receipts) peer)

-- ---- p is the higher one, behind it

pub invariant_of-self-2 : goal.invariant_of-self-2
invariant_of-self-2 c =
    let fr = c.split_at_mut-front.result.0.now in
    let parts = sym c.deref_mut.ensures.value ∙ c.split_at_mut-front.ensures.value in
    let higher : c.if-p-r.higher ≡ c.args.p = elim c.if-p-r.branch [ then-p-r b ↦ (let no = b.if-p-r.true in let yes = c.if-p-r-2.false in absurd (omega (arith, no, yes))) | else-p-r b ↦ b.higher-is ] in
    let size : length fr ≡ c.args.p - 1 = c.split_at_mut-front.ensures.front_len ∙ ap (λ n. n - 1) higher in
    back-sound c.self.inside c.self.invariant c.args.self.now c.self.view_is fr c.split_at_mut-front.result.1.now parts c.args.p c.args.r c.requires.inside c.requires.within c.index-back-0-2.result c.resync-2.new.self size c.resync-2.result c.receipts-2.result.now c.resync-2.ensures.ok c.resync-2.ensures.err

pub returns-clause-count : goal.returns-clause-count
returns-clause-count c =
    let fr = c.split_at_mut-front.result.0.now in
    let parts = sym c.deref_mut.ensures.value ∙ c.split_at_mut-front.ensures.value in
    let higher : c.if-p-r.higher ≡ c.args.p = elim c.if-p-r.branch [ then-p-r b ↦ (let no = b.if-p-r.true in let yes = c.if-p-r-2.false in absurd (omega (arith, no, yes))) | else-p-r b ↦ b.higher-is ] in
    let size : length fr ≡ c.args.p - 1 = c.split_at_mut-front.ensures.front_len ∙ ap (λ n. n - 1) higher in
    if-ok c.resync-2.result (λ n. n ≡ known (queue_of c.args.r c.resync-2.new.self.outbox.log).numbers) _ c.resync-2.ensures.count
    (λ n e. e ∙ ap (λ l. known (queue_of c.args.r l).numbers) (sym (back-log c.self.inside c.self.invariant c.args.self.now c.self.view_is fr c.split_at_mut-front.result.1.now parts c.args.p c.args.r c.requires.inside c.requires.within c.index-back-0-2.result c.resync-2.new.self size)))

pub returns-clause-ok : goal.returns-clause-ok
returns-clause-ok c =
    let fr = c.split_at_mut-front.result.0.now in
    let parts = sym c.deref_mut.ensures.value ∙ c.split_at_mut-front.ensures.value in
    let higher : c.if-p-r.higher ≡ c.args.p = elim c.if-p-r.branch [ then-p-r b ↦ (let no = b.if-p-r.true in let yes = c.if-p-r-2.false in absurd (omega (arith, no, yes))) | else-p-r b ↦ b.higher-is ] in
    let size : length fr ≡ c.args.p - 1 = c.split_at_mut-front.ensures.front_len ∙ ap (λ n. n - 1) higher in
    let low : c.args.r - 1 < length fr =
    (let high = c.if-p-r-2.false in let apart = c.requires.other in let positive = c.requires.inside in let first = c.requires.peer_inside in omega (arith, size, high, apart, positive, first)) in
    let peer = front-at c.self.inside c.self.invariant c.args.self.now c.self.view_is fr c.split_at_mut-front.result.1.now parts c.args.r c.requires.peer_inside c.requires.peer_within c.index-front-r.result low in
    back-view c.self.inside c.self.invariant c.args.self.now c.self.view_is fr c.split_at_mut-front.result.1.now parts c.args.p c.args.r c.requires.inside c.requires.within c.index-back-0-2.result c.resync-2.new.self size c.resync-2.result c.receipts-2.result.now c.resync-2.ensures.ok c.resync-2.ensures.err (c.receipts-2.ensures ∙ ap (λ (x : TheProcess). x.receipts) peer)
