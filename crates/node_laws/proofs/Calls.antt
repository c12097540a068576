-- What each call of a process is, by its stages
use Rattle.std.proofs.Common.{◌≡◌, inl, inr, ℕ, List, [], ◌∷◌, Bool, true, false, refl, sym, ap, ◌∙◌, subst}
use Rattle.std.specs.Prelude.{Option, Some, None, not, ◌&&◌, is_none}
use Rattle.helpers.specs.declared.effects.Who.{Who}
use Rattle.verifier.specs.declared.any_image.AnyImage.{AnyImage}
use Rattle.interp.specs.HandlerCall.{Handled}
use Rattle.interp.specs.Image.{TheImage, as_image}
use Rattle.interp.specs.Answer.{answered as answer_in}
use Rattle.packets.specs.declared.packet.NodePacket.{NodePacket}
use Rattle.node.specs.declared.job.OpenJob.{OpenJob}
use Rattle.theorems.proofs.Tests.{both}
use Rattle.node.specs.Node.{TheNode}
use Rattle.node.specs.Calls.{handed}
use Rattle.node.specs.Checkpoints.{froze, may_freeze}
use Rattle.node.specs.Stands.{job_of}
use Rattle.node.specs.Answering.{Answer}
use Rattle.recovery.specs.Replayed.{TheReplayed}
use Rattle.recovery.specs.Collection.{TheCollecting}
use Rattle.recovery.specs.Replays.{next_job}
use Rattle.recovery.specs.Restoration.{TheRestoring, is_up}
use Rattle.recovery.specs.declared.lifecycle.Lifecycle.{Lifecycle}
use Rattle.recovery.specs.declared.lifecycle.Lifecycle.TheVariants.{Up, Collecting, Replaying, Replayed, Restoring, Passing}
use Rattle.process.specs.Process.{is_settled, state_of}
use Rattle.process.specs.Calls.{IsHanded, Ticks, Takes, Freezes, FreezesAs, Thaws, is_storable}
use Rattle.process.specs.Checkpoints.{IsSavable, Keeps}
use Rattle.process.specs.Work.{job_as, job_at, answer_to, given_of, TakesIn}
use Rattle.node_laws.specs.Inside.Process.{Process, AreOf, Gives, Hears, Works, IsTold, stage_of, seen}
use Rattle.node_laws.specs.Inside.Process as lives
use Rattle.node_laws.specs.HostProcess.{Checkpoint, Absent, Pending, Durable}
use Rattle.node_laws.specs.HostReplies.{who_of, answer_of, answering}
use Rattle.node_laws.proofs.Chains.{Chain, ticked-exact, froze-exact, asked-exact, restores-exact}
use Rattle.node_laws.proofs.Losses.{handed-rests, ticked-rests, froze-rests}
use Rattle.node_laws.proofs.Stages.{unsettled, Fits, Waits, GoesOn, on}

-- such a call, of the process as it is seen
abbrev pub Is : (Process → Process → Type 0) → Checkpoint → Lifecycle → Lifecycle → Type 0
Is Does w c d = (is_settled d ≡ true) × (Fits w d × Does (seen w c) (seen w d))

-- ---- a packet comes

handed-absent : (x : NodePacket) (c d : Lifecycle) → is_settled c ≡ true → Waits c → IsHanded x c d → Is (Hears x) Absent c d
handed-absent x (Up n) (Up m) s t g = (refl, (tt, (m, (refl, g))))
handed-absent x (Collecting n) (Collecting m) s t g = (refl, (tt, (m, (refl, g))))
handed-absent x (Replaying n) (Replaying m) s t g = (refl, (tt, (m, (refl, g))))
handed-absent x (Replayed n) (Replayed m) s t g = (refl, (tt, (m, (refl, g))))
handed-absent x (Restoring n) (Restoring m) s t g = (refl, (tt, (m, (refl, (g.0, (t, g.1))))))
handed-absent x Passing d s t g = unsettled s
handed-absent x other d s t g = absurd g

handed-frozen : (x : NodePacket) (n m : TheNode) → n.frozen ≡ true → m ≡ handed x n → m ≡ n
handed-frozen x n m f e = e ∙ handed-rests x n f

pub handed-is : (x : NodePacket) (w : Checkpoint) (c d : Lifecycle) → is_settled c ≡ true → Fits w c → Waits c → IsHanded x c d → Is (Hears x) w c d
handed-is x Absent c d s f t g = handed-absent x c d s t g
handed-is x (Pending bytes) (Up n) (Up m) s f t g = (refl, (subst (λ (z : TheNode). (z.frozen ≡ true) × AreOf bytes z) (sym (handed-frozen x n m f.0 g.0)) f, (m, (refl, g))))
handed-is x Durable (Up n) (Up m) s f t g = (refl, (subst (λ (z : TheNode). z.frozen ≡ true) (sym (handed-frozen x n m f g.0)) f, (m, (refl, g.0))))
handed-is x w (Up n) other s f t g = absurd g
handed-is x w c d s f t g = absurd f

-- ---- a packet is taken

taken-absent : (x : NodePacket) (c d : Lifecycle) → is_settled c ≡ true → Takes (Some x) c d → Is (Gives x) Absent c d
taken-absent x (Up n) (Up m) s g = (refl, (tt, (m, (refl, g))))
taken-absent x (Collecting n) (Collecting m) s g = (refl, (tt, (m, (refl, g))))
taken-absent x (Replaying n) (Replaying m) s g = (refl, (tt, (m, (refl, g))))
taken-absent x (Replayed n) (Replayed m) s g =
    (refl, (tt, (m, (refl, (ap (λ (z : TheReplayed). z.own.out) g, sym (ap (λ (z : TheReplayed). record z { own = record z.own { out = m.own.out } }) g))))))
taken-absent x (Restoring n) (Restoring m) s g = (refl, (tt, (m, (refl, g))))
taken-absent x Passing d s g = unsettled s
taken-absent x other d s g = absurd g

pub taken-is : (x : NodePacket) (w : Checkpoint) (c d : Lifecycle) → is_settled c ≡ true → Fits w c → Takes (Some x) c d → Is (Gives x) w c d
taken-is x Absent c d s f g = taken-absent x c d s g
taken-is x (Pending bytes) (Up n) (Up m) s f g = (refl, (subst (λ (z : TheNode). (z.frozen ≡ true) × AreOf bytes z) g.0 f, (m, (refl, g))))
taken-is x Durable (Up n) (Up m) s f g = (refl, (subst (λ (z : TheNode). z.frozen ≡ true) g.0 f, (m, (refl, g))))
taken-is x w (Up n) other s f g = absurd g
taken-is x w c d s f g = absurd f

pub taken-waits : (x : NodePacket) (c d : Lifecycle) → Takes (Some x) c d → Waits c → Waits d
taken-waits x (Restoring n) (Restoring m) g t = subst (λ (z : TheRestoring). is_up z ≡ false) g.0 t
taken-waits x (Restoring n) other g t = absurd g
taken-waits x Passing d g t = absurd (cc (g.0))
taken-waits x c (Restoring m) g t = absurd g
taken-waits x c other g t = tt

-- ---- what isn't answered is sent again

pub ticks-is : (w : Checkpoint) (c d : Lifecycle) → is_settled c ≡ true → Fits w c → Ticks c d → GoesOn w c d
ticks-is Absent (Up n) (Up m) s f g = (refl, (tt, (lives.Up m ∷ [], ((m, (refl, (inl g.0, g.1))), (ap (λ (z : TheNode). z.exact) g.0 ∙ ticked-exact n, refl)))))
ticks-is Absent (Collecting n) (Collecting m) s f g = (refl, (tt, (lives.Collects m ∷ [], (inl (m, (refl, g)), (ap (λ (z : TheCollecting). z.own.exact) g.0 ∙ asked-exact n, refl)))))
ticks-is Absent (Replaying n) d s f g = on Absent (Replaying n) d s f g
ticks-is Absent (Replayed n) d s f g = on Absent (Replayed n) d s f g
ticks-is Absent (Restoring n) (Restoring m) s f g = (refl, (tt, (lives.Restores m ∷ [], (inl (m, (refl, g)), (ap (λ (z : TheRestoring). z.own.exact) g.0 ∙ restores-exact n, refl)))))
ticks-is Absent Passing d s f g = unsettled s
ticks-is Absent c d s f g = absurd g
ticks-is (Pending bytes) (Up n) (Up m) s f g = on (Pending bytes) (Up n) (Up m) s f (ap Up (g.0 ∙ ticked-rests n f.0))
ticks-is Durable (Up n) (Up m) s f g = on Durable (Up n) (Up m) s f (ap Up (g.0 ∙ ticked-rests n f))
ticks-is w (Up n) other s f g = absurd g
ticks-is w c d s f g = absurd f

-- ---- its handler runs

-- it is p of so many; and one that waits for its checkpoint has no job open
abbrev pub IsHere : ℕ → ℕ → Process → Type 0
IsHere count p (lives.Up n) = (n.me ≡ p) × ((n.count ≡ count) × (n.frozen ≡ true → n.working ≡ None))
IsHere count p (lives.Covered n) = (n.me ≡ p) × ((n.count ≡ count) × (n.frozen ≡ true → n.working ≡ None))
IsHere count p (lives.Replays n) = (n.own.me ≡ p) × (n.own.count ≡ count)
IsHere count p process = Unit {0}

none-next : {P : Type 0} (me count : ℕ) (o : Option OpenJob) (j : OpenJob) (who : Who) → o ≡ None → job_as me count o ≡ Some (j, who) → P
none-next {P} me count o j who e next = let none : None ≡ Some (j, who) = sym (ap (job_as me count) e) ∙ next in absurd (cc (none))

-- the job that is next, and as whom the handler runs on it
job-is : (me count : ℕ) (o : Option OpenJob) (j : OpenJob) (who : Who) → job_as me count o ≡ Some (j, who) → (o ≡ Some j) × (who ≡ who_of count me j.sender)
job-is me count None j who e = absurd (cc (e))
job-is me count (Some i) j who e =
    let left : OpenJob × Who = (i, who_of count me i.sender) in
    let right : OpenJob × Who = (j, who) in
    let pair : left ≡ right = cc (e) in
    let job : i ≡ j = ap (λ z. z.0) pair in
    (ap Some job, sym (ap (λ z. z.1) pair) ∙ ap (λ (z : OpenJob). who_of count me z.sender) job)

-- what the handler answered
abbrev pub answered : Who → Handled → Answer
answered who h = record { state = h.state; given = given_of who h.effects }

-- so the answer is that of the handler of its image
answer-is : (images : ℕ → AnyImage) (image : AnyImage) (count p me total : ℕ) (o : Option OpenJob) (state : List ℕ) (j : OpenJob) (who : Who) (h : Handled) → as_image image ≡ as_image (images p) → me ≡ p → total ≡ count → job_as me total o ≡ Some (j, who)
    → answer_to image who state j ≡ Some h → (i : OpenJob) → o ≡ Some i → answered who h ≡ answering count images p state (job_of i)
answer-is images image count p me total o state j who h same here all next answers i waits =
    let job = job-is me total o j who next in
    let one : j ≡ i = (let e : Some j ≡ Some i = sym job.0 ∙ waits in cc (e)) in
    let runs : who ≡ who_of count p i.sender = job.1 ∙ ap (λ z. who_of total z j.sender) here ∙ ap (λ z. who_of z p j.sender) all ∙ ap (λ (z : OpenJob). who_of count p z.sender) one in
    let P : TheImage → Who → OpenJob → Type 0 = λ a b z. answer_in a b state z.payload ≡ Some h in
    let its = as_image (images p) in
    let said : P its (who_of count p i.sender) i = subst (λ z. P its (who_of count p i.sender) z) one (subst (λ z. P its z j) runs (subst (λ z. P z who j) same answers)) in
    let left : answered who h ≡ answered (who_of count p i.sender) h = ap (λ z. answered z h) runs in
    let right : answering count images p state (job_of i) ≡ answered (who_of count p i.sender) h = ap (answer_of (who_of count p i.sender) state) said in
    ◌∙◌ {b = answered (who_of count p i.sender) h} left (sym right)

pub works-is : (images : ℕ → AnyImage) (image : AnyImage) (count p : ℕ) (w : Checkpoint) (c d : Lifecycle) (j : OpenJob) (who : Who) (h : Handled) → as_image image ≡ as_image (images p) → is_settled c ≡ true → Fits w c → IsHere count p (seen w c) → job_at c ≡ Some (j, who)
    → answer_to image who (state_of c) j ≡ Some h → TakesIn h.state (given_of who h.effects) c d → Is (Works (answering count images) p (answered who h)) w c d
works-is images image count p Absent (Up n) (Up m) j who h same s f here next answers g =
    (refl, (tt, (answer-is images image count p n.me n.count n.working n.state j who h same here.0 here.1.0 next answers, (m, (refl, g)))))
works-is images image count p Absent (Replaying n) (Replaying m) j who h same s f here next answers g =
    (refl, (tt, (answer-is images image count p n.own.me n.own.count (next_job n) n.own.state j who h same here.0 here.1 next answers, (m, (refl, g)))))
works-is images image count p Absent (Collecting n) d j who h same s f here next answers g = absurd (cc (next))
works-is images image count p Absent (Replayed n) d j who h same s f here next answers g = absurd (cc (next))
works-is images image count p Absent (Restoring n) d j who h same s f here next answers g = absurd (cc (next))
works-is images image count p Absent Passing d j who h same s f here next answers g = unsettled s
works-is images image count p Absent c d j who h same s f here next answers g = absurd g
works-is images image count p (Pending bytes) (Up n) d j who h same s f here next answers g = none-next n.me n.count n.working j who (here.1.1 f.0) next
works-is images image count p Durable (Up n) d j who h same s f here next answers g = none-next n.me n.count n.working j who (here.1.1 f) next
works-is images image count p w c d j who h same s f here next answers g = absurd f

-- ---- checkpoints

-- one that can make a checkpoint doesn't wait for one
not-frozen : {P : Type 0} (f b : Bool) → (not f && b) ≡ true → f ≡ true → P
not-frozen {P} true b e t = absurd (cc (e))
not-frozen {P} false b e t = absurd (cc (t))

frozen-now : (n : TheNode) → may_freeze n ≡ true → froze n ≡ record n { frozen = true }
frozen-now n e = rw e refl

-- the checkpoint is made, and these are its bytes
pub froze-is : (bytes : List ℕ) (w : Checkpoint) (c d : Lifecycle) → Fits w c → IsSavable c → Keeps c bytes → Freezes c d
    → (is_settled d ≡ true) × (Fits (Pending bytes) d × ((ps : List Process) × Chain (seen w c) ps (seen (Pending bytes) d)))
froze-is bytes Absent (Up n) (Up m) f may keeps g =
    let can = both (may_freeze n) (is_storable n) may.may in
    let made = subst (λ b. FreezesAs b n m) can.1 g in
    let is : m ≡ record n { frozen = true } = made.0 ∙ frozen-now n can.0 in
    (refl, (subst (λ (z : TheNode). (z.frozen ≡ true) × AreOf bytes z) (sym is) (refl, keeps), (lives.Up m ∷ [], ((m, (refl, (inr made.0, made.1))), (ap (λ (z : TheNode). z.exact) made.0 ∙ froze-exact n, refl)))))
froze-is bytes Absent (Up n) other f may keeps g = absurd g
froze-is bytes Absent c d f may keeps g = absurd keeps
froze-is bytes (Pending others) (Up n) d f may keeps g = not-frozen n.frozen (is_none n.working) (both (may_freeze n) (is_storable n) may.may).0 f.0
froze-is bytes Durable (Up n) d f may keeps g = not-frozen n.frozen (is_none n.working) (both (may_freeze n) (is_storable n) may.may).0 f
froze-is bytes w c d f may keeps g = absurd f

-- it waits, and its host has no bytes of it
pauses-as : (b : Bool) (n m : TheNode) → FreezesAs b n m → GoesOn Absent (Up n) (Up m)
pauses-as true n m g = (refl, (tt, (lives.Up m ∷ [], ((m, (refl, (inr g.0, g.1))), (ap (λ (z : TheNode). z.exact) g.0 ∙ froze-exact n, refl)))))
pauses-as false n m g = on Absent (Up n) (Up m) refl tt (ap Up g)

rests-as : (b : Bool) (n m : TheNode) → n.frozen ≡ true → FreezesAs b n m → m ≡ n
rests-as true n m f g = g.0 ∙ froze-rests n f
rests-as false n m f g = g

pub paused-is : (w : Checkpoint) (c d : Lifecycle) → is_settled c ≡ true → Fits w c → Freezes c d → GoesOn w c d
paused-is Absent (Up n) (Up m) s f g = pauses-as (is_storable n) n m g
paused-is (Pending bytes) (Up n) (Up m) s f g = on (Pending bytes) (Up n) (Up m) s f (ap Up (rests-as (is_storable n) n m f.0 g))
paused-is Durable (Up n) (Up m) s f g = on Durable (Up n) (Up m) s f (ap Up (rests-as (is_storable n) n m f g))
paused-is w (Up n) other s f g = absurd g
paused-is Absent Passing d s f g = unsettled s
paused-is Absent c d s f g = on Absent c d s f g
paused-is w c d s f g = absurd f

pub froze-waits : (c d : Lifecycle) → Freezes c d → Waits c → Waits d
froze-waits (Up n) (Up m) g t = tt
froze-waits (Up n) other g t = absurd g
froze-waits c d g t = subst Waits (sym g) t

-- what is pending is stored
pub stored-is : (bytes : List ℕ) (c : Lifecycle) → Fits (Pending bytes) c → Fits Durable c
stored-is bytes (Up n) f = f.0
stored-is bytes other f = absurd f

-- and it is told so
pub saved-is : (c d : Lifecycle) → Fits Durable c → Thaws c d → (is_settled d ≡ true) × IsTold (seen Durable c) (stage_of d)
saved-is (Up n) (Up m) f g = (refl, (m, (refl, g)))
saved-is (Up n) other f g = absurd g
saved-is c d f g = absurd f

pub thawed-waits : (c d : Lifecycle) → Thaws c d → Waits c → Waits d
thawed-waits (Up n) (Up m) g t = tt
thawed-waits (Up n) other g t = absurd g
thawed-waits c d g t = subst Waits (sym g) t
