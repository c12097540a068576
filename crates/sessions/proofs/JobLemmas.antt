-- Jobs: what a machine hands out, with its image, and what it takes back
use Rattle.std.proofs.Common.{Bor, ◌≡◌, ℕ, zero, suc, ◌-◌, ◌<◌, ◌≤◌, List, [], ◌∷◌, length, map, refl, sym, ap, ◌∙◌, subst, arith}
use Rattle.std.specs.Prelude.{Option, Some, None, Ok, option_copied, slice_get, slice_index_or}
use Rattle.std.specs.Option.{option_map}
use Rattle.std.specs.Slice.{IsItemAt}
use Rattle.std.proofs.lemmas.Bool.Decides.{nat_tests}
use Rattle.std.proofs.lemmas.List.{get_or-map}
use Rattle.std.proofs.lemmas.Option.{slice_get-get_or, slice_get-map, slice_get_past, slice_get_read}
use Rattle.decode.specs.Slots.{slots_of}
use Rattle.interp.specs.Image.{TheImage}
use Rattle.interp.specs.HandlerCall.{handled_by}
use Rattle.interp.specs.Answer.{answered, shown}
use Rattle.replay.specs.Task.{TheTask, Answers}
use Rattle.theorems.proofs.ListLemmas.{nth-within}
use Rattle.world.specs.declared.message.Message.{Message}
use Rattle.world.specs.declared.packet.Packet.{Packet}
use Rattle.world.specs.declared.packet.Packet.TheVariants.{Delivery, Number, Acknowledgement}
use Rattle.world.specs.declared.call.Call.{Call}
use Rattle.world.specs.declared.call.Call.TheVariants as calls
use Rattle.world.specs.declared.answer.Answer.{Answer}
use Rattle.world.specs.declared.answer.Answer.TheVariants as answers
use Rattle.world.specs.declared.refusal.Refusal.{Refusal}
use Rattle.world.specs.declared.refusal.Refusal.TheVariants as refusals
use Rattle.world.specs.History.{nth}
use Rattle.world.specs.Handlers.{Handlers}
use Rattle.world.specs.World.{World}
use Rattle.machine.specs.Arrival.{HasItsLength, IsHandedOut, IsJobFor, IsJobOf, IsOpen, OfJob, Told, answer_of as answer_of_arrival}
use Rattle.machine.specs.declared.arrival.Arrival.{Arrival}
use Rattle.machine.specs.declared.arrival.Arrival.TheVariants as arrivals
use Rattle.machine.proofs.StartLemmas.{arrival-opens}
use Rattle.machine.specs.Dispatch.{Opened, begun_by, job_in, job_of, receiver_of}
use Rattle.machine.specs.Simulation.{TheMachine, Stands, Simulates}
use Rattle.sessions.specs.Driver.{Starts}
use Rattle.sessions.specs.Fields.{IsSized, joined, lengths_of, starter}
use Rattle.sessions.specs.Fold.{handlers_of}
use Rattle.sessions.specs.Job.{TheJob, HasCode, HasForm, IsAnswer, IsOpenJob, answer_of, completed, handled}
use Rattle.sessions.specs.Journal.{TheSession, world_at}
use Rattle.sessions.proofs.FoldLemmas.{handlers_of-push, sends-push}

-- an element by its number, from 1, is the one at the place before
pub nth-inside : {X : Type 0} (xs : List X) (p : ℕ) (d : X) → 0 < p → p ≤ length xs → nth xs p ≡ Some (slice_index_or xs (p - 1) d)
nth-inside xs zero d h k = absurd (omega arith)
nth-inside xs (suc p) d h k =
    let back : suc p - 1 ≡ p = omega arith in
    slice_get-get_or xs p d (omega arith) ∙ ap (λ q. Some (slice_index_or xs q d)) (sym back)

-- what is read at the place before is the value with this number
pub nth-read : {X Y : Type 0} (f : X → Y) (xs : List X) (p : ℕ) (r : Option (Bor X)) → 0 < p → IsItemAt xs (p - 1) r → option_map f (option_copied r) ≡ nth (map f xs) p
nth-read f xs zero r h at = absurd (omega arith)
nth-read {X = X} f xs (suc p) r h at =
    let back : suc p - 1 ≡ p = omega arith in
    read r (rw back at at) ∙ sym (slice_get-map f xs p)
  where
    read : (r : Option (Bor X)) → IsItemAt xs p r → option_map f (option_copied r) ≡ option_map f (slice_get xs p)
    read None at = ap (option_map f) (sym (slice_get_past xs p at.3))
    read (Some x) at = ap (option_map f) (sym (slice_get_read xs (length xs) p x.now refl at.3.0 at.1))

-- the image of a process, by its number
image-at : (images : List TheImage) (p : ℕ) (image : TheImage) → nth images p ≡ Some image → (0 < p) × (p ≤ length images) × ((e : TheImage) → slice_index_or images (p - 1) e ≡ image)
image-at images p image at =
    let inside = nth-within images p image at in
    (inside.0, inside.1, λ e. let is : Some (slice_index_or images (p - 1) e) ≡ Some image = sym (nth-inside images p e inside.0 inside.1) ∙ at in cc)

-- a task of a process is as long as the image says
pub sized : (images : List TheImage) (m : TheMachine) (t : TheTask) (image : TheImage) → m.lengths ≡ lengths_of images → HasItsLength m t → nth images t.who.me ≡ Some image → length t.state ≡ image.len
sized images m t image lengths size at =
    let found = image-at images t.who.me image at in
    size 0 ∙ ap (λ xs. slice_index_or xs (t.who.me - 1) 0) lengths ∙ get_or-map (λ (i : TheImage). i.len) images (t.who.me - 1) image 0 (omega (arith, found.0, found.1)) ∙ ap (λ (i : TheImage). i.len) (found.2 image)

module _ (images : List TheImage) (w : World) (count : w.count ≡ length images) where
  -- an open task has an image
  pub has-image : (t : TheTask) → IsOpen t w → (image : TheImage) × (nth images t.who.me ≡ Some image)
  has-image t o =
      let inside : 0 < t.who.me = grind (arith, nat_tests, o.inside) in
      let within : t.who.me ≤ length images = grind (arith, nat_tests, o.inside, count) in
      pick images t.who.me inside within
    where
      pick : (xs : List TheImage) (p : ℕ) → 0 < p → p ≤ length xs → (image : TheImage) × (nth xs p ≡ Some image)
      pick xs zero h k = absurd (omega arith)
      pick [] (suc p) h k = absurd (omega arith)
      pick (x ∷ xs) (suc p) h k = (slice_index_or (x ∷ xs) p x, slice_get-get_or (x ∷ xs) p x (omega arith))

  -- with its image it is an open job
  pub opens-job : (t : TheTask) (image : TheImage) → IsOpen t w → nth images t.who.me ≡ Some image → IsOpenJob images (record { task = t; image = image }) w
  opens-job t image o at = record {
    task = o;
    code = subst (λ i. HasCode i image.code) (sym at) refl;
    form = subst (λ i. HasForm i image.form) (sym at) refl;
  }

  -- the handlers of the images answer so
  pub answers-so : (j : TheJob) → w.handlers ≡ handlers_of images → IsOpenJob images j w → IsAnswer j (answer_of j) → Answers w.handlers (completed j)
  answers-so j handlers o a =
      let found = has-image j.task o.task in
      subst (λ (f : Handlers). Answers f (completed j)) (sym handlers) (with-image found.0 found.1)
    where
      with-image : (image : TheImage) → nth images j.task.who.me ≡ Some image → Answers (handlers_of images) (completed j)
      with-image image at =
          let code : j.image.code ≡ image.code = sym (subst (λ i. HasCode i j.image.code) at o.code) in
          let form : j.image.form ≡ image.form = sym (subst (λ i. HasForm i j.image.form) at o.form) in
          let many : j.task.who.count ≡ length images = o.task.count ∙ count in
          let so : (h : List Message) → j.task.state ≡ (handlers_of images).state j.task.who.me h → answered image (record { me = j.task.who.me; from = j.task.message.sender; count = length images }) ((handlers_of images).state j.task.who.me h) j.task.message.payload ≡ Some (answer_of j) =
          λ h is.
          let same : handled j ≡ answered image (record { me = j.task.who.me; from = j.task.message.sender; count = length images }) ((handlers_of images).state j.task.who.me h) j.task.message.payload =
          λ i. handled_by (form i) (slots_of (code i)) (record { me = j.task.who.me; from = o.task.from i; count = many i }) (is i) (shown (form i) j.task.message.payload) in
          sym same ∙ a.answers in
          record {
            state = λ h is. handlers_of-push images j.task.who.me image h j.task.message (answer_of j) at (so h is);
            sends = λ h is to. sends-push images j.task.who.me image h j.task.message (answer_of j) at (so h is) to;
          }

-- the process whose job a call starts
begun : (answer : Answer) (found : Option Packet) (q : ℕ) → begun_by answer found ≡ Some q → receiver_of found ≡ q
begun (answers.Started n) None q e = absurd (cc)
begun (answers.Started n) (Some (Delivery d m)) q e = cc
begun (answers.Started n) (Some (Number r s i k incarnation)) q e = absurd (cc)
begun (answers.Started n) (Some (Acknowledgement s r k incarnation)) q e = absurd (cc)
begun (answers.Logged n) found q e = absurd (cc)
begun (answers.Placed key) found q e = absurd (cc)
begun answers.Lost found q e = absurd (cc)
begun (answers.Numbered key) found q e = absurd (cc)
begun answers.Acknowledged found q e = absurd (cc)
begun (answers.Shown ssn) found q e = absurd (cc)
begun (answers.Duplicate key) found q e = absurd (cc)
begun answers.ShownBefore found q e = absurd (cc)
begun answers.Early found q e = absurd (cc)
begun answers.Stale found q e = absurd (cc)
begun answers.Unreachable found q e = absurd (cc)
begun (answers.Committed rsn key) found q e = absurd (cc)
begun (answers.Replayed rsn) found q e = absurd (cc)
begun (answers.Saved n) found q e = absurd (cc)
begun (answers.Trimmed n) found q e = absurd (cc)
begun (answers.Crashed n) found q e = absurd (cc)
begun (answers.Kept n) found q e = absurd (cc)
begun (answers.Restored n) found q e = absurd (cc)

pub starts-at : (w : World) (call : Call) (answer : Answer) (q : ℕ) → job_of w call answer ≡ Some q → starter w call ≡ q
starts-at w (calls.Arrive key) answer q e = begun answer (w.wire key) q e
starts-at w (calls.ReplayBegin p) answer q e = cc
starts-at w (calls.Input d feed x) answer q e = absurd (cc)
starts-at w (calls.Transmit p d i) answer q e = absurd (cc)
starts-at w (calls.Copy key) answer q e = absurd (cc)
starts-at w (calls.Lose key) answer q e = absurd (cc)
starts-at w (calls.Finish p) answer q e = absurd (cc)
starts-at w (calls.Checkpoint p) answer q e = absurd (cc)
starts-at w (calls.Trim d) answer q e = absurd (cc)
starts-at w (calls.Crash p) answer q e = absurd (cc)
starts-at w (calls.Recover p) answer q e = absurd (cc)
starts-at w (calls.RecoverAlone p) answer q e = absurd (cc)
starts-at w (calls.Resync p r) answer q e = absurd (cc)

-- an accepted call hands out the job that it starts, with the image of its process
pub starts : (s : TheSession) (m : TheMachine) (p : Option ℕ) (task : Option TheTask) (handler : Option TheImage) → Opened m p task → Stands m (world_at s) → (world_at s).count ≡ length s.images
    → ((q : ℕ) → p ≡ Some q → handler ≡ nth s.images q) → Starts s p (joined task handler)
starts s m p None handler opened stands count at = opened
starts s m p (Some t) handler opened stands count at =
    let is_open : IsOpen t (world_at s) = opened.1.1 (world_at s) stands in
    let found = has-image s.images (world_at s) count t is_open in
    let is : handler ≡ Some found.0 = at t.who.me opened.0 ∙ found.1 in
    rw is (opened.0, opens-job s.images (world_at s) count t found.0 is_open found.1)

-- and the state of its task is as long as that says
pub is-sized : (images : List TheImage) (m m' : TheMachine) (p : Option ℕ) (task : Option TheTask) (handler : Option TheImage) → Opened m' p task → m'.lengths ≡ m.lengths → m.lengths ≡ lengths_of images
    → ((q : ℕ) → p ≡ Some q → handler ≡ nth images q) → IsSized task handler
is-sized images m m' p None handler opened same lengths at = tt
is-sized images m m' p (Some t) None opened same lengths at = tt
is-sized images m m' p (Some t) (Some image) opened same lengths at =
    sized images m' t image (same ∙ lengths) opened.1.0 (sym (at t.who.me opened.0))

-- what holds of the job that an arrival hands out, by what else does
pub of-job : {J : Type 0} (P Q : J → Type 0) (a : Arrival J) → ((job : J) → a ≡ arrivals.Started job → P job → Q job) → OfJob P a → OfJob Q a
of-job P Q (arrivals.Started job) f h = f job refl h
of-job P Q (arrivals.Duplicate key) f h = tt
of-job P Q arrivals.Early f h = tt
of-job P Q (arrivals.Shown ssn) f h = tt
of-job P Q arrivals.ShownBefore f h = tt
of-job P Q (arrivals.Numbered key) f h = tt
of-job P Q arrivals.Acknowledged f h = tt
of-job P Q arrivals.Stale f h = tt
of-job P Q arrivals.Unreachable f h = tt

-- an arrival starts its task at the process for which the packet is a message
pub arrives-at : (m m' : TheMachine) (room key : ℕ) (a : Arrival TheTask) → Simulates m m' room (calls.Arrive key) (Ok (answer_of_arrival a)) → IsJobOf m' a → IsJobFor (slice_index_or m.slots key None) a
    → (w : World) → Stands m w → OfJob (λ t. starter w (calls.Arrive key) ≡ t.who.me) a
arrives-at m m' room key a step job mine w s =
    of-job (IsHandedOut m') (λ t. starter w (calls.Arrive key) ≡ t.who.me) a
    (λ t is h. let opened = subst (λ z. Opened m' (job_of w (calls.Arrive key) (answer_of_arrival z)) (job_in z)) is (arrival-opens m m' room key a step job mine w s) in starts-at w (calls.Arrive key) (answers.Started t.serial) t.who.me opened.0)
    job

-- a refusal tells the same of two facts that follow from each other
pub told-job : (r : Refusal) (P Q : Type 0) → (P → Q) → (Q → P) → Told r P → Told r Q
told-job refusals.Memory P Q f g t = f t
told-job refusals.StaleJob P Q f g t = λ q. t (g q)
told-job refusals.NoSuchProcess P Q f g t = absurd t
told-job refusals.NotUp P Q f g t = absurd t
told-job refusals.Busy P Q f g t = absurd t
told-job refusals.NoPacket P Q f g t = absurd t
told-job refusals.SameProcess P Q f g t = absurd t
told-job refusals.NotReleased P Q f g t = absurd t
told-job refusals.NotLogged P Q f g t = absurd t
told-job refusals.PeerNotUp P Q f g t = absurd t
told-job refusals.NotDown P Q f g t = absurd t
told-job refusals.WrongPhase P Q f g t = absurd t
told-job refusals.JournalFull P Q f g t = absurd t
told-job refusals.WireFull P Q f g t = absurd t
told-job refusals.FeedTaken P Q f g t = absurd t
