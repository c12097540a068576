-- The worked list of calls of hosts
use Rattle.std.proofs.Common.{◌≡◌, inl, inr, ℕ, ◌≤◌, List, [], ◌∷◌, ◌++◌, length, true, false, refl, sym, ap, ◌∙◌, subst, arith}
use Rattle.std.specs.Prelude.{Some}
use Rattle.decode.specs.declared.insn.Reg.{Reg}
use Rattle.decode.specs.declared.insn.Insn.{Insn}
use Rattle.decode.specs.Slots.{slots_of}
use Rattle.decode.proofs.Forms.{same_reg}
use Rattle.helpers.specs.declared.effects.Who.{Who}
use Rattle.verifier.specs.declared.any_image.AnyImage.{AnyImage}
use Rattle.verifier.specs.declared.file_form.FileForm.{FileForm}
use Rattle.verifier.specs.declared.file_form.FileForm.TheVariants.{Sbi1}
use Rattle.verifier.specs.AnyImage.{code_of, state_of}
use Rattle.interp.specs.HandlerCall.{Handled, handled_by}
use Rattle.interp.specs.Configuration.{entry}
use Rattle.interp.specs.Answer.{answer_by, shown}
use Rattle.packets.specs.declared.packet.NodePacket.{NodePacket}
use Rattle.packets.specs.Kept.{IsKept, KeptFits, kept_bytes}
use Rattle.packets.specs.Packet.{entries_in_range, pairs_in_range}
use Rattle.node.specs.declared.limit.TheConstants.{PAGE, TICK}
use Rattle.node.specs.Limit.{usual, AreAllowed}
use Rattle.node.specs.Node.{TheNode, new_node}
use Rattle.node.specs.Transmission.{ticked}
use Rattle.node.specs.Kept.{kept_of, comes_back}
use Rattle.node.specs.Suspension.{suspended_bytes}
use Rattle.node.proofs.Begun.{within-begun}
use Rattle.node.proofs.Freezes.{freezes, saves}
use Rattle.node.proofs.Preservation.{kept-covers}
use Rattle.node.proofs.Openings.{stands-opened}
use Rattle.node.proofs.Sendings.{ticking}
use Rattle.recovery.specs.Collection.{revived}
use Rattle.recovery.specs.Replays.{TheReplaying, is_over}
use Rattle.recovery.specs.StandsAtReplay.{replayed_of}
use Rattle.recovery.proofs.Revival.{revives}
use Rattle.recovery.proofs.Reports as collecting
use Rattle.recovery.proofs.ReplayLemmas.{ends-so, collecting-takes, replays-so}
use Rattle.recovery.proofs.Beginnings.{beginning}
use Rattle.recovery.proofs.RestorationReports as restoring
use Rattle.recovery.proofs.Returns as returns
use Rattle.gateway.specs.Gateway.{new_gateway}
use Rattle.gateway.proofs.Transmission.{putting-in}
use Rattle.gateway.proofs.Views as gateways
use Rattle.gateway.proofs.Handover.{handed-so}
use Rattle.node.proofs.Handover as nodes
use Rattle.node.proofs.Views as views
use Rattle.node.specs.declared.limit.Limits.{Limits}
use Rattle.packets.specs.declared.kept.Kept.{Kept}
use Rattle.process.specs.Checkpoints.{Keeps}
use Rattle.recovery.specs.Restoration.{up}
use Rattle.node_laws.specs.HostProcess.{IsFirst}
use Rattle.node_laws.specs.HostSystem.{System, Opens, HostCall, Died, RevivesAs, DoesIt, AreCalls, after_call, after_calls}
use Rattle.node_laws.specs.HostLaws.{FailsAlone, OneAtATime}
use Rattle.node_laws.specs.WorkedMessages.{gave, quiet, collects, restores, input, delivery, number, acknowledgement, covers, ask, told, resume, restored, g1, g2, g3, g4, g5, g6, g7, g8, n0, n1, n2, n3, n4, n5, n6, n7, n8, n9, n10, comes, has_all, job, replays, replays_more, replayed, begins, has_answer}
use Rattle.node_laws.specs.Worked.{copies, IsCopying, process, before, behind, opened, IsWorked, HostsCanCall}
use Rattle.node_laws.proofs.WorkedMessages.{usual-allowed, fits, suspended-5, gives-none, recovers, is-restoring, first-of, first, early, within-n0, within-n1, within-q2, within-n4, within-q5, within-n6, within-q7, within-n8, within-q9, gives-nothing}
use Rattle.node_laws.proofs.Promised.{hosted-alone}
use Rattle.node_laws.proofs.CopyingLemmas.{r0, r1, r2, copying-loads}
use Rattle.rsn.specs.declared.receipts.TheConstants.{LIMIT}
use Rattle.recovery.specs.declared.lifecycle.Lifecycle.{Lifecycle}
use Rattle.recovery.specs.declared.lifecycle.Lifecycle.TheVariants.{Up, Collecting, Replaying, Replayed, Restoring}
use Rattle.process.specs.Process.{state_of as state_at}
use Rattle.process.specs.Calls as calls
use Rattle.recovery.specs.Transitions.{Passes}
use Rattle.process.specs.Revival.{IsOpened}
use Rattle.process.specs.Suspension.{IsResumed}
use Rattle.process.specs.Work.{Works, TakesIn, job_at, answer_to}

-- ---- what the handler answers

abbrev handled : ℕ → Handled
handled k = record { state = input k; effects = record { sends = []; outputs = [] }; r0 = k; steps = 3 }

runs-1 : (who : Who) (a : ℕ) → handled_by Sbi1 (slots_of (copies r0 r1 r2)) who (a ∷ []) (shown Sbi1 (input 1)) ≡ Some (handled 1)
unfolding handled_by entry
runs-1 who a = refl

runs-2 : (who : Who) (a : ℕ) → handled_by Sbi1 (slots_of (copies r0 r1 r2)) who (a ∷ []) (shown Sbi1 (input 2)) ≡ Some (handled 2)
unfolding handled_by entry
runs-2 who a = refl

runs-3 : (who : Who) (a : ℕ) → handled_by Sbi1 (slots_of (copies r0 r1 r2)) who (a ∷ []) (shown Sbi1 (input 3)) ≡ Some (handled 3)
unfolding handled_by entry
runs-3 who a = refl

same-code : (a b c : Reg) → a.number ≡ 0 → b.number ≡ 1 → c.number ≡ 2 → copies a b c ≡ copies r0 r1 r2
same-code a b c e0 e1 e2 =
    ap (λ (r : Reg). copies r b c) (same_reg a r0 e0) ∙ (ap (λ (r : Reg). copies r0 r c) (same_reg b r1 e1) ∙ ap (λ (r : Reg). copies r0 r1 r) (same_reg c r2 e2))

answers : (image : AnyImage) → IsCopying image → (who : Who) (a k : ℕ) → handled_by Sbi1 (slots_of (copies r0 r1 r2)) who (a ∷ []) (shown Sbi1 (input k)) ≡ Some (handled k) → answer_by image who (a ∷ []) (input k) ≡ Some (handled k)
answers image is who a k runs =
    let code : code_of image ≡ copies r0 r1 r2 = is.is_image.code_is ∙ same-code is.r0 is.r1 is.r2 is.numbers.0 is.numbers.1 is.numbers.2 in
    ap (λ (f : FileForm). handled_by f (slots_of (code_of image)) who (a ∷ []) (shown f (input k))) is.is_image.form_is ∙ (ap (λ (c : List Insn). handled_by Sbi1 (slots_of c) who (a ∷ []) (shown Sbi1 (input k))) code ∙ runs)

-- ---- what is stored

fits-0 : KeptFits (kept_of n0)
fits-0 = fits 0 0 (omega arith) refl

fits-4 : KeptFits (kept_of n4)
unfolding entries_in_range
fits-4 = fits 1 1 (omega arith) refl

-- ---- how the process passes on

pub stays-up : (n : TheNode) → Passes (Up n) (Up n)
stays-up n = record { told = Up n; ran = Up n; asks = Up n; recovers = refl; finishes = refl; begins = refl; returns = refl }

replays-on : (n : TheReplaying) → is_over n ≡ false → Passes (Replaying n) (Replaying n)
replays-on n e = record { told = Replaying n; ran = Replaying n; asks = Replaying n; recovers = refl; finishes = (e, refl); begins = refl; returns = refl }

pub hears-up : (image : AnyImage) (x : NodePacket) (n m : TheNode) → calls.IsHanded x (Up n) (Up m) → calls.Calls (calls.IsHanded x) (process image (Up n)) (process image (Up m))
hears-up image x n m h = record { image = refl; mid = Up m; does = h; passes = stays-up m }

-- it gives a packet
pub gives-up : (image : AnyImage) (x : NodePacket) (n : TheNode) (out : List NodePacket) → n.out ≡ x ∷ out → calls.Stays (calls.Takes (Some x)) (process image (Up n)) (process image (Up (record n { out = out })))
gives-up image x n out e = record { image = refl; does = views.takes-so (Some x) n out e }

-- it is revived from what is kept of it
pub revives-as : (image : AnyImage) (limits : Limits) (k : Kept) (bytes : List ℕ) (life : ℕ) → IsKept k bytes → comes_back k ≡ true → length k.state ≡ state_of image → RevivesAs image limits bytes life (process image (Collecting (revived limits k life)))
revives-as image limits k bytes life kept comes long =
    (image, (refl, record { kept = k; is_kept = record { bytes_are = kept; comes = comes; long = long }; image_is = refl; lifecycle_is = refl; revives = revives limits k life }))

-- it opens, if these bytes are what is kept of it
pub opens-as : (image : AnyImage) (limits : Limits) (n p : ℕ) (initial bytes : List ℕ) → AreAllowed limits → IsFirst n p → n ≤ 15 → length initial ≡ state_of image → IsKept (kept_of (new_node usual p n initial)) bytes
    → IsOpened image limits p n initial (process image (Up (new_node limits p n initial))) × Keeps (Up (new_node limits p n initial)) bytes
opens-as image limits n p initial bytes allowed l few long kept = (
  record { long = long; image_is = refl; lifecycle_is = refl; stands = stands-opened limits p n initial l.0 l.1 },
  (kept, kept-covers (new_node limits p n initial) (within-begun limits p n initial allowed l.0 l.1 few)),
)

-- as whom its handler runs on a message of the gateway
abbrev me : Who
me = record { me = 1; from = 0; count = 1 }

works : (image : AnyImage) (c d e : Lifecycle) (k : ℕ) → job_at c ≡ Some (job k, me) → answer_to image me (state_at c) (job k) ≡ Some (handled k) → TakesIn (input k) [] c d → Passes d e → Works (process image c) (process image e)
works image c d e k next is takes passes =
    record { job = job k; who = me; answer = handled k; mid = d; image = refl; next = next; answers = is; takes = takes; passes = passes }

-- ---- all of it

module _ (image : AnyImage) (is : IsCopying image) (stored bytes : List ℕ) (kept-0 : IsKept (kept_of n0) stored) (kept-4 : IsKept (kept_of n4) bytes) where
  opens : Opens 1 (λ _. image) (λ _. usual) (λ _. process image (Up n0)) (λ _. 0 ∷ []) (λ _. stored)
  opens =
      let one = opens-as image usual 1 1 (0 ∷ []) stored usual-allowed first (omega arith) (sym is.is_image.len_is) kept-0 in
      record {
        opened = λ p l. let only : 1 ≡ p = omega (arith, l.0, l.1) in let P : ℕ → Type 0 = λ q. IsOpened image usual q 1 (0 ∷ []) (process image (Up n0)) in subst P only one.0;
        stored = λ p l. one.1;
      }

  resumed-5 : IsResumed image usual (suspended_bytes (quiet n5)) (process image (Up (quiet n5)))
  unfolding entries_in_range
  resumed-5 =
      record { node = quiet n5; image_is = refl; lifecycle_is = refl; suspended = suspended-5; limits_are = refl; none_waits = refl; long = sym is.is_image.len_is }

  calls-before : AreCalls (λ _. image) 1 (opened image stored) (before image bytes)
  unfolding entries_in_range pairs_in_range
  calls-before =
      ((inl (1, (input 1, (refl, first-of (new_gateway 1 PAGE TICK) refl))), putting-in (new_gateway 1 PAGE TICK) 1 (input 1) (first-of (new_gateway 1 PAGE TICK) refl)), (tt, ((refl, gateways.takes-so (Some (delivery 1)) g1 [] refl), ((first, (inl refl, hears-up image (delivery 1) n0 n1 (refl, nodes.handed-so (delivery 1) n0 within-n0))), ((first, works image (Up n1) (Up n2) (Up n2) 1 refl (answers image is me 0 1 (runs-1 me 0)) (refl, nodes.worked-so n1 (input 1) [] within-n1 (gives-none n1)) (stays-up n2)), ((first, gives-up image (number 1) n2 [] refl), ((inl refl, (refl, handed-so (number 1) (gave [] g1))), (tt, ((refl, gateways.takes-so (Some (acknowledgement 1)) g2 [] refl), ((first, (inl refl, hears-up image (acknowledgement 1) (quiet n2) n3 (refl, nodes.handed-so (acknowledgement 1) (quiet n2) within-q2))), ((first, (record { may = refl; state = omega arith; entries = omega arith }, ((kept-4, kept-covers n4 within-n4), record { image = refl; does = (refl, freezes n3) }))), ((first, refl), ((first, (refl, record { image = refl; does = (refl, saves n4 within-n4) })), ((first, gives-up image covers n5 [] refl), ((first, suspended-5), ((first, (image, (refl, resumed-5))), ((inl (1, (input 2, (refl, first-of (gave [] g2) refl))), putting-in (gave [] g2) 1 (input 2) (first-of (gave [] g2) refl)), ((inl (1, (input 3, (refl, first-of g3 refl))), putting-in g3 1 (input 3) (first-of g3 refl)), (tt, ((refl, gateways.takes-so (Some (delivery 2)) g4 (delivery 3 ∷ []) refl), ((refl, gateways.takes-so (Some (delivery 3)) (gave (delivery 3 ∷ []) g4) [] refl), ((first, (inr (inl refl), hears-up image (delivery 2) (quiet n5) n6 (refl, nodes.handed-so (delivery 2) (quiet n5) within-q5))), ((first, works image (Up n6) (Up n7) (Up n7) 2 refl (answers image is me 1 2 (runs-2 me 1)) (refl, nodes.worked-so n6 (input 2) [] within-n6 (gives-none n6)) (stays-up n7)), ((first, gives-up image (number 2) n7 [] refl), ((first, (inr (inl refl), hears-up image (delivery 3) (quiet n7) n8 (refl, nodes.handed-so (delivery 3) (quiet n7) within-q7))), ((first, works image (Up n8) (Up n9) (Up n9) 3 refl (answers image is me 2 3 (runs-3 me 2)) (refl, nodes.worked-so n8 (input 3) [] within-n8 (gives-none n8)) (stays-up n9)), ((first, gives-up image (number 3) n9 [] refl), ((inr (inl refl), (refl, handed-so (number 2) (gave [] g4))), ((inl refl, (refl, handed-so (number 3) g5)), (tt, ((refl, gateways.takes-so (Some (acknowledgement 2)) g6 (acknowledgement 3 ∷ []) refl), ((refl, gateways.takes-so (Some (acknowledgement 3)) (gave (acknowledgement 3 ∷ []) g6) [] refl), ((first, (inr (inl refl), hears-up image (acknowledgement 2) (quiet n9) n10 (refl, nodes.handed-so (acknowledgement 2) (quiet n9) within-q9))), tt)))))))))))))))))))))))))))))))))

  calls-behind : AreCalls (λ _. image) 1 (after_calls (opened image stored) (before image bytes)) (behind image)
  unfolding entries_in_range pairs_in_range
  calls-behind =
      let few : length replays.plan ≤ LIMIT = omega arith in
      let recovered : Passes (Collecting has_all) (Replaying replays) =
      record { told = Replaying replays; ran = Replaying replays; asks = Replaying replays; recovers = (recovers.all, recovers.is, recovers.acts, few); finishes = (refl, refl); begins = refl; returns = refl } in
      let over : Passes (Replaying replayed) (Restoring begins) =
      record { told = Replaying replayed; ran = Replayed (replayed_of replayed); asks = Restoring begins; recovers = refl; finishes = (refl, refl, ends-so replayed refl (omega arith)); begins = (refl, beginning (replayed_of replayed)); returns = (refl, refl) } in
      let returned : Passes (Restoring has_answer) (Up (ticked (up has_answer))) =
      record { told = Restoring has_answer; ran = Restoring has_answer; asks = Restoring has_answer; recovers = refl; finishes = refl; begins = refl; returns = (refl, (up has_answer, (refl, returns.is-up has_answer refl, refl, ticking (up has_answer)))) } in
      (first, ((first, (refl, (early, revives-as image usual (kept_of n4) bytes 2 kept-4 refl (sym is.is_image.len_is)))), ((first, record { image = refl; does = collecting-takes (Some ask) comes [] refl }), ((inl refl, (refl, handed-so ask (gave [] g6))), (tt, ((refl, gateways.takes-so (Some told) g7 [] refl), ((first, (inl refl, record { image = refl; mid = Collecting has_all; does = (refl, collecting.handing (collects [] comes) told refl refl refl); passes = recovered })), ((first, works image (Replaying replays) (Replaying replays_more) (Replaying replays_more) 2 refl (answers image is me 1 2 (runs-2 me 1)) (refl, replays-so replays (input 2) [] refl (gives-nothing replays.own)) (replays-on replays_more refl)), ((first, works image (Replaying replays_more) (Replaying replayed) (Restoring begins) 3 refl (answers image is me 2 3 (runs-3 me 2)) (refl, replays-so replays_more (input 3) [] refl (gives-nothing replays_more.own)) over), ((first, record { image = refl; does = returns.takes-so (Some resume) begins [] refl }), ((inl refl, (refl, handed-so resume (gave [] g7))), (tt, ((refl, gateways.takes-so (Some restored) g8 [] refl), ((first, (inl refl, record { image = refl; mid = Restoring has_answer; does = (refl, restoring.handing (restores [] begins) restored is-restoring); passes = returned })), tt))))))))))))))

-- ---- it fails alone

one-at : (images : ℕ → AnyImage) (s : System) (k : HostCall) → DoesIt images 1 s k → FailsAlone 1 s k
one-at images s (Died p) d = λ q inside other. absurd (other (omega (arith, inside.0, inside.1, d.0, d.1)))
one-at images s call d = tt

alone : (images : ℕ → AnyImage) (s : System) (ks : List HostCall) → AreCalls images 1 s ks → OneAtATime 1 s ks
alone images s [] c = tt
alone images s (k ∷ ks) c = (one-at images s k c.0, alone images (after_call s k) ks c.1)

calls-append : (images : ℕ → AnyImage) (n : ℕ) (s : System) (ks more : List HostCall) → AreCalls images n s ks → AreCalls images n (after_calls s ks) more → AreCalls images n s (ks ++ more)
calls-append images n s [] more c d = d
calls-append images n s (k ∷ ks) more c d = (c.0, calls-append images n (after_call s k) ks more c.1 d)

worked : (image : AnyImage) → IsCopying image → (stored bytes : List ℕ) → IsKept (kept_of n0) stored → IsKept (kept_of n4) bytes → IsWorked image stored bytes
unfolding entries_in_range pairs_in_range
worked image is stored bytes kept-0 kept-4 =
    let s = opened image stored in
    let ks = before image bytes ++ behind image in
    let all = calls-append (λ _. image) 1 s (before image bytes) (behind image) (calls-before image is stored bytes kept-0 kept-4) (calls-behind image is stored bytes kept-0 kept-4) in
    let begins = opens image is stored bytes kept-0 kept-4 in
    let lone = alone (λ _. image) s ks all in
    record {
      opens = begins;
      calls = all;
      alone = lone;
      exact = hosted-alone (record { n = 1; images = λ _. image; limits = λ _. usual; states = λ _. 0 ∷ []; processes = λ _. process image (Up n0); bytes = λ _. stored; page = PAGE; tick = TICK; opens = begins }) ks (omega arith) all lone;
      sleeps = refl;
      wakes = refl;
      was_up = refl;
      had = refl;
      acknowledged = refl;
      was = refl;
      collects = refl;
      recovers = refl;
      replays_two = refl;
      node = ticked (up has_answer);
      is_up = refl;
      has = refl;
      life = refl;
      state = refl;
    }

pub hosts-can-call : HostsCanCall
hosts-can-call =
    (copying-loads, λ image is. worked image is (kept_bytes (kept_of n0)) (kept_bytes (kept_of n4)) (record { fits = fits-0; bytes_are = refl }) (record { fits = fits-4; bytes_are = refl }))
