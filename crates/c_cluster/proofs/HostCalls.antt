-- The exports are calls of hosts
use Rattle.std.proofs.Common.{◌≡◌, ℕ, List, refl, sym, subst}
use Rattle.std.specs.Prelude.{Some, None}
use Rattle.verifier.specs.declared.any_image.AnyImage.{AnyImage}
use Rattle.verifier.specs.AnyImage.{IsImageOf, form_of, code_of, state_of}
use Rattle.interp.specs.Image.{as_image}
use Rattle.packets.specs.declared.packet.NodePacket.{NodePacket}
use Rattle.packets.specs.Format.{IsPacket}
use Rattle.packets.proofs.WholeLemmas.{one_packet}
use Rattle.process.specs.Process.{TheProcess}
use Rattle.process.specs.Calls.{Calls, Stays, IsHanded, Ticks, Freezes, Thaws}
use Rattle.process.specs.Revival.{IsOpened, IsRevived}
use Rattle.process.specs.Packets.{GivesBytes}
use Rattle.process.specs.Checkpoints.{IsSavable, Keeps}
use Rattle.process.specs.Suspension.{Suspends, IsResumed}
use Rattle.process.specs.Work.{Works}
use Rattle.process.specs.Job.{IsAnswered, WorksAs}
use Rattle.node_laws.specs.HostProcess.{Checkpoint, Alive, Has, Asleep, Durable}
use Rattle.node_laws.specs.HostSystem.{System, Ticked, AnswersSo, ResumesAs, DoesIt}
use Rattle.c_calls.specs.declared.nodes.fault.NodeFault.{NodeFault}
use Rattle.c_calls.specs.declared.nodes.fault.NodeFault.TheVariants.{Memory, Handle, Image, Room, Absent, Bytes, Unready, Limit, Left}
use Rattle.c_calls.specs.Nodes.Answers.{OfBoth}
use Rattle.c_calls.specs.Nodes.Calls.{IsHeldBack}
use Rattle.c_cluster.specs.Nodes.NodeJob.{state_in}
use Rattle.c_cluster.specs.Nodes.Lifetime.{IsImageIn, limits_of}
use Rattle.c_cluster.specs.Nodes.HostCalls.{Holds, ExportsAreCalls}
use Rattle.c_cluster.proofs.BundleCalls.{held, all-received, all-taken}

-- what holds of the processes before and after
of-both : (old new : TheProcess) (H : TheProcess → TheProcess → Type 0) → OfBoth (Some old) (Some new) H → H old new
of-both old new H h =
    let first : H old h.1 = subst (λ p. H p h.1) (held old h.0 h.2) h.4 in
    subst (λ p. H old p) (held new h.1 h.3) first

alive : (P : TheProcess → Type 0) (n : ℕ) (s : System) (p : ℕ) (w : Checkpoint) (old : TheProcess) → Holds n s p w old → P old → Alive P (s.processes p)
alive P n s p w old h x = subst (Alive P) (sym h.runs) x

-- a file has one form, one code and one length
same-image : (file : List ℕ) (a b : AnyImage) → IsImageIn file a → IsImageIn file b → as_image a ≡ as_image b
same-image file a b i j =
    let one : IsImageOf (form_of b) (code_of b) (state_of b) a = i.only (form_of b) (code_of b) (state_of b) j.file_is j.typable in
    let form : form_of a ≡ form_of b = one.form_is in
    let code : code_of a ≡ code_of b = one.code_is in
    let len : state_of a ≡ state_of b = one.len_is in
    cc

held-back : (images : ℕ → AnyImage) (n : ℕ) (s : System) (p : ℕ) (w : Checkpoint) (old new : TheProcess) (why : NodeFault) → Holds n s p w old → IsHeldBack (Some old) (Some new) why → DoesIt images n s (Ticked p new)
held-back images n s p w old new Memory h b = (h.first, alive (λ o. Calls Ticks o new) n s p w old h (of-both old new _ b).0)
held-back images n s p w old new Limit h b = (h.first, alive (λ o. Calls Ticks o new) n s p w old h (of-both old new _ b).0)
held-back images n s p w old new Handle h b = absurd (let e : Some old ≡ None = b.0 in cc (e))
held-back images n s p w old new Image h b = absurd b
held-back images n s p w old new Room h b = absurd b
held-back images n s p w old new Absent h b = absurd b
held-back images n s p w old new (Bytes f) h b = absurd b
held-back images n s p w old new Unready h b = absurd b
held-back images n s p w old new Left h b = absurd b

pub exports-are-calls : ExportsAreCalls
exports-are-calls =
    record {
      opened = λ file me n l state new o.
          let is : o.process ≡ new = held new o.process (o.is) in
          let opened : IsOpened o.image (limits_of l) me n (state o.image) new = subst (λ p. IsOpened o.image (limits_of l) me n (state o.image) p) is o.begun in
          let image : o.image ≡ new.image = sym opened.image_is in
          (subst (IsImageIn file) image o.image_is, subst (λ i. IsOpened i (limits_of l) me n (state i) new) image opened);
      revived = λ images n s p file life l new first dead above is r.
          let e : r.process ≡ new = held new r.process (r.is) in
          (first, (dead, (above, (r.image, (same-image file r.image (images p) r.image_is is, subst (λ q. IsRevived r.image (limits_of l) (s.stored p) life q) e r.begun)))));
      received = λ images n s p w old new x bytes h one is r.
          let both = of-both old new _ r in
          let all : (y : NodePacket) → IsPacket y bytes → Calls (IsHanded y) old new = λ y other. subst (λ z. Calls (IsHanded z) old new) (one_packet both.0 y bytes both.1 other) both.2 in
          (h.first, (one, (is, alive (λ o. (y : NodePacket) → IsPacket y bytes → Calls (IsHanded y) o new) n s p w old h all)));
      taken = λ images n s p w old new out out' size to h t.
          let both = of-both old new _ t in
          let bytes = both.0 in
          let x = both.1.0 in
          record {
            packet = x;
            bytes = bytes;
            copied = both.2;
            to_is = sym both.1.2;
            is = (h.first, (both.1.1, alive (λ o. GivesBytes bytes o new) n s p w old h (x, both.1.1, both.1.3)));
          };
      worked = λ images n s p w old new h k. (h.first, alive (λ o. Works o new) n s p w old h (of-both old new _ k));
      done = λ images n s p w old new ticket array bytes h d.
          let t = of-both old new _ d in
          record {
            who = t.who;
            effects = t.effects;
            left = t.left;
            is = λ so. (h.first, alive (λ o. AnswersSo (state_in old.image array) t.effects o × (IsAnswered ticket (state_in old.image array) t.effects o new × WorksAs (state_in old.image array) t.effects o new)) n s p w old h (so, (t.answered, t.works)));
          };
      ticked = λ images n s p w old new h k. (h.first, alive (λ o. Calls Ticks o new) n s p w old h (of-both old new _ k).0);
      held_back = held-back;
      made = λ images n s p w old new out out' size h m.
          let both = of-both old new _ m in
          let bytes = both.1.0 in
          record {
            bytes = bytes;
            copied = both.1.2;
            is = (h.first, alive (λ o. IsSavable o.lifecycle × (Keeps o.lifecycle bytes × Stays Freezes o new)) n s p w old h (both.0, (both.1.1, both.2)));
          };
      saved = λ images n s p old new h k.
          (h.first, (subst (Has (λ checkpoint. checkpoint ≡ Durable)) (sym h.runs) refl, alive (λ o. Stays Thaws o new) n s p Durable old h (of-both old new _ k).1));
      suspended = λ images n s p w old new out out' size h k.
          let bytes = k.3.0 in
          record {
            bytes = bytes;
            copied = k.3.2;
            is = (h.first, alive (λ o. Suspends o.lifecycle bytes) n s p w old h (subst (λ o. Suspends o.lifecycle bytes) (held old k.0 k.1) k.3.1));
          };
      resumed = λ images n s p file bytes l old new first sleeps is r.
          let e : r.process ≡ new = held new r.process (r.is) in
          let resumed : ResumesAs (images p) (limits_of l) bytes new = (r.image, (same-image file r.image (images p) r.image_is is, subst (λ q. IsResumed r.image (limits_of l) bytes q) e r.begun)) in
          (first, subst (Asleep (λ bs. ResumesAs (images p) (limits_of l) bs new)) (sym sleeps) resumed);
      received_all = λ images n s p w old new bundle tally h given k. all-received images n p h.first w bundle tally s old new h.runs given k.0 k.1 k.2;
      taken_all = λ images n s p w old new out out' size to count h k. all-taken images n p h.first w out out' size to count s old new h.runs (of-both old new _ k);
    }
