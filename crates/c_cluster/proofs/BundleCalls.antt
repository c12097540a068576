-- The exports for bundles are calls of hosts
use Rattle.std.proofs.Common.{◌≡◌, ◌∙◌, ℕ, suc, List, [], ◌∷◌, length, inl, inr, refl, sym, ap, subst}
use Rattle.std.specs.Prelude.{Option, Some, None}
use Rattle.std.specs.List.{AllByRecursion}
use Rattle.verifier.specs.declared.any_image.AnyImage.{AnyImage}
use Rattle.packets.specs.declared.packet.NodePacket.{NodePacket}
use Rattle.packets.specs.Format.{IsPacket}
use Rattle.packets.proofs.WholeLemmas.{one_packet}
use Rattle.node.specs.Answering.{IsOne}
use Rattle.process.specs.Process.{TheProcess}
use Rattle.process.specs.Calls.{Calls, IsHanded}
use Rattle.process.specs.Packets.{GivesBytes}
use Rattle.process.specs.Work.{Works}
use Rattle.node_laws.specs.HostProcess.{IsFirst, Checkpoint, Runs, Alive, goes_on}
use Rattle.node_laws.specs.HostSystem.{System, HostCall, GaveBytes, HandedBytes, Worked, DoesIt, after_call}
use Rattle.node_laws.proofs.Sound.{raised-here}
use Rattle.c_handles.specs.declared.bundle.BundleTally.{BundleTally}
use Rattle.c_calls.specs.declared.nodes.fault.NodeFault.{NodeFault}
use Rattle.c_calls.specs.declared.nodes.fault.NodeFault.TheVariants.{Memory, Handle, Image, Room, Absent, Bytes, Unready, Limit, Left}
use Rattle.c_handles.specs.Bundle.{IsBundle, InOrder, none_counted, Counting, GivesAll}
use Rattle.c_calls.specs.Nodes.Bundles.{Serves, IsToWork}
use Rattle.c_calls.specs.Nodes.Calls.{IsUnreceived, HasNotWorked}
use Rattle.c_cluster.specs.Nodes.Results.{Leaves}
use Rattle.c_cluster.specs.Nodes.HostCalls.{IsToServe, IsToTake, bytes_taken, AreMade, WereGiven, AreGiven}

-- ---- what a handle holds

pub held : {X : Type 0} (a b : X) → Some a ≡ Some b → b ≡ a
held a b e = cc (e)

unworked : (old : TheProcess) (new : Option TheProcess) (why : NodeFault) → HasNotWorked (Some old) new why → new ≡ Some old
unworked old new Memory h = h.2
unworked old new Absent h = h.2
unworked old new Handle h = absurd (let e : Some old ≡ None = h.0 in cc (e))
unworked old new Image h = absurd h
unworked old new Room h = absurd h
unworked old new (Bytes f) h = absurd h
unworked old new Unready h = absurd h
unworked old new Limit h = absurd h
unworked old new Left h = absurd h

unreceived : (bytes : List ℕ) (old : TheProcess) (new : Option TheProcess) (why : NodeFault) → IsUnreceived bytes (Some old) new why → new ≡ Some old
unreceived bytes old new Memory h = h.2
unreceived bytes old new (Bytes f) h = h.2
unreceived bytes old new Handle h = absurd (let e : Some old ≡ None = h.0 in cc (e))
unreceived bytes old new Image h = absurd h
unreceived bytes old new Room h = absurd h
unreceived bytes old new Absent h = absurd h
unreceived bytes old new Unready h = absurd h
unreceived bytes old new Limit h = absurd h
unreceived bytes old new Left h = absurd h

-- ---- calls of one process

module _ (images : ℕ → AnyImage) (n p : ℕ) (first : IsFirst n p) (w : Checkpoint) where
  abbrev Runs-as : System → TheProcess → Type 0
  Runs-as s old = s.processes p ≡ Runs old w

  alive : (P : TheProcess → Type 0) (s : System) (old : TheProcess) → Runs-as s old → P old → Alive P (s.processes p)
  alive P s old runs x = subst (Alive P) (sym runs) x

  -- after a call of p
  there : (s : System) (old new : TheProcess) → Runs-as s old → Runs-as (after_call s (Worked p new)) new
  there s old new runs = raised-here s.processes p (goes_on new (s.processes p)) ∙ ap (goes_on new) runs

  -- no call, and one more
  none-made : (s : System) (old new : TheProcess) (IsSo : HostCall → Type 0) → Runs-as s old → new ≡ old → AreMade images n s p w new IsSo []
  none-made s old new IsSo runs e = record { are = tt; each = tt; ends = runs ∙ ap (λ z. Runs z w) (sym e) }

  one-more : (s : System) (new : TheProcess) (IsSo : HostCall → Type 0) (k : HostCall) (ks : List HostCall) → DoesIt images n s k → IsSo k → AreMade images n (after_call s k) p w new IsSo ks → AreMade images n s p w new IsSo (k ∷ ks)
  one-more s new IsSo k ks does so rest = record { are = (does, rest.are); each = (so, rest.each); ends = rest.ends }

  -- ---- a bundle comes

  abbrev Made : System → TheProcess → Type 0
  Made s new = (calls : List HostCall) × AreMade images n s p w new (IsToServe p) calls

  -- these packets were given
  abbrev Given : List NodePacket → List (List ℕ) → Type 0
  Given given packets = AllByRecursion (λ bytes. (x : NodePacket) → IsPacket x bytes → IsOne x given) packets

  -- its handler ran, or didn't, and then so on
  works-on : (s : System) (old new : TheProcess) (mid : Option TheProcess) → Runs-as s old → IsToWork (Some old) mid → ((t : System) (now : TheProcess) → t.given ≡ s.given → Runs-as t now → mid ≡ Some now → Made t new) → Made s new
  works-on s old new mid runs (inl h) rest =
      let q = h.1 in
      let does : Works old q = subst (λ z. Works z q) (held old h.0 h.2) h.4 in
      let k : HostCall = Worked p q in
      let more = rest (after_call s k) q refl (there s old q runs) h.3 in
      (k ∷ more.0, one-more s new (IsToServe p) k more.0 (first, alive (λ z. Works z q) s old runs does) refl more.1)
  works-on s old new mid runs (inr h) rest = rest s old refl runs (unworked old mid h.0 h.1)

  -- it was handed over, or wasn't, and then so on
  serves-one : (bytes : List ℕ) (s : System) (old new : TheProcess) (a mid : Counting TheProcess) → Runs-as s old → a.0 ≡ Some old → ((x : NodePacket) → IsPacket x bytes → IsOne x s.given)
      → ((t : System) (now : TheProcess) → t.given ≡ s.given → Runs-as t now → mid.0 ≡ Some now → Made t new) → Serves bytes a mid → Made s new
  serves-one bytes s old new a mid runs e given rest (inl h) =
      let r = h.1 in
      let q : TheProcess = r.1 in
      let x : NodePacket = r.4.0 in
      let is : IsPacket x bytes = r.4.1 in
      let does : Calls (IsHanded x) old q = subst (λ z. Calls (IsHanded x) z q) (held old r.0 (sym e ∙ r.2)) r.4.2 in
      let all : (y : NodePacket) → IsPacket y bytes → Calls (IsHanded y) old q = λ y other. subst (λ z. Calls (IsHanded z) old q) (one_packet x y bytes is other) does in
      let k : HostCall = HandedBytes p x bytes q in
      let t : System = after_call s k in
      let more : Made t new = works-on t q new mid.0 (there s old q runs) (subst (λ z. IsToWork z mid.0) r.3 h.2) rest in
      (k ∷ more.0, one-more s new (IsToServe p) k more.0 (first, (given x is, (is, alive (λ z. (y : NodePacket) → IsPacket y bytes → Calls (IsHanded y) z q) s old runs all))) refl more.1)
  serves-one bytes s old new a mid runs e given rest (inr h) =
      rest s old refl runs (unreceived bytes old mid.0 h.0 (subst (λ z. IsUnreceived bytes z mid.0 h.0) e h.1))

  serves : (packets : List (List ℕ)) (s : System) (old new : TheProcess) (a b : Counting TheProcess) → Runs-as s old → a.0 ≡ Some old → b.0 ≡ Some new → Given s.given packets → InOrder Serves packets a b → Made s new
  serves [] s old new a b runs e f given done = ([], none-made s old new (IsToServe p) runs (held old new (sym e ∙ ap (λ (z : Counting TheProcess). z.0) (sym done) ∙ f)))
  serves (bytes ∷ packets) s old new a b runs e f given done =
      serves-one bytes s old new a done.0 runs e given.0 (λ t now g r m. serves packets t now new done.0 b r m f (subst (λ z. Given z packets) (sym g) given.1) done.2) done.1

  -- ---- packets are taken

  takes : (to : ℕ) (packets : List (List ℕ)) (s : System) (old new : TheProcess) → Runs-as s old → InOrder (Leaves to) packets old new
      → (calls : List HostCall) × (bytes_taken calls ≡ packets) × (length calls ≡ length packets) × AreMade images n s p w new (IsToTake p to) calls
  takes to [] s old new runs done = ([], refl, refl, none-made s old new (IsToTake p to) runs done)
  takes to (bytes ∷ packets) s old new runs done =
      let mid : TheProcess = done.0 in
      let h = done.1 in
      let x : NodePacket = h.0 in
      let k : HostCall = GaveBytes p x bytes mid in
      let more = takes to packets (after_call s k) mid new (there s old mid runs) done.2 in (
        k ∷ more.0,
        ap (λ z. bytes ∷ z) more.1,
        ap suc more.2,
        one-more s new (IsToTake p to) k more.0 (first, (h.1, alive (λ z. GivesBytes bytes z mid) s old runs (x, h.1, h.3))) (refl, h.2) more.3,
      )

  pub all-taken : (out out' : List ℕ) (size to count : ℕ) (s : System) (old new : TheProcess) → Runs-as s old → GivesAll Leaves out out' size to count old new → AreGiven images n s p w out out' size to count new
  all-taken out out' size to count s old new runs t =
      let made = takes to t.packets s old new runs t.given in
      record {
        calls = made.0;
        bundle = t.bundle;
        is_bundle = subst (λ z. IsBundle z t.bundle) (sym made.1) t.is_bundle;
        copied = t.copied;
        count_is = t.count_is ∙ sym made.2;
        are = made.3;
      }

  pub all-received : (bundle : List ℕ) (tally : BundleTally) (s : System) (old new : TheProcess) → Runs-as s old → WereGiven s.given bundle → (packets : List (List ℕ)) → IsBundle packets bundle
      → InOrder Serves packets (Some old, none_counted) (Some new, tally) → Made s new
  all-received bundle tally s old new runs given packets is done = serves packets s old new (Some old, none_counted) (Some new, tally) runs refl refl (given packets is) done
