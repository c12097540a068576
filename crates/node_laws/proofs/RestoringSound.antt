-- What a process that restores its numbers says of lives, and hears of them
use Rattle.std.proofs.Common.{◌≡◌, ◌≢◌, ℕ, zero, suc, ◌+◌, ◌≤◌, List, true, false, refl, sym, ap, ◌∙◌, subst, arith}
use Rattle.std.specs.Prelude.{not, ◌&&◌, ◌==◌, nat_le, slice_index_or, slice_set}
use Rattle.std.proofs.lemmas.Bool.Decides.{nat_tests}
use Rattle.theorems.proofs.Tests.{both}
use Rattle.packets.specs.declared.packet.Body as bodies
use Rattle.packets.specs.declared.packet.Body.TheVariants as packets
use Rattle.packets.specs.declared.packet.NodePacket.{NodePacket}
use Rattle.packets.specs.declared.page.Pair.{Pair}
use Rattle.packets.specs.declared.page.Flags.{Flags}
use Rattle.packets.specs.Packet.{in_range, is_done, is_exact}
use Rattle.gateway.proofs.Steps.{by-if}
use Rattle.recovery.specs.Own.{TheOwn, posts, is_for, hears}
use Rattle.recovery.specs.Intake.{keeps, takes_in, trusts}
use Rattle.recovery.specs.Restoration.{TheRestoring, replayed_of, above_of, has_answered, asks, asks_below, asked, last_ssn, is_reply, is_whole, answers, told, greeted, page_of, doubted, asked_by, heard, handed}
use Rattle.recovery.proofs.Posts.{for-own}
use Rattle.node_laws.proofs.Sound.{Says, IsSound}
use Rattle.node_laws.proofs.OwnSound.{Keeps, IsAlone, HasHeard, hears-now, stays, onward, alone-still, posting}
use Rattle.node_laws.proofs.OwnSound as owns

pub record Goes (lives : ℕ → ℕ) (back : ℕ → Type 0) (top : ℕ) (old new : TheRestoring) : Type 0 where
  pub own : Keeps lives back old.own new.own
  pub hears : HasHeard lives top old.own → HasHeard lives top new.own

-- no page that it is to take in tells of more than was sent
abbrev pub Fits : NodePacket → TheRestoring → Type 0
Fits x n = is_for n.own x ≡ true → (i j c s : ℕ) (flags : Flags) (pairs : List Pair) → x.body ≡ packets.Restored i j c s flags pairs → in_range (packets.Restored i j c s flags pairs) ≡ true → is_reply x.from i j s n ≡ true
    → answers x.from i j c s pairs n ≡ true

module _ (lives : ℕ → ℕ) (back : ℕ → Type 0) (top : ℕ) where
  abbrev On : TheRestoring → TheRestoring → Type 0
  On = Goes lives back top

  same : (n : TheRestoring) → On n n
  same n = record { own = stays lives back n.own; hears = λ h. h }

  next : (a b c : TheRestoring) → On a b → On b c → On a c
  next a b c f g = record { own = onward lives back a.own b.own c.own f.own g.own; hears = λ h. g.hears (f.hears h) }

  -- ---- it asks

  asks-one : (to : ℕ) (n : TheRestoring) → IsAlone lives back top n.own → On n (asks to n)
  asks-one to n a =
      let x : bodies.Body = packets.Resume n.own.life (keeps (replayed_of n)) (above_of to n) in
      let low : n.own.life ≤ lives n.own.me = (let l = a.life in omega (arith, l)) in
      by-if (On n) (has_answered to n) n (record n { own = posts to x n.own }) (λ e. same n)
      (λ e. record { own = posting lives back to x n.own low; hears = λ h. record { wide = h.wide; all = h.all } })

  asks-each : (d : ℕ) (n : TheRestoring) → IsAlone lives back top n.own → On n (asks_below d n)
  asks-each zero n a = same n
  asks-each (suc d) n a =
      let m : TheRestoring = asks_below d n in
      let here : On n m = asks-each d n a in
      next n m (asks d m) here (asks-one d m (alone-still lives back top n.own m.own here.own a))

  pub asks-all : (n : TheRestoring) → IsAlone lives back top n.own → On n (asked n)
  asks-all n a = asks-each (n.own.count + 1) n a

  -- ---- a page comes

  -- of the gateway
  greets : (c : ℕ) (flags : Flags) (n : TheRestoring) → is_exact flags ≡ true → On n (greeted c flags n)
  greets c flags n exact = record { own = record { me = refl; count = refl; life = refl; exact = λ f. rw (f, exact) refl; out = λ o. o }; hears = λ h. record { wide = h.wide; all = h.all } }

  -- of a process, in its life of now
  tells : (from j c s : ℕ) (flags : Flags) (pairs : List Pair) (n : TheRestoring) → IsAlone lives back top n.own → from ≤ top → is_exact flags ≡ true → j ≡ lives from → On n (told from j c s flags pairs n)
  tells from j c s flags pairs n a low exact now =
      let o : TheOwn = trusts flags (hears from j (takes_in from c pairs n.own)) in
      let own : Keeps lives back n.own o = record { me = refl; count = refl; life = refl; exact = λ f. rw (f, exact) refl; out = λ x. x } in
      let heard_now : HasHeard lives top n.own → HasHeard lives top o = λ h. hears-now lives top n.own o from j now low refl refl h in
      let all : TheRestoring = record n { own = o; answered = slice_set n.answered from true } in
      let some : TheRestoring = record n { own = o; above = slice_set n.above from (last_ssn s pairs) } in
      let on : On n some = record { own = own; hears = heard_now } in
      by-if (On n) (is_done flags) all (asks from some) (λ e. record { own = own; hears = heard_now }) (λ e. next n some (asks from some) on (asks-one from some (alone-still lives back top n.own o own a)))

  page : (from j c s : ℕ) (flags : Flags) (pairs : List Pair) (n : TheRestoring) → IsAlone lives back top n.own → from ≤ top → is_exact flags ≡ true → j ≡ lives from → On n (page_of from j c s flags pairs n)
  page from j c s flags pairs n a low exact now = by-if (On n) (from == 0) (greeted c flags n) (told from j c s flags pairs n) (λ e. greets c flags n exact) (λ e. tells from j c s flags pairs n a low exact now)

  -- ---- a packet comes

  asking : (q i k : ℕ) (n : TheRestoring) → (HasHeard lives top n.own) → IsAlone lives back top n.own → q ≤ top → q ≢ n.own.me → i ≤ lives q → On n (asked_by q i k n)
  asking q i k n known a low other least = let t = owns.asking lives back top q i k n.own a known low other least in record { own = t.0; hears = λ h. t.1 }

  says : (from to : ℕ) (b : bodies.Body) (n : TheRestoring) → HasHeard lives top n.own → IsAlone lives back top n.own → to ≡ n.own.me → from ≤ top → from ≢ n.own.me
      → ((i j c s : ℕ) (flags : Flags) (pairs : List Pair) → b ≡ packets.Restored i j c s flags pairs → in_range (packets.Restored i j c s flags pairs) ≡ true → is_reply from i j s n ≡ true → answers from i j c s pairs n ≡ true)
      → Says lives back from to b → On n (heard from b n)
  says from to (packets.Restored i j c s flags pairs) n known a here low other fits h =
      by-if (On n) (in_range (packets.Restored i j c s flags pairs) && is_reply from i j s n && is_whole from flags) _ n
      (λ e. let t = both (in_range (packets.Restored i j c s flags pairs)) (is_reply from i j s n) (both (in_range (packets.Restored i j c s flags pairs) && is_reply from i j s n) (is_whole from flags) e).0 in
      let u = both ((i == n.own.life) && nat_le (slice_index_or n.own.heard from 0) j && not (has_answered from n)) (s == above_of from n) t.1 in
      let v = both ((i == n.own.life) && nat_le (slice_index_or n.own.heard from 0) j) (not (has_answered from n)) u.0 in
      let w = both (i == n.own.life) (nat_le (slice_index_or n.own.heard from 0) j) v.0 in
      let now : i ≡ n.own.life = (let z = w.0 in grind (arith, nat_tests)) in
      let good = h.1 (subst back (sym here) a.here) (now ∙ a.life ∙ ap lives (sym here)) in
      by-if (On n) (answers from i j c s pairs n) (page_of from j c s flags pairs n) (doubted (page_of from j c s flags pairs n)) (λ f. page from j c s flags pairs n a low good.0 good.1)
      (λ f. absurd (let z : true ≡ false = sym (fits i j c s flags pairs refl t.0 t.1) ∙ f in cc (z))))
      (λ e. same n)
  says from to (packets.Ask i k) n known a here low other fits h = by-if (On n) (in_range (packets.Ask i k)) (asked_by from i k n) n (λ e. asking from i k n known a low other h) (λ e. same n)
  says from to x n known a here low other fits h = same n

  pub hands : (x : NodePacket) (n : TheRestoring) → HasHeard lives top n.own → IsAlone lives back top n.own → Fits x n → IsSound lives back x → On n (handed x n)
  hands x n known a fits h =
      by-if (On n) (is_for n.own x) (heard x.from x.body n) n
      (λ e. let p = for-own n.own x e in
      says x.from x.to x.body n known a p.0 (let l = p.1.0 in let c = a.count in omega (arith, l, c)) p.1.1 (fits e) h)
      (λ e. same n)
