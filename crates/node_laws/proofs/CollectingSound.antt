-- What a process that collects says of lives, and hears of them
use Rattle.node.specs.declared.limit.Limits.{Limits}
use Rattle.std.proofs.Common.{◌≡◌, ◌≢◌, ℕ, zero, suc, ◌+◌, ◌<◌, ◌≤◌, List, [], ◌∷◌, length, true, false, refl, sym, ap, ◌∙◌, subst, arith}
use Rattle.std.specs.Prelude.{◌&&◌, ◌==◌, nat_lt, slice_index_or, slice_set, replicate}
use Rattle.std.proofs.lemmas.List.{get_or-set_other, length-set, length-replicate}
use Rattle.theorems.proofs.Tests.{both}
use Rattle.packets.specs.declared.packet.Body as bodies
use Rattle.packets.specs.declared.packet.Body.TheVariants as packets
use Rattle.packets.specs.declared.packet.NodePacket.{NodePacket}
use Rattle.packets.specs.declared.page.LoggedMessage.{LoggedMessage}
use Rattle.packets.specs.declared.page.Flags.{Flags}
use Rattle.packets.specs.declared.kept.Kept.{Kept}
use Rattle.packets.specs.Packet.{in_range, is_done, is_lost, is_exact}
use Rattle.gateway.proofs.Steps.{by-if}
use Rattle.recovery.specs.Own.{TheOwn, posts, is_for, hears, learns}
use Rattle.recovery.specs.Overlap.{heard_of, tells_loss}
use Rattle.recovery.specs.Collected.{TheCollected, none_told, with_page}
use Rattle.recovery.specs.Collection.{TheCollecting, told_of, asks, asks_below, asked, begins, answers, took_page, asks_anew, asked_by, heard, handed}
use Rattle.recovery.specs.Plan.{has_all}
use Rattle.recovery.proofs.Plans.{all-below}
use Rattle.recovery.proofs.Reports.{is-answer}
use Rattle.recovery.proofs.Posts.{for-own}
use Rattle.node_laws.proofs.Sound.{Says, IsSound, set-at, same-at}
use Rattle.node_laws.proofs.OwnSound.{Keeps, IsAlone, HasHeard, stays, onward, alone-still, posting, losing}

-- of each other that has told all it heard of the life of now
pub record Hears (lives : ℕ → ℕ) (top : ℕ) (n : TheCollecting) : Type 0 where
  pub wide : top < length n.own.heard
  pub all : (q : ℕ) → q ≤ top → q ≢ n.own.me → (told_of n.told q).done ≡ true → lives q ≤ heard_of q n.own

pub record Goes (lives : ℕ → ℕ) (back : ℕ → Type 0) (top : ℕ) (old new : TheCollecting) : Type 0 where
  pub own : Keeps lives back old.own new.own
  pub hears : Hears lives top old → Hears lives top new

-- one that was told nothing at q
none-done : (told : List TheCollected) (q k : ℕ) → (told_of (slice_set told q (none_told k)) q).done ≡ false
none-done [] q k = refl
none-done (t ∷ told) zero k = refl
none-done (t ∷ told) (suc q) k = none-done told q k

-- where all have told, it has heard of all
pub heard-all : (lives : ℕ → ℕ) (top : ℕ) (n : TheCollecting) → n.own.count ≡ top → has_all n ≡ true → Hears lives top n → HasHeard lives top n.own
heard-all lives top n count all h = record { wide = h.wide; all = λ q low other. h.all q low other (all-below n.told n.own.me (n.own.count + 1) q all (omega (arith, low, count)) other) }

module _ (lives : ℕ → ℕ) (back : ℕ → Type 0) (top : ℕ) where
  abbrev On : TheCollecting → TheCollecting → Type 0
  On = Goes lives back top

  same : (n : TheCollecting) → On n n
  same n = record { own = stays lives back n.own; hears = λ h. h }

  next : (a b c : TheCollecting) → On a b → On b c → On a c
  next a b c f g = record { own = onward lives back a.own b.own c.own f.own g.own; hears = λ h. g.hears (f.hears h) }

  -- ---- it asks

  asks-one : (to : ℕ) (n : TheCollecting) → IsAlone lives back top n.own → On n (asks to n)
  asks-one to n a =
      let x : bodies.Body = packets.Ask n.own.life (told_of n.told to).cursor in
      let low : n.own.life ≤ lives n.own.me = (let l = a.life in omega (arith, l)) in
      by-if (On n) (told_of n.told to).done n (record n { own = posts to x n.own }) (λ e. same n)
      (λ e. record { own = posting lives back to x n.own low; hears = λ h. record { wide = h.wide; all = h.all } })

  asks-each : (me d : ℕ) (n : TheCollecting) → IsAlone lives back top n.own → On n (asks_below me d n)
  asks-each me zero n a = same n
  asks-each me (suc d) n a =
      let m : TheCollecting = asks_below me d n in
      let here : On n m = asks-each me d n a in
      by-if (On n) (d == me) m (asks d m) (λ e. here) (λ e. next n m (asks d m) here (asks-one d m (alone-still lives back top n.own m.own here.own a)))

  pub asks-all : (n : TheCollecting) → IsAlone lives back top n.own → On n (asked n)
  asks-all n a = asks-each n.own.me (n.own.count + 1) n a

  -- what it heard and what was told are changed at one place
  hears-set : (n : TheCollecting) (o : TheOwn) (q j : ℕ) (t : TheCollected) → o.me ≡ n.own.me → o.heard ≡ slice_set n.own.heard q j → ((told_of (slice_set n.told q t) q).done ≡ true → j ≡ lives q) → Hears lives top n → Hears lives top (record { own = o; told = slice_set n.told q t })
  hears-set n o q j t me same now h =
      record {
        wide = (let e : length o.heard ≡ length n.own.heard = ap length same ∙ length-set n.own.heard q j in let w = h.wide in omega (arith, e, w));
        all = λ r inside other done. subst (λ (xs : List ℕ). lives r ≤ slice_index_or xs r 0) (sym same)
            (set-at (λ z. lives r ≤ z) n.own.heard q j r 0 (let w = h.wide in omega (arith, w, inside))
            (λ e. let at : lives r ≡ lives q = ap lives e in let is : j ≡ lives q = now (subst (λ z. (told_of (slice_set n.told q t) z).done ≡ true) e done) in omega (arith, at, is))
            (λ o. h.all r inside (λ e. other (e ∙ sym me)) (ap (λ (z : TheCollected). z.done) (sym (get_or-set_other n.told q r t (none_told 0) o)) ∙ done)));
      }

  -- ---- a page comes

  page : (from j : ℕ) (flags : Flags) (entries : List LoggedMessage) (n : TheCollecting) → IsAlone lives back top n.own → from ≤ top → is_lost flags ≡ false → is_exact flags ≡ true → j ≡ lives from → On n (took_page from j flags entries n)
  page from j flags entries n a low lost exact now =
      let m : TheCollecting = record { own = learns from j flags n.own; told = slice_set n.told from (with_page (is_done flags) entries (told_of n.told from)) } in
      let own : Keeps lives back n.own m.own = record { me = refl; count = refl; life = refl; exact = λ e. rw (e, lost, exact) refl; out = λ o. o } in
      let here : On n m = record { own = own; hears = λ h. hears-set n m.own from j (with_page (is_done flags) entries (told_of n.told from)) refl refl (λ d. now) h } in
      next n m (asks from m) here (asks-one from m (alone-still lives back top n.own m.own own a))

  -- ---- an Ask comes

  anew : (q i : ℕ) (n : TheCollecting) → IsAlone lives back top n.own → On n (asks_anew q i n)
  anew q i n a =
      let m : TheCollecting = record { own = record (hears q i n.own) { lost = slice_set n.own.lost q false }; told = slice_set n.told q (none_told n.own.base) } in
      let own : Keeps lives back n.own m.own = record { me = refl; count = refl; life = refl; exact = λ e. e; out = λ o. o } in
      let here : On n m = record { own = own; hears = λ h. hears-set n m.own q i (none_told n.own.base) refl refl (λ d. absurd (let z : true ≡ false = sym d ∙ none-done n.told q n.own.base in cc (z))) h } in
      next n m (asks q m) here (asks-one q m (alone-still lives back top n.own m.own own a))

  -- it tells that one, which is up, that all is lost
  loses : (q i k : ℕ) (n : TheCollecting) → IsAlone lives back top n.own → q ≢ n.own.me → i ≤ lives q → On n (record n { own = tells_loss q i k n.own })
  loses q i k n a other low = record { own = losing lives back top q i k n.own a other low; hears = λ h. record { wide = h.wide; all = h.all } }

  asking : (q i k : ℕ) (n : TheCollecting) → IsAlone lives back top n.own → q ≢ n.own.me → i ≤ lives q → On n (asked_by q i k n)
  asking q i k n a other low =
      by-if (On n) (nat_lt i (heard_of q n.own)) n _ (λ e. same n)
      (λ e. by-if (λ m. On n (record m { own = tells_loss q i k m.own })) (nat_lt (heard_of q n.own) i) (asks_anew q i n) n (λ f. after) (λ f. loses q i k n a other low))
    where
      after : On n (record (asks_anew q i n) { own = tells_loss q i k (asks_anew q i n).own })
      after =
          let m : TheCollecting = asks_anew q i n in
          let here : On n m = anew q i n a in
          next n m (record m { own = tells_loss q i k m.own }) here (loses q i k m (alone-still lives back top n.own m.own here.own a) (λ e. other (e ∙ here.own.me)) low)

  -- ---- a packet comes

  says : (from to : ℕ) (b : bodies.Body) (n : TheCollecting) → IsAlone lives back top n.own → to ≡ n.own.me → from ≤ top → from ≢ n.own.me → Says lives back from to b → On n (heard from b n)
  says from to (packets.Told i j k flags entries) n a here low other s =
      by-if (On n) (in_range (packets.Told i j k flags entries) && answers from i j k n) (took_page from j flags entries n) n
      (λ e. let t = both (in_range (packets.Told i j k flags entries)) (answers from i j k n) e in
      let now : i ≡ n.own.life = (is-answer n from i j k t.1).life in
      let good = s.1 (subst back (sym here) a.here) (now ∙ a.life ∙ ap lives (sym here)) in
      page from j flags entries n a low good.0 good.1.0 good.1.1)
      (λ e. same n)
  says from to (packets.Ask i k) n a here low other s = by-if (On n) (in_range (packets.Ask i k)) (asked_by from i k n) n (λ e. asking from i k n a other s) (λ e. same n)
  says from to x n a here low other s = same n

  pub hands : (x : NodePacket) (n : TheCollecting) → IsAlone lives back top n.own → IsSound lives back x → On n (handed x n)
  hands x n a s =
      by-if (On n) (is_for n.own x) (heard x.from x.body n) n
      (λ e. let p = for-own n.own x e in
      says x.from x.to x.body n a p.0 (let l = p.1.0 in let c = a.count in omega (arith, l, c)) p.1.1 s)
      (λ e. same n)

  -- ---- it comes back

  -- of a process of so many
  pub begun : (limits : Limits) (k : Kept) (life : ℕ) → k.count ≡ top → Hears lives top (begins limits k life)
  begun limits k life count =
      record {
        wide = (let zeros : List ℕ = replicate (k.count + 1) 0 in let e : length (slice_set zeros 0 1) ≡ length zeros = length-set zeros 0 1 in let r : length zeros ≡ k.count + 1 = length-replicate (k.count + 1) 0 in omega (arith, e, r, count));
        all = λ q inside other done. absurd (let z : true ≡ false = sym done ∙ same-at (λ (t : TheCollected). t.done ≡ false) (k.count + 1) q (none_told k.length) (none_told 0) refl refl in cc (z));
      }
