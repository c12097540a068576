-- What a process that comes back says of lives
use Rattle.std.proofs.Common.{◌≡◌, ◌≢◌, ℕ, ◌<◌, ◌≤◌, List, length, true, refl, sym, ap, ◌∙◌, subst, arith}
use Rattle.std.specs.Prelude.{◌&&◌, nat_lt, slice_index_or, slice_set, if◌then◌else◌}
use Rattle.std.proofs.lemmas.Bool.Decides.{nat_tests}
use Rattle.std.proofs.lemmas.List.{length-set}
use Rattle.theorems.proofs.Tests.{both}
use Rattle.packets.specs.declared.packet.Body as bodies
use Rattle.packets.specs.declared.packet.Body.TheVariants as packets
use Rattle.packets.specs.declared.packet.NodePacket.{NodePacket}
use Rattle.packets.specs.Packet.{in_range}
use Rattle.node.proofs.Lists.{all-pushed}
use Rattle.gateway.proofs.Steps.{by-if}
use Rattle.recovery.specs.Own.{TheOwn, posts, packet_of, is_for}
use Rattle.recovery.proofs.Posts.{for-own}
use Rattle.recovery.specs.Overlap.{loss_of, tells_loss, heard_of, meets, asked_by, heard, handed}
use Rattle.node_laws.proofs.Sound.{Says, IsSound, AreSound, set-at}

-- it keeps its number, its life, and how many there are; it stays exact; and what waits to be sent is sound where it was
pub record Keeps (lives : ℕ → ℕ) (back : ℕ → Type 0) (old new : TheOwn) : Type 0 where
  pub me : new.me ≡ old.me
  pub count : new.count ≡ old.count
  pub life : new.life ≡ old.life
  pub exact : old.exact ≡ true → new.exact ≡ true
  pub out : AreSound lives back old.out → AreSound lives back new.out

-- it is of so many, in its life of now, and what is said to it is told to one that comes back, and to nobody else that does
pub record IsAlone (lives : ℕ → ℕ) (back : ℕ → Type 0) (top : ℕ) (o : TheOwn) : Type 0 where
  pub count : o.count ≡ top
  pub life : o.life ≡ lives o.me
  pub here : back o.me
  pub only : (q : ℕ) → back q → q ≡ o.me

-- it heard of the life of now of each other
pub record HasHeard (lives : ℕ → ℕ) (top : ℕ) (o : TheOwn) : Type 0 where
  pub wide : top < length o.heard
  pub all : (q : ℕ) → q ≤ top → q ≢ o.me → lives q ≤ heard_of q o

-- it hears of the life of now of one
pub hears-now : (lives : ℕ → ℕ) (top : ℕ) (o new : TheOwn) (q j : ℕ) → j ≡ lives q → q ≤ top → new.me ≡ o.me → new.heard ≡ slice_set o.heard q j → HasHeard lives top o → HasHeard lives top new
hears-now lives top o new q j now low me same h =
    record {
      wide = (let e : length new.heard ≡ length o.heard = ap length same ∙ length-set o.heard q j in let w = h.wide in omega (arith, e, w));
      all = λ r inside other. subst (λ (xs : List ℕ). lives r ≤ slice_index_or xs r 0) (sym same)
          (set-at (λ z. lives r ≤ z) o.heard q j r 0 (let w = h.wide in omega (arith, w, inside)) (λ e. let at : lives r ≡ lives q = ap lives e in omega (arith, at, now)) (λ o. h.all r inside (λ e. other (e ∙ sym me))));
    }

module _ (lives : ℕ → ℕ) (back : ℕ → Type 0) where
  abbrev On : TheOwn → TheOwn → Type 0
  On = Keeps lives back

  pub stays : (o : TheOwn) → On o o
  stays o = record { me = refl; count = refl; life = refl; exact = λ e. e; out = λ x. x }

  pub onward : (a b c : TheOwn) → On a b → On b c → On a c
  onward a b c f g = record { me = g.me ∙ f.me; count = g.count ∙ f.count; life = g.life ∙ f.life; exact = λ e. g.exact (f.exact e); out = λ o. g.out (f.out o) }

  pub alone-still : (top : ℕ) (a b : TheOwn) → On a b → IsAlone lives back top a → IsAlone lives back top b
  alone-still top a b f h =
      record {
        count = f.count ∙ h.count;
        life = f.life ∙ h.life ∙ ap lives (sym f.me);
        here = subst back (sym f.me) h.here;
        only = λ q w. h.only q w ∙ sym f.me;
      }

  -- one packet more
  pub posting : (to : ℕ) (x : bodies.Body) (o : TheOwn) → Says lives back o.me to x → On o (posts to x o)
  posting to x o h = record { me = refl; count = refl; life = refl; exact = λ e. e; out = λ s. all-pushed (IsSound lives back) o.out (packet_of o to x) s h }

  -- it tells another, which is up, that all is lost
  pub losing : (top q i k : ℕ) (o : TheOwn) → IsAlone lives back top o → q ≢ o.me → i ≤ lives q → On o (tells_loss q i k o)
  losing top q i k o h other low = posting q (loss_of i k o) o (low, λ w e. absurd (other (h.only q w)))

  -- ---- one that has recovered

  -- an Ask comes, of no newer life than that it heard of
  pub asking : (top q i k : ℕ) (o : TheOwn) → IsAlone lives back top o → HasHeard lives top o → q ≤ top → q ≢ o.me → i ≤ lives q → On o (asked_by q i k o) × HasHeard lives top (asked_by q i k o)
  asking top q i k o h known low other least =
      by-if Q (nat_lt i (heard_of q o)) o (tells_loss q i k (if nat_lt (heard_of q o) i then meets q i o else o)) (λ e. (stays o, known))
      (λ e. by-if (λ m. Q (tells_loss q i k m)) (nat_lt (heard_of q o) i) (meets q i o) o (λ f. absurd (let newer : heard_of q o < i = grind (arith, nat_tests) in let l : lives q ≤ heard_of q o = known.all q low other in omega (arith, newer, l, least)))
      (λ f. (losing top q i k o h other least, record { wide = known.wide; all = known.all })))
    where
      Q : TheOwn → Type 0
      Q m = On o m × HasHeard lives top m

  -- a packet comes
  pub hands : (top : ℕ) (x : NodePacket) (o : TheOwn) → IsAlone lives back top o → HasHeard lives top o → IsSound lives back x → On o (handed x o) × HasHeard lives top (handed x o)
  hands top x o h known sound =
      by-if Q (is_for o x && in_range x.body) (heard x.from x.body o) o
      (λ e. let t = both (is_for o x) (in_range x.body) e in
      let p = for-own o x t.0 in
      says x.from x.to x.body (let l = p.1.0 in let c = h.count in omega (arith, l, c)) p.1.1 sound)
      (λ e. (stays o, known))
    where
      Q : TheOwn → Type 0
      Q m = On o m × HasHeard lives top m

      says : (from to : ℕ) (b : bodies.Body) → from ≤ top → from ≢ o.me → Says lives back from to b → Q (heard from b o)
      says from to (packets.Ask i k) low other s = asking top from i k o h known low other s
      says from to x low other s = (stays o, known)
