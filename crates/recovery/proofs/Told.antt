-- What a peer told, with a page more
use Rattle.std.proofs.Common.{◌≡◌, ℕ, ◌<◌, ◌≤◌, List, ◌++◌, Bool, true, false, refl, sym, ◌∙◌, arith}
use Rattle.std.specs.Prelude.{Option, Some, None, nat_le, if◌then◌else◌}
use Rattle.std.proofs.lemmas.Bool.Decides.{nat_tests}
use Rattle.world.specs.declared.message.Message.{Message}
use Rattle.cluster.specs.Parcels.{reaches}
use Rattle.cluster.specs.Cluster.{Collected}
use Rattle.cluster.specs.Rules.{Asks, entry_in, with_page as with_told}
use Rattle.packets.specs.Packet.{is_done}
use Rattle.packets.specs.declared.page.LoggedMessage.{LoggedMessage}
use Rattle.packets.specs.declared.page.Flags.{Flags}
use Rattle.node.specs.Stands.{Each}
use Rattle.packets.specs.Says.{told_end, first_told}
use Rattle.recovery.specs.Collected.{TheCollected, last_number, with_page, none_told}
use Rattle.recovery.specs.Stands.{reached, IsTold}
use Rattle.recovery.proofs.Pages.{IsPage, first-above, first-below, low-page}

-- nothing was told
pub told-none : (q base : ℕ) → IsTold q base (none_told base) None
told-none q base = record { asks = λ e. refl; all = λ e. absurd (cc); low = λ e. tt; entries = λ m l r. refl }

-- up to where it told, nothing is told above the cursor
reached-cursor : (base k m : ℕ) (t : Option Collected) → Asks base t k → m ≤ k → reached t m ≡ true
reached-cursor base k m None a l = refl
reached-cursor base k m (Some t) a l = rw a (let e : nat_le m k ≡ true = grind (arith, nat_tests) in e)

module _ (q base k : ℕ) (x : TheCollected) (t : Option Collected) (flags : Flags) (page : List LoggedMessage) (f : ℕ → Option Message) (old : IsTold q base x t) (open_is : x.done ≡ false) (cursor : k ≡ x.cursor) (fits : IsPage k page)
    (says : (m : ℕ) → k < m → reaches (told_end flags k page) m ≡ true → f m ≡ first_told q page m) where
  abbrev new : TheCollected
  new = with_page (is_done flags) page x

  abbrev told : Collected
  told = with_told t k (told_end flags k page) f

  asked : Asks base t k
  asked = rw cursor (old.asks open_is)

  low-at : Each (λ (e : LoggedMessage). e.number ≤ k) x.entries
  low-at = rw cursor (old.low open_is)

  asks-next : (b : Bool) → is_done flags ≡ b → b ≡ false → told_end flags k page ≡ Some new.cursor
  asks-next true e g = absurd (cc)
  asks-next false e g = rw (e, sym cursor) refl

  all-told : is_done flags ≡ true → told_end flags k page ≡ None
  all-told e = rw e refl

  low-next : (b : Bool) → is_done flags ≡ b → b ≡ false → Each (λ (e : LoggedMessage). e.number ≤ new.cursor) (x.entries ++ page)
  low-next true e g = absurd (cc)
  low-next false e g =
      let at : new.cursor ≡ last_number k page = rw (e, sym cursor) refl in
      rw at (low-page k x.entries page low-at fits)

  entries-next : (m : ℕ) → base < m → reaches (told_end flags k page) m ≡ true → (b : Bool) → nat_le m k ≡ b → (if b then entry_in t m else f m) ≡ first_told q (x.entries ++ page) m
  entries-next m l r true e =
      let under : m ≤ k = grind (arith, nat_tests) in
      old.entries m l (reached-cursor base k m t asked under) ∙ sym (first-below q k m x.entries page fits.above under)
  entries-next m l r false e =
      let over : k < m = grind (arith, nat_tests) in
      says m over r ∙ sym (first-above q k m x.entries page low-at over)

  told-more : IsTold q base new (Some told)
  told-more = record {
    asks = λ e. asks-next (is_done flags) refl e;
    all = λ e. all-told e;
    low = λ e. low-next (is_done flags) refl e;
    entries = λ m l r. entries-next m l r (nat_le m k) refl;
  }

pub told-page : (q base k : ℕ) (x : TheCollected) (t : Option Collected) (flags : Flags) (page : List LoggedMessage) (f : ℕ → Option Message) → IsTold q base x t → x.done ≡ false → k ≡ x.cursor → IsPage k page
    → ((m : ℕ) → k < m → reaches (told_end flags k page) m ≡ true → f m ≡ first_told q page m) → IsTold q base (with_page (is_done flags) page x) (Some (with_told t k (told_end flags k page) f))
told-page q base k x t flags page f old open_is cursor fits says = told-more q base k x t flags page f old open_is cursor fits says
