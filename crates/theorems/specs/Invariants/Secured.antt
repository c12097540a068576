-- Which messages outlive a crash, and what follows from that
use Rattle.std.specs.Prelude.{◌≡◌, ℕ, ◌<◌, ◌≤◌, length, Some, true, false, take}
use Rattle.world.specs.declared.message.Message.{Message}
use Rattle.world.specs.History.{nth}
use Rattle.world.specs.Phases.{is_down}
use Rattle.world.specs.World.{World}
use Rattle.world.specs.Logs.{payloads}
use Rattle.theorems.specs.Kept.{Held}

-- the first k messages of p outlive a crash: all are acknowledged or, if p is down, checkpoint and logs hold them
abbrev pub Secured : World → ℕ → ℕ → Type 0
Secured w p k =
    record {
      within : k ≤ length (w.history p);
      held : is_down (w.phase p) ≡ true → (m : ℕ) → w.saved p < m → m ≤ k → Held w p m;
      acknowledged : is_down (w.phase p) ≡ false → (m : ℕ) → 0 < m → m ≤ k → w.acknowledged p m ≡ true;
    }

-- messages of its sender that outlive a crash send this message to d
abbrev pub Safe : World → ℕ → Message → Type 0
Safe w d m =
    record {
      upto : ℕ;
      secured : Secured w m.sender upto;
      sends : nth (payloads w m.sender (take upto (w.history m.sender)) d) m.ssn ≡ Some m.payload;
    }

-- messages of p that outlive a crash send at least n messages to d
abbrev pub Covers : World → ℕ → ℕ → ℕ → Type 0
Covers w p d n =
    record {
      upto : ℕ;
      secured : Secured w p upto;
      within : n ≤ length (payloads w p (take upto (w.history p)) d);
    }
