-- What the fields keep when a packet goes or changes, and one more call is counted
use Rattle.std.proofs.Common.{◌≡◌, ℕ, ◌+◌, ◌<◌, ◌≤◌, List, length, Bool, true, false, refl, sym, ap, ◌∙◌, subst, arith}
use Rattle.std.specs.Prelude.{slice_index_or, Option, Some, None, ◌==◌}
use Rattle.std.proofs.lemmas.Bool.Decides.{nat_tests}
use Rattle.limits.specs.declared.TheConstants.{ENTRIES, PACKETS}
use Rattle.world.specs.declared.packet.Packet.{Packet}
use Rattle.session_process.specs.Process.{TheProcess}
use Rattle.session_process.specs.Wire.{Puts}
use Rattle.machine.specs.Fields.{IsCarried, AreCarried, IsSoundAt, IsSound}
use Rattle.machine.specs.declared.machine.Machine.TheInside.{Inside}

-- a packet, if there is one, is one that n processes may have on the wire
abbrev pub IsSomeCarried : ℕ → Option Packet → Type 0
IsSomeCarried n None = Unit {0}
IsSomeCarried n (Some x) = IsCarried n x

-- a sound process stays sound when one more call is counted
pub later : (n me len calls : ℕ) (x : TheProcess) → IsSoundAt n me len calls x → IsSoundAt n me len (calls + 1) x
later n me len calls x s =
    record {
      short = s.short;
      state = s.state;
      log = s.log;
      senders = s.senders;
      whole = s.whole;
      planned = s.planned;
      begun_by = omega (arith, s.begun_by);
      incarnation = omega (arith, s.incarnation);
      own = s.own;
      count = s.count;
      saved_state = s.saved_state;
      saved_by = omega (arith, s.saved_by);
    }

module _ (old new : List (Option Packet)) (key : ℕ) (was is : Option Packet) (puts : Puts old new key was is) where
  -- where one such packet is put, or none, all on the wire are such
  pub carried-put : (n : ℕ) → IsSomeCarried n is → AreCarried old n → AreCarried new n
  carried-put n fits all j x e = by_key (j == key) refl
    where
      by_key : (b : Bool) → (j == key) ≡ b → IsCarried n x
      by_key true at =
          let same : j ≡ key = grind (arith, nat_tests) in
          let here : is ≡ Some x = sym puts.now ∙ ap (λ q. slice_index_or new q None) (sym same) ∙ e in
          subst (IsSomeCarried n) here fits
      by_key false at = all j x (sym (puts.others j (grind (arith, nat_tests))) ∙ e)

  -- and no key above is used
  pub keys-put : key < PACKETS → ((j : ℕ) → PACKETS ≤ j → slice_index_or old j None ≡ None) → (j : ℕ) → PACKETS ≤ j → slice_index_or new j None ≡ None
  keys-put low all j h = puts.others j (omega arith) ∙ all j h

-- a packet that goes leaves no key above
pub keys-gone : (old new : List (Option Packet)) (key : ℕ) (was : Option Packet) → Puts old new key was None → ((j : ℕ) → PACKETS ≤ j → slice_index_or old j None ≡ None) → (j : ℕ) → PACKETS ≤ j → slice_index_or new j None ≡ None
keys-gone old new key was puts all j h = by_key (j == key) refl
  where
    by_key : (b : Bool) → (j == key) ≡ b → slice_index_or new j None ≡ None
    by_key true at = let same : j ≡ key = grind (arith, nat_tests) in ap (λ q. slice_index_or new q None) same ∙ puts.now
    by_key false at = puts.others j (grind (arith, nat_tests)) ∙ all j h

-- one more call is counted, with this wire
pub sound-call : (m : Inside) (slots : List (Option Packet)) → IsSound m → m.calls < ENTRIES + 1 → AreCarried slots (length m.processes.items) → ((j : ℕ) → PACKETS ≤ j → slice_index_or slots j None ≡ None) → IsSound (record m { wire = slots; calls = m.calls + 1 })
sound-call m slots i calls carried keys =
    record {
      some = i.some;
      few = i.few;
      lengths = i.lengths;
      processes = λ p d e h. later (length m.processes.items) _ _ m.calls _ (i.processes p d e h);
      outside = i.outside;
      calls = omega (arith, calls);
      started = omega (arith, i.started);
      inputs = λ d. omega (arith, i.inputs d);
      shown = omega (arith, i.shown);
      wire = carried;
      keys = keys;
    }

-- one key of the wire changes, and one more call is counted
pub sound-wire : (m : Inside) (slots : List (Option Packet)) (key : ℕ) (was is : Option Packet) → IsSound m → m.calls < ENTRIES + 1 → Puts m.wire slots key was is → IsSomeCarried (length m.processes.items) is
    → ((j : ℕ) → PACKETS ≤ j → slice_index_or slots j None ≡ None) → IsSound (record m { wire = slots; calls = m.calls + 1 })
sound-wire m slots key was is i calls puts fits keys = sound-call m slots i calls (carried-put m.wire slots key was is puts (length m.processes.items) fits i.wire) keys
