-- What the log of the machine has is what that of the world has
use Rattle.std.proofs.Common.{◌≡◌, ◌≢◌, ℕ, ◌≤◌, ◌∙◌, Bool, true, false, length, refl, sym, arith}
use Rattle.std.specs.Prelude.{Some, None}
use Rattle.std.proofs.lemmas.Bool.Decides.{nat_tests}
use Rattle.sender_log.specs.Queue.{is_logged, payload_of}
use Rattle.sender_log.specs.Log.{TheLog, queue_of}
use Rattle.world.specs.History.{nth}
use Rattle.world.specs.Phases.{is_down}
use Rattle.world.specs.World.{World}
use Rattle.world.specs.Logs.{sent, is_entry}
use Rattle.machine.specs.Simulation.{TheMachine, Stands, log_at}
use Rattle.machine.specs.Readings.{LogStands}
use Rattle.machine.proofs.Status.{entry_at, payload_at}
use Rattle.sessions.specs.Logged.{are_two, logged}

-- of two that aren't the same
module _ (m : TheMachine) (w : World) (s : Stands m w) (from to : ℕ) (within : from ≤ length m.processes) (there : to ≤ length m.processes) (apart : from ≢ to) (l : TheLog) (is : l ≡ log_at m from) (stands : LogStands w from l) where
  two : are_two w from to ≡ true
  two = let count = s.shows.count in grind (arith, nat_tests)

  -- the log of a process that is down is empty
  down : (ssn : ℕ) → is_down (w.phase from) ≡ true → is_logged ssn (queue_of to l) ≡ false
  down ssn e =
      let known : to ≤ w.count = rw s.shows.count there in
      rw ((stands to known apart).none e) (grind (arith, nat_tests))

  entry-is : (ssn : ℕ) (b : Bool) → is_down (w.phase from) ≡ b → is_entry w from to ssn ≡ is_logged ssn (queue_of to l)
  entry-is ssn true e = rw e (sym (down ssn e))
  entry-is ssn false e = rw is (entry_at m w s from to within there apart e ssn)

  payload-is : (ssn : ℕ) (b : Bool) → is_down (w.phase from) ≡ b → is_logged ssn (queue_of to l) ≡ true → nth (sent w from to) ssn ≡ Some (payload_of ssn (queue_of to l))
  payload-is ssn true e kept = let gone = down ssn e in absurd (cc)
  payload-is ssn false e kept = rw is (payload_at m w s from to within there apart e ssn (rw is at kept))

  pub logged-missing : (ssn : ℕ) → is_logged ssn (queue_of to l) ≡ false → logged w from to ssn ≡ None
  logged-missing ssn gone = let entry = entry-is ssn (is_down (w.phase from)) refl ∙ gone in rw (two, entry) refl

  pub logged-there : (ssn : ℕ) → is_logged ssn (queue_of to l) ≡ true → logged w from to ssn ≡ Some (payload_of ssn (queue_of to l))
  logged-there ssn kept = let entry = entry-is ssn (is_down (w.phase from)) refl ∙ kept in rw (two, entry) (payload-is ssn (is_down (w.phase from)) refl kept)
