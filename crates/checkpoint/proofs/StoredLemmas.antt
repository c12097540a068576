-- A checkpoint that is kept
use Rattle.std.proofs.Common.{◌≡◌, ℕ, List, ◌++◌, length, take, drop, refl, sym, ap, subst, ◌∙◌}
use Rattle.std.specs.List.{flat_map, remove}
use Rattle.std.proofs.lemmas.List.{take_at}
use Rattle.checkpoint.specs.declared.form.CheckpointForm.TheVariants.{Second}
use Rattle.checkpoint.specs.Saved.{TheSaved}
use Rattle.checkpoint.specs.Format.{kept_bytes, IsCheckpoint, bytes_of}
use Rattle.checkpoint.specs.Inside.Stored.{read_of, saved_in, IsStored}
use Rattle.checkpoint.proofs.FileLemmas.{reading_again}

-- the process that the bytes are a checkpoint of is read from them
pub saved_again : (s : TheSaved) (bytes : List ℕ) → IsCheckpoint Second s bytes → saved_in bytes ≡ s
unfolding saved_in
saved_again s bytes is = ap read_of (reading_again Second s bytes is)

-- bytes of a checkpoint with a state of this length, and this many messages, are those of a stored one
pub is_stored : (s : TheSaved) (bytes : List ℕ) (state received : ℕ) → IsCheckpoint Second s bytes → length s.state ≡ state → length s.senders ≡ received → IsStored bytes state received
is_stored s bytes state received is state_is received_is =
    let e = saved_again s bytes is in
    record {
      is = subst (λ t. IsCheckpoint Second t bytes) (sym e) is;
      state_is = ap (λ (t : TheSaved). length t.state) e ∙ state_is;
      received_is = ap (λ (t : TheSaved). length t.senders) e ∙ received_is;
    }

-- the state comes after the first twelve bytes
behind_numbers : (s : TheSaved) → drop 12 (bytes_of Second s) ≡ s.state ++ (s.senders ++ flat_map (kept_bytes Second) (remove s.queues s.me))
behind_numbers s = refl

-- the state of a checkpoint comes after its first twelve bytes
pub state_at : (s : TheSaved) (bytes : List ℕ) (n : ℕ) → IsCheckpoint Second s bytes → length s.state ≡ n → take n (drop 12 bytes) ≡ s.state
state_at s bytes n is len =
    ap (λ b. take n (drop 12 b)) is.bytes_are ∙ ap (take n) (behind_numbers s) ∙ take_at s.state (s.senders ++ flat_map (kept_bytes Second) (remove s.queues s.me)) n len
