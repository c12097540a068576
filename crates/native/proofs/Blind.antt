-- Words as the code has them: no register holds r10.
use Rattle.std.proofs.Common.{◌≡◌, ℕ, ◌<◌, List, length, refl, ◌∙◌, arith}
use Rattle.std.specs.Prelude.{slice_index, slice_set}
use Rattle.std.proofs.lemmas.List.{get_or-set_other, set_comm, length-set}
use Rattle.helpers.specs.Effects.{Emitted}
use Rattle.dense.specs.declared.execution.Next.{Next}
use Rattle.dense.specs.Acts.{Act, Puts, Writes, Leaps, Answers, Ends, Nothing, Does}

-- the words with 0 for r10
abbrev pub blind : List ℕ → List ℕ
blind ws = slice_set ws 10 0

-- the others are as they were
pub blind_is : (ws : List ℕ) (r : ℕ) → r < 10 → slice_index (blind ws) r ≡ slice_index ws r
blind_is ws r h = get_or-set_other ws 10 r 0 0 (omega (arith, h))

pub blind_set : (ws : List ℕ) (d w : ℕ) → d < 10 → slice_set (blind ws) d w ≡ blind (slice_set ws d w)
blind_set ws d w h = set_comm ws 10 d 0 w (omega (arith, h))

-- an act that leaves r10
abbrev pub SparesTen : Act → Type 0
SparesTen (Puts r w n) = r.number < 10
SparesTen (Writes at bs) = Unit {0}
SparesTen (Leaps t) = Unit {0}
SparesTen (Answers r0 f) = Unit {0}
SparesTen Ends = Unit {0}
SparesTen Nothing = ⊥

-- what it does to words without r10 it does to all of them
pub does_blind : (a : Act) (slot : ℕ) (ws mem : List ℕ) (e : Emitted) (to : Next) (bs' mem' : List ℕ) (e' : Emitted) → SparesTen a → length ws ≡ 11 → Does slot (blind ws) mem e a to bs' mem' e' → (ws' : List ℕ) × (bs' ≡ blind ws') × (length ws' ≡ 11) × Does slot ws mem e a to ws' mem' e'
does_blind (Puts r w n) slot ws mem e to bs' mem' e' s l d =
    (slice_set ws r.number w, d.1 ∙ blind_set ws r.number w s, length-set ws r.number w ∙ l, (d.0, refl, d.2, d.3))
does_blind (Writes at bs) slot ws mem e to bs' mem' e' s l d = (ws, d.1, l, (d.0, refl, d.2, d.3))
does_blind (Leaps t) slot ws mem e to bs' mem' e' s l d = (ws, d.1, l, (d.0, refl, d.2, d.3))
does_blind (Answers r0 f) slot ws mem e to bs' mem' e' s l d =
    (slice_set ws 0 r0, d.1 ∙ blind_set ws 0 r0 (omega arith), length-set ws 0 r0 ∙ l, (d.0, refl, d.2, d.3))
does_blind Ends slot ws mem e to bs' mem' e' s l d = (ws, d.1, l, (d.0, refl, d.2, d.3))
does_blind Nothing slot ws mem e to bs' mem' e' s l d = (ws, absurd s, l, tt)
