use Rattle.std.proofs.Common.{◌≡◌, ◌*◌, ◌+◌, ℕ, zero, suc, List, [], ◌∷◌, Some, refl, subst, lit<, lit≤}
use Rattle.std.specs.Prelude.{slice_get, slice_range}
use Rattle.helpers.specs.declared.effects.Sent.{Sent}
use Rattle.operations.specs.Bytes.{le_bytes}
use Rattle.native.specs.Correct.{IsAt}
use Rattle.native.specs.Worked.{effects, told}
use Rattle.native.proofs.rows.records_are_laid_out.Goals as goal

sent : (k : ℕ) (s : Sent) → slice_get effects.sends k ≡ Some s → (slice_range told (64 + 272 * k) (64 + 272 * k + 8) ≡ le_bytes 8 s.dst) × IsAt told (64 + 272 * k) s.payload
sent zero s h =
    let e : record { dst = 2; payload = 7 ∷ 8 ∷ [] } ≡ s = cc in
    let P : Sent → Type 0 = λ s. (slice_range told 64 72 ≡ le_bytes 8 s.dst) × IsAt told 64 s.payload in
    subst P e (refl, record { fits = lit≤ tt; size = refl; is = refl })
sent (suc zero) s h =
    let e : record { dst = 3; payload = [] } ≡ s = cc in
    let P : Sent → Type 0 = λ s. (slice_range told 336 344 ≡ le_bytes 8 s.dst) × IsAt told 336 s.payload in
    subst P e (refl, record { fits = lit≤ tt; size = refl; is = refl })
sent (suc (suc k)) s h = cc

shown : (k : ℕ) (payload : List ℕ) → slice_get effects.outputs k ≡ Some payload → IsAt told (2240 + 272 * k) payload
shown zero p h =
    let e : 9 ∷ [] ≡ p = cc in
    subst (IsAt told 2240) e (record { fits = lit≤ tt; size = refl; is = refl })
shown (suc k) p h = cc

pub returns : goal.returns
returns c = record {
  whole = refl;
  me_fits = lit< tt;
  from_fits = lit< tt;
  me = refl;
  from = refl;
  count = refl;
  few_sends = lit≤ tt;
  few_outputs = lit≤ tt;
  sent = refl;
  output = refl;
  sends = sent;
  outputs = shown;
}
