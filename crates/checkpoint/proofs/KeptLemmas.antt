-- So many fields, and what is kept for a destination: what is read is written so, and what is written so is read
use Rattle.std.proofs.Common.{◌≡◌, ℕ, zero, suc, ◌-◌, ◌^◌, List, [], ◌∷◌, ◌++◌, length, Ok, refl, sym, ap, subst, ◌∙◌, append_assoc, arith}
use Rattle.std.specs.Int.{w32, to_le_bytes}
use Rattle.std.specs.List.{flat_map, AllByRecursion}
use Rattle.checkpoint.specs.declared.form.CheckpointForm.{CheckpointForm}
use Rattle.checkpoint.specs.Saved.{TheKept, PayloadFits, KeptFits}
use Rattle.checkpoint.specs.Format.{payload_bytes, kept_bytes}
use Rattle.checkpoint.specs.Reader.{◌>>=◌, number_at, payload_at, times, kept_at}
use Rattle.checkpoint.proofs.Counted.{Field}
use Rattle.checkpoint.proofs.FieldLemmas.{IsBytes, bind_ok, ok_is, Takes, Takes-then, wide32, number_takes, number_again, payload_takes, payload_again}

-- ---- several fields

-- if each field that is read was spelled by `spell`, so were all of them
pub times_takes : {A : Type 0} (field : Field A) (spell : A → List ℕ) (P : A → Type 0) (step : (bytes : List ℕ) (x : A × List ℕ) → IsBytes bytes → field bytes ≡ Ok x → Takes bytes (spell x.0) x.1 × P x.0)
    (n : ℕ) (bytes : List ℕ) (x : List A × List ℕ) → IsBytes bytes → times field n bytes ≡ Ok x → Takes bytes (flat_map spell x.0) x.1 × (length x.0 ≡ n) × AllByRecursion P x.0
unfolding times
times_takes {A} field spell P step zero bytes x fits e =
    let here : Takes bytes [] bytes = record { parts = refl; rest_fits = fits } in
    subst (λ (y : List A × List ℕ). Takes bytes (flat_map spell y.0) y.1 × (length y.0 ≡ 0) × AllByRecursion P y.0) (ok_is ([], bytes) x e) (here, refl, tt)
times_takes {A} field spell P step (suc n) bytes x fits e =
    let a = bind_ok (field bytes) (λ first. times field n first.1 >>= λ others. Ok (first.0 ∷ others.0, others.1)) x e in
    let t = step bytes a.0 fits a.1 in
    let b = bind_ok (times field n a.0.1) (λ others. Ok (a.0.0 ∷ others.0, others.1)) x a.2 in
    let u = times_takes field spell P step n a.0.1 b.0 t.0.rest_fits b.1 in
    subst (λ (y : List A × List ℕ). Takes bytes (flat_map spell y.0) y.1 × (length y.0 ≡ suc n) × AllByRecursion P y.0) (ok_is (a.0.0 ∷ b.0.0, b.0.1) x b.2)
    (Takes-then bytes (spell a.0.0) a.0.1 (flat_map spell b.0.0) b.0.1 t.0 u.0, ap suc u.1, (t.1, u.2))

-- and if each field that `spell` spells is read, all are
pub times_again : {A : Type 0} (field : Field A) (spell : A → List ℕ) (P : A → Type 0) (step : (a : A) (rest : List ℕ) → P a → field (spell a ++ rest) ≡ Ok (a, rest))
    (xs : List A) (rest : List ℕ) → AllByRecursion P xs → times field (length xs) (flat_map spell xs ++ rest) ≡ Ok (xs, rest)
unfolding times
times_again field spell P step [] rest all = refl
times_again field spell P step (x ∷ xs) rest all =
    ap (λ bytes. field bytes >>= λ first. times field (length xs) first.1 >>= λ others. Ok (first.0 ∷ others.0, others.1)) (append_assoc (spell x) (flat_map spell xs) rest)
    ∙ rw (step x (flat_map spell xs ++ rest) all.0, times_again field spell P step xs rest all.1) refl

-- ---- what is kept

-- what is read for a destination was spelled so, and fits
pub kept_takes : (form : CheckpointForm) (bytes : List ℕ) (x : TheKept × List ℕ) → IsBytes bytes → kept_at form bytes ≡ Ok x → Takes bytes (kept_bytes form x.0) x.1 × KeptFits form x.0
unfolding kept_at
kept_takes form bytes x fits e =
    let a = bind_ok (number_at w32 1 524289 bytes) (λ first. number_at w32 0 (524289 - first.0) first.1 >>= λ count. times (payload_at form) count.0 count.1 >>= λ payloads. Ok (record { first = first.0; payloads = payloads.0 }, payloads.1)) x e in
    let b = bind_ok (number_at w32 0 (524289 - a.0.0) a.0.1) (λ count. times (payload_at form) count.0 count.1 >>= λ payloads. Ok (record { first = a.0.0; payloads = payloads.0 }, payloads.1)) x a.2 in
    let c = bind_ok (times (payload_at form) b.0.0 b.0.1) (λ payloads. Ok (record { first = a.0.0; payloads = payloads.0 }, payloads.1)) x b.2 in
    let t0 = number_takes w32 (2 ^ 32) wide32 1 524289 bytes a.0 fits a.1 in
    let t1 = number_takes w32 (2 ^ 32) wide32 0 (524289 - a.0.0) a.0.1 b.0 t0.0.rest_fits b.1 in
    let t2 = times_takes (payload_at form) (payload_bytes form) (PayloadFits form) (payload_takes form) b.0.0 b.0.1 c.0 t1.0.rest_fits c.1 in
    let kept : TheKept = record { first = a.0.0; payloads = c.0.0 } in
    let back = Takes-then a.0.1 (to_le_bytes w32 b.0.0) b.0.1 (flat_map (payload_bytes form) c.0.0) c.0.1 t1.0 t2.0 in
    let counted : Takes a.0.1 (to_le_bytes w32 (length c.0.0) ++ flat_map (payload_bytes form) c.0.0) c.0.1 = subst (λ (n : ℕ). Takes a.0.1 (to_le_bytes w32 n ++ flat_map (payload_bytes form) c.0.0) c.0.1) (sym t2.1) back in
    let whole : Takes bytes (kept_bytes form kept) c.0.1 = Takes-then bytes (to_le_bytes w32 a.0.0) a.0.1 _ c.0.1 t0.0 counted in
    let ranges : KeptFits form kept = record { least = t0.1; bound = omega (arith, t0.2, t1.2, t2.1); payloads = t2.2 } in
    subst (λ (y : TheKept × List ℕ). Takes bytes (kept_bytes form y.0) y.1 × KeptFits form y.0) (ok_is (kept, c.0.1) x c.2) (whole, ranges)

-- and what fits, spelled so, is read
pub kept_again : (form : CheckpointForm) (kept : TheKept) (rest : List ℕ) → KeptFits form kept → kept_at form (kept_bytes form kept ++ rest) ≡ Ok (kept, rest)
unfolding kept_at
kept_again form kept rest fits =
    let n = length kept.payloads in
    let tail = flat_map (payload_bytes form) kept.payloads in
    let regrouped : kept_bytes form kept ++ rest ≡ to_le_bytes w32 kept.first ++ (to_le_bytes w32 n ++ (tail ++ rest)) =
    append_assoc (to_le_bytes w32 kept.first) (to_le_bytes w32 n ++ tail) rest ∙ ap (λ (t : List ℕ). to_le_bytes w32 kept.first ++ t) (append_assoc (to_le_bytes w32 n) tail rest) in
    let one = number_again w32 (2 ^ 32) wide32 1 524289 kept.first (to_le_bytes w32 n ++ (tail ++ rest)) fits.least (omega (arith, fits.bound)) (omega (arith, fits.bound)) in
    let two = number_again w32 (2 ^ 32) wide32 0 (524289 - kept.first) n (tail ++ rest) (omega arith) (omega (arith, fits.bound)) (omega (arith, fits.bound)) in
    let three = times_again (payload_at form) (payload_bytes form) (PayloadFits form) (payload_again form) kept.payloads rest fits.payloads in
    ap (kept_at form) regrouped ∙ rw (one, two, three) refl
