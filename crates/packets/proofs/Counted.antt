-- Reading fields one after the other, as a loop does
use Rattle.std.proofs.Common.{◌≡◌, ℕ, suc, ◌-◌, ◌+◌, ◌≤◌, ◌<◌, List, [], ◌∷◌, ◌++◌, Result, Ok, Err, refl, sym, ap, ◌∙◌, append_assoc, arith}
use Rattle.std.proofs.lemmas.List.{append-nil}
use Rattle.packets.specs.declared.fault.PacketFault.{PacketFault}
use Rattle.packets.specs.declared.fault.PacketError.{PacketError}
use Rattle.packets.specs.declared.fault.PacketError.TheVariants as errors
use Rattle.packets.specs.Inside.Reader.{◌>>=◌, Fails, times}

abbrev pub Field : Type 0 → Type 0
Field A = List ℕ → Result (A × List ℕ) PacketFault

-- what was read before, and what is still read
abbrev pub with_front : {A : Type 0} → List A → Result (List A × List ℕ) PacketFault → Result (List A × List ℕ) PacketFault
with_front front read = read >>= λ x. Ok (front ++ x.0, x.1)

regroup : {A : Type 0} (front : List A) (n : A) (read : Result (List A × List ℕ) PacketFault) → with_front front (read >>= λ x. Ok (n ∷ x.0, x.1)) ≡ with_front (front ++ n ∷ []) read
regroup {A} front n (Ok x) = ap (λ (ns : List A). Ok (ns, x.1)) (simp append_assoc)
regroup front n (Err f) = refl

-- the loop has read one thing more
pub goes_on : {A : Type 0} (field : Field A) (front : List A) (count i : ℕ) (bytes : List ℕ) (n : A) (after : List ℕ) (total : Result (List A × List ℕ) PacketFault) → i < count → field bytes ≡ Ok (n, after)
    → with_front front (times field (count - i) bytes) ≡ total → with_front (front ++ n ∷ []) (times field (count - (i + 1)) after) ≡ total
unfolding times
goes_on field front count i bytes n after total lt h so_far =
    let k : count - i ≡ suc (count - (i + 1)) = omega arith in
    let one : with_front front (times field (count - i) bytes) ≡ with_front (front ++ n ∷ []) (times field (count - (i + 1)) after) = rw (k, h) (regroup front n (times field (count - (i + 1)) after)) in
    sym one ∙ so_far

-- it fails where a thing can't be read
pub ends : {A : Type 0} (e : PacketError) (field : Field A) (front : List A) (count i : ℕ) (bytes : List ℕ) (total : Result (List A × List ℕ) PacketFault) → i < count → Fails e (field bytes)
    → with_front front (times field (count - i) bytes) ≡ total → Fails e total
unfolding times
ends errors.Memory field front count i bytes total lt h so_far = tt
ends (errors.Fault f) field front count i bytes total lt h so_far =
    let k : count - i ≡ suc (count - (i + 1)) = omega arith in
    let one : with_front front (times field (count - i) bytes) ≡ Err f = rw (k, h) refl in
    sym so_far ∙ one

-- it has read as many as were counted
pub is_done : {A : Type 0} (field : Field A) (front : List A) (count i : ℕ) (bytes : List ℕ) (total : Result (List A × List ℕ) PacketFault) → count ≤ i → with_front front (times field (count - i) bytes) ≡ total → total ≡ Ok (front, bytes)
unfolding times
is_done {A} field front count i bytes total le so_far =
    let k : count - i ≡ 0 = omega arith in
    let one : with_front front (times field (count - i) bytes) ≡ Ok (front, bytes) = rw k (ap (λ (ns : List A). Ok (ns, bytes)) (append-nil front)) in
    sym so_far ∙ one
