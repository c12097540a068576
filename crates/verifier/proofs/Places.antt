-- Places that lie in their region.
use Rattle.std.proofs.Common.{◌≡◌, ℕ, ◌+◌, ◌≤◌, true, ℤ, pos, negsuc, ◌+ℤ◌, refl, subst, arith}
use Rattle.std.proofs.lemmas.Bool.Decides.{nat_tests}
use Rattle.std.proofs.lemmas.Int.{to_z-of_z}
use Rattle.regtypes.specs.declared.frame.Kind.{Kind}
use Rattle.regtypes.specs.declared.frame.Region.{Region}
use Rattle.regtypes.specs.declared.frame.Region.TheVariants.{Message, State, Stack}
use Rattle.regtypes.specs.declared.frame.Kind.TheVariants.{Place}
use Rattle.regtypes.specs.Rules.{lie_inside, region_len, has_bytes}
use Rattle.verifier.specs.Places.{index_of}
use Rattle.verifier.specs.Inside.Places.{IsInside}

-- bytes that lie inside end in their region
pub inside-bound : (size n : ℕ) (z : ℤ) → lie_inside size n z ≡ true → index_of z + n ≤ size
inside-bound size n (pos a) h = grind (arith, nat_tests)
inside-bound size n (negsuc a) h = cc

-- bytes that lie inside begin at no negative position
pub inside-index : (size n : ℕ) (z : ℤ) → lie_inside size n z ≡ true → z ≡ pos (index_of z)
inside-index size n (pos a) h = refl
inside-index size n (negsuc a) h = cc

-- no message is longer than 256 bytes
pub region_bound : (low len : ℕ) (r : Region) → low ≤ 256 → region_len low len r ≤ region_len 256 len r
region_bound low len Message h = h
region_bound low len State h = omega arith
region_bound low len Stack h = omega arith

-- an access that lies inside begins at no negative position, and ends in its region with the longest message
pub index_in : (low len n : ℕ) (k : Kind) (r : Region) (at o : ℤ) → low ≤ 256 → k ≡ Place r at → IsInside low len k o n → (at +ℤ o ≡ pos (index_of (at +ℤ o))) × (index_of (at +ℤ o) + n ≤ region_len 256 len r)
index_in low len n k r at o l e h =
    let h' : lie_inside (region_len low len r) n (at +ℤ o) ≡ true = subst (λ x. IsInside low len x o n) e h in
    let b = inside-bound (region_len low len r) n (at +ℤ o) h' in
    (inside-index (region_len low len r) n (at +ℤ o) h', omega (arith, b, region_bound low len r l))

-- the same of bytes at a place itself, as a payload's
pub payload_in : (low len n : ℕ) (k : Kind) (r : Region) (at : ℤ) → low ≤ 256 → k ≡ Place r at → has_bytes low len n k ≡ true → (at ≡ pos (index_of at)) × (index_of at + n ≤ region_len 256 len r)
payload_in low len n k r at l e h =
    let h' : lie_inside (region_len low len r) n at ≡ true = subst (λ x. has_bytes low len n x ≡ true) e h in
    let b = inside-bound (region_len low len r) n at h' in
    (inside-index (region_len low len r) n at h', omega (arith, b, region_bound low len r l))

pub ruleset places = (index_in, payload_in, to_z-of_z)
