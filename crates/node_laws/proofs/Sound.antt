-- What packets say of lives, where failures come one at a time
use Rattle.std.proofs.Common.{◌≡◌, ◌≢◌, ℕ, zero, suc, ◌<◌, ◌≤◌, List, [], ◌∷◌, length, Bool, true, false, refl, ap, ◌∙◌, subst, arith}
use Rattle.std.specs.Prelude.{◌==◌, if◌then◌else◌, slice_index_or, slice_set, replicate}
use Rattle.std.proofs.lemmas.Bool.Decides.{nat_tests}
use Rattle.world.specs.World.{put}
use Rattle.theorems.proofs.Changes.{at-itself, choose}
use Rattle.packets.specs.declared.packet.Body.{Body}
use Rattle.packets.specs.declared.packet.Body.TheVariants.{Ask, Told, Resume, Restored}
use Rattle.packets.specs.declared.packet.NodePacket.{NodePacket}
use Rattle.packets.specs.Packet.{is_lost, is_exact, flags_of}
use Rattle.node.specs.Stands.{Each}
use Rattle.node.proofs.Lists.{all-more}

-- of two nodes, where these are the greatest lives by number: who asks names no greater one of its own, and an answer none of its asker. What
-- answers the life of now of one that comes back says that nothing is lost, and that its teller, in its own life of now, is exact
abbrev pub Says : (ℕ → ℕ) → (ℕ → Type 0) → ℕ → ℕ → Body → Type 0
Says lives back from to (Ask i k) = i ≤ lives from
Says lives back from to (Resume i k s) = i ≤ lives from
Says lives back from to (Told i j k flags entries) = (i ≤ lives to) × (back to → i ≡ lives to → (is_lost flags ≡ false) × ((is_exact flags ≡ true) × (j ≡ lives from)))
Says lives back from to (Restored i j n s flags pairs) = (i ≤ lives to) × (back to → i ≡ lives to → (is_exact flags ≡ true) × (j ≡ lives from))
Says lives back from to body = Unit {0}

abbrev pub IsSound : (ℕ → ℕ) → (ℕ → Type 0) → NodePacket → Type 0
IsSound lives back x = Says lives back x.from x.to x.body

abbrev pub AreSound : (ℕ → ℕ) → (ℕ → Type 0) → List NodePacket → Type 0
AreSound lives back xs = Each (IsSound lives back) xs

-- where no more come back
says-still : (lives : ℕ → ℕ) (b d : ℕ → Type 0) → ((q : ℕ) → d q → b q) → (from to : ℕ) (x : Body) → Says lives b from to x → Says lives d from to x
says-still lives b d less from to (Ask i k) h = h
says-still lives b d less from to (Resume i k s) h = h
says-still lives b d less from to (Told i j k flags entries) h = (h.0, λ w e. h.1 (less to w) e)
says-still lives b d less from to (Restored i j n s flags pairs) h = (h.0, λ w e. h.1 (less to w) e)
says-still lives b d less from to other h = tt

pub sound-still : (lives : ℕ → ℕ) (b d : ℕ → Type 0) → ((q : ℕ) → d q → b q) → (xs : List NodePacket) → AreSound lives b xs → AreSound lives d xs
sound-still lives b d less xs h = all-more (IsSound lives b) (IsSound lives d) xs (λ x s. says-still lives b d less x.from x.to x.body s) h

-- ---- p comes back in a life above all that were, and nobody else does

-- no life gets less
raised : (lives : ℕ → ℕ) (p life q : ℕ) → lives p < life → lives q ≤ put lives p life q
raised lives p life q above = choose p (λ j b. lives j ≤ (if b then life else lives j)) (omega (arith, above)) (λ j o. omega arith) q

-- what is stored of another is what it was
pub raised-other : {X : Type 0} (f : ℕ → X) (p q : ℕ) (x : X) → q ≢ p → put f p x q ≡ f q
raised-other f p q x other = let e : (q == p) ≡ false = grind (arith, nat_tests) in rw e refl

pub raised-here : {X : Type 0} (f : ℕ → X) (p : ℕ) (x : X) → put f p x p ≡ x
raised-here f p x = at-itself p (λ b. (if b then x else f p) ≡ x) refl

-- what was told to an older life of it isn't told to this one
no-old : (lives : ℕ → ℕ) (p life to i : ℕ) → lives p < life → to ≡ p → i ≤ lives to → i ≢ put lives p life to
no-old lives p life to i above same low e =
    let P : ℕ → Type 0 = λ z. i ≤ lives z in
    let Q : ℕ → Type 0 = λ z. i ≡ put lives p life z in
    let old : i ≤ lives p = subst P same low in
    let now : i ≡ life = subst Q same e ∙ raised-here lives p life in
    omega (arith, old, now, above)

more : (lives : ℕ → ℕ) (p life q i : ℕ) → lives p < life → i ≤ lives q → i ≤ put lives p life q
more lives p life q i above low = let l : lives q ≤ put lives p life q = raised lives p life q above in omega (arith, l, low)

says-anew : (lives : ℕ → ℕ) (b d : ℕ → Type 0) (p life : ℕ) → lives p < life → ((q : ℕ) → d q → q ≡ p) → (from to : ℕ) (x : Body) → Says lives b from to x → Says (put lives p life) d from to x
says-anew lives b d p life above only from to (Ask i k) h = more lives p life from i above h
says-anew lives b d p life above only from to (Resume i k s) h = more lives p life from i above h
says-anew lives b d p life above only from to (Told i j k flags entries) h = (more lives p life to i above h.0, λ w e. absurd (no-old lives p life to i above (only to w) h.0 e))
says-anew lives b d p life above only from to (Restored i j n s flags pairs) h = (more lives p life to i above h.0, λ w e. absurd (no-old lives p life to i above (only to w) h.0 e))
says-anew lives b d p life above only from to other h = tt

pub sound-anew : (lives : ℕ → ℕ) (b d : ℕ → Type 0) (p life : ℕ) → lives p < life → ((q : ℕ) → d q → q ≡ p) → (xs : List NodePacket) → AreSound lives b xs → AreSound (put lives p life) d xs
sound-anew lives b d p life above only xs h = all-more (IsSound lives b) (IsSound (put lives p life) d) xs (λ x s. says-anew lives b d p life above only x.from x.to x.body s) h

-- ---- where a list is changed at one place

pub set-at : {X : Type 0} (P : X → Type 0) (xs : List X) (i : ℕ) (x : X) (q : ℕ) (d : X) → q < length xs → (q ≡ i → P x) → (q ≢ i → P (slice_index_or xs q d)) → P (slice_index_or (slice_set xs i x) q d)
set-at P [] i x q d l here there = absurd (omega (arith, l))
set-at P (y ∷ xs) zero x zero d l here there = here refl
set-at P (y ∷ xs) zero x (suc q) d l here there = there (λ e. absurd (cc (e)))
set-at P (y ∷ xs) (suc i) x zero d l here there = there (λ e. absurd (cc (e)))
set-at P (y ∷ xs) (suc i) x (suc q) d l here there = set-at P xs i x q d (omega (arith, l)) (λ e. here (ap suc e)) (λ o. there (λ e. o (omega (arith, e))))

-- and where all in it are the same
pub same-at : {X : Type 0} (P : X → Type 0) (k i : ℕ) (x d : X) → P x → P d → P (slice_index_or (replicate k x) i d)
same-at P zero i x d h e = e
same-at P (suc k) zero x d h e = h
same-at P (suc k) (suc i) x d h e = same-at P k i x d h e

-- ---- what one that is exact answers

pub exact-is : (done lost : Bool) → is_exact (flags_of done lost true) ≡ true
exact-is true true = refl
exact-is true false = refl
exact-is false true = refl
exact-is false false = refl
