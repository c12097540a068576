-- What a record tells.
use Rattle.std.proofs.Common.{◌≡◌, ℕ, suc, ◌+◌, ◌*◌, ◌/◌, ◌%◌, ◌^◌, ◌<◌, List, [], ◌∷◌, length, Some, refl, sym, ap, ◌∙◌, arith}
use Rattle.std.specs.Prelude.{slice_get, slice_range}
use Rattle.helpers.specs.declared.effects.Who.{Who}
use Rattle.helpers.specs.declared.effects.Sent.{Sent}
use Rattle.helpers.specs.Effects.{Emitted}
use Rattle.operations.specs.Bytes.{le_value, le_bytes}
use Rattle.native.specs.Correct.{IsAt, Keeps}
use Rattle.native.specs.Worked.{AreWords}

-- the bytes of a word are read back, one more byte at a time
one_more : (k n : ℕ) → le_value (le_bytes k (n / 256)) ≡ n / 256 → le_value (le_bytes (suc k) n) ≡ n
one_more k n e = ap (λ q. n % 256 + 256 * q) e ∙ (omega arith)

pub le_word : (n : ℕ) → n < 2 ^ 64 → le_value (le_bytes 8 n) ≡ n
le_word n h =
    let a = n / 256 in
    let b = a / 256 in
    let c = b / 256 in
    let d = c / 256 in
    let e = d / 256 in
    let f = e / 256 in
    let g = f / 256 in
    let z : 0 ≡ g / 256 = omega arith in
    one_more 7 n (one_more 6 a (one_more 5 b (one_more 4 c (one_more 3 d (one_more 2 e (one_more 1 f (one_more 0 g z)))))))

same_word : (n m : ℕ) (bs : List ℕ) → n < 2 ^ 64 → m < 2 ^ 64 → bs ≡ le_bytes 8 n → bs ≡ le_bytes 8 m → n ≡ m
same_word n m bs h k a b = sym (le_word n h) ∙ ap le_value (sym a ∙ b) ∙ le_word m k

same_payload : (bytes : List ℕ) (place : ℕ) (p q : List ℕ) → IsAt bytes place p → IsAt bytes place q → p ≡ q
same_payload bytes place p q i j =
    let f = i.fits in
    let g = j.fits in
    let n : length p ≡ length q = same_word (length p) (length q) (slice_range bytes (place + 8) (place + 16)) (omega arith) (omega arith) i.size j.size in
    sym i.is ∙ ap (λ n. slice_range bytes (place + 16) (place + 16 + n)) n ∙ j.is

same_sent : (s t : Sent) → s.dst ≡ t.dst → s.payload ≡ t.payload → s ≡ t
same_sent s t a b = ap (λ d. record { dst = d; payload = s.payload }) a ∙ ap (λ p. record { dst = t.dst; payload = p }) b

-- lists of one length with the same elements
same_list : {A : Type 0} (xs ys : List A) → length xs ≡ length ys → ((k : ℕ) (x y : A) → slice_get xs k ≡ Some x → slice_get ys k ≡ Some y → x ≡ y) → xs ≡ ys
same_list [] [] n h = refl
same_list [] (y ∷ ys) n h = absurd (omega arith)
same_list (x ∷ xs) [] n h = absurd (omega arith)
same_list (x ∷ xs) (y ∷ ys) n h =
    ap (λ z. z ∷ xs) (h 0 x y refl refl) ∙ ap (λ zs. y ∷ zs) (same_list xs ys (omega arith) (λ k a b. h (suc k) a b))

same_who : (w v : Who) → w.me ≡ v.me → w.from ≡ v.from → w.count ≡ v.count → w ≡ v
same_who w v a b c =
    ap (λ n. record { me = n; from = w.from; count = w.count }) a
    ∙ ap (λ n. record { me = v.me; from = n; count = w.count }) b
    ∙ ap (λ n. record { me = v.me; from = v.from; count = n }) c

same_effects : (e f : Emitted) → e.sends ≡ f.sends → e.outputs ≡ f.outputs → e ≡ f
same_effects e f a b = ap (λ l. record { sends = l; outputs = e.outputs }) a ∙ ap (λ l. record { sends = f.sends; outputs = l }) b

-- a record is that of one call's `Who` and effects only
pub tells_one : (w v : Who) (e f : Emitted) (bytes : List ℕ) → Keeps w e bytes → Keeps v f bytes → AreWords e → AreWords f → (w ≡ v) × (e ≡ f)
tells_one w v e f bytes a b p q =
    let a1 = a.few_sends in
    let b1 = b.few_sends in
    let a2 = a.few_outputs in
    let b2 = b.few_outputs in (
      same_who w v (sym a.me ∙ b.me) (sym a.from ∙ b.from) (sym a.count ∙ b.count),
      same_effects e f
          (same_list e.sends f.sends (same_word (length e.sends) (length f.sends) (slice_range bytes 0 8) (omega arith) (omega arith) a.sent b.sent)
          (λ k s t g h. same_sent s t
          (same_word s.dst t.dst (slice_range bytes (64 + 272 * k) (64 + 272 * k + 8)) (p k s g) (q k t h) (a.sends k s g).0 (b.sends k t h).0)
          (same_payload bytes (64 + 272 * k) s.payload t.payload (a.sends k s g).1 (b.sends k t h).1)))
          (same_list e.outputs f.outputs (same_word (length e.outputs) (length f.outputs) (slice_range bytes 8 16) (omega arith) (omega arith) a.output b.output)
          (λ k s t g h. same_payload bytes (2240 + 272 * k) s t (a.outputs k s g) (b.outputs k t h))),
    )
