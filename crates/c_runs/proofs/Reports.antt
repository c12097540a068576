-- The pieces of a report, one after another.
use Rattle.std.proofs.Common.{◌≡◌, ℕ, ◌+◌, ◌*◌, ◌<◌, ◌≤◌, List, [], ◌∷◌, ◌++◌, length, get_or, take, refl, sym, ap, ap₂, ◌∙◌, arith, append_assoc, length-append, append-nil}
use Rattle.std.specs.List.{flat_map}
use Rattle.std.proofs.lemmas.List.{take_more}
use Rattle.std.proofs.lemmas.List.Concat.{flat_map-append}
use Rattle.helpers.specs.declared.effects.Sent.{Sent}
use Rattle.helpers.specs.Effects.{Emitted}
use Rattle.helpers.specs.Payload.{view64}
use Rattle.helpers.proofs.Filled.{length-view64}
use Rattle.operations.specs.Bytes.{overwritten}
use Rattle.c_runs.specs.Layout.{number_bytes, sent_bytes, report_bytes}
use Rattle.c_handles.proofs.Overwritten.{put_more}

abbrev pub Written : List ℕ → List ℕ → ℕ → List ℕ → ℕ → ℕ → Type 0
Written xs us a bytes size n = (us ≡ overwritten xs a bytes) × (length bytes ≡ size) × (n ≡ a + size)

-- one piece more is written behind the others
pub written_more : (xs us vs : List ℕ) (a k m n r : ℕ) (ys zs : List ℕ) → Written xs us a ys k n → a + k ≤ length xs → length zs ≡ m → vs ≡ overwritten us n zs → r ≡ n + m → Written xs vs a (ys ++ zs) (k + m) r
written_more xs us vs a k m n r ys zs w h z v e =
    (put_more xs us vs a n ys zs w.0 (w.2 ∙ ap (λ j. a + j) (sym w.1)) (omega (arith, w.1)) v, length-append ys zs ∙ ap₂ (λ i j. i + j) w.1 z, omega (arith, w.2, e))

-- one piece more
flat_map_next : {X : Type 0} (f : X → List ℕ) (xs : List X) (i : ℕ) (d : X) → i < length xs → flat_map f (take (i + 1) xs) ≡ flat_map f (take i xs) ++ f (get_or xs i d)
flat_map_next f xs i d h =
    ap (flat_map f) (take_more xs i d h) ∙ flat_map-append f (take i xs) (get_or xs i d ∷ []) ∙ ap (λ l. flat_map f (take i xs) ++ l) (append-nil (f (get_or xs i d)))

-- one output more
pub output_more : (xs us vs ys : List ℕ) (a i n r : ℕ) (os : List (List ℕ)) (d : List ℕ) → Written xs us a (flat_map view64 (take i os)) (64 * i) n → a + 64 * length os ≤ length xs → i < length os → ys ≡ view64 (get_or os i d) → vs ≡ overwritten us n ys → r ≡ n + length ys → Written xs vs a (flat_map view64 (take (i + 1) os)) (64 * (i + 1)) r
output_more xs us vs ys a i n r os d w h lt z v e =
    let size : length ys ≡ 64 = ap length z ∙ length-view64 (get_or os i d) in
    let m = written_more xs us vs a (64 * i) 64 n r (flat_map view64 (take i os)) ys w (omega arith) size v (e ∙ ap (λ k. n + k) size) in
    let step = flat_map_next view64 os i d lt ∙ ap (λ l. flat_map view64 (take i os) ++ l) (sym z) in
    (m.0 ∙ ap (overwritten xs a) (sym step), ap length step ∙ m.1 ∙ omega arith, omega (arith, m.2))

-- one sent message more: its destination, and its payload
pub sent_more : (xs us vs ws ys : List ℕ) (a i n m r : ℕ) (ss : List Sent) (s : Sent) → Written xs us a (flat_map sent_bytes (take i ss)) (65 * i) n → a + 65 * length ss ≤ length xs → i < length ss → s ≡ get_or ss i s → ys ≡ view64 s.payload → vs ≡ overwritten us n (s.dst ∷ []) → m ≡ n + 1 → ws ≡ overwritten vs m ys → r ≡ m + length ys → Written xs ws a (flat_map sent_bytes (take (i + 1) ss)) (65 * (i + 1)) r
sent_more xs us vs ws ys a i n m r ss s w h lt is z v e v' e' =
    let size : length ys ≡ 64 = ap length z ∙ length-view64 s.payload in
    let before : List ℕ = flat_map sent_bytes (take i ss) in
    let one : Written xs vs a (before ++ s.dst ∷ []) (65 * i + 1) m = written_more xs us vs a (65 * i) 1 n m before (s.dst ∷ []) w (omega arith) refl v e in
    let two : Written xs ws a ((before ++ s.dst ∷ []) ++ ys) (65 * i + 1 + 64) r = written_more xs vs ws a (65 * i + 1) 64 m r (before ++ s.dst ∷ []) ys one (omega arith) size v' (e' ∙ ap (λ k. m + k) size) in
    let step : flat_map sent_bytes (take (i + 1) ss) ≡ (before ++ s.dst ∷ []) ++ ys =
    flat_map_next sent_bytes ss i s lt ∙ ap (λ (x : Sent). before ++ sent_bytes x) (sym is) ∙ ap (λ l. before ++ (s.dst ∷ l)) (sym z) ∙ sym (append_assoc before (s.dst ∷ []) ys) in
    (two.0 ∙ ap (overwritten xs a) (sym step), ap length step ∙ two.1 ∙ omega arith, omega (arith, two.2))

abbrev pieces : ℕ → ℕ → List Sent → List (List ℕ) → List ℕ
pieces r0 steps s o =
    number_bytes r0 ++ number_bytes steps ++ number_bytes (length s) ++ number_bytes (length o) ++ flat_map sent_bytes s ++ flat_map view64 o

pieces_are : (r0 k steps : ℕ) (s : List Sent) (o : List (List ℕ)) (e : Emitted) → k ≡ steps → s ≡ e.sends → o ≡ e.outputs → pieces r0 k s o ≡ report_bytes r0 steps e
unfolding report_bytes
pieces_are r0 k steps s o e ek es eo =
    ap (λ j. pieces r0 j s o) ek ∙ ap (λ l. pieces r0 steps l o) es ∙ ap (λ l. pieces r0 steps e.sends l) eo

-- a report's six pieces, written one behind the other, are the report
pub report_written : (xs x1 x2 x3 x4 x5 x6 : List ℕ) (a n1 n2 n3 n4 n5 n6 r0 k steps : ℕ) (s : List Sent) (o : List (List ℕ)) (e : Emitted) → k ≡ steps → s ≡ e.sends → o ≡ e.outputs → a + 1064 ≤ length xs → length s ≤ 8 → length o ≤ 8 → length (flat_map sent_bytes s) ≡ 65 * length s → length (flat_map view64 o) ≡ 64 * length o → x1 ≡ overwritten xs a (number_bytes r0) → n1 ≡ a + 8 → x2 ≡ overwritten x1 n1 (number_bytes k) → n2 ≡ n1 + 8 → x3 ≡ overwritten x2 n2 (number_bytes (length s)) → n3 ≡ n2 + 8 → x4 ≡ overwritten x3 n3 (number_bytes (length o)) → n4 ≡ n3 + 8 → x5 ≡ overwritten x4 n4 (flat_map sent_bytes s) → n5 ≡ n4 + length (flat_map sent_bytes s) → x6 ≡ overwritten x5 n5 (flat_map view64 o) → n6 ≡ n5 + length (flat_map view64 o) → (x6 ≡ overwritten xs a (report_bytes r0 steps e)) × (n6 ≡ a + length (report_bytes r0 steps e)) × (length (report_bytes r0 steps e) ≤ 1064)
report_written xs x1 x2 x3 x4 x5 x6 a n1 n2 n3 n4 n5 n6 r0 k steps s o e ek es eo room ls lo zs zo w1 e1 w2 e2 w3 e3 w4 e4 w5 e5 w6 e6 =
    let h1 : List ℕ = number_bytes r0 in
    let h2 : List ℕ = h1 ++ number_bytes k in
    let h3 : List ℕ = h2 ++ number_bytes (length s) in
    let h4 : List ℕ = h3 ++ number_bytes (length o) in
    let h5 : List ℕ = h4 ++ flat_map sent_bytes s in
    let s1 : Written xs x1 a h1 8 n1 = (w1, refl, e1) in
    let s2 : Written xs x2 a h2 16 n2 = written_more xs x1 x2 a 8 8 n1 n2 h1 (number_bytes k) s1 (omega arith) refl w2 e2 in
    let s3 : Written xs x3 a h3 24 n3 = written_more xs x2 x3 a 16 8 n2 n3 h2 (number_bytes (length s)) s2 (omega arith) refl w3 e3 in
    let s4 : Written xs x4 a h4 32 n4 = written_more xs x3 x4 a 24 8 n3 n4 h3 (number_bytes (length o)) s3 (omega arith) refl w4 e4 in
    let s5 : Written xs x5 a h5 (32 + length (flat_map sent_bytes s)) n5 = written_more xs x4 x5 a 32 (length (flat_map sent_bytes s)) n4 n5 h4 (flat_map sent_bytes s) s4 (omega arith) refl w5 e5 in
    let s6 : Written xs x6 a (pieces r0 k s o) (32 + length (flat_map sent_bytes s) + length (flat_map view64 o)) n6 = written_more xs x5 x6 a (32 + length (flat_map sent_bytes s)) (length (flat_map view64 o)) n5 n6 h5 (flat_map view64 o) s5 (omega arith) refl w6 e6 in
    let all : pieces r0 k s o ≡ report_bytes r0 steps e = pieces_are r0 k steps s o e ek es eo in
    let size : length (pieces r0 k s o) ≡ length (report_bytes r0 steps e) = ap length all in
    (s6.0 ∙ ap (overwritten xs a) all, omega (arith, s6.1, s6.2, size), omega (arith, s6.1, size))
