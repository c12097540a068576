-- A checkpoint that is cut short is refused for its length, wherever it is cut
use Rattle.std.proofs.Common.{◌≡◌, ℕ, ◌-◌, ◌^◌, ◌<◌, true, cond, eqb, List, [], ◌∷◌, ◌++◌, length, Result, Ok, Err, refl, sym, ap, subst, ◌∙◌, append_assoc, arith, inl, inr, ◌⊎◌}
use Rattle.std.specs.Prelude.{nat_lt}
use Rattle.std.specs.Int.{Width, w16, w32, byte_len, to_le_bytes}
use Rattle.std.specs.List.{flat_map, remove, insert, AllByRecursion}
use Rattle.std.proofs.lemmas.Bool.Decides.{nat_tests}
use Rattle.std.proofs.lemmas.List.{length-append}
use Rattle.checkpoint.specs.declared.form.CheckpointForm.{CheckpointForm}
use Rattle.checkpoint.specs.declared.form.CheckpointForm.TheVariants.{First, Second}
use Rattle.checkpoint.specs.declared.fault.SavedFault.{SavedFault}
use Rattle.checkpoint.specs.declared.fault.SavedFault.TheVariants.{Length}
use Rattle.checkpoint.specs.declared.fields.CheckpointHead.{CheckpointHead}
use Rattle.checkpoint.specs.Saved.{TheKept, TheSaved, nothing_kept, PayloadFits, KeptFits, Fits}
use Rattle.checkpoint.specs.Inside.Saved.{HeadFits}
use Rattle.checkpoint.specs.Format.{magic, payload_bytes, kept_bytes, number_bytes}
use Rattle.checkpoint.specs.Laws.{IsTooShort}
use Rattle.checkpoint.specs.Reader.{◌>>=◌, bytes_at, byte_at, number_at, form_at, senders_at, payload_at, times, kept_at, head_at, body_at, reading}
use Rattle.checkpoint.proofs.Counted.{Field}
use Rattle.checkpoint.proofs.FieldLemmas.{IsWide, wide16, wide32, bytes_again, byte_again, number_again, form_again, senders_again, payload_again}
use Rattle.checkpoint.proofs.KeptLemmas.{kept_again}
use Rattle.checkpoint.proofs.FileLemmas.{length-removed, all-removed, head_bytes, head, head_again, head_fits, body_bytes}

-- reading misses bytes wherever the text is cut
abbrev IsShort : {A : Type 0} → (List ℕ → Result A SavedFault) → List ℕ → Type 0
IsShort read text = (bytes more : List ℕ) → bytes ++ more ≡ text → 0 < length more → read bytes ≡ Err Length

-- if two texts follow each other, a cut is in the first or in the second
cut : (bytes more a b : List ℕ) → bytes ++ more ≡ a ++ b → ((m : List ℕ) × (bytes ++ m ≡ a) × (0 < length m)) ⊎ ((c : List ℕ) × (bytes ≡ a ++ c) × (c ++ more ≡ b))
cut bytes more [] b e = inr (bytes, refl, e)
cut [] more (x ∷ a) b e = inl (x ∷ a, refl, omega arith)
cut (y ∷ bytes) more (x ∷ a) b e =
    let same : y ≡ x = cc in
    let tail : bytes ++ more ≡ a ++ b = cc in
    elim (cut bytes more a b tail) [
      | inl h ↦ inl (h.0, (rw same (ap (λ (t : List ℕ). x ∷ t) h.1)), h.2)
      | inr h ↦ inr (h.0, (rw same (ap (λ (t : List ℕ). x ∷ t) h.1)), h.2)
    ]

none_left : (bytes more : List ℕ) → bytes ++ more ≡ [] → 0 < length more → ⊥
none_left bytes more e some = omega (arith, ap length e, length-append bytes more)

-- one field, and what follows it
bind_short : {A B : Type 0} (field : Field A) (next : A × List ℕ → Result B SavedFault) (a b : List ℕ) (x : A) → IsShort field a → ((rest : List ℕ) → field (a ++ rest) ≡ Ok (x, rest)) → IsShort (λ rest. next (x, rest)) b → IsShort (λ bytes. field bytes >>= next) (a ++ b)
bind_short field next a b x short again rest bytes more e some =
    elim (cut bytes more a b e) [
      | inl h ↦ rw (short bytes h.0 h.1 h.2) refl
      | inr h ↦ rw (h.1, again h.0) (rest h.0 more h.2 some)
    ]

-- ---- fields

bytes_short : (n : ℕ) (text : List ℕ) → length text ≡ n → IsShort (bytes_at n) text
bytes_short n text len bytes more e some =
    let less : length bytes < n = omega (arith, ap length e, length-append bytes more, len) in
    let test : nat_lt (length bytes) n ≡ true = grind (arith, nat_tests) in
    rw test refl

number_short : (w : Width) (limit : ℕ) (wide : IsWide w limit) (low high n : ℕ) → IsShort (number_at w low high) (to_le_bytes w n)
unfolding number_at
number_short w limit wide low high n bytes more e some = rw (bytes_short (byte_len w) (to_le_bytes w n) (wide.len n) bytes more e some) refl

byte_short : (low high n : ℕ) → IsShort (byte_at low high) (n ∷ [])
byte_short low high n [] more e some = refl
byte_short low high n (b ∷ bytes) more e some = absurd (omega (arith, ap length e, length-append bytes more))

form_short : (form : CheckpointForm) → IsShort form_at (magic form)
unfolding form_at
form_short First bytes more e some = rw (bytes_short 4 (magic First) refl bytes more e some) refl
form_short Second bytes more e some = rw (bytes_short 4 (magic Second) refl bytes more e some) refl

senders_short : (me count : ℕ) (senders : List ℕ) → IsShort (senders_at me count (length senders)) senders
unfolding senders_at
senders_short me count senders bytes more e some = rw (bytes_short (length senders) senders refl bytes more e some) refl

payload_short : (form : CheckpointForm) (payload : List ℕ) → PayloadFits form payload → IsShort (payload_at form) (payload_bytes form payload)
unfolding payload_at
payload_short First payload fits bytes more e some = bytes_short 64 payload fits bytes more e some
payload_short Second payload fits bytes more e some =
    let n = length payload in
    bind_short (number_at w16 0 256) (λ len. bytes_at len.0 len.1) (to_le_bytes w16 n) payload n (number_short w16 (2 ^ 16) wide16 0 256 n)
    (λ rest. number_again w16 (2 ^ 16) wide16 0 256 n rest (omega arith) fits (omega arith)) (bytes_short n payload refl) bytes more e some

times_short : {A : Type 0} (field : Field A) (spell : A → List ℕ) (P : A → Type 0) (again : (a : A) (rest : List ℕ) → P a → field (spell a ++ rest) ≡ Ok (a, rest)) (short : (a : A) → P a → IsShort field (spell a))
    (xs : List A) → AllByRecursion P xs → IsShort (times field (length xs)) (flat_map spell xs)
unfolding times
times_short field spell P again short [] all bytes more e some = absurd (none_left bytes more e some)
times_short field spell P again short (x ∷ xs) all bytes more e some =
    bind_short field (λ first. times field (length xs) first.1 >>= λ others. Ok (first.0 ∷ others.0, others.1)) (spell x) (flat_map spell xs) x (short x all.0) (λ rest. again x rest all.0)
    (λ rest m f left. rw (times_short field spell P again short xs all.1 rest m f left) refl) bytes more e some

kept_short : (form : CheckpointForm) (kept : TheKept) → KeptFits form kept → IsShort (kept_at form) (kept_bytes form kept)
unfolding kept_at
kept_short form kept fits bytes more e some =
    let n = length kept.payloads in
    let tail = flat_map (payload_bytes form) kept.payloads in
    bind_short (number_at w32 1 524289) (λ first. number_at w32 0 (524289 - first.0) first.1 >>= λ count. times (payload_at form) count.0 count.1 >>= λ payloads. Ok (record { first = first.0; payloads = payloads.0 }, payloads.1))
    (to_le_bytes w32 kept.first) (to_le_bytes w32 n ++ tail) kept.first (number_short w32 (2 ^ 32) wide32 1 524289 kept.first)
    (λ rest. number_again w32 (2 ^ 32) wide32 1 524289 kept.first rest fits.least (omega (arith, fits.bound)) (omega (arith, fits.bound)))
    (bind_short (number_at w32 0 (524289 - kept.first)) (λ count. times (payload_at form) count.0 count.1 >>= λ payloads. Ok (record { first = kept.first; payloads = payloads.0 }, payloads.1))
    (to_le_bytes w32 n) tail n (number_short w32 (2 ^ 32) wide32 0 (524289 - kept.first) n)
    (λ rest. number_again w32 (2 ^ 32) wide32 0 (524289 - kept.first) n rest (omega arith) (omega (arith, fits.bound)) (omega (arith, fits.bound)))
    (λ rest m f left. rw (times_short (payload_at form) (payload_bytes form) (PayloadFits form) (payload_again form) (payload_short form) kept.payloads fits.payloads rest m f left) refl))
    bytes more e some

-- ---- the whole

head_short : (h : CheckpointHead) → HeadFits h → IsShort head_at (head_bytes h)
unfolding head_at
head_short h fits bytes more e some =
    bind_short form_at (λ form. number_at w16 0 1024 form.1 >>= λ state. byte_at 1 15 state.1 >>= λ count. byte_at 1 count.0 count.1 >>= λ me. number_at w32 0 65536 me.1 >>= λ received.
    Ok (record { form = form.0; state = state.0; count = count.0; me = me.0; received = received.0 }, received.1))
    (magic h.form) (to_le_bytes w16 h.state ++ (h.count ∷ h.me ∷ to_le_bytes w32 h.received)) h.form (form_short h.form) (form_again h.form)
    (bind_short (number_at w16 0 1024) (λ state. byte_at 1 15 state.1 >>= λ count. byte_at 1 count.0 count.1 >>= λ me. number_at w32 0 65536 me.1 >>= λ received.
    Ok (record { form = h.form; state = state.0; count = count.0; me = me.0; received = received.0 }, received.1))
    (to_le_bytes w16 h.state) (h.count ∷ h.me ∷ to_le_bytes w32 h.received) h.state (number_short w16 (2 ^ 16) wide16 0 1024 h.state)
    (λ rest. number_again w16 (2 ^ 16) wide16 0 1024 h.state rest (omega arith) fits.state (omega (arith, fits.state)))
    (bind_short (byte_at 1 15) (λ count. byte_at 1 count.0 count.1 >>= λ me. number_at w32 0 65536 me.1 >>= λ received.
    Ok (record { form = h.form; state = h.state; count = count.0; me = me.0; received = received.0 }, received.1))
    (h.count ∷ []) (h.me ∷ to_le_bytes w32 h.received) h.count (byte_short 1 15 h.count) (λ rest. byte_again 1 15 h.count rest fits.some fits.few)
    (bind_short (byte_at 1 h.count) (λ me. number_at w32 0 65536 me.1 >>= λ received. Ok (record { form = h.form; state = h.state; count = h.count; me = me.0; received = received.0 }, received.1))
    (h.me ∷ []) (to_le_bytes w32 h.received) h.me (byte_short 1 h.count h.me) (λ rest. byte_again 1 h.count h.me rest fits.least fits.own)
    (λ rest m f left. rw (number_short w32 (2 ^ 32) wide32 0 65536 h.received rest m f left) refl))))
    bytes more e some

body_short : (form : CheckpointForm) (s : TheSaved) → Fits form s → IsShort (body_at (head form s)) (body_bytes form s)
unfolding body_at
body_short form s fits bytes more e some =
    let ks = remove s.queues s.me in
    let tail = flat_map (kept_bytes form) ks in
    let many : length ks ≡ s.count = omega (arith, length-removed s.queues s.me (omega (arith, fits.queues, fits.own)), fits.queues) in
    let queues : IsShort (times (kept_at form) s.count) tail = subst (λ (n : ℕ). IsShort (times (kept_at form) n) tail) many
    (times_short (kept_at form) (kept_bytes form) (KeptFits form) (kept_again form) (kept_short form) ks (all-removed (KeptFits form) s.queues s.me fits.kept)) in
    bind_short (bytes_at (length s.state)) (λ state. senders_at s.me s.count (length s.senders) state.1 >>= λ senders. times (kept_at form) s.count senders.1 >>= λ queues.
    Ok (record { me = s.me; count = s.count; state = state.0; senders = senders.0; queues = insert queues.0 s.me nothing_kept }, queues.1))
    s.state (s.senders ++ tail) s.state (bytes_short (length s.state) s.state refl) (λ rest. bytes_again (length s.state) s.state rest refl)
    (bind_short (senders_at s.me s.count (length s.senders)) (λ senders. times (kept_at form) s.count senders.1 >>= λ queues.
    Ok (record { me = s.me; count = s.count; state = s.state; senders = senders.0; queues = insert queues.0 s.me nothing_kept }, queues.1))
    s.senders tail s.senders (senders_short s.me s.count s.senders) (λ rest. senders_again s.me s.count s.senders rest fits.senders)
    (λ rest m f left. rw (queues rest m f left) refl))
    bytes more e some

pub too_short : IsTooShort
unfolding reading
too_short form s bytes more is some =
    let body = body_bytes form s in
    let h = head form s in
    let whole : bytes ++ more ≡ head_bytes h ++ body = is.bytes_are ∙ sym (append_assoc (magic form) (number_bytes s) body) in
    bind_short head_at (λ found. body_at found.0 found.1 >>= λ saved. cond (eqb (length saved.1) 0) (Ok saved.0) (Err Length)) (head_bytes h) body h (head_short h (head_fits form s is.fits)) (λ rest. head_again h rest (head_fits form s is.fits))
    (λ rest m f left. rw (body_short form s is.fits rest m f left) refl) bytes more whole some
