-- The two laws of checkpoints: what is read is written so, and what is written so is read
use Rattle.std.proofs.Common.{◌≡◌, ℕ, zero, suc, ◌^◌, ◌<◌, ◌≤◌, false, cond, eqb, List, [], ◌∷◌, ◌++◌, length, get_or, Result, Ok, Err, refl, sym, ap, subst, ◌∙◌, append_assoc, arith}
use Rattle.std.specs.Prelude.{IfOk}
use Rattle.std.specs.Int.{w16, w32, to_le_bytes}
use Rattle.std.specs.List.{flat_map, remove, insert, AllByRecursion}
use Rattle.std.proofs.lemmas.Bool.{eqb-true}
use Rattle.std.proofs.lemmas.Bool.Decides.{nat_tests}
use Rattle.std.proofs.lemmas.List.{append-nil, nil_from_length}
use Rattle.checkpoint.specs.declared.form.CheckpointForm.{CheckpointForm}
use Rattle.checkpoint.specs.declared.form.CheckpointForm.TheVariants.{First, Second}
use Rattle.checkpoint.specs.declared.fault.SavedFault.{SavedFault}
use Rattle.checkpoint.specs.declared.fault.SavedFault.TheVariants.{Length}
use Rattle.checkpoint.specs.declared.fault.SavedError.{SavedError}
use Rattle.checkpoint.specs.declared.fields.CheckpointHead.{CheckpointHead}
use Rattle.checkpoint.specs.Saved.{TheKept, TheSaved, nothing_kept, KeptFits, Fits}
use Rattle.checkpoint.specs.Inside.Saved.{HeadFits}
use Rattle.checkpoint.specs.Format.{magic, kept_bytes, number_bytes, bytes_of, IsCheckpoint}
use Rattle.checkpoint.specs.Laws.{IsOneCheckpoint, IsTooLong}
use Rattle.checkpoint.specs.Reader.{◌>>=◌, Gives, bytes_at, byte_at, number_at, form_at, senders_at, times, kept_at, head_at, body_at, reading}
use Rattle.checkpoint.proofs.FieldLemmas.{IsBytes, bind_ok, passed_ok, ok_is, Takes, Takes-then, wide16, wide32, bytes_takes, bytes_again, byte_takes, byte_again, number_takes, number_again, form_takes, form_again, senders_takes, senders_again}
use Rattle.checkpoint.proofs.KeptLemmas.{times_takes, times_again, kept_takes, kept_again}

-- ---- an element more, and one less

remove-insert : {X : Type 0} (xs : List X) (i : ℕ) (x : X) → i ≤ length xs → remove (insert xs i x) i ≡ xs
remove-insert xs zero x le = refl
remove-insert [] (suc i) x le = absurd (omega arith)
remove-insert (y ∷ ys) (suc i) x le = ap (λ zs. y ∷ zs) (remove-insert ys i x (omega arith))

insert-remove : {X : Type 0} (xs : List X) (i : ℕ) (x : X) → i < length xs → get_or xs i x ≡ x → insert (remove xs i) i x ≡ xs
insert-remove [] i x lt at = absurd (omega arith)
insert-remove (y ∷ ys) zero x lt at = ap (λ z. z ∷ ys) (sym at)
insert-remove (y ∷ ys) (suc i) x lt at = ap (λ zs. y ∷ zs) (insert-remove ys i x (omega arith) at)

length-inserted : {X : Type 0} (xs : List X) (i : ℕ) (x : X) → i ≤ length xs → length (insert xs i x) ≡ suc (length xs)
length-inserted xs zero x le = refl
length-inserted [] (suc i) x le = absurd (omega arith)
length-inserted (y ∷ ys) (suc i) x le = ap suc (length-inserted ys i x (omega arith))

pub length-removed : {X : Type 0} (xs : List X) (i : ℕ) → i < length xs → suc (length (remove xs i)) ≡ length xs
length-removed [] i lt = absurd (omega arith)
length-removed (y ∷ ys) zero lt = refl
length-removed (y ∷ ys) (suc i) lt = ap suc (length-removed ys i (omega arith))

get_or-inserted : {X : Type 0} (xs : List X) (i : ℕ) (x d : X) → i ≤ length xs → get_or (insert xs i x) i d ≡ x
get_or-inserted xs zero x d le = refl
get_or-inserted [] (suc i) x d le = absurd (omega arith)
get_or-inserted (y ∷ ys) (suc i) x d le = get_or-inserted ys i x d (omega arith)

all-inserted : {X : Type 0} (P : X → Type 0) (xs : List X) (i : ℕ) (x : X) → P x → AllByRecursion P xs → AllByRecursion P (insert xs i x)
all-inserted P xs zero x p all = (p, all)
all-inserted P [] (suc i) x p all = (p, tt)
all-inserted P (y ∷ ys) (suc i) x p all = (all.0, all-inserted P ys i x p all.1)

pub all-removed : {X : Type 0} (P : X → Type 0) (xs : List X) (i : ℕ) → AllByRecursion P xs → AllByRecursion P (remove xs i)
all-removed P [] zero all = tt
all-removed P [] (suc i) all = tt
all-removed P (y ∷ ys) zero all = all.1
all-removed P (y ∷ ys) (suc i) all = (all.0, all-removed P ys i all.1)

-- ---- the first fields

-- the first fields, spelled
abbrev pub head_bytes : CheckpointHead → List ℕ
head_bytes h = magic h.form ++ (to_le_bytes w16 h.state ++ (h.count ∷ h.me ∷ to_le_bytes w32 h.received))

-- the first fields of a checkpoint
abbrev pub head : CheckpointForm → TheSaved → CheckpointHead
head form s = record { form = form; state = length s.state; count = s.count; me = s.me; received = length s.senders }

head_takes : (bytes : List ℕ) (x : CheckpointHead × List ℕ) → IsBytes bytes → head_at bytes ≡ Ok x → Takes bytes (head_bytes x.0) x.1 × HeadFits x.0
unfolding head_at
head_takes bytes x fits e =
    let a = bind_ok (form_at bytes) (λ form. number_at w16 0 1024 form.1 >>= λ state. byte_at 1 15 state.1 >>= λ count. byte_at 1 count.0 count.1 >>= λ me. number_at w32 0 65536 me.1 >>= λ received.
    Ok (record { form = form.0; state = state.0; count = count.0; me = me.0; received = received.0 }, received.1)) x e in
    let b = bind_ok (number_at w16 0 1024 a.0.1) (λ state. byte_at 1 15 state.1 >>= λ count. byte_at 1 count.0 count.1 >>= λ me. number_at w32 0 65536 me.1 >>= λ received.
    Ok (record { form = a.0.0; state = state.0; count = count.0; me = me.0; received = received.0 }, received.1)) x a.2 in
    let c = bind_ok (byte_at 1 15 b.0.1) (λ count. byte_at 1 count.0 count.1 >>= λ me. number_at w32 0 65536 me.1 >>= λ received.
    Ok (record { form = a.0.0; state = b.0.0; count = count.0; me = me.0; received = received.0 }, received.1)) x b.2 in
    let d = bind_ok (byte_at 1 c.0.0 c.0.1) (λ me. number_at w32 0 65536 me.1 >>= λ received.
    Ok (record { form = a.0.0; state = b.0.0; count = c.0.0; me = me.0; received = received.0 }, received.1)) x c.2 in
    let f = bind_ok (number_at w32 0 65536 d.0.1) (λ received. Ok (record { form = a.0.0; state = b.0.0; count = c.0.0; me = d.0.0; received = received.0 }, received.1)) x d.2 in
    let t0 = form_takes bytes a.0 fits a.1 in
    let t1 = number_takes w16 (2 ^ 16) wide16 0 1024 a.0.1 b.0 t0.rest_fits b.1 in
    let t2 = byte_takes 1 15 b.0.1 c.0 t1.0.rest_fits c.1 in
    let t3 = byte_takes 1 c.0.0 c.0.1 d.0 t2.0.rest_fits d.1 in
    let t4 = number_takes w32 (2 ^ 32) wide32 0 65536 d.0.1 f.0 t3.0.rest_fits f.1 in
    let h : CheckpointHead = record { form = a.0.0; state = b.0.0; count = c.0.0; me = d.0.0; received = f.0.0 } in
    let last = to_le_bytes w32 f.0.0 in
    let k3 : Takes c.0.1 (d.0.0 ∷ last) f.0.1 = Takes-then c.0.1 (d.0.0 ∷ []) d.0.1 last f.0.1 t3.0 t4.0 in
    let k2 : Takes b.0.1 (c.0.0 ∷ d.0.0 ∷ last) f.0.1 = Takes-then b.0.1 (c.0.0 ∷ []) c.0.1 (d.0.0 ∷ last) f.0.1 t2.0 k3 in
    let k1 = Takes-then a.0.1 (to_le_bytes w16 b.0.0) b.0.1 (c.0.0 ∷ d.0.0 ∷ last) f.0.1 t1.0 k2 in
    let whole : Takes bytes (head_bytes h) f.0.1 = Takes-then bytes (magic a.0.0) a.0.1 (to_le_bytes w16 b.0.0 ++ (c.0.0 ∷ d.0.0 ∷ last)) f.0.1 t0 k1 in
    let ranges : HeadFits h = record { state = t1.2; some = t2.1; few = t2.2; least = t3.1; own = t3.2; received = t4.2 } in
    subst (λ (y : CheckpointHead × List ℕ). Takes bytes (head_bytes y.0) y.1 × HeadFits y.0) (ok_is (h, f.0.1) x f.2) (whole, ranges)

-- first fields that fit, spelled so, are read
pub head_again : (h : CheckpointHead) (rest : List ℕ) → HeadFits h → head_at (head_bytes h ++ rest) ≡ Ok (h, rest)
unfolding head_at
head_again h rest fits =
    let numbers = h.count ∷ h.me ∷ to_le_bytes w32 h.received in
    let regrouped : head_bytes h ++ rest ≡ magic h.form ++ (to_le_bytes w16 h.state ++ (h.count ∷ h.me ∷ (to_le_bytes w32 h.received ++ rest))) =
    append_assoc (magic h.form) (to_le_bytes w16 h.state ++ numbers) rest ∙ ap (λ (t : List ℕ). magic h.form ++ t) (append_assoc (to_le_bytes w16 h.state) numbers rest) in
    let r3 = to_le_bytes w32 h.received ++ rest in
    let one = form_again h.form (to_le_bytes w16 h.state ++ (h.count ∷ h.me ∷ r3)) in
    let two = number_again w16 (2 ^ 16) wide16 0 1024 h.state (h.count ∷ h.me ∷ r3) (omega arith) fits.state (omega (arith, fits.state)) in
    let three = byte_again 1 15 h.count (h.me ∷ r3) fits.some fits.few in
    let four = byte_again 1 h.count h.me r3 fits.least fits.own in
    let five = number_again w32 (2 ^ 32) wide32 0 65536 h.received rest (omega arith) fits.received (omega (arith, fits.received)) in
    ap head_at regrouped ∙ rw (one, two, three, four, five) refl

-- ---- what follows them

-- what follows them, spelled
abbrev pub body_bytes : CheckpointForm → TheSaved → List ℕ
body_bytes form s = s.state ++ (s.senders ++ flat_map (kept_bytes form) (remove s.queues s.me))

body_takes : (h : CheckpointHead) (bytes : List ℕ) (x : TheSaved × List ℕ) → HeadFits h → IsBytes bytes → body_at h bytes ≡ Ok x → Takes bytes (body_bytes h.form x.0) x.1 × (h ≡ head h.form x.0) × Fits h.form x.0
unfolding body_at
body_takes h bytes x ranges fits e =
    let a = bind_ok (bytes_at h.state bytes) (λ state. senders_at h.me h.count h.received state.1 >>= λ senders. times (kept_at h.form) h.count senders.1 >>= λ queues.
    Ok (record { me = h.me; count = h.count; state = state.0; senders = senders.0; queues = insert queues.0 h.me nothing_kept }, queues.1)) x e in
    let b = bind_ok (senders_at h.me h.count h.received a.0.1) (λ senders. times (kept_at h.form) h.count senders.1 >>= λ queues.
    Ok (record { me = h.me; count = h.count; state = a.0.0; senders = senders.0; queues = insert queues.0 h.me nothing_kept }, queues.1)) x a.2 in
    let c = bind_ok (times (kept_at h.form) h.count b.0.1) (λ queues. Ok (record { me = h.me; count = h.count; state = a.0.0; senders = b.0.0; queues = insert queues.0 h.me nothing_kept }, queues.1)) x b.2 in
    let t0 = bytes_takes h.state bytes a.0 fits a.1 in
    let t1 = senders_takes h.me h.count h.received a.0.1 b.0 t0.0.rest_fits b.1 in
    let t2 = times_takes (kept_at h.form) (kept_bytes h.form) (KeptFits h.form) (kept_takes h.form) h.count b.0.1 c.0 t1.0.rest_fits c.1 in
    let qs = c.0.0 in
    let s : TheSaved = record { me = h.me; count = h.count; state = a.0.0; senders = b.0.0; queues = insert qs h.me nothing_kept } in
    let within : h.me ≤ length qs = omega (arith, ranges.own, t2.1) in
    let others : remove (insert qs h.me nothing_kept) h.me ≡ qs = remove-insert qs h.me nothing_kept within in
    let back = Takes-then a.0.1 b.0.0 b.0.1 (flat_map (kept_bytes h.form) qs) c.0.1 t1.0 t2.0 in
    let all = Takes-then bytes a.0.0 a.0.1 (b.0.0 ++ flat_map (kept_bytes h.form) qs) c.0.1 t0.0 back in
    let whole : Takes bytes (body_bytes h.form s) c.0.1 = subst (λ (ks : List TheKept). Takes bytes (a.0.0 ++ (b.0.0 ++ flat_map (kept_bytes h.form) ks)) c.0.1) (sym others) all in
    let same : h ≡ head h.form s = ap (λ (n : ℕ). let g : CheckpointHead = record { form = h.form; state = n; count = h.count; me = h.me; received = h.received } in g) (sym t0.1)
    ∙ ap (λ (n : ℕ). let g : CheckpointHead = record { form = h.form; state = length a.0.0; count = h.count; me = h.me; received = n } in g) (sym t1.1) in
    let nothing : KeptFits h.form nothing_kept = record { least = omega arith; bound = omega arith; payloads = tt } in
    let good : Fits h.form s = record {
      some = ranges.some;
      few = ranges.few;
      least = ranges.least;
      own = ranges.own;
      state = omega (arith, t0.1, ranges.state);
      received = omega (arith, t1.1, ranges.received);
      senders = t1.2;
      queues = omega (arith, length-inserted qs h.me nothing_kept within, t2.1);
      nothing = get_or-inserted qs h.me nothing_kept nothing_kept within;
      kept = all-inserted (KeptFits h.form) qs h.me nothing_kept nothing t2.2;
    } in
    subst (λ (y : TheSaved × List ℕ). Takes bytes (body_bytes h.form y.0) y.1 × (h ≡ head h.form y.0) × Fits h.form y.0) (ok_is (s, c.0.1) x c.2) (whole, same, good)

body_again : (form : CheckpointForm) (s : TheSaved) (rest : List ℕ) → Fits form s → body_at (head form s) (body_bytes form s ++ rest) ≡ Ok (s, rest)
unfolding body_at
body_again form s rest fits =
    let ks = remove s.queues s.me in
    let tail = flat_map (kept_bytes form) ks in
    let inside : s.me < length s.queues = omega (arith, fits.queues, fits.own) in
    let many : length ks ≡ s.count = omega (arith, length-removed s.queues s.me inside, fits.queues) in
    let regrouped : body_bytes form s ++ rest ≡ s.state ++ (s.senders ++ (tail ++ rest)) =
    append_assoc s.state (s.senders ++ tail) rest ∙ ap (λ (t : List ℕ). s.state ++ t) (append_assoc s.senders tail rest) in
    let one = bytes_again (length s.state) s.state (s.senders ++ (tail ++ rest)) refl in
    let two = senders_again s.me s.count s.senders (tail ++ rest) fits.senders in
    let three : times (kept_at form) s.count (tail ++ rest) ≡ Ok (ks, rest) =
    ap (λ n. times (kept_at form) n (tail ++ rest)) (sym many) ∙ times_again (kept_at form) (kept_bytes form) (KeptFits form) (kept_again form) ks rest (all-removed (KeptFits form) s.queues s.me fits.kept) in
    let own : insert ks s.me nothing_kept ≡ s.queues = insert-remove s.queues s.me nothing_kept inside fits.nothing in
    ap (body_at (head form s)) regrouped
    ∙ rw (one, two, three) (ap (λ (qs : List TheKept). let y : TheSaved × List ℕ = (record { me = s.me; count = s.count; state = s.state; senders = s.senders; queues = qs }, rest) in let r : Result (TheSaved × List ℕ) SavedFault = Ok y in r) own)

-- ---- the whole

reading_takes : (bytes : List ℕ) (s : TheSaved) → IsBytes bytes → reading bytes ≡ Ok s → (form : CheckpointForm) × IsCheckpoint form s bytes
unfolding reading
reading_takes bytes s fits e =
    let a = bind_ok (head_at bytes) (λ h. body_at h.0 h.1 >>= λ saved. cond (eqb (length saved.1) 0) (Ok saved.0) (Err Length)) s e in
    let b = bind_ok (body_at a.0.0 a.0.1) (λ saved. cond (eqb (length saved.1) 0) (Ok saved.0) (Err Length)) s a.2 in
    let t = head_takes bytes a.0 fits a.1 in
    let u = body_takes a.0.0 a.0.1 b.0 t.1 t.0.rest_fits b.1 in
    let p = passed_ok (eqb (length b.0.1) 0) Length b.0.0 s b.2 in
    let form = a.0.0.form in
    let none : b.0.1 ≡ [] = nil_from_length b.0.1 (eqb-true (length b.0.1) 0 p.0) in
    let rest : a.0.1 ≡ body_bytes form b.0.0 = u.0.parts ∙ ap (λ (t : List ℕ). body_bytes form b.0.0 ++ t) none ∙ append-nil (body_bytes form b.0.0) in
    let front : bytes ≡ head_bytes (head form b.0.0) ++ body_bytes form b.0.0 = t.0.parts ∙ ap (λ (h : CheckpointHead). head_bytes h ++ a.0.1) u.1 ∙ ap (λ (t : List ℕ). head_bytes (head form b.0.0) ++ t) rest in
    let whole : bytes ≡ bytes_of form b.0.0 = front ∙ append_assoc (magic form) (number_bytes b.0.0) (body_bytes form b.0.0) in
    (form, subst (λ (y : TheSaved). IsCheckpoint form y bytes) p.1 (record { fits = u.2; bytes_are = whole }))

-- the first fields of a checkpoint that fits fit, too
pub head_fits : (form : CheckpointForm) (s : TheSaved) → Fits form s → HeadFits (head form s)
head_fits form s fits = record { state = fits.state; some = fits.some; few = fits.few; least = fits.least; own = fits.own; received = fits.received }

-- the bytes of a checkpoint are read as that checkpoint
pub reading_again : (form : CheckpointForm) (s : TheSaved) (bytes : List ℕ) → IsCheckpoint form s bytes → reading bytes ≡ Ok s
unfolding reading
reading_again form s bytes is =
    let body = body_bytes form s in
    let ranges = head_fits form s is.fits in
    let regrouped : bytes ≡ head_bytes (head form s) ++ (body ++ []) =
    is.bytes_are ∙ sym (append_assoc (magic form) (number_bytes s) body) ∙ ap (λ (t : List ℕ). head_bytes (head form s) ++ t) (sym (append-nil body)) in
    ap reading regrouped ∙ rw (head_again (head form s) (body ++ []) ranges, body_again form s [] is.fits) refl

-- and what is read from bytes is what they are a checkpoint of
pub is_found : (bytes : List ℕ) (r : Result TheSaved SavedError) → IsBytes bytes → Gives (λ (s : TheSaved). s) r (reading bytes) → IfOk r (λ s. (form : CheckpointForm) × IsCheckpoint form s bytes)
is_found bytes (Ok s) fits given = reading_takes bytes s fits given
is_found bytes (Err e) fits given = tt

-- ---- laws

form_of : (form form' : CheckpointForm) (xs ys : List ℕ) → magic form ++ xs ≡ magic form' ++ ys → form ≡ form'
form_of First First xs ys e = refl
form_of First Second xs ys e = let last : (let a : ℕ = 0x31 in a) ≡ 0x32 = ap (λ (zs : List ℕ). get_or zs 3 0) e in absurd (omega (arith, last))
form_of Second First xs ys e = let last : (let a : ℕ = 0x32 in a) ≡ 0x31 = ap (λ (zs : List ℕ). get_or zs 3 0) e in absurd (omega (arith, last))
form_of Second Second xs ys e = refl

pub one_checkpoint : IsOneCheckpoint
one_checkpoint form form' s s' bytes is is' =
    (form_of form form' (number_bytes s ++ body_bytes form s) (number_bytes s' ++ body_bytes form' s') (sym is.bytes_are ∙ is'.bytes_are), ok_is s s' (sym (reading_again form s bytes is) ∙ reading_again form' s' bytes is'))

pub too_long : IsTooLong
unfolding reading
too_long form s bytes more is some =
    let body = body_bytes form s in
    let regrouped : bytes ++ more ≡ head_bytes (head form s) ++ (body ++ more) =
    ap (λ (t : List ℕ). t ++ more) (is.bytes_are ∙ sym (append_assoc (magic form) (number_bytes s) body)) ∙ append_assoc (head_bytes (head form s)) body more in
    let left : eqb (length more) 0 ≡ false = grind (arith, nat_tests) in
    ap reading regrouped ∙ rw (head_again (head form s) (body ++ more) (head_fits form s is.fits), body_again form s more is.fits, left) refl
