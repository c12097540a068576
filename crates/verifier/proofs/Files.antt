-- A file has one header, one code and one fault at most.
use Rattle.std.proofs.Common.{◌≡◌, ◌≢◌, ◌⊎◌, ℕ, ◌+◌, ◌*◌, ◌<◌, ◌≤◌, List, [], ◌∷◌, ◌++◌, length, take, drop, get_or, refl, sym, ap, subst, ◌∙◌, append_assoc, inl, inr, arith}
use Rattle.std.specs.Int.{w16, to_le_bytes, from_le_bytes}
use Rattle.std.proofs.lemmas.Nat.{from_le_bytes-to_le_bytes_2}
use Rattle.std.proofs.lemmas.List.{length-append}
use Rattle.decode.specs.declared.insn.Insn.{Insn}
use Rattle.decode.specs.declared.fault.EncodingRule.{EncodingRule}
use Rattle.decode.specs.Slots.{slots, slots_of}
use Rattle.std.specs.List.{AllByRecursion}
use Rattle.decode.specs.Encoding.{Fits, encoding}
use Rattle.decode.specs.First.{IsFirst}
use Rattle.decode.specs.Refusal as decoding
use Rattle.decode.proofs.Firsts as firsts
use Rattle.decode.proofs.SlotLemmas.{length_encoding, length-slots_of}
use Rattle.decode.proofs.Once.{encoding_once}
use Rattle.decode.proofs.OneFault.{one_fault, no_fault}
use Rattle.regtypes.specs.declared.image_form.ImageForm.{ImageForm}
use Rattle.regtypes.specs.declared.image_form.ImageForm.TheVariants as two
use Rattle.regtypes.specs.declared.rule.Rule as rules
use Rattle.regtypes.specs.Typing.{frame_at}
use Rattle.verifier.specs.declared.header.FileHeader.{FileHeader}
use Rattle.verifier.specs.declared.header.Forms.{Forms}
use Rattle.verifier.specs.declared.fault.HeaderFault.{HeaderFault}
use Rattle.verifier.specs.declared.fault.HeaderFault.TheVariants.{TooShort, Magic, StateLength, SlotCount, FileLength}
use Rattle.verifier.specs.declared.fault.ImageError.{ImageError}
use Rattle.verifier.specs.declared.fault.ImageError.TheVariants.{Memory, Header, Decode, Verify}
use Rattle.verifier.specs.declared.file_form.FileForm.{FileForm}
use Rattle.verifier.specs.declared.file_form.FileForm.TheVariants.{Sbi1, Sbi2, Sbi3}
use Rattle.verifier.specs.FileForm.{file_form_number, file_form_of}
use Rattle.verifier.specs.Typed.{Typed}
use Rattle.verifier.specs.Verdict as flat_verdict
use Rattle.verifier.specs.Fixpoint as one
use Rattle.verifier.specs.Least.{flat_form}
use Rattle.verifier.proofs.LeastTypings.{one_refusal}
use Rattle.verifier.proofs.Spans.Forms.{one_refusal_3}
use Rattle.verifier.specs.ImageFile.{HasFault, IsCodeFault, IsFault, IsFile, IsHeaderFault, IsOneFileRefusal, IsOther, IsRefusal, IsTaken, IsTypable, IsUnread, field_at, magic}
use Rattle.verifier.specs.Inside.Header.{header_bytes, HasHeader, IsSound}

-- ---- the header

split : (xs ys a b : List ℕ) → length xs ≡ length ys → xs ++ a ≡ ys ++ b → (xs ≡ ys) × (a ≡ b)
split [] [] a b n e = (refl, e)
split [] (y ∷ ys) a b n e = absurd (omega arith)
split (x ∷ xs) [] a b n e = absurd (omega arith)
split (x ∷ xs) (y ∷ ys) a b n e =
    let first : x ≡ y = cc in
    let others : xs ++ a ≡ ys ++ b = cc in
    let k = split xs ys a b (omega arith) others in
    let e0 = k.0 in
    (cc, k.1)

-- bytes begin with one header only, and the rest behind it is one too
pub header_once : (g h : FileHeader) (a b bytes : List ℕ) → HasHeader g a bytes → HasHeader h b bytes → (g ≡ h) × (a ≡ b)
header_once g h a b bytes x y =
    let whole : header_bytes g ++ a ≡ header_bytes h ++ b = sym x.fields ∙ y.fields in
    let left = append_assoc g.magic (to_le_bytes w16 g.state_len ++ to_le_bytes w16 g.slots) a in
    let right = append_assoc h.magic (to_le_bytes w16 h.state_len ++ to_le_bytes w16 h.slots) b in
    let k = split g.magic h.magic ((to_le_bytes w16 g.state_len ++ to_le_bytes w16 g.slots) ++ a) ((to_le_bytes w16 h.state_len ++ to_le_bytes w16 h.slots) ++ b) (x.magic_len ∙ sym y.magic_len) (sym left ∙ whole ∙ right) in
    let e = k.1 in
    let low : to_le_bytes w16 g.state_len ≡ to_le_bytes w16 h.state_len = cc in
    let high : to_le_bytes w16 g.slots ≡ to_le_bytes w16 h.slots = cc in
    let rest : a ≡ b = cc in
    let state : g.state_len ≡ h.state_len = sym (from_le_bytes-to_le_bytes_2 g.state_len x.state_len) ∙ ap (from_le_bytes w16) low ∙ from_le_bytes-to_le_bytes_2 h.state_len y.state_len in
    let count : g.slots ≡ h.slots = sym (from_le_bytes-to_le_bytes_2 g.slots x.slots_len) ∙ ap (from_le_bytes w16) high ∙ from_le_bytes-to_le_bytes_2 h.slots y.slots_len in
    (λ i. record { magic = k.0 i; state_len = state i; slots = count i }, rest)

-- ---- the fields of a header, by where they stand

header_fields : (m : List ℕ) (len n : ℕ) (rest : List ℕ) → length m ≡ 4
    → (take 4 ((m ++ (to_le_bytes w16 len ++ to_le_bytes w16 n)) ++ rest) ≡ m)
    × (take 2 (drop 4 ((m ++ (to_le_bytes w16 len ++ to_le_bytes w16 n)) ++ rest)) ≡ to_le_bytes w16 len)
    × (take 2 (drop 6 ((m ++ (to_le_bytes w16 len ++ to_le_bytes w16 n)) ++ rest)) ≡ to_le_bytes w16 n)
    × (drop 8 ((m ++ (to_le_bytes w16 len ++ to_le_bytes w16 n)) ++ rest) ≡ rest)
    × (length ((m ++ (to_le_bytes w16 len ++ to_le_bytes w16 n)) ++ rest) ≡ 8 + length rest)
header_fields [] len n rest e = absurd (omega (arith, e))
header_fields (a ∷ []) len n rest e = absurd (omega (arith, e))
header_fields (a ∷ b ∷ []) len n rest e = absurd (omega (arith, e))
header_fields (a ∷ b ∷ c ∷ []) len n rest e = absurd (omega (arith, e))
header_fields (a ∷ b ∷ c ∷ d ∷ []) len n rest e = (refl, refl, refl, refl, omega arith)
header_fields (a ∷ b ∷ c ∷ d ∷ x ∷ xs) len n rest e = absurd (omega (arith, e))

pub record Fields (h : FileHeader) (rest bytes : List ℕ) : Type 0 where
  pub magic : take 4 bytes ≡ h.magic
  pub state : field_at 4 bytes ≡ h.state_len
  pub count : field_at 6 bytes ≡ h.slots
  pub code : drop 8 bytes ≡ rest
  pub size : length bytes ≡ 8 + length rest

-- each field of a header is what is read at its place in the bytes
pub fields_of : (h : FileHeader) (rest bytes : List ℕ) → HasHeader h rest bytes → Fields h rest bytes
fields_of h rest bytes x =
    let k = header_fields h.magic h.state_len h.slots rest x.magic_len in
    record {
      magic = ap (take 4) x.fields ∙ k.0;
      state = ap (field_at 4) x.fields ∙ ap (from_le_bytes w16) k.1 ∙ from_le_bytes-to_le_bytes_2 h.state_len x.state_len;
      count = ap (field_at 6) x.fields ∙ ap (from_le_bytes w16) k.2 ∙ from_le_bytes-to_le_bytes_2 h.slots x.slots_len;
      code = ap (drop 8) x.fields ∙ k.3;
      size = ap length x.fields ∙ k.4;
    }

-- ---- the first fault

-- what each fault finds in a header and what follows it
abbrev pub Breaks : Forms → HeaderFault → FileHeader → List ℕ → Type 0
Breaks forms TooShort h rest = ⊥
Breaks forms Magic h rest = IsOther forms h.magic
Breaks forms StateLength h rest = 1024 < h.state_len
Breaks forms SlotCount h rest = (h.slots ≡ 0) ⊎ (1024 < h.slots)
Breaks forms FileLength h rest = length rest ≢ 8 * h.slots

of_fields : (forms : Forms) (q : HeaderFault) (h : FileHeader) (rest bytes : List ℕ) → Fields h rest bytes → Breaks forms q h rest → HasFault forms bytes q
of_fields forms TooShort h rest bytes k b = absurd b
of_fields forms Magic h rest bytes k b = λ form t e. b form t (sym k.magic ∙ e)
of_fields forms StateLength h rest bytes k b = omega (arith, k.state, b)
of_fields forms SlotCount h rest bytes k (inl b) = inl (k.count ∙ b)
of_fields forms SlotCount h rest bytes k (inr b) = inr (omega (arith, k.count, b))
of_fields forms FileLength h rest bytes k b = λ e. b (omega (arith, e, k.size, k.count))

to_fields : (forms : Forms) (q : HeaderFault) (h : FileHeader) (rest bytes : List ℕ) → Fields h rest bytes → HasFault forms bytes q → Breaks forms q h rest
to_fields forms TooShort h rest bytes k b = omega (arith, k.size, b)
to_fields forms Magic h rest bytes k b = λ form t e. b form t (k.magic ∙ e)
to_fields forms StateLength h rest bytes k b = omega (arith, k.state, b)
to_fields forms SlotCount h rest bytes k (inl b) = inl (sym k.count ∙ b)
to_fields forms SlotCount h rest bytes k (inr b) = inr (omega (arith, k.count, b))
to_fields forms FileLength h rest bytes k b = λ e. b (omega (arith, e, k.size, k.count))

pub too_short : (forms : Forms) (bytes : List ℕ) → length bytes < 8 → IsHeaderFault forms bytes TooShort
too_short forms bytes short = firsts.stops (HasFault forms bytes) TooShort _ short

-- if the first fault of a list is in the header, it is the first that the bytes have
pub stops : (forms : Forms) (q : HeaderFault) (qs : List HeaderFault) (h : FileHeader) (rest bytes : List ℕ) → HasHeader h rest bytes → Breaks forms q h rest → IsFirst (HasFault forms bytes) (q ∷ qs) q
stops forms q qs h rest bytes has broken = firsts.stops (HasFault forms bytes) q qs (of_fields forms q h rest bytes (fields_of h rest bytes has) broken)

-- a fault that the header doesn't have is passed over
pub passes : (forms : Forms) (q : HeaderFault) (qs : List HeaderFault) (fault : HeaderFault) (h : FileHeader) (rest bytes : List ℕ) → HasHeader h rest bytes → (¬ Breaks forms q h rest) → IsFirst (HasFault forms bytes) qs fault → IsFirst (HasFault forms bytes) (q ∷ qs) fault
passes forms q qs fault h rest bytes has fine later =
    firsts.passes q (HasFault forms bytes) qs fault (λ f. fine (to_fields forms q h rest bytes (fields_of h rest bytes has) f)) later

-- bytes with a whole header aren't too short, so the first of the other four faults is the header's
pub starts_broken : (forms : Forms) (fault : HeaderFault) (h : FileHeader) (rest bytes : List ℕ) → HasHeader h rest bytes → IsFirst (HasFault forms bytes) (Magic ∷ StateLength ∷ SlotCount ∷ FileLength ∷ []) fault → IsHeaderFault forms bytes fault
starts_broken forms fault h rest bytes has broken = passes forms TooShort _ fault h rest bytes has (λ b. b) broken

-- bytes with a sound header of a form that is taken have none of a header's faults
pub sound_has : (forms : Forms) (form : FileForm) (h : FileHeader) (rest bytes : List ℕ) → IsTaken forms form → HasHeader h rest bytes → IsSound form h rest → (q : HeaderFault) → ¬ HasFault forms bytes q
sound_has forms form h rest bytes taken has s q b = unbroken q (to_fields forms q h rest bytes (fields_of h rest bytes has) b)
  where
    unbroken : (q : HeaderFault) → Breaks forms q h rest → ⊥
    unbroken TooShort b = b
    unbroken Magic b = b form taken s.magic_is
    unbroken StateLength b = let k = s.state in omega arith
    unbroken SlotCount (inl b) = let k = s.some in omega arith
    unbroken SlotCount (inr b) = let k = s.short in omega arith
    unbroken FileLength b = b s.size

faultless : (forms : Forms) (bytes : List ℕ) (fault : HeaderFault) → ((q : HeaderFault) → ¬ HasFault forms bytes q) → IsHeaderFault forms bytes fault → ⊥
faultless forms bytes fault none first = none fault (firsts.first_holds (HasFault forms bytes) _ fault first)

-- after a sound header a fault of the code is one of the file
pub code_fault : (forms : Forms) (form : FileForm) (h : FileHeader) (rest bytes : List ℕ) (rule : EncodingRule) (slot : ℕ) → IsTaken forms form → HasHeader h rest bytes → IsSound form h rest → decoding.IsFault rest rule slot → IsCodeFault forms bytes rule slot
code_fault forms form h rest bytes rule slot taken has s fault =
    (sound_has forms form h rest bytes taken has s, subst (λ (r : List ℕ). decoding.IsFault r rule slot) (sym (fields_of h rest bytes has).code) fault)

-- ---- the file

abbrev pub file_header : FileForm → List Insn → ℕ → FileHeader
file_header form is len = record { magic = magic form; state_len = len; slots = slots is }

-- a file is the header of its code, and the code's bytes after it
pub file_has : (form : FileForm) (is : List Insn) (len : ℕ) (bytes : List ℕ) → IsFile form is len bytes → HasHeader (file_header form is len) (encoding is) bytes
file_has form is len bytes f = record {
  magic_len = refl;
  state_len = let k = f.state in omega arith;
  slots_len = let k = f.short in omega arith;
  fields = f.bytes_are;
}

-- a header without a fault and the code after it
pub file_of : (form : FileForm) (is : List Insn) (h : FileHeader) (rest bytes : List ℕ) → HasHeader h rest bytes → IsSound form h rest → AllByRecursion Fits is → rest ≡ encoding is → IsFile form is h.state_len bytes
file_of form is h rest bytes has s fits e = record {
  bytes_are = has.fields ∙ ap (λ (x : List ℕ). header_bytes h ++ x) e ∙ ap (λ (x : FileHeader). header_bytes x ++ encoding is) same;
  fits = fits;
  state = s.state;
  some = let k = s.some in omega (arith, count);
  short = let k = s.short in omega (arith, count);
}
  where
    count : h.slots ≡ slots is
    count = let k = length_encoding is in let l = ap length e in let n = s.size in omega arith

    same : h ≡ file_header form is h.state_len
    same = λ i. record { magic = s.magic_is i; state_len = h.state_len; slots = count i }

-- the header of a file has no fault
no_fault_of : (forms : Forms) (form : FileForm) (is : List Insn) (len : ℕ) (bytes : List ℕ) → IsTaken forms form → IsFile form is len bytes → (q : HeaderFault) → ¬ HasFault forms bytes q
no_fault_of forms form is len bytes taken f =
    let sound : IsSound form (file_header form is len) (encoding is) = record { magic_is = refl; state = f.state; some = f.some; short = f.short; size = length_encoding is } in
    sound_has forms form (file_header form is len) (encoding is) bytes taken (file_has form is len bytes f) sound

-- a file of a form that is taken is read, unless memory runs out
pub unread_memory : (forms : Forms) (form : FileForm) (is : List Insn) (len : ℕ) (bytes : List ℕ) (e : ImageError) → IsTaken forms form → IsFile form is len bytes → IsUnread forms bytes e → e ≡ Memory
unread_memory forms form is len bytes Memory taken f why = refl
unread_memory forms form is len bytes (Header fault) taken f why = absurd (faultless forms bytes fault (no_fault_of forms form is len bytes taken f) why)
unread_memory forms form is len bytes (Decode rule slot) taken f why =
    let k = fields_of (file_header form is len) (encoding is) bytes (file_has form is len bytes f) in
    absurd (no_fault is rule slot f.fits (subst (λ (r : List ℕ). decoding.IsFault r rule slot) k.code why.1))
unread_memory forms form is len bytes (Verify rule slot) taken f why = absurd why

number_once : (form form' : FileForm) → file_form_number form ≡ file_form_number form' → form ≡ form'
number_once Sbi1 Sbi1 e = refl
number_once Sbi1 Sbi2 e = absurd (omega (arith, e))
number_once Sbi1 Sbi3 e = absurd (omega (arith, e))
number_once Sbi2 Sbi1 e = absurd (omega (arith, e))
number_once Sbi2 Sbi2 e = refl
number_once Sbi2 Sbi3 e = absurd (omega (arith, e))
number_once Sbi3 Sbi1 e = absurd (omega (arith, e))
number_once Sbi3 Sbi2 e = absurd (omega (arith, e))
number_once Sbi3 Sbi3 e = refl

pub magic_once : (form form' : FileForm) → magic form ≡ magic form' → form ≡ form'
magic_once form form' e =
    let fourth : 0x30 + file_form_number form ≡ 0x30 + file_form_number form' = ap (λ l. get_or l 3 0) e in
    number_once form form' (omega (arith, fourth))

-- bytes are the file of one code, one state's length and one form at most
pub file_once : (form form' : FileForm) (is js : List Insn) (m n : ℕ) (bytes : List ℕ) → IsFile form is m bytes → IsFile form' js n bytes → (is ≡ js) × (m ≡ n) × (form ≡ form')
file_once form form' is js m n bytes f g =
    let k = header_once (file_header form is m) (file_header form' js n) (encoding is) (encoding js) bytes (file_has form is m bytes f) (file_has form' js n bytes g) in
    (encoding_once is js f.fits g.fits k.1, ap (λ (h : FileHeader). h.state_len) k.0, magic_once form form' (ap (λ (h : FileHeader). h.magic) k.0))

-- what holds of one form, code and state's length that bytes are the file of holds of all
pub same_file : (P : FileForm → List Insn → ℕ → Type 0) (form form' : FileForm) (is js : List Insn) (m n : ℕ) (bytes : List ℕ) → IsFile form is m bytes → IsFile form' js n bytes → P form is m → P form' js n
same_file P form form' is js m n bytes f g h =
    let k = file_once form form' is js m n bytes f g in
    subst (λ (q : FileForm). P q js n) k.2 (subst (λ (x : ℕ). P form js x) k.1 (subst (λ (l : List Insn). P form l m) k.0 h))

-- what follows the first eight bytes is the code
pub code_after : (form : FileForm) (is : List Insn) (len : ℕ) (front rest bytes : List ℕ) → IsFile form is len bytes → length front ≡ 8 → bytes ≡ front ++ rest → rest ≡ encoding is
code_after form is len front rest bytes f size e =
    let whole = length-append (magic form) (to_le_bytes w16 len ++ to_le_bytes w16 (slots is)) in
    (split front (header_bytes (file_header form is len)) rest (encoding is) (omega (arith, size)) (sym e ∙ f.bytes_are)).1

-- the code of a file has at most 1,024 slots
pub short_code : (form : FileForm) (is : List Insn) (len : ℕ) (bytes : List ℕ) → IsFile form is len bytes → length (slots_of is) ≤ 1024
short_code form is len bytes f = let k = f.short in omega (arith, length-slots_of is)

-- ---- form 1 or 2 as one of the three

pub flat_taken : (form : ImageForm) → file_form_of form ≢ Sbi3
flat_taken two.Sbi1 = λ e. let k : 1 ≡ 3 = ap file_form_number e in absurd (omega (arith, k))
flat_taken two.Sbi2 = λ e. let k : 2 ≡ 3 = ap file_form_number e in absurd (omega (arith, k))

pub flat_once : (form form' : ImageForm) → file_form_of form ≡ file_form_of form' → form ≡ form'
flat_once two.Sbi1 two.Sbi1 e = refl
flat_once two.Sbi1 two.Sbi2 e = let k : 1 ≡ 2 = ap file_form_number e in absurd (omega (arith, k))
flat_once two.Sbi2 two.Sbi1 e = let k : 2 ≡ 1 = ap file_form_number e in absurd (omega (arith, k))
flat_once two.Sbi2 two.Sbi2 e = refl

pub flat_fault : (form : ImageForm) (is : List Insn) (len : ℕ) (rule : rules.Rule) (slot : ℕ) → one.IsFault (flat_form form len (slots_of is)) rule slot → IsFault (file_form_of form) is len rule slot
flat_fault two.Sbi1 is len rule slot h = h
flat_fault two.Sbi2 is len rule slot h = h

-- the code of an image is typable
pub image_typable : (form : ImageForm) (is : List Insn) (len : ℕ) (image : Typed) → flat_verdict.IsImageOf form is len image → IsTypable (file_form_of image.form) image.code image.len
image_typable form is len image h =
    subst (λ (q : ImageForm). IsTypable (file_form_of q) image.code image.len) (sym h.form_is) (subst (λ (l : List Insn). IsTypable (file_form_of form) l image.len) (sym h.code_is) (subst (λ (x : ℕ). IsTypable (file_form_of form) is x) (sym h.len_is) (typable form h.typing.types)))
  where
    typable : (form : ImageForm) → one.IsTyped (flat_form form len (slots_of is)) (frame_at image.table) → IsTypable (file_form_of form) is len
    typable two.Sbi1 t = (image.table, t)
    typable two.Sbi2 t = (image.table, t)

-- ---- a refusal is the only one

-- code with a fault isn't typable
untypable : (form : FileForm) (is : List Insn) (len : ℕ) (rule : rules.Rule) (slot : ℕ) → IsFault form is len rule slot → IsTypable form is len → ⊥
untypable Sbi1 is len rule slot h t = h.1 (frame_at t.0) t.1
untypable Sbi2 is len rule slot h t = h.1 (frame_at t.0) t.1
untypable Sbi3 is len rule slot h t = h.1 t.0 t.1

-- a file of typable code isn't refused, unless memory runs out
pub refused_memory : (forms : Forms) (form : FileForm) (is : List Insn) (len : ℕ) (bytes : List ℕ) (e : ImageError) → IsTaken forms form → IsFile form is len bytes → IsTypable form is len → IsRefusal forms bytes e → e ≡ Memory
refused_memory forms form is len bytes Memory taken f t why = refl
refused_memory forms form is len bytes (Header fault) taken f t why = unread_memory forms form is len bytes (Header fault) taken f why
refused_memory forms form is len bytes (Decode rule slot) taken f t why = unread_memory forms form is len bytes (Decode rule slot) taken f why
refused_memory forms form is len bytes (Verify rule slot) taken f t (form', js, n, g, fault, taken') =
    absurd (untypable form is len rule slot (same_file (λ q l x. IsFault q l x rule slot) form' form js is n len bytes g f fault) t)

one_rule : (form : FileForm) (is : List Insn) (len : ℕ) (q r : rules.Rule) (m n : ℕ) → IsFault form is len q m → IsFault form is len r n → (q ≡ r) × (m ≡ n)
one_rule Sbi1 is len q r m n x y = one_refusal two.Sbi1 len (slots_of is) q r m n x.0 y.0
one_rule Sbi2 is len q r m n x y = one_refusal two.Sbi2 len (slots_of is) q r m n x.0 y.0
one_rule Sbi3 is len q r m n x y = one_refusal_3 len (slots_of is) q r m n x.0 y.0

-- a file that is read has no other refusal than one of the verifier
unread_or_file : (forms : Forms) (bytes : List ℕ) (e : ImageError) (rule : rules.Rule) (slot : ℕ) → IsUnread forms bytes e → IsRefusal forms bytes (Verify rule slot) → e ≢ Memory → ⊥
unread_or_file forms bytes e rule slot why (form, is, len, f, fault, taken) n = n (unread_memory forms form is len bytes e taken f why)

pub one_file_refusal : (forms : Forms) → IsOneFileRefusal forms
one_file_refusal forms bytes Memory e x y n n' = absurd (n refl)
one_file_refusal forms bytes (Header a) Memory x y n n' = absurd (n' refl)
one_file_refusal forms bytes (Header a) (Header b) x y n n' = ap (λ (z : HeaderFault). Header z) (firsts.first_once (HasFault forms bytes) _ a b x y)
one_file_refusal forms bytes (Header a) (Decode r m) x y n n' = absurd (faultless forms bytes a y.0 x)
one_file_refusal forms bytes (Header a) (Verify r m) x y n n' = absurd (unread_or_file forms bytes (Header a) r m x y n)
one_file_refusal forms bytes (Decode q l) Memory x y n n' = absurd (n' refl)
one_file_refusal forms bytes (Decode q l) (Header b) x y n n' = absurd (faultless forms bytes b x.0 y)
one_file_refusal forms bytes (Decode q l) (Decode r m) x y n n' = let k = one_fault (drop 8 bytes) q r l m x.1 y.1 in λ i. Decode (k.0 i) (k.1 i)
one_file_refusal forms bytes (Decode q l) (Verify r m) x y n n' = absurd (unread_or_file forms bytes (Decode q l) r m x y n)
one_file_refusal forms bytes (Verify q l) Memory x y n n' = absurd (n' refl)
one_file_refusal forms bytes (Verify q l) (Header b) x y n n' = absurd (unread_or_file forms bytes (Header b) q l y x n')
one_file_refusal forms bytes (Verify q l) (Decode r m) x y n n' = absurd (unread_or_file forms bytes (Decode r m) q l y x n')
one_file_refusal forms bytes (Verify q l) (Verify r m) (form, is, k, f, x, t) (form', js, k', g, y, t') n n' =
    let e = one_rule form' js k' q r l m (same_file (λ z i x. IsFault z i x q l) form form' is js k k' bytes f g x) y in
    λ i. Verify (e.0 i) (e.1 i)
