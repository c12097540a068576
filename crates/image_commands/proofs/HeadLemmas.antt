-- The first 8,201 bytes of a file decide whether it is an image, and why not: an image has fewer.
use Rattle.std.proofs.Common.{◌≡◌, ◌≤◌, ◌<◌, ◌∙◌, ◌⊎◌, ℕ, Bool, true, false, List, [], ◌∷◌, ◌++◌, length, take, drop, nat_le, refl, sym, subst, inl, inr, arith, length-append, take_all, length-take-le, take-append-drop}
use Rattle.std.proofs.lemmas.Bool.{leb-true, leb-false}
use Rattle.decode.specs.declared.insn.Insn.{Insn}
use Rattle.decode.specs.Encoding.{encoding}
use Rattle.decode.specs.First.{IsFirst}
use Rattle.decode.proofs.SlotLemmas.{length_encoding}
use Rattle.listing.specs.FileListing.{IsFileExplained}
use Rattle.verifier.specs.ImageFile.{HasFault, IsFile, IsHeaderFault, IsOther, field_at}
use Rattle.verifier.specs.declared.fault.HeaderFault.{HeaderFault}
use Rattle.verifier.specs.declared.fault.HeaderFault.TheVariants.{TooShort, Magic, StateLength, SlotCount, FileLength}
use Rattle.verifier.specs.declared.fault.ImageError.{ImageError}
use Rattle.verifier.specs.declared.fault.ImageError.TheVariants.{Memory, Header, Decode, Verify}
use Rattle.verifier.proofs.Files.{file_has, file_header, fields_of}
use Rattle.verifier.specs.AnyFile as any
use Rattle.verifier.specs.declared.file_form.FileForm.{FileForm}
use Rattle.verifier.specs.declared.header.Forms.{Forms}
use Rattle.verifier.specs.declared.header.Forms.TheVariants.{Any}
use Rattle.image_commands.specs.declared.check.TheConstants.{IMAGE_LIMIT}

file_length : (form : FileForm) (is : List Insn) (len : ℕ) (bytes : List ℕ) → IsFile form is len bytes → length bytes ≤ 8200
file_length form is len bytes f =
    let k = fields_of (file_header form is len) (encoding is) bytes (file_has form is len bytes f) in
    omega (arith, k.size, length_encoding is, f.short)

-- all of a file is read, or more than an image has is left
heads : (bytes : List ℕ) → (take IMAGE_LIMIT bytes ≡ bytes) ⊎ (IMAGE_LIMIT < length bytes)
heads bytes = go (nat_le (length bytes) IMAGE_LIMIT) refl
  where
    go : (b : Bool) → nat_le (length bytes) IMAGE_LIMIT ≡ b → (take IMAGE_LIMIT bytes ≡ bytes) ⊎ (IMAGE_LIMIT < length bytes)
    go true is = inl (take_all IMAGE_LIMIT bytes (leb-true (length bytes) IMAGE_LIMIT is))
    go false is = inr (leb-false (length bytes) IMAGE_LIMIT is)

cut : (bytes : List ℕ) → IMAGE_LIMIT < length bytes → length (take IMAGE_LIMIT bytes) ≡ IMAGE_LIMIT
cut bytes long = length-take-le IMAGE_LIMIT bytes (omega (arith, long))

-- what has no more bytes than an image has is whole where its first bytes are
kept : (P : List ℕ → Type 0) → ((bytes : List ℕ) → P bytes → length bytes ≤ 8200) → (bytes : List ℕ) → P (take IMAGE_LIMIT bytes) → P bytes
kept P short bytes p = go (heads bytes)
  where
    go : (take IMAGE_LIMIT bytes ≡ bytes) ⊎ (IMAGE_LIMIT < length bytes) → P bytes
    go (inl all) = subst P all p
    go (inr long) = absurd (omega (arith, short (take IMAGE_LIMIT bytes) p, cut bytes long))

-- a file whose first bytes are an image is that image
pub any_file : (form : FileForm) (is : List Insn) (len : ℕ) (bytes : List ℕ) → IsFile form is len (take IMAGE_LIMIT bytes) → IsFile form is len bytes
any_file form is len bytes f = kept (IsFile form is len) (file_length form is len) bytes f

-- a listing of its first bytes is one of the file
pub any_explained : (bytes text : List ℕ) → IsFileExplained (take IMAGE_LIMIT bytes) text → IsFileExplained bytes text
any_explained bytes text e = record {
  form = e.form;
  code = e.code;
  state = e.state;
  file = any_file e.form e.code e.state bytes e.file;
  listed = e.listed;
}

-- eight bytes keep their fields when more follows
same_fields : (xs more : List ℕ) → 8 ≤ length xs
    → (take 4 (xs ++ more) ≡ take 4 xs) × (field_at 4 (xs ++ more) ≡ field_at 4 xs) × (field_at 6 (xs ++ more) ≡ field_at 6 xs)
same_fields [] more l = absurd (omega arith)
same_fields (a ∷ []) more l = absurd (omega arith)
same_fields (a ∷ b ∷ []) more l = absurd (omega arith)
same_fields (a ∷ b ∷ c ∷ []) more l = absurd (omega arith)
same_fields (a ∷ b ∷ c ∷ d ∷ []) more l = absurd (omega arith)
same_fields (a ∷ b ∷ c ∷ d ∷ e ∷ []) more l = absurd (omega arith)
same_fields (a ∷ b ∷ c ∷ d ∷ e ∷ f ∷ []) more l = absurd (omega arith)
same_fields (a ∷ b ∷ c ∷ d ∷ e ∷ f ∷ g ∷ []) more l = absurd (omega arith)
same_fields (a ∷ b ∷ c ∷ d ∷ e ∷ f ∷ g ∷ h ∷ xs) more l = (refl, refl, refl)

-- a header's faults, in their order
abbrev all_faults : List HeaderFault
all_faults = TooShort ∷ Magic ∷ StateLength ∷ SlotCount ∷ FileLength ∷ []

-- a header's fault stays when more follows
still_broken : (forms : Forms) (fault : HeaderFault) (xs more : List ℕ) → length xs ≡ IMAGE_LIMIT
    → IsFirst (HasFault forms xs) all_faults fault → IsFirst (HasFault forms (xs ++ more)) all_faults fault
unfolding IsFirst
still_broken forms fault xs more long (inl short) = absurd (omega (arith, short.1, long))
still_broken forms fault xs more long (inr (a, later)) = inr ((λ s. omega (arith, s, long, length-append xs more)), go later)
  where
    same : (take 4 (xs ++ more) ≡ take 4 xs) × (field_at 4 (xs ++ more) ≡ field_at 4 xs) × (field_at 6 (xs ++ more) ≡ field_at 6 xs)
    same = same_fields xs more (omega (arith, long))

    no_magic : IsOther forms (take 4 xs) → IsOther forms (take 4 (xs ++ more))
    no_magic m = subst (IsOther forms) (sym same.0) m

    magic_left : IsOther forms (take 4 (xs ++ more)) → IsOther forms (take 4 xs)
    magic_left m = subst (IsOther forms) same.0 m

    count_more : HasFault forms xs SlotCount → HasFault forms (xs ++ more) SlotCount
    count_more (inl n) = inl (same.2 ∙ n)
    count_more (inr n) = inr (omega (arith, n, same.2))

    count_left : HasFault forms (xs ++ more) SlotCount → HasFault forms xs SlotCount
    count_left (inl n) = inl (sym same.2 ∙ n)
    count_left (inr n) = inr (omega (arith, n, same.2))

    go : IsFirst (HasFault forms xs) (Magic ∷ StateLength ∷ SlotCount ∷ FileLength ∷ []) fault → IsFirst (HasFault forms (xs ++ more)) (Magic ∷ StateLength ∷ SlotCount ∷ FileLength ∷ []) fault
    go (inl magic) = inl (magic.0, no_magic magic.1)
    go (inr (b, inl state)) = inr ((λ m. b (magic_left m)), inl (state.0, omega (arith, state.1, same.1)))
    go (inr (b, inr (c, inl count))) = inr ((λ m. b (magic_left m)), inr ((λ s. c (omega (arith, s, same.1))), inl (count.0, count_more count.1)))
    go (inr (b, inr (c, inr (d, inl size)))) =
        let length_more : HasFault forms (xs ++ more) FileLength = λ e. d (inr (omega (arith, e, long, length-append xs more, same.2))) in
        inr ((λ m. b (magic_left m)), inr ((λ s. c (omega (arith, s, same.1))), inr ((λ n. d (count_left n)), inl (size.0, length_more))))
    go (inr (b, inr (c, inr (d, inr e)))) = absurd e.1

head_first : (forms : Forms) (bytes : List ℕ) (fault : HeaderFault) → IMAGE_LIMIT < length bytes
    → IsFirst (HasFault forms (take IMAGE_LIMIT bytes)) all_faults fault → IsFirst (HasFault forms bytes) all_faults fault
head_first forms bytes fault long broken =
    subst (λ (b : List ℕ). IsFirst (HasFault forms b) all_faults fault) (take-append-drop IMAGE_LIMIT bytes)
    (still_broken forms fault (take IMAGE_LIMIT bytes) (drop IMAGE_LIMIT bytes) (cut bytes long) broken)

any_header : (bytes : List ℕ) (fault : HeaderFault) → IMAGE_LIMIT < length bytes → IsHeaderFault Any (take IMAGE_LIMIT bytes) fault → IsHeaderFault Any bytes fault
unfolding IsFirst
any_header bytes fault long broken = head_first Any bytes fault long broken

any_unread_of : (bytes : List ℕ) (e : ImageError) → IMAGE_LIMIT < length bytes → any.IsUnread (take IMAGE_LIMIT bytes) e → any.IsUnread bytes e
any_unread_of bytes Memory long why = tt
any_unread_of bytes (Header fault) long why = any_header bytes fault long why
any_unread_of bytes (Decode rule slot) long why =
    absurd (why.0 FileLength (λ e. why.0 SlotCount (inr (omega (arith, e, cut bytes long)))))
any_unread_of bytes (Verify rule slot) long why = absurd why

-- what makes its first bytes no image file makes the file none
pub any_unread : (bytes : List ℕ) (e : ImageError) → any.IsUnread (take IMAGE_LIMIT bytes) e → any.IsUnread bytes e
any_unread bytes e why = go (heads bytes)
  where
    go : (take IMAGE_LIMIT bytes ≡ bytes) ⊎ (IMAGE_LIMIT < length bytes) → any.IsUnread bytes e
    go (inl all) = subst (λ b. any.IsUnread b e) all why
    go (inr long) = any_unread_of bytes e long why

-- what makes its first bytes no file of typable code makes the file none
pub any_refusal : (bytes : List ℕ) (e : ImageError) → any.IsRefusal (take IMAGE_LIMIT bytes) e → any.IsRefusal bytes e
any_refusal bytes Memory why = tt
any_refusal bytes (Header fault) why = any_unread bytes (Header fault) why
any_refusal bytes (Decode rule slot) why = any_unread bytes (Decode rule slot) why
any_refusal bytes (Verify rule slot) why = (why.0, why.1, why.2, any_file why.0 why.1 why.2 bytes why.3, why.4, why.5)
