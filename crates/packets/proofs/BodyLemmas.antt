-- The fields of a kind are read just where they are a body's
use Rattle.std.proofs.Common.{◌≡◌, ℕ, ◌<◌, List, [], ◌∷◌, ◌++◌, Ok, Err, refl, sym, subst, inl, inr}
use Rattle.packets.specs.declared.kind.PacketKind.{PacketKind}
use Rattle.packets.specs.declared.kind.PacketKind.TheVariants as kinds
use Rattle.packets.specs.declared.page.LoggedMessage.{LoggedMessage}
use Rattle.packets.specs.declared.page.Pair.{Pair}
use Rattle.packets.specs.declared.packet.Body.{Body}
use Rattle.packets.specs.declared.packet.Body.TheVariants.{Delivery, Number, Acknowledgement, Ask, Told, Resume, Restored, Saved}
use Rattle.packets.specs.declared.fault.PacketFault.{PacketFault}
use Rattle.packets.specs.declared.fault.PacketFault.TheVariants.{Fields}
use Rattle.packets.specs.Packet.{kind_of}
use Rattle.packets.specs.Format.{long_bytes, IsLong, IsPayload, IsEntry, IsPair, IsPage, HasRoom, payload_bytes, entry_bytes, pair_bytes, page_bytes, body_bytes}
use Rattle.packets.specs.Inside.Reader.{◌>>=◌, Reader, byte_at, number_at, payload_at, entry_at, pair_at, counted_at, both, whole, body_at}
use Rattle.packets.proofs.Codecs.{IsBytes, bind_ok, ok_is, done, Codec, byte_codec, word_codec, payload_codec, entry_codec, pair_codec, two_words, word_then, both_codec, page_codec, whole_found, whole_again, whole_fails, bind_err}

-- what stands behind the words of a page: flags and entries
abbrev flagged_bytes : {A : Type 0} → (A → List ℕ) → ℕ × List A → List ℕ
flagged_bytes spell x = x.0 ∷ [] ++ page_bytes spell x.1

abbrev IsFlagged : {A : Type 0} → (A → Type 0) → ℕ × List A → Type 0
IsFlagged P x = (x.0 < 256) × IsPage P x.1

flagged : (A : Type 0) (P : A → Type 0) (s : A → List ℕ) (r : Reader A) → Codec A P s r → Codec (ℕ × List A) (λ x. IsFlagged P x) (λ x. flagged_bytes s x) (both byte_at (counted_at 2 r))
flagged A P s r one = both_codec ℕ (List A) (λ b. b < 256) (λ xs. IsPage P xs) (λ b. b ∷ []) (λ xs. page_bytes s xs) byte_at (counted_at 2 r) byte_codec (page_codec A P s r one)

delivery : Codec (ℕ × (ℕ × List ℕ)) (λ x. IsLong x.0 × (IsLong x.1.0 × IsPayload x.1.1)) (λ x. long_bytes x.0 ++ (long_bytes x.1.0 ++ payload_bytes x.1.1)) (both (number_at 8) (both (number_at 8) payload_at))
delivery = word_then (ℕ × List ℕ) (λ x. IsLong x.0 × IsPayload x.1) (λ x. long_bytes x.0 ++ payload_bytes x.1) (both (number_at 8) payload_at)
    (word_then (List ℕ) (λ p. IsPayload p) (λ p. payload_bytes p) payload_at payload_codec)

three_words : Codec (ℕ × (ℕ × ℕ)) (λ x. IsLong x.0 × (IsLong x.1.0 × IsLong x.1.1)) (λ x. long_bytes x.0 ++ (long_bytes x.1.0 ++ long_bytes x.1.1)) (both (number_at 8) (both (number_at 8) (number_at 8)))
three_words = word_then (ℕ × ℕ) (λ x. IsLong x.0 × IsLong x.1) (λ x. long_bytes x.0 ++ long_bytes x.1) (both (number_at 8) (number_at 8)) two_words

-- three words, flags and entries
three_then : (B : Type 0) (Q : B → Type 0) (t : B → List ℕ) (q : Reader B) → Codec B Q t q
    → Codec (ℕ × (ℕ × (ℕ × B))) (λ x. IsLong x.0 × (IsLong x.1.0 × (IsLong x.1.1.0 × Q x.1.1.1))) (λ x. long_bytes x.0 ++ (long_bytes x.1.0 ++ (long_bytes x.1.1.0 ++ t x.1.1.1)))
    (both (number_at 8) (both (number_at 8) (both (number_at 8) q)))
three_then B Q t q one = word_then (ℕ × (ℕ × B)) (λ x. IsLong x.0 × (IsLong x.1.0 × Q x.1.1)) (λ x. long_bytes x.0 ++ (long_bytes x.1.0 ++ t x.1.1)) (both (number_at 8) (both (number_at 8) q))
    (word_then (ℕ × B) (λ x. IsLong x.0 × Q x.1) (λ x. long_bytes x.0 ++ t x.1) (both (number_at 8) q) (word_then B Q t q one))

abbrev ToldFields : Type 0
ToldFields = ℕ × (ℕ × (ℕ × (ℕ × List LoggedMessage)))

told : Codec ToldFields (λ x. IsLong x.0 × (IsLong x.1.0 × (IsLong x.1.1.0 × IsFlagged IsEntry x.1.1.1))) (λ x. long_bytes x.0 ++ (long_bytes x.1.0 ++ (long_bytes x.1.1.0 ++ flagged_bytes entry_bytes x.1.1.1)))
    (both (number_at 8) (both (number_at 8) (both (number_at 8) (both byte_at (counted_at 2 entry_at)))))
told = three_then (ℕ × List LoggedMessage) (λ x. IsFlagged IsEntry x) (λ x. flagged_bytes entry_bytes x) (both byte_at (counted_at 2 entry_at)) (flagged LoggedMessage (λ e. IsEntry e) (λ e. entry_bytes e) entry_at entry_codec)

abbrev RestoredFields : Type 0
RestoredFields = ℕ × (ℕ × (ℕ × (ℕ × (ℕ × List Pair))))

restored : Codec RestoredFields (λ x. IsLong x.0 × (IsLong x.1.0 × (IsLong x.1.1.0 × (IsLong x.1.1.1.0 × IsFlagged IsPair x.1.1.1.1))))
    (λ x. long_bytes x.0 ++ (long_bytes x.1.0 ++ (long_bytes x.1.1.0 ++ (long_bytes x.1.1.1.0 ++ flagged_bytes pair_bytes x.1.1.1.1))))
    (both (number_at 8) (both (number_at 8) (both (number_at 8) (both (number_at 8) (both byte_at (counted_at 2 pair_at))))))
restored = three_then (ℕ × (ℕ × List Pair)) (λ x. IsLong x.0 × IsFlagged IsPair x.1) (λ x. long_bytes x.0 ++ flagged_bytes pair_bytes x.1) (both (number_at 8) (both byte_at (counted_at 2 pair_at)))
    (word_then (ℕ × List Pair) (λ x. IsFlagged IsPair x) (λ x. flagged_bytes pair_bytes x) (both byte_at (counted_at 2 pair_at)) (flagged Pair (λ p. IsPair p) (λ p. pair_bytes p) pair_at pair_codec))

-- ---- bodies

-- the fields are this body's
pub record IsBody (kind : PacketKind) (bytes : List ℕ) (b : Body) : Type 0 where
  pub kind_is : kind_of b ≡ kind
  pub room : HasRoom b
  pub spelled : bytes ≡ body_bytes b

-- a body of fields that were read whole
found : (A : Type 0) (P : A → Type 0) (s : A → List ℕ) (r : Reader A) (f : A → Body) (kind : PacketKind) → Codec A P s r → ((a : A) → P a → IsBody kind (s a) (f a)) → (bytes : List ℕ) (b : Body) → IsBytes bytes
    → (whole r bytes >>= λ x. Ok (f x)) ≡ Ok b → IsBody kind bytes b
found A P s r f kind one is bytes b fits e =
    let a = bind_ok (whole r bytes) (λ x. Ok (f x)) b e in
    let t = whole_found A P s r one bytes a.0 fits a.1 in
    let here : IsBody kind bytes (f a.0) = subst (λ (text : List ℕ). IsBody kind text (f a.0)) (sym t.1) (is a.0 t.0) in
    subst (λ (y : Body). IsBody kind bytes y) (ok_is (f a.0) b a.2) here

-- fields that are read are the bytes of the body that they are read as
pub body_found : (kind : PacketKind) (bytes : List ℕ) (b : Body) → IsBytes bytes → body_at kind bytes ≡ Ok b → IsBody kind bytes b
unfolding body_at
body_found kinds.Delivery = found _ _ _ _ (λ x. Delivery x.0 x.1.0 x.1.1) kinds.Delivery delivery (λ a h. record { kind_is = refl; room = h; spelled = refl })
body_found kinds.Number = found _ _ _ _ (λ x. Number x.0 x.1.0 x.1.1) kinds.Number three_words (λ a h. record { kind_is = refl; room = h; spelled = refl })
body_found kinds.Acknowledgement = found _ _ _ _ (λ x. Acknowledgement x.0 x.1) kinds.Acknowledgement two_words (λ a h. record { kind_is = refl; room = h; spelled = refl })
body_found kinds.Ask = found _ _ _ _ (λ x. Ask x.0 x.1) kinds.Ask two_words (λ a h. record { kind_is = refl; room = h; spelled = refl })
body_found kinds.Told = found _ _ _ _ (λ x. Told x.0 x.1.0 x.1.1.0 (record { bits = x.1.1.1.0 }) x.1.1.1.1) kinds.Told told (λ a h. record { kind_is = refl; room = h; spelled = refl })
body_found kinds.Resume = found _ _ _ _ (λ x. Resume x.0 x.1.0 x.1.1) kinds.Resume three_words (λ a h. record { kind_is = refl; room = h; spelled = refl })
body_found kinds.Restored = found _ _ _ _ (λ x. Restored x.0 x.1.0 x.1.1.0 x.1.1.1.0 (record { bits = x.1.1.1.1.0 }) x.1.1.1.1.1) kinds.Restored restored (λ a h. record { kind_is = refl; room = h; spelled = refl })
body_found kinds.Saved = found _ _ _ _ (λ x. Saved x) kinds.Saved word_codec (λ a h. record { kind_is = refl; room = h; spelled = refl })

again : (A : Type 0) (P : A → Type 0) (s : A → List ℕ) (r : Reader A) (f : A → Body) → Codec A P s r → (a : A) → P a → (whole r (s a) >>= λ x. Ok (f x)) ≡ Ok (f a)
again A P s r f one a h = rw (whole_again A P s r one a h) refl

-- the bytes of a body are read as the body
pub body_again : (b : Body) → HasRoom b → body_at (kind_of b) (body_bytes b) ≡ Ok b
unfolding body_at
body_again (Delivery i ssn payload) h = again _ _ _ _ (λ x. Delivery x.0 x.1.0 x.1.1) delivery (i, (ssn, payload)) h
body_again (Number i ssn k) h = again _ _ _ _ (λ x. Number x.0 x.1.0 x.1.1) three_words (i, (ssn, k)) h
body_again (Acknowledgement i k) h = again _ _ _ _ (λ x. Acknowledgement x.0 x.1) two_words (i, k) h
body_again (Ask i k) h = again _ _ _ _ (λ x. Ask x.0 x.1) two_words (i, k) h
body_again (Told i j k flags entries) h = again _ _ _ _ (λ x. Told x.0 x.1.0 x.1.1.0 (record { bits = x.1.1.1.0 }) x.1.1.1.1) told (i, (j, (k, (flags.bits, entries)))) h
body_again (Resume i kept s) h = again _ _ _ _ (λ x. Resume x.0 x.1.0 x.1.1) three_words (i, (kept, s)) h
body_again (Restored i j c s flags pairs) h = again _ _ _ _ (λ x. Restored x.0 x.1.0 x.1.1.0 x.1.1.1.0 (record { bits = x.1.1.1.1.0 }) x.1.1.1.1.1) restored (i, (j, (c, (s, (flags.bits, pairs))))) h
body_again (Saved c) h = again _ _ _ _ (λ x. Saved x) word_codec c h

fails : (A : Type 0) (P : A → Type 0) (s : A → List ℕ) (r : Reader A) (f : A → Body) → Codec A P s r → (bytes : List ℕ) (d : PacketFault) → (whole r bytes >>= λ x. Ok (f x)) ≡ Err d → d ≡ Fields
fails A P s r f one bytes d e =
    elim (bind_err (whole r bytes) (λ x. Ok (f x)) d e) [
      | inl h ↦ whole_fails A P s r one bytes d h
      | inr h ↦ let no : done (f h.0) ≡ Err d = h.2 in absurd cc
    ]

-- where fields can't be read as a body, the fault is `Fields`
pub body_fails : (kind : PacketKind) (bytes : List ℕ) (d : PacketFault) → body_at kind bytes ≡ Err d → d ≡ Fields
unfolding body_at
body_fails kinds.Delivery = fails _ _ _ _ (λ x. Delivery x.0 x.1.0 x.1.1) delivery
body_fails kinds.Number = fails _ _ _ _ (λ x. Number x.0 x.1.0 x.1.1) three_words
body_fails kinds.Acknowledgement = fails _ _ _ _ (λ x. Acknowledgement x.0 x.1) two_words
body_fails kinds.Ask = fails _ _ _ _ (λ x. Ask x.0 x.1) two_words
body_fails kinds.Told = fails _ _ _ _ (λ x. Told x.0 x.1.0 x.1.1.0 (record { bits = x.1.1.1.0 }) x.1.1.1.1) told
body_fails kinds.Resume = fails _ _ _ _ (λ x. Resume x.0 x.1.0 x.1.1) three_words
body_fails kinds.Restored = fails _ _ _ _ (λ x. Restored x.0 x.1.0 x.1.1.0 x.1.1.1.0 (record { bits = x.1.1.1.1.0 }) x.1.1.1.1.1) restored
body_fails kinds.Saved = fails _ _ _ _ (λ x. Saved x) word_codec
