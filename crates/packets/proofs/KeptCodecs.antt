-- The fields of what is kept are read just where they are spelled
use Rattle.std.proofs.Common.{◌≡◌, ℕ, ◌<◌, ◌^◌, List, ◌++◌, length, Result, Ok, refl, sym, ap, subst, ◌∙◌}
use Rattle.std.specs.List.{flat_map, AllByRecursion}
use Rattle.packets.specs.declared.kept.Kept.{Kept}
use Rattle.packets.specs.declared.kept.KeptLog.{KeptLog}
use Rattle.packets.specs.declared.kept_reader.KeptHead.{KeptHead}
use Rattle.packets.specs.Format.{long_bytes, payload_bytes, IsLong, IsPayload}
use Rattle.packets.specs.Kept.{word_bytes, log_bytes, kept_fields, IsKeptLog, KeptHasRoom}
use Rattle.packets.specs.Inside.Reader.{◌>>=◌, Reader, bytes_at, number_at, payload_at, both, counted_at, times, whole}
use Rattle.packets.specs.Inside.KeptReader.{log_at, kept_of, kept_at}
use Rattle.packets.proofs.Codecs.{IsBytes, bind_ok, ok_is, Codec, word_codec, payload_codec, mapped_codec, both_codec, word_then, times_codec, quads_codec, bytes_codec, whole_found, whole_again}

abbrev IsPayloads : List (List ℕ) → Type 0
IsPayloads xs = (length xs < 2 ^ 32) × AllByRecursion IsPayload xs

abbrev payloads_bytes : List (List ℕ) → List ℕ
payloads_bytes xs = word_bytes (length xs) ++ flat_map payload_bytes xs

log_codec : Codec KeptLog (λ l. IsKeptLog l) (λ l. log_bytes l) log_at
unfolding log_at
log_codec = mapped_codec (ℕ × List (List ℕ)) KeptLog (λ x. IsLong x.0 × IsPayloads x.1) (λ x. long_bytes x.0 ++ payloads_bytes x.1) (both (number_at 8) (counted_at 4 payload_at))
    (λ x. record { first = x.0; payloads = x.1 }) (λ l. (l.first, l.payloads)) (λ x. refl) (λ l. refl)
    (word_then (List (List ℕ)) (λ xs. IsPayloads xs) (λ xs. payloads_bytes xs) (counted_at 4 payload_at) (quads_codec (List ℕ) (λ p. IsPayload p) (λ p. payload_bytes p) payload_at payload_codec))

abbrev pub KeptFields : Type 0
KeptFields = ℕ × (List ℕ × (List ℕ × List KeptLog))

-- so many counts, a state of this length, and so many logs
abbrev HasParts : ℕ → ℕ → KeptFields → Type 0
HasParts n len x = IsLong x.0 × (((length x.1.0 ≡ n) × AllByRecursion IsLong x.1.0) × ((length x.1.1.0 ≡ len) × ((length x.1.1.1 ≡ n) × AllByRecursion IsKeptLog x.1.1.1)))

abbrev parts_bytes : KeptFields → List ℕ
parts_bytes x = long_bytes x.0 ++ (flat_map long_bytes x.1.0 ++ (x.1.1.0 ++ flat_map log_bytes x.1.1.1))

abbrev parts_at : ℕ → ℕ → Reader KeptFields
parts_at n len = both (number_at 8) (both (times (number_at 8) n) (both (bytes_at len) (times log_at n)))

parts_codec : (n len : ℕ) → Codec KeptFields (λ x. HasParts n len x) (λ x. parts_bytes x) (parts_at n len)
parts_codec n len =
    word_then (List ℕ × (List ℕ × List KeptLog)) (λ x. ((length x.0 ≡ n) × AllByRecursion IsLong x.0) × ((length x.1.0 ≡ len) × ((length x.1.1 ≡ n) × AllByRecursion IsKeptLog x.1.1)))
    (λ x. flat_map long_bytes x.0 ++ (x.1.0 ++ flat_map log_bytes x.1.1)) (both (times (number_at 8) n) (both (bytes_at len) (times log_at n)))
    (both_codec (List ℕ) (List ℕ × List KeptLog) (λ xs. (length xs ≡ n) × AllByRecursion IsLong xs) (λ x. (length x.0 ≡ len) × ((length x.1 ≡ n) × AllByRecursion IsKeptLog x.1))
    (λ xs. flat_map long_bytes xs) (λ x. x.0 ++ flat_map log_bytes x.1) (times (number_at 8) n) (both (bytes_at len) (times log_at n))
    (times_codec n ℕ (λ k. IsLong k) (λ k. long_bytes k) (number_at 8) word_codec)
    (both_codec (List ℕ) (List KeptLog) (λ text. length text ≡ len) (λ ls. (length ls ≡ n) × AllByRecursion IsKeptLog ls) (λ text. text) (λ ls. flat_map log_bytes ls) (bytes_at len) (times log_at n)
    (bytes_codec len) (times_codec n KeptLog (λ l. IsKeptLog l) (λ l. log_bytes l) log_at log_codec)))

-- the fields behind a head are this one's
pub record IsKeptBody (h : KeptHead) (fields : List ℕ) (k : Kept) : Type 0 where
  pub me : k.me ≡ h.me
  pub count : k.count ≡ h.count
  pub state : length k.state ≡ h.state_len
  pub room : KeptHasRoom k
  pub spelled : fields ≡ kept_fields k

-- fields that are read are those of what they are read as
pub kept_found : (h : KeptHead) (fields : List ℕ) (k : Kept) → IsBytes fields → kept_at h fields ≡ Ok k → IsKeptBody h fields k
unfolding kept_at
kept_found h fields k fits e =
    let a = bind_ok (whole (parts_at h.count h.state_len) fields) (λ x. Ok (kept_of h x)) k e in
    let t = whole_found KeptFields (λ x. HasParts h.count h.state_len x) (λ x. parts_bytes x) (parts_at h.count h.state_len) (parts_codec h.count h.state_len) fields a.0 fits a.1 in
    let p = t.0 in
    let here : IsKeptBody h fields (kept_of h a.0) = record {
      me = refl;
      count = refl;
      state = p.1.1.0;
      room = record { length_is = p.0; counts = p.1.0.1; logs = p.1.1.1.1; counts_are = p.1.0.0; logs_are = p.1.1.1.0 };
      spelled = t.1;
    } in
    subst (λ (l : Kept). IsKeptBody h fields l) (ok_is (kept_of h a.0) k a.2) here

-- and they are read as that
pub kept_again_at : (h : KeptHead) (fields : List ℕ) (k : Kept) → IsKeptBody h fields k → kept_at h fields ≡ Ok k
unfolding kept_at
kept_again_at h fields k is =
    let r = is.room in
    let x : KeptFields = (k.length, (k.counts, (k.state, k.logs))) in
    let parts : HasParts h.count h.state_len x = (r.length_is, ((r.counts_are ∙ is.count, r.counts), (is.state, (r.logs_are ∙ is.count, r.logs)))) in
    let read : whole (parts_at h.count h.state_len) (parts_bytes x) ≡ Ok x = whole_again KeptFields (λ y. HasParts h.count h.state_len y) (λ y. parts_bytes y) (parts_at h.count h.state_len) (parts_codec h.count h.state_len) x parts in
    let all : whole (parts_at h.count h.state_len) fields ≡ Ok x = ap (λ (text : List ℕ). whole (parts_at h.count h.state_len) text) is.spelled ∙ read in
    let same : kept_of h x ≡ k = ap (λ (n : ℕ). kept_of (record { me = n; count = h.count; state_len = h.state_len }) x) (sym is.me) ∙ ap (λ (n : ℕ). kept_of (record { me = k.me; count = n; state_len = h.state_len }) x) (sym is.count) in
    ap (λ (y : Result KeptFields _). y >>= λ z. Ok (kept_of h z)) all ∙ ap (λ (l : Kept). Ok l) same
