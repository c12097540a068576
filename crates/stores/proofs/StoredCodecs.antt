-- The fields of a store are read just where they are spelled
use Rattle.std.proofs.Common.{◌≡◌, ℕ, ◌<◌, ◌^◌, List, [], ◌∷◌, ◌++◌, length, Result, Ok, refl, ap, subst, ◌∙◌}
use Rattle.std.specs.List.{flat_map, AllByRecursion}
use Rattle.packets.specs.Format.{long_bytes, payload_bytes, IsLong, IsPayload}
use Rattle.packets.specs.Kept.{word_bytes}
use Rattle.packets.specs.Inside.Reader.{◌>>=◌, Reader, byte_at, number_at, payload_at, both, counted_at, times, whole}
use Rattle.packets.proofs.Codecs.{IsBytes, bind_ok, ok_is, Codec, byte_codec, payload_codec, mapped_codec, both_codec, word_then, times_codec, quads_codec, whole_found, whole_again}
use Rattle.stores.specs.declared.change.Output.{Output}
use Rattle.stores.specs.declared.stored.StoredEntry.{StoredEntry}
use Rattle.stores.specs.declared.stored.StoredHead.{StoredHead}
use Rattle.stores.specs.declared.stored.StoredLog.{StoredLog}
use Rattle.stores.specs.declared.stored.StoredStore.{StoredStore}
use Rattle.stores.specs.Format.{head_bytes, entry_bytes, log_bytes, output_bytes, stored_bytes}
use Rattle.stores.specs.Faults.{IsHead, IsEntry, IsLog, IsOutputRoom, StoredHasRoom}
use Rattle.stores.specs.Inside.Reader.{head_at, entry_at, log_at, output_at, stored_of, stored_at}

head_codec : Codec StoredHead (λ h. IsHead h) (λ h. head_bytes h) head_at
unfolding head_at
head_codec = mapped_codec (ℕ × (ℕ × ℕ)) StoredHead (λ x. IsLong x.0 × (IsLong x.1.0 × (x.1.1 < 256))) (λ x. long_bytes x.0 ++ (long_bytes x.1.0 ++ x.1.1 ∷ [])) (both (number_at 8) (both (number_at 8) byte_at))
    (λ x. record { shown = x.0; heard = x.1.0; resumed = x.1.1 }) (λ h. (h.shown, (h.heard, h.resumed))) (λ x. refl) (λ h. refl)
    (word_then (ℕ × ℕ) (λ x. IsLong x.0 × (x.1 < 256)) (λ x. long_bytes x.0 ++ x.1 ∷ []) (both (number_at 8) byte_at) (word_then ℕ (λ b. b < 256) (λ b. b ∷ []) byte_at byte_codec))

entry_codec : Codec StoredEntry (λ e. IsEntry e) (λ e. entry_bytes e) entry_at
unfolding entry_at
entry_codec = mapped_codec (ℕ × List ℕ) StoredEntry (λ x. IsLong x.0 × IsPayload x.1) (λ x. long_bytes x.0 ++ payload_bytes x.1) (both (number_at 8) payload_at)
    (λ x. record { number = x.0; payload = x.1 }) (λ e. (e.number, e.payload)) (λ x. refl) (λ e. refl)
    (word_then (List ℕ) (λ p. IsPayload p) (λ p. payload_bytes p) payload_at payload_codec)

abbrev IsEntries : List StoredEntry → Type 0
IsEntries xs = (length xs < 2 ^ 32) × AllByRecursion IsEntry xs

abbrev entries_bytes : List StoredEntry → List ℕ
entries_bytes xs = word_bytes (length xs) ++ flat_map entry_bytes xs

log_codec : Codec StoredLog (λ l. IsLog l) (λ l. log_bytes l) log_at
unfolding log_at
log_codec = mapped_codec (ℕ × List StoredEntry) StoredLog (λ x. IsLong x.0 × IsEntries x.1) (λ x. long_bytes x.0 ++ entries_bytes x.1) (both (number_at 8) (counted_at 4 entry_at))
    (λ x. record { first = x.0; entries = x.1 }) (λ l. (l.first, l.entries)) (λ x. refl) (λ l. refl)
    (word_then (List StoredEntry) (λ xs. IsEntries xs) (λ xs. entries_bytes xs) (counted_at 4 entry_at) (quads_codec StoredEntry (λ e. IsEntry e) (λ e. entry_bytes e) entry_at entry_codec))

-- an output: its process, its SSN and its payload
pub output_codec : Codec Output (λ o. IsOutputRoom o) (λ o. output_bytes o) output_at
unfolding output_at
output_codec = mapped_codec (ℕ × (ℕ × List ℕ)) Output (λ x. (x.0 < 256) × (IsLong x.1.0 × IsPayload x.1.1)) (λ x. x.0 ∷ [] ++ (long_bytes x.1.0 ++ payload_bytes x.1.1)) (both byte_at (both (number_at 8) payload_at))
    (λ x. record { process = x.0; ssn = x.1.0; payload = x.1.1 }) (λ o. (o.process, (o.ssn, o.payload))) (λ x. refl) (λ o. refl)
    (both_codec ℕ (ℕ × List ℕ) (λ b. b < 256) (λ x. IsLong x.0 × IsPayload x.1) (λ b. b ∷ []) (λ x. long_bytes x.0 ++ payload_bytes x.1) byte_at (both (number_at 8) payload_at) byte_codec
    (word_then (List ℕ) (λ p. IsPayload p) (λ p. payload_bytes p) payload_at payload_codec))

abbrev AreOutputs : List Output → Type 0
AreOutputs xs = (length xs < 2 ^ 32) × AllByRecursion IsOutputRoom xs

abbrev outputs_bytes : List Output → List ℕ
outputs_bytes xs = word_bytes (length xs) ++ flat_map output_bytes xs

abbrev Parts : Type 0
Parts = List StoredHead × (List StoredLog × List Output)

-- so many heads, and as many logs
abbrev HasParts : ℕ → Parts → Type 0
HasParts n x = ((length x.0 ≡ n) × AllByRecursion IsHead x.0) × (((length x.1.0 ≡ n) × AllByRecursion IsLog x.1.0) × AreOutputs x.1.1)

abbrev parts_bytes : Parts → List ℕ
parts_bytes x = flat_map head_bytes x.0 ++ (flat_map log_bytes x.1.0 ++ outputs_bytes x.1.1)

abbrev parts_at : ℕ → Reader Parts
parts_at n = both (times head_at n) (both (times log_at n) (counted_at 4 output_at))

parts_codec : (n : ℕ) → Codec Parts (λ x. HasParts n x) (λ x. parts_bytes x) (parts_at n)
parts_codec n =
    both_codec (List StoredHead) (List StoredLog × List Output) (λ xs. (length xs ≡ n) × AllByRecursion IsHead xs) (λ x. ((length x.0 ≡ n) × AllByRecursion IsLog x.0) × AreOutputs x.1)
    (λ xs. flat_map head_bytes xs) (λ x. flat_map log_bytes x.0 ++ outputs_bytes x.1) (times head_at n) (both (times log_at n) (counted_at 4 output_at))
    (times_codec n StoredHead (λ h. IsHead h) (λ h. head_bytes h) head_at head_codec)
    (both_codec (List StoredLog) (List Output) (λ ls. (length ls ≡ n) × AllByRecursion IsLog ls) (λ xs. AreOutputs xs) (λ ls. flat_map log_bytes ls) (λ xs. outputs_bytes xs) (times log_at n) (counted_at 4 output_at)
    (times_codec n StoredLog (λ l. IsLog l) (λ l. log_bytes l) log_at log_codec) (quads_codec Output (λ o. IsOutputRoom o) (λ o. output_bytes o) output_at output_codec))

-- the fields of so many processes are these
pub record IsStoredBody (n : ℕ) (fields : List ℕ) (r : StoredStore) : Type 0 where
  pub heads_are : length r.heads ≡ n
  pub logs_are : length r.logs ≡ n
  pub room : StoredHasRoom r
  pub spelled : fields ≡ stored_bytes r

-- fields that are read are those of what they are read as
pub stored_found : (n : ℕ) (fields : List ℕ) (r : StoredStore) → IsBytes fields → stored_at n fields ≡ Ok r → IsStoredBody n fields r
unfolding stored_at
stored_found n fields r fits e =
    let a = bind_ok (whole (parts_at n) fields) (λ x. Ok (stored_of x)) r e in
    let t = whole_found Parts (λ x. HasParts n x) (λ x. parts_bytes x) (parts_at n) (parts_codec n) fields a.0 fits a.1 in
    let p = t.0 in
    let here : IsStoredBody n fields (stored_of a.0) = record {
      heads_are = p.0.0;
      logs_are = p.1.0.0;
      room = record { heads = p.0.1; logs = p.1.0.1; few = p.1.1.0; outputs = p.1.1.1 };
      spelled = t.1;
    } in
    subst (λ (l : StoredStore). IsStoredBody n fields l) (ok_is (stored_of a.0) r a.2) here

-- and they are read as that
pub stored_again : (n : ℕ) (fields : List ℕ) (r : StoredStore) → IsStoredBody n fields r → stored_at n fields ≡ Ok r
unfolding stored_at
stored_again n fields r is =
    let x : Parts = (r.heads, (r.logs, r.outputs)) in
    let parts : HasParts n x = ((is.heads_are, is.room.heads), ((is.logs_are, is.room.logs), (is.room.few, is.room.outputs))) in
    let read : whole (parts_at n) (parts_bytes x) ≡ Ok x = whole_again Parts (λ y. HasParts n y) (λ y. parts_bytes y) (parts_at n) (parts_codec n) x parts in
    let all : whole (parts_at n) fields ≡ Ok x = ap (λ (text : List ℕ). whole (parts_at n) text) is.spelled ∙ read in
    ap (λ (y : Result Parts _). y >>= λ z. Ok (stored_of z)) all
