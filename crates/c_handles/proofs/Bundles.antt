-- Reading the packets of a bundle
use Rattle.std.proofs.Common.{Bool, false, eqb, ◌↔◌, IsTrue, ◌≡◌, ◌∙◌, ℕ, ◌+◌, ◌<◌, ◌≤◌, List, [], ◌∷◌, ◌++◌, length, take, drop, refl, sym, ap, subst, append_assoc, arith}
use Rattle.std.specs.List.{flat_map, AllByRecursion}
use Rattle.std.proofs.lemmas.List.{take_at, drop_at, length-append, append-nil, flat_map_more}
use Rattle.std.proofs.lemmas.Bool.{ne_eqb, false≢true}
use Rattle.byteorder.specs.Endian.{little_bytes, little_number}
use Rattle.byteorder.specs.Numbers.{little_number-reads_back, length-bytes_low_first}
use Rattle.operations.specs.Bytes.{overwritten}
use Rattle.c_handles.specs.Bundle.{IsPart, IsBundle, part_bytes, BeginsWithNone, FitsFrom, InOrder, GivesNext}
use Rattle.c_handles.proofs.Overwritten.{overwritten_none, put_more}

-- the first two bytes of a part tell its length
told : (packet rest bytes : List ℕ) → IsPart packet → bytes ≡ part_bytes packet ++ rest → little_number 2 bytes ≡ length packet
told packet rest bytes part e =
    ap (little_number 2) (e ∙ append_assoc (little_bytes 2 (length packet)) packet rest) ∙ little_number-reads_back 2 (length packet) (packet ++ rest) part.1

-- so many bytes there are
size_is : (packet rest bytes : List ℕ) → bytes ≡ part_bytes packet ++ rest → length bytes ≡ 2 + length packet + length rest
size_is packet rest bytes e =
    let a = length-append (part_bytes packet) rest in
    let b = length-append (little_bytes 2 (length packet)) packet in
    let c = length-bytes_low_first 0 2 (length packet) in
    let d : length bytes ≡ length (part_bytes packet ++ rest) = ap length e in
    omega (arith, a, b, c, d)

-- parts are told apart from the front
same_front : (x y r s : List ℕ) → IsPart x → IsPart y → part_bytes x ++ r ≡ part_bytes y ++ s → (x ≡ y) × (r ≡ s)
same_front x y r s px py e =
    let n : length x ≡ length y = sym (told x r (part_bytes x ++ r) px refl) ∙ told y s (part_bytes x ++ r) py e in
    let k = 2 + length x in
    let kx : length (part_bytes x) ≡ k = omega (arith, length-append (little_bytes 2 (length x)) x, length-bytes_low_first 0 2 (length x)) in
    let ky : length (part_bytes y) ≡ k = omega (arith, length-append (little_bytes 2 (length y)) y, length-bytes_low_first 0 2 (length y), n) in
    let parts : part_bytes x ≡ part_bytes y = sym (take_at (part_bytes x) r k kx) ∙ ap (take k) e ∙ take_at (part_bytes y) s k ky in
    let rests : r ≡ s = sym (drop_at (part_bytes x) r k kx) ∙ ap (drop k) e ∙ drop_at (part_bytes y) s k ky in
    let packets : x ≡ y =
    sym (drop_at (little_bytes 2 (length x)) x 2 (length-bytes_low_first 0 2 (length x))) ∙ ap (drop 2) parts ∙ drop_at (little_bytes 2 (length y)) y 2 (length-bytes_low_first 0 2 (length y)) in
    (packets, rests)

-- bytes that parts and then no part more begin are a bundle's only if nothing is left
all_read : (xs ys : List (List ℕ)) (rest : List ℕ) → AllByRecursion IsPart xs → AllByRecursion IsPart ys → BeginsWithNone rest
    → flat_map part_bytes xs ++ rest ≡ flat_map part_bytes ys → rest ≡ []
all_read [] [] rest ax ay none e = e
all_read [] (y ∷ ys) rest ax ay none e = absurd (none y (flat_map part_bytes ys) ay.0 e)
all_read (x ∷ xs) [] rest ax ay none e =
    let a = size_is x (flat_map part_bytes xs ++ rest) [] (sym e ∙ append_assoc (part_bytes x) (flat_map part_bytes xs) rest) in
    absurd (omega (arith, a))
all_read (x ∷ xs) (y ∷ ys) rest ax ay none e =
    let step = same_front x y (flat_map part_bytes xs ++ rest) (flat_map part_bytes ys) ax.0 ay.0 (sym (append_assoc (part_bytes x) (flat_map part_bytes xs) rest) ∙ e) in
    all_read xs ys rest ax.1 ay.1 none step.1

-- ---- one packet after another

-- these packets are at the front, and these bytes after them
pub record Fronts (packets : List (List ℕ)) (bytes rest : List ℕ) : Type 0 where
  pub each : AllByRecursion IsPart packets
  pub joined : bytes ≡ flat_map part_bytes packets ++ rest

all_more : (xs : List (List ℕ)) (x : List ℕ) → AllByRecursion IsPart xs → IsPart x → AllByRecursion IsPart (xs ++ x ∷ [])
all_more [] x all one = (one, tt)
all_more (y ∷ ys) x all one = (all.0, all_more ys x all.1 one)

-- one more
pub more_front : (packets : List (List ℕ)) (packet bytes rest after : List ℕ) → Fronts packets bytes rest → IsPart packet → rest ≡ part_bytes packet ++ after
    → Fronts (packets ++ packet ∷ []) bytes after
more_front packets packet bytes rest after front part e = record {
  each = all_more packets packet front.each part;
  joined = front.joined
      ∙ ap (λ (ys : List ℕ). flat_map part_bytes packets ++ ys) e
      ∙ sym (append_assoc (flat_map part_bytes packets) (part_bytes packet) after)
      ∙ ap (λ (ys : List ℕ). ys ++ after) (flat_map_more part_bytes [] packets packet);
}

-- if nothing is left they are a bundle
pub is_all : (packets : List (List ℕ)) (bytes rest : List ℕ) → Fronts packets bytes rest → rest ≡ [] → IsBundle packets bytes
is_all packets bytes rest front e = record {
  each = front.each;
  bytes_are = front.joined ∙ ap (λ (ys : List ℕ). flat_map part_bytes packets ++ ys) e ∙ append-nil (flat_map part_bytes packets);
}

-- if no packet is left, and the bytes are a bundle's, nothing is left
pub none_left : (packets all : List (List ℕ)) (bytes rest : List ℕ) → Fronts packets bytes rest → BeginsWithNone rest → IsBundle all bytes → rest ≡ []
none_left packets all bytes rest front none is = all_read packets all rest front.each is.each none (sym front.joined ∙ is.bytes_are)

-- so nothing is left just if the bytes are a bundle's
pub whole : (b : Bool) (packets : List (List ℕ)) (bytes rest : List ℕ) → b ≡ eqb (length rest) 0 → Fronts packets bytes rest → BeginsWithNone rest
    → IsTrue b ↔ (all : List (List ℕ)) × IsBundle all bytes
whole b packets bytes [] e front none = (λ yes. (packets, is_all packets bytes [] front refl), λ is. e)
whole b packets bytes (x ∷ rest) e front none =
    let no : eqb (length (x ∷ rest)) 0 ≡ false = ne_eqb (length (x ∷ rest)) 0 (omega arith) in
    let left : (all : List (List ℕ)) × IsBundle all bytes → x ∷ rest ≡ [] = λ is. none_left packets is.0 bytes (x ∷ rest) front none is.1 in
    (λ yes. absurd (false≢true (sym no ∙ sym e ∙ yes)), λ is. absurd (let f = left is in cc))

-- one thing more is done
pub one_more : {X S : Type 0} (Does : X → S → S → Type 0) (xs : List X) (x : X) (a b c : S) → InOrder Does xs a b → Does x b c → InOrder Does (xs ++ x ∷ []) a c
one_more Does [] x a b c all one = (c, subst (λ s. Does x s c) all one, refl)
one_more Does (y ∷ ys) x a b c all one = (all.0, all.1, one_more Does ys x all.0 b c all.2 one)

-- something is done with one packet more, and counted
pub goes_on : {S : Type 0} (Does : List ℕ → S → S → Type 0) (packets : List (List ℕ)) (packet bytes rest after : List ℕ) (a b c : S) (n m : ℕ) → Fronts packets bytes rest → InOrder Does packets a b
    → n + length rest ≤ length bytes → IsPart packet → rest ≡ part_bytes packet ++ after → Does packet b c → m ≡ n + 1
    → (all : List (List ℕ)) × Fronts all bytes after × InOrder Does all a c × (m + length after ≤ length bytes)
goes_on Does packets packet bytes rest after a b c n m front all few part e one count =
    let size = size_is packet after rest e in
    (packets ++ packet ∷ [], more_front packets packet bytes rest after front part e, one_more Does packets packet a b c all one, omega (arith, size, few, count))

-- ---- packets that are written

-- these packets are at the front of a buffer, up to here; this many
pub record Laid (out out' : List ℕ) (end count : ℕ) (packets : List (List ℕ)) : Type 0 where
  pub each : AllByRecursion IsPart packets
  pub laid : out' ≡ overwritten out 0 (flat_map part_bytes packets)
  pub end_is : end ≡ length (flat_map part_bytes packets)
  pub within : end ≤ length out
  pub count_is : count ≡ length packets
  pub few : count ≤ end

pub none_laid : (out : List ℕ) → Laid out out 0 0 []
none_laid out = record { each = tt; laid = overwritten_none out 0; end_is = refl; within = omega arith; count_is = refl; few = omega arith }

-- one more
pub more_laid : (out mid out' : List ℕ) (end end' count count' : ℕ) (packets : List (List ℕ)) (packet : List ℕ) → Laid out mid end count packets → 0 < length packet → FitsFrom end (length mid) packet
    → out' ≡ overwritten mid end (part_bytes packet) → end' ≡ end + length (part_bytes packet) → length mid ≡ length out → count' ≡ count + 1 → Laid out out' end' count' (packets ++ packet ∷ [])
more_laid out mid out' end end' count count' packets packet l some fits written e same c =
    let joined : flat_map part_bytes packets ++ part_bytes packet ≡ flat_map part_bytes (packets ++ packet ∷ []) = flat_map_more part_bytes [] packets packet in
    let long = length-append (flat_map part_bytes packets) (part_bytes packet) in
    let size : length (part_bytes packet) ≡ 2 + length packet = omega (arith, length-append (little_bytes 2 (length packet)) packet, length-bytes_low_first 0 2 (length packet)) in
    let ends : end' ≡ length (flat_map part_bytes packets ++ part_bytes packet) = omega (arith, long, e, l.end_is) in
    record {
      each = all_more packets packet l.each (some, fits.0);
      laid = put_more out mid out' 0 end (flat_map part_bytes packets) (part_bytes packet) l.laid (omega (arith, l.end_is)) (omega (arith, l.end_is, l.within)) written ∙ ap (overwritten out 0) joined;
      end_is = ends ∙ ap length joined;
      within = omega (arith, e, size, fits.1, same);
      count_is = omega (arith, c, l.count_is, length-append packets (packet ∷ []));
      few = omega (arith, c, l.few, e, size);
    }

-- one more is given and written
pub next_laid : {S : Type 0} (Gives : ℕ → List ℕ → S → S → Type 0) (out mid out' : List ℕ) (end end' count to : ℕ) (packets : List (List ℕ)) (a b c : S) → Laid out mid end count packets → InOrder (Gives to) packets a b → length mid ≡ length out
    → GivesNext Gives mid out' end end' to b c → (all : List (List ℕ)) × Laid out out' end' (count + 1) all × InOrder (Gives to) all a c
next_laid Gives out mid out' end end' count to packets a b c laid given same g = (
  packets ++ g.packet ∷ [],
  more_laid out mid out' end end' count (count + 1) packets g.packet laid g.some g.fits g.written g.end_is same refl,
  one_more (Gives to) packets g.packet a b c given g.given,
)
