-- The laws of packets: what is read is written so, what is written so is read, and a refusal is the first fault
use Rattle.std.proofs.Common.{◌≡◌, ℕ, suc, ◌-◌, ◌<◌, ◌≤◌, Bool, true, false, cond, eqb, List, [], ◌∷◌, ◌++◌, length, take, drop, Option, Some, None, Result, Ok, Err, refl, sym, ap, subst, ◌∙◌, arith, inl, inr, ◌⊎◌}
use Rattle.std.specs.Prelude.{◌≢◌, ◌||◌, nat_lt, IfOk, IfErr, slice_index, slice_index_or}
use Rattle.std.proofs.lemmas.Bool.{ltb-false, ltb-true, le-ltb, eqb-true, eqb-false, ne_eqb}
use Rattle.packets.specs.declared.kind.PacketKind as the_kind
use Rattle.packets.specs.declared.kind.PacketKind.TheVariants as kinds
use Rattle.packets.specs.declared.head.PacketHead.{PacketHead}
use Rattle.packets.specs.declared.packet.Body.{Body}
use Rattle.packets.specs.declared.packet.NodePacket.{NodePacket}
use Rattle.packets.specs.declared.fault.PacketFault.{PacketFault}
use Rattle.packets.specs.declared.fault.PacketFault.TheVariants.{Short, Magic, Checksum, Kind, Count, Ends, Fields, Range}
use Rattle.packets.specs.declared.fault.PacketError.{PacketError}
use Rattle.packets.specs.declared.fault.PacketError.TheVariants as errors
use Rattle.packets.specs.Packet.{kind_number, kind_at, kind_of, in_range}
use Rattle.packets.specs.Format.{magic, body_bytes, unsealed, packet_bytes, checksum_bytes, HasRoom, Fits, IsPacket}
use Rattle.packets.specs.Faults.{fault_number, fields_of, Spells, HasFault, IsFirst, IsReason, Reads}
use Rattle.packets.specs.Laws.{IsOnePacket}
use Rattle.packets.specs.Inside.Reader.{Gives, body_at, fields_at, known, head_in_range, head_at, packet_of, reading}
use Rattle.packets.proofs.Codecs.{IsBytes}
use Rattle.packets.proofs.Steps.{ok_is, err_is, bind_ok, bind_err, passed, cond_err}
use Rattle.packets.proofs.Sealing.{Numbered, AreOfSeal, AreSteps, sealed_again, first_refused, found_in, whole_text}
use Rattle.packets.proofs.Sealing as sealing
use Rattle.packets.proofs.BodyLemmas.{body_found, body_again, body_fails}

-- ---- kinds

kind_again : (k : the_kind.PacketKind) → kind_at (kind_number k) ≡ Some k
kind_again kinds.Delivery = refl
kind_again kinds.Number = refl
kind_again kinds.Acknowledgement = refl
kind_again kinds.Ask = refl
kind_again kinds.Told = refl
kind_again kinds.Resume = refl
kind_again kinds.Restored = refl
kind_again kinds.Saved = refl

some_is : {A : Type 0} (x y : A) → Some x ≡ Some y → x ≡ y
some_is x y e = cc

one_kind : (k l : the_kind.PacketKind) → kind_number k ≡ kind_number l → k ≡ l
one_kind k l e = some_is k l (sym (kind_again k) ∙ ap kind_at e ∙ kind_again l)

picked : (b : Bool) (x k : the_kind.PacketKind) (rest : Option the_kind.PacketKind) → cond b (Some x) rest ≡ Some k → ((b ≡ true) × (x ≡ k)) ⊎ (rest ≡ Some k)
picked true x k rest e = inl (refl, some_is x k e)
picked false x k rest e = inr e

this_or : (n : ℕ) (x k : the_kind.PacketKind) (rest : Option the_kind.PacketKind) → (rest ≡ Some k → kind_number k ≡ n) → cond (eqb n (kind_number x)) (Some x) rest ≡ Some k → kind_number k ≡ n
this_or n x k rest others e =
    elim (picked (eqb n (kind_number x)) x k rest e) [
      | inl h ↦ ap kind_number (sym h.1) ∙ sym (eqb-true n (kind_number x) h.0)
      | inr h ↦ others h
    ]

none_is : (n : ℕ) (k : the_kind.PacketKind) → None ≡ Some k → kind_number k ≡ n
none_is n k e = absurd cc

kind_found : (n : ℕ) (k : the_kind.PacketKind) → kind_at n ≡ Some k → kind_number k ≡ n
kind_found n k = this_or n kinds.Delivery k _ (this_or n kinds.Number k _ (this_or n kinds.Acknowledgement k _ (this_or n kinds.Ask k _
    (this_or n kinds.Told k _ (this_or n kinds.Resume k _ (this_or n kinds.Restored k _ (this_or n kinds.Saved k _ (none_is n k))))))))

-- ---- faults before others

faults_by : Numbered fault_number
faults_by = record {
  at = λ n. slice_index_or (Range ∷ Short ∷ Magic ∷ Checksum ∷ Kind ∷ Count ∷ Ends ∷ Fields ∷ []) n Range;
  again = elim [ Short ↦ refl | Magic ↦ refl | Checksum ↦ refl | Kind ↦ refl | Count ↦ refl | Ends ↦ refl | Fields ↦ refl | Range ↦ refl ];
  last = omega arith;
}

seal : AreOfSeal fault_number HasFault Short Magic Checksum 12 magic
seal = record { by = faults_by; first = refl; second = refl; third = refl; short_is = λ bytes. (λ h. h, λ h. h); magic_is = λ bytes. (λ h. h, λ h. h); checksum_is = λ bytes. (λ h. h, λ h. h) }

abbrev Clear : ℕ → List ℕ → Type 0
Clear = sealing.Clear fault_number HasFault

clear_more : (f : PacketFault) (bytes : List ℕ) → Clear (fault_number f) bytes → ¬ HasFault f bytes → Clear (suc (fault_number f)) bytes
clear_more = sealing.clear_more fault_number HasFault faults_by

-- bytes with this fault and none before it
as_first : (d f : PacketFault) (bytes : List ℕ) → d ≡ f → HasFault d bytes → Clear (fault_number d) bytes → IsFirst f bytes
as_first = sealing.as_first_of fault_number HasFault

-- ---- the head

pub neither : (a b : Bool) → (a || b) ≡ false → (a ≡ false) × (b ≡ false)
neither false false e = (refl, refl)
neither false true e = absurd cc
neither true b e = absurd cc

pub either : (a b : Bool) → (a || b) ≡ true → (a ≡ true) ⊎ (b ≡ true)
either true b e = inl refl
either false b e = inr e

record Headed (bytes : List ℕ) (h : PacketHead) : Type 0 where
  kind : kind_number h.kind ≡ slice_index bytes 4
  some : 1 ≤ slice_index bytes 5
  few : slice_index bytes 5 ≤ 15
  from : slice_index bytes 6 ≤ slice_index bytes 5
  to : slice_index bytes 7 ≤ slice_index bytes 5
  apart : slice_index bytes 6 ≢ slice_index bytes 7
  count_is : h.count ≡ slice_index bytes 5
  from_is : h.from ≡ slice_index bytes 6
  to_is : h.to ≡ slice_index bytes 7

known_ok : (o : Option the_kind.PacketKind) (k : the_kind.PacketKind) → known o ≡ Ok k → o ≡ Some k
known_ok None k e = absurd cc
known_ok (Some l) k e = ap (λ (m : the_kind.PacketKind). Some m) (ok_is l k e)

known_err : (o : Option the_kind.PacketKind) (f : PacketFault) → known o ≡ Err f → (o ≡ None) × (Kind ≡ f)
known_err None f e = (refl, err_is {A = the_kind.PacketKind} Kind f e)
known_err (Some l) f e = absurd cc

headed : (bytes : List ℕ) (h : PacketHead) → head_at bytes ≡ Ok h → Headed bytes h
unfolding head_at
headed bytes h e =
    let n = slice_index bytes 5 in
    let from = slice_index bytes 6 in
    let to = slice_index bytes 7 in
    let k = bind_ok (known (kind_at (slice_index bytes 4))) (λ kind. head_in_range kind n from to) h e in
    let a = passed (nat_lt n 1 || nat_lt 15 n) Count _ h k.2 in
    let b = passed (nat_lt n from || (nat_lt n to || eqb from to)) Ends _ h a.1 in
    let a2 = neither (nat_lt n 1) (nat_lt 15 n) a.0 in
    let b2 = neither (nat_lt n from) (nat_lt n to || eqb from to) b.0 in
    let b3 = neither (nat_lt n to) (eqb from to) b2.1 in
    let h1 : PacketHead = record { kind = k.0; count = n; from = from; to = to } in
    let here : Headed bytes h1 = record {
      kind = kind_found (slice_index bytes 4) k.0 (known_ok _ k.0 k.1);
      some = ltb-false _ _ a2.0;
      few = ltb-false _ _ a2.1;
      from = ltb-false _ _ b2.0;
      to = ltb-false _ _ b3.0;
      apart = eqb-false _ _ b3.1;
      count_is = refl;
      from_is = refl;
      to_is = refl;
    } in
    subst (λ (g : PacketHead). Headed bytes g) (ok_is h1 h b.1) here

headed_clear : (bytes : List ℕ) (h : PacketHead) → Headed bytes h → Clear 4 bytes → Clear 7 bytes
headed_clear bytes h s clear =
    clear_more Ends bytes (clear_more Count bytes (clear_more Kind bytes clear (λ no. no h.kind s.kind)) (λ no. no (s.some, s.few))) (λ no. no (s.from, s.to, s.apart))

ends_wrong : (n from to : ℕ) → (nat_lt n from || (nat_lt n to || eqb from to)) ≡ true → ¬ ((from ≤ n) × (to ≤ n) × (from ≢ to))
ends_wrong n from to e ok =
    elim (either (nat_lt n from) (nat_lt n to || eqb from to) e) [
      | inl h ↦ let lt : n < from = ltb-true _ _ h in omega (arith, lt, ok.0)
      | inr h ↦ elim (either (nat_lt n to) (eqb from to) h) [
        | inl g ↦ let lt : n < to = ltb-true _ _ g in omega (arith, lt, ok.1)
        | inr g ↦ ok.2 (eqb-true from to g)
      ]
    ]

pub count_wrong : (n : ℕ) → (nat_lt n 1 || nat_lt 15 n) ≡ true → ¬ ((1 ≤ n) × (n ≤ 15))
count_wrong n e ok =
    elim (either (nat_lt n 1) (nat_lt 15 n) e) [
      | inl h ↦ let lt : n < 1 = ltb-true _ _ h in omega (arith, lt, ok.0)
      | inr h ↦ let lt : 15 < n = ltb-true _ _ h in omega (arith, lt, ok.1)
    ]

headed_refused : (bytes : List ℕ) (f : PacketFault) → Clear 4 bytes → head_at bytes ≡ Err f → IsFirst f bytes
unfolding head_at
headed_refused bytes f clear e =
    let n = slice_index bytes 5 in
    let from = slice_index bytes 6 in
    let to = slice_index bytes 7 in
    elim (bind_err (known (kind_at (slice_index bytes 4))) (λ kind. head_in_range kind n from to) f e) [
      | inl a ↦
          let none = known_err (kind_at (slice_index bytes 4)) f a in
          let wrong : HasFault Kind bytes = λ k same. let here : Some k ≡ None = sym (kind_again k) ∙ ap kind_at same ∙ none.0 in absurd cc in
          as_first Kind f bytes none.1 wrong clear
      | inr a ↦
          let c4 : Clear 5 bytes = clear_more Kind bytes clear (λ no. no a.0 (kind_found (slice_index bytes 4) a.0 (known_ok _ a.0 a.1))) in
          elim (cond_err (nat_lt n 1 || nat_lt 15 n) Count _ f a.2) [
            | inl h ↦ as_first Count f bytes h.1 (count_wrong n h.0) c4
            | inr b ↦
                let two = neither (nat_lt n 1) (nat_lt 15 n) b.0 in
                let c5 : Clear 6 bytes = clear_more Count bytes c4 (λ no. no (ltb-false _ _ two.0, ltb-false _ _ two.1)) in
                elim (cond_err (nat_lt n from || (nat_lt n to || eqb from to)) Ends _ f b.1) [
                  | inl h ↦ as_first Ends f bytes h.1 (ends_wrong n from to h.0) c5
                  | inr c ↦ let no : Ok (let g : PacketHead = record { kind = a.0; count = n; from = from; to = to } in g) ≡ Err f = c.1 in absurd cc
                ]
          ]
    ]

-- ---- the fields

read_again : (bytes : List ℕ) (h : PacketHead) (b : Body) → Headed bytes h → Spells b bytes → body_at h.kind (fields_of bytes) ≡ Ok b
read_again bytes h b t is =
    let same : kind_of b ≡ h.kind = one_kind (kind_of b) h.kind (is.kind ∙ sym t.kind) in
    subst (λ (k : the_kind.PacketKind). body_at k (fields_of bytes) ≡ Ok b) same (subst (λ (x : List ℕ). body_at (kind_of b) x ≡ Ok b) (sym is.fields) (body_again b is.room))

steps : AreSteps fault_number HasFault Short Magic Checksum Fields Range 12 magic head_at (λ h. body_at h.kind) in_range Headed Spells
steps = record {
  seal = seal;
  next = refl;
  headed = headed;
  clear = headed_clear;
  refused = headed_refused;
  spelled = λ bytes h b t fits e. (let is = body_found h.kind (fields_of bytes) b fits e in record { kind = ap kind_number is.kind_is ∙ t.kind; room = is.room; fields = is.spelled });
  again = read_again;
  fails = λ bytes h f e. sym (body_fails h.kind bytes f e);
  fields_is = λ bytes. (λ h. h, λ h. h);
  range_is = λ bytes. (λ h. h, λ h. h);
}

-- the fault of bytes that are refused is the first that they have
pub refused : (bytes : List ℕ) (f : PacketFault) → IsBytes bytes → reading bytes ≡ Err f → IsFirst f bytes
unfolding reading fields_at
refused = first_refused steps packet_of

-- ---- what is read is written so

pub eight : (bytes : List ℕ) (m : ℕ) → 8 ≤ length bytes → take (suc (suc (suc (suc (suc (suc (suc (suc m)))))))) bytes
    ≡ take 4 bytes ++ (slice_index bytes 4 ∷ slice_index bytes 5 ∷ slice_index bytes 6 ∷ slice_index bytes 7 ∷ take m (drop 8 bytes))
eight [] m le = absurd (omega arith)
eight (a ∷ []) m le = absurd (omega arith)
eight (a ∷ b ∷ []) m le = absurd (omega arith)
eight (a ∷ b ∷ c ∷ []) m le = absurd (omega arith)
eight (a ∷ b ∷ c ∷ d ∷ []) m le = absurd (omega arith)
eight (a ∷ b ∷ c ∷ d ∷ e ∷ []) m le = absurd (omega arith)
eight (a ∷ b ∷ c ∷ d ∷ e ∷ f ∷ []) m le = absurd (omega arith)
eight (a ∷ b ∷ c ∷ d ∷ e ∷ f ∷ g ∷ []) m le = absurd (omega arith)
eight (a ∷ b ∷ c ∷ d ∷ e ∷ f ∷ g ∷ h ∷ rest) m le = refl

fits_of : (bytes : List ℕ) (h : PacketHead) (b : Body) → Headed bytes h → HasRoom b → in_range b ≡ true → Fits (packet_of h b)
fits_of bytes h b t room range = record {
  some = rw t.count_is t.some;
  few = rw t.count_is t.few;
  from = rw (t.count_is, t.from_is) t.from;
  to = rw (t.count_is, t.to_is) t.to;
  apart = λ same. t.apart (sym t.from_is ∙ same ∙ t.to_is);
  room = room;
  range = range;
}

text_of : (bytes : List ℕ) (h : PacketHead) (b : Body) → 12 ≤ length bytes → take 4 bytes ≡ magic → Headed bytes h → Spells b bytes → take (length bytes - 4) bytes ≡ unsealed (packet_of h b)
text_of bytes h b long magical t is =
    let m = length bytes - 4 - 8 in
    let cut : length bytes - 4 ≡ suc (suc (suc (suc (suc (suc (suc (suc m))))))) = omega (arith, long) in
    ap (λ (n : ℕ). take n bytes) cut ∙ eight bytes m (omega (arith, long))
    ∙ rw (magical, ← is.kind, ← t.count_is, ← t.from_is, ← t.to_is) (ap (λ (x : List ℕ). magic ++ (kind_number (kind_of b) ∷ h.count ∷ h.from ∷ h.to ∷ x)) is.fields)

-- bytes that are read as a packet are its bytes
pub found : (bytes : List ℕ) (p : NodePacket) → IsBytes bytes → reading bytes ≡ Ok p → IsPacket p bytes
unfolding reading fields_at
found bytes p fits e =
    let a = found_in steps packet_of bytes p fits e in
    let text : take (length bytes - 4) bytes ≡ unsealed (packet_of a.head a.body) = text_of bytes a.head a.body a.sealed.long a.sealed.magical a.headed a.spelled in
    subst (λ (x : NodePacket). IsPacket x bytes) a.is
    (record { fits = fits_of bytes a.head a.body a.headed a.spelled.room a.range; bytes_are = whole_text 12 magic bytes (fields_of bytes) (unsealed (packet_of a.head a.body)) (omega arith) fits a.sealed text })

-- ---- what is written so is read

fields_again : (p : NodePacket) → fields_at (packet_bytes p) ≡ Ok (body_bytes p.body)
unfolding fields_at checksum_bytes
fields_again p = sealed_again Short Magic Checksum 12 magic (unsealed p) (body_bytes p.body) refl refl (omega arith) (omega arith)

head_again : (p : NodePacket) → Fits p → head_at (packet_bytes p) ≡ Ok (record { kind = kind_of p.body; count = p.count; from = p.from; to = p.to })
unfolding head_at
head_again p fits =
    let a : nat_lt p.count 1 ≡ false = le-ltb _ _ fits.some in
    let b : nat_lt 15 p.count ≡ false = le-ltb _ _ fits.few in
    let c : nat_lt p.count p.from ≡ false = le-ltb _ _ fits.from in
    let d : nat_lt p.count p.to ≡ false = le-ltb _ _ fits.to in
    let e : eqb p.from p.to ≡ false = ne_eqb _ _ fits.apart in
    rw (kind_again (kind_of p.body), a, b, c, d, e) refl

-- the bytes of a packet are read as it
pub reading_again : (p : NodePacket) (bytes : List ℕ) → IsPacket p bytes → reading bytes ≡ Ok p
unfolding reading
reading_again p bytes is =
    ap reading is.bytes_are ∙ rw (fields_again p, head_again p is.fits, body_again p.body is.fits.room, is.fits.range) refl

pub one_packet : IsOnePacket
one_packet p q bytes a b = ok_is p q (sym (reading_again p bytes a) ∙ reading_again q bytes b)

-- ---- results

-- what the code reads, as the definitions do, is the packet of the bytes
pub is_found : (bytes : List ℕ) (r : Result NodePacket PacketError) → IsBytes bytes → Gives (λ (x : NodePacket). x) r (reading bytes) → IfOk r (λ p. IsPacket p bytes)
is_found bytes (Ok p) fits e = found bytes p fits e
is_found bytes (Err d) fits e = tt

-- what it refuses, as they do, has this reason
pub is_refused : (bytes : List ℕ) (r : Result NodePacket PacketError) → IsBytes bytes → Gives (λ (x : NodePacket). x) r (reading bytes) → IfErr r (λ d. IsReason d bytes)
is_refused bytes (Ok p) fits e = tt
is_refused bytes (Err errors.Memory) fits e = tt
is_refused bytes (Err (errors.Fault f)) fits e = refused bytes f fits e

-- a packet's bytes give the code nothing but the packet, or want of memory
pub is_read : (bytes : List ℕ) (r : Result NodePacket PacketError) (p : NodePacket) → Gives (λ (x : NodePacket). x) r (reading bytes) → IsPacket p bytes → Reads r p
is_read bytes (Ok q) p e is = ok_is q p (sym e ∙ reading_again p bytes is)
is_read bytes (Err errors.Memory) p e is = tt
is_read bytes (Err (errors.Fault f)) p e is = let no : Ok p ≡ Err f = sym (reading_again p bytes is) ∙ e in absurd cc
