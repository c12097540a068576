-- Machine states that agree with the words, the array, the effects and the steps of a call.
use Rattle.std.proofs.Common.{◌≡◌, ◌≢◌, ℕ, zero, suc, ◌+◌, ◌*◌, ◌%◌, ◌^◌, ◌<◌, Bool, true, false, cond, List, [], ◌∷◌, ◌++◌, length, refl, sym, ap, ◌∙◌, subst, ⊎_elim, arith}
use Rattle.std.specs.Prelude.{◌==◌, slice_set, slice_index}
use Rattle.std.specs.Int.{bit_at}
use Rattle.std.proofs.Math.Nat.{mod-eq_of_lt}
use Rattle.operations.specs.Bits.{word_of_bits}
use Rattle.std.proofs.lemmas.Bool.{cases_eq}
use Rattle.std.proofs.lemmas.Bool.Decides.{nat_tests}
use Rattle.std.proofs.lemmas.List.{get_or-set_same, get_or-set_other, length-set, append-nil}
use Rattle.helpers.specs.declared.effects.Who.{Who}
use Rattle.helpers.specs.Effects.{Emitted}
use Rattle.decode.specs.declared.insn.Width.TheVariants.{W32}
use Rattle.x86.specs.declared.instruction.Alu.TheVariants as alu
use Rattle.x86.specs.declared.instruction.Instr.TheVariants as instr
use Rattle.x86.specs.Encoding.{bytes_of}
use Rattle.x86.specs.Machine.{Value, Word, At, Array, Record, Flags, Unknown, State, Outcome, Goes, Stuck, value, with_value, with_word, word_or_stuck, put, behind, extended, one, computed, operated, act, HasAt}
use Rattle.native.specs.Code.{gpr, codes, clear}
use Rattle.native.specs.SlotCode.{flushed}
use Rattle.native.specs.Correct.{Keeps}
use Rattle.native.proofs.Registers.{named, below_sixteen, another, alone}
use Rattle.native.proofs.Runs.{extended_small, Ends, goes, has_front}

-- no bit differs from itself
no_bits : (n : ℕ) → word_of_bits (λ i. 0) n ≡ 0
unfolding word_of_bits
no_bits zero = refl
no_bits (suc n) = let z : 0 + 0 * 2 ^ n ≡ 0 = omega arith in ap (λ k. k + 0 * 2 ^ n) (no_bits n) ∙ z

bits_alike : (f g : ℕ → ℕ) (n : ℕ) → ((i : ℕ) → f i ≡ g i) → word_of_bits f n ≡ word_of_bits g n
unfolding word_of_bits
bits_alike f g zero h = refl
bits_alike f g (suc n) h = ap (λ k. k + f n * 2 ^ n) (bits_alike f g n h) ∙ ap (λ b. word_of_bits g n + b * 2 ^ n) (h n)

pub one_alike : (n a : ℕ) → one n a a ≡ 0
one_alike n a = bits_alike (λ i. (bit_at a i + bit_at a i) % 2) (λ i. 0) n (λ i. twice_even (bit_at a i)) ∙ no_bits n
  where
    twice_even : (b : ℕ) → (b + b) % 2 ≡ 0
    twice_even b = omega arith

-- with another value of a register, and other flags
abbrev pub after : State → Flags → ℕ → Value → State
after c f r v = record { regs = slice_set c.regs r v; long = c.long; flags = f; array = c.array; record_ = c.record_; pushed = c.pushed }

-- the machine's registers are the words, its array is the call's, its record keeps the effects, and r11 has this count
pub record Agrees (who : Who) (saved : List Value) (c : State) (words mem : List ℕ) (e : Emitted) (count : ℕ) : Type 0 where
  pub sixteen : length c.regs ≡ 16
  pub eleven : length words ≡ 11
  pub each : (r : ℕ) → r < 10 → value c (gpr r) ≡ Word (slice_index words r)
  pub ten : slice_index words 10 ≡ 0
  pub base : value c 7 ≡ At Array 384
  pub store : value c 6 ≡ At Record 0
  pub count_is : value c 11 ≡ Word count
  pub array : c.array ≡ mem
  pub keeps : Keeps who e c.record_
  pub pushed : c.pushed ≡ saved

-- a register that was written has its value
pub same : (c : State) (f : Flags) (r : ℕ) (v : Value) → length c.regs ≡ 16 → r < 16 → value (after c f r v) r ≡ v
same c f r v l h = get_or-set_same c.regs r v (Word 0) (omega (arith, l))

-- each other register keeps its own
pub other : (c : State) (f : Flags) (r q : ℕ) (v : Value) → q ≢ r → value (after c f r v) q ≡ value c q
other c f r q v n = get_or-set_other c.regs r q v (Word 0) n

module _ {who : Who} {saved : List Value} {c : State} {words mem : List ℕ} {e : Emitted} {count : ℕ} (a : Agrees who saved c words mem e count) where
  -- a register gets a word
  pub put_word : (f : Flags) (d w : ℕ) → d < 10 → Agrees who saved (after c f (gpr d) (Word w)) (slice_set words d w) mem e count
  put_word f d w h = record {
    sixteen = length-set c.regs (gpr d) (Word w) ∙ a.sixteen;
    eleven = length-set words d w ∙ a.eleven;
    each = λ r k. ⊎_elim
        (λ e. ap (value (after c f (gpr d) (Word w))) (ap gpr e) ∙ same c f (gpr d) (Word w) a.sixteen (below_sixteen d h)
        ∙ ap Word (sym (ap (slice_index (slice_set words d w)) e ∙ get_or-set_same words d w 0 (let l = a.eleven in omega arith))))
        (λ n. other c f (gpr d) (gpr r) (Word w) (λ e. n (alone r d k h e)) ∙ a.each r k ∙ ap Word (sym (get_or-set_other words d r w 0 n)))
        (cases_eq r d);
    ten = get_or-set_other words d 10 w 0 (omega arith) ∙ a.ten;
    base = other c f (gpr d) 7 (Word w) (λ e. another d 7 h refl (sym e)) ∙ a.base;
    store = other c f (gpr d) 6 (Word w) (λ e. another d 6 h refl (sym e)) ∙ a.store;
    count_is = other c f (gpr d) 11 (Word w) (λ e. another d 11 h refl (sym e)) ∙ a.count_is;
    array = a.array;
    keeps = a.keeps;
    pushed = a.pushed;
  }

  -- a register with no task gets any value
  module _ (f : Flags) (s : ℕ) (v : Value) (free : (r : ℕ) → r < 10 → gpr r ≢ s) (n7 : 7 ≢ s) (n6 : 6 ≢ s) (n11 : 11 ≢ s) where
    pub put_free : Agrees who saved (after c f s v) words mem e count
    put_free = record {
      sixteen = length-set c.regs s v ∙ a.sixteen;
      eleven = a.eleven;
      each = λ r k. other c f s (gpr r) v (free r k) ∙ a.each r k;
      ten = a.ten;
      base = other c f s 7 v n7 ∙ a.base;
      store = other c f s 6 v n6 ∙ a.store;
      count_is = other c f s 11 v n11 ∙ a.count_is;
      array = a.array;
      keeps = a.keeps;
      pushed = a.pushed;
    }

  -- so rcx may get any
  pub put_rcx : (f : Flags) (v : Value) → Agrees who saved (after c f 1 v) words mem e count
  put_rcx f v = put_free f 1 v (λ r k. another r 1 k refl) (omega arith) (omega arith) (omega arith)

  -- and rdx
  pub put_rdx : (f : Flags) (v : Value) → Agrees who saved (after c f 2 v) words mem e count
  put_rdx f v = put_free f 2 v (λ r k. another r 2 k refl) (omega arith) (omega arith) (omega arith)

  -- r11 gets another count
  pub put_count : (f : Flags) (n : ℕ) → Agrees who saved (after c f 11 (Word n)) words mem e n
  put_count f n = record {
    sixteen = length-set c.regs 11 (Word n) ∙ a.sixteen;
    eleven = a.eleven;
    each = λ r k. other c f 11 (gpr r) (Word n) (another r 11 k refl) ∙ a.each r k;
    ten = a.ten;
    base = other c f 11 7 (Word n) (omega arith) ∙ a.base;
    store = other c f 11 6 (Word n) (omega arith) ∙ a.store;
    count_is = same c f 11 (Word n) a.sixteen (omega arith);
    array = a.array;
    keeps = a.keeps;
    pushed = a.pushed;
  }

  -- flags, xmm0, the array and the record are others
  pub put_blocks : (f : Flags) (l bs r now : List ℕ) (e' : Emitted) → bs ≡ now → Keeps who e' r → Agrees who saved (record c { flags = f; long = l; array = bs; record_ = r }) words now e' count
  put_blocks f l bs r now e' is k = record {
    sixteen = a.sixteen;
    eleven = a.eleven;
    each = a.each;
    ten = a.ten;
    base = a.base;
    store = a.store;
    count_is = a.count_is;
    array = is;
    keeps = k;
    pushed = a.pushed;
  }

  -- flags are set
  pub put_flags : (f : Flags) → Agrees who saved (record c { flags = f }) words mem e count
  put_flags f = put_blocks f c.long c.array c.record_ mem e a.array a.keeps

  -- the array is another
  pub put_array : (bs : List ℕ) → Agrees who saved (record c { array = bs }) words bs e count
  put_array bs = put_blocks c.flags c.long bs c.record_ bs e refl a.keeps

  -- rcx and rdx are others, and the record keeps these effects
  pub put_scratch : (e' : Emitted) (s : State) → length s.regs ≡ 16 → ((q : ℕ) → q ≢ 1 → q ≢ 2 → value s q ≡ value c q) → s.array ≡ c.array → Keeps who e' s.record_ → s.pushed ≡ c.pushed → Agrees who saved s words mem e' count
  put_scratch e' s l f x y z = record {
    sixteen = l;
    eleven = a.eleven;
    each = λ r k. f (gpr r) (another r 1 k refl) (another r 2 k refl) ∙ a.each r k;
    ten = a.ten;
    base = f 7 (omega arith) (omega arith) ∙ a.base;
    store = f 6 (omega arith) (omega arith) ∙ a.store;
    count_is = f 11 (omega arith) (omega arith) ∙ a.count_is;
    array = x ∙ a.array;
    keeps = y;
    pushed = z ∙ a.pushed;
  }

  -- ---- parts of instructions

  -- a register of r0 to r9 can be written
  pub puts : (f : Flags) (d : ℕ) (v : Value) → d < 10 → put (record c { flags = f }) (gpr d) v ≡ Goes (after c f (gpr d) v)
  puts f d v h = ap (λ b. cond b (Goes (after c f (gpr d) v)) Stuck) (named d h)

  -- what is read of one is its word
  pub reads : (r : ℕ) (go : Value → Outcome) → r < 10 → with_value c (gpr r) go ≡ go (Word (slice_index words r))
  reads r go h = ap (λ b. cond b (go (value c (gpr r))) Stuck) (named r h) ∙ ap go (a.each r h)

  -- so it is read as a word
  pub reads_word : (r : ℕ) (go : ℕ → Outcome) → r < 10 → with_word c (gpr r) go ≡ go (slice_index words r)
  reads_word r go h = reads r (λ v. word_or_stuck v go) h

  -- a register is cleared
  pub clears : (d : ℕ) → d < 10 → act (clear (gpr d)) c ≡ Goes (after c Unknown (gpr d) (Word 0))
  clears d h =
      reads_word d (λ p. with_word c (gpr d) (λ q. operated alu.Xor c W32 (gpr d) p q)) h
      ∙ reads_word d (λ q. operated alu.Xor c W32 (gpr d) (slice_index words d) q) h
      ∙ ap (λ n. computed c (gpr d) n) (one_alike 32 (slice_index words d % 2 ^ 32))
      ∙ puts Unknown d (Word 0) h

  -- ---- steps are added

  count_acts : (k : ℕ) → k < 2 ^ 31 → count + k < 2 ^ 64 → act (instr.Lea 11 11 k) c ≡ Goes (after c c.flags 11 (Word (count + k)))
  count_acts k h l =
      ap (λ v. put c 11 (behind v (extended k))) a.count_is
      ∙ ap (λ x. put c 11 (Word ((count + x) % 2 ^ 64))) (extended_small k h)
      ∙ ap (λ x. put c 11 (Word x)) (mod-eq_of_lt l)

  -- the state with the steps added, from which the code comes to its end
  pub record Flushes (code : List ℕ) (p k : ℕ) : Type 0 where
    pub c' : State
    pub agrees : Agrees who saved c' words mem e (count + k)
    pub back : (last : State) → Ends code last (p + length (codes (flushed k))) c' → Ends code last p c

  by_test : (code : List ℕ) (p k : ℕ) (b : Bool) → (k == 0) ≡ b → k < 2 ^ 31 → count + k < 2 ^ 64 → HasAt code p (codes (cond b [] (instr.Lea 11 11 k ∷ []))) → (c' : State) × Agrees who saved c' words mem e (count + k) × ((last : State) → Ends code last (p + length (codes (cond b [] (instr.Lea 11 11 k ∷ [])))) c' → Ends code last p c)
  by_test code p k true e1 h l at =
      let z : k ≡ 0 = grind (arith, nat_tests) in
      let s : count ≡ count + k = omega arith in
      let q : p + 0 ≡ p = omega arith in
      (c, subst (Agrees who saved c words mem e) s a, λ last r. subst (λ n. Ends code last n c) q r)
  by_test code p k false e1 h l at =
      let i = instr.Lea 11 11 k in
      let n : bytes_of i ++ [] ≡ bytes_of i = append-nil (bytes_of i) in
      (after c c.flags 11 (Word (count + k)), put_count c.flags (count + k), λ last r. goes code last i p c (after c c.flags 11 (Word (count + k))) (has_front code p (bytes_of i) [] at) (count_acts k h l) (subst (λ m. Ends code last m (after c c.flags 11 (Word (count + k)))) (ap (λ bs. p + length bs) n) r))

  -- steps that weren't counted yet are added to r11
  pub flushes : (code : List ℕ) (p k : ℕ) → k < 2 ^ 31 → count + k < 2 ^ 64 → HasAt code p (codes (flushed k)) → Flushes code p k
  flushes code p k h l at =
      let x = by_test code p k (k == 0) refl h l at in
      record { c' = x.0; agrees = x.1; back = x.2 }
