-- A message or an output of any length is added to the record.
use Rattle.std.proofs.Common.{◌≡◌, ◌≢◌, ℕ, ◌+◌, ◌*◌, ◌-◌, ◌%◌, ◌^◌, ◌<◌, ◌≤◌, true, cond, List, [], ◌∷◌, ◌++◌, length, refl, sym, ap, ◌∙◌, subst, ⊎_elim, arith}
use Rattle.std.specs.Prelude.{◌&&◌, nat_le, slice_set, slice_index, slice_index_or, slice_range}
use Rattle.std.proofs.lemmas.Bool.{cases_eq}
use Rattle.std.proofs.lemmas.Bool.Decides.{nat_tests}
use Rattle.std.proofs.lemmas.List.{length-set, get_or-set_other}
use Rattle.decode.specs.declared.insn.Width.TheVariants.{W64}
use Rattle.decode.specs.declared.insn.Size.TheVariants as size
use Rattle.operations.specs.Bytes.{le_bytes, overwritten}
use Rattle.helpers.specs.declared.effects.Who.{Who}
use Rattle.helpers.specs.Effects.{Emitted}
use Rattle.interp.proofs.Parts.{length-over, length-range}
use Rattle.x86.specs.declared.instruction.Instr.{Instr}
use Rattle.x86.specs.declared.instruction.Instr.TheVariants as instr
use Rattle.x86.specs.Machine as machine
use Rattle.x86.specs.Machine.{Value, Word, At, Array, Record, Unknown, State, Outcome, Goes, Stuck, value, with_word, word_or_stuck, put, behind, extended, copies, act}
use Rattle.native.specs.Code.{gpr, seen, clear}
use Rattle.native.specs.Emission.{place_code, moved_code}
use Rattle.native.specs.Correct.{Keeps}
use Rattle.native.proofs.Registers.{named, another}
use Rattle.native.proofs.Runs.{GoesAll}
use Rattle.native.proofs.Agreement.{Agrees, after, same, other, put_word, put_scratch, clears}
use Rattle.native.proofs.Copies.{append_write}
use Rattle.native.proofs.Records.{keeps_send, keeps_output}
use Rattle.native.proofs.Computations.{on_then}
use Rattle.native.proofs.Bodies.{seen_is}
use Rattle.native.proofs.Helpers.{then_all, goes_one, Adds, placed, with_bytes, writes_there, aims}

-- a count is written at the begin of the record
counts_at : (s : State) (k n : ℕ) → value s 1 ≡ Word n → value s 6 ≡ At Record 0 → length s.record_ ≡ 4416 → extended k ≡ k → (0 + k) % 2 ^ 64 ≡ k → k ≤ 8 → act (instr.Store size.Double 6 k 1) s ≡ Goes (record s { record_ = overwritten s.record_ k (le_bytes 8 n) })
counts_at s k n rcx base w ext z small =
    let t : nat_le (k + 8) (length s.record_) ≡ true = grind (arith, nat_tests) in
    ap (λ v. word_or_stuck v (λ n. machine.writes s 6 k 8 (le_bytes 8 n))) rcx
    ∙ ap (λ v. machine.reach s (behind v (extended k)) 8 (λ b o. machine.written s b (overwritten (machine.block s b) o (le_bytes 8 n)))) base
    ∙ ap (λ x. machine.reach s (At Record ((0 + x) % 2 ^ 64)) 8 (λ b o. machine.written s b (overwritten (machine.block s b) o (le_bytes 8 n)))) ext
    ∙ ap (λ x. machine.reach s (At Record x) 8 (λ b o. machine.written s b (overwritten (machine.block s b) o (le_bytes 8 n)))) z
    ∙ ap (λ b. cond b (Goes (record s { record_ = overwritten s.record_ k (le_bytes 8 n) })) Stuck) t

module _ {who : Who} {saved : List Value} {c : State} {words mem : List ℕ} {e : Emitted} {count : ℕ} (a : Agrees who saved c words mem e count) (whole : length mem ≤ 2048) (place : ℕ) (there : value c 2 ≡ At Record place) (within : place + 272 ≤ 4416) where
  -- the length and the bytes go to the place, and all registers are as before
  pub record Copied (l r : List ℕ) (at n : ℕ) (put_length puts_count finds : Instr) : Type 0 where
    pub c' : State
    pub goes : GoesAll (moved_code put_length puts_count finds) (with_bytes a l r) c'
    pub sixteen : length c'.regs ≡ 16
    pub regs : (q : ℕ) → value c' q ≡ value c q
    pub array_is : c'.array ≡ c.array
    pub record_is : c'.record_ ≡ overwritten r (place + 8) (le_bytes 8 n ++ slice_range mem at (at + n))
    pub pushed_is : c'.pushed ≡ c.pushed

  -- so many bytes are copied to the place, behind their length, where an instruction writes it, another puts it into rcx and
  -- a third the address in the array into rsi
  pub copied_by : (l r : List ℕ) (at n : ℕ) (put_length puts_count finds : Instr) → act put_length (with_bytes a l r) ≡ Goes (with_bytes a l (overwritten r (place + 8) (le_bytes 8 n))) → ((s : State) → s.regs ≡ c.regs → act puts_count s ≡ Goes (after s s.flags 1 (Word n))) → ((s : State) → s.regs ≡ slice_set c.regs 1 (Word n) → act finds s ≡ Goes (after s s.flags 6 (At Array at))) → n ≤ 256 → at + n ≤ length mem → length r ≡ 4416 → Copied l r at n put_length puts_count finds
  copied_by l r at n put_length puts_count finds o1 o_count o_find most h w =
      let m : length c.array ≡ length mem = ap length a.array in
      let r1 = overwritten r (place + 8) (le_bytes 8 n) in
      let w1 : length r1 ≡ 4416 = length-over r (le_bytes 8 n) (place + 8) (omega arith) ∙ w in
      let s0 = with_bytes a l r in
      let s1 = with_bytes a l r1 in
      let v1 = value c 1 in
      let v6 = value c 6 in
      let v7 = value c 7 in
      let s2 : State = record s1 { pushed = v1 ∷ c.pushed } in
      let s3 : State = record s1 { pushed = v6 ∷ (v1 ∷ c.pushed) } in
      let s4 : State = record s1 { pushed = v7 ∷ (v6 ∷ (v1 ∷ c.pushed)) } in
      let s5 = after s4 c.flags 1 (Word n) in
      let s6 = after s5 c.flags 6 (At Array at) in
      let s7 = after s6 c.flags 7 (At Record (place + 16)) in
      let bs = slice_range c.array at (at + n) in
      let r2 = overwritten r1 (place + 16) bs in
      let d1 = slice_set s7.regs 1 (Word 0) in
      let d2 = slice_set d1 6 (At Array ((at + n) % 2 ^ 64)) in
      let d3 = slice_set d2 7 (At Record ((place + 16 + n) % 2 ^ 64)) in
      let s8 : State = record s7 { regs = d3; record_ = r2 } in
      let s9 = after (record s8 { pushed = v6 ∷ (v1 ∷ c.pushed) }) c.flags 7 v7 in
      let s10 = after (record s9 { pushed = v1 ∷ c.pushed }) c.flags 6 v6 in
      let s11 = after (record s10 { pushed = c.pushed }) c.flags 1 v1 in
      let l0 = a.sixteen in
      let l5 : length s5.regs ≡ 16 = length-set c.regs 1 (Word n) ∙ l0 in
      let l6 : length s6.regs ≡ 16 = length-set s5.regs 6 (At Array at) ∙ l5 in
      let l7 : length s7.regs ≡ 16 = length-set s6.regs 7 (At Record (place + 16)) ∙ l6 in
      let l8 : length s8.regs ≡ 16 = length-set d2 7 (At Record ((place + 16 + n) % 2 ^ 64)) ∙ length-set d1 6 (At Array ((at + n) % 2 ^ 64)) ∙ length-set s7.regs 1 (Word 0) ∙ l7 in
      let l9 : length s9.regs ≡ 16 = length-set s8.regs 7 v7 ∙ l8 in
      let l10 : length s10.regs ≡ 16 = length-set s9.regs 6 v6 ∙ l9 in
      let l11 : length s11.regs ≡ 16 = length-set s10.regs 1 v1 ∙ l10 in
      let o5 : act puts_count s4 ≡ Goes s5 = o_count s4 refl in
      let o6 : act finds s5 ≡ Goes s6 = o_find s5 refl in
      let rdx6 : value s6 2 ≡ At Record place = other s5 c.flags 6 2 (At Array at) (omega arith) ∙ other s4 c.flags 1 2 (Word n) (omega arith) ∙ there in
      let z7 : (place + 16) % 2 ^ 64 ≡ place + 16 = omega arith in
      let o7 : act (instr.Lea 7 2 16) s6 ≡ Goes s7 = ap (λ v. put s6 7 (behind v 16)) rdx6 ∙ ap (λ x. put s6 7 (At Record x)) z7 in
      let rcx7 : value s7 1 ≡ Word n = other s6 c.flags 7 1 (At Record (place + 16)) (omega arith) ∙ other s5 c.flags 6 1 (At Array at) (omega arith) ∙ same s4 c.flags 1 (Word n) l0 (omega arith) in
      let rsi7 : value s7 6 ≡ At Array at = other s6 c.flags 7 6 (At Record (place + 16)) (omega arith) ∙ same s5 c.flags 6 (At Array at) l5 (omega arith) in
      let rdi7 : value s7 7 ≡ At Record (place + 16) = same s6 c.flags 7 (At Record (place + 16)) l6 (omega arith) in
      let t1 : nat_le (at + n) (length c.array) ≡ true = grind (arith, nat_tests) in
      let t2 : nat_le (place + 16 + n) (length r1) ≡ true = grind (arith, nat_tests) in
      let o8 : act instr.CopyBytes s7 ≡ Goes s8 =
      ap (λ v. word_or_stuck v (λ n. copies s7 n (value s7 6) (value s7 7))) rcx7
      ∙ ap (λ v. copies s7 n v (value s7 7)) rsi7
      ∙ ap (copies s7 n (At Array at)) rdi7
      ∙ ap (λ b. cond (b && nat_le (place + 16 + n) (length r1)) (Goes s8) Stuck) t1
      ∙ ap (λ b. cond b (Goes s8) Stuck) t2 in
      let bs_is : bs ≡ slice_range mem at (at + n) = ap (λ xs. slice_range xs at (at + n)) a.array in
      let regs_back : (q : ℕ) → value s11 q ≡ value c q =
      λ q. ⊎_elim
      (λ (z : q ≡ 1). ap (value s11) z ∙ same (record s10 { pushed = c.pushed }) c.flags 1 v1 l10 (omega arith) ∙ ap (value c) (sym z))
      (λ (z : q ≢ 1). other (record s10 { pushed = c.pushed }) c.flags 1 q v1 z ∙ ⊎_elim
      (λ (y : q ≡ 6). ap (value s10) y ∙ same (record s9 { pushed = v1 ∷ c.pushed }) c.flags 6 v6 l9 (omega arith) ∙ ap (value c) (sym y))
      (λ (y : q ≢ 6). other (record s9 { pushed = v1 ∷ c.pushed }) c.flags 6 q v6 y ∙ ⊎_elim
      (λ (x : q ≡ 7). ap (value s9) x ∙ same (record s8 { pushed = v6 ∷ (v1 ∷ c.pushed) }) c.flags 7 v7 l8 (omega arith) ∙ ap (value c) (sym x))
      (λ (x : q ≢ 7).
      other (record s8 { pushed = v6 ∷ (v1 ∷ c.pushed) }) c.flags 7 q v7 x
      ∙ get_or-set_other d2 7 q (At Record ((place + 16 + n) % 2 ^ 64)) (Word 0) x
      ∙ get_or-set_other d1 6 q (At Array ((at + n) % 2 ^ 64)) (Word 0) y
      ∙ get_or-set_other s7.regs 1 q (Word 0) (Word 0) z
      ∙ other s6 c.flags 7 q (At Record (place + 16)) x ∙ other s5 c.flags 6 q (At Array at) y ∙ other s4 c.flags 1 q (Word n) z)
      (cases_eq q 7))
      (cases_eq q 6))
      (cases_eq q 1) in
      let is10 = instr.Pop 1 ∷ [] in
      let is9 = instr.Pop 6 ∷ is10 in
      let is8 = instr.Pop 7 ∷ is9 in
      let is7 = instr.CopyBytes ∷ is8 in
      let is6 = instr.Lea 7 2 16 ∷ is7 in
      let is5 = finds ∷ is6 in
      let is4 = puts_count ∷ is5 in
      let is3 = instr.Push 7 ∷ is4 in
      let is2 = instr.Push 6 ∷ is3 in
      let is1 = instr.Push 1 ∷ is2 in
      record {
        c' = s11;
        goes =
            on_then put_length is1 s0 s1 s11 o1
            (on_then (instr.Push 1) is2 s1 s2 s11 refl
            (on_then (instr.Push 6) is3 s2 s3 s11 refl
            (on_then (instr.Push 7) is4 s3 s4 s11 refl
            (on_then puts_count is5 s4 s5 s11 o5
            (on_then finds is6 s5 s6 s11 o6
            (on_then (instr.Lea 7 2 16) is7 s6 s7 s11 o7
            (on_then instr.CopyBytes is8 s7 s8 s11 o8
            (on_then (instr.Pop 7) is9 s8 s9 s11 refl
            (on_then (instr.Pop 6) is10 s9 s10 s11 refl
            (goes_one (instr.Pop 1) s10 s11 refl))))))))));
        sixteen = l11;
        regs = regs_back;
        array_is = refl;
        record_is =
            ap (overwritten r1 (place + 16)) bs_is
            ∙ append_write r (le_bytes 8 n) (slice_range mem at (at + n)) (place + 8) (place + 16) r1 (omega arith) (let y : place + 16 ≡ place + 8 + 8 = omega arith in y) refl;
        pushed_is = refl;
      }

  -- ---- how the length is known, and where the bytes stand

  -- a register has the length
  writes_length : (l r : List ℕ) (k n : ℕ) → k < 10 → n ≡ slice_index words k → length r ≡ 4416 → act (instr.Store size.Double 2 8 (gpr k)) (with_bytes a l r) ≡ Goes (with_bytes a l (overwritten r (place + 8) (le_bytes 8 n)))
  writes_length l r k n kh ne w =
      let s = with_bytes a l r in
      ap (λ b. cond b (word_or_stuck (value s (gpr k)) (λ n. machine.writes s 2 8 8 (le_bytes 8 n))) Stuck) (named k kh)
      ∙ ap (λ v. word_or_stuck v (λ n. machine.writes s 2 8 8 (le_bytes 8 n))) (a.each k kh)
      ∙ ap (λ n. machine.writes s 2 8 8 (le_bytes 8 n)) (sym ne)
      ∙ writes_there a whole place there within l r (le_bytes 8 n) 8 8 w refl (omega arith)

  moves_length : (s : State) (k n : ℕ) → k < 10 → n ≡ slice_index words k → s.regs ≡ c.regs → act (instr.Mov W64 1 (gpr k)) s ≡ Goes (after s s.flags 1 (Word n))
  moves_length s k n kh ne e =
      ap (λ b. cond b (put s 1 (value s (gpr k))) Stuck) (named k kh)
      ∙ ap (put s 1) (ap (λ rs. slice_index_or rs (gpr k) (Word 0)) e ∙ a.each k kh ∙ ap Word (sym ne))

  -- where rcx was written, rdi is as before
  base_still : (s : State) (n : ℕ) → s.regs ≡ slice_set c.regs 1 (Word n) → value s 7 ≡ At Array 384
  base_still s n e = ap (λ rs. slice_index_or rs 7 (Word 0)) e ∙ other c c.flags 1 7 (Word n) (omega arith) ∙ a.base

  finds_at : (s : State) (at n : ℕ) → at ≤ 2048 → s.regs ≡ slice_set c.regs 1 (Word n) → act (instr.Lea 6 7 (seen at)) s ≡ Goes (after s s.flags 6 (At Array at))
  finds_at s at n h e =
      ap (λ v. put s 6 (behind v (extended (seen at)))) (base_still s n e)
      ∙ ap (λ x. put s 6 (At Array x)) (seen_is at h)

  -- a register has the position
  finds_by : (s : State) (q n : ℕ) → q < 10 → slice_index words q ≤ 2048 → s.regs ≡ slice_set c.regs 1 (Word n) → act (instr.LeaBy 6 7 (gpr q) (seen 0)) s ≡ Goes (after s s.flags 6 (At Array (slice_index words q)))
  finds_by s q n qh h e =
      let at = slice_index words q in
      let go : Value → ℕ → Outcome = λ v k. put s 6 (behind (behind v k) (extended (seen 0))) in
      let still : value s (gpr q) ≡ Word at = ap (λ rs. slice_index_or rs (gpr q) (Word 0)) e ∙ other c c.flags 1 (gpr q) (Word n) (another q 1 qh refl) ∙ a.each q qh in
      let z : ((384 + at) % 2 ^ 64 + (2 ^ 64 - 384)) % 2 ^ 64 ≡ at = omega arith in
      ap (λ v. with_word s (gpr q) (go v)) (base_still s n e)
      ∙ ap (λ b. cond b (word_or_stuck (value s (gpr q)) (go (At Array 384))) Stuck) (named q qh)
      ∙ ap (λ v. word_or_stuck v (go (At Array 384))) still
      ∙ ap (λ x. put s 6 (At Array x)) z

  -- as many bytes as a register says are copied to the place, behind their length
  pub copied_sized : (l r : List ℕ) (at k n : ℕ) → k < 10 → n ≡ slice_index words k → n ≤ 256 → at + n ≤ length mem → length r ≡ 4416 → Copied l r at n (instr.Store size.Double 2 8 (gpr k)) (instr.Mov W64 1 (gpr k)) (instr.Lea 6 7 (seen at))
  copied_sized l r at k n kh ne most h w =
      copied_by l r at n (instr.Store size.Double 2 8 (gpr k)) (instr.Mov W64 1 (gpr k)) (instr.Lea 6 7 (seen at)) (writes_length l r k n kh ne w) (λ s e. moves_length s k n kh ne e) (λ s e. finds_at s at n (omega arith) e) most h w

  -- the same from a position that a register has
  pub copied_sized_by : (l r : List ℕ) (q k n : ℕ) → q < 10 → k < 10 → n ≡ slice_index words k → n ≤ 256 → slice_index words q + n ≤ length mem → length r ≡ 4416 → Copied l r (slice_index words q) n (instr.Store size.Double 2 8 (gpr k)) (instr.Mov W64 1 (gpr k)) (instr.LeaBy 6 7 (gpr q) (seen 0))
  copied_sized_by l r q k n qh kh ne most h w =
      copied_by l r (slice_index words q) n (instr.Store size.Double 2 8 (gpr k)) (instr.Mov W64 1 (gpr k)) (instr.LeaBy 6 7 (gpr q) (seen 0)) (writes_length l r k n kh ne w) (λ s e. moves_length s k n kh ne e) (λ s e. finds_by s q n qh (omega arith) e) most h w

  -- and 64 bytes
  pub copied_64_by : (l r : List ℕ) (q : ℕ) → q < 10 → slice_index words q + 64 ≤ length mem → length r ≡ 4416 → Copied l r (slice_index words q) 64 (instr.StoreImm size.Double 2 8 64) (instr.MovImm 1 64) (instr.LeaBy 6 7 (gpr q) (seen 0))
  copied_64_by l r q qh h w =
      copied_by l r (slice_index words q) 64 (instr.StoreImm size.Double 2 8 64) (instr.MovImm 1 64) (instr.LeaBy 6 7 (gpr q) (seen 0)) (writes_there a whole place there within l r (le_bytes 8 64) 8 8 w refl (omega arith)) (λ s e. refl) (λ s e. finds_by s q 64 qh (omega arith) e) (omega arith) h w

-- ---- where the helpers do what is asked

-- how bytes are copied into the next place
abbrev pub sends_by : Instr → Instr → Instr → List Instr
sends_by put_length puts_count finds = place_code 64 ++ (instr.Store size.Double 2 0 8 ∷ moved_code put_length puts_count finds ++ (instr.Store size.Double 6 0 1 ∷ clear 0 ∷ []))

abbrev pub outputs_by : Instr → Instr → Instr → List Instr
outputs_by put_length puts_count finds = place_code 2240 ++ (moved_code put_length puts_count finds ++ (instr.Store size.Double 6 8 1 ∷ clear 0 ∷ []))

-- these instructions copy so many bytes from this position, from each state that agrees
abbrev pub Copies : Who → List Value → List ℕ → List ℕ → Emitted → ℕ → ℕ → ℕ → Instr → Instr → Instr → Type 0
Copies who saved words mem e count at n put_length puts_count finds =
    (s : State) (b : Agrees who saved s words mem e count) (whole : length mem ≤ 2048) (place : ℕ) (there : value s 2 ≡ At Record place)
    (within : place + 272 ≤ 4416) (l r : List ℕ) → length r ≡ 4416 → Copied b whole place there within l r at n put_length puts_count finds

size_is : (mem : List ℕ) (at len : ℕ) → at + len ≤ length mem → length (slice_range mem at (at + len)) ≡ len
size_is mem at len h = omega (arith, length-range mem at (at + len) (omega arith))

module _ {who : Who} {saved : List Value} {words mem : List ℕ} {e : Emitted} {count : ℕ} (whole : length mem ≤ 2048) (at len : ℕ) (within : at + len ≤ length mem) (most : len ≤ 256) (put_length puts_count finds : Instr) (copies : Copies who saved words mem e count at len put_length puts_count finds) where
  -- one message more of so many bytes is sent, where there is a place for it
  pub adds_sent : Adds who saved words mem e count (length e.sends) (record e { sends = e.sends ++ record { dst = slice_index words 1; payload = slice_range mem at (at + len) } ∷ [] }) (sends_by put_length puts_count finds)
  adds_sent c a rcx few =
      let payload = slice_range mem at (at + len) in
      let payload_size : length payload ≡ len = size_is mem at len within in
      let n = length e.sends in
      let dst = slice_index words 1 in
      let p = placed a 64 n rcx few refl (omega arith) in
      let c1 = p.c1 in
      let a1 = p.agrees in
      let place = 64 + 272 * n in
      let xs = c1.record_ in
      let k = a1.keeps in
      let w : length xs ≡ 4416 = k.whole in
      let ra = overwritten xs (place + 0) (le_bytes 8 dst) in
      let wa : length ra ≡ 4416 = length-over xs (le_bytes 8 dst) (place + 0) (omega arith) ∙ w in
      let cp = copies c1 a1 whole place p.there (omega arith) c1.long ra wa in
      let s2 = cp.c' in
      let z : place + 0 ≡ place = omega arith in
      let y : place + 8 ≡ place + length (le_bytes 8 dst) = omega arith in
      let block_is : le_bytes 8 len ++ payload ≡ le_bytes 8 (length payload) ++ payload = ap (λ m. le_bytes 8 m ++ payload) (sym payload_size) in
      let rb = overwritten xs place (le_bytes 8 dst ++ (le_bytes 8 (length payload) ++ payload)) in
      let rb_is : s2.record_ ≡ rb =
      cp.record_is
      ∙ ap (λ q. overwritten (overwritten xs q (le_bytes 8 dst)) (place + 8) (le_bytes 8 len ++ payload)) z
      ∙ ap (overwritten (overwritten xs place (le_bytes 8 dst)) (place + 8)) block_is
      ∙ append_write xs (le_bytes 8 dst) (le_bytes 8 (length payload) ++ payload) place (place + 8) (overwritten xs place (le_bytes 8 dst)) (omega arith) y refl in
      let bl : length (le_bytes 8 dst ++ (le_bytes 8 (length payload) ++ payload)) ≡ 16 + len = omega (arith, payload_size) in
      let wb : length s2.record_ ≡ 4416 = ap length rb_is ∙ length-over xs (le_bytes 8 dst ++ (le_bytes 8 (length payload) ++ payload)) place (omega arith) ∙ w in
      let e' : Emitted = record e { sends = e.sends ++ record { dst = dst; payload = payload } ∷ [] } in
      let kept = keeps_send who e xs payload dst k few (omega (arith, payload_size)) in
      let rc = overwritten s2.record_ 0 (le_bytes 8 (n + 1)) in
      let s3 : State = record s2 { record_ = rc } in
      let o3 = counts_at s2 0 (n + 1) (cp.regs 1 ∙ p.more) (cp.regs 6 ∙ a1.store) wb refl refl (omega arith) in
      let kept' : Keeps who e' rc = subst (λ r. Keeps who e' (overwritten r 0 (le_bytes 8 (n + 1)))) (sym rb_is) kept in
      let a3 : Agrees who saved s3 words mem e' count = put_scratch a1 e' s3 cp.sixteen (λ q n1 n2. cp.regs q) cp.array_is kept' cp.pushed_is in
      let c4 = after s3 Unknown 0 (Word 0) in
      let is = moved_code put_length puts_count finds in
      let js = instr.Store size.Double 6 0 1 ∷ clear 0 ∷ [] in
      let g34 = on_then (instr.Store size.Double 6 0 1) (clear 0 ∷ []) s2 s3 c4 o3 (goes_one (clear 0) s3 c4 (clears a3 0 (omega arith))) in
      let g24 = then_all is js (with_bytes a1 c1.long ra) s2 c4 cp.goes g34 in
      let g14 = on_then (instr.Store size.Double 2 0 8) (is ++ js) c1 (with_bytes a1 c1.long ra) c4 (aims a1 whole place p.there (omega arith) c1.long xs w) g24 in
      (c4, then_all (place_code 64) (instr.Store size.Double 2 0 8 ∷ is ++ js) c c1 c4 p.goes g14, put_word a3 Unknown 0 0 (omega arith))

  -- one output more of so many bytes is made, where there is a place for it
  pub adds_output : Adds who saved words mem e count (length e.outputs) (record e { outputs = e.outputs ++ slice_range mem at (at + len) ∷ [] }) (outputs_by put_length puts_count finds)
  adds_output c a rcx few =
      let payload = slice_range mem at (at + len) in
      let payload_size : length payload ≡ len = size_is mem at len within in
      let n = length e.outputs in
      let p = placed a 2240 n rcx few refl (omega arith) in
      let c1 = p.c1 in
      let a1 = p.agrees in
      let place = 2240 + 272 * n in
      let xs = c1.record_ in
      let k = a1.keeps in
      let w : length xs ≡ 4416 = k.whole in
      let cp = copies c1 a1 whole place p.there (omega arith) c1.long xs w in
      let s2 = cp.c' in
      let block_is : le_bytes 8 len ++ payload ≡ le_bytes 8 (length payload) ++ payload = ap (λ m. le_bytes 8 m ++ payload) (sym payload_size) in
      let rb_is : s2.record_ ≡ overwritten xs (place + 8) (le_bytes 8 (length payload) ++ payload) = cp.record_is ∙ ap (overwritten xs (place + 8)) block_is in
      let bl : length (le_bytes 8 (length payload) ++ payload) ≡ 8 + len = omega (arith, payload_size) in
      let wb : length s2.record_ ≡ 4416 = ap length rb_is ∙ length-over xs (le_bytes 8 (length payload) ++ payload) (place + 8) (omega arith) ∙ w in
      let e' : Emitted = record e { outputs = e.outputs ++ payload ∷ [] } in
      let kept = keeps_output who e xs payload k few (omega (arith, payload_size)) in
      let rc = overwritten s2.record_ 8 (le_bytes 8 (n + 1)) in
      let s3 : State = record s2 { record_ = rc } in
      let o3 = counts_at s2 8 (n + 1) (cp.regs 1 ∙ p.more) (cp.regs 6 ∙ a1.store) wb refl refl (omega arith) in
      let kept' : Keeps who e' rc = subst (λ r. Keeps who e' (overwritten r 8 (le_bytes 8 (n + 1)))) (sym rb_is) kept in
      let a3 : Agrees who saved s3 words mem e' count = put_scratch a1 e' s3 cp.sixteen (λ q n1 n2. cp.regs q) cp.array_is kept' cp.pushed_is in
      let c4 = after s3 Unknown 0 (Word 0) in
      let is = moved_code put_length puts_count finds in
      let js = instr.Store size.Double 6 8 1 ∷ clear 0 ∷ [] in
      let g34 = on_then (instr.Store size.Double 6 8 1) (clear 0 ∷ []) s2 s3 c4 o3 (goes_one (clear 0) s3 c4 (clears a3 0 (omega arith))) in
      let g14 = then_all is js c1 s2 c4 cp.goes g34 in
      (c4, then_all (place_code 2240) (is ++ js) c c1 c4 p.goes g14, put_word a3 Unknown 0 0 (omega arith))
