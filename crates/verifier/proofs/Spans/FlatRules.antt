-- An instruction that breaks no rule of forms 1 and 2 breaks none of form 3, and leaves no less.
use Rattle.std.proofs.Common.{◌≡◌, ℕ, zero, suc, ◌%◌, ◌^◌, ◌<◌, ◌≤◌, Bool, true, false, List, length, Option, Some, None, ℤ, pos, negsuc, ◌+ℤ◌, refl, sym, ap, ◌∙◌, subst, arith}
use Rattle.std.specs.Prelude.{Ok, Err, slice_set, is_none, nat_lt, int_le, ◌&&◌, ◌==◌, not, if◌then◌else◌, neg_ℤ}
use Rattle.std.specs.Option.{option_map}
use Rattle.std.proofs.lemmas.Bool.{false≢true}
use Rattle.std.proofs.lemmas.Bool.Decides.{nat_tests}
use Rattle.std.proofs.lemmas.Int.{ints}
use Rattle.decode.specs.declared.insn.Reg.{Reg}
use Rattle.decode.specs.declared.insn.AluOp.{AluOp}
use Rattle.decode.specs.declared.insn.AluOp.TheVariants as alu
use Rattle.decode.specs.declared.insn.Width.{Width}
use Rattle.decode.specs.declared.insn.Width.TheVariants.{W32, W64}
use Rattle.decode.specs.declared.insn.Condition.{Condition}
use Rattle.decode.specs.declared.insn.Size.{Size}
use Rattle.decode.specs.declared.insn.SignedSize.{SignedSize}
use Rattle.decode.specs.declared.insn.Operand.{Operand}
use Rattle.decode.specs.declared.insn.Operand.TheVariants as operand
use Rattle.decode.specs.declared.insn.Insn.{Insn}
use Rattle.decode.specs.declared.insn.Insn.TheVariants.{Alu, MovSx, Neg, End, Jump, JumpLong, JumpIf, Call, Exit, Load, LoadSx, StoreReg, StoreImm, Wide}
use Rattle.decode.specs.Encoding.{bytes_in, loaded, extension_offset, extension_width}
use Rattle.operations.specs.Words.{bits_of}
use Rattle.regtypes.specs.declared.image_form.ImageForm.{ImageForm}
use Rattle.regtypes.specs.declared.image_form.ImageForm.TheVariants.{Sbi1, Sbi2}
use Rattle.regtypes.specs.declared.frame.Region.{Region}
use Rattle.regtypes.specs.declared.frame.Kind.{Kind as FlatKind}
use Rattle.regtypes.specs.declared.frame.Kind.TheVariants as flat
use Rattle.regtypes.specs.declared.frame.Frame.{Frame as FlatFrame}
use Rattle.regtypes.specs.Frame.{kind_at, is_num as is_flat_num}
use Rattle.decode.specs.Attributes.{register_of}
use Rattle.regtypes.specs.Rules.{arguments_of, first_broken, has, is_in_message, is_near, is_place, is_unset, moved, tests_of}
use Rattle.regtypes.specs.Ways.{next, taken}
use Rattle.regtypes.specs.declared.rule.Rule.TheVariants.{V4, V6}
use Rattle.regtypes.proofs.Monotone.{not_false}
use Rattle.regtypes.proofs.RuleLemmas.{rules_of}
use Rattle.regtypes.proofs.RuleLemmas.{send_given, output_given, send_sized_given, output_sized_given}
use Rattle.spans.specs.declared.kind.SpanKind.{SpanKind}
use Rattle.spans.specs.declared.kind.SpanKind.TheVariants.{Num, Place}
use Rattle.spans.specs.declared.span.Span.{Span}
use Rattle.spans.specs.Span.{Within, one, span, whole}
use Rattle.spans.specs.Narrowing.{SpanPair, opposite, shown, where_met}
use Rattle.spans.specs.Frame.{Frame, IsFrame, IsKind, Leq, LeqKind, at_place, is_num, with_kind}
use Rattle.spans.specs.Access.{MayLoad, MayStore, loaded_kind, stored_frame}
use Rattle.spans.specs.Ways.{AluForm, Copies, Sums, Moves, Sets, Computes, HasArguments, Leaves, LeqWay, Ways, alu_form, extended_span, from_span, moved_kind, moved_span, narrowed_frame, operand_kind, result_kind, set_kind, way}
use Rattle.spans.proofs.Closed.{closed}
use Rattle.spans.proofs.Monotone.{operand-is}
use Rattle.spans.proofs.Narrowing.{WithinWay, where_met-inside}
use Rattle.spans.proofs.Order.{LeqKind-refl, Leq-refl, within-refl}
use Rattle.spans.proofs.Tests.{both}
use Rattle.verifier.specs.Span.Rules.{frame_pointer_rule, frame_rule}
use Rattle.verifier.proofs.Spans.Exact.{exact, both as both_kept}
use Rattle.verifier.specs.Span.FlatFrames.{read_frame, read_kind}
use Rattle.verifier.specs.Span.FlatLaws.{AreRulesSubsumed}
use Rattle.verifier.proofs.Spans.FlatFrames.{any_stack, any_word, below, helped, read_frame-is, read_kinds, register, written}
use Rattle.verifier.proofs.Spans.FlatMemory.{IsBase, has_payload, has_sized, may_load, may_store}

-- what is known of the registers breaks no rule of form 3, and what leaves says no less than these two frames
record IsSubsumed (state : ℕ) (i : Insn) (kinds : List FlatKind) (next taken : Frame) : Type 0 where
  pub ways : Ways
  pub leaves : Leaves state i (read_kinds kinds) ways
  pub goes : LeqWay ways.0 (Some next)
  pub leaps : LeqWay ways.1 (Some taken)

-- ---- numbers

number_of : (k : FlatKind) → is_unset k ≡ false → is_place k ≡ false → (s : Span) × (read_kind k ≡ Num s)
number_of flat.Unset u p = cc
number_of flat.Num u p = (_, refl)
number_of flat.Len u p = (_, refl)
number_of (flat.Place r k) u p = cc

number_at : (kinds : List FlatKind) (r : Reg) → has is_unset kinds (Some r) ≡ false → has is_place kinds (Some r) ≡ false → (s : Span) × (read_kinds kinds r.number ≡ Num s)
number_at kinds r u p = let n = number_of (kind_at kinds r.number) u p in (n.0, register kinds r ∙ n.1)

operand_at : (width : Width) (o : Operand) (kinds : List FlatKind) → has is_unset kinds (register_of o) ≡ false → has is_place kinds (register_of o) ≡ false → (s : Span) × (operand_kind width o (read_kinds kinds) ≡ Num s)
operand_at width (operand.Imm z) kinds u p = (_, refl)
operand_at width (operand.Reg r) kinds u p = number_at kinds r u p

number_known : (k : FlatKind) → is_flat_num k ≡ true → is_num (read_kind k) ≡ true
number_known flat.Unset h = cc
number_known flat.Num h = refl
number_known flat.Len h = refl
number_known (flat.Place r k) h = cc

no_more : (form : ImageForm) (n : ℕ) → is_none (arguments_of form (pos (suc (suc (suc (suc (suc (suc (suc n))))))))) ≡ true
no_more Sbi1 n = refl
no_more Sbi2 n = refl

-- ---- one way, on which a register is written

equal : (c : ℕ) → (c == c) ≡ true
equal c = grind (arith, nat_tests)

-- the register's kind is one
given-is : (f : Frame) (c : ℕ) (k : SpanKind) → IsFrame (with_kind f c k) → IsKind k
given-is f c k i = subst (λ (t : Bool). IsKind (if t then k else f c)) (equal c) (i c)

module _ (state : ℕ) (i : Insn) (kinds : List FlatKind) (eleven : length kinds ≡ 11) where
  gives : (dst : Reg) (k : SpanKind) (x : FlatKind) (other : Frame) → Leaves state i (read_kinds kinds) (Some (with_kind (read_kinds kinds) dst.number k), None) → (IsKind k → LeqKind k (read_kind x)) → IsSubsumed state i kinds (read_kinds (slice_set kinds dst.number x)) other
  gives dst k x other l h =
      let c = closed state i (read_kinds kinds) (Some (with_kind (read_kinds kinds) dst.number k), None) (read_frame-is kinds) l in
      record {
        ways = (Some (with_kind (read_kinds kinds) dst.number k), None);
        leaves = l;
        goes = written kinds dst k x eleven (h (given-is (read_kinds kinds) dst.number k c.0));
        leaps = tt;
      }

  -- a number is written
  gives_number : (dst : Reg) (s : Span) (other : Frame) → Leaves state i (read_kinds kinds) (Some (with_kind (read_kinds kinds) dst.number (Num s)), None) → IsSubsumed state i kinds (read_kinds (slice_set kinds dst.number flat.Num)) other
  gives_number dst s other l = gives dst (Num s) flat.Num other l (λ k. any_word (Num s) refl k)

-- ---- arithmetic

numbers_give : (form : AluForm) (s t : Span) → (u : Span) × (result_kind form (Num s) (Num t) ≡ Ok (Num u))
numbers_give Copies s t = (_, refl)
numbers_give Sums s t = (_, refl)
numbers_give (Moves width z) s t = (_, refl)
numbers_give (Sets width) s t = (_, refl)
numbers_give (Computes op width) s t = (_, refl)

near-is : (r : Region) (z : ℤ) → is_near (flat.Place r z) ≡ true → (int_le (negsuc 32767) z && int_le z (pos 32767)) ≡ true
near-is r (pos n) e = let k : n < 32768 = grind (arith, nat_tests) in both (int_le (negsuc 32767) (pos n)) (int_le (pos n) (pos 32767)) (grind (arith, ints)) (grind (arith, ints))
near-is r (negsuc n) e = let k : n < 32768 = grind (arith, nat_tests) in both (int_le (negsuc 32767) (negsuc n)) (int_le (negsuc n) (pos 32767)) (grind (arith, ints)) (grind (arith, ints))

moved_given : (z : ℤ) (k : FlatKind) → is_unset k ≡ false → is_near (moved z k) ≡ true → (h : SpanKind) × (moved_kind W64 z (read_kind k) ≡ Ok h) × (IsKind h → LeqKind h (read_kind (moved z k)))
moved_given z flat.Unset u n = cc
moved_given z flat.Num u n = let k = Num (moved_span 64 z (whole 64)) in (k, refl, any_word k refl)
moved_given z flat.Len u n = let k = Num (moved_span 64 z (span 0 256)) in (k, refl, any_word k refl)
moved_given z (flat.Place r k) u n =
    let p = Place r (at_place (k +ℤ z)) in
    (p, ap (λ (t : Bool). if t then Ok p else Err V6) (near-is r (k +ℤ z) n), λ i. LeqKind-refl p)

copied : (k : FlatKind) → is_unset k ≡ false → set_kind (read_kind k) ≡ Ok (read_kind k)
copied flat.Unset u = cc
copied flat.Num u = refl
copied flat.Len u = refl
copied (flat.Place r k) u = refl

module _ (state : ℕ) (op : AluOp) (width : Width) (dst : Reg) (o : Operand) (kinds : List FlatKind) (eleven : length kinds ≡ 11) (other : Frame) where
  abbrev Left : FlatKind → Type 0
  Left x = IsSubsumed state (Alu op width dst o) kinds (read_kinds (slice_set kinds dst.number x)) other

  -- two numbers make one
  computes : has is_unset kinds (Some dst) ≡ false → has is_place kinds (Some dst) ≡ false → has is_unset kinds (register_of o) ≡ false → has is_place kinds (register_of o) ≡ false → Left flat.Num
  computes u p v q =
      let a = number_at kinds dst u p in
      let b = operand_at width o kinds v q in
      let r = numbers_give (alu_form op width o) a.0 b.0 in
      let e = ap (λ x. result_kind (alu_form op width o) x (operand_kind width o (read_kinds kinds))) a.1 ∙ ap (result_kind (alu_form op width o) (Num a.0)) b.1 ∙ r.1 in
      gives_number state (Alu op width dst o) kinds eleven dst r.0 other (Num r.0, e, refl)

  -- a number is set
  sets : alu_form op width o ≡ Sets width → has is_unset kinds (register_of o) ≡ false → has is_place kinds (register_of o) ≡ false → Left flat.Num
  sets form v q =
      let b = operand_at width o kinds v q in
      let r = numbers_give (Sets width) b.0 b.0 in
      let a = read_kinds kinds dst.number in
      let e = ap (λ x. result_kind x a (operand_kind width o (read_kinds kinds))) form ∙ ap (result_kind (Sets width) a) b.1 ∙ r.1 in
      gives_number state (Alu op width dst o) kinds eleven dst r.0 other (Num r.0, e, refl)

  -- a number or a place is moved
  moves : (z : ℤ) → alu_form op width o ≡ Moves W64 z → has is_unset kinds (Some dst) ≡ false → not (is_near (moved z (kind_at kinds dst.number))) ≡ false → Left (moved z (kind_at kinds dst.number))
  moves z form u near =
      let k = kind_at kinds dst.number in
      let g = moved_given z k u (not_false (is_near (moved z k)) near) in
      let e = ap (λ x. result_kind x (read_kinds kinds dst.number) (operand_kind width o (read_kinds kinds))) form ∙ ap (moved_kind W64 z) (register kinds dst) ∙ g.1 in
      gives state (Alu op width dst o) kinds eleven dst g.0 (moved z k) other (g.0, e, refl) g.2

copies : (state : ℕ) (dst src : Reg) (kinds : List FlatKind) (other : Frame) → length kinds ≡ 11 → has is_unset kinds (Some src) ≡ false → IsSubsumed state (Alu alu.Mov W64 dst (operand.Reg src)) kinds (read_kinds (slice_set kinds dst.number (kind_at kinds src.number))) other
copies state dst src kinds other eleven u =
    let k = kind_at kinds src.number in
    let e = ap set_kind (register kinds src) ∙ copied k u in
    gives state (Alu alu.Mov W64 dst (operand.Reg src)) kinds eleven dst (read_kind k) k other (read_kind k, e, refl) (λ i. LeqKind-refl (read_kind k))

-- ---- jumps

-- what a jump shows lies in what was known
shown-inside : (condition : Option Condition) (n : ℕ) (a b : Span) → WithinWay (shown condition n a b) (Some (a, b))
shown-inside None n a b = (within-refl a, within-refl b)
shown-inside (Some condition) n a b = by_test (nat_lt a.hi (2 ^ n) && nat_lt b.hi (2 ^ n))
  where
    by_test : (t : Bool) → WithinWay (if t then where_met condition n a b else Some (a, b)) (Some (a, b))
    by_test true = where_met-inside condition n a b a b (within-refl a) (within-refl b)
    by_test false = (within-refl a, within-refl b)

module _ (f : Frame) (dst : Reg) (width : Width) (o : Operand) (a b : Span) (da : f dst.number ≡ Num a) (ob : operand_kind width o f ≡ Num b) where
  narrower : (o' : Operand) → o ≡ o' → (p : SpanPair) → Within p.0 a → Within p.1 b → Leq (narrowed_frame f dst o' p) f
  narrower (operand.Imm z) e p l m = below f dst.number (Num p.0) (subst (LeqKind (Num p.0)) (sym da) l)
  narrower (operand.Reg r) e p l m = by_test (dst.number == r.number)
    where
      rb : f r.number ≡ Num b
      rb = ap (λ x. operand_kind width x f) (sym e) ∙ ob

      two : (c : ℕ) → LeqKind (if c == r.number then Num p.1 else if c == dst.number then Num p.0 else f c) (f c)
      two c = by_tests (c == r.number) (below f r.number (Num p.1) (subst (LeqKind (Num p.1)) (sym rb) m) c) (below f dst.number (Num p.0) (subst (LeqKind (Num p.0)) (sym da) l) c)
        where
          by_tests : (t : Bool) → LeqKind (if t then Num p.1 else f c) (f c) → LeqKind (if c == dst.number then Num p.0 else f c) (f c) → LeqKind (if t then Num p.1 else if c == dst.number then Num p.0 else f c) (f c)
          by_tests true x y = x
          by_tests false x y = y

      by_test : (t : Bool) → Leq (if t then f else with_kind (with_kind f dst.number (Num p.0)) r.number (Num p.1)) f
      by_test true = Leq-refl f
      by_test false = two

  -- on each way no less is known
  way_below : (condition : Option Condition) → LeqWay (way condition width dst o f a b) (Some f)
  way_below condition = by_shown (shown condition (bits_of width) a b) (shown-inside condition (bits_of width) a b)
    where
      by_shown : (v : Option SpanPair) → WithinWay v (Some (a, b)) → LeqWay (option_map (narrowed_frame f dst o) v) (Some f)
      by_shown None h = tt
      by_shown (Some p) h = narrower o refl p h.0 h.1

module _ (form : ImageForm) (state : ℕ) (f : FlatFrame) (eleven : length f.kinds ≡ 11) (short : f.low ≤ 256) where
  abbrev Subsumed : Insn → Type 0
  Subsumed i = first_broken (tests_of form state i f) ≡ None → IsSubsumed state i f.kinds (read_frame (next i f)) (read_frame (taken i f))

  arithmetic : (op : AluOp) (width : Width) (dst : Reg) (o : Operand) → Subsumed (Alu op width dst o)
  arithmetic alu.Mov W64 dst (operand.Reg src) h = let r = rules_of form state (Alu alu.Mov W64 dst (operand.Reg src)) f h in copies state dst src f.kinds _ eleven r.set.copied
  arithmetic alu.Mov W64 dst (operand.Imm z) h = let r = rules_of form state (Alu alu.Mov W64 dst (operand.Imm z)) f h in sets state alu.Mov W64 dst (operand.Imm z) f.kinds eleven _ refl r.set.operand r.operand
  arithmetic alu.Mov W32 dst o h = let r = rules_of form state (Alu alu.Mov W32 dst o) f h in sets state alu.Mov W32 dst o f.kinds eleven _ refl r.set.operand r.operand
  arithmetic alu.Add W64 dst (operand.Imm z) h = let r = rules_of form state (Alu alu.Add W64 dst (operand.Imm z)) f h in moves state alu.Add W64 dst (operand.Imm z) f.kinds eleven _ z refl r.set.moved r.near
  arithmetic alu.Sub W64 dst (operand.Imm z) h = let r = rules_of form state (Alu alu.Sub W64 dst (operand.Imm z)) f h in moves state alu.Sub W64 dst (operand.Imm z) f.kinds eleven _ (neg_ℤ z) refl r.set.moved r.near
  arithmetic op width dst o h = let r = rules_of form state (Alu op width dst o) f h in computes state op width dst o f.kinds eleven _ r.set.number r.number r.set.operand r.operand

  -- ---- memory

  abbrev Loaded : Reg → ℤ → ℕ → Type 0
  Loaded src offset n =
      MayLoad state (read_kinds f.kinds) (read_kinds f.kinds src.number) offset n × (is_num (loaded_kind (read_kinds f.kinds) (read_kinds f.kinds src.number) offset n) ≡ true)

  loaded_by : (src : Reg) (offset : ℤ) (n : ℕ) → IsBase f.low state (kind_at f.kinds src.number) offset n → Loaded src offset n
  loaded_by src offset n b =
      let g = read_kinds f.kinds in
      subst (λ x. MayLoad state g x offset n × (is_num (loaded_kind g x offset n) ≡ true)) (sym (register f.kinds src)) (may_load f.low state g (any_stack f.kinds) short (kind_at f.kinds src.number) offset n b)

  load : (size : Size) (dst src : Reg) (offset : ℤ) → Subsumed (Load size dst src offset)
  load size dst src offset h =
      let i = Load size dst src offset in
      let r = rules_of form state i f h in
      let m = loaded_by src offset (bytes_in size) (record { set = r.set.base; place = r.base; inside = r.inside }) in
      let k = loaded_kind (read_kinds f.kinds) (read_kinds f.kinds src.number) offset (bytes_in size) in
      gives state i f.kinds eleven dst k flat.Num _ (m.0, refl) (any_word k m.1)

  load_signed : (size : SignedSize) (dst src : Reg) (offset : ℤ) → Subsumed (LoadSx size dst src offset)
  load_signed size dst src offset h =
      let i = LoadSx size dst src offset in
      let r = rules_of form state i f h in
      let m = loaded_by src offset (bytes_in (loaded size)) (record { set = r.set.base; place = r.base; inside = r.inside }) in
      gives_number state i f.kinds eleven dst (whole 64) _ (m.0, refl)

  abbrev Stored : SpanKind → Reg → ℤ → ℕ → Type 0
  Stored k dst offset n =
      MayStore state (read_kinds f.kinds) k (read_kinds f.kinds dst.number) offset n × Leq (stored_frame (read_kinds f.kinds) k (read_kinds f.kinds dst.number) offset n) (read_kinds f.kinds)

  stored : (k : SpanKind) (dst : Reg) (offset : ℤ) (n : ℕ) → is_num k ≡ true → IsKind k → is_in_message (kind_at f.kinds dst.number) ≡ false → IsBase f.low state (kind_at f.kinds dst.number) offset n → Stored k dst offset n
  stored k dst offset n num ik m b =
      let g = read_kinds f.kinds in
      subst (λ x. MayStore state g k x offset n × Leq (stored_frame g k x offset n) g) (sym (register f.kinds dst)) (may_store f.low state g (any_stack f.kinds) short k num ik (kind_at f.kinds dst.number) offset n m b)

  store : (size : Size) (dst src : Reg) (offset : ℤ) → Subsumed (StoreReg size dst src offset)
  store size dst src offset h =
      let n = bytes_in size in
      let r = rules_of form state (StoreReg size dst src offset) f h in
      let k = number_at f.kinds src r.set.operand r.operand in
      let m = stored (read_kinds f.kinds src.number) dst offset n (ap is_num k.1) (read_frame-is f.kinds src.number) r.unwritten (record { set = r.set.base; place = r.base; inside = r.inside }) in
      record { ways = _; leaves = (m.0, refl); goes = m.1; leaps = tt }

  store_imm : (size : Size) (dst : Reg) (offset imm : ℤ) → Subsumed (StoreImm size dst offset imm)
  store_imm size dst offset imm h =
      let n = bytes_in size in
      let r = rules_of form state (StoreImm size dst offset imm) f h in
      let k = operand_kind W64 (operand.Imm imm) (read_kinds f.kinds) in
      let m = stored k dst offset n refl (operand-is W64 (operand.Imm imm) (read_kinds f.kinds) (read_frame-is f.kinds)) r.unwritten (record { set = r.set.base; place = r.base; inside = r.inside }) in
      record { ways = _; leaves = (m.0, refl); goes = m.1; leaps = tt }

  -- ---- helpers

  arguments : (z : ℤ) → first_broken (tests_of form state (Call z) f) ≡ None → HasArguments state (read_kinds f.kinds) z
  arguments (pos (suc zero)) h =
      let k = send_given form state f h in
      (number_known (kind_at f.kinds 1) k.0, has_payload f.low state (read_kinds f.kinds) (any_stack f.kinds) short (kind_at f.kinds 2) 64 64 (omega arith) k.1)
  arguments (pos (suc (suc zero))) h = has_payload f.low state (read_kinds f.kinds) (any_stack f.kinds) short (kind_at f.kinds 1) 64 64 (omega arith) (output_given form state f h)
  arguments (pos (suc (suc (suc zero)))) h = tt
  arguments (pos (suc (suc (suc (suc zero))))) h = tt
  arguments (pos (suc (suc (suc (suc (suc zero)))))) h =
      let k = send_sized_given form state f h in
      (number_known (kind_at f.kinds 1) k.0, has_sized f.low state (read_kinds f.kinds) (any_stack f.kinds) short (kind_at f.kinds 2) (kind_at f.kinds 3) k.1)
  arguments (pos (suc (suc (suc (suc (suc (suc zero))))))) h = has_sized f.low state (read_kinds f.kinds) (any_stack f.kinds) short (kind_at f.kinds 1) (kind_at f.kinds 2) (output_sized_given form state f h)
  arguments (pos zero) h = absurd (false≢true (sym (rules_of form state (Call (pos zero)) f h).known))
  arguments (pos (suc (suc (suc (suc (suc (suc (suc n)))))))) h =
      absurd (false≢true (sym (rules_of form state (Call (pos (suc (suc (suc (suc (suc (suc (suc n))))))))) f h).known ∙ no_more form n))
  arguments (negsuc n) h = absurd (false≢true (sym (rules_of form state (Call (negsuc n)) f h).known))

  -- ---- instructions

  subsumed : (i : Insn) → Subsumed i
  subsumed (Alu op width dst o) h = arithmetic op width dst o h
  subsumed (MovSx x dst src) h =
      let r = rules_of form state (MovSx x dst src) f h in
      let n = number_at f.kinds src r.set.operand r.operand in
      gives_number state (MovSx x dst src) f.kinds eleven dst _ _ (_, ap (from_span (extended_span (extension_offset x) (bits_of (extension_width x)))) n.1, refl)
  subsumed (Neg width dst) h =
      let r = rules_of form state (Neg width dst) f h in
      let n = number_at f.kinds dst r.set.operand r.operand in
      gives_number state (Neg width dst) f.kinds eleven dst (whole 64) _ (_, ap (from_span (λ s. whole 64)) n.1, refl)
  subsumed (End order bits dst) h =
      let r = rules_of form state (End order bits dst) f h in
      let n = number_at f.kinds dst r.set.operand r.operand in
      gives_number state (End order bits dst) f.kinds eleven dst (whole 64) _ (_, ap (from_span (λ s. whole 64)) n.1, refl)
  subsumed (Wide dst value) h = gives_number state (Wide dst value) f.kinds eleven dst (one (value % 2 ^ 64)) _ (_, refl, refl)
  subsumed (Jump offset) h = record { ways = _; leaves = refl; goes = tt; leaps = Leq-refl (read_kinds f.kinds) }
  subsumed (JumpLong distance) h = record { ways = _; leaves = refl; goes = tt; leaps = Leq-refl (read_kinds f.kinds) }
  subsumed (JumpIf condition width dst o offset) h =
      let r = rules_of form state (JumpIf condition width dst o offset) f h in
      let a = number_at f.kinds dst r.set.number r.number in
      let b = operand_at width o f.kinds r.set.operand r.operand in
      let leq = way_below (read_kinds f.kinds) dst width o a.0 b.0 a.1 b.1 in
      record { ways = _; leaves = (a.0, b.0, a.1, b.1, refl); goes = leq (opposite condition); leaps = leq (Some condition) }
  subsumed (Call helper) h = record { ways = _; leaves = (arguments helper h, refl); goes = helped f.kinds; leaps = tt }
  subsumed Exit h =
      let k = not_false (is_flat_num (kind_at f.kinds 0)) (rules_of form state Exit f h).ended in
      record { ways = _; leaves = (number_known (kind_at f.kinds 0) k, refl); goes = tt; leaps = tt }
  subsumed (Load size dst src offset) h = load size dst src offset h
  subsumed (LoadSx size dst src offset) h = load_signed size dst src offset h
  subsumed (StoreReg size dst src offset) h = store size dst src offset h
  subsumed (StoreImm size dst offset imm) h = store_imm size dst offset imm h

-- V4 asks no frame
frame_pointer_kept : (form : ImageForm) (state : ℕ) (i : Insn) (f : FlatFrame) → first_broken (tests_of form state i f) ≡ None → frame_pointer_rule i ≡ None
frame_pointer_kept form state i f h = ap (λ (t : Bool). if t then Some V4 else None) (rules_of form state i f h).written

pub rules_subsumed : AreRulesSubsumed
rules_subsumed form state i f eleven short h =
    let s = subsumed form state f eleven short i h in
    let e = (exact state i (read_frame f)).1 s.ways s.leaves in
    let goes = subst (λ (w : Ways). LeqWay w.0 (Some (read_frame (next i f)))) e.1 s.goes in
    let leaps = subst (λ (w : Ways). LeqWay w.1 (Some (read_frame (taken i f)))) e.1 s.leaps in
    (both_kept (frame_pointer_rule i) (frame_rule state i (read_frame f)) (frame_pointer_kept form state i f h) e.0, goes, leaps)
