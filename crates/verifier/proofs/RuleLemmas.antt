-- What follows if an instruction breaks no rule.
use Rattle.std.proofs.Common.{◌≡◌, ℕ, ◌<◌, true, false, List, Option, Some, None, ℤ, pos, negsuc, refl, sym, ap, subst, ◌∙◌, arith}
use Rattle.std.specs.Prelude.{not, ◌&&◌, nat_lt, is_some}
use Rattle.std.proofs.lemmas.Bool.{and_parts, false≢true}
use Rattle.std.proofs.lemmas.Bool.Decides.{nat_tests}
use Rattle.decode.specs.declared.insn.Insn.{Insn}
use Rattle.decode.specs.Slots.{insn_at}
use Rattle.regtypes.specs.declared.image_form.ImageForm.{ImageForm}
use Rattle.regtypes.specs.declared.frame.Region.TheVariants.{Message, State, Stack}
use Rattle.regtypes.specs.declared.frame.Kind.{Kind}
use Rattle.regtypes.specs.declared.frame.Kind.TheVariants.{Unset, Num, Len, Place}
use Rattle.regtypes.specs.declared.frame.Frame.{Frame}
use Rattle.decode.specs.declared.attributes.Access.{Access}
use Rattle.regtypes.specs.Frame.{kind_at, is_num}
use Rattle.decode.specs.Attributes.{attributes_of}
use Rattle.regtypes.specs.Rules.{is_unset, is_in_message, has, base_of, has_bytes, moved, reaches_out, first_broken, tests_of}
use Rattle.regtypes.proofs.Parts.{stores_in_message}
use Rattle.regtypes.specs.Typing.{is_target}
use Rattle.regtypes.proofs.Monotone.{not_false}
use Rattle.verifier.specs.Places.{index_of}
use Rattle.verifier.specs.Inside.Places.{IsInside, IsWritable}
use Rattle.regtypes.proofs.RuleLemmas.{rules_of}

-- ---- bases of loads and stores

inside_from : (k : Kind) (low len n : ℕ) (offset : ℤ) → is_unset k ≡ false → is_num k ≡ false → not (has_bytes low len n (moved offset k)) ≡ false → IsInside low len k offset n
inside_from Unset low len n offset a b h = absurd (false≢true (sym a))
inside_from Num low len n offset a b h = absurd (false≢true (sym b))
inside_from Len low len n offset a b h = absurd (false≢true (sym b))
inside_from (Place r at) low len n offset a b h = not_false (has_bytes low len n (moved offset (Place r at))) h

writable_from : (k : Kind) → is_unset k ≡ false → is_num k ≡ false → is_in_message k ≡ false → IsWritable k
writable_from Unset a b c = absurd (false≢true (sym a))
writable_from Num a b c = absurd (false≢true (sym b))
writable_from Len a b c = absurd (false≢true (sym b))
writable_from (Place Message at) a b c = absurd (false≢true (sym c))
writable_from (Place State at) a b c = tt
writable_from (Place Stack at) a b c = tt

-- the bytes of an access lie in their region, and what is stored to can be written
pub record Reaches (low len : ℕ) (kinds : List Kind) (a : Access) : Type 0 where
  pub inside : IsInside low len (kind_at kinds a.base.number) a.offset a.bytes
  pub writable : a.stores ≡ true → IsWritable (kind_at kinds a.base.number)

-- its load or store lies in its region, and writes only where it may
pub access_rules : (form : ImageForm) (len : ℕ) (i : Insn) (f : Frame) (a : Access) → (attributes_of i).access ≡ Some a → first_broken (tests_of form len i f) ≡ None → Reaches f.low len f.kinds a
access_rules form len i f a e h =
    let r = rules_of form len i f h in
    let k = kind_at f.kinds a.base.number in
    let set : is_unset k ≡ false = subst (λ (x : Option Access). has is_unset f.kinds (base_of x) ≡ false) e r.set.base in
    let base : is_num k ≡ false = subst (λ (x : Option Access). has is_num f.kinds (base_of x) ≡ false) e r.base in
    let inside : not (has_bytes f.low len a.bytes (moved a.offset k)) ≡ false = subst (λ (x : Option Access). reaches_out len f x ≡ false) e r.inside in
    let unwritten : (a.stores && is_in_message k) ≡ false = subst (λ (x : Option Access). stores_in_message f.kinds x ≡ false) e r.unwritten in
    record {
      inside = inside_from k f.low len a.bytes a.offset set base inside;
      writable = λ s. writable_from k set base (sym (ap (λ b. b && is_in_message k) s) ∙ unwritten);
    }

-- ---- jumps

-- a jump that is allowed goes forward
pub target_forward : (slots : List (Option Insn)) (n : ℕ) (z : ℤ) → not (is_target slots n z) ≡ false → (z ≡ pos (index_of z)) × (n < index_of z)
target_forward slots n (pos t) h =
    let a = and_parts (nat_lt n t) (is_some (insn_at slots t)) (not_false (nat_lt n t && is_some (insn_at slots t)) h) in
    let l : nat_lt n t ≡ true = a.0 in
    (refl, grind (arith, nat_tests))
target_forward slots n (negsuc t) h = cc
