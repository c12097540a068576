-- An order has one line: it can be read back from its kind and its operands.
use Rattle.std.proofs.Common.{◌≡◌, ◌<◌, ◌≤◌, ◌+◌, ◌-◌, ◌*◌, ◌/◌, ◌%◌, ◌^◌, ℕ, zero, suc, Bool, true, false, List, [], ◌∷◌, ◌++◌, length, get_or, cond, refl, sym, ap, ap₂, ◌∙◌, arith, rules}
use Rattle.std.specs.Prelude.{◌==◌, codes, decimal, nat_le, if◌then◌else◌}
use Rattle.std.specs.Char.{digit_char}
use Rattle.std.specs.List.{AllByRecursion}
use Rattle.std.specs.Str.{bytes_eq}
use Rattle.std.specs.Str.Parse.{digits_value}
use Rattle.std.specs.Cmp.Lexicographic.{bytes_decides}
use Rattle.std.proofs.lemmas.Bool.Decides.{nat_tests}
use Rattle.std.proofs.lemmas.Fmt.{decimal_is_IsNumeral}
use Rattle.scenario.specs.declared.order.Order.{Order}
use Rattle.scenario.specs.declared.order.Order.TheVariants as order
use Rattle.scenario.specs.declared.verb.Verb.{Verb}
use Rattle.scenario.specs.declared.verb.Verb.TheVariants as verb
use Rattle.scenario.specs.Hex.{IsPayload, hex_text, pairs_text}
use Rattle.scenario.specs.Inside.Reads.{Lacks}
use Rattle.scenario.specs.Order.{IsInRange, IsName, IsProcess, operands_text, order_text, party_text, process_text, verb_of}
use Rattle.scenario.specs.Process.{AreDifferent}
use Rattle.scenario.proofs.Cuts.{one_cut}
use Rattle.scenario.proofs.HexLemmas.{pairs_length}
use Rattle.scenario.proofs.Lines.{fresh_at}
use Rattle.scenario.proofs.Names.{at_named, party_lacks, process_lacks}
use Rattle.scenario.proofs.Orders.{same_verb, verb_lacks}

skip : {A : Type 0} (b : Bool) (x y : A) → (b ≡ true → ⊥) → cond b x y ≡ y
skip true x y h = absurd (h refl)
skip false x y h = refl

-- ---- operands

-- the parts before and after the first space
before_space : List ℕ → List ℕ
before_space [] = []
before_space (c ∷ cs) = if c == 32 then [] else c ∷ before_space cs

after_space : List ℕ → List ℕ
after_space [] = []
after_space (c ∷ cs) = if c == 32 then cs else after_space cs

no_space : {A : Type 0} (c : ℕ) (x y : A) → (c ≡ 32 → ⊥) → cond (c == 32) x y ≡ y
no_space c x y e = search (rules, nat_tests)

before_is : (a b : List ℕ) → Lacks 32 a → before_space (a ++ 32 ∷ b) ≡ a
unfolding before_space
before_is [] b lacks = refl
before_is (c ∷ cs) b lacks = no_space c [] (c ∷ before_space (cs ++ 32 ∷ b)) lacks.0 ∙ ap (λ x. c ∷ x) (before_is cs b lacks.1)

after_is : (a b : List ℕ) → Lacks 32 a → after_space (a ++ 32 ∷ b) ≡ b
unfolding after_space
after_is [] b lacks = refl
after_is (c ∷ cs) b lacks = no_space c (cs ++ 32 ∷ b) (after_space (cs ++ 32 ∷ b)) lacks.0 ∙ after_is cs b lacks.1

-- ---- names

place_of : List (List ℕ) → List ℕ → ℕ
place_of [] t = 0
place_of (x ∷ xs) t = if bytes_eq x t then 0 else suc (place_of xs t)

place_is : (names : List (List ℕ)) (i : ℕ) → AreDifferent names → i < length names → place_of names (get_or names i []) ≡ i
unfolding place_of
place_is [] i d lt = absurd (omega arith)
place_is (x ∷ xs) zero d lt = ap (λ (b : Bool). cond b 0 (suc (place_of xs x))) ((bytes_decides x x).1 refl)
place_is (x ∷ xs) (suc i) d lt =
    skip (bytes_eq x (get_or xs i [])) 0 (suc (place_of xs (get_or xs i [])))
    (λ e. fresh_at x xs i d.0 (omega arith) ((bytes_decides x (get_or xs i [])).0 e))
    ∙ ap suc (place_is xs i d.1 (omega arith))

process_of : List (List ℕ) → List ℕ → ℕ
process_of names t = suc (place_of names t)

process_is : (names : List (List ℕ)) (p : ℕ) → AreDifferent names → IsProcess (length names) p → process_of names (process_text names p) ≡ p
unfolding process_of
process_is names p d inside =
    let back : suc (p - 1) ≡ p = omega (arith, inside.0) in
    ap suc (place_is names (p - 1) d (omega (arith, inside.0, inside.1))) ∙ back

party_of : List (List ℕ) → List ℕ → ℕ
party_of names t = if bytes_eq t (codes "outside") then 0 else suc (place_of names t)

party_is : (names : List (List ℕ)) (p : ℕ) → AllByRecursion IsName names → AreDifferent names → p ≤ length names → party_of names (party_text names p) ≡ p
unfolding party_of
party_is names zero named d inside = refl
party_is names (suc p) named d inside =
    skip (bytes_eq (get_or names p []) (codes "outside")) 0 (suc (place_of names (get_or names p [])))
    (λ e. (at_named names p named (omega (arith, inside))).other ((bytes_decides (get_or names p []) (codes "outside")).0 e))
    ∙ ap suc (place_is names p d (omega (arith, inside)))

-- ---- numbers and bytes

word_is : (n : ℕ) → n < 2 ^ 64 → digits_value 10 (decimal n) ≡ n
word_is n lt = (decimal_is_IsNumeral n lt).1

number_is : (n : ℕ) → n < 2 ^ 32 → digits_value 10 (decimal n) ≡ n
number_is n lt = word_is n (omega (arith, lt))

digit_of : ℕ → ℕ
digit_of c = if nat_le c 57 then c - 48 else c - 87

digit_is : (n : ℕ) → n < 16 → digit_of (digit_char n) ≡ n
unfolding digit_of
digit_is n lt = grind (arith, nat_tests)

unpaired : List ℕ → List ℕ
unpaired [] = []
unpaired (h ∷ []) = []
unpaired (h ∷ l ∷ rest) = (digit_of h * 16 + digit_of l) ∷ unpaired rest

pairs_is : (bytes : List ℕ) → AllByRecursion (λ b. b < 256) bytes → unpaired (pairs_text bytes) ≡ bytes
unfolding unpaired
pairs_is [] small = refl
pairs_is (b ∷ rest) small =
    let high = digit_is (b / 16) (omega (arith, small.0)) in
    let low = digit_is (b % 16) (omega (arith, small.0)) in
    let whole : b / 16 * 16 + b % 16 ≡ b = omega arith in
    (λ i. (high i * 16 + low i) ∷ unpaired (pairs_text rest)) ∙ ap₂ (λ x xs. x ∷ xs) whole (pairs_is rest small.1)

unhexed : List ℕ → List ℕ
unhexed t = if bytes_eq t (codes "-") then [] else unpaired t

hex_is : (bytes : List ℕ) → IsPayload bytes → unhexed (hex_text bytes) ≡ bytes
unfolding unhexed
hex_is [] fits = refl
hex_is (b ∷ rest) fits =
    skip (bytes_eq (pairs_text (b ∷ rest)) (codes "-")) [] (unpaired (pairs_text (b ∷ rest)))
    (λ e. absurd (omega (arith, pairs_length (b ∷ rest), ap length ((bytes_decides (pairs_text (b ∷ rest)) (codes "-")).0 e))))
    ∙ pairs_is (b ∷ rest) fits.1

-- ---- orders

order_at : List (List ℕ) → Verb → List ℕ → Order
order_at names verb.Input t = order.Input (process_of names (before_space t)) (digits_value 10 (after_space t))
order_at names verb.Bytes t = order.Bytes (process_of names (before_space t)) (unhexed (after_space t))
order_at names verb.Transmit t =
    order.Transmit (party_of names (before_space t)) (party_of names (before_space (after_space t))) (digits_value 10 (after_space (after_space t)))
order_at names verb.Copy t = order.Copy (digits_value 10 t)
order_at names verb.Lose t = order.Lose (digits_value 10 t)
order_at names verb.Arrive t = order.Arrive (digits_value 10 t)
order_at names verb.Finish t = order.Finish (process_of names t)
order_at names verb.Checkpoint t = order.Checkpoint (process_of names t)
order_at names verb.Trim t = order.Trim (party_of names t)
order_at names verb.Crash t = order.Crash (process_of names t)
order_at names verb.Recover t = order.Recover (process_of names t)
order_at names verb.Alone t = order.RecoverAlone (process_of names t)
order_at names verb.Replay t = order.ReplayBegin (process_of names t)
order_at names verb.Resync t = order.Resync (process_of names (before_space t)) (process_of names (after_space t))
order_at names verb.Drive t = order.Drive (digits_value 10 t)

module _ (names : List (List ℕ)) (named : AllByRecursion IsName names) (different : AreDifferent names) where
  left_process : (p : ℕ) (t : List ℕ) → IsProcess (length names) p → process_of names (before_space (process_text names p ++ 32 ∷ t)) ≡ p
  left_process p t inside = ap (process_of names) (before_is (process_text names p) t (process_lacks names p named)) ∙ process_is names p different inside

  right_of_process : (p : ℕ) (t : List ℕ) → after_space (process_text names p ++ 32 ∷ t) ≡ t
  right_of_process p t = after_is (process_text names p) t (process_lacks names p named)

  left_party : (p : ℕ) (t : List ℕ) → p ≤ length names → party_of names (before_space (party_text names p ++ 32 ∷ t)) ≡ p
  left_party p t inside = ap (party_of names) (before_is (party_text names p) t (party_lacks names p named)) ∙ party_is names p named different inside

  right_of_party : (p : ℕ) (t : List ℕ) → after_space (party_text names p ++ 32 ∷ t) ≡ t
  right_of_party p t = after_is (party_text names p) t (party_lacks names p named)

  order_is : (o : Order) → IsInRange (length names) o → order_at names (verb_of o) (operands_text names o) ≡ o
  unfolding order_at
  order_is (order.Input to word) r =
      ap₂ order.Input (left_process to (decimal word) r.0) (ap (digits_value 10) (right_of_process to (decimal word)) ∙ word_is word r.1)
  order_is (order.Bytes to payload) r =
      ap₂ order.Bytes (left_process to (hex_text payload) r.0) (ap unhexed (right_of_process to (hex_text payload)) ∙ hex_is payload r.1)
  order_is (order.Transmit from to ssn) r =
      let behind : after_space (party_text names from ++ 32 ∷ (party_text names to ++ 32 ∷ decimal ssn)) ≡ party_text names to ++ 32 ∷ decimal ssn =
      right_of_party from (party_text names to ++ 32 ∷ decimal ssn) in
      let one = left_party from (party_text names to ++ 32 ∷ decimal ssn) r.0 in
      let two = ap (λ t. party_of names (before_space t)) behind ∙ left_party to (decimal ssn) r.1 in
      let three = ap (λ t. digits_value 10 (after_space t)) behind ∙ ap (digits_value 10) (right_of_party to (decimal ssn)) ∙ number_is ssn r.2 in
      λ i. order.Transmit (one i) (two i) (three i)
  order_is (order.Copy key) r = ap order.Copy (number_is key r)
  order_is (order.Lose key) r = ap order.Lose (number_is key r)
  order_is (order.Arrive key) r = ap order.Arrive (number_is key r)
  order_is (order.Finish p) r = ap order.Finish (process_is names p different r)
  order_is (order.Checkpoint p) r = ap order.Checkpoint (process_is names p different r)
  order_is (order.Trim to) r = ap order.Trim (party_is names to named different r)
  order_is (order.Crash p) r = ap order.Crash (process_is names p different r)
  order_is (order.Recover p) r = ap order.Recover (process_is names p different r)
  order_is (order.RecoverAlone p) r = ap order.RecoverAlone (process_is names p different r)
  order_is (order.ReplayBegin p) r = ap order.ReplayBegin (process_is names p different r)
  order_is (order.Resync p peer) r =
      ap₂ order.Resync (left_process p (process_text names peer) r.0) (ap (process_of names) (right_of_process p (process_text names peer)) ∙ process_is names peer different r.1)
  order_is (order.Drive budget) r = ap order.Drive (number_is budget r)

  -- orders with one line are one
  pub one_order : (o p : Order) → IsInRange (length names) o → IsInRange (length names) p → order_text names o ≡ order_text names p → o ≡ p
  one_order o p fits_o fits_p same =
      let operands = (one_cut 32 _ _ _ _ (verb_lacks (verb_of o)) (verb_lacks (verb_of p)) same).1 in
      sym (order_is o fits_o) ∙ ap₂ (order_at names) (same_verb names o p same) operands ∙ order_is p fits_p
