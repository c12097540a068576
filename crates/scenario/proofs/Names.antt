-- Names are in the order of the processes.
use Rattle.std.proofs.Common.{◌≡◌, ◌≢◌, ◌<◌, ◌≤◌, ◌-◌, ◌+◌, ℕ, zero, suc, Bool, true, false, List, [], ◌∷◌, length, map, get_or, Option, Some, None, refl, sym, ap, ◌∙◌, arith, rules, cond}
use Rattle.std.specs.Prelude.{◌&&◌, nat_lt, not, codes, String}
use Rattle.std.specs.declared.alloc.Global.{Global}
use Rattle.std.specs.String.{string_bytes}
use Rattle.std.specs.Str.{bytes_eq}
use Rattle.std.specs.Cmp.Lexicographic.{bytes_decides}
use Rattle.std.specs.Map.{keys_of}
use Rattle.std.proofs.lemmas.List.Quantifiers.{position-Some}
use Rattle.std.proofs.lemmas.List.Sums.{prefix_len_passes}
use Rattle.scenario.specs.declared.process.NamedProcess.{NamedProcess}
use Rattle.std.specs.List.{list_all, AllByRecursion, position, position_or_len}
use Rattle.std.proofs.lemmas.Bool.Decides.{nat_tests}
use Rattle.scenario.specs.Order.{IsName, IsProcess, is_name_byte, process_text, party_text}
use Rattle.scenario.specs.Inside.Reads.{Lacks, IsParty, Reads}

and_both : (a b : Bool) → (a && b) ≡ true → (a ≡ true) × (b ≡ true)
and_both true b e = (refl, e)
and_both false b e = absurd cc

no_space : (c : ℕ) → is_name_byte c ≡ true → c ≢ 32
no_space c e is = absurd (let wrong : is_name_byte 32 ≡ true = ap is_name_byte (sym is) ∙ e in cc)

-- bytes that may each be in a name have no space among them
pub bytes_lack : (cs : List ℕ) → list_all is_name_byte cs ≡ true → Lacks 32 cs
bytes_lack [] e = tt
bytes_lack (c ∷ cs) e = let both = and_both (is_name_byte c) (list_all is_name_byte cs) e in (no_space c both.0, bytes_lack cs both.1)

at_lacks : (names : List (List ℕ)) (i : ℕ) → AllByRecursion IsName names → Lacks 32 (get_or names i [])
at_lacks [] i h = tt
at_lacks (x ∷ xs) zero h = bytes_lack x h.0.bytes
at_lacks (x ∷ xs) (suc i) h = at_lacks xs i h.1

-- a name has no space
pub process_lacks : (names : List (List ℕ)) (p : ℕ) → AllByRecursion IsName names → Lacks 32 (process_text names p)
process_lacks names p h = at_lacks names (p - 1) h

outside_lacks : Lacks 32 (codes "outside")
outside_lacks = bytes_lack (codes "outside") refl

-- nor has the name of a party, the outside among them
pub party_lacks : (names : List (List ℕ)) (p : ℕ) → AllByRecursion IsName names → Lacks 32 (party_text names p)
party_lacks names zero h = outside_lacks
party_lacks names (suc p) h = at_lacks names p h

-- each in a list of names is a name
pub at_named : (names : List (List ℕ)) (i : ℕ) → AllByRecursion IsName names → i < length names → IsName (get_or names i [])
at_named [] i h lt = absurd (omega arith)
at_named (x ∷ xs) zero h lt = h.0
at_named (x ∷ xs) (suc i) h lt = at_named xs i h.1 (omega arith)

-- what is a process's name is a party's, and the outside is no process
pub party_reads : (names : List (List ℕ)) (text : List ℕ) (r : Option ℕ) → text ≢ codes "outside"
    → Reads (process_text names) (IsProcess (length names)) text r → Reads (party_text names) (IsParty (length names)) text r
party_reads names text (Some zero) other h = absurd (omega (arith, h.1.0))
party_reads names text (Some (suc p)) other h = (h.0 ∙ ap (λ i. get_or names i []) (omega arith), h.1.1)
party_reads names text None other none = by
  where
    by : (p : ℕ) → p ≤ length names → text ≢ party_text names p
    by zero fits is = other is
    by (suc p) fits is = none (suc p) (omega arith, fits) (is ∙ ap (λ i. get_or names i []) (omega arith))

-- ---- the place of a name

same_place : (t : List ℕ) (es : List (String Global × NamedProcess)) → position_or_len (λ k. bytes_eq t (string_bytes k)) (keys_of es) ≡ position_or_len (bytes_eq t) (map (λ e. string_bytes e.0) es)
same_place t [] = refl
same_place t (e ∷ es) = ap (λ n. cond (not (bytes_eq t (string_bytes e.0))) (1 + n) 0) (same_place t es)

pub same_length : (es : List (String Global × NamedProcess)) → length (keys_of es) ≡ length (map (λ e. string_bytes e.0) es)
same_length [] = refl
same_length (e ∷ es) = omega (arith, same_length es)

-- a name has the same place among the keys as among the names
pub names_place : (t : List ℕ) (es : List (String Global × NamedProcess)) → position (λ k. bytes_eq t (string_bytes k)) (keys_of es) ≡ position (bytes_eq t) (map (λ e. string_bytes e.0) es)
names_place t es =
    let place = same_place t es in
    let len = same_length es in
    λ i. cond (nat_lt (place i) (len i)) (Some (place i)) None

-- the place that is found has the name
pub found : (names : List (List ℕ)) (t : List ℕ) (i : ℕ) → position (bytes_eq t) names ≡ Some i → (t ≡ get_or names i []) × (i < length names)
found names t i e =
    let at = position-Some (bytes_eq t) names i [] e in
    ((bytes_decides t (get_or names i [])).0 at.1, at.0)

none_so : (b : Bool) (n : ℕ) → cond b (Some n) None ≡ None → b ≡ false
none_so true n e = absurd cc
none_so false n e = refl

beyond : (a b : ℕ) → nat_lt a b ≡ false → b ≤ a
beyond a b e = search (rules, nat_tests)

not_true : (b : Bool) → not b ≡ true → b ≡ true → ⊥
not_true true e f = absurd cc
not_true false e f = absurd cc

-- if no place is found, no place has the name
pub missing : (names : List (List ℕ)) (t : List ℕ) → position (bytes_eq t) names ≡ None → (i : ℕ) → i < length names → t ≢ get_or names i []
missing names t none i lt is =
    let long = beyond (position_or_len (bytes_eq t) names) (length names) (none_so _ _ none) in
    let passes = prefix_len_passes (λ x. not (bytes_eq t x)) names i [] (omega arith) in
    not_true _ passes ((bytes_decides t (get_or names i [])).1 is)
