-- What a page restores is what was received
use Rattle.std.proofs.Common.{◌≡◌, ℕ, zero, suc, ◌+◌, ◌-◌, ◌<◌, ◌≤◌, List, [], ◌∷◌, length, take, drop, map, Bool, true, false, refl, sym, ap, ◌∙◌, subst, arith}
use Rattle.std.specs.Prelude.{Option, Some, None, ◌==◌, nat_le, if◌then◌else◌}
use Rattle.std.proofs.lemmas.Bool.Decides.{nat_tests}
use Rattle.std.proofs.lemmas.List.{take_all, length-drop}
use Rattle.rsn.specs.Receipts.{numbers_of, numbers_from}
use Rattle.world.specs.declared.message.Message.{Message}
use Rattle.world.specs.History.{count_of, rsn_of, rsn_from}
use Rattle.world.specs.Plan.{or_else}
use Rattle.cluster.specs.Parcels.{reaches}
use Rattle.cluster.specs.Cluster.{Cluster}
use Rattle.packets.specs.Packet.{is_done, flags_of}
use Rattle.packets.specs.declared.page.Pair.{Pair}
use Rattle.packets.specs.declared.page.Flags.{Flags}
use Rattle.node.specs.Node.{TheNode, covered_of}
use Rattle.node.specs.Pages.{pairs_from}
use Rattle.packets.specs.Says.{first_number, last_behind, restored_end}
use Rattle.node.specs.Stands.{Stands}
use Rattle.node.proofs.Numbers.{rsn-pairs, rsn-beyond, rsn-joined}
use Rattle.node.proofs.PageLemmas.{drop-pairs, length-cut}
use Rattle.packets.proofs.Reports.{done-is}

below : (a b : ℕ) → nat_le a b ≡ true → a ≤ b
below a b e = grind (arith, nat_tests)

beyond : (a b : ℕ) → nat_le a b ≡ false → b < a
beyond a b e = grind (arith, nat_tests)

-- ---- pages of pairs

drop-first : (base c j ssn : ℕ) (ks : List ℕ) → c + j < ssn → first_number (pairs_from base (c + j) (drop j ks)) ssn ≡ first_number (pairs_from base c ks) ssn
drop-first base c zero ssn ks l = ap (λ z. first_number (pairs_from base z ks) ssn) (let e : c + 0 ≡ c = omega arith in e)
drop-first base c (suc j) ssn [] l = refl
drop-first base c (suc j) ssn (k ∷ ks) l =
    let off : (suc c == ssn) ≡ false = grind (arith, nat_tests) in
    ap (λ z. first_number (pairs_from base z (drop j ks)) ssn) (let e : c + suc j ≡ suc c + j = omega arith in e) ∙ drop-first base (suc c) j ssn ks (omega (arith, l)) ∙ rw off refl

abbrev ssns_on : List Pair → List ℕ
ssns_on xs = map (λ (x : Pair). x.ssn) xs

-- up to the last SSN of a page nothing is behind it
take-first : (base c j ssn k : ℕ) (ks : List ℕ) → c < ssn → k < ssn → ssn ≤ last_behind k (ssns_on (take j (pairs_from base c ks))) → first_number (take j (pairs_from base c ks)) ssn ≡ first_number (pairs_from base c ks) ssn
take-first base c zero ssn k ks l m end = absurd (omega (arith, m, end))
take-first base c (suc j) ssn k [] l m end = refl
take-first base c (suc j) ssn k (x ∷ ks) l m end = split (suc c == ssn) refl (λ above. take-first base (suc c) j ssn (suc c) ks above above end)
  where
    split : (t : Bool) → (suc c == ssn) ≡ t → (suc c < ssn → first_number (take j (pairs_from base (suc c) ks)) ssn ≡ first_number (pairs_from base (suc c) ks) ssn)
        → (if t then Some (base + x) else first_number (take j (pairs_from base (suc c) ks)) ssn) ≡ (if t then Some (base + x) else first_number (pairs_from base (suc c) ks) ssn)
    split true e onward = refl
    split false e onward = onward (grind (arith, nat_tests))

last-pairs : (base c j k : ℕ) (ks : List ℕ) → k ≤ suc c → k ≤ last_behind k (ssns_on (take j (pairs_from base c ks)))
last-pairs base c zero k ks l = omega arith
last-pairs base c (suc j) k [] l = omega arith
last-pairs base c (suc j) k (x ∷ ks) l = let e : suc c ≤ last_behind (suc c) (ssns_on (take j (pairs_from base (suc c) ks))) = last-pairs base (suc c) j (suc c) ks (omega arith) in omega (arith, l, e)

first-last : (base c most s : ℕ) (ks : List ℕ) → 0 < most → 0 < length ks → s ≤ c → s < last_behind s (ssns_on (take most (pairs_from base c ks)))
first-last base c zero s ks some long l = absurd (omega (arith, some))
first-last base c (suc j) s [] some long l = absurd (omega (arith, long))
first-last base c (suc j) s (x ∷ ks) some long l = let e : suc c ≤ last_behind (suc c) (ssns_on (take j (pairs_from base (suc c) ks))) = last-pairs base (suc c) j (suc c) ks (omega arith) in omega (arith, l, e)

-- where a page ends
end-of : (flags : Flags) (s : ℕ) (xs : List Pair) (t : Bool) → is_done flags ≡ t → restored_end flags s xs ≡ (if t then None else Some (last_behind s (ssns_on xs)))
end-of flags s xs t e = ap (λ b. if b then None else Some (last_behind s (ssns_on xs))) e

module _ (most : ℕ) (some : 0 < most) (base c s : ℕ) (exact : Bool) (ks : List ℕ) where
  abbrev all : List Pair
  all = drop (s - c) (pairs_from base c ks)

  abbrev from : ℕ
  from = c + (s - c)

  abbrev left : List ℕ
  left = drop (s - c) ks

  abbrev fits : Bool
  fits = nat_le (length all) most

  abbrev flags : Flags
  flags = flags_of fits false exact

  all-is : all ≡ pairs_from base from left
  all-is = drop-pairs base c (s - c) ks

  -- the first page tells of all as far as it goes
  pub pairs-told : (ssn : ℕ) → s < ssn → c < ssn → reaches (restored_end flags s (take most all)) ssn ≡ true → first_number (pairs_from base c ks) ssn ≡ first_number (take most all) ssn
  pairs-told ssn above behind reach = by_end fits refl
    where
      here : first_number (pairs_from base c ks) ssn ≡ first_number all ssn
      here = sym (drop-first base c (s - c) ssn ks (omega (arith, above, behind))) ∙ ap (λ xs. first_number xs ssn) (sym all-is)

      by_end : (t : Bool) → fits ≡ t → first_number (pairs_from base c ks) ssn ≡ first_number (take most all) ssn
      by_end true e = let few : length all ≤ most = below (length all) most e in here ∙ ap (λ xs. first_number xs ssn) (sym (take_all most all few))
      by_end false e =
          let P : Option ℕ → Type 0 = λ o. reaches o ssn ≡ true in
          let end : nat_le ssn (last_behind s (ssns_on (take most all))) ≡ true = subst P (end-of flags s (take most all) false (done-is fits false exact ∙ e)) reach in
          let low : ssn ≤ last_behind s (ssns_on (take most all)) = below ssn (last_behind s (ssns_on (take most all))) end in
          let Q : List Pair → Type 0 = λ xs. ssn ≤ last_behind s (ssns_on (take most xs)) in
          here ∙ ap (λ xs. first_number xs ssn) all-is ∙ sym (take-first base from most ssn s left (omega (arith, above, behind)) above (subst Q all-is low)) ∙ ap (λ xs. first_number (take most xs) ssn) (sym all-is)

  -- a page that doesn't go to the end goes on
  pub pairs-go : (v : ℕ) → restored_end flags s (take most all) ≡ Some v → s < v
  pairs-go v e = by_end fits refl
    where
      by_end : (t : Bool) → fits ≡ t → s < v
      by_end true f = absurd (let g : restored_end flags s (take most all) ≡ None = end-of flags s (take most all) true (done-is fits false exact ∙ f) in cc (g, e))
      by_end false f =
          let g : restored_end flags s (take most all) ≡ Some (last_behind s (ssns_on (take most all))) = end-of flags s (take most all) false (done-is fits false exact ∙ f) in
          let last : last_behind s (ssns_on (take most all)) ≡ v = cc (g, e) in
          let many : most < length all = beyond (length all) most f in
          let long : 0 < length left = omega (arith, many, length-cut base c (s - c) ks, length-drop (s - c) ks) in
          let first : s < last_behind s (ssns_on (take most (pairs_from base from left))) = first-last base from most s left some long (omega arith) in
          let Q : List Pair → Type 0 = λ xs. s < last_behind s (ssns_on (take most xs)) in
          let there : s < last_behind s (ssns_on (take most all)) = subst Q (sym all-is) first in
          omega (arith, last, there)

-- ---- what a node received

pub history-told : (n : TheNode) (c : Cluster) (d ssn : ℕ) → Stands n c n.me → d ≤ n.count → covered_of d n < ssn → rsn_of (c.world.history n.me) d ssn ≡ first_number (pairs_from n.base (covered_of d n) (numbers_of d n.receipts)) ssn
history-told n c d ssn s low above =
    let r = s.received in
    let covered : covered_of d n ≡ count_of d r.before = r.covered_is d low in
    let none : rsn_from 0 d ssn r.before ≡ None = rsn-beyond 0 (λ q. 0) d ssn r.before r.ordered (omega (arith, covered, above)) in
    let place : 0 + length r.before ≡ n.base + 0 = omega (arith, r.many) in
    ap (rsn_from 0 d ssn) (sym r.joined) ∙ rsn-joined 0 d ssn r.before r.behind ∙ ap (λ z. or_else z (rsn_from (0 + length r.before) d ssn r.behind)) none ∙ ap (λ z. rsn_from z d ssn r.behind) place
    ∙ rsn-pairs 0 n.base (λ q. count_of q r.before) d ssn r.behind r.in_order ∙ ap (λ z. first_number (pairs_from n.base z (numbers_from d 0 (map (λ (m : Message). m.sender) r.behind))) ssn) (sym covered)
    ∙ ap (λ z. first_number (pairs_from n.base (covered_of d n) (numbers_from d 0 z)) ssn) (sym r.senders)
