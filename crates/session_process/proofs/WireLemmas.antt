-- The list of the keys that have packets, in order
use Rattle.std.proofs.Common.{◌≡◌, ◌≢◌, ℕ, ◌+◌, ◌-◌, ◌<◌, ◌≤◌, List, length, Bool, true, false, refl, sym, ◌∙◌, ap, arith}
use Rattle.std.specs.Prelude.{Option, Some, None, IsSome, Contains, insert, slice_index_or, ◌==◌, nat_lt}
use Rattle.std.specs.List.{SameBelow, ShiftedDown}
use Rattle.std.specs.List.Sorted.{IsPartitionedBy}
use Rattle.std.proofs.lemmas.Bool.Decides.{nat_tests}
use Rattle.std.proofs.lemmas.List.{get_or_default}
use Rattle.std.proofs.lemmas.List.Edits.{get_or-insert_at, get_or-insert_below, get_or-insert_above, length-insert}
use Rattle.world.specs.declared.packet.Packet.{Packet}
use Rattle.session_process.specs.Wire.{Ascend, AreListed}

-- what is listed stays listed beside one more
contains-insert : (keys : List ℕ) (place more key : ℕ) → place ≤ length keys → Contains keys key → Contains (insert keys place more) key
contains-insert keys place more key within (k, below, at) = by_place (nat_lt k place) refl
  where
    longer : length (insert keys place more) ≡ length keys + 1
    longer = length-insert keys place more within

    by_place : (b : Bool) → nat_lt k place ≡ b → Contains (insert keys place more) key
    by_place true e =
        let before : k < place = grind (arith, nat_tests) in
        (k, omega (arith, longer), get_or-insert_below keys place more key k before within ∙ at)
    by_place false e =
        let behind : place ≤ k = grind (arith, nat_tests) in
        (k + 1, omega (arith, longer), get_or-insert_above keys place more key k behind within ∙ at)

-- and so does the one
contains-inserted : (keys : List ℕ) (place key : ℕ) → place ≤ length keys → Contains (insert keys place key) key
contains-inserted keys place key within =
    let longer : length (insert keys place key) ≡ length keys + 1 = length-insert keys place key within in
    (place, omega (arith, longer), get_or-insert_at keys place key key within)

-- what is listed stays listed beside one less, if it's another
contains-removed : (keys less : List ℕ) (place key other : ℕ) → slice_index_or keys place 0 ≡ key → place < length keys → length less + 1 ≡ length keys → SameBelow keys less place → ShiftedDown keys less place → other ≢ key → Contains keys other → Contains less other
contains-removed keys less place key other was inside shorter before behind differ (k, below, at) = by_place (nat_lt k place) refl (k == place) refl
  where
    by_place : (b : Bool) → nat_lt k place ≡ b → (c : Bool) → (k == place) ≡ c → Contains less other
    by_place true e c f =
        let first : k < place = grind (arith, nat_tests) in
        (k, omega (arith, shorter), before k other first ∙ at)
    by_place false e true f =
        let same : k ≡ place = grind (arith, nat_tests) in
        absurd (differ (sym at ∙ get_or_default keys k other 0 below ∙ ap (λ i. slice_index_or keys i 0) same ∙ was))
    by_place false e false f =
        let last : place < k = grind (arith, nat_tests) in
        let back : k - 1 + 1 ≡ k = omega arith in
        (k - 1, omega (arith, shorter), behind (k - 1) other (omega arith) ∙ ap (λ i. slice_index_or keys i other) back ∙ at)

-- a key more, below which and above which the others are
module _ (keys : List ℕ) (place key : ℕ) (within : place ≤ length keys) (ascend : Ascend keys) (below : (i : ℕ) → i < place → slice_index_or keys i 0 < key) (above : (i : ℕ) → place ≤ i → i < length keys → key < slice_index_or keys i 0) where
  longer : length (insert keys place key) ≡ length keys + 1
  longer = length-insert keys place key within

  under : (i : ℕ) → i < place → slice_index_or (insert keys place key) i 0 < key
  under i h = rw (get_or-insert_below keys place key 0 i h within) (below i h)

  over : (i : ℕ) → place ≤ i → i < length keys → key < slice_index_or (insert keys place key) (i + 1) 0
  over i h l = rw (get_or-insert_above keys place key 0 i h within) (above i h l)

  here : slice_index_or (insert keys place key) place 0 ≡ key
  here = get_or-insert_at keys place key 0 within

  -- at each place is one of the others, or it
  pub insert-cases : (P : ℕ → Type 0) (i : ℕ) → i < length (insert keys place key) → ((j : ℕ) → j < length keys → P (slice_index_or keys j 0)) → P key → P (slice_index_or (insert keys place key) i 0)
  insert-cases P i inside others it = by_place (nat_lt i place) refl (i == place) refl
    where
      by_place : (b : Bool) → nat_lt i place ≡ b → (c : Bool) → (i == place) ≡ c → P (slice_index_or (insert keys place key) i 0)
      by_place true e c f = let h : i < place = grind (arith, nat_tests) in rw (get_or-insert_below keys place key 0 i h within) (others i (omega arith))
      by_place false e true f = let same : i ≡ place = grind (arith, nat_tests) in rw (same, here) it
      by_place false e false f =
          let h : place < i = grind (arith, nat_tests) in
          let back : i ≡ i - 1 + 1 = omega arith in
          let is : slice_index_or (insert keys place key) i 0 ≡ slice_index_or keys (i - 1) 0 = ap (λ n. slice_index_or (insert keys place key) n 0) back ∙ get_or-insert_above keys place key 0 (i - 1) (omega arith) within in
          rw is (others (i - 1) (omega (arith, longer)))

  pub insert-ascends : Ascend (insert keys place key)
  insert-ascends i j less inside = by_place (nat_lt j place) refl (j == place) refl (nat_lt i place) refl (i == place) refl
    where
      before : j ≡ j - 1 + 1
      before = omega arith

      by_place : (a : Bool) → nat_lt j place ≡ a → (b : Bool) → (j == place) ≡ b → (c : Bool) → nat_lt i place ≡ c → (d : Bool) → (i == place) ≡ d → slice_index_or (insert keys place key) i 0 < slice_index_or (insert keys place key) j 0
      by_place true e b f c g d h =
          let low : j < place = grind (arith, nat_tests) in
          rw (get_or-insert_below keys place key 0 i (omega arith) within, get_or-insert_below keys place key 0 j low within) (ascend i j less (omega arith))
      by_place false e true f c g d h = let same : j ≡ place = grind (arith, nat_tests) in rw (same, here) (under i (omega arith))
      by_place false e false f true g d h =
          let high : place < j = grind (arith, nat_tests) in
          let low : i < place = grind (arith, nat_tests) in
          let end : key < slice_index_or (insert keys place key) (j - 1 + 1) 0 = over (j - 1) (omega arith) (omega (arith, longer)) in
          rw before (omega (arith, under i low, end))
      by_place false e false f false g true h =
          let high : place < j = grind (arith, nat_tests) in
          let same : i ≡ place = grind (arith, nat_tests) in
          let end : key < slice_index_or (insert keys place key) (j - 1 + 1) 0 = over (j - 1) (omega arith) (omega (arith, longer)) in
          rw (same, here, before) end
      by_place false e false f false g false h =
          let low : place < i = grind (arith, nat_tests) in
          let back : i ≡ i - 1 + 1 = omega arith in
          let first : slice_index_or (insert keys place key) i 0 ≡ slice_index_or keys (i - 1) 0 = ap (λ n. slice_index_or (insert keys place key) n 0) back ∙ get_or-insert_above keys place key 0 (i - 1) (omega arith) within in
          let second : slice_index_or (insert keys place key) j 0 ≡ slice_index_or keys (j - 1) 0 = ap (λ n. slice_index_or (insert keys place key) n 0) before ∙ get_or-insert_above keys place key 0 (j - 1) (omega arith) within in
          rw (first, second) (ascend (i - 1) (j - 1) (omega arith) (omega (arith, longer)))

-- a packet that is there is still there where its key isn't the one that changes
some-still : (old new : List (Option Packet)) (key : ℕ) → ((other : ℕ) → other ≢ key → slice_index_or new other None ≡ slice_index_or old other None) → (other : ℕ) → other ≢ key → IsSome (slice_index_or old other None) → IsSome (slice_index_or new other None)
some-still old new key others other differ h = rw (others other differ) h

-- a packet more, under a key more
pub listed-insert : (old new : List (Option Packet)) (keys : List ℕ) (place key : ℕ) (packet : Packet) → place ≤ length keys → ((i : ℕ) → i < place → slice_index_or keys i 0 < key) → ((i : ℕ) → place ≤ i → i < length keys → key ≤ slice_index_or keys i 0)
    → slice_index_or old key None ≡ None → slice_index_or new key None ≡ Some packet → ((other : ℕ) → other ≢ key → slice_index_or new other None ≡ slice_index_or old other None) → AreListed old keys
    → AreListed new (insert keys place key)
listed-insert old new keys place key packet within below above vacant now others listed =
    record {
      all = λ other k found. by_key other k found (other == key) refl;
      some = λ i inside. insert-cases keys place key within listed.ascend below strictly (λ other. IsSome (slice_index_or new other None)) i inside
          (λ j l. some-still old new key others (slice_index_or keys j 0) (differs j l) (listed.some j l)) (rw now refl);
      ascend = insert-ascends keys place key within listed.ascend below strictly;
    }
  where
    differs : (i : ℕ) → i < length keys → slice_index_or keys i 0 ≢ key
    differs i l same = let h : IsSome (slice_index_or old (slice_index_or keys i 0) None) = listed.some i l in let none : IsSome {T = Packet} None = rw (same, vacant) at h in absurd (cc)

    strictly : (i : ℕ) → place ≤ i → i < length keys → key < slice_index_or keys i 0
    strictly i h l = let d : slice_index_or keys i 0 ≢ key = differs i l in omega (arith, above i h l, d)

    by_key : (other : ℕ) (k : Packet) → slice_index_or new other None ≡ Some k → (b : Bool) → (other == key) ≡ b → Contains (insert keys place key) other
    by_key other k found true e =
        let same : other ≡ key = grind (arith, nat_tests) in
        rw same (contains-inserted keys place key within)
    by_key other k found false e =
        let differ : other ≢ key = grind (arith, nat_tests) in
        contains-insert keys place key other within (listed.all other k (sym (others other differ) ∙ found))

-- a place that has a packet has one packet
pub there : (o : Option Packet) → IsSome o → (k : Packet) × (o ≡ Some k)
there None h = absurd (cc)
there (Some k) h = (k, refl)

-- a packet in another's place
pub listed-replace : (old new : List (Option Packet)) (keys : List ℕ) (key : ℕ) (packet : Packet) → IsSome (slice_index_or old key None) → slice_index_or new key None ≡ Some packet → ((other : ℕ) → other ≢ key → slice_index_or new other None ≡ slice_index_or old other None) → AreListed old keys
    → AreListed new keys
listed-replace old new keys key packet was now others listed =
    record { all = λ other k found. by_key other k found (other == key) refl; some = λ i l. by_one (slice_index_or keys i 0) (listed.some i l) (slice_index_or keys i 0 == key) refl; ascend = listed.ascend }
  where
    by_key : (other : ℕ) (k : Packet) → slice_index_or new other None ≡ Some k → (b : Bool) → (other == key) ≡ b → Contains keys other
    by_key other k found true e =
        let same : other ≡ key = grind (arith, nat_tests) in
        let old_one = there (slice_index_or old key None) was in
        rw same (listed.all key old_one.0 old_one.1)
    by_key other k found false e =
        let differ : other ≢ key = grind (arith, nat_tests) in
        listed.all other k (sym (others other differ) ∙ found)

    by_one : (other : ℕ) → IsSome (slice_index_or old other None) → (b : Bool) → (other == key) ≡ b → IsSome (slice_index_or new other None)
    by_one other h true e = let same : other ≡ key = grind (arith, nat_tests) in rw (same, now) refl
    by_one other h false e = some-still old new key others other (grind (arith, nat_tests)) h

-- where a key that has a packet is among those that are listed
pub rank-is : (slots : List (Option Packet)) (keys : List ℕ) (place key : ℕ) (k : Packet) → ((i : ℕ) → i < place → slice_index_or keys i 0 < key) → ((i : ℕ) → place ≤ i → i < length keys → key ≤ slice_index_or keys i 0) → slice_index_or slots key None ≡ Some k → AreListed slots keys
    → (place < length keys) × (slice_index_or keys place 0 ≡ key)
rank-is slots keys place key k below above found listed = go (listed.all key k found)
  where
    go : Contains keys key → (place < length keys) × (slice_index_or keys place 0 ≡ key)
    go (n, inside, at) = by_place (nat_lt n place) refl (nat_lt place n) refl
      where
        is : slice_index_or keys n 0 ≡ key
        is = get_or_default keys n 0 key inside ∙ at

        by_place : (b : Bool) → nat_lt n place ≡ b → (c : Bool) → nat_lt place n ≡ c → (place < length keys) × (slice_index_or keys place 0 ≡ key)
        by_place true e c f = absurd (let low : n < place = grind (arith, nat_tests) in omega (arith, below n low, is))
        by_place false e true f = absurd (let high : place < n = grind (arith, nat_tests) in omega (arith, above place (omega arith) (omega arith), listed.ascend place n high inside, is))
        by_place false e false f = let same : place ≡ n = grind (arith, nat_tests) in (omega arith, ap (λ i. slice_index_or keys i 0) same ∙ is)

-- a packet less
module _ (old new : List (Option Packet)) (keys : List ℕ) (key : ℕ) (gone : slice_index_or new key None ≡ None) (others : (other : ℕ) → other ≢ key → slice_index_or new other None ≡ slice_index_or old other None) (listed : AreListed old keys) where
  differ : (other : ℕ) (k : Packet) → slice_index_or new other None ≡ Some k → other ≢ key
  differ other k found same = let none : slice_index_or new other None ≡ None = ap (λ i. slice_index_or new i None) same ∙ gone in absurd (cc)

  module _ (less : List ℕ) (place : ℕ) (was : slice_index_or keys place 0 ≡ key) (inside : place < length keys) (shorter : length less + 1 ≡ length keys) (before : SameBelow keys less place) (behind : ShiftedDown keys less place) where
    -- what is left at each place is another key
    left : (P : ℕ → Type 0) (i : ℕ) → i < length less → ((j : ℕ) → j < length keys → slice_index_or keys j 0 ≢ key → P (slice_index_or keys j 0)) → P (slice_index_or less i 0)
    left P i l each = by_place (nat_lt i place) refl
      where
        by_place : (b : Bool) → nat_lt i place ≡ b → P (slice_index_or less i 0)
        by_place true e =
            let first : i < place = grind (arith, nat_tests) in
            let up = listed.ascend i place first inside in
            rw (before i 0 first) (each i (omega arith) (λ same. omega (arith, up, same, was)))
        by_place false e =
            let last : place ≤ i = grind (arith, nat_tests) in
            let up = listed.ascend place (i + 1) (omega arith) (omega (arith, shorter)) in
            rw (behind i 0 last) (each (i + 1) (omega (arith, shorter)) (λ same. omega (arith, up, same, was)))

    ascends : Ascend less
    ascends i j h l = by_place (nat_lt i place) refl (nat_lt j place) refl
      where
        by_place : (b : Bool) → nat_lt i place ≡ b → (c : Bool) → nat_lt j place ≡ c → slice_index_or less i 0 < slice_index_or less j 0
        by_place true e true f = let a : i < place = grind (arith, nat_tests) in let b : j < place = grind (arith, nat_tests) in rw (before i 0 a, before j 0 b) (listed.ascend i j h (omega arith))
        by_place true e false f = let a : i < place = grind (arith, nat_tests) in let b : place ≤ j = grind (arith, nat_tests) in rw (before i 0 a, behind j 0 b) (listed.ascend i (j + 1) (omega arith) (omega (arith, shorter)))
        by_place false e true f = absurd (let a : place ≤ i = grind (arith, nat_tests) in let b : j < place = grind (arith, nat_tests) in omega arith)
        by_place false e false f = let a : place ≤ i = grind (arith, nat_tests) in let b : place ≤ j = grind (arith, nat_tests) in rw (behind i 0 a, behind j 0 b) (listed.ascend (i + 1) (j + 1) (omega arith) (omega (arith, shorter)))

    pub listed-remove : AreListed new less
    listed-remove =
        record {
          all = λ other k found. contains-removed keys less place key other was inside shorter before behind (differ other k found) (listed.all other k (sym (others other (differ other k found)) ∙ found));
          some = λ i l. left (λ other. IsSome (slice_index_or new other None)) i l (λ j m apart. some-still old new key others (slice_index_or keys j 0) apart (listed.some j m));
          ascend = ascends;
        }

pub is-below : {k key : ℕ} → nat_lt k key ≡ true → k < key
is-below e = grind (arith, nat_tests)

pub is-above : {k key : ℕ} → nat_lt k key ≡ false → key ≤ k
is-above e = grind (arith, nat_tests)

-- the keys below one come before all others
pub ascend-partitioned : (key : ℕ) (keys : List ℕ) → Ascend keys → IsPartitionedBy (λ k. nat_lt k key) keys
ascend-partitioned key keys ascend i j d less inside e = by_place (i == j) refl
  where
    first : slice_index_or keys i d ≡ slice_index_or keys i 0
    first = get_or_default keys i d 0 (omega arith)

    second : slice_index_or keys j d ≡ slice_index_or keys j 0
    second = get_or_default keys j d 0 inside

    by_place : (b : Bool) → (i == j) ≡ b → nat_lt (slice_index_or keys i d) key ≡ true
    by_place true f = let same : i ≡ j = grind (arith, nat_tests) in ap (λ n. nat_lt (slice_index_or keys n d) key) same ∙ e
    by_place false f =
        let apart : i < j = grind (arith, nat_tests) in
        let up : slice_index_or keys i d < slice_index_or keys j d = rw (first, second) (ascend i j apart inside) in
        let low : slice_index_or keys j d < key = is-below e in
        grind (arith, nat_tests)
