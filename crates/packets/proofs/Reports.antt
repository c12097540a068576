-- What a page tells is what the log has
use Rattle.std.proofs.Common.{◌≡◌, ℕ, zero, suc, ◌+◌, ◌-◌, ◌<◌, ◌≤◌, List, [], ◌∷◌, ◌++◌, length, map, Bool, true, false, refl, sym, ap, ◌∙◌, subst, arith}
use Rattle.std.specs.Prelude.{Option, Some, None, ◌==◌, ◌&&◌, nat_lt, nat_le, if◌then◌else◌, slice_index_or}
use Rattle.std.proofs.lemmas.Bool.Decides.{nat_tests}
use Rattle.std.proofs.lemmas.List.{length-append}
use Rattle.world.specs.declared.message.Message.{Message}
use Rattle.world.specs.History.{Payload}
use Rattle.world.specs.Plan.{is_number, message_of, or_else, first_below}
use Rattle.cluster.specs.Parcels.{reaches}
use Rattle.cluster.specs.Rules.{message}
use Rattle.packets.specs.Packet.{is_done, is_lost, is_exact, flags_of}
use Rattle.packets.specs.declared.page.LoggedMessage.{LoggedMessage}
use Rattle.packets.specs.declared.page.Flags.{Flags}
use Rattle.packets.specs.declared.log_pages.TheConstants.{TOLD_BYTES}
use Rattle.packets.specs.Pages.{entry_at, before, entries_from, entries_above, entry_size, fitting, page_of}
use Rattle.packets.specs.Says.{first_told, last_behind, told_end}
use Rattle.packets.proofs.PageLemmas.{Ordered, Over, or-none, or-assoc, below-none, all-ordered}

-- ---- the first of many

pub first-first : {X : Type 0} (f : ℕ → Option X) (n : ℕ) → first_below f (suc n) ≡ or_else (f 0) (first_below (λ i. f (suc i)) n)
first-first f zero = sym (or-none (f 0))
first-first f (suc n) = ap (λ z. or_else z (f (suc n))) (first-first f n) ∙ or-assoc (f 0) (first_below (λ i. f (suc i)) n) (f (suc n))

pub first-none : {X : Type 0} (f : ℕ → Option X) (n : ℕ) → ((i : ℕ) → i < n → f i ≡ None) → first_below f n ≡ None
first-none f zero h = refl
first-none f (suc n) h = rw (first-none f n (λ i l. h i (omega (arith, l))), h n (omega arith)) refl

pub first-split : {X : Type 0} (f : ℕ → Option X) (a b : ℕ) → ((i : ℕ) → i < a → f i ≡ None) → first_below f (a + b) ≡ first_below (λ i. f (a + i)) b
first-split f a zero h = ap (first_below f) (let e : a + 0 ≡ a = omega arith in e) ∙ first-none f a h
first-split f a (suc b) h = ap (first_below f) (let e : a + suc b ≡ suc (a + b) = omega arith in e) ∙ ap (λ z. or_else z (f (a + b))) (first-split f a b h)

-- ---- a log as a list

-- the message with this SSN, where its number is m
abbrev pub found_as : ℕ → ℕ → ℕ → Payload → Option ℕ → Option Message
found_as p m ssn x n = if is_number m n then Some (message p ssn x) else None

told-before : (p k m ssn : ℕ) (x : Payload) (n : Option ℕ) (es : List LoggedMessage) → k < m → first_told p (before (entry_at k ssn x n) es) m ≡ or_else (found_as p m ssn x n) (first_told p es m)
told-before p k m ssn x None es l = refl
told-before p k m ssn x (Some j) es l = split (nat_lt k j) refl (j == m) refl
  where
    split : (t : Bool) → nat_lt k j ≡ t → (u : Bool) → (j == m) ≡ u → first_told p (before (if t then Some (record { number = j; ssn = ssn; payload = x }) else None) es) m ≡ or_else (if u then Some (message p ssn x) else None) (first_told p es m)
    split true e true f = rw f refl
    split true e false f = rw f refl
    split false e true f = absurd (grind (arith, nat_tests))
    split false e false f = refl

pub told-from : (p k m s : ℕ) (xs : List Payload) (ns : List (Option ℕ)) (f : ℕ → Option Message) → k < m → length ns ≡ length xs
    → ((i : ℕ) → i < length xs → f i ≡ found_as p m (suc (s + i)) (slice_index_or xs i []) (slice_index_or ns i None)) → first_told p (entries_from k s xs ns) m ≡ first_below f (length xs)
told-from p k m s [] ns f l long h = refl
told-from p k m s (x ∷ xs) [] f l long h = absurd (omega (arith, long))
told-from p k m s (x ∷ xs) (n ∷ ns) f l long h =
    let here : f 0 ≡ found_as p m (suc s) x n = h 0 (omega arith) ∙ ap (λ z. found_as p m (suc z) x n) (let e : s + 0 ≡ s = omega arith in e) in
    let rest : first_told p (entries_from k (suc s) xs ns) m ≡ first_below (λ i. f (suc i)) (length xs) = told-from p k m (suc s) xs ns (λ i. f (suc i)) l (omega (arith, long))
    (λ i z. h (suc i) (omega (arith, z)) ∙ ap (λ y. found_as p m (suc y) (slice_index_or xs i []) (slice_index_or ns i None)) (let e : s + suc i ≡ suc s + i = omega arith in e)) in
    told-before p k m (suc s) x n (entries_from k (suc s) xs ns) l ∙ ap (or_else (found_as p m (suc s) x n)) rest ∙ ap (λ z. or_else z (first_below (λ i. f (suc i)) (length xs))) (sym here) ∙ sym (first-first f (length xs))

before-over : (k ssn : ℕ) (x : Payload) (n : Option ℕ) (es : List LoggedMessage) → Over (suc k) es → Over (suc k) (before (entry_at k ssn x n) es)
before-over k ssn x None es h = h
before-over k ssn x (Some j) es h = split (nat_lt k j) refl
  where
    split : (t : Bool) → nat_lt k j ≡ t → Over (suc k) (before (if t then Some (record { number = j; ssn = ssn; payload = x }) else None) es)
    split true e = (grind (arith, nat_tests), h)
    split false e = h

pub entries-over : (k s : ℕ) (xs : List Payload) (ns : List (Option ℕ)) → Over (suc k) (entries_from k s xs ns)
entries-over k s [] ns = tt
entries-over k s (x ∷ xs) [] = tt
entries-over k s (x ∷ xs) (n ∷ ns) = before-over k (suc s) x n (entries_from k (suc s) xs ns) (entries-over k (suc s) xs ns)

-- they ascend
pub entries-ordered : (k s : ℕ) (xs : List Payload) (ns : List (Option ℕ)) → Ordered (suc k) (entries_above k s xs ns)
entries-ordered k s xs ns = all-ordered (suc k) [] (entries_from k s xs ns) (entries-over k s xs ns) tt

pub logged-when : (e : Bool) (a b : Option ℕ) (o : Option Payload) (p m ssn : ℕ) (x : Payload) → e ≡ true → a ≡ b → o ≡ Some x → (if e && is_number m a then message_of p ssn o else None) ≡ found_as p m ssn x b
logged-when true a b o p m ssn x e f g = rw (f, g) refl
logged-when false a b o p m ssn x e f g = absurd (cc)

pub logged-off : (e d : Bool) (o : Option Message) → e ≡ false → (if e && d then o else None) ≡ None
logged-off true d o e = absurd (cc)
logged-off false d o e = refl

-- ---- pages

pub done-is : (t l x : Bool) → is_done (flags_of t l x) ≡ t
done-is true true true = refl
done-is true true false = refl
done-is true false true = refl
done-is true false false = refl
done-is false true true = refl
done-is false true false = refl
done-is false false true = refl
done-is false false false = refl

pub lost-is : (t x : Bool) → is_lost (flags_of t false x) ≡ false
lost-is true true = refl
lost-is true false = refl
lost-is false true = refl
lost-is false false = refl

pub exact-is : (t x : Bool) → is_exact (flags_of t false x) ≡ x
exact-is true true = refl
exact-is true false = refl
exact-is false true = refl
exact-is false false = refl

fitting-prefix : (room : ℕ) (es : List LoggedMessage) → (rest : List LoggedMessage) × (fitting room es ++ rest ≡ es)
fitting-prefix room [] = ([], refl)
fitting-prefix room (e ∷ es) = split (nat_le (entry_size e) room) (fitting-prefix (room - entry_size e) es)
  where
    split : (b : Bool) → (rest : List LoggedMessage) × (fitting (room - entry_size e) es ++ rest ≡ es) → (rest : List LoggedMessage) × ((if b then e ∷ fitting (room - entry_size e) es else []) ++ rest ≡ e ∷ es)
    split true h = (h.0, ap (λ l. e ∷ l) h.1)
    split false h = (e ∷ es, refl)

page-prefix : (bytes : ℕ) (es : List LoggedMessage) → (rest : List LoggedMessage) × (page_of bytes es ++ rest ≡ es)
page-prefix bytes [] = ([], refl)
page-prefix bytes (e ∷ es) = let h = fitting-prefix _ es in (h.0, ap (λ l. e ∷ l) h.1)

told-append : (p : ℕ) (xs ys : List LoggedMessage) (m : ℕ) → first_told p (xs ++ ys) m ≡ or_else (first_told p xs m) (first_told p ys m)
told-append p [] ys m = refl
told-append p (x ∷ xs) ys m = split (x.number == m) (told-append p xs ys m)
  where
    split : (b : Bool) → first_told p (xs ++ ys) m ≡ or_else (first_told p xs m) (first_told p ys m) → (if b then Some (message p x.ssn x.payload) else first_told p (xs ++ ys) m) ≡ or_else (if b then Some (message p x.ssn x.payload) else first_told p xs m) (first_told p ys m)
    split true e = refl
    split false e = e

ordered-left : (b : ℕ) (xs ys : List LoggedMessage) → Ordered b (xs ++ ys) → Ordered b xs
ordered-left b [] ys h = tt
ordered-left b (x ∷ xs) ys h = (h.0, ordered-left x.number xs ys h.1)

abbrev numbers_on : List LoggedMessage → List ℕ
numbers_on es = map (λ (e : LoggedMessage). e.number) es

-- where a page ends
end-of : (flags : Flags) (k : ℕ) (es : List LoggedMessage) (t : Bool) → is_done flags ≡ t → told_end flags k es ≡ (if t then None else Some (last_behind k (numbers_on es)))
end-of flags k es t e = ap (λ b. if b then None else Some (last_behind k (numbers_on es))) e

-- up to the last number of a page nothing is behind it
last-told : (p k b m : ℕ) (page rest : List LoggedMessage) → k < m → Ordered b (page ++ rest) → m ≤ last_behind k (numbers_on page) → first_told p (page ++ rest) m ≡ first_told p page m
last-told p k b m [] rest l h end = absurd (omega (arith, l, end))
last-told p k b m (x ∷ page) rest l h end = split (x.number == m) refl (nat_lt x.number m) refl (λ low. last-told p x.number x.number m page rest low h.1 end)
  where
    split : (t : Bool) → (x.number == m) ≡ t → (u : Bool) → nat_lt x.number m ≡ u → (x.number < m → first_told p (page ++ rest) m ≡ first_told p page m)
        → (if t then Some (message p x.ssn x.payload) else first_told p (page ++ rest) m) ≡ (if t then Some (message p x.ssn x.payload) else first_told p page m)
    split true e u f onward = refl
    split false e true f onward = onward (grind (arith, nat_tests))
    split false e false f onward =
        let low : m < x.number = grind (arith, nat_tests) in
        below-none p x.number (page ++ rest) m low h.1 ∙ sym (below-none p x.number page m low (ordered-left x.number page rest h.1))

no-rest : {X : Type 0} (xs ys : List X) → length (xs ++ ys) ≡ length xs → ys ≡ []
no-rest xs [] e = refl
no-rest xs (y ∷ ys) e = absurd (omega (arith, length-append xs (y ∷ ys), e))

-- the first page of all tells of all as far as it goes
pub page-told : (bytes p k m : ℕ) (exact : Bool) (all : List LoggedMessage) → k < m → Ordered (suc k) all → reaches (told_end (flags_of (length (page_of bytes all) == length all) false exact) k (page_of bytes all)) m ≡ true → first_told p all m ≡ first_told p (page_of bytes all) m
page-told bytes p k m exact all l h reach = by_end (length (page_of bytes all) == length all) refl
  where
    cut : (rest : List LoggedMessage) × (page_of bytes all ++ rest ≡ all)
    cut = page-prefix bytes all

    by_end : (t : Bool) → (length (page_of bytes all) == length all) ≡ t → first_told p all m ≡ first_told p (page_of bytes all) m
    by_end true e =
        let same_length : length (page_of bytes all ++ cut.0) ≡ length (page_of bytes all) = (let same : length (page_of bytes all) ≡ length all = grind (arith, nat_tests) in ap length cut.1 ∙ sym same) in
        let none : cut.0 ≡ [] = no-rest (page_of bytes all) cut.0 same_length in
        ap (λ es. first_told p es m) (sym cut.1) ∙ told-append p (page_of bytes all) cut.0 m ∙ ap (λ es. or_else (first_told p (page_of bytes all) m) (first_told p es m)) none ∙ or-none (first_told p (page_of bytes all) m)
    by_end false e =
        let flags : Flags = flags_of (length (page_of bytes all) == length all) false exact in
        let P : Option ℕ → Type 0 = λ o. reaches o m ≡ true in
        let end : nat_le m (last_behind k (numbers_on (page_of bytes all))) ≡ true = subst P (end-of flags k (page_of bytes all) false (done-is (length (page_of bytes all) == length all) false exact ∙ e)) reach in
        let low : m ≤ last_behind k (numbers_on (page_of bytes all)) = grind (arith, nat_tests) in
        ap (λ es. first_told p es m) (sym cut.1) ∙ last-told p k (suc k) m (page_of bytes all) cut.0 l (subst (Ordered (suc k)) (sym cut.1) h) low

last-above : (b : ℕ) (es : List LoggedMessage) → Ordered b es → b ≤ last_behind b (numbers_on es)
last-above b [] h = omega arith
last-above b (e ∷ es) h = let l : e.number ≤ last_behind e.number (numbers_on es) = last-above e.number es h.1 in omega (arith, h.0, l)

-- a page that doesn't go to the end goes on
pub page-goes : (bytes k v : ℕ) (exact : Bool) (all : List LoggedMessage) → Ordered (suc k) all → told_end (flags_of (length (page_of bytes all) == length all) false exact) k (page_of bytes all) ≡ Some v → k < v
page-goes bytes k v exact [] h e = absurd (let f : told_end (flags_of true false exact) k [] ≡ None = end-of (flags_of true false exact) k [] true (done-is true false exact) in cc)
page-goes bytes k v exact (x ∷ all) h e = by_end (length (page_of bytes (x ∷ all)) == length (x ∷ all)) refl
  where
    page : List LoggedMessage
    page = page_of bytes (x ∷ all)

    behind : List LoggedMessage
    behind = fitting (bytes - TOLD_BYTES - entry_size x) all

    cut : (rest : List LoggedMessage) × (page_of bytes (x ∷ all) ++ rest ≡ x ∷ all)
    cut = page-prefix bytes (x ∷ all)

    by_end : (t : Bool) → (length (page_of bytes (x ∷ all)) == length (x ∷ all)) ≡ t → k < v
    by_end true f = absurd (let g : told_end (flags_of (length page == length (x ∷ all)) false exact) k page ≡ None = end-of (flags_of (length page == length (x ∷ all)) false exact) k page true (done-is (length page == length (x ∷ all)) false exact ∙ f) in cc (g, e))
    by_end false f =
        let g : told_end (flags_of (length page == length (x ∷ all)) false exact) k page ≡ Some (last_behind k (numbers_on page)) = end-of (flags_of (length page == length (x ∷ all)) false exact) k page false (done-is (length page == length (x ∷ all)) false exact ∙ f) in
        let last : last_behind x.number (numbers_on behind) ≡ v = cc (g, e) in
        let ascends : Ordered (suc k) (x ∷ behind) = ordered-left (suc k) (x ∷ behind) cut.0 (subst (Ordered (suc k)) (sym cut.1) h) in
        omega (arith, ascends.0, last-above x.number behind ascends.1, last)
