-- The plan of a recovery is what was received after the checkpoint, up to what is held
use Rattle.std.proofs.Common.{◌≡◌, ℕ, zero, suc, ◌+◌, ◌-◌, ◌<◌, ◌≤◌, List, [], ◌∷◌, ◌++◌, length, take, Bool, true, false, refl, sym, ap, ◌∙◌, subst, arith, length-append}
use Rattle.std.specs.Prelude.{Option, Some, None, slice_get, nat_lt, nat_le, ◌&&◌, if◌then◌else◌, ◌==◌}
use Rattle.std.proofs.lemmas.Bool.Decides.{nat_tests}
use Rattle.std.proofs.lemmas.Option.{slice_get_within}
use Rattle.world.specs.declared.message.Message.{Message}
use Rattle.world.specs.History.{Payload, nth, count_of}
use Rattle.world.specs.Phases.{is_down}
use Rattle.world.specs.World.{World}
use Rattle.world.specs.Logs.{sent, length_of, is_entry}
use Rattle.world.specs.Plan.{message_of, is_number, logged_as, or_else, first_below, found, if_next, chosen, pushed, gather}
use Rattle.theorems.specs.Growth.{Begins}
use Rattle.theorems.specs.Kept.{IsEntry, Held}
use Rattle.theorems.specs.Invariants.Secured.{Safe}
use Rattle.theorems.specs.Invariants.Sound.{IsNext, Sound}
use Rattle.theorems.specs.Invariants.Exact.{Names, Exact}
use Rattle.theorems.proofs.ListLemmas.{take-next, take-length, at-number, nth-of, some-same, none-some, begins-self, begins-trans}
use Rattle.theorems.proofs.HistoryLemmas.{Ordered, ordered-push}
use Rattle.theorems.proofs.LogLemmas.{payloads-agree, entry-when, entry-test}

-- what first_below finds is there, at a number below the bound
pub first_below-at : {X : Type 0} (f : ℕ → Option X) (k : ℕ) (x : X) → first_below f k ≡ Some x → (j : ℕ) × (j < k) × (f j ≡ Some x)
first_below-at f zero x e = absurd (cc)
first_below-at {X} f (suc k) x e = split (first_below f k) refl e (first_below-at f k x)
  where
    split : (o : Option X) → first_below f k ≡ o → or_else o (f k) ≡ Some x → (first_below f k ≡ Some x → (j : ℕ) × (j < k) × (f j ≡ Some x)) → (j : ℕ) × (j < suc k) × (f j ≡ Some x)
    split None g e more = (k, omega arith, e)
    split (Some y) g e more = let r = more (g ∙ e) in (r.0, let l : r.0 < k = r.1 in omega arith, r.2)

-- and it finds something if there is something
pub first_below-some : {X : Type 0} (f : ℕ → Option X) (k j : ℕ) (x : X) → j < k → f j ≡ Some x → (y : X) × (first_below f k ≡ Some y)
first_below-some f zero j x l e = absurd (omega arith)
first_below-some {X} f (suc k) j x l e = split (first_below f k) refl (first_below-some f k j x)
  where
    here : (o : Option X) → f k ≡ o → (y : X) × (o ≡ Some y) → (y : X) × (o ≡ Some y)
    here o g r = r

    split : (o : Option X) → first_below f k ≡ o → (j < k → f j ≡ Some x → (y : X) × (first_below f k ≡ Some y)) → (y : X) × (or_else o (f k) ≡ Some y)
    split (Some y) g more = (y, refl)
    split None g more = last (nat_lt j k) refl
      where
        last : (b : Bool) → nat_lt j k ≡ b → (y : X) × (f k ≡ Some y)
        last true t = absurd (let r = more (grind (arith, nat_tests)) e in let u : None ≡ Some r.0 = sym g ∙ r.1 in cc)
        last false t = let same : j ≡ k = grind (arith, nat_tests) in (x, ap f (sym same) ∙ e)

-- what the log entry of this number is
pub logged_as-at : (w : World) (p m s i : ℕ) (x : Message) → logged_as w p m s i ≡ Some x → IsEntry w s p i × (w.numbers s p i ≡ Some m) × (x.sender ≡ s) × (x.ssn ≡ i) × (nth (sent w s p) i ≡ Some x.payload)
logged_as-at w p m s i x e = split (is_entry w s p i) refl (w.numbers s p i) refl e
  where
    text : (o : Option Payload) → nth (sent w s p) i ≡ o → message_of s i o ≡ Some x → (x.sender ≡ s) × (x.ssn ≡ i) × (nth (sent w s p) i ≡ Some x.payload)
    text None f e = absurd (cc)
    text (Some y) f e = let same : record { sender = s; ssn = i; payload = y } ≡ x = cc in (ap (λ z. z.sender) (sym same), ap (λ z. z.ssn) (sym same), f ∙ ap (λ z. Some z.payload) same)

    pick : (k : ℕ) → w.numbers s p i ≡ Some k → IsEntry w s p i → (c : Bool) → (k == m) ≡ c → (if c then message_of s i (nth (sent w s p) i) else None) ≡ Some x → IsEntry w s p i × (w.numbers s p i ≡ Some m) × (x.sender ≡ s) × (x.ssn ≡ i) × (nth (sent w s p) i ≡ Some x.payload)
    pick k g h true t e = let r = text (nth (sent w s p) i) refl e in (h, g ∙ ap (λ z. Some z) (grind (arith, nat_tests)), r.0, r.1, r.2)
    pick k g h false t e = absurd (cc)

    split : (b : Bool) → is_entry w s p i ≡ b → (o : Option ℕ) → w.numbers s p i ≡ o → (if b && is_number m o then message_of s i (nth (sent w s p) i) else None) ≡ Some x
        → IsEntry w s p i × (w.numbers s p i ≡ Some m) × (x.sender ≡ s) × (x.ssn ≡ i) × (nth (sent w s p) i ≡ Some x.payload)
    split true f (Some k) g e = pick k g (entry-when w s p i f) (k == m) refl e
    split true f None g e = absurd (cc)
    split false f o g e = absurd (cc)

same-message : (x y : Message) → x.sender ≡ y.sender → x.ssn ≡ y.ssn → x.payload ≡ y.payload → x ≡ y
same-message x y a b c = λ i. record { sender = a i; ssn = b i; payload = c i }

-- the place of the entry that is found
pub record Lies (w : World) (p m : ℕ) (x : Message) : Type 0 where
  pub by : ℕ
  pub below : by ≤ w.count
  pub ssn : ℕ
  pub number : w.numbers by p ssn ≡ Some m
  pub entry : IsEntry w by p ssn
  pub sender : x.sender ≡ by
  pub of : x.ssn ≡ ssn
  pub text : nth (sent w by p) ssn ≡ Some x.payload

-- what is found under a number is a log entry that has it
pub found-lies : (w : World) (p m : ℕ) (x : Message) → found w p m ≡ Some x → Lies w p m x
found-lies w p m x e =
    let a : (s : ℕ) × (s < suc w.count) × (first_below (logged_as w p m s) (suc (length (sent w s p))) ≡ Some x) = first_below-at (λ s. first_below (logged_as w p m s) (suc (length (sent w s p)))) (suc w.count) x e in
    let b : (i : ℕ) × (i < suc (length (sent w a.0 p))) × (logged_as w p m a.0 i ≡ Some x) = first_below-at (logged_as w p m a.0) (suc (length (sent w a.0 p))) x a.2 in
    let l = logged_as-at w p m a.0 b.0 x b.2 in
    record { by = a.0; below = (let c : a.0 < suc w.count = a.1 in omega arith); ssn = b.0; number = l.1; entry = l.0; sender = l.2; of = l.3; text = l.4 }

-- and a log entry that has the number is what logged_as gives for it
pub logged_as-is : (w : World) (p m s i : ℕ) (x : Payload) → IsEntry w s p i → w.numbers s p i ≡ Some m → nth (sent w s p) i ≡ Some x → logged_as w p m s i ≡ Some (record { sender = s; ssn = i; payload = x })
logged_as-is w p m s i x l n t =
    let a : is_entry w s p i ≡ true = entry-test w s p i l in
    let b : is_number m (w.numbers s p i) ≡ true = rw n (let c : (m == m) ≡ true = grind (arith, nat_tests) in c) in
    rw (a, b, t) refl

pub if_next-some : (h : List Message) (o : Option Message) (x : Message) → if_next h o ≡ Some x → o ≡ Some x
if_next-some h None x e = absurd (cc)
if_next-some h (Some m) x e = split (m.ssn == suc (count_of m.sender h)) e
  where
    split : (b : Bool) → (if b then Some m else None) ≡ Some x → Some m ≡ Some x
    split true e = e
    split false e = absurd (cc)

pub if_next-next : (h : List Message) (o : Option Message) (x : Message) → o ≡ Some x → x.ssn ≡ suc (count_of x.sender h) → if_next h o ≡ Some x
if_next-next h o x e n =
    let P : Option Message → Type 0 = λ z. if_next h z ≡ Some x in
    subst P (sym e) (let t : (x.ssn == suc (count_of x.sender h)) ≡ true = grind (arith, nat_tests) in rw t refl)

pub pushed-most : (h : List Message) (o : Option Message) → length (pushed h o) ≤ length h + 1
pushed-most h None = omega arith
pushed-most h (Some x) = omega (arith, length-append {A = Message})

gather-most : (w : World) (p : ℕ) (h : List Message) (f : ℕ) → length (gather w p h f) ≤ length h + f
gather-most w p h zero = omega arith
gather-most w p h (suc f) = let a : length (gather w p h f) ≤ length h + f = gather-most w p h f in let b : length (pushed (gather w p h f) (chosen w p (gather w p h f))) ≤ length (gather w p h f) + 1 = pushed-most (gather w p h f) (chosen w p (gather w p h f)) in omega arith

-- the log entry with a number that some log holds is found, if only the outside and processes have numbers
pub found-held : (w : World) (p : ℕ) → ((s i k : ℕ) → w.numbers s p i ≡ Some k → s ≤ w.count) → (m : ℕ) → Held w p m → (x : Message) × (found w p m ≡ Some x)
found-held w p from m l =
    let below : l.by ≤ w.count = from l.by l.ssn m l.number in
    let above : w.trims l.by p < l.ssn = l.entry.above in
    let within : l.ssn ≤ length (sent w l.by p) = l.entry.within in
    let text : (x : Payload) × (nth (sent w l.by p) l.ssn ≡ Some x) = nth-of (sent w l.by p) l.ssn (omega arith) within in
    let inner = first_below-some (logged_as w p m l.by) (suc (length (sent w l.by p))) l.ssn _ (omega arith) (logged_as-is w p m l.by l.ssn text.0 l.entry l.number text.1) in
    first_below-some (λ a. first_below (logged_as w p m a) (suc (length (sent w a p)))) (suc w.count) l.by inner.0 (omega arith) inner.1

up-to-next : (n m : ℕ) (P : ℕ → Type 0) → P (suc n) → (m ≤ n → P m) → m ≤ suc n → P m
up-to-next n m P last less l = split (nat_le m n) refl
  where
    split : (b : Bool) → nat_le m n ≡ b → P m
    split true e = less (grind (arith, nat_tests))
    split false e = let same : suc n ≡ m = grind (arith, nat_tests) in subst P same last

module _ (w : World) (p : ℕ) (s : Sound w) (h : Exact w) where
  -- the payload of what p received is that of its sender's log
  pub same-text : (m : ℕ) (y : Message) → nth (w.history p) m ≡ Some y → IsEntry w y.sender p y.ssn → nth (sent w y.sender p) y.ssn ≡ Some y.payload
  same-text m y e l =
      let at : (k : ℕ) × (m ≡ suc k) × (slice_get (w.history p) k ≡ Some y) = at-number (w.history p) m y e in
      let is : Safe w p y = h.received p at.0 y at.2 in
      payloads-agree w s.grows y.sender (w.history y.sender) p is.upto (length_of w y.sender) y.ssn y.payload is.sends l.within

  -- an entry that is found holds what p received under this number
  pub lies-is : (m : ℕ) (x : Message) → Lies w p m x → nth (w.history p) m ≡ Some x
  lies-is m x l = go (h.recorded l.by p l.ssn m l.number)
    where
      go : Names (w.history p) m l.by l.ssn → nth (w.history p) m ≡ Some x
      go n =
          let a : n.message.sender ≡ x.sender = n.sender ∙ sym l.sender in
          let b : n.message.ssn ≡ x.ssn = n.ssn ∙ sym l.of in
          let entry : IsEntry w n.message.sender p n.message.ssn = rw (n.sender, n.ssn) l.entry in
          let text : nth (sent w n.message.sender p) n.message.ssn ≡ Some n.message.payload = same-text m n.message n.at entry in
          let there : nth (sent w l.by p) l.ssn ≡ Some n.message.payload = rw (n.sender, n.ssn) at text in
          n.at ∙ ap (λ z. Some z) (same-message n.message x a b (some-same _ _ _ there l.text))

  -- and one is found if a log holds the number
  pub held-found : (m : ℕ) → Held w p m → (x : Message) × (found w p m ≡ Some x)
  held-found m l = found-held w p from m l
    where
      from : (a i k : ℕ) → w.numbers a p i ≡ Some k → a ≤ w.count
      from a i k e = go (h.recorded a p i k e)
        where
          go : Names (w.history p) k a i → a ≤ w.count
          go n = let at : (j : ℕ) × (k ≡ suc j) × (slice_get (w.history p) j ≡ Some n.message) = at-number (w.history p) k n.message n.at in rw n.sender at (s.received p at.0 n.message at.2).from

  -- the plan takes what p received next
  pub chosen-is : (k : ℕ) (x : Message) → k ≤ length (w.history p) → chosen w p (take k (w.history p)) ≡ Some x → Held w p (suc k) × (slice_get (w.history p) k ≡ Some x)
  chosen-is k x l e =
      let P : ℕ → Type 0 = λ n. found w p (suc n) ≡ Some x in
      let f : found w p (suc k) ≡ Some x = subst P (take-length (w.history p) k l) (if_next-some _ _ x e) in
      let t : Lies w p (suc k) x = found-lies w p (suc k) x f in
      (record { by = t.by; ssn = t.ssn; number = t.number; entry = t.entry }, lies-is (suc k) x t)

  -- and nothing if no log holds the next number
  pub chosen-none : (k : ℕ) → k ≤ length (w.history p) → chosen w p (take k (w.history p)) ≡ None → ¬ Held w p (suc k)
  chosen-none k l e held =
      let f : (x : Message) × (found w p (suc k) ≡ Some x) = held-found (suc k) held in
      let there : slice_get (w.history p) k ≡ Some f.0 = lies-is (suc k) f.0 (found-lies w p (suc k) f.0 f.1) in
      let P : ℕ → Type 0 = λ n. if_next (take k (w.history p)) (found w p (suc n)) ≡ None in
      let none : if_next (take k (w.history p)) (found w p (suc k)) ≡ None = subst P (take-length (w.history p) k l) e in
      let some : if_next (take k (w.history p)) (found w p (suc k)) ≡ Some f.0 = if_next-next _ _ f.0 f.1 (s.received p k f.0 there).next in
      absurd (none-some f.0 _ none some)

  gather-is : (c f : ℕ) → c ≤ length (w.history p) → length (gather w p (take c (w.history p)) f) ≡ c + f
      → (gather w p (take c (w.history p)) f ≡ take (c + f) (w.history p)) × (c + f ≤ length (w.history p)) × ((m : ℕ) → c < m → m ≤ c + f → Held w p m)
  gather-is c zero l e = (let n : c + 0 ≡ c = omega arith in rw n refl, omega arith, λ m a b. absurd (omega arith))
  gather-is c (suc f) l e = split (chosen w p (gather w p (take c (w.history p)) f)) refl e (gather-is c f l)
    where
      split : (o : Option Message) → chosen w p (gather w p (take c (w.history p)) f) ≡ o → length (pushed (gather w p (take c (w.history p)) f) o) ≡ c + suc f
          → (length (gather w p (take c (w.history p)) f) ≡ c + f → (gather w p (take c (w.history p)) f ≡ take (c + f) (w.history p)) × (c + f ≤ length (w.history p)) × ((m : ℕ) → c < m → m ≤ c + f → Held w p m))
          → (pushed (gather w p (take c (w.history p)) f) o ≡ take (c + suc f) (w.history p)) × (c + suc f ≤ length (w.history p)) × ((m : ℕ) → c < m → m ≤ c + suc f → Held w p m)
      split None g e more =
          let a : length (gather w p (take c (w.history p)) f) ≤ length (take c (w.history p)) + f = gather-most w p (take c (w.history p)) f in
          let b : length (take c (w.history p)) ≡ c = take-length (w.history p) c l in
          absurd (omega arith)
      split (Some x) g e more =
          let a : length (gather w p (take c (w.history p)) f ++ x ∷ []) ≡ length (gather w p (take c (w.history p)) f) + 1 = length-append _ _ in
          let r = more (omega arith) in
          let P : List Message → Type 0 = λ ys. chosen w p ys ≡ Some x in
          let t = chosen-is (c + f) x r.1 (subst P r.0 g) in
          let n : c + suc f ≡ suc (c + f) = omega arith in
          let u : c + f < length (w.history p) = slice_get_within (w.history p) (c + f) x t.1 in (
            ap (λ ys. ys ++ x ∷ []) r.0 ∙ sym (take-next (w.history p) (c + f) x t.1) ∙ ap (λ j. take j (w.history p)) (sym n),
            omega arith,
            λ m a b. up-to-next (c + f) m (Held w p) t.0 (r.2 m a) (omega arith),
          )

  -- the plan gives back the beginning of the history, all of it held
  pub plan-is : (k : ℕ) → w.saved p ≤ k → length (gather w p (take (w.saved p) (w.history p)) (k - w.saved p)) ≡ k
      → (gather w p (take (w.saved p) (w.history p)) (k - w.saved p) ≡ take k (w.history p)) × (k ≤ length (w.history p)) × ((m : ℕ) → w.saved p < m → m ≤ k → Held w p m)
  plan-is k l e =
      let n : k ≡ w.saved p + (k - w.saved p) = omega arith in
      let r = gather-is (w.saved p) (k - w.saved p) (s.saved p) (e ∙ n) in
      (r.0 ∙ ap (λ j. take j (w.history p)) (sym n), let a : w.saved p + (k - w.saved p) ≤ length (w.history p) = r.1 in omega arith, λ m a b. r.2 m a (omega arith))

-- the plan takes only what is its sender's next, also if failures overlap
if_next-is : (h : List Message) (o : Option Message) (x : Message) → if_next h o ≡ Some x → (o ≡ Some x) × (x.ssn ≡ suc (count_of x.sender h))
if_next-is h None x e = absurd (cc)
if_next-is h (Some m) x e = split (m.ssn == suc (count_of m.sender h)) refl e
  where
    split : (b : Bool) → (m.ssn == suc (count_of m.sender h)) ≡ b → (if b then Some m else None) ≡ Some x → (Some m ≡ Some x) × (x.ssn ≡ suc (count_of x.sender h))
    split true t e = let same : m ≡ x = cc in let P : Message → Type 0 = λ y. y.ssn ≡ suc (count_of y.sender h) in (e, subst P same (grind (arith, nat_tests)))
    split false t e = absurd (cc)

pub gather-ordered : (w : World) (p : ℕ) → 0 < p → p ≤ w.count → is_down (w.phase p) ≡ true → (h : List Message) → Ordered w.count p h → (f : ℕ) → Ordered w.count p (gather w p h f)
gather-ordered w p a b down h o zero = o
gather-ordered w p a b down h o (suc f) = split (chosen w p (gather w p h f)) refl (gather-ordered w p a b down h o f)
  where
    next : (x : Message) → chosen w p (gather w p h f) ≡ Some x → IsNext w.count p (gather w p h f) x
    next x e =
        let n = if_next-is (gather w p h f) _ x e in
        let l : Lies w p (suc (length (gather w p h f))) x = found-lies w p _ x n.0 in
        record {
          target = a;
          inside = b;
          next = n.1;
          from = rw l.sender l.below;
          other = λ same. let t : is_down (w.phase p) ≡ false = rw (sym l.sender ∙ same) at l.entry.live in absurd (let u : true ≡ false = sym down ∙ t in cc);
        }

    split : (o : Option Message) → chosen w p (gather w p h f) ≡ o → Ordered w.count p (gather w p h f) → Ordered w.count p (pushed (gather w p h f) o)
    split None e r = r
    split (Some x) e r = ordered-push w.count p (gather w p h f) x r (next x e)

pub gather-begins : (w : World) (p : ℕ) (h : List Message) (f : ℕ) → Begins h (gather w p h f)
gather-begins w p h zero = begins-self h
gather-begins w p h (suc f) = begins-trans h (gather w p h f) (pushed (gather w p h f) (chosen w p (gather w p h f))) (gather-begins w p h f) (more (gather w p h f) (chosen w p (gather w p h f)))
  where
    more : (g : List Message) (o : Option Message) → Begins g (pushed g o)
    more g None = begins-self g
    more g (Some x) = (x ∷ [], refl)
