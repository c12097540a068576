-- One pass gives the least typing: what a join and a slot do to it.
use Rattle.std.proofs.Common.{◌≡◌, ◌≢◌, ℕ, ◌+◌, ◌<◌, ◌≤◌, ◌++◌, List, length, take, drop, Option, Some, None, refl, sym, ap, ◌∙◌, subst, inl, inr, ⊎_elim, arith}
use Rattle.std.proofs.Math.Seq.{take-append_seam}
use Rattle.std.proofs.lemmas.Bool.{cases_eq, cases_lt}
use Rattle.regtypes.specs.declared.rule.Rule.{Rule}
use Rattle.verifier.specs.Form.{Form, TableOf, IsForm, Enters, Below}
use Rattle.verifier.specs.Fixpoint.{TypesBelow, IsFault, IsLeast, IsOneRefusal, IsRefused, IsTyped, StopsAt}

-- ---- frames and tables

same_some : {A : Type 0} (g h : A) (o : Option A) → o ≡ Some g → o ≡ Some h → g ≡ h
same_some g h o a b = cc

module _ (form : Form) (laws : IsForm form) where
  pub Below-refl : (t : TableOf form) → Below form t t
  Below-refl t s f e = (f, e, laws.reflexive f)

  pub Below-trans : (a b c : TableOf form) → Below form a b → Below form b c → Below form a c
  Below-trans a b c x y s f e =
      let k = x s f e in
      let m = y s k.0 k.1 in
      (m.0, m.1, laws.transitive f k.0 m.0 k.2 m.2)

  -- what enters a table's frame enters that of a table above
  pub enters_above : (a b : TableOf form) (t : ℕ) (f : form.Frame) → Below form a b → Enters form a t f → Enters form b t f
  enters_above a b t f le h = let k = le t h.0 h.1 in (k.0, k.1, laws.transitive f h.0 k.0 h.2 k.2)

  -- a frame that says more enters wherever one that says less does
  pub enters_weaker : (t : TableOf form) (s : ℕ) (f g : form.Frame) → form.Leq f g → Enters form t s g → Enters form t s f
  enters_weaker t s f g le h = (h.0, h.1, laws.transitive f g h.0 le h.2)

-- ---- joins

-- a frame joined into the frame of a slot: the least frame that says no more than both, if the slot may have it
pub record Merged (form : Form) (old : TableOf form) (to : ℕ) (f : form.Frame) (new : TableOf form) : Type 0 where
  pub other : (s : ℕ) → s ≢ to → new s ≡ old s
  pub frame : form.Frame
  pub there : new to ≡ Some frame
  pub stands : ((g : form.Frame) → old to ≡ Some g → form.MayStand to g) → form.MayStand to frame
  pub covers : form.Leq f frame
  pub keeps : (g : form.Frame) → old to ≡ Some g → form.Leq g frame
  pub least : (k : form.Frame) → form.Leq f k → ((g : form.Frame) → old to ≡ Some g → form.Leq g k) → form.Leq frame k

-- the frames that leave a slot were joined into later ones: the frames up to this slot stayed, and the table grew no
-- more than it had to
pub record Led (form : Form) (slot : ℕ) (Fits : TableOf form → Type 0) (old new : TableOf form) : Type 0 where
  pub same : (s : ℕ) → s ≤ slot → new s ≡ old s
  pub grows : Below form old new
  pub stands : ((s : ℕ) (f : form.Frame) → old s ≡ Some f → form.MayStand s f) → (s : ℕ) (f : form.Frame) → new s ≡ Some f → form.MayStand s f
  pub fits : Fits new
  pub least : (t : TableOf form) → Below form old t → Fits t → Below form new t

module _ (form : Form) (laws : IsForm form) (slot : ℕ) where
  -- nothing leaves
  pub led_none : (old : TableOf form) → Led form slot (λ t. Unit {0}) old old
  led_none old = record {
    same = λ s le. refl;
    grows = Below-refl form laws old;
    stands = λ h. h;
    fits = tt;
    least = λ t b e. b;
  }

  module _ (Fits : TableOf form → Type 0) (old mid new : TableOf form) (to : ℕ) (f : form.Frame) (later : slot < to) (l : Led form slot Fits old mid) (m : Merged form mid to f new) where
    more_grows : Below form mid new
    more_grows s g e = ⊎_elim here apart (cases_eq s to)
      where
        here : s ≡ to → Enters form new s g
        here q = (m.frame, ap new q ∙ m.there, m.keeps g (sym (ap mid q) ∙ e))

        apart : s ≢ to → Enters form new s g
        apart q = (g, m.other s q ∙ e, laws.reflexive g)

    more_least : (t : TableOf form) → Below form old t → Fits t × Enters form t to f → Below form new t
    more_least t b e s g h = ⊎_elim here apart (cases_eq s to)
      where
        below : Below form mid t
        below = l.least t b e.0

        here : s ≡ to → Enters form t s g
        here q =
            let there : t to ≡ Some e.1.0 = e.1.1 in
            let eq : g ≡ m.frame = same_some g m.frame (new s) h (ap new q ∙ m.there) in
            let upper = λ (k : form.Frame) (p : mid to ≡ Some k). let x = below to k p in subst (form.Leq k) (same_some x.0 e.1.0 (t to) x.1 there) x.2 in
            (e.1.0, ap t q ∙ there, subst (λ (y : form.Frame). form.Leq y e.1.0) (sym eq) (m.least e.1.0 e.1.2 upper))

        apart : s ≢ to → Enters form t s g
        apart q = below s g (sym (m.other s q) ∙ h)

    -- one way more, to a later slot
    pub led_more : ((a b : TableOf form) → Below form a b → Fits a → Fits b) → Led form slot (λ t. Fits t × Enters form t to f) old new
    led_more up = record {
      same = λ s le. m.other s (omega arith) ∙ l.same s le;
      grows = Below-trans form laws old mid new l.grows more_grows;
      stands = λ h s g e.
          let here = λ (q : s ≡ to). subst (λ n. form.MayStand n g) (sym q) (subst (form.MayStand to) (same_some m.frame g (new to) m.there (sym (ap new q) ∙ e)) (m.stands (λ k p. l.stands h to k p))) in
          let apart = λ (q : s ≢ to). l.stands h s g (sym (m.other s q) ∙ e) in
          ⊎_elim here apart (cases_eq s to);
      fits = (up mid new more_grows l.fits, (m.frame, m.there, m.covers));
      least = more_least;
    }

-- ---- the pass

module _ (form : Form) (laws : IsForm form) where
  -- what types the slots below n types those below any lesser one
  pub types_less : (m n : ℕ) (t : TableOf form) → m ≤ n → TypesBelow form n t → TypesBelow form m t
  types_less m n t le h = record { start = h.start; stands = h.stands; allowed = λ s f lt. h.allowed s f (omega arith) }

  -- before any slot was looked at, the table with the entry's frame alone is the least typing
  pub least_opening : (table : TableOf form) → table 0 ≡ Some form.entry → ((s : ℕ) → s ≢ 0 → table s ≡ None) → form.MayStand 0 form.entry → IsLeast form 0 table
  least_opening table first none stands = record {
    types = record {
      start = (form.entry, first, laws.reflexive form.entry);
      stands = λ s f e. subst (λ x. form.MayStand s x) (sym (only s f e).1) (subst (λ n. form.MayStand n form.entry) (sym (only s f e).0) stands);
      allowed = λ s f lt. absurd (omega arith);
    };
    least = λ t h s f e. subst (λ n. Enters form t n f) (sym (only s f e).0) (subst (Enters form t 0) (sym (only s f e).1) h.start);
  }
    where
      only : (s : ℕ) (f : form.Frame) → table s ≡ Some f → (s ≡ 0) × (f ≡ form.entry)
      only s f e =
          let here : s ≡ 0 → (s ≡ 0) × (f ≡ form.entry) = λ q. (q, same_some f form.entry (table s) e (ap table q ∙ first)) in
          let apart : s ≢ 0 → (s ≡ 0) × (f ≡ form.entry) = λ q. let n = none s q in cc in
          ⊎_elim here apart (cases_eq s 0)

  -- a slot with no frame
  pub least_skip : (n : ℕ) (table : TableOf form) → IsLeast form n table → table n ≡ None → IsLeast form (n + 1) table
  least_skip n table l none = record {
    types = record { start = l.types.start; stands = l.types.stands; allowed = λ s f lt e. l.types.allowed s f (lower s f lt e) e };
    least = λ t h. l.least t (types_less n (n + 1) t (omega arith) h);
  }
    where
      lower : (s : ℕ) (f : form.Frame) → s < n + 1 → table s ≡ Some f → s < n
      lower s f lt e =
          let ne : s ≢ n = λ q. let x = ap table q in cc in
          omega arith

  -- a slot whose frame is allowed wherever what leaves it fits
  pub least_step : (n : ℕ) (Fits : TableOf form → Type 0) (old new : TableOf form) (f : form.Frame) → IsLeast form n old → old n ≡ Some f → ((t : TableOf form) → Fits t → form.IsAllowed t n f) → ((t : TableOf form) → form.IsAllowed t n f → Fits t) → Led form n Fits old new → IsLeast form (n + 1) new
  least_step n Fits old new f l there allow fit ld = record {
    types = record {
      start = enters_above form laws old new 0 form.entry ld.grows l.types.start;
      stands = ld.stands l.types.stands;
      allowed = allowed;
    };
    least = least;
  }
    where
      allowed : (s : ℕ) (g : form.Frame) → s < n + 1 → new s ≡ Some g → form.IsAllowed new s g
      allowed s g lt e = ⊎_elim here below (cases_eq s n)
        where
          was : old s ≡ Some g
          was = sym (ld.same s (omega arith)) ∙ e

          below : s ≢ n → form.IsAllowed new s g
          below q = laws.above old new s g ld.grows (l.types.allowed s g (omega arith) was)

          here : s ≡ n → form.IsAllowed new s g
          here q =
              let eq : f ≡ g = same_some f g (old n) there (sym (ap old q) ∙ was) in
              subst (λ m. form.IsAllowed new m g) (sym q) (subst (form.IsAllowed new n) eq (allow new ld.fits))

      least : (t : TableOf form) → TypesBelow form (n + 1) t → Below form new t
      least t h =
          let b : Below form old t = l.least t (types_less n (n + 1) t (omega arith) h) in
          let k = b n f there in
          let a = laws.monotone t n f k.0 (l.types.stands n f there) (h.stands n k.0 k.1) k.2 (h.allowed n k.0 (omega arith) k.1) in
          ld.least t b (fit t a)

  -- ---- refusals

  -- code at which the pass stops below slot n has no typing of the slots below n
  none_below : (rule : Rule) (s n : ℕ) → s < n → StopsAt form rule s → (t : TableOf form) → TypesBelow form n t → ⊥
  none_below rule s n lt b t h =
      let k = b.least.least t (types_less s n t (omega arith) h) s b.frame b.there in
      laws.refused t s b.frame rule b.breaks (laws.monotone t s b.frame k.0 (b.least.types.stands s b.frame b.there) (h.stands s k.0 k.1) k.2 (h.allowed s k.0 lt k.1))

  -- the slot that the pass stops at is one of the code
  stops_within : (rule : Rule) (s : ℕ) → StopsAt form rule s → s < form.count
  stops_within rule s b = laws.within s b.frame (b.least.types.stands s b.frame b.there)

  -- refused code has no typing
  no_typing : (rule : Rule) (s : ℕ) → IsRefused form rule s → (t : TableOf form) → IsTyped form t → ⊥
  no_typing rule s r t h =
      let stops = λ (b : StopsAt form rule s). none_below rule s form.count (stops_within rule s b) b t h in
      let first = laws.within 0 h.start.0 (h.stands 0 h.start.0 h.start.1) in
      ⊎_elim stops (λ e. omega (arith, e.0, first)) r

  -- the one verdict of code that isn't typable: where the pass stops, or V2 and slot 0 if there is no slot
  pub fault : (rule : Rule) (s : ℕ) → IsRefused form rule s → IsFault form rule s
  fault rule s r = (r, no_typing rule s r)

  -- each of two frames that break a rule at a slot says what the other says
  breaks_same : (rule rule' : Rule) (s : ℕ) → StopsAt form rule s → StopsAt form rule' s → rule ≡ rule'
  breaks_same rule rule' s a b =
      let x = a.least.least b.table b.least.types s a.frame a.there in
      let y = b.least.least a.table a.least.types s b.frame b.there in
      let lx : form.Leq a.frame b.frame = subst (form.Leq a.frame) (same_some x.0 b.frame (b.table s) x.1 b.there) x.2 in
      let ly : form.Leq b.frame a.frame = subst (form.Leq b.frame) (same_some y.0 a.frame (a.table s) y.1 a.there) y.2 in
      let e = laws.antisymmetric s a.frame b.frame (a.least.types.stands s a.frame a.there) (b.least.types.stands s b.frame b.there) lx ly in
      same_some rule rule' (form.broken s b.frame) (subst (λ f. form.broken s f ≡ Some rule) e a.breaks) b.breaks

  one_stop : (rule rule' : Rule) (s s' : ℕ) → StopsAt form rule s → StopsAt form rule' s' → (rule ≡ rule') × (s ≡ s')
  one_stop rule rule' s s' a b =
      let first : s ≡ s' → (rule ≡ rule') × (s ≡ s') = λ q. (breaks_same rule rule' s' (subst (StopsAt form rule) q a) b, q) in
      let second : s ≢ s' → (rule ≡ rule') × (s ≡ s') = λ q. absurd (apart q) in
      ⊎_elim first second (cases_eq s s')
    where
      -- no slot below breaks a rule
      apart : s ≢ s' → ⊥
      apart q =
          let lower = λ (l : s < s'). none_below rule s s' l a b.table b.least.types in
          let higher = λ (l : s' ≤ s). none_below rule' s' s (omega arith) b a.table a.least.types in
          ⊎_elim lower higher (cases_lt s s')

  -- no other rule and no other slot can be named
  pub one_refusal : IsOneRefusal form
  one_refusal rule rule' s s' (inl a) (inl b) = one_stop rule rule' s s' a b
  one_refusal rule rule' s s' (inl a) (inr b) = absurd (omega (arith, stops_within rule s a, b.0))
  one_refusal rule rule' s s' (inr a) (inl b) = absurd (omega (arith, stops_within rule' s' b, a.0))
  one_refusal rule rule' s s' (inr a) (inr b) = (a.1 ∙ sym b.1, a.2 ∙ sym b.2)

-- ---- a table that is lent

-- a table that was lent is as it came back
pub taken_whole : {A : Type 0} (new old : List A) (n : ℕ) → n ≡ length new → take n (new ++ drop (length new) old) ≡ new
taken_whole new old n e = ap (λ m. take m (new ++ drop (length new) old)) e ∙ take-append_seam new (drop (length new) old)

-- one that was lent and not changed is the same again
pub kept_whole : {A : Type 0} (new old : List A) (n : ℕ) → n ≡ length new → new ≡ old → take n (new ++ drop (length new) old) ≡ old
kept_whole new old n e k = taken_whole new old n e ∙ k
