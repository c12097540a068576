-- No step takes back an input, what was shown, or what a checkpoint covers
use Rattle.std.proofs.Common.{◌≡◌, ℕ, zero, suc, ◌+◌, ◌-◌, ◌≤◌, List, [], ◌∷◌, ◌++◌, length, take, Bool, true, false, refl, sym, ap, ◌∙◌, subst, arith}
use Rattle.std.specs.Prelude.{Option, Some, None, nat_lt, if◌then◌else◌}
use Rattle.world.specs.declared.message.Message.{Message}
use Rattle.world.specs.Plan.{if_next, pushed}
use Rattle.theorems.specs.Growth.{Begins}
use Rattle.theorems.proofs.Changes.{choose}
use Rattle.theorems.proofs.ListLemmas.{take-all, take-push, take-take, take-length, begins-self, begins-trans, begins-take}
use Rattle.cluster.specs.Parcels.{Delivery, Restored}
use Rattle.cluster.specs.Cluster.{Cluster}
use Rattle.cluster.specs.Rules.{Act, Input, Arrives, Works, Replays, Recovers, Keeps, does, told_by, kept_by, taken_back, plan, message}

-- the inputs of c begin those of v, and so do what it showed and what checkpoints cover in it
abbrev pub Continues : Cluster → Cluster → Type 0
Continues c v =
    record {
      inputs : (d : ℕ) → Begins (c.world.inputs d) (v.world.inputs d);
      shown : Begins c.world.shown v.world.shown;
      messages : (p : ℕ) → Begins (take (c.world.saved p) (c.world.history p)) (take (v.world.saved p) (v.world.history p));
    }

-- where no history, checkpoint and input changes
pub still : (c : Cluster) → Continues c c
still c = record { inputs = λ d. begins-self _; shown = begins-self _; messages = λ p. begins-self _ }

-- what holds of both holds of either
pub either-way : (b : Bool) (x y : Cluster) (P : Cluster → Type 0) → P x → P y → P (if b then x else y)
either-way true x y P f g = f
either-way false x y P f g = g

take-begins : {X : Type 0} (k : ℕ) (xs : List X) → Begins (take k xs) xs
take-begins zero [] = ([], refl)
take-begins zero (x ∷ xs) = (x ∷ xs, refl)
take-begins (suc k) [] = ([], refl)
take-begins (suc k) (x ∷ xs) = let r = take-begins k xs in (r.0, ap (λ ys. x ∷ ys) r.1)

pub same-begins : {X : Type 0} (xs ys : List X) → xs ≡ ys → Begins xs ys
same-begins {X} xs ys e = let P : List X → Type 0 = λ zs. Begins xs zs in subst P e (begins-self xs)

-- a plan begins with what it goes on from
pub plan-begins : (f : ℕ → Option Message) (h : List Message) (k : ℕ) → Begins h (plan f h k)
plan-begins f h zero = begins-self h
plan-begins f h (suc k) = begins-trans _ _ _ (plan-begins f h k) (more (if_next (plan f h k) (f (suc (length (plan f h k))))))
  where
    more : (o : Option Message) → Begins (plan f h k) (pushed (plan f h k) o)
    more None = begins-self _
    more (Some x) = (x ∷ [], refl)

-- a recovery keeps them
pub kept-begins : (c : Cluster) (p k : ℕ) → c.world.saved p ≤ length (c.world.history p) → Begins (take (c.world.saved p) (c.world.history p)) (take (c.world.saved p) (kept_by c p k))
kept-begins c p k within =
    let long : length (take (c.world.saved p) (c.world.history p)) ≡ c.world.saved p = take-length (c.world.history p) (c.world.saved p) within in
    same-begins _ _
    (sym (begins-take (take (c.world.saved p) (c.world.history p)) (kept_by c p k) (plan-begins (told_by c p) (take (c.world.saved p) (c.world.history p)) (k - c.world.saved p)) (c.world.saved p) (omega arith)
    ∙ take-take (c.world.history p) (c.world.saved p) (c.world.saved p) (omega arith)))

-- a node that recovers keeps what its checkpoint covers
pub takes-back : (c : Cluster) (p k : ℕ) → c.world.saved p ≤ length (c.world.history p) → Continues c (taken_back c p k)
takes-back c p k within =
    record {
      inputs = λ d. begins-self _;
      shown = begins-self _;
      messages = choose p (λ q t. Begins (take (c.world.saved q) (c.world.history q)) (take (c.world.saved q) (if t then kept_by c p k else c.world.history q))) (kept-begins c p k within) (λ q _. begins-self _);
    }

-- no act takes back an input, or what a checkpoint covers
pub does-continue : (c : Cluster) (a : Act) → ((p : ℕ) → c.world.saved p ≤ length (c.world.history p)) → Continues c (does c a)
does-continue c (Arrives q p (Restored i j n s (Some u) f)) within = still c
does-continue c (Input d x) within = record { inputs = choose d (λ j t. Begins (c.world.inputs j) (if t then c.world.inputs d ++ x ∷ [] else c.world.inputs j)) (x ∷ [], refl) (λ j _. begins-self _); shown = begins-self _; messages = λ p. begins-self _ }
does-continue c (Arrives p zero (Delivery i ssn x)) within = record { inputs = λ d. begins-self _; shown = (message p ssn x ∷ [], refl); messages = λ p. begins-self _ }
does-continue c (Works p m) within =
    record {
      inputs = λ d. begins-self _;
      shown = begins-self _;
      messages = choose p (λ j t. Begins (take (c.world.saved j) (c.world.history j)) (take (c.world.saved j) (if t then c.world.history p ++ m ∷ [] else c.world.history j))) (same-begins _ _ (sym (take-push (c.world.history p) (m ∷ []) (c.world.saved p) (within p)))) (λ j _. begins-self _);
    }
does-continue c (Replays p j) within = either-way (nat_lt (c.world.saved p + suc j) (length (c.world.history p))) _ _ (Continues c) (still c) (still c)
does-continue c (Recovers p k) within = either-way (nat_lt (c.world.saved p) k) _ _ (Continues c) (takes-back c p k (within p)) (takes-back c p k (within p))
does-continue c (Arrives zero p (Restored i j n s None f)) within = still c
does-continue c (Keeps p) within =
    record {
      inputs = λ d. begins-self _;
      shown = begins-self _;
      messages = choose p (λ j t. Begins (take (c.world.saved j) (c.world.history j)) (take (if t then length (c.world.history p) else c.world.saved j) (c.world.history j)))
          (begins-trans _ _ _ (take-begins (c.world.saved p) (c.world.history p)) (same-begins _ _ (sym (take-all (c.world.history p))))) (λ j _. begins-self _);
    }
does-continue c act within = still c
