-- Outputs in order, whatever fails and meets
use Rattle.std.proofs.Common.{◌≡◌, inl, inr, ℕ, suc, ◌-◌, ◌<◌, ◌≤◌, List, [], ◌∷◌, ◌++◌, map, Bool, true, false, refl, sym, ap, ◌∙◌, subst, arith, append_assoc, append-nil}
use Rattle.std.specs.Prelude.{◌⊎◌, Some, nat_le, if◌then◌else◌}
use Rattle.std.proofs.lemmas.Bool.Decides.{nat_tests}
use Rattle.theorems.proofs.Changes.{at-itself, choose}
use Rattle.world.specs.declared.message.Message.{Message}
use Rattle.world.specs.History.{nth}
use Rattle.world.specs.Handlers.{Handlers}
use Rattle.stores.specs.declared.change.Output.{Output}
use Rattle.stores.specs.Peer.{ThePeer, no_peer}
use Rattle.gateway.specs.Gateway.{new_gateway}
use Rattle.gateway.specs.Stands.{shown_as}
use Rattle.verifier.specs.declared.any_image.AnyImage.{AnyImage}
use Rattle.node.specs.Stands.{Each, InOrderFrom}
use Rattle.node.proofs.Lists.{all-more}
use Rattle.node_laws.proofs.Sound.{same-at}
use Rattle.node_laws.specs.HostSystem.{System, HostCall, after_call, AreCalls, after_calls, Hosting, start, after, handlers, Makes}
use Rattle.node_laws.specs.HostLaws.{shown_by, outputs_of, OneLife, HostedInOrder, HostedWithoutGap, HostedStayOut, HostedAgree}
use Rattle.node_laws.specs.Outputs.{IsOut, AllOut, LeavesNoGap, AreBehind}
use Rattle.node_laws.proofs.Promised.{after-more, calls-split}
use Rattle.node_laws.proofs.Lasting.{hosted-keep}
use Rattle.node_laws.proofs.HeldGateway.{OfGateway}
use Rattle.node_laws.proofs.Turns.{Between, InTurn, IsOfSome, Leads, Turns, UpTo, passed, passed-grows, past, past-grows, turns}

-- ---- what was out before

out-more : (p ssn : ℕ) (xs ys : List Output) → IsOut p ssn xs → IsOut p ssn (xs ++ ys)
out-more p ssn [] ys i = absurd i
out-more p ssn (x ∷ xs) ys (inl e) = inl e
out-more p ssn (x ∷ xs) ys (inr i) = inr (out-more p ssn xs ys i)

out-last : (p ssn : ℕ) (xs : List Output) (o : Output) → o.process ≡ p → o.ssn ≡ ssn → IsOut p ssn (xs ++ o ∷ [])
out-last p ssn [] o e n = inl (e, n)
out-last p ssn (x ∷ xs) o e n = inr (out-last p ssn xs o e n)

all-out-more : (p last : ℕ) (xs ys : List Output) → AllOut p last xs → AllOut p last (xs ++ ys)
all-out-more p last xs ys a ssn some low = out-more p ssn xs ys (a ssn some low)

-- of each process it is past the least, and all up to there were out before
abbrev pub Within : (ℕ → ℕ) → List Output → (ℕ → ℕ) → Type 0
Within least before c = (p : ℕ) → (least p ≤ c p) × AllOut p (c p) before

within-more : (least : ℕ → ℕ) (before xs : List Output) (c : ℕ → ℕ) → Within least before c → Within least (before ++ xs) c
within-more least before xs c w p = ((w p).0, all-out-more p (c p) before xs (w p).1)

within-past : (least : ℕ → ℕ) (before : List Output) (o : Output) (c : ℕ → ℕ) → o.ssn ≡ suc (c o.process) → Within least before c → Within least (before ++ o ∷ []) (past c o.process)
within-past least before o c n w =
    choose o.process (λ j b. (least j ≤ (if b then suc (c o.process) else c j)) × AllOut j (if b then suc (c o.process) else c j) (before ++ o ∷ []))
    (let low : least o.process ≤ c o.process = (w o.process).0 in omega (arith, low), λ ssn some low. by ssn some low (nat_le ssn (c o.process)) refl) (λ j u. ((w j).0, all-out-more j (c j) before (o ∷ []) (w j).1))
  where
    by : (ssn : ℕ) → 0 < ssn → ssn ≤ suc (c o.process) → (b : Bool) → nat_le ssn (c o.process) ≡ b → IsOut o.process ssn (before ++ o ∷ [])
    by ssn some low true f = let under : ssn ≤ c o.process = grind (arith, nat_tests) in out-more o.process ssn before (o ∷ []) ((w o.process).1 ssn some under)
    by ssn some low false f =
        let over : c o.process < ssn = grind (arith, nat_tests) in
        out-last o.process ssn before o refl (omega (arith, over, n, low))

-- behind these each is past the least, and leaves none out
abbrev pub Behind : (ℕ → ℕ) → List Output → List Output → Type 0
Behind least before [] = Unit {0}
Behind least before (o ∷ os) = (least o.process < o.ssn) × (LeavesNoGap before o × Behind least (before ++ o ∷ []) os)

behind-append : (least : ℕ → ℕ) (before xs ys : List Output) → Behind least before xs → Behind least (before ++ xs) ys → Behind least before (xs ++ ys)
behind-append least before [] ys h g = subst (λ z. Behind least z ys) (append-nil before) g
behind-append least before (x ∷ xs) ys h g = (h.0, (h.1.0, behind-append least (before ++ x ∷ []) xs ys h.1.1 (subst (λ z. Behind least z ys) (sym (append_assoc before (x ∷ []) xs)) g)))

-- what leads on keeps that, and is behind what was out
leads-on : (least : ℕ → ℕ) (before outputs : List Output) (c d : ℕ → ℕ) → Within least before c → Leads c outputs d → Within least (before ++ outputs) d × Behind least before outputs
leads-on least before outputs c d w (inl h) = (subst (Within least (before ++ outputs)) (sym h.1) (within-more least before outputs c w), subst (Behind least before) (sym h.0) tt)
leads-on least before outputs c d w (inr h) =
    let o : Output = h.0 in
    let n : o.ssn ≡ suc (c o.process) = h.1.1.0 in
    let low : least o.process ≤ c o.process = (w o.process).0 in
    let goes : Within least (before ++ outputs) (past c o.process) = subst (λ z. Within least (before ++ z) (past c o.process)) (sym h.1.0) (within-past least before o c n w) in
    let one : Behind least before (o ∷ []) = (omega (arith, n, low), ((c o.process, (n, (w o.process).1)), tt)) in
    (subst (Within least (before ++ outputs)) (sym h.1.1.1) goes, subst (Behind least before) (sym h.1.0) one)

leads-either : (least : ℕ → ℕ) (before outputs : List Output) (c d to : ℕ → ℕ) → Within least before c → Within least before d → Leads c outputs to ⊎ Leads d outputs to → Within least (before ++ outputs) to × Behind least before outputs
leads-either least before outputs c d to w v (inl h) = leads-on least before outputs c to w h
leads-either least before outputs c d to w v (inr h) = leads-on least before outputs d to v h

kept-within : (least : ℕ → ℕ) (before outputs : List Output) (d from kept : ℕ → ℕ) → Within least before d → Within least (before ++ outputs) from → (kept ≡ d) ⊎ Between d kept from → Within least (before ++ outputs) kept
kept-within least before outputs d from kept w v (inl e) = subst (Within least (before ++ outputs)) (sym e) (within-more least before outputs d w)
kept-within least before outputs d from kept w v (inr b) =
    λ p.
    let low : least p ≤ d p = (w p).0 in
    let more : d p ≤ kept p = (b p).0 in
    let few : kept p ≤ from p = (b p).1 in
    (omega (arith, low, more), λ ssn some under. (v p).1 ssn some (omega (arith, under, few)))

-- ---- in one life

-- these go on from here, and are no further than there
pub record InLife (c to : ℕ → ℕ) (outputs : List Output) : Type 0 where
  pub grows : (p : ℕ) → c p ≤ to p
  pub ordered : InOrderFrom c (map shown_as outputs)
  pub low : Each (λ (o : Output). o.ssn ≤ to o.process) outputs

life-joined : (c from to : ℕ → ℕ) (xs ys : List Output) → Leads c xs from → InLife from to ys → InLife c to (xs ++ ys)
life-joined c from to xs ys (inl h) l = subst (λ z. InLife c to (z ++ ys)) (sym h.0) (subst (λ z. InLife z to ys) h.1 l)
life-joined c from to xs ys (inr h) l =
    let o : Output = h.0 in
    let n : o.ssn ≡ suc (c o.process) = h.1.1.0 in
    let rest : InLife (past c o.process) to ys = subst (λ z. InLife z to ys) h.1.1.1 l in
    let here : past c o.process o.process ≡ suc (c o.process) = at-itself o.process (λ b. (if b then suc (c o.process) else c o.process) ≡ suc (c o.process)) refl in
    let high : past c o.process o.process ≤ to o.process = rest.grows o.process in
    let goes : InLife c to (o ∷ ys) = record {
      grows = λ p. let one = past-grows c o.process p in let two = rest.grows p in omega (arith, one, two);
      ordered = (n, rest.ordered);
      low = (omega (arith, n, here, high), rest.low);
    } in
    subst (λ z. InLife c to (z ++ ys)) (sym h.1.0) goes

-- ---- call after call

pub record Ends (least c : ℕ → ℕ) (before : List Output) (s : System) (ks : List HostCall) : Type 0 where
  pub from : ℕ → ℕ
  pub kept : ℕ → ℕ
  pub up : UpTo from kept (after_calls s ks)
  pub from_within : Within least (before ++ outputs_of s ks) from
  pub kept_within : Within least (before ++ outputs_of s ks) kept
  pub behind : Behind least before (outputs_of s ks)
  pub in_life : OneLife ks → InLife c from (outputs_of s ks)

ends : (images : ℕ → AnyImage) (n : ℕ) (least c d : ℕ → ℕ) (before : List Output) (s : System) (ks : List HostCall) → UpTo c d s → Within least before c → Within least before d → AreCalls images n s ks → Ends least c before s ks
ends images n least c d before s [] a w v m =
    record {
      from = c;
      kept = d;
      up = a;
      from_within = within-more least before [] c w;
      kept_within = within-more least before [] d v;
      behind = tt;
      in_life = λ l. record { grows = λ p. omega arith; ordered = tt; low = tt };
    }
ends images n least c d before s (k ∷ ks) a w v m =
    let one : Turns c d s k = turns c d s a images n k m.0 in
    let xs : List Output = shown_by s k in
    let ys : List Output = outputs_of (after_call s k) ks in
    let moved : Within least (before ++ xs) one.from × Behind least before xs = leads-either least before xs c d one.from w v one.leads in
    let stays : Within least (before ++ xs) one.kept = kept-within least before xs d one.from one.kept v moved.0 one.kept_is in
    let rest : Ends least one.from (before ++ xs) (after_call s k) ks = ends images n least one.from one.kept (before ++ xs) (after_call s k) ks one.up moved.0 stays m.1 in
    let all : (before ++ xs) ++ ys ≡ before ++ outputs_of s (k ∷ ks) = append_assoc before xs ys in
    record {
      from = rest.from;
      kept = rest.kept;
      up = rest.up;
      from_within = subst (λ z. Within least z rest.from) all rest.from_within;
      kept_within = subst (λ z. Within least z rest.kept) all rest.kept_within;
      behind = behind-append least before xs ys moved.1 rest.behind;
      in_life = λ l. life-joined c one.from rest.from xs ys (one.on l.0) (rest.in_life l.1);
    }

-- ---- the laws

abbrev none : ℕ → ℕ
none p = 0

opened : (n page tick : ℕ) → OfGateway (InTurn none) (new_gateway n page tick)
opened n page tick = record { out = tt; store = record { shown = λ p l. same-at (λ (y : ThePeer). y.shown ≡ 0) n (p - 1) no_peer no_peer refl refl; ordered = tt; some = tt } }

within-none : Within none [] none
within-none p = (omega arith, λ ssn some low. absurd (omega arith))

from-opening : (h : Hosting) (ks : List HostCall) → Makes h ks → Ends none none [] (start h) ks
from-opening h ks m =
    let begins : UpTo none none (start h) = record { gateway = opened h.n h.page h.tick; durable = opened h.n h.page h.tick; shadow = opened h.n h.page h.tick; leads = λ p. refl } in
    ends h.images h.n none none none [] (start h) ks begins within-none within-none m

pub hosted-in-order : HostedInOrder
hosted-in-order h calls life g one =
    let s : System = start h in
    let parts = calls-split h.images h.n s calls life g in
    let a : Ends none none [] s calls = from-opening h calls parts.0 in
    let b = ends h.images h.n none a.from a.kept (outputs_of s calls) (after h calls) life a.up a.from_within a.kept_within parts.1 in
    record { from = a.from; out = λ p. (a.from_within p).1; ordered = (b.in_life one).ordered }

no-gap : (least : ℕ → ℕ) (first before after : List Output) (o : Output) → Behind least first (before ++ o ∷ after) → LeavesNoGap (first ++ before) o
no-gap least first [] after o h = subst (λ z. LeavesNoGap z o) (sym (append-nil first)) h.1.0
no-gap least first (x ∷ before) after o h = subst (λ z. LeavesNoGap z o) (append_assoc first (x ∷ []) before) (no-gap least (first ++ x ∷ []) before after o h.1.1)

pub hosted-without-gap : HostedWithoutGap
hosted-without-gap h calls g before after o e = no-gap none [] before after o (subst (Behind none []) (sym e) (from-opening h calls g).behind)

-- those that are past the others
are-behind : (least : ℕ → ℕ) (first before outputs : List Output) → Each (λ (o : Output). o.ssn ≤ least o.process) before → Behind least first outputs → AreBehind before outputs
are-behind least first before [] low h = tt
are-behind least first before (o ∷ os) low h = (
  all-more (λ (old : Output). old.ssn ≤ least old.process) (λ (old : Output). old.process ≡ o.process → old.ssn < o.ssn) before
      (λ old under same. let at : least old.process ≡ least o.process = ap least same in let past : least o.process < o.ssn = h.0 in omega (arith, under, at, past)) low,
  are-behind least (first ++ o ∷ []) before os low h.1.1,
)

-- where it is durable as it is, all that it handed out is durably taken
up-alike : (c d : ℕ → ℕ) (s : System) → UpTo c d s → s.durable.store ≡ s.gateway.store → (p : ℕ) → c p ≡ d p
up-alike c d s a lasts p = split s.taken refl
  where
    split : (outputs : List Output) → s.taken ≡ outputs → c p ≡ d p
    split [] e = a.leads p ∙ ap (λ z. passed d z p) e
    split (o ∷ os) e =
        let q : ℕ = o.process in
        let here : InTurn d s.gateway.store = subst (InTurn d) lasts a.durable.store in
        let some : 0 < q = (subst (λ z. Each IsOfSome (z ++ s.gateway.store.outputs)) e a.shadow.store.some).0 in
        let one = a.gateway.store.shown q some in
        let two = here.shown q some in
        let led : c q ≡ passed (past d q) os q = a.leads q ∙ ap (λ z. passed d z q) e in
        let more : past d q q ≤ passed (past d q) os q = passed-grows (past d q) os q in
        let next : past d q q ≡ suc (d q) = at-itself q (λ b. (if b then suc (d q) else d q) ≡ suc (d q)) refl in
        absurd (omega (arith, one, two, led, more, next))

pub hosted-stay-out : HostedStayOut
hosted-stay-out h calls life more g one lasts =
    let s : System = start h in
    let u : System = after h calls in
    let v : System = after_calls u life in
    let parts = calls-split h.images h.n s calls (life ++ more) g in
    let later = calls-split h.images h.n u life more parts.1 in
    let a : Ends none none [] s calls = from-opening h calls parts.0 in
    let seen : List Output = outputs_of s calls ++ outputs_of u life in
    let b : Ends none a.from (outputs_of s calls) u life = ends h.images h.n none a.from a.kept (outputs_of s calls) u life a.up a.from_within a.kept_within later.0 in
    let is : after h (calls ++ life) ≡ v = after-more s calls life in
    let same : v.durable.store ≡ v.gateway.store = subst (λ (z : System). z.durable.store ≡ z.gateway.store) is lasts in
    let alike : (p : ℕ) → b.from p ≡ b.kept p = up-alike b.from b.kept v b.up same in
    let here : Within b.from seen b.from = λ p. (omega arith, (b.from_within p).1) in
    let kept : Within b.from seen b.kept = λ p. ((let e : b.from p ≡ b.kept p = alike p in omega (arith, e)), (b.kept_within p).1) in
    let t : Ends b.from b.from seen v more = ends h.images h.n b.from b.from b.kept seen v more b.up here kept later.1 in
    subst (λ z. AreBehind (outputs_of u life) (outputs_of z more)) (sym is) (are-behind b.from seen (outputs_of u life) (outputs_of v more) (b.in_life one).low t.behind)

-- an output is, by its SSN, what these messages of its process send, if that is durable
abbrev IsShown : Handlers → (ℕ → Bool) → (ℕ → List Message) → Output → Type 0
IsShown f durable h o = durable o.process ≡ true → nth (f.sends o.process (h o.process) 0) o.ssn ≡ Some o.payload

said-same : (f : Handlers) (durable : ℕ → Bool) (h : ℕ → List Message) (a b : Output) → IsShown f durable h a → IsShown f durable h b → durable a.process ≡ true → a.process ≡ b.process → a.ssn ≡ b.ssn → a.payload ≡ b.payload
said-same f durable h a b x y d p i =
    let sent : ℕ → ℕ → Type 0 = λ q ssn. nth (f.sends q (h q) 0) ssn ≡ Some a.payload in
    let here : sent a.process a.ssn = x d in
    let there : sent b.process b.ssn = subst (sent b.process) i (subst (λ z. sent z a.ssn) p here) in
    let other : nth (f.sends b.process (h b.process) 0) b.ssn ≡ Some b.payload = y (subst (λ z. durable z ≡ true) p d) in
    let same : Some a.payload ≡ Some b.payload = sym there ∙ other in
    cc

pub hosted-agree : HostedAgree
hosted-agree h calls durable g d =
    let k = hosted-keep h calls durable g d in
    let Same : Output → Output → Type 0 = λ a b. durable a.process ≡ true → a.process ≡ b.process → a.ssn ≡ b.ssn → a.payload ≡ b.payload in
    let Sent : Output → Type 0 = IsShown (handlers h) durable k.messages in
    let outputs : List Output = outputs_of (start h) calls in
    all-more Sent (λ a. Each (Same a) outputs) outputs (λ a x. all-more Sent (Same a) outputs (λ b y. said-same (handlers h) durable k.messages a b x y) k.shown) k.shown
