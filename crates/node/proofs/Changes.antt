-- What holds still where parts of a node change
use Rattle.std.proofs.Common.{◌≡◌, ◌≢◌, ℕ, suc, ◌*◌, ◌+◌, ◌-◌, ◌<◌, ◌≤◌, List, length, min, Bool, true, false, sym, ap, ◌∙◌, subst, arith}
use Rattle.std.specs.Prelude.{slice_index_or, slice_set, if◌then◌else◌, not, ◌&&◌, ◌||◌, ◌==◌, nat_lt}
use Rattle.std.proofs.lemmas.Bool.Decides.{nat_tests}
use Rattle.std.proofs.lemmas.List.{get_or_default, length-drop}
use Rattle.packets.specs.declared.packet.Body.{Body}
use Rattle.node.specs.Queue.{TheQueue, is_kept, recorded, dropped_to, forgotten_above}
use Rattle.node.specs.Node.{TheNode, Within, IsPeer, CanSay, log_at, posts, numbered, covered_of}
use Rattle.node.specs.Pages.{told_of, restored_of}
use Rattle.node.specs.Answers.{heard_of, hears, asked_by, works_for, obeys, resumed_by}
use Rattle.node.specs.Calls.{recorded_by}
use Rattle.packets.specs.declared.packet.Body.TheVariants.{Acknowledgement}
use Rattle.packets.proofs.Sayable.{IsSayable}
use Rattle.node.proofs.Logs.{changed-at}
use Rattle.node.specs.declared.node.TheConstants.{MOST_GIVEN}
use Rattle.node.proofs.NodeLemmas.{within-with}

-- a peer has its place in what is kept by peer
pub has-place : {X : Type 0} (xs : List X) (m n : TheNode) (q : ℕ) → length xs ≡ suc m.count → m ≡ n → q ≤ n.count → q < length xs
has-place xs m n q wide same low = let e : m.count ≡ n.count = ap (λ (z : TheNode). z.count) same in omega (arith, wide, e, low)

-- what is there
pub there-is : {X : Type 0} (xs : List X) (i : ℕ) (x d : X) → i < length xs → x ≡ slice_index_or xs i x → x ≡ slice_index_or xs i d
there-is xs i x d inside e = e ∙ get_or_default xs i x d inside

-- the incarnation that is there is the one that the node heard of
pub heard-there : (m n : TheNode) (q h : ℕ) → length m.heard ≡ suc m.count → m ≡ n → q ≤ n.count → h ≡ slice_index_or m.heard q h → h ≡ heard_of q n
heard-there m n q h wide same low at = there-is m.heard q h 0 (has-place m.heard m n q wide same low) at ∙ ap (heard_of q) same

-- the count that is there is how many its checkpoint covers
pub covered-there : (m n : TheNode) (q k : ℕ) → length m.covered ≡ suc m.count → m ≡ n → q ≤ n.count → k ≡ slice_index_or m.covered q k → k ≡ covered_of q n
covered-there m n q k wide same low at = there-is m.covered q k 0 (has-place m.covered m n q wide same low) at ∙ ap (covered_of q) same

-- a queue that holds no more than before
pub no-longer : (logs : List TheQueue) (at : ℕ) (q r : TheQueue) → at < length logs → q ≡ r → r.dropped + length r.payloads ≤ (log_at logs at).dropped + length (log_at logs at).payloads
    → (d : ℕ) → (log_at (slice_set logs at q) d).dropped + length (log_at (slice_set logs at q) d).payloads ≤ (log_at logs d).dropped + length (log_at logs d).payloads
no-longer logs at q r inside e less d =
    changed-at (λ z. z.dropped + length z.payloads ≤ (log_at logs d).dropped + length (log_at logs d).payloads) logs at q d inside
    (λ same. let a : (log_at logs d).dropped ≡ (log_at logs at).dropped = ap (λ z. (log_at logs z).dropped) same in
    let b : length (log_at logs d).payloads ≡ length (log_at logs at).payloads = ap (λ z. length (log_at logs z).payloads) same in
    let f : q.dropped ≡ r.dropped = ap (λ (z : TheQueue). z.dropped) e in
    let g : length q.payloads ≡ length r.payloads = ap (λ (z : TheQueue). length z.payloads) e in
    omega (arith, less, a, b, f, g)) (λ apart. omega arith)

pub same-logs : (logs : List TheQueue) (d : ℕ) → (log_at logs d).dropped + length (log_at logs d).payloads ≤ (log_at logs d).dropped + length (log_at logs d).payloads
same-logs logs d = omega arith

pub drops-some : (s : ℕ) (q : TheQueue) → (dropped_to s q).dropped + length (dropped_to s q).payloads ≤ q.dropped + length q.payloads
drops-some s q = omega (arith, length-drop (min (s - q.dropped) (length q.payloads)) q.payloads)

-- other queues, none longer, and what it heard of its peers
pub within-still : (n : TheNode) (heard : List ℕ) (resumed : List Bool) (logs : List TheQueue) → Within n → length heard ≡ length n.heard → length resumed ≡ length n.resumed → length logs ≡ length n.logs
    → ((d : ℕ) → (log_at logs d).dropped + length (log_at logs d).payloads ≤ (log_at n.logs d).dropped + length (log_at n.logs d).payloads) → Within (record n { heard = heard; resumed = resumed; logs = logs })
within-still n heard resumed logs w h r l less =
    within-with w (h ∙ w.heard_wide) (r ∙ w.resumed_wide) (l ∙ w.logs_wide) w.room w.own w.numbered w.rests
    (λ d. shorter (log_at logs d).dropped (length (log_at logs d).payloads) (log_at n.logs d).dropped (length (log_at n.logs d).payloads) (MOST_GIVEN * (n.base + length n.receipts.senders)) (less d) (w.short d))
  where
    shorter : (a b c d most : ℕ) → a + b ≤ c + d → c + d ≤ most → a + b ≤ most
    shorter a b c d most l k = omega arith

-- ---- it hears of an incarnation

pub newer : (d life x : ℕ) (m n : TheNode) → m ≡ n → x ≡ heard_of d m → x < life → record m { heard = slice_set m.heard d life; resumed = slice_set m.resumed d false } ≡ hears d life n
newer d life x m n same is less =
    let t : nat_lt (heard_of d m) life ≡ true = lower (heard_of d m) x life is less in
    ap (λ b. if b then record m { heard = slice_set m.heard d life; resumed = slice_set m.resumed d false } else m) (sym t) ∙ ap (hears d life) same
  where
    lower : (h y k : ℕ) → y ≡ h → y < k → nat_lt h k ≡ true
    lower h y k e l = let f : h < k = omega arith in grind (arith, nat_tests)

pub not-newer : (d life x : ℕ) (m n : TheNode) → m ≡ n → x ≡ heard_of d m → life ≤ x → n ≡ hears d life n
not-newer d life x m n same is less =
    let t : nat_lt (heard_of d m) life ≡ false = higher (heard_of d m) x life is less in
    sym same ∙ ap (λ b. if b then record m { heard = slice_set m.heard d life; resumed = slice_set m.resumed d false } else m) (sym t) ∙ ap (hears d life) same
  where
    higher : (h y k : ℕ) → y ≡ h → k ≤ y → nat_lt h k ≡ false
    higher h y k e l = let f : k ≤ h = omega arith in grind (arith, nat_tests)

pub hearer-says : (d life to : ℕ) (body : Body) (n s : TheNode) → s ≡ hears d life n → IsPeer n.me n.count to → IsSayable body → CanSay s to body
hearer-says d life to body n s is peer fits = subst (λ z. CanSay z to body) (sym is) (split (nat_lt (heard_of d n) life))
  where
    split : (b : Bool) → CanSay (if b then record n { heard = slice_set n.heard d life; resumed = slice_set n.resumed d false } else n) to body
    split true = record { peer = peer; room = fits.0; range = fits.1 }
    split false = record { peer = peer; room = fits.0; range = fits.1 }

pub obeyer-says : (d k to : ℕ) (body : Body) (n s : TheNode) → s ≡ obeys d k n → IsPeer n.me n.count to → IsSayable body → CanSay s to body
obeyer-says d k to body n s is peer fits = subst (λ z. CanSay z to body) (sym is) (split (slice_index_or n.resumed d true))
  where
    split : (b : Bool) → CanSay (if b then n else record n { logs = slice_set n.logs d (forgotten_above k (log_at n.logs d)); resumed = slice_set n.resumed d true }) to body
    split true = record { peer = peer; room = fits.0; range = fits.1 }
    split false = record { peer = peer; room = fits.0; range = fits.1 }

-- ---- an Ask comes

pub told-above : (d life above : ℕ) (n s new : TheNode) (b : Body) → nat_lt life (heard_of d n) ≡ false → b ≡ told_of d life above n → s ≡ hears d life n → new ≡ posts d b s → new ≡ asked_by d life above n
told-above d life above n s new b t body heard put =
    put ∙ ap (posts d b) heard ∙ ap (λ z. posts d z (hears d life n)) body ∙ ap (λ z. if z then n else posts d (told_of d life above n) (hears d life n)) (sym t)

-- ---- a Resume comes

equal : (a b y : ℕ) → y ≡ b → a ≡ y → (a == b) ≡ true
equal a b y e f = let g : a ≡ b = f ∙ e in grind (arith, nat_tests)

unequal : (a b y : ℕ) → y ≡ b → a ≢ y → (a == b) ≡ false
unequal a b y e f = let g : a ≢ b = λ h. f (h ∙ sym e) in grind (arith, nat_tests)

pub restored-above : (d life kept above x : ℕ) (m n s new : TheNode) (b : Body) → m ≡ n → x ≡ heard_of d m → life ≡ x → works_for d n.working ≡ false → b ≡ restored_of d life above n → s ≡ obeys d kept n → new ≡ posts d b s → new ≡ resumed_by d life kept above n
restored-above d life kept above x m n s new b same is here free body obeyed put =
    let at : x ≡ heard_of d n = is ∙ ap (heard_of d) same in
    let t : (life == heard_of d n) ≡ true = equal life (heard_of d n) x at here in
    put ∙ ap (posts d b) obeyed ∙ ap (λ z. posts d z (obeys d kept n)) body
    ∙ ap (λ z. if not true || z then n else posts d (restored_of d life above n) (obeys d kept n)) (sym free) ∙ ap (λ z. if not z || works_for d n.working then n else posts d (restored_of d life above n) (obeys d kept n)) (sym t)

-- ---- it obeys

pub obeyed : (d k : ℕ) (x : Bool) (q : TheQueue) (m n : TheNode) → m ≡ n → x ≡ slice_index_or m.resumed d true → x ≡ false → q ≡ forgotten_above k (log_at m.logs d)
    → record m { logs = slice_set m.logs d q; resumed = slice_set m.resumed d true } ≡ obeys d k n
obeyed d k x q m n same is off e =
    ap (λ z. record m { logs = slice_set m.logs d z; resumed = slice_set m.resumed d true }) e
    ∙ ap (λ b. if b then m else record m { logs = slice_set m.logs d (forgotten_above k (log_at m.logs d)); resumed = slice_set m.resumed d true }) (sym off ∙ is) ∙ ap (obeys d k) same

pub obeyed-before : (d k : ℕ) (x : Bool) (m n : TheNode) → m ≡ n → x ≡ slice_index_or m.resumed d true → x ≡ true → n ≡ obeys d k n
obeyed-before d k x m n same is on =
    sym same ∙ ap (λ b. if b then m else record m { logs = slice_set m.logs d (forgotten_above k (log_at m.logs d)); resumed = slice_set m.resumed d true }) (sym on ∙ is) ∙ ap (obeys d k) same

-- ---- a number comes

pub stale-number : (d life ssn k x : ℕ) (m n : TheNode) → m ≡ n → x ≡ heard_of d m → life ≢ x → n ≡ recorded_by d life ssn k n
stale-number d life ssn k x m n same is other =
    let at : x ≡ heard_of d n = is ∙ ap (heard_of d) same in
    let t : (life == heard_of d n) ≡ false = unequal life (heard_of d n) x at other in
    ap (λ z. if z && is_kept ssn (log_at n.logs d) then posts d (Acknowledgement life k) (numbered d ssn k n) else n) (sym t)

pub dropped-number : (d life ssn k x : ℕ) (q : TheQueue) (m n : TheNode) → m ≡ n → x ≡ heard_of d m → life ≡ x → q ≡ log_at m.logs d → is_kept ssn q ≡ false → n ≡ recorded_by d life ssn k n
dropped-number d life ssn k x q m n same is here log off =
    let at : x ≡ heard_of d n = is ∙ ap (heard_of d) same in
    let t : (life == heard_of d n) ≡ true = equal life (heard_of d n) x at here in
    let u : is_kept ssn (log_at n.logs d) ≡ false = ap (λ (z : TheNode). is_kept ssn (log_at z.logs d)) (sym same) ∙ ap (is_kept ssn) (sym log) ∙ off in
    ap (λ z. if true && z then posts d (Acknowledgement life k) (numbered d ssn k n) else n) (sym u) ∙ ap (λ z. if z && is_kept ssn (log_at n.logs d) then posts d (Acknowledgement life k) (numbered d ssn k n) else n) (sym t)

pub takes-number : (d life ssn k x : ℕ) (q r : TheQueue) (m n new : TheNode) → m ≡ n → x ≡ heard_of d m → life ≡ x → q ≡ log_at m.logs d → is_kept ssn q ≡ true → r ≡ recorded ssn k (log_at m.logs d)
    → new ≡ posts d (Acknowledgement life k) (record m { logs = slice_set m.logs d r }) → new ≡ recorded_by d life ssn k n
takes-number d life ssn k x q r m n new same is here log on e put =
    let t : (life == heard_of d m) ≡ true = equal life (heard_of d m) x is here in
    let u : is_kept ssn (log_at m.logs d) ≡ true = ap (is_kept ssn) (sym log) ∙ on in
    put ∙ ap (λ (z : TheQueue). posts d (Acknowledgement life k) (record m { logs = slice_set m.logs d z })) e
    ∙ ap (λ z. if true && z then posts d (Acknowledgement life k) (numbered d ssn k m) else m) (sym u) ∙ ap (λ z. if z && is_kept ssn (log_at m.logs d) then posts d (Acknowledgement life k) (numbered d ssn k m) else m) (sym t)
    ∙ ap (recorded_by d life ssn k) same
