-- What waits in the gateway's store, and what each call makes of it
use Rattle.std.proofs.Common.{◌≡◌, ◌≢◌, inl, inr, ℕ, zero, suc, ◌+◌, ◌-◌, ◌<◌, ◌≤◌, List, [], ◌∷◌, ◌++◌, map, take, drop, Bool, true, false, refl, sym, ap, ◌∙◌, subst, arith, append_assoc, append-nil}
use Rattle.std.specs.Prelude.{◌⊎◌, slice_index_or, slice_set, ◌==◌, if◌then◌else◌}
use Rattle.std.proofs.lemmas.Bool.Decides.{nat_tests}
use Rattle.std.proofs.lemmas.List.{map-append, take-append-drop}
use Rattle.theorems.proofs.Changes.{at-itself, choose}
use Rattle.world.specs.History.{count_of}
use Rattle.world.specs.World.{put}
use Rattle.packets.specs.declared.packet.NodePacket.{NodePacket}
use Rattle.stores.specs.declared.change.Output.{Output}
use Rattle.stores.specs.declared.change.Change.TheVariants as changes
use Rattle.stores.specs.Peer.{ThePeer, no_peer, shows}
use Rattle.stores.specs.Store.{TheStore, IsOf, peer_at, applied}
use Rattle.stores.proofs.Peers.{each-peer}
use Rattle.gateway.specs.Gateway.{TheGateway, happens}
use Rattle.gateway.specs.Calls.{is_next}
use Rattle.gateway.specs.Calls as outside
use Rattle.gateway.specs.Stands.{shown_as}
use Rattle.verifier.specs.declared.any_image.AnyImage.{AnyImage}
use Rattle.node.specs.Stands.{Each, InOrderFrom}
use Rattle.node.proofs.Lists.{count-append}
use Rattle.node.proofs.Numbers.{InOrderFrom-push}
use Rattle.recovery.proofs.Lists.{each-append}
use Rattle.node_laws.specs.HostSystem.{System, HostCall, GaveOut, HandedOut, DidOut, StoredOut, StoredBut, RevivedOut, DoesIt, after_call, handed_out, untaken}
use Rattle.node_laws.specs.HostLaws.{shown_by, LivesOn}
use Rattle.node_laws.proofs.HeldGateway.{OfGateway, any-hands, IsQuietDeal, DealsSo, deals-so, Steady, output}
use Rattle.node_laws.proofs.HeldGateway as held
use Rattle.node_laws.proofs.Untaken.{deals-alike, handed-alike, handing-so}

-- ---- the store

-- it is of a process
abbrev pub IsOfSome : Output → Type 0
IsOfSome o = 0 < o.process

-- of each process the outputs that wait are those behind these, up to the last that was shown
pub record InTurn (c : ℕ → ℕ) (s : TheStore) : Type 0 where
  pub shown : (p : ℕ) → 0 < p → (peer_at p s).shown ≡ c p + count_of p (map shown_as s.outputs)
  pub ordered : InOrderFrom c (map shown_as s.outputs)
  pub some : Each IsOfSome s.outputs

-- these with one more of x
abbrev pub past : (ℕ → ℕ) → ℕ → ℕ → ℕ
past c x = put c x (suc (c x))

-- where a list is changed at one place
set-holds : {X : Type 0} (P : X → Type 0) (xs : List X) (i : ℕ) (x : X) (q : ℕ) (d : X) → (q ≡ i → P x) → P (slice_index_or xs q d) → P (slice_index_or (slice_set xs i x) q d)
set-holds P [] i x q d here there = there
set-holds P (y ∷ xs) zero x zero d here there = here refl
set-holds P (y ∷ xs) zero x (suc q) d here there = there
set-holds P (y ∷ xs) (suc i) x zero d here there = there
set-holds P (y ∷ xs) (suc i) x (suc q) d here there = set-holds P xs i x q d (λ e. here (ap suc e)) there

-- what changes of one process, but for what was shown of it, leaves what was shown of each
shown-still : (xs : List ThePeer) (i k : ℕ) (new : ThePeer) → new.shown ≡ (slice_index_or xs i no_peer).shown → (slice_index_or (slice_set xs i new) k no_peer).shown ≡ (slice_index_or xs k no_peer).shown
shown-still xs i k new e =
    set-holds (λ (y : ThePeer). y.shown ≡ (slice_index_or xs k no_peer).shown) xs i new k no_peer (λ same. e ∙ ap (λ z. (slice_index_or xs z no_peer).shown) (sym same)) refl

steady : (c : ℕ → ℕ) → Steady (InTurn c)
steady c p new s e t = record { shown = λ q l. shown-still s.peers (p - 1) (q - 1) new e ∙ t.shown q l; ordered = t.ordered; some = t.some }

-- whether one is of a process, as a number
abbrev tally : Bool → ℕ
tally b = if b then 1 else 0

count-last : (q : ℕ) (os : List Output) (o : Output) → count_of q (map shown_as (os ++ o ∷ [])) ≡ count_of q (map shown_as os) + (tally (o.process == q) + 0)
count-last q os o = ap (count_of q) (map-append shown_as os (o ∷ [])) ∙ count-append q (map shown_as os) (shown_as o ∷ [])

-- the next output of a process is shown
shown-turn : (c : ℕ → ℕ) (o : Output) (s : TheStore) → IsOf o.process s → o.ssn ≡ suc (peer_at o.process s).shown → InTurn c s → InTurn c (applied (changes.Shown o) s)
shown-turn c o s of next t =
    let was : (peer_at o.process s).shown ≡ c o.process + count_of o.process (map shown_as s.outputs) = t.shown o.process of.some in
    record {
      shown = shown;
      ordered = subst (InOrderFrom c) (sym (map-append shown_as s.outputs (o ∷ []))) (InOrderFrom-push c (map shown_as s.outputs) (shown_as o) t.ordered (next ∙ ap suc was));
      some = each-append IsOfSome s.outputs (o ∷ []) t.some (of.some, tt);
    }
  where
    here : o.ssn ≡ c o.process + count_of o.process (map shown_as (s.outputs ++ o ∷ []))
    here =
        let one : tally (o.process == o.process) ≡ 1 = at-itself o.process (λ b. tally b ≡ 1) refl in
        let was : (peer_at o.process s).shown ≡ c o.process + count_of o.process (map shown_as s.outputs) = t.shown o.process of.some in
        omega (arith, count-last o.process s.outputs o, one, was, next)

    there : (q : ℕ) → 0 < q → q ≢ o.process → (peer_at q s).shown ≡ c q + count_of q (map shown_as (s.outputs ++ o ∷ []))
    there q l apart =
        let off : (o.process == q) ≡ false = grind (arith, nat_tests) in
        let none : tally (o.process == q) ≡ 0 = ap tally off in
        let was : (peer_at q s).shown ≡ c q + count_of q (map shown_as s.outputs) = t.shown q l in
        omega (arith, count-last q s.outputs o, none, was)

    shown : (q : ℕ) → 0 < q → (peer_at q (applied (changes.Shown o) s)).shown ≡ c q + count_of q (map shown_as (s.outputs ++ o ∷ []))
    shown q l = each-peer (λ z y. y.shown ≡ c z + count_of z (map shown_as (s.outputs ++ o ∷ []))) s o.process q (shows o.ssn (peer_at o.process s)) of l here (there q l)

-- one that was waiting is past
past-one : (c : ℕ → ℕ) (x q k : ℕ) → c q + (tally (x == q) + k) ≡ past c x q + k
past-one c x q k =
    choose x (λ j b. c j + (tally (x == j) + k) ≡ (if b then suc (c x) else c j) + k) (let one : tally (x == x) ≡ 1 = at-itself x (λ b. tally b ≡ 1) refl in omega (arith, one))
    (λ j o. let off : (x == j) ≡ false = grind (arith, nat_tests) in let none : tally (x == j) ≡ 0 = ap tally off in omega (arith, none)) q

-- the first that waits is taken
taken-turn : (c : ℕ → ℕ) (o : Output) (os : List Output) (s : TheStore) → s.outputs ≡ o ∷ os → InTurn c s → (o.ssn ≡ suc (c o.process)) × InTurn (past c o.process) (applied (changes.Taken 1) s)
taken-turn c o os s e t =
    let ordered : InOrderFrom c (map shown_as (o ∷ os)) = subst (λ z. InOrderFrom c (map shown_as z)) e t.ordered in
    let rest : drop 1 s.outputs ≡ os = ap (drop 1) e in (
      ordered.0,
      record {
        shown = λ q l. t.shown q l ∙ ap (λ z. c q + count_of q (map shown_as z)) e ∙ past-one c o.process q (count_of q (map shown_as os)) ∙ ap (λ z. past c o.process q + count_of q (map shown_as z)) (sym rest);
        ordered = subst (λ z. InOrderFrom (past c o.process) (map shown_as z)) (sym rest) ordered.1;
        some = subst (Each IsOfSome) (sym rest) (subst (Each IsOfSome) e t.some).1;
      },
    )

-- these with more of each process, as these outputs are of it
abbrev pub passed : (ℕ → ℕ) → List Output → ℕ → ℕ
passed c [] = c
passed c (o ∷ os) = passed (past c o.process) os

passed-append : (c : ℕ → ℕ) (xs ys : List Output) → passed c (xs ++ ys) ≡ passed (passed c xs) ys
passed-append c [] ys = refl
passed-append c (x ∷ xs) ys = passed-append (past c x.process) xs ys

-- so many of them, and then the others
passed-rest : (c : ℕ → ℕ) (k : ℕ) (outputs : List Output) → passed (passed c (take k outputs)) (drop k outputs) ≡ passed c outputs
passed-rest c k outputs = sym (passed-append c (take k outputs) (drop k outputs)) ∙ ap (passed c) (take-append-drop k outputs)

pub past-grows : (c : ℕ → ℕ) (x p : ℕ) → c p ≤ past c x p
past-grows c x p = choose x (λ j b. c j ≤ (if b then suc (c x) else c j)) (omega arith) (λ j o. omega arith) p

pub passed-grows : (c : ℕ → ℕ) (os : List Output) (p : ℕ) → c p ≤ passed c os p
passed-grows c [] p = omega arith
passed-grows c (o ∷ os) p =
    let one : c p ≤ past c o.process p = past-grows c o.process p in
    let rest : past c o.process p ≤ passed (past c o.process) os p = passed-grows (past c o.process) os p in
    omega (arith, one, rest)

-- as they are alike, so are these
past-alike : (c d : ℕ → ℕ) (x p : ℕ) → ((q : ℕ) → c q ≡ d q) → past c x p ≡ past d x p
past-alike c d x p e = choose x (λ j b. (if b then suc (c x) else c j) ≡ (if b then suc (d x) else d j)) (ap suc (e x)) (λ j o. e j) p

-- the first that wait are taken
taken-all : (c : ℕ → ℕ) (xs : List Output) (s : TheStore) (rest : List Output) → InTurn c (record s { outputs = xs ++ rest }) → InTurn (passed c xs) (record s { outputs = rest })
taken-all c [] s rest t = t
taken-all c (o ∷ xs) s rest t = taken-all (past c o.process) xs s rest (taken-turn c o (xs ++ rest) (record s { outputs = o ∷ (xs ++ rest) }) refl t).1

-- ---- a call

-- these outputs lead from one to the other: none does, or the next of one process
abbrev pub Leads : (ℕ → ℕ) → List Output → (ℕ → ℕ) → Type 0
Leads c outputs d = ((outputs ≡ []) × (d ≡ c)) ⊎ ((o : Output) × ((outputs ≡ o ∷ []) × ((o.ssn ≡ suc (c o.process)) × (d ≡ past c o.process))))

-- of each process no less than the one, and no more than the other
abbrev pub Between : (ℕ → ℕ) → (ℕ → ℕ) → (ℕ → ℕ) → Type 0
Between d kept c = (p : ℕ) → (d p ≤ kept p) × (kept p ≤ c p)

-- the gateway has handed out up to c; where it is revived, it is as if up to d, and what was handed out from there on isn't durably taken
pub record UpTo (c d : ℕ → ℕ) (s : System) : Type 0 where
  pub gateway : OfGateway (InTurn c) s.gateway
  pub durable : OfGateway (InTurn d) s.durable
  pub shadow : OfGateway (InTurn d) (untaken s.taken s.gateway)
  pub leads : (p : ℕ) → c p ≡ passed d s.taken p

-- after a call these are others
pub record Turns (c d : ℕ → ℕ) (s : System) (k : HostCall) : Type 0 where
  pub from : ℕ → ℕ
  pub kept : ℕ → ℕ
  pub up : UpTo from kept (after_call s k)
  pub leads : Leads c (shown_by s k) from ⊎ Leads d (shown_by s k) from
  pub on : LivesOn k → Leads c (shown_by s k) from
  pub kept_is : (kept ≡ d) ⊎ Between d kept from

module _ (c d : ℕ → ℕ) (s : System) (a : UpTo c d s) where
  -- nothing of it changes
  rests : (k : HostCall) → UpTo c d (after_call s k) → shown_by s k ≡ [] → Turns c d s k
  rests k u n = record { from = c; kept = d; up = u; leads = inl (inl (n, refl)); on = λ l. inl (n, refl); kept_is = inl refl }

  gives-out : (x : NodePacket) (new : TheGateway) → s.gateway ≡ record new { out = x ∷ new.out } → Turns c d s (GaveOut x new)
  gives-out x new e =
      let was : OfGateway (InTurn c) (record new { out = x ∷ new.out }) = subst (OfGateway (InTurn c)) e a.gateway in
      let old : OfGateway (InTurn d) (untaken s.taken (record new { out = x ∷ new.out })) = subst (λ z. OfGateway (InTurn d) (untaken s.taken z)) e a.shadow in
      let goes : OfGateway (InTurn d) (untaken s.taken new) = record { out = old.out.1; store = old.store } in
      rests (GaveOut x new) (record { gateway = record { out = was.out.1; store = was.store }; durable = a.durable; shadow = goes; leads = a.leads }) refl

  -- a packet comes
  hears : (e : ℕ → ℕ) (x : NodePacket) (g : TheGateway) → OfGateway (InTurn e) g → OfGateway (InTurn e) (outside.handed x g)
  hears e x g o = any-hands (InTurn e) (steady e) x g (λ to of i ssn y is next t. shown-turn e (output x.from ssn y) g.store of (numbered ssn y next) t) o
    where
      numbered : (ssn : ℕ) (y : List ℕ) → is_next (output x.from ssn y) g ≡ true → ssn ≡ suc (peer_at x.from g.store).shown
      numbered ssn y next = let h : (ssn == (peer_at x.from g.store).shown + 1) ≡ true = next in grind (arith, nat_tests)

  hears-out : (x : NodePacket) (new : TheGateway) → new ≡ outside.handed x s.gateway → Turns c d s (HandedOut x new)
  hears-out x new e =
      let alike : outside.handed x (untaken s.taken s.gateway) ≡ untaken s.taken new = handed-alike s.taken x s.gateway ∙ ap (untaken s.taken) (sym e) in
      rests (HandedOut x new) (record { gateway = subst (OfGateway (InTurn c)) (sym e) (hears c x s.gateway a.gateway); durable = a.durable; shadow = subst (OfGateway (InTurn d)) alike (hears d x (untaken s.taken s.gateway) a.shadow); leads = a.leads }) refl

  quiet-alike : (new : TheGateway) → (new ≡ s.gateway) ⊎ IsQuietDeal s.gateway new → (untaken s.taken new ≡ untaken s.taken s.gateway) ⊎ IsQuietDeal (untaken s.taken s.gateway) (untaken s.taken new)
  quiet-alike new (inl same) = inl (ap (untaken s.taken) same)
  quiet-alike new (inr q) = inr (deals-alike s.taken s.gateway new q)

  does-out : (new : TheGateway) → DealsSo s.gateway new → Turns c d s (DidOut new)
  does-out new (inr q) =
      let none : handed_out s.gateway new ≡ [] = q.0 in
      let same : s.taken ++ handed_out s.gateway new ≡ s.taken = ap (λ z. s.taken ++ z) none ∙ append-nil s.taken in
      rests (DidOut new) (record {
        gateway = held.quiet (λ x. Unit {0}) (λ to b g p. tt) (InTurn c) (steady c) s.gateway new q.1 a.gateway;
        durable = a.durable;
        shadow = subst (λ z. OfGateway (InTurn d) (untaken z new)) (sym same) (held.quiet (λ x. Unit {0}) (λ to b g p. tt) (InTurn d) (steady d) (untaken s.taken s.gateway) (untaken s.taken new) (quiet-alike new q.1) a.shadow);
        leads = λ p. a.leads p ∙ ap (λ z. passed d z p) (sym same);
      }) none
  does-out new (inl h) =
      let o : Output = h.output in
      let t = taken-turn c o h.rest s.gateway.store h.waited a.gateway.store in
      let goes : OfGateway (InTurn (past c o.process)) (happens (changes.Taken 1) s.gateway) = record { out = a.gateway.out; store = t.1 } in
      let one : Leads c (handed_out s.gateway new) (past c o.process) = inr (o, (h.handed, (t.0, refl))) in
      let told = handing-so s.taken s.gateway new h in
      let all : OfGateway (InTurn d) (record (untaken s.taken s.gateway) { changes = told.0 }) = record { out = a.shadow.out; store = a.shadow.store } in
      let more : passed d (s.taken ++ handed_out s.gateway new) ≡ past (passed d s.taken) o.process =
      ap (λ z. passed d (s.taken ++ z)) h.handed ∙ passed-append d s.taken (o ∷ []) in
      record {
        from = past c o.process;
        kept = d;
        up = record {
          gateway = subst (OfGateway (InTurn (past c o.process))) (sym h.is) goes;
          durable = a.durable;
          shadow = subst (OfGateway (InTurn d)) (sym told.1) all;
          leads = λ p. past-alike c (passed d s.taken) o.process p a.leads ∙ sym (ap (λ z. z p) more);
        };
        leads = inl one;
        on = λ l. one;
        kept_is = inl refl;
      }

  -- all is stored
  stores-out : Turns c d s StoredOut
  stores-out =
      record {
        from = c;
        kept = c;
        up = record { gateway = a.gateway; durable = a.gateway; shadow = a.gateway; leads = λ p. refl };
        leads = inl (inl (refl, refl));
        on = λ l. inl (refl, refl);
        kept_is = inr (λ p. (subst (λ z. d p ≤ z) (sym (a.leads p)) (passed-grows d s.taken p), omega arith));
      }

  -- all is, but that more were taken than so many
  stores-but : (k : ℕ) → Turns c d s (StoredBut k)
  stores-but k =
      let first : List Output = take k s.taken in
      let rest : List Output = drop k s.taken in
      let parts : s.taken ++ s.gateway.store.outputs ≡ first ++ (rest ++ s.gateway.store.outputs) =
      ap (λ z. z ++ s.gateway.store.outputs) (sym (take-append-drop k s.taken)) ∙ append_assoc first rest s.gateway.store.outputs in
      let all : InTurn d (record s.gateway.store { outputs = first ++ (rest ++ s.gateway.store.outputs) }) = subst (λ z. InTurn d (record s.gateway.store { outputs = z })) parts a.shadow.store in
      let goes : OfGateway (InTurn (passed d first)) (untaken rest s.gateway) = record { out = a.gateway.out; store = taken-all d first s.gateway.store (rest ++ s.gateway.store.outputs) all } in
      let on : (p : ℕ) → c p ≡ passed (passed d first) rest p = λ p. a.leads p ∙ sym (ap (λ z. z p) (passed-rest d k s.taken)) in
      record {
        from = c;
        kept = passed d first;
        up = record { gateway = a.gateway; durable = goes; shadow = goes; leads = on };
        leads = inl (inl (refl, refl));
        on = λ l. inl (refl, refl);
        kept_is = inr (λ p. (passed-grows d first p, subst (λ z. passed d first p ≤ z) (sym (on p)) (passed-grows (passed d first) rest p)));
      }

  pub turns : (images : ℕ → AnyImage) (n : ℕ) (k : HostCall) → DoesIt images n s k → Turns c d s k
  turns images n (GaveOut x new) m = gives-out x new m.1.0
  turns images n (HandedOut x new) m = hears-out x new m.1.0
  turns images n (DidOut new) m = does-out new (deals-so s.gateway new m.0)
  turns images n StoredOut m = stores-out
  turns images n (StoredBut k) m = stores-but k
  turns images n (RevivedOut new) m =
      let goes : OfGateway (InTurn d) new = subst (OfGateway (InTurn d)) (sym m.0) (record { out = tt; store = a.durable.store }) in
      record { from = d; kept = d; up = record { gateway = goes; durable = goes; shadow = goes; leads = λ p. refl }; leads = inr (inl (refl, refl)); on = λ l. absurd l; kept_is = inl refl }
  turns images n other m = rests other (record { gateway = a.gateway; durable = a.durable; shadow = a.shadow; leads = a.leads }) refl
