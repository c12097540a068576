-- A process keeps what its type keeps, by each of its calls and between them
use Rattle.std.proofs.Common.{◌≡◌, ℕ, List, Result, Ok, Err, OnOk, OnErr, true, refl, sym, subst}
use Rattle.std.specs.Prelude.{Option, Some, None}
use Rattle.packets.specs.declared.packet.NodePacket.{NodePacket}
use Rattle.packets.specs.declared.kept.Kept.{Kept}
use Rattle.packets.specs.Kept.{IsKept}
use Rattle.node.specs.declared.limit.Limits.{Limits}
use Rattle.node.specs.declared.job.Given.{Given}
use Rattle.node.specs.Limit.{AreAllowed}
use Rattle.node.specs.Node.{TheNode, new_node, IsPositive}
use Rattle.node.specs.Kept.{comes_back}
use Rattle.node.specs.Checkpoints as saving
use Rattle.recovery.specs.Collection.{TheCollecting, revived}
use Rattle.recovery.specs.declared.lifecycle.Lifecycle.{Lifecycle}
use Rattle.recovery.specs.declared.lifecycle.Lifecycle.TheVariants.{Up, Collecting, Replaying, Replayed, Restoring, Passing}
use Rattle.process.specs.Process.{is_settled}
use Rattle.recovery.specs.Transitions.{Recovers, Finishes, Begun, Returns, Passes}
use Rattle.process.specs.Calls.{IsHanded, Ticks, Takes, Freezes, Thaws}
use Rattle.process.specs.Work.{TakesIn, MayTakeIn}
use Rattle.process.specs.Bounds.{IsWithin}
use Rattle.process.proofs.Bounded as bounded
use Rattle.process.proofs.Writes as writing

-- ---- it is in some stage

moved : (old new : Lifecycle) → new ≡ old → is_settled old ≡ true → is_settled new ≡ true
moved old new e s = subst (λ c. is_settled c ≡ true) (sym e) s

handed-settled : (x : NodePacket) (old new : Lifecycle) → IsHanded x old new → is_settled old ≡ true → is_settled new ≡ true
handed-settled x (Up old) (Up new) h s = refl
handed-settled x (Collecting old) (Collecting new) h s = refl
handed-settled x (Restoring old) (Restoring new) h s = refl
handed-settled x (Replaying old) (Replaying new) h s = refl
handed-settled x (Replayed old) (Replayed new) h s = refl
handed-settled x Passing new h s = moved Passing new h s
handed-settled x old new h s = absurd h

ticks-settled : (old new : Lifecycle) → Ticks old new → is_settled old ≡ true → is_settled new ≡ true
ticks-settled (Up old) (Up new) h s = refl
ticks-settled (Collecting old) (Collecting new) h s = refl
ticks-settled (Restoring old) (Restoring new) h s = refl
ticks-settled (Replaying old) new h s = moved (Replaying old) new h s
ticks-settled (Replayed old) new h s = moved (Replayed old) new h s
ticks-settled Passing new h s = moved Passing new h s
ticks-settled old new h s = absurd h

takes-settled : (o : Option NodePacket) (old new : Lifecycle) → Takes o old new → is_settled old ≡ true → is_settled new ≡ true
takes-settled None (Up old) (Up new) h s = refl
takes-settled (Some x) (Up old) (Up new) h s = refl
takes-settled None (Collecting old) (Collecting new) h s = refl
takes-settled (Some x) (Collecting old) (Collecting new) h s = refl
takes-settled None (Replaying old) (Replaying new) h s = refl
takes-settled (Some x) (Replaying old) (Replaying new) h s = refl
takes-settled None (Replayed old) (Replayed new) h s = refl
takes-settled (Some x) (Replayed old) (Replayed new) h s = refl
takes-settled None (Restoring old) (Restoring new) h s = refl
takes-settled (Some x) (Restoring old) (Restoring new) h s = refl
takes-settled o Passing new h s = moved Passing new h.1 s
takes-settled o old new h s = absurd h

freezes-settled : (old new : Lifecycle) → Freezes old new → is_settled old ≡ true → is_settled new ≡ true
freezes-settled (Up old) (Up new) h s = refl
freezes-settled (Up old) new h s = absurd h
freezes-settled old new h s = moved old new h s

thaws-settled : (old new : Lifecycle) → Thaws old new → is_settled old ≡ true → is_settled new ≡ true
thaws-settled (Up old) (Up new) h s = refl
thaws-settled (Up old) new h s = absurd h
thaws-settled old new h s = moved old new h s

takes-in-settled : (state : List ℕ) (xs : List Given) (old new : Lifecycle) → TakesIn state xs old new → is_settled old ≡ true → is_settled new ≡ true
takes-in-settled state xs (Up old) (Up new) h s = refl
takes-in-settled state xs (Replaying old) (Replaying new) h s = refl
takes-in-settled state xs (Up old) new h s = absurd h
takes-in-settled state xs (Replaying old) new h s = absurd h
takes-in-settled state xs old new h s = moved old new h s

recovers-settled : (old new : Lifecycle) → Recovers old new → is_settled old ≡ true → is_settled new ≡ true
recovers-settled (Collecting n) (Replaying r) h s = refl
recovers-settled old new h s = moved old new h s

finishes-settled : (old new : Lifecycle) → Finishes old new → is_settled old ≡ true → is_settled new ≡ true
finishes-settled (Replaying n) (Replayed r) h s = refl
finishes-settled (Replaying n) new h s = moved (Replaying n) new h.1 s
finishes-settled old new h s = moved old new h s

begins-settled : (old new : Lifecycle) → Begun old new → is_settled old ≡ true → is_settled new ≡ true
begins-settled (Replayed r) (Restoring n) h s = refl
begins-settled old new h s = moved old new h s

returns-settled : (old new : Lifecycle) → Returns old new → is_settled old ≡ true → is_settled new ≡ true
returns-settled (Restoring n) (Up m) h s = refl
returns-settled (Restoring n) new h s = moved (Restoring n) new h.1 s
returns-settled old new h s = moved old new h s

passes-settled : (old new : Lifecycle) → Passes old new → is_settled old ≡ true → is_settled new ≡ true
passes-settled old new p s =
    returns-settled p.asks new p.returns (begins-settled p.ran p.asks p.begins (finishes-settled p.told p.ran p.finishes (recovers-settled old p.told p.recovers s)))

-- ---- and holds no more

pub handed : (x : NodePacket) (old new : Lifecycle) → IsHanded x old new → IsWithin old → IsWithin new
handed x old new h w = record { settled = handed-settled x old new h w.settled; holds = bounded.handed x old new h w.holds; writes = writing.handed x old new h w.holds w.writes }

pub ticks : (old new : Lifecycle) → Ticks old new → IsWithin old → IsWithin new
ticks old new h w = record { settled = ticks-settled old new h w.settled; holds = bounded.ticks old new h w.holds; writes = writing.ticks old new h w.holds w.writes }

pub takes : (o : Option NodePacket) (old new : Lifecycle) → Takes o old new → IsWithin old → IsWithin new
takes o old new h w = record { settled = takes-settled o old new h w.settled; holds = bounded.takes o old new h w.holds; writes = writing.takes o old new h w.writes }

pub freezes : (old new : Lifecycle) → Freezes old new → IsWithin old → IsWithin new
freezes old new h w = record { settled = freezes-settled old new h w.settled; holds = bounded.freezes old new h w.holds; writes = writing.freezes old new h w.writes }

pub thaws : (old new : Lifecycle) → Thaws old new → IsWithin old → IsWithin new
thaws old new h w = record { settled = thaws-settled old new h w.settled; holds = bounded.thaws old new h w.holds; writes = writing.thaws old new h w.writes }

pub takes-in : (state : List ℕ) (xs : List Given) (old new : Lifecycle) → MayTakeIn old xs → TakesIn state xs old new → IsWithin old → IsWithin new
takes-in state xs old new may h w = record { settled = takes-in-settled state xs old new h w.settled; holds = bounded.takes_in state xs old new may h w.holds; writes = writing.takes_in state xs old new h w.writes }

pub passes : (old new : Lifecycle) → Passes old new → IsWithin old → IsWithin new
passes old new p w =
    let told = bounded.recovers old p.told p.recovers w.holds in
    let ran = bounded.finishes p.told p.ran p.finishes told in
    let writes = writing.finishes p.told p.ran p.finishes (writing.recovers old p.told p.recovers w.writes) in
    record {
      settled = passes-settled old new p w.settled;
      holds = bounded.passes old new p w.holds;
      writes = writing.returns p.asks new p.returns (writing.begins p.ran p.asks p.begins ran writes);
    }

pub opened : (limits : Limits) (me count : ℕ) (state : List ℕ) (n : TheNode) → n ≡ new_node limits me count state → AreAllowed limits → IsWithin (Up n)
opened limits me count state n e allowed = subst (λ (m : TheNode). IsWithin (Up m)) (sym e) (record { settled = refl; holds = bounded.opened limits me count state allowed; writes = tt })

pub came-back : (limits : Limits) (k : Kept) (life : ℕ) (bytes : List ℕ) (n : TheCollecting) → n ≡ revived limits k life → AreAllowed limits → IsKept k bytes → comes_back k ≡ true → IsPositive life → IsWithin (Collecting n)
came-back limits k life bytes n e allowed is comes positive =
    subst (λ (m : TheCollecting). IsWithin (Collecting m)) (sym e) (record { settled = refl; holds = bounded.came-back limits k life bytes allowed is; writes = writing.came-back limits k life comes positive })

-- told or not that its checkpoint is durable
pub saved : {X E : Type 0} (r : Result X E) (old new : TheNode) → OnOk r (new ≡ saving.saved old) → OnErr r (new ≡ old) → IsWithin (Up old) → IsWithin (Up new)
saved (Ok x) old new h g w = subst (λ (m : TheNode). IsWithin (Up m)) (sym h) (record { settled = refl; holds = bounded.up-saved old w.holds; writes = tt })
saved (Err e) old new h g w = subst (λ (m : TheNode). IsWithin (Up m)) (sym g) w
