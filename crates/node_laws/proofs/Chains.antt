-- A process goes on by acts of its own, as exact as it was
use Rattle.std.proofs.Common.{◌≡◌, ℕ, ◌+◌, List, [], ◌∷◌, ◌++◌, ap, subst}
use Rattle.packets.specs.declared.kept.Kept.{Kept}
use Rattle.node.specs.declared.limit.Limits.{Limits}
use Rattle.node.specs.Node.{TheNode}
use Rattle.node.specs.Transmission.{ticked}
use Rattle.node.specs.Checkpoints.{froze}
use Rattle.recovery.proofs.Inquiries.{only-below}
use Rattle.recovery.proofs.RestorationInquiries as restored
use Rattle.recovery.specs.Collection.{TheCollecting, begins, revived}
use Rattle.recovery.specs.Collection as collects
use Rattle.recovery.specs.Replayed.{TheReplayed}
use Rattle.recovery.specs.Restoration.{TheRestoring, begun}
use Rattle.recovery.specs.Restoration as restores
use Rattle.node_laws.specs.Inside.Process.{Process, Acts, is_exact}
use Rattle.node_laws.proofs.NodeSound.{self, ticks, freezes}

abbrev pub Chain : Process → List Process → Process → Type 0
Chain old [] new = new ≡ old
Chain old (next ∷ rest) new = Acts old next × ((is_exact next ≡ is_exact old) × Chain next rest new)

pub chain-append : (a : Process) (ps : List Process) (b : Process) (qs : List Process) (c : Process) → Chain a ps b → Chain b qs c → Chain a (ps ++ qs) c
chain-append a [] b qs c e h = subst (λ z. Chain z qs c) e h
chain-append a (p ∷ ps) b qs c g h = (g.0, (g.1.0, chain-append p ps b qs c g.1.1 h))

-- ---- what keeps a process as exact

pub ticked-exact : (n : TheNode) → (ticked n).exact ≡ n.exact
ticked-exact n = (ticks (λ q. 0) (λ q. Unit {0}) n n (self (λ q. 0) (λ q. Unit {0}) n)).exact

pub froze-exact : (n : TheNode) → (froze n).exact ≡ n.exact
froze-exact n = (freezes (λ q. 0) (λ q. Unit {0}) n n (self (λ q. 0) (λ q. Unit {0}) n)).exact

-- what is asked of peers changes neither that nor the limits
pub asked-exact : (n : TheCollecting) → (collects.asked n).own.exact ≡ n.own.exact
asked-exact n = ap (λ (z : TheCollecting). z.own.exact) (only-below n n.own.me (n.own.count + 1))

pub revived-limits : (limits : Limits) (k : Kept) (life : ℕ) → (revived limits k life).own.limits ≡ limits
revived-limits limits k life = ap (λ (z : TheCollecting). z.own.limits) (only-below (begins limits k life) k.me (k.count + 1))

pub restores-exact : (n : TheRestoring) → (restores.asked n).own.exact ≡ n.own.exact
restores-exact n = ap (λ (z : TheRestoring). z.own.exact) (restored.only-below n (n.own.count + 1))

pub begun-exact : (r : TheReplayed) → (begun r).own.exact ≡ r.own.exact
begun-exact r = restores-exact (restores.begins r)
