-- What events leave of a process
use Rattle.std.proofs.Common.{◌≡◌, ◌≢◌, ℕ, ◌≤◌, List, [], ◌∷◌, length, take, false, refl, sym, ap, ◌∙◌, subst, arith}
use Rattle.std.specs.Prelude.{Some, None, ◌==◌, if◌then◌else◌}
use Rattle.std.proofs.lemmas.Bool.Decides.{nat_tests}
use Rattle.theorems.proofs.Changes.{at-itself}
use Rattle.world.specs.declared.message.Message.{Message}
use Rattle.cluster.specs.Cluster.{Cluster}
use Rattle.cluster.specs.Rules.{Act, Arrives, Keeps, does}
use Rattle.cluster.specs.Overlap.{Event, Acts, Loses, Lacks, Doubts, loss, cut, moves, goes, after_events}
use Rattle.packets.specs.declared.kept.Kept.{Kept}
use Rattle.node.specs.Stands.{Each, doer, own_act, own_event}
use Rattle.node.specs.Kept.{IsKeptOf}
use Rattle.node.proofs.Beside.{Same, same-event}
use Rattle.node.proofs.Preservation.{kept-still, kept-stays}

-- what holds of a cluster, and of each that has the same of p, holds after the events of another
pub along : (P : Cluster → Type 0) (p q : ℕ) (es : List Event) (c : Cluster) → ((a b : Cluster) → Same a b p → P a → P b) → q ≢ p → Each (λ (e : Event). doer e ≡ q) es → P c → P (after_events c es)
along P p q [] c keeps other by h = h
along P p q (e ∷ es) c keeps other by h =
    let apart : (p == doer e) ≡ false = (let f : doer e ≡ q = by.0 in grind (arith, nat_tests)) in
    along P p q es (goes c e) keeps other by.1 (keeps c (goes c e) (same-event c e p apart) h)

-- what is kept of p is what is durable of it, where both have the same of p
pub kept-same : (k : Kept) (c d : Cluster) (p : ℕ) → Same c d p → IsKeptOf k c p → IsKeptOf k d p
kept-same k c d p e s =
    kept-still k c d p
    (record { count = e.count; handlers = e.handlers; saved = e.saved; saved_trims = e.saved_trims; history = λ l. (ap (take (c.world.saved p)) (sym e.history), subst (λ (h : List Message). c.world.saved p ≤ length h) e.history l) }) s

-- and what will be, once its checkpoint is
pub keeping-same : (k : Kept) (c d : Cluster) (p : ℕ) → Same c d p → IsKeptOf k (does c (Keeps p)) p → IsKeptOf k (does d (Keeps p)) p
keeping-same k c d p e s =
    kept-still k (does c (Keeps p)) (does d (Keeps p)) p
    (record {
      count = e.count;
      handlers = e.handlers;
      saved = saved-is c ∙ ap length e.history ∙ sym (saved-is d);
      saved_trims = λ r. trims-are c r ∙ e.trims r ∙ sym (trims-are d r);
      history = λ l. (ap (take ((does c (Keeps p)).world.saved p)) (sym e.history), subst (λ (h : List Message). (does c (Keeps p)).world.saved p ≤ length h) e.history l);
    }) s
  where
    saved-is : (x : Cluster) → (does x (Keeps p)).world.saved p ≡ length (x.world.history p)
    saved-is x = at-itself p (λ b. (if b then length (x.world.history p) else x.world.saved p) ≡ length (x.world.history p)) refl

    trims-are : (x : Cluster) (r : ℕ) → (does x (Keeps p)).world.saved_trims p r ≡ x.world.trims p r
    trims-are x r = at-itself p (λ b. (if b then x.world.trims p else x.world.saved_trims p) r ≡ x.world.trims p r) refl

-- ---- events of its own

not-kept : (p : ℕ) (a : Act) → own_act a ≡ Some p → a ≢ Keeps p
not-kept p a o f = let none : own_act a ≡ None = ap own_act f in absurd (cc)

-- what is kept of it stays that: a page is taken as it is by an act
kept-moves : (k : Kept) (c : Cluster) (p : ℕ) (e : Event) → own_event e ≡ Some p → IsKeptOf k c p → IsKeptOf k (moves c e) p
kept-moves k c p (Acts exact a) o s = kept-stays k p (a ∷ []) c (not-kept p a o, tt) s
kept-moves k c p (Lacks q d i j n) o s = kept-stays k p (Arrives q d (loss i j n) ∷ []) c ((λ e. absurd (cc (e))), tt) s
kept-moves k c p (Doubts q d x) o s = kept-stays k p (Arrives q d (cut c d q x) ∷ []) c ((λ e. absurd (cc (e))), tt) s
kept-moves k c p (Loses q d i j n) o s = s
kept-moves k c p other o s = kept-still k c (moves c other) p (record { count = refl; handlers = refl; saved = refl; saved_trims = λ r. refl; history = λ l. (refl, l) }) s

-- whatever nodes know of failures then
pub kept-goes : (k : Kept) (c : Cluster) (p : ℕ) (e : Event) → IsKeptOf k (moves c e) p → IsKeptOf k (goes c e) p
kept-goes k c p e s = kept-still k (moves c e) (goes c e) p (record { count = refl; handlers = refl; saved = refl; saved_trims = λ r. refl; history = λ l. (refl, l) }) s

pub kept-own : (k : Kept) (c : Cluster) (p : ℕ) (es : List Event) → Each (λ (e : Event). own_event e ≡ Some p) es → IsKeptOf k c p → IsKeptOf k (after_events c es) p
kept-own k c p [] by s = s
kept-own k c p (e ∷ es) by s = kept-own k (goes c e) p es by.1 (kept-goes k c p e (kept-moves k c p e by.0 s))
