-- Handlers by their answers
use Rattle.std.proofs.Common.{◌≡◌, inl, inr, ℕ, suc, List, [], ◌∷◌, ◌++◌, false, sym, ap, ◌∙◌, subst, refl, arith, append_assoc}
use Rattle.std.specs.Prelude.{◌==◌}
use Rattle.std.proofs.lemmas.Bool.Decides.{nat_tests}
use Rattle.world.specs.declared.message.Message.{Message}
use Rattle.world.specs.Handlers.{Handlers}
use Rattle.theorems.specs.Growth.{Grows}
use Rattle.packets.specs.declared.packet.NodePacket.{NodePacket}
use Rattle.cluster.specs.Parcels.{Parcel, In}
use Rattle.cluster.specs.Cluster.{Cluster}
use Rattle.cluster.specs.Rules.{Act, does, after_run}
use Rattle.node.specs.Node.{TheNode}
use Rattle.node.specs.Stands.{Each, Stands, Handles, Answers, actor, job_of, payloads_to}
use Rattle.node.specs.Answering.{Answer, Answering, state_from, sends_from, handlers_of, IsOne, IsAnswer}
use Rattle.node.proofs.Beside.{same}

-- one message more is answered in the state that the others left
pub state-more : (f : Answering) (p : ℕ) (s : List ℕ) (h : List Message) (m : Message) → state_from f p s (h ++ m ∷ []) ≡ (f p (state_from f p s h) m).state
state-more f p s [] m = refl
state-more f p s (x ∷ h) m = state-more f p (f p s x).state h m

none-more : {X : Type 0} (xs : List X) → xs ++ [] ≡ xs
none-more [] = refl
none-more (x ∷ xs) = ap (λ l. x ∷ l) (none-more xs)

pub sends-more : (f : Answering) (p : ℕ) (s : List ℕ) (h : List Message) (m : Message) (d : ℕ) → sends_from f p s (h ++ m ∷ []) d ≡ sends_from f p s h d ++ payloads_to d (f p (state_from f p s h) m).given
sends-more f p s [] m d = none-more (payloads_to d (f p s m).given)
sends-more f p s (x ∷ h) m d =
    ap (λ l. payloads_to d (f p s x).given ++ l) (sends-more f p (f p s x).state h m d)
    ∙ sym (append_assoc (payloads_to d (f p s x).given) (sends_from f p (f p s x).state h d) (payloads_to d (f p (state_from f p (f p s x).state h) m).given))

-- such handlers take nothing back
pub grows : (f : Answering) (states : ℕ → List ℕ) → Grows (handlers_of f states)
grows f states p h m d = (payloads_to d (f p (state_from f p (states p) h) m).given, sym (sends-more f p (states p) h m d))

-- nothing that was put out is taken back
pub parcels-stay : (c : Cluster) (acts : List Act) (x : Parcel) → In x c.parcels → In x (after_run c acts).parcels
parcels-stay c [] x i = i
parcels-stay c (a ∷ acts) x i =
    let apart : (suc (actor a) == actor a) ≡ false = grind (arith, nat_tests) in
    parcels-stay (does c a) acts x ((same c a (suc (actor a)) apart).parcels x i)

-- one of them was
pub one-was : (P : NodePacket → Type 0) (x : NodePacket) (xs : List NodePacket) → Each P xs → IsOne x xs → P x
one-was P x [] h i = absurd i
one-was P x (y ∷ xs) h (inl e) = subst P (sym e) h.0
one-was P x (y ∷ xs) h (inr i) = one-was P x xs h.1 i

-- the handler's answer is what the cluster's handlers say
pub answers : (f : Answering) (states : ℕ → List ℕ) (n : TheNode) (c : Cluster) (p : ℕ) (a : Answer) → c.world.handlers ≡ handlers_of f states → Stands n c p → IsAnswer f p n a → Handles a.state a.given n c
answers f states n c p a handlers s is j busy =
    let me : n.me ≡ p = s.me in
    let h : List Message = c.world.history p in
    let here : state_from f p (states p) h ≡ n.state = ap (λ (g : Handlers). g.state p h) (sym handlers) ∙ s.state in
    let answer : f p (state_from f p (states p) h) (job_of j) ≡ a = ap (λ z. f p z (job_of j)) here ∙ sym (is j busy) in
    subst (λ k. Answers c k (job_of j) a.state a.given) (sym me) (record {
      state_is = ap (λ (g : Handlers). g.state p (h ++ job_of j ∷ [])) handlers ∙ state-more f p (states p) h (job_of j) ∙ ap (λ (z : Answer). z.state) answer;
      sends_are = λ d. ap (λ (g : Handlers). g.sends p (h ++ job_of j ∷ []) d) handlers ∙ sends-more f p (states p) h (job_of j) d
          ∙ ap (λ (z : Answer). sends_from f p (states p) h d ++ payloads_to d z.given) answer ∙ ap (λ (g : Handlers). g.sends p h d ++ payloads_to d a.given) (sym handlers);
    })
