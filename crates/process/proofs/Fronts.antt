-- What is taken is the packet that waits first
use Rattle.std.proofs.Common.{◌≡◌, List, [], ◌∷◌, sym, ap, ◌∙◌, subst}
use Rattle.std.specs.Prelude.{Option, Some, None}
use Rattle.packets.specs.declared.packet.NodePacket.{NodePacket}
use Rattle.recovery.specs.declared.lifecycle.Lifecycle.{Lifecycle}
use Rattle.recovery.specs.declared.lifecycle.Lifecycle.TheVariants.{Up, Collecting, Replaying, Replayed, Restoring, Passing}
use Rattle.process.specs.Process.{TheProcess, out_of}
use Rattle.process.specs.Calls.{Takes, Stays}

-- of a list that begins with y, whose first element is x
same-first : (out rest more : List NodePacket) (x y : NodePacket) → out ≡ y ∷ more → out ≡ x ∷ rest → Some y ≡ Some x
same-first out rest more x y a b = let both : y ∷ more ≡ x ∷ rest = sym a ∙ b in cc

none-first : (out rest : List NodePacket) (x : NodePacket) → out ≡ [] → out ≡ x ∷ rest → None ≡ Some x
none-first out rest x a b = let both : [] ≡ x ∷ rest = sym a ∙ b in absurd (cc)

pub taken : (o : Option NodePacket) (a b : Lifecycle) (x : NodePacket) (rest : List NodePacket) → Takes o a b → out_of a ≡ x ∷ rest → o ≡ Some x
taken None (Up n) (Up m) x rest h e = none-first n.out rest x h.0 e
taken (Some y) (Up n) (Up m) x rest h e = same-first n.out rest m.out x y (ap (λ v. v.out) h.0) e
taken None (Collecting n) (Collecting m) x rest h e = none-first n.own.out rest x h.0 e
taken (Some y) (Collecting n) (Collecting m) x rest h e = same-first n.own.out rest m.own.out x y (ap (λ v. v.own.out) h.0) e
taken None (Replaying n) (Replaying m) x rest h e = none-first n.own.out rest x h.0 e
taken (Some y) (Replaying n) (Replaying m) x rest h e = same-first n.own.out rest m.own.out x y (ap (λ v. v.own.out) h.0) e
taken None (Replayed n) (Replayed m) x rest h e = none-first n.own.out rest x h.0 e
taken (Some y) (Replayed n) (Replayed m) x rest h e = same-first n.own.out rest m.own.out x y (ap (λ v. v.own.out) h) e
taken None (Restoring n) (Restoring m) x rest h e = none-first n.own.out rest x h.0 e
taken (Some y) (Restoring n) (Restoring m) x rest h e = same-first n.own.out rest m.own.out x y (ap (λ v. v.own.out) h.0) e
taken o Passing b x rest h e = absurd (cc)
taken o a b x rest h e = absurd h

pub stays-front : (o : Option NodePacket) (p q : TheProcess) (x : NodePacket) (rest : List NodePacket) → Stays (Takes o) p q → out_of p.lifecycle ≡ x ∷ rest → Stays (Takes (Some x)) p q
stays-front o p q x rest s e =
    let P : Option NodePacket → Type 0 = λ v. Stays (Takes v) p q in
    subst P (taken o p.lifecycle q.lifecycle x rest s.does e) s
