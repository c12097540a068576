use Rattle.std.proofs.Common.{rules, ◌≡◌, ◌≢◌, ◌∙◌, ℕ, Option, Some, None, true, false, refl, sym, subst, arith}
use Rattle.std.specs.Prelude.{IfSome}
use Rattle.regtypes.specs.declared.frame.Kind.{Kind}
use Rattle.regtypes.specs.declared.frame.Kind.TheVariants.{Unset}
use Rattle.listing.specs.declared.why.UnsetCause.{UnsetCause}
use Rattle.listing.specs.declared.why.UnsetCause.TheVariants.{Unknown, Differs}
use Rattle.listing.specs.Inside.Arrives.{GoesWith, IsSet}
use Rattle.listing.specs.Why.{Clash, IsReason, Leaves}
use Rattle.listing.proofs.Together.{first_kind, none_before, passes_none, passes_one, together_more, told, with_reason}
use Rattle.listing.proofs.why.arrival_at.Goals as goal
use Rattle.listing.proofs.why.arrival_at.Goals.{in-None-default, in-Some-None, in-Some-Some+then-clash, in-Some-Some+else-clash}

pub loop-from-preserved : goal.loop-from-preserved
loop-from-preserved c =
    let s = c.args.study.now in
    let r = c.args.reg.number in
    let at = c.args.at in
    let n = c.loop-from.from in
    let was = c.loop-from.invariant in
    let each = c.kind_left.ensures.each in
    elim c.match-kind_left.branch [
      | in-None-default w ↦
          let none : c.kind_left.result ≡ None = search rules in
          record {
            set = subst (λ (x : Option (ℕ × Kind)). IsSet s r at x) (sym w.set-is) was.set;
            reason = subst (λ (y : UnsetCause). y ≢ Unknown → IsReason s r y at) (sym w.reason-is) was.reason;
            together = together_more s r at n c.loop-from.set c.loop-from.set c.match-kind_left.set c.loop-from.reason c.loop-from.reason c.match-kind_left.reason w.set-is w.reason-is was.together
                (λ k goes. goes) (passes_none s r at n c.kind_left.result c.loop-from.set c.loop-from.reason each none);
          }
      | in-Some-None w ↦
          let x = w.in-Some-None.kind in
          let found : c.kind_left.result ≡ Some x = search rules in
          let none : c.loop-from.set ≡ None = search rules in
          let full : x ≢ Unset = search rules in
          let left : Leaves s r n at x = subst (λ (o : Option Kind). IfSome o (Leaves s r n at)) found c.kind_left.ensures.left in
          record {
            set = subst (λ (y : Option (ℕ × Kind)). IsSet s r at y) (sym w.set-is) (left, full);
            reason = subst (λ (y : UnsetCause). y ≢ Unknown → IsReason s r y at) (sym w.reason-is) was.reason;
            together = together_more s r at n c.loop-from.set (Some (n, x)) c.match-kind_left.set c.loop-from.reason c.loop-from.reason c.match-kind_left.reason w.set-is w.reason-is was.together
                (λ k goes. none_before (Some (n, x)) c.loop-from.reason k (subst (λ (y : Option (ℕ × Kind)). GoesWith y c.loop-from.reason k) none goes))
                (passes_one s r at n c.kind_left.result x (Some (n, x)) c.loop-from.reason each found (first_kind n x c.loop-from.reason full));
          }
      | in-Some-Some+then-clash w ↦
          let x = w.in-Some-Some.kind in
          let first = w.in-Some-Some.first in
          let had = w.in-Some-Some.had in
          let found : c.kind_left.result ≡ Some x = search rules in
          let before : c.loop-from.set ≡ Some (first, had) = search rules in
          let full : x ≢ Unset = search rules in
          let clash : Clash had x = w.clash.ensures.0 w.if-clash.true in
          let left : Leaves s r n at x = subst (λ (o : Option Kind). IfSome o (Leaves s r n at)) found c.kind_left.ensures.left in
          let one : IsSet s r at (Some (first, had)) = subst (λ (y : Option (ℕ × Kind)). IsSet s r at y) before was.set in
          let other : Differs first n at ≢ Unknown = λ (e : Differs first n at ≡ Unknown). cc in
          let reason : IsReason s r (Differs first n at) at = (refl, record { first = had; one = one.0; set = one.1; second = x; other = left; kept = full; clash = clash }) in
          record {
            set = subst (λ (y : Option (ℕ × Kind)). IsSet s r at y) (sym w.set-is) was.set;
            reason = subst (λ (y : UnsetCause). y ≢ Unknown → IsReason s r y at) (sym w.reason-is) (λ _. reason);
            together = together_more s r at n c.loop-from.set (Some (first, had)) c.match-kind_left.set c.loop-from.reason (Differs first n at) c.match-kind_left.reason (w.set-is ∙ before) w.reason-is was.together
                (λ k goes. with_reason (first, had) c.loop-from.reason (Differs first n at) k other (subst (λ (y : Option (ℕ × Kind)). GoesWith y c.loop-from.reason k) before goes))
                (passes_one s r at n c.kind_left.result x (Some (first, had)) (Differs first n at) each found (full, λ unknown. absurd (other unknown)));
          }
      | in-Some-Some+else-clash w ↦
          let x = w.in-Some-Some.kind in
          let first = w.in-Some-Some.first in
          let had = w.in-Some-Some.had in
          let found : c.kind_left.result ≡ Some x = search rules in
          let before : c.loop-from.set ≡ Some (first, had) = search rules in
          let full : x ≢ Unset = search rules in
          let apart : ¬ Clash had x = λ clash. let both : true ≡ false = sym (w.clash.ensures.1 clash) ∙ w.if-clash.false in cc in
          record {
            set = subst (λ (y : Option (ℕ × Kind)). IsSet s r at y) (sym w.set-is) was.set;
            reason = subst (λ (y : UnsetCause). y ≢ Unknown → IsReason s r y at) (sym w.reason-is) was.reason;
            together = together_more s r at n c.loop-from.set (Some (first, had)) c.match-kind_left.set c.loop-from.reason c.loop-from.reason c.match-kind_left.reason (w.set-is ∙ before) w.reason-is was.together
                (λ k goes. subst (λ (y : Option (ℕ × Kind)). GoesWith y c.loop-from.reason k) before goes)
                (passes_one s r at n c.kind_left.result x (Some (first, had)) c.loop-from.reason each found (full, λ _. apart));
          }
    ]

pub returns : goal.returns
returns c =
    let at = c.args.at in
    told c.args.study.now c.args.reg.number at c.loop-from.set c.loop-from.reason c.requires c.loop-from.invariant.reason (λ p k lt passed. c.loop-from.invariant.together p k (omega (arith, lt)) passed)
