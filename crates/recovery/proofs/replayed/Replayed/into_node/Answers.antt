use Rattle.std.proofs.Common.{rules, ◌+◌, length, sym, ap, subst, arith}
use Rattle.std.specs.List.{AllByRecursion}
use Rattle.packets.specs.Format.{Fits}
use Rattle.node.specs.Node.{IsPeer}
use Rattle.recovery.specs.Own.{TheOwn, IsShort}
use Rattle.recovery.specs.Replayed.{TheReplayed}
use Rattle.recovery.proofs.replayed.Replayed.into_node.Goals as goal

pub returned-requires : goal.returned-requires
returned-requires c =
    let i = c.own.invariant in
    let r = c.self.invariant in
    let own = c.own.inside in
    let senders = c.self.inside.receipts.senders in
    let count = ap (λ (z : TheReplayed). z.own.count) c.self.view_is in
    let same = ap (λ (o : TheOwn). o.count) c.own.view_is in
    let base = ap (λ (o : TheOwn). o.base) c.own.view_is in
    record {
      allowed = i.allowed;
      inside = i.inside;
      within = i.within;
      few = i.few;
      wide = i.wide;
      heard_wide = i.heard_wide;
      resumed_wide = omega (arith, c.requires, count, same);
      logs_wide = i.logs_wide;
      counts = i.counts;
      peers = record { total = i.covers.total; none_own = i.covers.none_own; behind = subst (λ (o : TheOwn). AllByRecursion (IsPeer o.me o.count) senders) (sym c.own.view_is) r.peers };
      young = omega (arith, r.young, base);
      bound = first_of (search rules, omega arith);
      room = λ e. absurd (cc);
      waits = omega arith;
      own = tt;
      numbered = tt;
      rests = λ e. absurd (cc);
      short = λ d. (let s = subst (λ (o : TheOwn). IsShort o.logs (o.base + length senders)) (sym c.own.view_is) r.short in s d);
      alive = i.alive;
      fit = subst (AllByRecursion Fits) (sym c.clear.ensures) tt;
    }
