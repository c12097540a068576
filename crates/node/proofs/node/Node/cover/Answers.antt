use Rattle.std.proofs.Common.{◌≡◌, [], length, slice_index_or, ap, ◌∙◌, arith}
use Rattle.rsn.specs.Receipts.{Received}
use Rattle.rsn.proofs.ReceiptLemmas.{numbers_from-bound}
use Rattle.node.specs.Checkpoints.{counts_from}
use Rattle.node.proofs.Freezes.{counts-length, counts-within}
use Rattle.node.proofs.Counts.{counted-all}
use Rattle.node.proofs.node.Node.cover.Goals as goal

pub count-requires-clause-room : goal.count-requires-clause-room
count-requires-clause-room c = λ q.
    let i = c.self.invariant in
    omega (arith, i.counts q, i.young, i.bound, numbers_from-bound q 0 c.self.inside.receipts.senders)

pub invariant_of-self : goal.invariant_of-self
invariant_of-self c =
    let i = c.self.invariant in
    let old = c.self.inside in
    let counts : c.count.new.covered.items ≡ counts_from 0 old.receipts old.covered.items = c.count.ensures in
    let none : length c.args.none.senders ≡ 0 = ap (λ (r : Received). length r.senders) c.requires in
    let senders : c.args.none.senders ≡ [] = ap (λ (r : Received). r.senders) c.requires in
    let many : c.length-received.result ≡ length old.receipts.senders = c.length-received.ensures.value in
    record {
      allowed = i.allowed;
      inside = i.inside;
      within = i.within;
      few = i.few;
      wide = ap length counts ∙ counts-length 0 old.receipts old.covered.items ∙ i.wide;
      heard_wide = i.heard_wide;
      resumed_wide = i.resumed_wide;
      logs_wide = i.logs_wide;
      counts = λ q. omega (arith, ap (λ ks. slice_index_or ks q 0) counts, counts-within old.base old.covered.items old.receipts q i.counts, many);
      peers = rw (counts, many, senders) (counted-all old.me old.count old.base old.covered.items old.receipts i.wide i.within i.peers);
      young = omega (arith, none, many, i.young);
      bound = omega (arith, none);
      room = λ e. (let r = i.room e in (omega (arith, none), omega (arith, none, many, r.1)));
      waits = omega arith;
      own = i.own;
      rests = λ e. absurd (cc);
      short = λ d. omega (arith, none, many, i.short d);
      numbered = i.numbered;
      alive = i.alive;
      fit = i.fit;
    }
