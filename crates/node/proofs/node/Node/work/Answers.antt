use Rattle.std.proofs.Common.{rules, ◌≡◌, ◌<◌, ◌+◌, ℕ, suc, List, [], ◌∷◌, ◌++◌, length, refl, ap, subst, ◌∙◌, arith, ◌≤◌, ◌*◌, ◌^◌, sym}
use Rattle.std.specs.Prelude.{Some, is_some, slice_get}
use Rattle.std.proofs.lemmas.Grind.{common_steps}
use Rattle.rsn.specs.Receipts.{Received, accepted}
use Rattle.node.specs.Queue.{TheQueue}
use Rattle.node.specs.declared.job.Given.{Given}
use Rattle.node.specs.Node.{TheNode, Within, HasSsn, IsPositive, OfPeer, given_to, log_at}
use Rattle.node.proofs.Logs.{length-push, given-length, given-room}
use Rattle.node.proofs.Counts.{from-more}
use Rattle.node.specs.declared.node.TheConstants.{MOST_GIVEN, MOST_RECEIVED}
use Rattle.node.specs.contracts.node.Node.{the_view}
use Rattle.node.proofs.Changes.{has-place}
use Rattle.packets.proofs.Sayable.{number-fits}
use Rattle.node.specs.Stands.{Owes, Handles}
use Rattle.node.proofs.Handover.{worked-so}
use Rattle.node.proofs.node.Node.work.Goals as goal

pub unlog-requires : goal.unlog-requires
unlog-requires c =
    let given = c.args.given.now in
    let number = c.self.inside.base + (c.length-behind.result + 1) in
    let logs : c.log.new.logs.items ≡ given_to number given c.self.inside.logs.items = c.in_ok-log.ensures.ok in
    let many : length c.log.new.logs.items ≡ length c.self.inside.logs.items = ap length logs ∙ given-length number given c.self.inside.logs.items in
    record { to = λ i s e. omega (arith, many, c.self.invariant.logs_wide, (c.requires.others i s e).0, ap (λ (n : TheNode). n.count) c.self.view_is) }

pub invariant_of-self-2 : goal.invariant_of-self-2
invariant_of-self-2 c =
    let i = c.self.invariant in
    let given = c.args.given.now in
    let old = c.self.inside in
    let job = c.in-Some.job in
    let number = old.base + (c.length-behind.result + 1) in
    let logs : c.log.new.logs.items ≡ given_to number given old.logs.items = c.in_ok-log.ensures.ok in
    let many : length c.log.new.logs.items ≡ length old.logs.items = ap length logs ∙ given-length number given old.logs.items in
    let receipts : c.accept.new.self ≡ accepted job.sender old.receipts = first_of (search rules, grind (arith, common_steps)) in
    let senders : c.accept.new.self.senders ≡ old.receipts.senders ++ job.sender ∷ [] = ap (λ (r : Received). r.senders) receipts in
    let one : length c.accept.new.self.senders ≡ suc (length old.receipts.senders) = ap (λ (r : Received). length r.senders) receipts ∙ length-push old.receipts.senders job.sender in
    let room = i.room (ap is_some c.in-Some.is) in
    let inside : (k : ℕ) (g : Given) → slice_get given k ≡ Some g → g.to < length old.logs.items = λ k g e. omega (arith, i.logs_wide, (c.requires.others k g e).0, ap (λ (n : TheNode). n.count) c.self.view_is) in
    record {
      allowed = i.allowed;
      inside = i.inside;
      within = i.within;
      few = i.few;
      wide = i.wide;
      heard_wide = i.heard_wide;
      resumed_wide = i.resumed_wide;
      logs_wide = many ∙ i.logs_wide;
      counts = i.counts;
      peers = rw senders (from-more old.me old.count old.base job.sender old.covered.items old.receipts.senders i.peers (subst (OfPeer old.me old.count) c.in-Some.is i.own));
      young = omega (arith, one, room.1);
      bound = omega (arith, one, room.0);
      room = λ e. absurd (cc);
      waits = omega (arith, one, i.waits);
      own = tt;
      rests = λ e. refl;
      short = λ d.
          let a = given-room number given old.logs.items d inside in
          let dropped = ap (λ (l : List TheQueue). (log_at l d).dropped) logs in
          let payloads = ap (λ (l : List TheQueue). length (log_at l d).payloads) logs in
          omega (arith, a, dropped, payloads, one, i.short d, c.requires.few);
      numbered = tt;
      alive = i.alive;
      fit = i.fit;
    }

room-for : (a b s : ℕ) → a + b ≤ MOST_GIVEN * s → s ≤ MOST_RECEIVED → a + b + MOST_GIVEN < 2 ^ 63
room-for a b s l m = omega arith

next-number : (base k n : ℕ) → k ≡ n → base + n ≤ MOST_RECEIVED → IsPositive (base + (k + 1))
next-number base k n f g = (omega arith, omega arith)

pub log-requires-clause-to : goal.log-requires-clause-to
log-requires-clause-to c = λ i s e. has-place c.self.inside.logs.items (the_view c.self.inside) c.args.self.now s.to c.self.invariant.logs_wide c.self.view_is (c.requires.others i s e).0

pub log-requires-clause-room : goal.log-requires-clause-room
log-requires-clause-room c = λ d.
    let i = c.self.invariant in
    let q = log_at c.self.inside.logs.items d in
    room-for q.dropped (length q.payloads) (c.self.inside.base + length c.self.inside.receipts.senders) (i.short d) i.young

pub invariant_of-self : goal.invariant_of-self
invariant_of-self c =
    let m : TheNode = the_view c.self.inside in
    subst (λ (ls : List TheQueue). Within (record m { logs = ls })) (sym c.in_err-log.ensures.err) c.self.invariant

pub put-requires : goal.put-requires
put-requires c =
    let i = c.self.invariant in
    let own = c.self.inside in
    let number = next-number own.base c.length-behind.result (length own.receipts.senders) c.length-behind.ensures.value i.young in
    let fits = number-fits own.life c.in-Some.job.ssn (own.base + (c.length-behind.result + 1)) i.alive (subst HasSsn c.in-Some.is i.numbered) number in
    record { peer = subst (OfPeer own.me own.count) c.in-Some.is i.own; room = fits.0; range = fits.1 }

pub returns-in_default-clause-value : goal.returns-in_default-clause-value
returns-in_default-clause-value c = first_of (search rules, grind (arith, common_steps))

pub returns-in_default-clause-acts : goal.returns-in_default-clause-acts
returns-in_default-clause-acts c =
    let old = c.args.self.now in
    let P : TheNode → Type 0 = λ v. Owes (Handles c.args.state.items c.args.given.now old) old v in
    subst P (sym (returns-in_default-clause-value c)) (worked-so old c.args.state.items c.args.given.now (subst Within c.self.view_is c.self.invariant) c.requires)

pub returns-clause-value : goal.returns-clause-value
returns-clause-value c = first_of (search rules, grind (arith, common_steps))

pub returns-clause-acts : goal.returns-clause-acts
returns-clause-acts c =
    let old = c.args.self.now in
    let P : TheNode → Type 0 = λ v. Owes (Handles c.args.state.items c.args.given.now old) old v in
    subst P (sym (returns-clause-value c)) (worked-so old c.args.state.items c.args.given.now (subst Within c.self.view_is c.self.invariant) c.requires)
