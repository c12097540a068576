use Rattle.std.proofs.Common.{◌≡◌, ◌≢◌, sym, ap, ◌∙◌}
use Rattle.std.proofs.lemmas.List.{length-set, get_or-set_other}
use Rattle.packets.specs.Packet.{is_lost}
use Rattle.recovery.specs.Own.{learns}
use Rattle.recovery.specs.Collected.{TheCollected, none_told}
use Rattle.recovery.specs.Collection.{TheCollecting}
use Rattle.recovery.proofs.collection.Collecting.add.Goals as goal

pub invariant_of-self-2 : goal.invariant_of-self-2
invariant_of-self-2 c =
    let i = c.self.invariant in
    let old = c.self.inside in
    let from = c.args.from in
    let told = old.told.items in
    let own : c.learn.new.self ≡ learns from c.args.teller c.args.flags old.own = c.learn.ensures in
    let apart : old.own.me ≢ from = λ e. c.requires.peer.1 (sym e ∙ ap (λ (z : TheCollecting). z.own.me) c.self.view_is) in
    rw own (record {
      wide = length-set told from c.add.new.self ∙ i.wide;
      heard_wide = length-set old.own.heard from c.args.teller ∙ i.heard_wide;
      lost_wide = length-set old.own.lost from (is_lost c.args.flags) ∙ i.lost_wide;
      short = i.short;
      alone = ap (λ (t : TheCollected). t.entries) (get_or-set_other told from old.own.me c.add.new.self (none_told 0) apart) ∙ i.alone;
    })
