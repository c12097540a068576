use Rattle.std.proofs.Common.{◌≡◌, ◌≤◌, false, ℕ, sym, ◌∙◌, ap, arith, slice_index_or}
use Rattle.std.specs.Prelude.{Some, None, option_copied}
use Rattle.limits.specs.declared.TheConstants.{PACKETS}
use Rattle.session_process.specs.Wire.{AreListed}
use Rattle.machine.specs.Simulation.{TheMachine}
use Rattle.world.specs.Useful.{belongs}
use Rattle.machine.proofs.Picks.{wire-has, wire-lacks, up-more, not-some}
use Rattle.machine.proofs.machine.Machine.is_on_wire.Goals as goal
use Rattle.machine.proofs.machine.Machine.is_on_wire.Goals.{in-Some+else-belongs, in_default}

pub loop-key-preserved : goal.loop-key-preserved
loop-key-preserved c =
    let m = c.args.self.now in
    let items = c.keys-key-items.result.now in
    let key = slice_index_or items c.loop-key.key-index 0 in
    let got : slice_index_or m.slots key None ≡ option_copied c.peek.result = ap (λ (v : TheMachine). slice_index_or v.slots key None) (sym c.self.view_is) ∙ sym c.peek.ensures in
    λ w s. up-more (λ k. belongs w c.args.from c.args.to c.args.ssn (w.wire (slice_index_or items k 0)) ≡ false) c.loop-key.key-index
    (elim c.match-peek.branch [
      | in-Some+else-belongs v ↦ ap (belongs w c.args.from c.args.to c.args.ssn) (s.shows.wire key ∙ got ∙ ap option_copied v.in-Some.is) ∙ sym (v.belongs.ensures w s) ∙ v.if-belongs.false
      | in_default v ↦ ap (belongs w c.args.from c.args.to c.args.ssn) (s.shows.wire key ∙ got ∙ ap option_copied (not-some c.peek.result v.in_default.not-Some))
    ])
    (c.loop-key.invariant w s)

pub returns-then-belongs : goal.returns-then-belongs
returns-then-belongs c =
    let m = c.args.self.now in
    let keys : (key : ℕ) → PACKETS ≤ key → slice_index_or m.slots key None ≡ None = rw (← c.self.view_is) c.self.invariant.keys in
    let key = slice_index_or c.keys-key-items.result.now c.loop-key.key-index 0 in
    let found : slice_index_or m.slots key None ≡ Some c.in-Some.packet.now = ap (λ (v : TheMachine). slice_index_or v.slots key None) (sym c.self.view_is) ∙ sym c.peek.ensures ∙ ap option_copied c.in-Some.is in
    λ w s. sym (wire-has m w c.args.from c.args.to c.args.ssn key c.in-Some.packet.now s keys found (sym (c.belongs.ensures w s) ∙ c.if-belongs.true))

pub returns : goal.returns
returns c =
    let m = c.args.self.now in
    let listed : AreListed m.slots c.keys-key-items.result.now = rw (← c.self.view_is) c.keys-key-items.ensures in
    λ w s. sym (wire-lacks m w c.args.from c.args.to c.args.ssn c.keys-key-items.result.now s listed (λ k h. c.loop-key.invariant w s k (omega (arith, h, c.loop-key-test.false))))
