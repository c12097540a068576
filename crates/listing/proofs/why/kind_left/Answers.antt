use Rattle.std.proofs.Common.{rules, ◌≡◌, ◌∙◌, ap, sym, subst}
use Rattle.std.specs.Prelude.{Some, IsTrue}
use Rattle.decode.specs.Slots.{insn_at}
use Rattle.decode.specs.declared.flow.Flow.{Flow}
use Rattle.regtypes.specs.declared.frame.Frame.{Frame}
use Rattle.regtypes.specs.declared.frame.Kind.{Kind}
use Rattle.decode.specs.Flow.{flow_of}
use Rattle.regtypes.specs.Frame.{kind_at}
use Rattle.regtypes.specs.Ways.{after}
use Rattle.listing.specs.Study.{flat_at}
use Rattle.listing.specs.Inside.Arrives.{LeadsTo}
use Rattle.listing.specs.Why.{Leaves}
use Rattle.listing.proofs.Ways.{leaves, passes}
use Rattle.listing.proofs.why.kind_left.Goals as goal

pub returns-clause-left : goal.returns-clause-left
returns-clause-left c =
    let s = c.args.study.now in
    let r = c.args.reg.number in
    let i = c.in_ok-insn.insn in
    let f = c.in_ok-frame.frame in
    let begins : insn_at s.slots.items c.args.from ≡ Some i = search rules in
    let there : flat_at s.table c.args.from ≡ Some f = search rules in
    let led : IsTrue c.leads.result = search rules in
    let to : LeadsTo (flow_of i) c.args.from c.args.to = subst (λ (x : Flow). LeadsTo x c.args.from c.args.to) c.flow_from.ensures (c.leads.ensures.0 led) in
    let kind : c.kind.result ≡ kind_at (after i f.kinds) r = c.kind.ensures ∙ ap (λ (g : Frame). kind_at g.kinds r) c.in-Ok.ensures.1 in
    subst (λ (k : Kind). Leaves s r c.args.from c.args.to k) (sym kind) (leaves s r c.args.from c.args.to i f begins there to)

pub returns-clause-each : goal.returns-clause-each
returns-clause-each c = λ k passed.
    let s = c.args.study.now in
    let r = c.args.reg.number in
    let i = c.in_ok-insn.insn in
    let f = c.in_ok-frame.frame in
    let begins : insn_at s.slots.items c.args.from ≡ Some i = search rules in
    let there : flat_at s.table c.args.from ≡ Some f = search rules in
    let kind : c.kind.result ≡ kind_at (after i f.kinds) r = c.kind.ensures ∙ ap (λ (g : Frame). kind_at g.kinds r) c.in-Ok.ensures.1 in
    ap Some (kind ∙ sym (passes s r c.args.from c.args.to k i f begins there passed).1)
