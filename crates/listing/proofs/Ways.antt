-- Where an instruction leads.
use Rattle.std.proofs.Common.{◌≡◌, ◌∙◌, ℕ, zero, suc, ◌+◌, ◌<◌, ℤ, pos, List, length, refl, sym, ap, subst, inl, inr, arith}
use Rattle.std.specs.Prelude.{Some, slice_index_or}
use Rattle.std.specs.List.{Contains}
use Rattle.decode.specs.declared.insn.Insn.{Insn}
use Rattle.decode.specs.Slots.{insn_at}
use Rattle.decode.specs.declared.flow.Flow.{Flow}
use Rattle.decode.specs.declared.flow.Flow.TheVariants.{Ends, Leaps, Forks, Falls}
use Rattle.regtypes.specs.declared.frame.Frame.{Frame}
use Rattle.regtypes.specs.declared.frame.Kind.{Kind}
use Rattle.decode.specs.Flow.{flow_of}
use Rattle.regtypes.specs.Exits.{exits_by}
use Rattle.regtypes.specs.Frame.{kind_at}
use Rattle.regtypes.specs.Ways.{after, next, taken}
use Rattle.listing.specs.Study.{flat_at}
use Rattle.listing.specs.declared.study.Study.{Study}
use Rattle.listing.specs.Inside.Arrives.{LeadsTo}
use Rattle.listing.specs.Why.{Leaves, Passes}

at_slot : (p q : ℕ) → pos p ≡ pos q → p ≡ q
at_slot p q same = cc

-- a slot to which an instruction leads is an exit, and the registers are the same on both ways
is_exit : (p t : ℕ) (fl : Flow) (nx tk : Frame) → nx.kinds ≡ tk.kinds → LeadsTo fl p t → (g : Frame) × Contains (exits_by p fl nx tk) (pos t, g) × (g.kinds ≡ nx.kinds)
is_exit p t Ends nx tk same to = absurd to
is_exit p t (Leaps d) nx tk same to = (tk, (0, omega arith, ap (λ (z : ℤ). (z, tk)) to), sym same)
is_exit p t (Forks d) nx tk same (inl to) = (tk, (0, omega arith, ap (λ (z : ℤ). (z, tk)) to), sym same)
is_exit p t (Forks d) nx tk same (inr to) = (nx, (1, omega arith, ap (λ (k : ℕ). (pos k, nx)) (sym to)), refl)
is_exit p t (Falls n) nx tk same to = (nx, (0, omega arith, ap (λ (k : ℕ). (pos k, nx)) (sym to)), refl)

-- an exit is a slot to which an instruction leads
exit_at : (p t : ℕ) (fl : Flow) (nx tk g : Frame) → nx.kinds ≡ tk.kinds → (k : ℕ) → k < length (exits_by p fl nx tk) → slice_index_or (exits_by p fl nx tk) k (pos t, g) ≡ (pos t, g)
    → LeadsTo fl p t × (g.kinds ≡ nx.kinds)
exit_at p t Ends nx tk g same k within is = absurd (omega (arith, within))
exit_at p t (Leaps d) nx tk g same zero within is = (ap (λ (x : ℤ × Frame). x.0) is, sym (same ∙ ap (λ (x : ℤ × Frame). x.1.kinds) is))
exit_at p t (Leaps d) nx tk g same (suc k) within is = absurd (omega (arith, within))
exit_at p t (Forks d) nx tk g same zero within is = (inl (ap (λ (x : ℤ × Frame). x.0) is), sym (same ∙ ap (λ (x : ℤ × Frame). x.1.kinds) is))
exit_at p t (Forks d) nx tk g same (suc zero) within is = (inr (sym (at_slot (p + 1) t (ap (λ (x : ℤ × Frame). x.0) is))), sym (ap (λ (x : ℤ × Frame). x.1.kinds) is))
exit_at p t (Forks d) nx tk g same (suc (suc k)) within is = absurd (omega (arith, within))
exit_at p t (Falls n) nx tk g same zero within is = (sym (at_slot (p + n) t (ap (λ (x : ℤ × Frame). x.0) is)), sym (ap (λ (x : ℤ × Frame). x.1.kinds) is))
exit_at p t (Falls n) nx tk g same (suc k) within is = absurd (omega (arith, within))

-- what an instruction leaves at the slot to which it leads
pub leaves : (s : Study) (r p t : ℕ) (i : Insn) (f : Frame) → insn_at s.slots.items p ≡ Some i → flat_at s.table p ≡ Some f → LeadsTo (flow_of i) p t
    → Leaves s r p t (kind_at (after i f.kinds) r)
leaves s r p t i f begins there to =
    let exit = is_exit p t (flow_of i) (next i f) (taken i f) refl to in
    record { insn = i; begins = begins; frame = f; there = there; left = exit.0; leads = exit.1; kind = ap (λ (ks : List Kind). kind_at ks r) (sym exit.2) }

-- and that it leads to wherever something passes on
pub passes : (s : Study) (r p t : ℕ) (k : Kind) (i : Insn) (f : Frame) → insn_at s.slots.items p ≡ Some i → flat_at s.table p ≡ Some f → Passes s r p t k
    → LeadsTo (flow_of i) p t × (k ≡ kind_at (after i f.kinds) r)
passes s r p t k i f begins there passed =
    let one = passed.leaves in
    let insn : one.insn ≡ i = let both : Some one.insn ≡ Some i = sym one.begins ∙ begins in cc in
    let frame : one.frame ≡ f = let both : Some one.frame ≡ Some f = sym one.there ∙ there in cc in
    let found = exit_at p t (flow_of one.insn) (next one.insn one.frame) (taken one.insn one.frame) one.left refl one.leads.0 one.leads.1 one.leads.2 in
    let kind : k ≡ kind_at (after one.insn one.frame.kinds) r = one.kind ∙ ap (λ (ks : List Kind). kind_at ks r) found.1 in (
      subst (λ (x : Insn). LeadsTo (flow_of x) p t) insn found.0,
      kind ∙ ap (λ (x : Insn). kind_at (after x one.frame.kinds) r) insn ∙ ap (λ (g : Frame). kind_at (after i g.kinds) r) frame,
    )
