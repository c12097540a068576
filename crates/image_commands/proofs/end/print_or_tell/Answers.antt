use Rattle.std.proofs.Common.{◌≡◌, ◌⊎◌, ℕ, Bool, true, false, List, [], ◌∷◌, Option, inl, inr, refl, subst, sym}
use Rattle.std.specs.Prelude.{◌≢◌}
use Rattle.image_commands.specs.Fault.{status_of, Tells}
use Rattle.image_commands.specs.Ends.{HasFault, IsHalf}
use Rattle.image_commands.specs.declared.fault.Fault.{Fault}
use Rattle.image_commands.proofs.end.print_or_tell.Goals as goal

-- a fault that was told has left its status
status_told : (hints : Bool) (f : Fault) (deaf : Bool) (err err' : Option (List ℕ)) (status : ℕ) → Tells hints f deaf err err' status
    → (status ≡ status_of f) ⊎ (deaf ≡ true)
status_told false f deaf err err' status (inl told) = inl told.0
status_told false f deaf err err' status (inr failed) = inr failed.0
status_told true f deaf err err' status (hints, inl told) = inl told.0
status_told true f deaf err err' status (hints, inr failed) = inr failed.0

pub returns-in-Ok-show-2-clause-told : goal.returns-in-Ok-show-2-clause-told
returns-in-Ok-show-2-clause-told g c = λ other. record {
  fault = c.in-Err.fault;
  has = subst (λ r. HasFault r c.args.text.now (g.O.Stream.failed c.show-in-Err.new.out) c.in-Err.fault) (sym c.in-Err.is) (inl refl);
  told = c.tell.ensures.told;
}

-- of a text that was printed there is nothing, or some of it
printed_so : (text : List ℕ) (Same Failed Half : Type 0) → (text ≡ [] → Same) → (text ≢ [] → Half) → Same ⊎ (Failed ⊎ Half)
printed_so [] Same Failed Half none some = inl (none refl)
printed_so (x ∷ xs) Same Failed Half none some = inr (inr (some (λ is. cc)))

pub returns-in-Ok-show-2-clause-silent : goal.returns-in-Ok-show-2-clause-silent
returns-in-Ok-show-2-clause-silent g c = λ other.
    printed_so c.args.text.now (c.show-in-Err.new.out ≡ c.args.out.now) (g.O.Stream.failed c.show-in-Err.new.out ≡ true)
    (IsHalf c.args.ended c.args.text.now (g.E.Stream.failed c.tell.new.err) (g.O.Stream.contents c.args.out.now) (g.O.Stream.contents c.show-in-Err.new.out) c.tell.result)
    (λ none. (c.in-Ok-show-2.ensures.none none).1)
    (λ some. record {
      own = c.in-Err.fault;
      is = c.in-Err.is;
      status_is = status_told c.args.hints c.in-Err.fault (g.E.Stream.failed c.tell.new.err) (g.E.Stream.contents c.args.err.now)
          (g.E.Stream.contents c.tell.new.err) c.tell.result c.tell.ensures.told;
      some = some;
      printed = c.in-Ok-show-2.ensures.printed;
    })
