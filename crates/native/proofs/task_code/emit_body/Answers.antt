use Rattle.std.proofs.Common.{[], ◌∷◌, refl, sym, subst}
use Rattle.std.proofs.lemmas.List.{append-nil}
use Rattle.native.specs.Code.{IsBody}
use Rattle.native.proofs.Emitted.{where_ok}
use Rattle.native.proofs.task_code.emit_body.Goals as goal

pub returns-in-Empty : goal.returns-in-Empty
returns-in-Empty c = ([], subst (λ b. IsBody b []) (sym c.in-Empty.is) refl, sym (append-nil c.args.code.now.items))

pub returns-in-One : goal.returns-in-One
returns-in-One c =
    let is = c.in-One.i ∷ [] in
    where_ok c.write_one.result c.write_one.ensures (λ e. (is, subst (λ b. IsBody b is) (sym c.in-One.is) refl, e))

pub returns-in-Two : goal.returns-in-Two
returns-in-Two c =
    let is = c.in-Two.i ∷ c.in-Two.j ∷ [] in
    where_ok c.write_two.result c.write_two.ensures (λ e. (is, subst (λ b. IsBody b is) (sym c.in-Two.is) refl, e))

pub returns-in-Three : goal.returns-in-Three
returns-in-Three c =
    let is = c.in-Three.i ∷ c.in-Three.j ∷ c.in-Three.k ∷ [] in
    where_ok c.write_three.result c.write_three.ensures (λ e. (is, subst (λ b. IsBody b is) (sym c.in-Three.is) refl, e))
