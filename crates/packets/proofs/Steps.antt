-- Steps of reading, whatever their faults are called.
use Rattle.std.proofs.Common.{◌≡◌, Bool, true, false, cond, Result, Ok, Err, refl, ap, inl, inr, ◌⊎◌}
use Rattle.packets.specs.declared.fault.PacketFault.{PacketFault}
use Rattle.packets.specs.Inside.Reader.{and_then, or_fault}

abbrev pub done : {F A : Type 0} → A → Result A F
done x = Ok x

abbrev pub broken : {F A : Type 0} → F → Result A F
broken f = Err f

-- a step gives one value
pub ok_is : {F A : Type 0} (x y : A) → done {F = F} x ≡ done y → x ≡ y
ok_is x y e = cc

-- a step fails with one fault
pub err_is : {F A : Type 0} (d f : F) → broken {A = A} d ≡ Err f → d ≡ f
err_is d f e = cc

-- a step that gave a value didn't fail
pub not_both : {F A : Type 0} (x : A) (f : F) → done x ≡ Err f → ⊥
not_both x f e = cc

-- the value of a step that did not fail
pub bind_ok : {F A B : Type 0} (r : Result A F) (f : A → Result B F) (y : B) → and_then r f ≡ Ok y → (x : A) × (r ≡ Ok x) × (f x ≡ Ok y)
bind_ok (Ok x) f y e = (x, refl, e)
bind_ok (Err d) f y e = absurd cc

-- where a step failed
pub bind_err : {F A B : Type 0} (r : Result A F) (k : A → Result B F) (f : F) → and_then r k ≡ Err f → (r ≡ Err f) ⊎ ((x : A) × (r ≡ Ok x) × (k x ≡ Err f))
bind_err {F} {A} {B} (Ok x) k f e = inr (x, refl, e)
bind_err {F} {A} {B} (Err d) k f e = inl (ap (λ (g : F). broken {A = A} g) (err_is {A = B} d f e))

-- a step whose faults are all called d
pub or_ok : {F A : Type 0} (d : F) (r : Result A PacketFault) (x : A) → or_fault d r ≡ Ok x → r ≡ Ok x
or_ok {F} {A} d (Ok y) x e = ap (λ (z : A). Ok z) (ok_is y x e)
or_ok d (Err f) x e = absurd cc

pub or_err : {F A : Type 0} (d : F) (r : Result A PacketFault) (f : F) → or_fault d r ≡ Err f → d ≡ f
or_err d (Ok y) f e = absurd cc
or_err {F} {A} d (Err g) f e = err_is {A = A} d f e

-- a test that did not fail
pub guard_ok : {F A : Type 0} (b : Bool) (d : F) (x y : A) → cond b (Err d) (Ok x) ≡ Ok y → (b ≡ false) × (x ≡ y)
guard_ok true d x y e = absurd cc
guard_ok false d x y e = (refl, cc)

-- a test that had to hold, and did
pub passed_ok : {F A : Type 0} (b : Bool) (d : F) (x y : A) → cond b (Ok x) (Err d) ≡ Ok y → (b ≡ true) × (x ≡ y)
passed_ok true d x y e = (refl, cc)
passed_ok false d x y e = absurd cc

-- a test that had to hold, and did not
pub passed_err : {F A : Type 0} (b : Bool) (d : F) (x : A) (f : F) → cond b (Ok x) (Err d) ≡ Err f → (b ≡ false) × (d ≡ f)
passed_err true d x f e = absurd cc
passed_err {F} {A} false d x f e = (refl, err_is {A = A} d f e)

-- a test that came before
pub passed : {F A : Type 0} (b : Bool) (d : F) (r : Result A F) (y : A) → cond b (Err d) r ≡ Ok y → (b ≡ false) × (r ≡ Ok y)
passed true d r y e = absurd cc
passed false d r y e = (refl, e)

-- where a test failed
pub cond_err : {F A : Type 0} (b : Bool) (d : F) (r : Result A F) (f : F) → cond b (Err d) r ≡ Err f → ((b ≡ true) × (d ≡ f)) ⊎ ((b ≡ false) × (r ≡ Err f))
cond_err {F} {A} true d r f e = inl (refl, err_is {A = A} d f e)
cond_err false d r f e = inr (refl, e)
