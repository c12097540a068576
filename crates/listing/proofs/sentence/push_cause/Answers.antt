use Rattle.std.proofs.Common.{◌≡◌, ◌++◌, List, ℕ, ℤ, codes, string_bytes, subst, rules, OnOk}
use mir.Syntax.{w32, w64}
use mir.Val.{SFits}
use Rattle.std.proofs.lemmas.Int.{to_z-of_z}
use Rattle.std.specs.Fmt.{decimal, signed_decimal}
use Rattle.listing.proofs.sentence.push_cause.Goals as goal

pub returns-in-ShiftedBy : goal.returns-in-ShiftedBy
returns-in-ShiftedBy c =
    let q = c.in-ShiftedBy in
    let w = c.write-in-ShiftedBy in
    let fits : SFits w64 q.by = search rules in
    let said : ℤ → List ℕ = λ z. codes "r" ++ (decimal q.field-0.number ++ (codes " is moved by " ++ (signed_decimal z ++ codes ", out of the places from -32768 to 32767"))) in
    rw q.is (subst (λ z. OnOk w.result (string_bytes w.new.self ≡ string_bytes c.args.out.now ++ said z)) (to_z-of_z w64 q.by fits) w.ensures.bytes)

pub returns-in-NoHelper : goal.returns-in-NoHelper
returns-in-NoHelper c =
    let q = c.in-NoHelper in
    let w = c.write-in-NoHelper in
    let fits : SFits w32 q.helper = search rules in
    let said : ℤ → List ℕ = λ z. codes "form " ++ (decimal c.args.form ++ (codes " has no helper " ++ signed_decimal z)) in
    rw q.is (subst (λ z. OnOk w.result (string_bytes w.new.self ≡ string_bytes c.args.out.now ++ said z)) (to_z-of_z w32 q.helper fits) w.ensures.bytes)

pub returns-in-NoCount : goal.returns-in-NoCount
returns-in-NoCount c = rw c.in-NoCount.is c.write-in-NoCount.ensures.bytes

pub returns-in-NoPayload : goal.returns-in-NoPayload
returns-in-NoPayload c = rw c.in-NoPayload.is c.write-in-NoPayload.ensures.bytes

pub returns-in-NoSized : goal.returns-in-NoSized
returns-in-NoSized c = rw c.in-NoSized.is c.write-in-NoSized.ensures.bytes
