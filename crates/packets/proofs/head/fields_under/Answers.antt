use Rattle.std.proofs.Common.{◌≡◌, ◌-◌, ℕ, List, true, false, length, take, drop, eqb, refl, sym, ap, ◌∙◌}
use Rattle.std.specs.Prelude.{nat_lt, nat_eq, not}
use Rattle.std.specs.Cmp.Lexicographic.{pointwise}
use Rattle.std.proofs.lemmas.Bool.{le-ltb, eq-eqb}
use Rattle.byteorder.specs.Endian.{little_number}
use Rattle.packets.specs.Checksum.{crc32c}
use Rattle.packets.proofs.head.fields_under.Goals as goal

pub returns-clause-exact : goal.returns-clause-exact
returns-clause-exact g c =
    let b = c.args.bytes.now in
    let m = c.args.magic in
    let long : nat_lt (length b) c.args.least ≡ false = le-ltb _ _ c.if-bytes-least.false in
    let magical : not (pointwise nat_eq (take 4 b) m) ≡ false = ap (λ (x : List ℕ). not (pointwise nat_eq (take 4 b) x)) (sym c.as_slice.ensures) ∙ sym c.ne.ensures ∙ c.if-ne.false in
    let summed : eqb (little_number 4 (drop (length b - 4) b)) (crc32c (take (length b - 4) b)) ≡ true =
    eq-eqb _ _ (ap (λ (x : List ℕ). little_number 4 x) (sym c.split_at.ensures.back) ∙ sym c.read_u32.ensures ∙ c.if-read_u32-crc32c.false ∙ c.crc32c.ensures ∙ ap crc32c c.split_at.ensures.front) in
    rw (long, magical, summed) refl
