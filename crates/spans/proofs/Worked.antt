-- A typed handler that keeps a place in a word of the stack, adds a byte of the message to it, and stores through it.
use Rattle.std.proofs.Common.{◌≡◌, ℕ, zero, suc, Some, None, pos, negsuc, refl, subst, arith}
use Rattle.std.proofs.lemmas.Int.{ints}
use Rattle.decode.specs.declared.insn.Reg.{Reg}
use Rattle.decode.specs.declared.insn.Size.TheVariants as size
use Rattle.decode.specs.declared.insn.AluOp.TheVariants as alu
use Rattle.decode.specs.declared.insn.Width.TheVariants.{W64}
use Rattle.decode.specs.declared.insn.Operand.TheVariants as operand
use Rattle.decode.specs.declared.insn.Insn.{Insn}
use Rattle.decode.specs.declared.insn.Insn.TheVariants.{Alu, Load, StoreReg, Exit}
use Rattle.regtypes.specs.declared.frame.Region.TheVariants.{State}
use Rattle.spans.specs.Span.{whole}
use Rattle.spans.specs.declared.kind.SpanKind.TheVariants.{Num, Place}
use Rattle.spans.specs.Frame.{Frame, IsFrame, IsKind, at_place, entry_frame, with_kind}
use Rattle.spans.specs.Typing.{Code, IsAllowed, Table}
use Rattle.spans.specs.Worked.{IsSpillingTyped}
use Rattle.spans.proofs.Order.{Leq-refl}
use Rattle.spans.proofs.Entry.{entered}
use Rattle.spans.proofs.Closed.{with_kind-is}

abbrev r0 : Reg
r0 = record { number = 0; in_range = omega arith }

abbrev r1 : Reg
r1 = record { number = 1; in_range = omega arith }

abbrev r2 : Reg
r2 = record { number = 2; in_range = omega arith }

abbrev r4 : Reg
r4 = record { number = 4; in_range = omega arith }

abbrev r10 : Reg
r10 = record { number = 10; in_range = omega arith }

abbrev i0 : Insn
i0 = StoreReg size.Double r10 r2 (negsuc 7)

abbrev i1 : Insn
i1 = Load size.Byte r0 r1 (pos 0)

abbrev i2 : Insn
i2 = Load size.Double r4 r10 (negsuc 7)

abbrev i3 : Insn
i3 = Alu alu.Add W64 r4 (operand.Reg r0)

abbrev i4 : Insn
i4 = StoreReg size.Byte r4 r0 (pos 0)

abbrev code : Code
code zero = Some i0
code (suc zero) = Some i1
code (suc (suc zero)) = Some i2
code (suc (suc (suc zero))) = Some i3
code (suc (suc (suc (suc zero)))) = Some i4
code (suc (suc (suc (suc (suc zero))))) = Some Exit
code (suc (suc (suc (suc (suc (suc n)))))) = None

abbrev f1 : Frame
f1 = with_kind entry_frame 74 (Place State (at_place (pos 0)))

abbrev f2 : Frame
f2 = with_kind f1 0 (Num (whole 8))

abbrev f3 : Frame
f3 = with_kind f2 4 (Place State (at_place (pos 0)))

abbrev f4 : Frame
f4 = with_kind f3 4 (Place State (record { lo = pos 0; hi = pos 255 }))

abbrev table : Table
table zero = Some entry_frame
table (suc zero) = Some f1
table (suc (suc zero)) = Some f2
table (suc (suc (suc zero))) = Some f3
table (suc (suc (suc (suc zero)))) = Some f4
table (suc (suc (suc (suc (suc zero))))) = Some f4
table (suc (suc (suc (suc (suc (suc n)))))) = None

place-is : IsKind (Place State (at_place (pos 0)))
place-is = grind (arith, ints)

places-is : IsKind (Place State (record { lo = pos 0; hi = pos 255 }))
places-is = grind (arith, ints)

is1 : IsFrame f1
is1 = with_kind-is entry_frame 74 (Place State (at_place (pos 0))) entered.0 place-is

is2 : IsFrame f2
is2 = with_kind-is f1 0 (Num (whole 8)) is1 (record { some = omega arith; words = omega arith })

is3 : IsFrame f3
is3 = with_kind-is f2 4 (Place State (at_place (pos 0))) is2 place-is

is4 : IsFrame f4
is4 = with_kind-is f3 4 (Place State (record { lo = pos 0; hi = pos 255 })) is3 places-is

at0 : IsAllowed 256 6 code table 0 entry_frame
at0 = record { insn = i0; ways = (Some f1, None); there = refl; before = omega arith; later = grind (arith, ints); frame = entered.0; leaves = ((refl, refl), refl); goes = (f1, refl, Leq-refl f1); leaps = tt }

at1 : IsAllowed 256 6 code table 1 f1
at1 = record { insn = i1; ways = (Some f2, None); there = refl; before = omega arith; later = grind (arith, ints); frame = is1; leaves = (refl, refl); goes = (f2, refl, Leq-refl f2); leaps = tt }

at2 : IsAllowed 256 6 code table 2 f2
at2 = record { insn = i2; ways = (Some f3, None); there = refl; before = omega arith; later = grind (arith, ints); frame = is2; leaves = ((refl, refl), refl); goes = (f3, refl, Leq-refl f3); leaps = tt }

at3 : IsAllowed 256 6 code table 3 f3
at3 = record { insn = i3; ways = (Some f4, None); there = refl; before = omega arith; later = grind (arith, ints); frame = is3; leaves = (Place State (record { lo = pos 0; hi = pos 255 }), refl, refl); goes = (f4, refl, Leq-refl f4); leaps = tt }

at4 : IsAllowed 256 6 code table 4 f4
at4 = record { insn = i4; ways = (Some f4, None); there = refl; before = omega arith; later = grind (arith, ints); frame = is4; leaves = ((refl, refl), refl); goes = (f4, refl, Leq-refl f4); leaps = tt }

at5 : IsAllowed 256 6 code table 5 f4
at5 = record { insn = Exit; ways = (None, None); there = refl; before = omega arith; later = grind (arith, ints); frame = is4; leaves = (refl, refl); goes = tt; leaps = tt }

equal : (f g : Frame) → Some f ≡ Some g → f ≡ g
equal f g e = cc

each : (s : ℕ) (f : Frame) → table s ≡ Some f → IsAllowed 256 6 code table s f
each zero f e = subst (IsAllowed 256 6 code table 0) (equal entry_frame f e) at0
each (suc zero) f e = subst (IsAllowed 256 6 code table 1) (equal f1 f e) at1
each (suc (suc zero)) f e = subst (IsAllowed 256 6 code table 2) (equal f2 f e) at2
each (suc (suc (suc zero))) f e = subst (IsAllowed 256 6 code table 3) (equal f3 f e) at3
each (suc (suc (suc (suc zero)))) f e = subst (IsAllowed 256 6 code table 4) (equal f4 f e) at4
each (suc (suc (suc (suc (suc zero))))) f e = subst (IsAllowed 256 6 code table 5) (equal f4 f e) at5
each (suc (suc (suc (suc (suc (suc n)))))) f e = cc

pub spilling-typed : IsSpillingTyped
spilling-typed = (code, (record { r0 = r0; r1 = r1; r2 = r2; r4 = r4; r10 = r10; numbers = (refl, refl, refl, refl, refl); spills = refl; reads = refl; takes_back = refl; adds = refl; stores = refl; ends = refl }, (table, record { start = (entry_frame, refl, Leq-refl entry_frame); each = each })))
