-- Boxes of the heap, and what the functions of a handle take
use mir.Syntax.{impl, tnil, dnil}
use mathlib.Core.List.{[]}
use denote.RattleType.{RattleType}
use denote.Param.Laws.{Laws}
use denote.Signature.{Slot, plain}
use Rattle.std_alloc.proofs.BoxSteps.Form.{Bx}
use Rattle.std_heap.specs.contracts.Global as Heap
use Rattle.std_heap.specs.contracts.GlobalAllocator.TheImpl.{ghosts, dict}
use Rattle.std_heap.proofs.Global.TheLaws as heap
use Rattle.c_handles.specs.contracts.loose.Loose as Loose

-- a box of the heap, by the row of its value
abbrev pub on_heap : (R : RattleType) → Laws R → Bx
on_heap R L = record { row = R; laws = L; al = record { row = Heap.the_row; laws = heap.the_row_laws; g = ghosts; d = dict; drops = impl [] tnil dnil } }

-- a parameter that is the heap
abbrev pub FromHeap : Slot 0
FromHeap = plain (λ _. Heap.the_row)

-- a parameter that is such a box as a pointer
abbrev pub FromLoose : Bx → Slot 0
FromLoose E = plain (λ _. Loose.the_row E.row Heap.the_row ghosts)
