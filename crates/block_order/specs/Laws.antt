-- Why code in another order does the same, and so does the code of its file.
use Rattle.std.specs.Prelude.{◌≡◌, ℕ, ◌+◌, ◌≤◌, List}
use Rattle.decode.specs.declared.insn.Insn.{Insn}
use Rattle.verifier.specs.declared.file_form.FileForm.{FileForm}
use Rattle.spans.specs.Configuration.{Configuration}
use Rattle.spans.specs.Calls.{Last, Ended, Failed, Tired, Replies, Request, call_from}
use Rattle.block_order.specs.Placement.{IsPlacement, Places}
use Rattle.block_order.specs.Order.{code_of}
use Rattle.block_order.specs.Ordered.{Stands}
use Rattle.block_order.specs.declared.blocks.Blocks.{Blocks}

-- if the first call ends, the second does, within the steps that the bound gives for the first one's, with the same r0,
-- the same requests and the same registers and memory; and if the first fails, the second fails
abbrev pub EndsAs : (ℕ → ℕ) → Last → Last → Type 0
EndsAs within (Ended k r q c) (Ended j x p d) = (j ≤ within k) × (r ≡ x) × (q ≡ p) × (c ≡ d)
EndsAs within (Ended k r q c) Failed = ⊥
EndsAs within (Ended k r q c) Tired = ⊥
EndsAs within Failed Failed = Unit {0}
EndsAs within Failed (Ended k r q c) = ⊥
EndsAs within Failed Tired = ⊥
EndsAs within Tired l = Unit {0}

-- calls of code and of other code that has its instructions at other slots, from slot 0 with any registers, memory and
-- requests: each ends or fails if the other does, and the other takes at most twice as many steps
abbrev pub AreMovedRunsKept : Type 0
AreMovedRunsKept =
    (code other : List Insn) (at : Places) (state n : ℕ) (reply : Replies) (c : Configuration) (q : List Request)
    → IsPlacement (code_of code) (code_of other) at
    → EndsAs (λ k. k + k) (call_from state (code_of code) reply n 0 c q) (call_from state (code_of other) reply (n + n) 0 c q)
    × EndsAs (λ k. k) (call_from state (code_of other) reply n 0 c q) (call_from state (code_of code) reply n 0 c q)

-- the same for calls of code and of what is written of it
abbrev pub AreRunsKept : Type 0
AreRunsKept =
    (form : FileForm) (code written : List Insn)
    (state : ℕ) (blocks : Blocks) (n : ℕ) (reply : Replies) (c : Configuration) (q : List Request)
    → Stands form code state written blocks
    → EndsAs (λ k. k + k) (call_from state (code_of code) reply n 0 c q) (call_from state (code_of written) reply (n + n) 0 c q)
    × EndsAs (λ k. k) (call_from state (code_of written) reply n 0 c q) (call_from state (code_of code) reply n 0 c q)
