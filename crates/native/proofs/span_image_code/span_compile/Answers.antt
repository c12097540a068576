use Rattle.std.proofs.Common.{◌≡◌, ◌≤◌, length, ap, ◌∙◌, subst, arith}
use Rattle.decode.specs.Slots.{slots_of}
use Rattle.native.specs.declared.prologue.Opening.TheVariants as opening
use Rattle.native.specs.Written.{IsServed, IsWritten}
use Rattle.native.specs.SpanTasks.{tasks_in}
use Rattle.native.proofs.SpanNative.{span_native}
use Rattle.native.proofs.SpanTasks.{tasks_long}
use Rattle.native.proofs.span_image_code.span_compile.Goals as goal

pub returns-clause-native : goal.returns-clause-native
returns-clause-native c =
    let p = c.args.image.now in
    let slots = slots_of p.code in
    let code = c.in_ok-code.code.items in
    let len = c.state_len-state_len.ensures.value in
    let n : c.len-fits.result ≡ length code = c.len-fits.ensures ∙ c.in_ok-code.code.ok.0 in
    let laid = c.as_slice.ensures.value ∙ c.in_ok-slots.ensures.slots ∙ ap slots_of c.code-insns.ensures.value in
    let tasks =
    c.as_slice-2.ensures.value ∙ c.in_ok-tasks.ensures
    ∙ ap (λ l. tasks_in l c.state_len-state_len.result (length l)) laid
    ∙ ap (λ k. tasks_in slots k (length slots)) len in
    let small : p.len ≤ 1024 = subst (λ k. k ≤ 1024) len c.state_len-state_len.ensures.bound in
    span_native p.code p.len code c.code-insns.ensures.typable c.code-insns.ensures.fits c.code-insns.ensures.slots small (omega (arith, n, c.len-fits.type_inv)) (subst (λ ts. IsServed opening.Placed ts code) tasks c.in_ok-code.ensures)

pub returns-clause-one : goal.returns-clause-one
returns-clause-one c =
    let p = c.args.image.now in
    let slots = slots_of p.code in
    let code = c.in_ok-code.code.items in
    let laid = c.as_slice.ensures.value ∙ c.in_ok-slots.ensures.slots ∙ ap slots_of c.code-insns.ensures.value in
    let tasks =
    c.as_slice-2.ensures.value ∙ c.in_ok-tasks.ensures
    ∙ ap (λ l. tasks_in l c.state_len-state_len.result (length l)) laid
    ∙ ap (λ k. tasks_in slots k (length slots)) c.state_len-state_len.ensures.value in
    subst (λ ts. IsWritten opening.Placed ts code) tasks c.in_ok-code.ensures.written

pub write_tasks-requires : goal.write_tasks-requires
write_tasks-requires c =
    let p = c.args.image.now in
    let slots = slots_of p.code in
    let laid = c.as_slice.ensures.value ∙ c.in_ok-slots.ensures.slots ∙ ap slots_of c.code-insns.ensures.value in
    let tasks =
    c.as_slice-2.ensures.value ∙ c.in_ok-tasks.ensures
    ∙ ap (λ l. tasks_in l c.state_len-state_len.result (length l)) laid
    ∙ ap (λ k. tasks_in slots k (length slots)) c.state_len-state_len.ensures.value in
    let n = ap length tasks ∙ tasks_long slots p.len (length slots) in
    omega (arith, n, c.code-insns.ensures.slots)
