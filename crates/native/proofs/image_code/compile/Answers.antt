use Rattle.std.proofs.Common.{◌≡◌, length, ◌∙◌, subst, arith}
use Rattle.native.specs.declared.prologue.Opening.TheVariants as opening
use Rattle.native.specs.Written.{IsServed, IsWritten}
use Rattle.native.proofs.Native.{native}
use Rattle.native.proofs.image_code.compile.Goals as goal

pub returns-clause-native : goal.returns-clause-native
returns-clause-native c =
    let b = c.begin-begin.ensures in
    let p = c.args.image.now in
    let tasks = c.in_ok-tasks.tasks.items in
    let code = c.in_ok-code.code.items in
    let n : c.len-fits.result ≡ length code = c.len-fits.ensures ∙ c.in_ok-code.code.ok.0 in
    let served : IsServed opening.Bare tasks code = subst (λ ts. IsServed opening.Bare ts code) c.as_slice.ensures.value c.in_ok-code.ensures in
    native p.form p.slots p.code p.table p.len p.low c.operations.result.0.now c.operations.result.1.now tasks code b.slots b.fits c.kinds_at-frame.ensures.typing b.short b.state c.operations.ensures.dense c.operations.ensures.sparing b.from b.to c.in_ok-tasks.ensures.long c.in_ok-tasks.ensures.told (omega (arith, n, c.len-fits.type_inv)) served

pub returns-clause-one : goal.returns-clause-one
returns-clause-one c =
    let p = c.args.image.now in
    let code = c.in_ok-code.code.items in
    record {
      table = p.table;
      least = c.kinds_at-frame.ensures.typing;
      written = subst (λ ts. IsWritten opening.Bare ts code) (c.as_slice.ensures.value ∙ c.in_ok-tasks.ensures.value) c.in_ok-code.ensures.written;
    }
