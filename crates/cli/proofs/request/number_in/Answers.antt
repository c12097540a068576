use Rattle.std.proofs.Common.{arith, subst, sym}
use Rattle.std.specs.Str.Parse.{ExplainsUnsignedError, HasUnsignedDigitsIfOk, ParsesUnsigned}
use Rattle.clap.specs.Words.{found_of, rows_of}
use Rattle.cli.specs.Asks.{Gives, HasNumber}
use Rattle.cli.proofs.RequestLemmas.{no_number, number_read, other_number}
use Rattle.cli.proofs.request.number_in.Goals as goal
use Rattle.cli.proofs.request.number_in.Goals.{else-low-number-via-then-low-number+else-number-high, else-low-number-via-else-low-number}

pub returns-in_err-number : goal.returns-in_err-number
returns-in_err-number c =
    subst (Gives (HasNumber c.args.id.now c.args.low c.args.high (rows_of (found_of c.args.matches.now)))) (sym c.from_residual.ensures)
    (no_number (λ t x. ParsesUnsigned 64 10 t x × ExplainsUnsignedError 10 t x × HasUnsignedDigitsIfOk t x)
    c.args.matches.now c.args.id.now c.args.low c.args.high (λ t x g. g.0) (omega (arith, c.ranges.high.fits)) c.in_err-number.ensures.value)

pub returns-then-number-high : goal.returns-then-number-high
returns-then-number-high c =
    number_read (λ t x. ParsesUnsigned 64 10 t x × ExplainsUnsignedError 10 t x × HasUnsignedDigitsIfOk t x)
    c.args.matches.now c.args.id.now c.args.low c.args.high (λ t x g. g.0) c.in_ok-number.number c.in_ok-number.ensures.none c.in_ok-number.ensures.value
    c.if-low-number.true c.if-number-high.true

pub returns-else-low-number : goal.returns-else-low-number
returns-else-low-number c =
    other_number (λ t x. ParsesUnsigned 64 10 t x × ExplainsUnsignedError 10 t x × HasUnsignedDigitsIfOk t x)
    c.args.matches.now c.args.id.now c.args.low c.args.high (λ t x g. g.0) c.in_ok-number.number c.in_ok-number.ensures.value
    (λ least most. elim c.else-low-number.branch [
      | else-low-number-via-then-low-number+else-number-high w ↦ omega (arith, most, w.if-number-high.false)
      | else-low-number-via-else-low-number w ↦ omega (arith, least, w.if-low-number.false)
    ])
