use Rattle.std.proofs.Common.{ℕ, List, inl, inr, map, string_bytes, subst}
use Rattle.std.specs.Io.KnownBytes.{Appends}
use Rattle.image_commands.specs.Hints.{AreHints}
use Rattle.image_commands.specs.Ends.{IsEnd, IsHalf}
use Rattle.tracer.proofs.EndLemmas.{cut_of, done_of, kept_of, told_of}
use Rattle.tracer.proofs.program.sblog_alone.Goals as goal

pub returns-clause-done : goal.returns-clause-done
returns-clause-done g c = λ zero_is.
    let done = c.print_or_tell.ensures.done zero_is in (
      done_of c.run_command_alone-ended.result (map g.S.AsStr.text c.args.words.now) (map g.S.AsStr.text c.hints_in-hints.result.1.now) (g.F.Files.content c.args.files.now) (g.F.Files.content c.run_command_alone-ended.new.files) (string_bytes c.run_command_alone-ended.new.text)
          (g.O.Stream.contents c.args.out.now) (g.O.Stream.contents c.print_or_tell.new.out)
          c.hints_in-hints.ensures.words done.0 c.run_command_alone-ended.ensures.report (subst (Appends (g.O.Stream.contents c.args.out.now) (g.O.Stream.contents c.print_or_tell.new.out)) c.as_str.ensures.value done.1),
      subst (λ hints. AreHints g.E.Stream.contents g.E.Stream.failed hints c.args.err.now c.print_or_tell.new.err) c.hints_in-hints.ensures.asked done.2,
    )

pub returns-clause-told : goal.returns-clause-told
returns-clause-told g c = λ other.
    told_of c.run_command_alone-ended.result (map g.S.AsStr.text c.args.words.now) (map g.S.AsStr.text c.hints_in-hints.result.1.now) (g.F.Files.content c.args.files.now) (g.F.Files.content c.run_command_alone-ended.new.files) g.F.Files.may_be_one
    (g.F.Files.failed c.run_command_alone-ended.new.files) (g.O.Stream.failed c.print_or_tell.new.out) (g.E.Stream.failed c.print_or_tell.new.err) (string_bytes c.run_command_alone-ended.new.text)
    c.hints_in-hints.result.0 (g.E.Stream.contents c.args.err.now) (g.E.Stream.contents c.print_or_tell.new.err) c.print_or_tell.result
    c.hints_in-hints.ensures.words c.hints_in-hints.ensures.asked c.run_command_alone-ended.ensures.report c.run_command_alone-ended.ensures.fault c.run_command_alone-ended.ensures.short
    (subst (λ (t : List ℕ). IsEnd c.run_command_alone-ended.result t c.hints_in-hints.result.0 (g.O.Stream.failed c.print_or_tell.new.out) (g.E.Stream.failed c.print_or_tell.new.err) (g.E.Stream.contents c.args.err.now) (g.E.Stream.contents c.print_or_tell.new.err) c.print_or_tell.result) c.as_str.ensures.value (c.print_or_tell.ensures.told other))

pub returns-clause-kept : goal.returns-clause-kept
returns-clause-kept g c = λ other.
    kept_of c.run_command_alone-ended.result (g.F.Files.content c.args.files.now) (g.F.Files.content c.run_command_alone-ended.new.files) (string_bytes c.run_command_alone-ended.new.text) c.hints_in-hints.result.0 (g.O.Stream.failed c.print_or_tell.new.out) (g.E.Stream.failed c.print_or_tell.new.err)
    (g.E.Stream.contents c.args.err.now) (g.E.Stream.contents c.print_or_tell.new.err) c.print_or_tell.result c.run_command_alone-ended.ensures.kept c.run_command_alone-ended.ensures.either
    (subst (λ (t : List ℕ). IsEnd c.run_command_alone-ended.result t c.hints_in-hints.result.0 (g.O.Stream.failed c.print_or_tell.new.out) (g.E.Stream.failed c.print_or_tell.new.err) (g.E.Stream.contents c.args.err.now) (g.E.Stream.contents c.print_or_tell.new.err) c.print_or_tell.result) c.as_str.ensures.value (c.print_or_tell.ensures.told other))

pub returns-clause-silent : goal.returns-clause-silent
returns-clause-silent g c = λ other.
    elim (c.print_or_tell.ensures.silent other) [
      | inl same ↦ inl same
      | inr more ↦ elim more [
        | inl failed ↦ inr (inl failed)
        | inr half ↦ inr (inr (cut_of c.run_command_alone-ended.result (map g.S.AsStr.text c.args.words.now) (map g.S.AsStr.text c.hints_in-hints.result.1.now) (g.F.Files.content c.args.files.now) (string_bytes c.run_command_alone-ended.new.text) (g.E.Stream.failed c.print_or_tell.new.err) (g.O.Stream.contents c.args.out.now) (g.O.Stream.contents c.print_or_tell.new.out) c.print_or_tell.result
            c.hints_in-hints.ensures.words c.run_command_alone-ended.ensures.short
            (subst (λ (t : List ℕ). IsHalf c.run_command_alone-ended.result t (g.E.Stream.failed c.print_or_tell.new.err) (g.O.Stream.contents c.args.out.now) (g.O.Stream.contents c.print_or_tell.new.out) c.print_or_tell.result) c.as_str.ensures.value half)))
      ]
    ]
