use Rattle.std.proofs.Common.{rules, ◌≡◌, ◌∙◌, ◌+◌, ℕ, List, length, ap, arith}
use Rattle.std.proofs.lemmas.Grind.{common_steps}
use Rattle.byteorder.specs.Endian.{little_bytes}
use Rattle.byteorder.specs.Numbers.{length-bytes_low_first}
use Rattle.operations.specs.Bytes.{overwritten}
use Rattle.c_handles.proofs.Overwritten.{put_more}
use Rattle.c_handles.proofs.bundle.put_part.Goals as goal

pub returns-clause-written : goal.returns-clause-written
returns-clause-written c =
    let out = c.args.out.now in
    let at = c.args.at in
    let packet = c.args.packet.now in
    let size : List ℕ = little_bytes 2 (length packet) in
    let long = length-bytes_low_first 0 2 (length packet) in
    let spelled : c.write_u16.new.buf ≡ size = first_of (search rules, grind (arith, common_steps)) in
    let written : c.put-end.new.out ≡ overwritten out at size = c.put-end.ensures.written ∙ ap (overwritten out at) spelled in
    let end : c.put-end.result ≡ at + length size = c.put-end.ensures.end ∙ ap (λ (ys : List ℕ). at + length ys) spelled in
    put_more out c.put-end.new.out c.put.new.out at c.put-end.result size packet written end (omega (arith, long, c.requires.1)) c.put.ensures.written
