use Rattle.std.proofs.Common.{◌++◌, List, ℕ, codes, string_bytes, append_assoc}
use Rattle.listing.specs.Kinds.{range_text, reg_text}
use Rattle.listing.proofs.Written.{third, when_ok}
use Rattle.listing.proofs.sentence.push_moved.Goals as goal

pub returns : goal.returns
returns c =
    let one = string_bytes c.write.new.self in
    let two = string_bytes c.push_range.new.out in
    let new = string_bytes c.push_str.new.self in
    let reg = reg_text c.args.reg in
    let by : List ℕ = codes " is moved by " in
    let range = range_text c.args.span in
    let e : List ℕ = codes ", out of the places from -32768 to 32767" in
    third c.push_str.result (string_bytes c.args.out.now) (reg ++ by) one range two e new _ c.in_ok-write.ensures.bytes c.in_ok-push_range.ensures (append_assoc reg by (range ++ e)) (when_ok c.push_str.result new _ two c.push_str.ensures.bytes)
