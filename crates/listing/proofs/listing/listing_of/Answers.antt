use Rattle.std.proofs.Common.{◌≡◌, ◌∙◌, ◌++◌, length, string_bytes, ap, arith}
use Rattle.listing.specs.Listing.{head_text, slot_text, texts_below, verdict_text}
use Rattle.listing.proofs.Texts.{texts_more, texts_none}
use Rattle.listing.proofs.listing.listing_of.Goals as goal

pub loop-slot-init : goal.loop-slot-init
loop-slot-init c = texts_none (slot_text c.args.study.now c.reasons_of-whys.result) (string_bytes c.push_head.new.out)

pub loop-slot-preserved : goal.loop-slot-preserved
loop-slot-preserved c =
    texts_more (slot_text c.args.study.now c.reasons_of-whys.result) c.loop-slot.slot (string_bytes c.push_head.new.out) _ _ c.loop-slot.invariant c.in_ok-push_slot.ensures

pub returns : goal.returns
returns c =
    let s = c.args.study.now in
    let whys = c.reasons_of-whys.result in
    let n : c.loop-slot.slot ≡ length s.slots.items = omega arith in
    let head : string_bytes c.push_head.new.out ≡ head_text s = c.in_ok-push_head.ensures ∙ ap (λ t. t ++ head_text s) c.new-out.ensures.bytes in
    let all : string_bytes c.loop-slot.out ≡ head_text s ++ texts_below (slot_text s whys) (length s.slots.items) =
    c.loop-slot.invariant ∙ ap (λ k. string_bytes c.push_head.new.out ++ texts_below (slot_text s whys) k) n ∙ ap (λ t. t ++ texts_below (slot_text s whys) (length s.slots.items)) head in
    record {
      whys = whys;
      reasons = c.reasons_of-whys.ensures;
      text_is = c.in_ok-push_verdict.ensures ∙ ap (λ t. t ++ verdict_text s.count s.refusal) all;
    }
