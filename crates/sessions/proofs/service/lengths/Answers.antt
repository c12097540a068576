use Rattle.std.proofs.Common.{◌≡◌, ◌≤◌, ◌+◌, ◌++◌, ◌∷◌, [], map, take, sym, ap, ◌∙◌, subst}
use Rattle.std.specs.List.{All}
use Rattle.std.proofs.lemmas.List.{take_more, map-append}
use Rattle.std.proofs.lemmas.List.Elements.{All-push}
use Rattle.limits.specs.declared.TheConstants.{STATE_BYTES}
use Rattle.interp.specs.Image.{TheImage, image_in, the_image}
use Rattle.sessions.specs.Fields.{lengths_of}
use Rattle.sessions.proofs.service.lengths.Goals as goal

pub loop-image-preserved : goal.loop-image-preserved
loop-image-preserved c =
    let xs = c.args.images.now in
    let k = c.loop-image.image-index in
    let ns = c.loop-image.lengths.items in
    let prefix = map image_in (take k xs) in
    let image = image_in c.image-item.result in
    let more : map image_in (take (k + 1) xs) ≡ prefix ++ image ∷ [] =
    ap (map image_in) (take_more xs k c.image-item.result c.loop-image-test.true ∙ ap (λ y. take k xs ++ y ∷ []) (sym c.image-item.is)) ∙ map-append image_in (take k xs) (c.image-item.result ∷ []) in
    let len : c.state_len.result ≡ image.len = c.state_len.ensures.value ∙ ap (λ h. (the_image h).len) c.deref.ensures in
    let items : c.push.new.self.items ≡ ns ++ c.state_len.result ∷ [] = c.in_ok-push.ensures.items in
    record {
      values = items ∙ ap (λ n. ns ++ n ∷ []) len ∙ ap (λ l. l ++ image.len ∷ []) c.loop-image.invariant.values ∙ sym (map-append (λ (i : TheImage). i.len) prefix (image ∷ [])) ∙ ap lengths_of (sym more);
      short = subst (All (λ len. len ≤ STATE_BYTES)) (sym items) (All-push (λ len. len ≤ STATE_BYTES) ns c.state_len.result c.loop-image.invariant.short c.state_len.ensures.bound);
    }
