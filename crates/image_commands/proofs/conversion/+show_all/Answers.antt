use Rattle.std.proofs.Common.{◌≡◌, ◌<◌, ◌≤◌, ◌∙◌, ap, arith, drop, length, subst, take}
use Rattle.interp.specs.Answer.{Handled, HasRun}
use Rattle.interp.specs.Image.{the_image}
use Rattle.image_commands.specs.Migrate.{Converts, converter, piece_bytes}
use Rattle.image_commands.proofs.MigrateLemmas.{more_pieces, one_piece}
use Rattle.image_commands.proofs.conversion.+show_all.Goals as goal

pub returns-then-old-size : goal.returns-then-old-size
returns-then-old-size t c =
    let image = the_image c.args.handler.now in
    let size : c.piece_bytes-size.result ≡ piece_bytes image.form = c.piece_bytes-size.ensures.size ∙ ap piece_bytes c.form.ensures in
    one_piece image c.args.old.now c.args.state.now c.show.new.state (subst (λ n. length c.args.old.now ≤ n) size c.if-old-size.true) c.show.ensures

pub returns : goal.returns
returns t c =
    let image = the_image c.args.handler.now in
    let size : c.piece_bytes-size.result ≡ piece_bytes image.form = c.piece_bytes-size.ensures.size ∙ ap piece_bytes c.form.ensures in
    let long : c.piece_bytes-size.result < length c.args.old.now = omega (arith, c.if-old-size.false) in
    let front : c.split_at.result.0.now ≡ take (piece_bytes image.form) c.args.old.now = c.split_at.ensures.front ∙ ap (λ n. take n c.args.old.now) size in
    let back : c.split_at.result.1.now ≡ drop (piece_bytes image.form) c.args.old.now = c.split_at.ensures.back ∙ ap (λ n. drop n c.args.old.now) size in
    more_pieces image c.args.old.now c.args.state.now c.show-2.new.state c.show_all.new.state (subst (λ n. n < length c.args.old.now) size long)
    (subst (λ p. (h : Handled) × HasRun image converter c.args.state.now p h × (h.state ≡ c.show-2.new.state)) front c.show-2.ensures)
    (subst (λ r. Converts image r c.show-2.new.state c.show_all.new.state) back c.show_all.ensures)
