use Rattle.std.proofs.Common.{◌≡◌, ◌∙◌, ap, List, length, subst, sym}
use Rattle.interp.specs.Image.{TheImage}
use Rattle.world.specs.declared.entry.Entry.{Entry}
use Rattle.world.specs.declared.message.Message.{Message}
use Rattle.sessions.specs.Fold.{handlers_of}
use Rattle.world.specs.Legal.{world_of}
use Rattle.runner.specs.Inside.{AreNoted, notes_of, position_of}
use Rattle.runner.specs.Orders.{Position}
use Rattle.runner.specs.Run.{AreCarriedOut}
use Rattle.runner.proofs.Played.{played-out, runs-images}
use Rattle.runner.proofs.player.Player.chronicle.Goals as goal

pub returns : goal.returns
returns c = λ images opened.
    let steps = c.args.steps.now in
    let end = position_of c.tell_all.new.self in
    let notes = notes_of c.in_ok-notes.notes in
    let noted = subst (λ (p : Position). AreNoted steps p end notes) opened c.in_ok-notes.ensures in
    let same : c.in_ok-copies.copies.0.items ≡ end.entries = c.in_ok-copies.ensures.entries in
    let shown : List TheImage → List Entry → List Message = λ is es. (world_of (length is) (handlers_of is) es).shown in
    record {
      passages = noted.0;
      carried = subst (λ (es : List Entry). AreCarriedOut images steps noted.0 es) (sym same) (played-out images end steps noted.0 noted.1 c.copies.ensures.legal);
      moments_are = noted.2;
      sent_is = noted.3;
      shown_are = c.in_ok-copies.ensures.shown ∙ ap (λ is. shown is end.entries) (runs-images _ steps noted.0 end noted.1) ∙ ap (shown images) (sym same);
    }
