use Rattle.std.proofs.Common.{rules, ◌∙◌, length, map, sym, ap, subst, string_bytes}
use Rattle.std.proofs.lemmas.List.{length-map}
use Rattle.std.specs.Prelude.{Err, IfOk, Ok, OnOk, Result}
use Rattle.limits.specs.declared.TheConstants.{SEATS}
use Rattle.interp.specs.Image.{image_in}
use Rattle.sessions.specs.Journal.{TheSession}
use Rattle.sessions.specs.Seats.{IsWhole}
use Rattle.scenario.specs.Process.{names_of}
use Rattle.workers.specs.Runs.{CanRun}
use Rattle.live.proofs.LiveLemmas.{Leave, live_by, whole_new}
use Rattle.live.proofs.run.live_in.Goals as goal

-- what holds of a result, by three things that do
all_told : {T E : Type 0} (r : Result T E) (P : T → Type 0) (Q R : Type 0) (W : T → Type 0) → ((x : T) → P x → Q → R → W x) → IfOk r P → OnOk r Q → OnOk r R → IfOk r W
all_told (Ok x) P Q R W f p q r = f x p q r
all_told (Err e) P Q R W f p q r = tt

pub served-requires-clause-can : goal.served-requires-clause-can
served-requires-clause-can g c =
    let can : CanRun c.args.workers c.in_ok-session.session = record {
      some = c.requires.workers.0;
      few = c.requires.workers.1;
      whole = subst (λ (s : TheSession). IsWhole s.seats) (sym c.in_ok-session.ensures) (whole_new SEATS);
    } in
    search rules

pub tell_closed-requires : goal.tell_closed-requires
tell_closed-requires g c =
    let images = c.in_ok-closed.ensures.continues.images ∙ ap (λ (s : TheSession). s.images) c.in_ok-session.ensures in
    c.requires.named ∙ sym (length-map c.args.images.items image_in) ∙ sym (ap length images)

pub returns-clause-written : goal.returns-clause-written
returns-clause-written g c =
    let names = names_of c.args.scenario.now.processes in
    let opened = c.in_ok-session.session in
    let closed = c.in_ok-closed.closed.session in
    let shares = c.in_ok-closed.closed.shares.items in
    let old = string_bytes c.args.out.now in
    let new = string_bytes c.tell_closed.new.out in
    let leave : Leave c.args.workers c.args.budget opened closed shares = record {
      served = c.in_ok-closed.ensures.served;
      continues = c.in_ok-closed.ensures.continues;
      grew = c.in_ok-closed.ensures.grew;
    } in
    let told = c.tell_closed.ensures in
    all_told c.tell_closed.result _ _ _ _
    (λ ended ends served written. live_by names (map image_in c.args.images.items) c.args.workers c.args.budget opened closed shares ended.items old new
    c.requires.workers.1 c.in_ok-session.ensures leave c.in_ok-closed.ensures.legal served ends written)
    told.ended told.served told.written
