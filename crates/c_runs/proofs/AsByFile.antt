-- Calls by a handle are calls by its file.
use Rattle.std.proofs.Common.{◌≡◌, ◌≢◌, refl, sym, subst, inl, inr}
use Rattle.verifier.specs.declared.file_form.FileForm.{FileForm}
use Rattle.verifier.specs.declared.file_form.FileForm.TheVariants.{Sbi1, Sbi2, Sbi3}
use Rattle.c_runs.specs.declared.refusal.ImageRefusal.TheVariants.{State, Form}
use Rattle.c_runs.specs.Exports.{AreCallsRefused, IsTypable, IsCallable, IsFormRefusal, IsStateRefusal}
use Rattle.c_runs.specs.Runs.{AreDoneAsByFile, AreRefusedAsByFile}
use Rattle.c_runs.proofs.FirstFailure.{no_seat, no_messages, no_room, no_image}

pub done : AreDoneAsByFile
done file image who state messages after out written o d = record {
  image = image;
  file_is = o;
  form_is = d.form_is;
  state_fits = d.state_fits;
  seat = d.seat;
  messages_are = d.messages_are;
  reports_fit = d.reports_fit;
  called = d.called;
}

second : (form : FileForm) → (¬ (form ≢ Sbi2)) → form ≡ Sbi2
second Sbi1 n = absurd (n (λ (e : Sbi1 ≡ Sbi2). cc))
second Sbi2 n = refl
second Sbi3 n = absurd (n (λ (e : Sbi3 ≡ Sbi2). cc))

pub refused : AreRefusedAsByFile
refused file image who state messages out why o (inl (e, n)) =
    subst (AreCallsRefused file who state messages out) (sym e) (no_seat file state who _ _ n)
refused file image who state messages out why o (inr (s, inl (e, n))) =
    subst (AreCallsRefused file who state messages out) (sym e) (no_messages file state who _ _ s n)
refused file image who state messages out why o (inr (s, inr (w, inl (e, n)))) =
    subst (AreCallsRefused file who state messages out) (sym e) (no_room file state who _ _ s w n)
refused file image who state messages out why o (inr (s, inr (w, inr (r, inl (e, n))))) =
    let typable : IsTypable file = (image, o) in
    let of_second : IsFormRefusal file Form = (refl, (image, o, second image.form n)) in
    subst (AreCallsRefused file who state messages out) (sym e) (no_image file state who _ _ Form s w r (inr (typable, inl of_second)))
refused file image who state messages out why o (inr (s, inr (w, inr (r, inr (f, inl (e, n)))))) =
    let typable : IsTypable file = (image, o) in
    let callable : IsCallable file = (image, o, f) in
    let unfit : IsStateRefusal file state State = (refl, (image, o, f, n)) in
    subst (AreCallsRefused file who state messages out) (sym e) (no_image file state who _ _ State s w r (inr (typable, inr (callable, unfit))))
refused file image who state messages out why o (inr (s, inr (w, inr (r, inr (f, inr (p, never)))))) = absurd never
