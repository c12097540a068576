-- Orders that were carried out one after the other.
use Rattle.std.proofs.Common.{◌≡◌, ◌∙◌, ℕ, Bool, List, [], ◌∷◌, ◌++◌, append_assoc, length, take, Option, Some, None, Result, Ok, Err, refl, sym, ap, subst, inl, inr, arith}
use Rattle.std.specs.Result.{OnErr}
use Rattle.std.proofs.lemmas.List.{append-nil, flat_map_more, take_all}
use Rattle.interp.specs.Image.{TheImage}
use Rattle.world.specs.declared.call.Call.{Call}
use Rattle.sessions.specs.Fold.{handlers_of}
use Rattle.world.specs.Legal.{Legal}
use Rattle.world.specs.declared.refusal.Refusal.{Refusal}
use Rattle.world.specs.declared.refusal.Refusal.TheVariants as refusals
use Rattle.world.specs.Refusals.{cause_of, number_of}
use Rattle.sessions.specs.Job.{TheJob}
use Rattle.machine.specs.Dispatch.{job_of}
use Rattle.scenario.specs.declared.order.Order.{Order}
use Rattle.scenario.specs.declared.order.Order.TheVariants as order
use Rattle.scenario.specs.declared.scenario.Step.{Step}
use Rattle.runner.specs.Orders.{CarriesOut, BringsBack, HoldsJob, MakesCall, Position, beginning, held_for, with_entry, without_job, world_at}
use Rattle.results.specs.Results.{results_text}
use Rattle.runner.specs.Reports.{IsTelling, style_in, told_text}
use Rattle.scenario.specs.Styles.Style.{TheStyle}
use Rattle.runner.specs.Inside.{AreNoted, ArePlayed, ArePlayedTo, IsNoted, IsPlayed, TheNotes}
use Rattle.runner.specs.Run.{AreCarriedOut, CutsOff, IsCut, IsRun, Passage, RunsThrough, moments_of, passage, refused_lines, refused_text}

-- an order keeps the images

held-images : (at : Position) (p : Option ℕ) (new : Position) → HoldsJob at p new → new.images ≡ at.images
held-images at None new holds = ap (λ (x : Position). x.images) holds
held-images at (Some p) new holds = ap (λ (x : Position). x.images) holds.3

called-images : (at : Position) (c : Call) (new : Position) (r : Option ℕ) → MakesCall at c new r → new.images ≡ at.images
called-images at c new None makes = held-images (with_entry at c makes.0) (job_of (world_at at) c makes.0) new makes.2
called-images at c new (Some n) makes = ap (λ (x : Position). x.images) makes.0

brought-images : (at : Position) (held : Option TheJob) (new : Position) (r : Option ℕ) → BringsBack at held new r → new.images ≡ at.images
brought-images at None new r finishes = ap (λ (x : Position). x.images) finishes.0
brought-images at (Some j) new None finishes = ap (λ (x : Position). x.images) finishes.1.2
brought-images at (Some j) new (Some n) finishes = ap (λ (x : Position). x.images) finishes.0

carried-images : (at : Position) (o : Order) (new : Position) (r : Option ℕ) → CarriesOut at o new r → new.images ≡ at.images
carried-images at (order.Input to word) new r does = called-images _ _ new r does
carried-images at (order.Bytes to payload) new r does = called-images _ _ new r does
carried-images at (order.Transmit from to ssn) new r does = called-images _ _ new r does
carried-images at (order.Copy key) new r does = called-images _ _ new r does
carried-images at (order.Lose key) new r does = called-images _ _ new r does
carried-images at (order.Arrive key) new r does = called-images _ _ new r does
carried-images at (order.Finish p) new r does = brought-images (without_job at p) (held_for at p) new r does
carried-images at (order.Checkpoint p) new r does = called-images _ _ new r does
carried-images at (order.Trim to) new r does = called-images _ _ new r does
carried-images at (order.Crash p) new r does = called-images _ _ new r does
carried-images at (order.Recover p) new r does = called-images _ _ new r does
carried-images at (order.RecoverAlone p) new r does = called-images _ _ new r does
carried-images at (order.ReplayBegin p) new r does = called-images _ _ new r does
carried-images at (order.Resync p peer) new r does = called-images _ _ new r does
carried-images at (order.Drive budget) new r does = ap (λ (x : Position). x.images) does.0.new_is

-- no order of a run changes the images
pub runs-images : (at : Position) (steps : List Step) (passages : List Passage) (new : Position) → RunsThrough at steps passages new → new.images ≡ at.images
runs-images at [] passages new leads = ap (λ (x : Position). x.images) leads.1
runs-images at (step ∷ steps) passages new leads =
    runs-images leads.0 steps leads.2 new leads.4 ∙ carried-images at step.order leads.0 leads.1 leads.3

-- one order more

runs-more : (at mid next : Position) (steps : List Step) (step : Step) (passages : List Passage) (r : Option ℕ) → RunsThrough at steps passages mid → CarriesOut mid step.order next r
    → RunsThrough at (steps ++ step ∷ []) (passages ++ passage mid step next r ∷ []) next
runs-more at mid next [] step passages r leads does =
    let here : CarriesOut at step.order next r = subst (λ p. CarriesOut p step.order next r) leads.1 does in
    (next, r, [], here, (refl, refl), ap (λ ps. ps ++ passage mid step next r ∷ []) leads.0 ∙ ap (λ p. passage p step next r ∷ []) leads.1)
runs-more at mid next (first ∷ steps) step passages r leads does = (
  leads.0,
  leads.1,
  leads.2 ++ passage mid step next r ∷ [],
  leads.3,
  runs-more leads.0 mid next steps step leads.2 r leads.4 does,
  ap (λ ps. ps ++ passage mid step next r ∷ []) leads.5,
)

-- a fact that holds, where something has failed
pub on_err : {T E P : Type 0} (r : Result T E) → P → OnErr r P
on_err (Ok x) holds = tt
on_err (Err e) holds = holds

-- where no order is made, nothing is told
pub played-none : (at : Position) (old : List ℕ) → ArePlayed [] at at old old
played-none at old = ([], (refl, refl), sym (append-nil old))

-- and one more that is made tells its line, or none, behind the rest
pub played-more : (at mid next : Position) (steps : List Step) (step : Step) (old so new : List ℕ) → ArePlayed steps at mid old so → IsPlayed step mid next so new
    → ArePlayed (steps ++ step ∷ []) at next old new
played-more at mid next steps step old so new are is = (
  are.0 ++ passage mid step next is.0 ∷ [],
  runs-more at mid next steps step are.0 is.0 are.1 is.1,
  is.2 ∙ ap (λ ls. ls ++ refused_text step.line is.0) are.2 ∙ flat_map_more (λ (p : Passage). refused_text p.line p.refused) old are.0 (passage mid step next is.0),
)

-- where no order is made, nothing is noted
pub noted-none : (at : Position) → AreNoted [] at at (record { moments = []; sent = [] })
noted-none at = ([], (refl, refl), refl, refl)

-- and one more that is made has its moments behind the rest, and what it put on the wire
pub noted-more : (at mid next : Position) (steps : List Step) (step : Step) (so new : TheNotes) → AreNoted steps at mid so → IsNoted step mid next so new
    → AreNoted (steps ++ step ∷ []) at next new
noted-more at mid next steps step so new are is = (
  are.0 ++ passage mid step next is.0 ∷ [],
  runs-more at mid next steps step are.0 is.0 are.1 is.1,
  is.2 ∙ ap (λ ms. ms ++ moments_of (passage mid step next is.0)) are.2 ∙ flat_map_more moments_of [] are.0 (passage mid step next is.0),
  is.3 ∙ ap (λ ss. ss ++ (passage mid step next is.0).sent) are.3 ∙ flat_map_more (λ (p : Passage). p.sent) [] are.0 (passage mid step next is.0),
)

-- all of them, from the beginning on
pub played-out : (images : List TheImage) (end : Position) (steps : List Step) (passages : List Passage)
    → RunsThrough (beginning images) steps passages end → Legal (length end.images) (handlers_of end.images) end.entries
    → AreCarriedOut images steps passages end.entries
played-out images end steps passages leads legal =
    let same : end.images ≡ images = runs-images (beginning images) steps passages end leads in
    record {
      end = end;
      leads = leads;
      accepted = refl;
      legal = subst (λ (is : List TheImage). Legal (length is) (handlers_of is) end.entries) same legal;
    }

-- and what a session came to
pub played-run : (names : List (List ℕ)) (images : List TheImage) (end : Position) (steps : List Step) (old mid new : List ℕ)
    → ArePlayed steps (beginning images) end old mid → Legal (length end.images) (handlers_of end.images) end.entries → new ≡ mid ++ results_text names end.images end.entries
    → IsRun names images steps old new
played-run names images end steps old mid new played legal text =
    let same : end.images ≡ images = runs-images (beginning images) steps played.0 end played.1 in
    record {
      passages = played.0;
      entries = end.entries;
      carried = played-out images end steps played.0 played.1 legal;
      text = text ∙ ap (λ (m : List ℕ). m ++ results_text names end.images end.entries) played.2
          ∙ append_assoc old (refused_lines played.0) (results_text names end.images end.entries)
          ∙ ap (λ (is : List TheImage). old ++ (refused_lines played.0 ++ results_text names is end.entries)) same;
    }

-- and what it is told as in a style
pub told-run : (names : List (List ℕ)) (images : List TheImage) (end : Position) (steps : List Step) (notes : TheNotes) (style : TheStyle) (json named : Bool)
    (text : List ℕ) → AreNoted steps (beginning images) end notes → Legal (length end.images) (handlers_of end.images) end.entries
    → style ≡ style_in json named names → text ≡ told_text style names end.images notes.moments end.entries → IsTelling names images steps json named text
told-run names images end steps notes style json named text noted legal styled is =
    let same : end.images ≡ images = runs-images (beginning images) steps noted.0 end noted.1 in
    let told : TheStyle → List TheImage → List (ℕ × Option ℕ) → List ℕ = λ s is ms. told_text s names is ms end.entries in
    record {
      passages = noted.0;
      entries = end.entries;
      carried = played-out images end steps noted.0 noted.1 legal;
      text_is = is ∙ ap (λ s. told s end.images notes.moments) styled
          ∙ ap (λ is. told (style_in json named names) is notes.moments) same
          ∙ ap (told (style_in json named names) images) noted.2;
    }

-- and the first of them alone
played-cut : (images : List TheImage) (end : Position) (steps : List Step) (count : ℕ) (old new : List ℕ)
    → ArePlayed (take count steps) (beginning images) end old new → CutsOff steps count end → IsCut images steps old new
played-cut images end steps count old new played stops =
    record { count = count; passages = played.0; end = end; leads = played.1; stops = stops; text = played.2 }

-- none of them
pub cut-none : (images : List TheImage) (steps : List Step) (old new : List ℕ) → new ≡ old → IsCut images steps old new
cut-none images steps old new same =
    subst (IsCut images steps old) (sym same) (played-cut images (beginning images) steps 0 old old (played-none (beginning images) old) (inl refl))

-- those before one that finds no memory
pub played-to : (images : List TheImage) (steps : List Step) (old new : List ℕ) → ArePlayedTo steps (beginning images) old new → IsCut images steps old new
played-to images steps old new to = played-cut images to.end steps to.count old new to.played (inr (inl (to.step, to.next, to.finds)))

-- and all of them, to the end
pub played-all : (images : List TheImage) (end : Position) (steps : List Step) (old new : List ℕ)
    → ArePlayed steps (beginning images) end old new → IsCut images steps old new
played-all images end steps old new played =
    let whole : take (length steps) steps ≡ steps = take_all (length steps) steps (omega arith) in
    played-cut images end steps (length steps) old new (subst (λ (xs : List Step). ArePlayed xs (beginning images) end old new) (sym whole) played) (inr (inr refl))

-- a refusal with another cause than want of memory has its number
pub cause-number : (r : Refusal) → (r ≡ refusals.Memory → ⊥) → cause_of r ≡ Some (number_of r)
cause-number refusals.NoSuchProcess other = refl
cause-number refusals.NotUp other = refl
cause-number refusals.Busy other = refl
cause-number refusals.NoPacket other = refl
cause-number refusals.SameProcess other = refl
cause-number refusals.NotReleased other = refl
cause-number refusals.NotLogged other = refl
cause-number refusals.PeerNotUp other = refl
cause-number refusals.StaleJob other = refl
cause-number refusals.NotDown other = refl
cause-number refusals.WrongPhase other = refl
cause-number refusals.JournalFull other = refl
cause-number refusals.WireFull other = refl
cause-number refusals.FeedTaken other = refl
cause-number refusals.Memory other = absurd (other refl)
