-- One call more.
use Rattle.std.proofs.Common.{◌≡◌, ℕ, ◌+◌, ◌-◌, ◌*◌, ◌/◌, ◌%◌, ◌<◌, ◌≤◌, List, [], ◌∷◌, ◌++◌, length, take, drop, slice_range, refl, sym, ap, subst, ◌∙◌, arith, append-nil, length-append, take-add}
use Rattle.std.specs.List.{flat_map}
use Rattle.std.proofs.lemmas.List.{drop_at, take-append-le, drop-append-le, length-take-le, length-drop, take_all}
use Rattle.std.proofs.lemmas.List.Concat.{flat_map-append}
use Rattle.helpers.specs.declared.effects.Who.{Who}
use Rattle.interp.specs.HandlerCall.{Handled}
use Rattle.interp.specs.Image.{TheImage}
use Rattle.interp.specs.Answer.{HasRun}
use Rattle.operations.specs.Bytes.{overwritten}
use Rattle.c_runs.specs.Calls.{report_of, IsReported, AreHandled, AreReported}
use Rattle.c_handles.proofs.Overwritten.{put_more, overwritten_none}

-- calls, and one more behind them
handled_more : (image : TheImage) (who : Who) (state messages message middle : List ℕ) (hs : List Handled) (h : Handled) → AreHandled image who state messages hs middle → length messages ≡ 64 * length hs → length message ≡ 64 → HasRun image who middle message h → AreHandled image who state (messages ++ message) (hs ++ h ∷ []) h.state
handled_more image who state messages message middle [] h all size one call =
    let whole : message ≡ take 64 (messages ++ message) = sym (take_all 64 message (omega (arith, one))) ∙ ap (λ l. take 64 (l ++ message)) (sym all.0) in
    let rest : drop 64 (messages ++ message) ≡ [] = ap (λ l. drop 64 (l ++ message)) all.0 ∙ ap (drop 64) (sym (append-nil message)) ∙ drop_at message [] 64 one in
    (subst (λ l. HasRun image who state l h) whole (subst (λ l. HasRun image who l message h) all.1 call), (rest, refl))
handled_more image who state messages message middle (x ∷ hs) h all size one call =
    let long : 64 ≤ length messages = omega (arith, size) in
    let front : take 64 messages ≡ take 64 (messages ++ message) = sym (take-append-le 64 messages message long) in
    let back : drop 64 messages ++ message ≡ drop 64 (messages ++ message) = sym (drop-append-le 64 messages message long) in
    let left : length (drop 64 messages) ≡ 64 * length hs = omega (arith, length-drop 64 messages, size) in
    (subst (λ l. HasRun image who state l x) front all.0, subst (λ l. AreHandled image who x.state l (hs ++ h ∷ []) h.state) back (handled_more image who x.state (drop 64 messages) message middle hs h all.1 left one call))

-- what holds of the first i of the messages
pub record Reported (image : TheImage) (who : Who) (state messages out : List ℕ) (i : ℕ) (after written : List ℕ) (end : ℕ) : Type 0 where
  pub calls : List Handled
  pub handles : AreHandled image who state (take (64 * i) messages) calls after
  pub count : length calls ≡ i
  pub out_is : written ≡ overwritten out 0 (flat_map report_of calls)
  pub end_is : end ≡ length (flat_map report_of calls)
  pub bound : end ≤ 1064 * i

-- before the first message nothing is reported
pub none_reported : (image : TheImage) (who : Who) (state messages out : List ℕ) → Reported image who state messages out 0 state out 0
none_reported image who state messages out =
    record { calls = []; handles = (refl, refl); count = refl; out_is = overwritten_none out 0; end_is = refl; bound = omega arith }

message_next : (messages : List ℕ) (i : ℕ) → take (64 * i) messages ++ slice_range messages (64 * i) (64 * i + 64) ≡ take (64 * (i + 1)) messages
message_next messages i =
    let size : 64 * i + 64 - 64 * i ≡ 64 = omega arith in
    let next : 64 * i + 64 ≡ 64 * (i + 1) = omega arith in
    ap (λ k. take (64 * i) messages ++ take k (drop (64 * i) messages)) size ∙ sym (take-add (64 * i) 64 messages) ∙ ap (λ k. take k messages) next

reports_more : (hs : List Handled) (h : Handled) → flat_map report_of hs ++ report_of h ≡ flat_map report_of (hs ++ h ∷ [])
reports_more hs h =
    ap (λ l. flat_map report_of hs ++ l) (sym (append-nil (report_of h))) ∙ sym (flat_map-append report_of hs (h ∷ []))

-- one message more is handled, and reported behind the others
pub reported_more : (image : TheImage) (who : Who) (state messages out : List ℕ) (i : ℕ) (middle written : List ℕ) (end : ℕ) (message after written' : List ℕ) (end' : ℕ) → Reported image who state messages out i middle written end → message ≡ slice_range messages (64 * i) (64 * i + 64) → i < length messages / 64 → 1064 * (length messages / 64) ≤ length out → IsReported image who middle message after written end written' end' → Reported image who state messages out (i + 1) after written' end'
reported_more image who state messages out i middle written end message after written' end' r e lt room s =
    let inside : 64 * i + 64 ≤ length messages = omega arith in
    let size : 64 * i + 64 - 64 * i ≡ 64 = omega arith in
    let front : length (take (64 * i) messages) ≡ 64 * length r.calls = length-take-le (64 * i) messages (omega arith) ∙ omega (arith, r.count) in
    let one : length message ≡ 64 =
    ap length e ∙ ap (λ k. length (take k (drop (64 * i) messages))) size ∙ length-take-le 64 (drop (64 * i) messages) (omega (arith, length-drop (64 * i) messages)) in
    let all : take (64 * i) messages ++ message ≡ take (64 * (i + 1)) messages = ap (λ l. take (64 * i) messages ++ l) e ∙ message_next messages i in
    let more = handled_more image who state (take (64 * i) messages) message middle r.calls s.handled r.handles front one s.handles in
    let moved = subst (λ l. AreHandled image who state l (r.calls ++ s.handled ∷ []) s.handled.state) all more in
    record {
      calls = r.calls ++ s.handled ∷ [];
      handles = subst (λ l. AreHandled image who state (take (64 * (i + 1)) messages) (r.calls ++ s.handled ∷ []) l) (sym s.state_is) moved;
      count = length-append r.calls (s.handled ∷ []) ∙ omega (arith, r.count);
      out_is = put_more out written written' 0 end (flat_map report_of r.calls) (report_of s.handled) r.out_is (omega (arith, r.end_is)) (omega (arith, r.end_is, r.bound)) s.out_is ∙ ap (overwritten out 0) (reports_more r.calls s.handled);
      end_is = s.end_is ∙ ap (λ k. k + length (report_of s.handled)) r.end_is ∙ sym (length-append (flat_map report_of r.calls) (report_of s.handled)) ∙ ap length (reports_more r.calls s.handled);
      bound = omega (arith, s.end_is, s.size, r.bound);
    }

-- when each message is handled, the reports are those of the calls
pub all_reported : (image : TheImage) (who : Who) (state messages out : List ℕ) (i : ℕ) (after written : List ℕ) (end : ℕ) → Reported image who state messages out i after written end → length messages % 64 ≡ 0 → length messages / 64 ≤ i → AreReported image who state messages after out written
all_reported image who state messages out i after written end r whole last =
    record {
      calls = r.calls;
      handles = subst (λ l. AreHandled image who state l r.calls after) (take_all (64 * i) messages (omega arith)) r.handles;
      out_is = r.out_is;
    }
