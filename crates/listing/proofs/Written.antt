-- What calls have written that end without an error.
use Rattle.std.proofs.Common.{◌≡◌, ◌++◌, ℕ, List, Result, Ok, Err, cond, OnOk, refl}
use Rattle.std.specs.Prelude.{is_ok}
use Rattle.std.proofs.lemmas.Result.{on_ok_weaker}
use Rattle.listing.proofs.Texts.{joined}

pub when_ok : {T E : Type 0} (r : Result T E) (new all old : List ℕ) → new ≡ cond (is_ok r) all old → OnOk r (new ≡ all)
when_ok (Ok x) new all old h = h
when_ok (Err e) new all old h = tt

-- one text after another, of which the call before has written the first
pub behind : {T E : Type 0} (r : Result T E) (old a mid b new text : List ℕ) → mid ≡ old ++ a → a ++ b ≡ text → OnOk r (new ≡ mid ++ b) → OnOk r (new ≡ old ++ text)
behind r old a mid b new text e t h = on_ok_weaker r (λ k. joined old a mid b new text e k t) h

-- three texts, of which the calls before have written two
pub third : {T E : Type 0} (r : Result T E) (old a one b two e new text : List ℕ) → one ≡ old ++ a → two ≡ one ++ b → a ++ (b ++ e) ≡ text → OnOk r (new ≡ two ++ e) → OnOk r (new ≡ old ++ text)
third r old a one b two e new text first second t h = behind r old a one (b ++ e) new text first t (behind r one b two e new (b ++ e) second refl h)
