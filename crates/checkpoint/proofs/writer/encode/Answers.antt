use Rattle.std.proofs.Common.{rules, ◌≡◌, ◌+◌, ◌-◌, ◌++◌, List, ℕ, length, take, drop, suc, ap, sym, ◌∙◌, append_assoc, add-one, length-drop, arith}
use Rattle.std.proofs.Math.Seq.{take-length}
use Rattle.std.specs.List.{flat_map}
use Rattle.std.proofs.lemmas.Grind.{flat_map-append, common_steps}
use Rattle.checkpoint.specs.declared.form.CheckpointForm.TheVariants.{Second}
use Rattle.checkpoint.specs.Saved.{TheKept}
use Rattle.checkpoint.specs.Format.{magic, number_bytes, kept_bytes, bytes_of}
use Rattle.checkpoint.proofs.writer.encode.Goals as goal

joined : (m n s r a b o o1 o2 o3 o4 o5 : List ℕ) → o ≡ m → o1 ≡ o ++ n → o2 ≡ o1 ++ s → o3 ≡ o2 ++ r → o4 ≡ o3 ++ a → o5 ≡ o4 ++ b → o5 ≡ m ++ (n ++ (s ++ (r ++ (a ++ b))))
joined m n s r a b o o1 o2 o3 o4 o5 h h1 h2 h3 h4 h5 = rw (h5, h4, h3, h2, h1, h) (simp append_assoc)

behind : (qs : List TheKept) (k : ℕ) → take (length qs - (k + 1)) (drop (k + 1) qs) ≡ drop (suc k) qs
behind qs k = rw add-one (ap (λ n. take n (drop (suc k) qs)) (sym (length-drop (suc k) qs)) ∙ take-length (drop (suc k) qs))

pub returns : goal.returns
returns c =
    let s = c.args.saved.now in
    let before = flat_map (kept_bytes Second) (take s.me s.queues) in
    let after = flat_map (kept_bytes Second) (drop (suc s.me) s.queues) in
    let three : c.extend_from_slice-2.new.self.items ≡ c.extend_from_slice.new.self.items ++ s.senders = c.in_ok-extend_from_slice-2.ensures.items ∙ ap (λ (xs : List ℕ). c.extend_from_slice.new.self.items ++ xs) c.senders.ensures.value in
    let two : c.extend_from_slice.new.self.items ≡ c.put_numbers.new.out.items ++ s.state = c.in_ok-extend_from_slice.ensures.items ∙ ap (λ (xs : List ℕ). c.put_numbers.new.out.items ++ xs) c.state.ensures.value in
    let four : c.put_queues.new.out.items ≡ c.extend_from_slice-2.new.self.items ++ before = first_of (search rules, grind (arith, common_steps)) in
    let five : c.put_queues-2.new.out.items ≡ c.put_queues.new.out.items ++ after = c.in_ok-put_queues-2.ensures ∙ rw (c.queues-queues.ensures, c.me-own.ensures.value) (ap (λ (qs : List TheKept). c.put_queues.new.out.items ++ flat_map (kept_bytes Second) qs) (behind s.queues s.me)) in
    let bytes : c.put_queues-2.new.out.items ≡ bytes_of Second s =
    joined (magic Second) (number_bytes s) s.state s.senders before after c.in_ok-out.out.items c.put_numbers.new.out.items c.extend_from_slice.new.self.items c.extend_from_slice-2.new.self.items c.put_queues.new.out.items c.put_queues-2.new.out.items
    (c.in_ok-out.ensures.items ∙ c.magic.ensures) c.in_ok-put_numbers.ensures two three four five
    ∙ ap (λ (xs : List ℕ). magic Second ++ (number_bytes s ++ (s.state ++ (s.senders ++ xs)))) (sym (flat_map-append (kept_bytes Second) (take s.me s.queues) (drop (suc s.me) s.queues))) in
    record { fits = c.me-own.ensures.fits; bytes_are = c.shrink_to_fit.ensures.items ∙ bytes }
