-- A line is of one kind of order.
use Rattle.std.proofs.Common.{◌≡◌, ◌≢◌, ℕ, List, ◌∷◌, ◌++◌, length, Option, Some, None, true, false, true≢false, refl, sym, ap, ap₂, subst, ◌∙◌}
use Rattle.std.specs.Prelude.{codes, if◌then◌else◌}
use Rattle.std.specs.List.{AllByRecursion, list_all}
use Rattle.std.specs.Str.{bytes_eq}
use Rattle.scenario.specs.declared.order.Order.{Order}
use Rattle.scenario.specs.declared.order.Order.TheVariants as order
use Rattle.scenario.specs.declared.verb.TheConstants.{VERBS}
use Rattle.scenario.specs.declared.verb.Verb.{Verb}
use Rattle.scenario.specs.declared.verb.Verb.TheVariants as verb
use Rattle.scenario.specs.Order.{verb_text, verb_of, operands_text, order_text, IsInRange, is_name_byte}
use Rattle.scenario.specs.Inside.Reads.{Lacks, NoOperands, ReadsOperands, ReadsOrder, ReadsVerb}
use Rattle.scenario.proofs.Cuts.{one_cut, has_cut}
use Rattle.scenario.proofs.Names.{bytes_lack}

verb_at : List ℕ → Verb
verb_at t =
    if bytes_eq t (codes "input") then verb.Input else if bytes_eq t (codes "bytes") then verb.Bytes else
    if bytes_eq t (codes "transmit") then verb.Transmit else if bytes_eq t (codes "copy") then verb.Copy else
    if bytes_eq t (codes "lose") then verb.Lose else if bytes_eq t (codes "arrive") then verb.Arrive else
    if bytes_eq t (codes "finish") then verb.Finish else if bytes_eq t (codes "checkpoint") then verb.Checkpoint else
    if bytes_eq t (codes "trim") then verb.Trim else if bytes_eq t (codes "crash") then verb.Crash else
    if bytes_eq t (codes "recover") then verb.Recover else if bytes_eq t (codes "alone") then verb.Alone else
    if bytes_eq t (codes "replay") then verb.Replay else if bytes_eq t (codes "resync") then verb.Resync else verb.Drive

back : (v : Verb) → verb_at (verb_text v) ≡ v
unfolding verb_at
back verb.Input = refl
back v = refl

one_verb : (v w : Verb) → verb_text v ≡ verb_text w → v ≡ w
one_verb v w e = sym (back v) ∙ ap verb_at e ∙ back w

-- a text that is none of the words in the list is none of an order
pub every_verb : (text : List ℕ) → AllByRecursion (λ v. text ≢ verb_text v) VERBS → (v : Verb) → text ≢ verb_text v
every_verb text none verb.Input = none.0
every_verb text none verb.Bytes = none.1.0
every_verb text none verb.Transmit = none.1.1.0
every_verb text none verb.Copy = none.1.1.1.0
every_verb text none verb.Lose = none.1.1.1.1.0
every_verb text none verb.Arrive = none.1.1.1.1.1.0
every_verb text none verb.Finish = none.1.1.1.1.1.1.0
every_verb text none verb.Checkpoint = none.1.1.1.1.1.1.1.0
every_verb text none verb.Trim = none.1.1.1.1.1.1.1.1.0
every_verb text none verb.Crash = none.1.1.1.1.1.1.1.1.1.0
every_verb text none verb.Recover = none.1.1.1.1.1.1.1.1.1.1.0
every_verb text none verb.Alone = none.1.1.1.1.1.1.1.1.1.1.1.0
every_verb text none verb.Replay = none.1.1.1.1.1.1.1.1.1.1.1.1.0
every_verb text none verb.Resync = none.1.1.1.1.1.1.1.1.1.1.1.1.1.0
every_verb text none verb.Drive = none.1.1.1.1.1.1.1.1.1.1.1.1.1.1.0

verb_bytes : (v : Verb) → list_all is_name_byte (verb_text v) ≡ true
verb_bytes verb.Input = refl
verb_bytes v = refl

-- the word of an order has no space
pub verb_lacks : (v : Verb) → Lacks 32 (verb_text v)
verb_lacks v = bytes_lack (verb_text v) (verb_bytes v)

-- no word of an order is that of a process
no_process : (v : Verb) → bytes_eq (verb_text v) (codes "process") ≡ false
no_process verb.Input = refl
no_process v = refl

-- and it isn't the one of a declaration
pub other_verb : (v : Verb) → verb_text v ≡ codes "process" → ⊥
other_verb v e = true≢false (sym (ap (λ t. bytes_eq t (codes "process")) e) ∙ no_process v)

-- orders with one line are of one kind
pub same_verb : (names : List (List ℕ)) (o p : Order) → order_text names o ≡ order_text names p → verb_of o ≡ verb_of p
same_verb names o p is = one_verb (verb_of o) (verb_of p) (one_cut 32 _ _ _ _ (verb_lacks (verb_of o)) (verb_lacks (verb_of p)) is).0

none_of : (names : List (List ℕ)) (v : Verb) (text : List ℕ) → NoOperands names v text → (o : Order) → IsInRange (length names) o → verb_of o ≡ v → text ≢ operands_text names o
none_of names v text h (order.Input to word) r e is = let no : NoOperands names verb.Input text = subst (λ w. NoOperands names w text) (sym e) h in no (to, word) r is
none_of names v text h (order.Bytes to payload) r e is = let no : NoOperands names verb.Bytes text = subst (λ w. NoOperands names w text) (sym e) h in no (to, payload) r is
none_of names v text h (order.Transmit from to ssn) r e is =
    let no : NoOperands names verb.Transmit text = subst (λ w. NoOperands names w text) (sym e) h in no (from, (to, ssn)) (r.0, (r.1, r.2)) is
none_of names v text h (order.Copy key) r e is = let no : NoOperands names verb.Copy text = subst (λ w. NoOperands names w text) (sym e) h in no key r is
none_of names v text h (order.Lose key) r e is = let no : NoOperands names verb.Lose text = subst (λ w. NoOperands names w text) (sym e) h in no key r is
none_of names v text h (order.Arrive key) r e is = let no : NoOperands names verb.Arrive text = subst (λ w. NoOperands names w text) (sym e) h in no key r is
none_of names v text h (order.Finish p) r e is = let no : NoOperands names verb.Finish text = subst (λ w. NoOperands names w text) (sym e) h in no p r is
none_of names v text h (order.Checkpoint p) r e is = let no : NoOperands names verb.Checkpoint text = subst (λ w. NoOperands names w text) (sym e) h in no p r is
none_of names v text h (order.Trim to) r e is = let no : NoOperands names verb.Trim text = subst (λ w. NoOperands names w text) (sym e) h in no to r is
none_of names v text h (order.Crash p) r e is = let no : NoOperands names verb.Crash text = subst (λ w. NoOperands names w text) (sym e) h in no p r is
none_of names v text h (order.Recover p) r e is = let no : NoOperands names verb.Recover text = subst (λ w. NoOperands names w text) (sym e) h in no p r is
none_of names v text h (order.RecoverAlone p) r e is = let no : NoOperands names verb.Alone text = subst (λ w. NoOperands names w text) (sym e) h in no p r is
none_of names v text h (order.ReplayBegin p) r e is = let no : NoOperands names verb.Replay text = subst (λ w. NoOperands names w text) (sym e) h in no p r is
none_of names v text h (order.Resync p peer) r e is = let no : NoOperands names verb.Resync text = subst (λ w. NoOperands names w text) (sym e) h in no (p, peer) r is
none_of names v text h (order.Drive budget) r e is = let no : NoOperands names verb.Drive text = subst (λ w. NoOperands names w text) (sym e) h in no budget r is

-- what has no space is no order's line
pub no_space : (names : List (List ℕ)) (line : List ℕ) → Lacks 32 line → ReadsOrder names line None
no_space names line lacks o r is = has_cut 32 (verb_text (verb_of o)) (operands_text names o) (subst (λ (t : List ℕ). Lacks 32 t) is lacks)

module _ (names : List (List ℕ)) (line word operands : List ℕ) (whole : line ≡ word ++ 32 ∷ operands) (first : Lacks 32 word) where
  parts : (o : Order) → line ≡ order_text names o → (word ≡ verb_text (verb_of o)) × (operands ≡ operands_text names o)
  parts o is = one_cut 32 word operands (verb_text (verb_of o)) (operands_text names o) first (verb_lacks (verb_of o)) (sym whole ∙ is)

  -- nor what begins with none of the words
  pub no_verb : ReadsVerb word None → ReadsOrder names line None
  no_verb none o r is = none (verb_of o) (parts o is).0

  -- the operands of its kind decide
  pub order_reads : (v : Verb) (result : Option Order) → word ≡ verb_text v → ReadsOperands names v operands result → ReadsOrder names line result
  order_reads v (Some o) named h = (whole ∙ ap₂ (λ a b. a ++ 32 ∷ b) (named ∙ ap verb_text (sym h.0)) h.1, h.2)
  order_reads v None named h = λ o r is.
      let cut = parts o is in
      none_of names v operands h o r (one_verb (verb_of o) v (sym cut.0 ∙ named)) cut.1
