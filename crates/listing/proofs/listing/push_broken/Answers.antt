use Rattle.std.proofs.Common.{◌≡◌, ◌∙◌, ◌++◌, List, ℕ, codes, string_bytes, length, ap, append_assoc, rules, subst, OnOk}
use Rattle.std.specs.Fmt.{decimal}
use Rattle.regtypes.specs.Rules.{rule_number}
use Rattle.verifier.specs.FileForm.{file_form_number}
use Rattle.listing.specs.Sentence.{advice, cause_text}
use Rattle.listing.specs.Study.{form_of}
use Rattle.listing.proofs.Written.{third}
use Rattle.listing.proofs.listing.push_broken.Goals as goal

pub returns : goal.returns
returns c =
    let s = c.args.study.now in
    let one = string_bytes c.write.new.self in
    let two = string_bytes c.push_cause.new.out in
    let new = string_bytes c.write-2.new.self in
    let r = c.write-2.result in
    let slots = length s.slots.items in
    let v : List ℕ = codes "    refused by V" ++ decimal (rule_number c.args.rule) in
    let a : List ℕ = v ++ codes ": " in
    let b = cause_text (file_form_number (form_of s.form s.table)) slots c.args.slot c.args.cause in
    let said : ℕ → ℕ → List ℕ = λ form n. one ++ cause_text form n c.args.slot c.args.cause in
    let count : c.len.result ≡ slots = search rules in
    let first : one ≡ string_bytes c.args.out.now ++ a = rw (← c.number-number.ensures) c.in_ok-write.ensures.bytes in
    let second : two ≡ one ++ b = c.in_ok-push_cause.ensures ∙ ap (λ f. said f c.len.result) c.form_number.ensures ∙ ap (said (file_form_number (form_of s.form s.table))) count in
    let advised = subst (λ t. OnOk r (new ≡ two ++ (codes "\n    to do: " ++ (t ++ codes "\n")))) c.advice-advice.ensures c.write-2.ensures.bytes in
    let e : List ℕ = codes "\n    to do: " ++ (advice c.args.view.now c.args.rule c.args.cause ++ codes "\n") in
    third r (string_bytes c.args.out.now) a one b two e new _ first second (append_assoc v (codes ": ") (b ++ e)) advised
