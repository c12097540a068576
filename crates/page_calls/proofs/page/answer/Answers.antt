use Rattle.std.proofs.Common.{◌≡◌, ◌∙◌, ◌++◌, List, ap, inl, inr, length, map, rules, string_bytes, subst}
use Rattle.std.specs.Prelude.{ℕ}
use Rattle.page_calls.specs.Calls.{IsAnswer}
use Rattle.page_calls.specs.Parts.{parts_of}
use Rattle.page_calls.proofs.CallLemmas.{not-call}
use Rattle.page_calls.proofs.page.answer.Goals as goal

pub returns-in-Err-clause-misfit : goal.returns-in-Err-clause-misfit
returns-in-Err-clause-misfit c = not-call _ c.in-Err.misfit c.in-Err.ensures.fault (λ e. inl (c.in-Err.ensures.misfit e))

pub returns-in-Err-cut_texts-clause-misfit : goal.returns-in-Err-cut_texts-clause-misfit
returns-in-Err-cut_texts-clause-misfit c = not-call _ c.in-Err-cut_texts.misfit c.in-Err-cut_texts.ensures.fault (λ e. inr (inl (c.in-Err-cut_texts.ensures.misfit e)))

pub returns-in-Err-cut_bytes-clause-misfit : goal.returns-in-Err-cut_bytes-clause-misfit
returns-in-Err-cut_bytes-clause-misfit c = not-call _ c.in-Err-cut_bytes.misfit c.in-Err-cut_bytes.ensures.fault (λ e. inr (inr (inl (c.in-Err-cut_bytes.ensures.misfit e))))

pub returns-clause-answered : goal.returns-clause-answered
returns-clause-answered c =
    let words : map string_bytes c.cut_texts.new.texts.items ≡ parts_of c.args.words.now c.args.word_lengths.now =
    c.in_default.ensures.parts ∙ ap (λ ts. map string_bytes ts ++ parts_of c.args.words.now c.args.word_lengths.now) c.new-all_words.ensures.items in
    let names : map string_bytes c.cut_texts-2.new.texts.items ≡ parts_of c.args.names.now c.args.name_lengths.now =
    c.in_default-cut_texts.ensures.parts ∙ ap (λ ts. map string_bytes ts ++ parts_of c.args.names.now c.args.name_lengths.now) c.new-all_names.ensures.items in
    let files : map (λ v. v.items) c.cut_bytes.new.parts.items ≡ parts_of c.args.files.now c.args.file_lengths.now =
    c.in_default-cut_bytes.ensures.parts ∙ ap (λ ts. map (λ v. v.items) ts ++ parts_of c.args.files.now c.args.file_lengths.now) c.new-all_files.ensures.items in
    let as_many : length c.args.name_lengths.now ≡ length c.args.file_lengths.now = search rules in
    let answer = subst (λ (ws : List (List ℕ)). IsAnswer ws (map string_bytes c.cut_texts-2.new.texts.items) (map (λ v. v.items) c.cut_bytes.new.parts.items) c.carry_out.result) words c.carry_out.ensures.answer in
    let named = subst (λ (ns : List (List ℕ)). IsAnswer (parts_of c.args.words.now c.args.word_lengths.now) ns (map (λ v. v.items) c.cut_bytes.new.parts.items) c.carry_out.result) names answer in (
      (c.in_default.ensures.filled, c.in_default-cut_texts.ensures.filled, c.in_default-cut_bytes.ensures.filled, as_many),
      subst (λ (fs : List (List ℕ)). IsAnswer (parts_of c.args.words.now c.args.word_lengths.now) (parts_of c.args.names.now c.args.name_lengths.now) fs c.carry_out.result) files named,
    )
