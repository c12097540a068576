use Rattle.std.proofs.Common.{◌≡◌, ◌∙◌, Bool, true, false, [], None, Some, ap, map, string_bytes, subst, sym, true≢false}
use Rattle.std.specs.Prelude.{◌||◌}
use Rattle.std.specs.Str.{bytes_eq}
use Rattle.image_commands.specs.Hints.{AreHints, has_hints}
use Rattle.tracer.specs.Program.{IsDone, IsTold}
use Rattle.page_calls.specs.Shelf.{content_with}
use Rattle.page_calls.specs.declared.sheet.Sheet.{Sheet}
use Rattle.page_calls.proofs.calls.carry_out_in.Goals as goal

-- a sheet that was empty is so without hints
silent : (hints : Bool) (s s' : Sheet) → string_bytes s.text ≡ [] → AreHints (λ (x : Sheet). Some (string_bytes x.text)) (λ (x : Sheet). x.failed) hints s s'
    → hints ≡ false → string_bytes s'.text ≡ []
silent false s s' empty same none = ap (λ (x : Sheet). string_bytes x.text) same ∙ empty
silent true s s' empty said none = absurd (true≢false none)

pub returns-clause-answer : goal.returns-clause-answer
returns-clause-answer g c =
    let shelf = c.sblog_alone-status.new.files in
    let out = c.sblog_alone-status.new.out in
    let err = c.sblog_alone-status.new.err in
    let words = map string_bytes c.args.words.items in
    let names = map string_bytes c.args.names.items in
    let files = map (λ v. v.items) c.args.files.items in
    let before = content_with None names files in
    let same_names : map string_bytes shelf.names.items ≡ names = shelf.same_names ∙ sym c.requires.names in
    let same_files : map (λ v. v.items) shelf.files.items ≡ files = shelf.same_files ∙ sym c.requires.files in
    let same : content_with shelf.written (map string_bytes shelf.names.items) (map (λ v. v.items) shelf.files.items) ≡ content_with shelf.written names files =
    ap (λ ns. content_with shelf.written ns (map (λ v. v.items) shelf.files.items)) same_names ∙ ap (λ fs. content_with shelf.written names fs) same_files in (
      (λ zero. let done = c.sblog_alone-status.ensures.done zero in (
        subst (λ after. IsDone words before after (Some []) (Some (string_bytes out.text))) same
            (subst (λ o. IsDone words before (content_with shelf.written (map string_bytes shelf.names.items) (map (λ v. v.items) shelf.files.items))
            (Some o) (Some (string_bytes out.text))) c.new-out.ensures.empty
            (subst (λ ws. IsDone (map string_bytes ws) before (content_with shelf.written (map string_bytes shelf.names.items) (map (λ v. v.items) shelf.files.items))
            (Some (string_bytes c.new-out.result.text)) (Some (string_bytes out.text))) c.as_slice.ensures.value
            done.0)),
        silent (has_hints words) c.new-err.result err c.new-err.ensures.empty
            (subst (λ ws. AreHints (λ (x : Sheet). Some (string_bytes x.text)) (λ (x : Sheet). x.failed) (has_hints (map string_bytes ws)) c.new-err.result err) c.as_slice.ensures.value done.1),
      )),
      (λ other. (
        (
          _,
          _,
          subst (λ e. IsTold words before bytes_eq (shelf.failed || out.failed) err.failed (Some e) (Some (string_bytes err.text)) c.sblog_alone-status.result) c.new-err.ensures.empty
              (subst (λ ws. IsTold (map string_bytes ws) before bytes_eq (shelf.failed || out.failed) err.failed (Some (string_bytes c.new-err.result.text))
              (Some (string_bytes err.text)) c.sblog_alone-status.result) c.as_slice.ensures.value
              (c.sblog_alone-status.ensures.told other)),
        ),
        sym same ∙ c.sblog_alone-status.ensures.kept other,
      )),
    )
