-- Lines of a scenario, and the processes and steps that they add.
use Rattle.std.proofs.Common.{◌≡◌, ◌≢◌, ◌<◌, ◌+◌, ℕ, zero, suc, Bool, true, false, List, [], ◌∷◌, ◌++◌, length, map, get_or, Option, Some, None, refl, sym, ap, subst, ◌∙◌, arith, rules, cond, true≢false, append_assoc, append-nil, Bor}
use Rattle.std.specs.Prelude.{◌==◌, codes, position, String}
use Rattle.std.specs.declared.alloc.Global.{Global}
use Rattle.std.specs.String.{string_bytes}
use Rattle.std.specs.Str.{bytes_eq}
use Rattle.std.specs.List.{AllByRecursion, onto_first}
use Rattle.std.proofs.lemmas.Bool.Decides.{nat_tests}
use Rattle.std.proofs.lemmas.List.{length-append, length-map}
use Rattle.indexmap.specs.IndexMap.{insert_entry}
use Rattle.scenario.specs.declared.order.Order.{Order}
use Rattle.scenario.specs.declared.order.Allowed.{Allowed}
use Rattle.scenario.specs.declared.order.Allowed.TheVariants.{All, Inputs}
use Rattle.scenario.specs.declared.process.NamedProcess.{NamedProcess}
use Rattle.scenario.specs.declared.scenario.Step.{Step}
use Rattle.scenario.specs.Inside.Reads.{Lacks}
use Rattle.scenario.specs.Inside.Loop.{lines_left, Declares, HaveRead, ReadsDeclaration}
use Rattle.scenario.specs.Order.{IsName, IsInRange, is_input, order_text, takes, verb_of}
use Rattle.scenario.specs.Process.{names_in, declaration_text, IsDeclared, IsPath, IsFresh, AreDifferent, MayDeclare}
use Rattle.scenario.specs.Scenario.{lines_of, is_silent, rows, process_row, step_row, AreLines, IsFaulty, IsFault, IsRefusal, has_begun}
use Rattle.scenario.specs.declared.scenario.ScenarioError.TheVariants.{Line}
use Rattle.scenario.proofs.Cuts.{one_cut, has_cut}
use Rattle.scenario.proofs.Names.{bytes_lack, found, missing}
use Rattle.scenario.proofs.Orders.{other_verb, same_verb, verb_lacks}

-- ---- cutting a text into lines

cut_no : (c : ℕ) (x : List (List ℕ)) (y : List (List ℕ)) → (c ≡ 10 → ⊥) → cond (c == 10) x y ≡ y
cut_no c x y e = search (rules, nat_tests)

-- the first line ends at the first line feed
pub lines_cut : (a b : List ℕ) → Lacks 10 a → lines_of (a ++ 10 ∷ b) ≡ a ∷ lines_of b
lines_cut [] b la = refl
lines_cut (c ∷ cs) b la =
    cut_no c ([] ∷ lines_of (cs ++ 10 ∷ b)) (onto_first c (lines_of (cs ++ 10 ∷ b))) la.0 ∙ ap (λ (x : List (List ℕ)). onto_first c x) (lines_cut cs b la.1)

-- a text without a line feed is one line
pub lines_end : (a : List ℕ) → Lacks 10 a → lines_of a ≡ a ∷ []
lines_end [] la = refl
lines_end (c ∷ cs) la = cut_no c ([] ∷ lines_of cs) (onto_first c (lines_of cs)) la.0 ∙ ap (λ (x : List (List ℕ)). onto_first c x) (lines_end cs la.1)

-- ---- declarations

-- the word of a declaration has no space
pub process_lacks : Lacks 32 (codes "process")
process_lacks = bytes_lack (codes "process") refl

module _ (text word operands : List ℕ) (whole : text ≡ word ++ 32 ∷ operands) (first : Lacks 32 word) where
  -- a declaration's word and operands are the parts before and after its first space
  pub declared_parts : (n p : List ℕ) → text ≡ declaration_text n p → (word ≡ codes "process") × (operands ≡ n ++ 32 ∷ p)
  declared_parts n p is = one_cut 32 word operands (codes "process") (n ++ 32 ∷ p) first process_lacks (sym whole ∙ is)

  -- another word
  pub other_word : (names : List (List ℕ)) (begun : Bool) → word ≢ codes "process" → ReadsDeclaration names begun text None
  other_word names begun other n p may is = other (declared_parts n p is).0

  -- no path
  pub no_path : (names : List (List ℕ)) (begun : Bool) → Lacks 32 operands → ReadsDeclaration names begun text None
  no_path names begun lacks n p may is = has_cut 32 n p (subst (λ (t : List ℕ). Lacks 32 t) (declared_parts n p is).1 lacks)

  module _ (name path : List ℕ) (cut : operands ≡ name ++ 32 ∷ path) (before : Lacks 32 name) where
    -- a line has one name and one path
    pub both_parts : (n p : List ℕ) → IsName n → text ≡ declaration_text n p → (name ≡ n) × (path ≡ p)
    both_parts n p named is = one_cut 32 name path n p before (bytes_lack n named.bytes) (sym cut ∙ (declared_parts n p is).1)

    -- a name that is none
    pub no_name : (names : List (List ℕ)) (begun : Bool) → (IsName name → ⊥) → ReadsDeclaration names begun text None
    no_name names begun bad n p may is = bad (subst (λ (t : List ℕ). IsName t) (sym (both_parts n p may.named is).0) may.named)

    -- a path that is none
    pub bad_path : (names : List (List ℕ)) (begun : Bool) → (IsPath path → ⊥) → ReadsDeclaration names begun text None
    bad_path names begun bad n p may is = bad (subst (λ (t : List ℕ). IsPath t) (sym (both_parts n p may.named is).1) may.pathed)

    -- a name that was declared before
    pub name_taken : (names : List (List ℕ)) (begun : Bool) → (IsFresh name names → ⊥) → ReadsDeclaration names begun text None
    name_taken names begun bad n p may is = bad (subst (λ (t : List ℕ). IsFresh t names) (sym (both_parts n p may.named is).0) may.fresh)

    -- the word of a declaration, and a name and a path after it
    pub declares : word ≡ codes "process" → text ≡ declaration_text name path
    declares is = whole ∙ (λ k. is k ++ 32 ∷ cut k)

-- ---- fresh names

-- a name that is at no place among the others is fresh
pub fresh_of : (name : List ℕ) (names : List (List ℕ)) → ((i : ℕ) → i < length names → name ≢ get_or names i []) → IsFresh name names
fresh_of name [] h = tt
fresh_of name (x ∷ xs) h = (λ e. h 0 (omega arith) (sym e), fresh_of name xs (λ i lt. h (suc i) (omega (arith, lt))))

-- and a fresh name is at none
pub fresh_at : (name : List ℕ) (names : List (List ℕ)) (i : ℕ) → IsFresh name names → i < length names → name ≢ get_or names i []
fresh_at name [] i h lt = absurd (omega arith)
fresh_at name (x ∷ xs) zero h lt = λ e. h.0 (sym e)
fresh_at name (x ∷ xs) (suc i) h lt = fresh_at name xs i h.1 (omega arith)

-- a name that isn't found is fresh
pub is_fresh : (name : List ℕ) (names : List (List ℕ)) → position (bytes_eq name) names ≡ None → IsFresh name names
is_fresh name names none = fresh_of name names (missing names name none)

-- and one that is found isn't
pub is_taken : (name : List ℕ) (names : List (List ℕ)) (i : ℕ) → position (bytes_eq name) names ≡ Some i → IsFresh name names → ⊥
is_taken name names i some fresh = let at = found names name i some in fresh_at name names i fresh at.1 at.0

-- ---- lists that get one more

map_push : {A B : Type 0} (f : A → B) (xs : List A) (x : A) → map f (xs ++ x ∷ []) ≡ map f xs ++ f x ∷ []
map_push f [] x = refl
map_push f (y ∷ ys) x = ap (λ t. f y ∷ t) (map_push f ys x)

all_push : {A : Type 0} (P : A → Type 0) (xs : List A) (x : A) → AllByRecursion P xs → P x → AllByRecursion P (xs ++ x ∷ [])
all_push P [] x h p = (p, tt)
all_push P (y ∷ ys) x h p = (h.0, all_push P ys x h.1 p)

different_push : (names : List (List ℕ)) (name : List ℕ) → AreDifferent names → IsFresh name names → AreDifferent (names ++ name ∷ [])
different_push [] name h fresh = (tt, tt)
different_push (x ∷ xs) name h fresh = (all_push (λ y. y ≢ x) xs name h.0 (λ e. fresh.0 (sym e)), different_push xs name h.1 fresh.1)

-- the names of declared processes are names
pub named_of : (es : List (String Global × NamedProcess)) → AllByRecursion IsDeclared es → AllByRecursion IsName (names_in es)
named_of [] h = tt
named_of (e ∷ es) h = (h.0.0, named_of es h.1)

skip : {A : Type 0} (b : Bool) (x y : A) → (b ≡ true → ⊥) → cond b x y ≡ y
skip true x y h = absurd (h refl)
skip false x y h = refl

-- a fresh key goes last
pub insert_new : (eq : String Global → String Global → Bool) → ((a b : String Global) → eq a b ≡ true → string_bytes a ≡ string_bytes b)
    → (es : List (String Global × NamedProcess)) (k : String Global) (v : NamedProcess) → IsFresh (string_bytes k) (names_in es) → insert_entry eq es k v ≡ es ++ (k, v) ∷ []
insert_new eq same [] k v h = refl
insert_new eq same (e ∷ es) k v h = skip (eq k e.0) ((e.0, v) ∷ es) (e ∷ insert_entry eq es k v) (λ t. h.0 (sym (same k e.0 t))) ∙ ap (λ l. e ∷ l) (insert_new eq same es k v h.1)

-- ---- rows

rows_cond : (b : Bool) (p : ℕ × List ℕ) (x z : List (ℕ × List ℕ)) → cond b (x ++ z) (p ∷ (x ++ z)) ≡ cond b x (p ∷ x) ++ z
rows_cond true p x z = refl
rows_cond false p x z = refl

-- the rows of more lines are numbered after those of the first
pub rows_append : (n : ℕ) (a b : List (List ℕ)) → rows n (a ++ b) ≡ rows n a ++ rows (n + length a) b
rows_append n [] b = let at : n ≡ n + 0 = omega arith in ap (λ k. rows k b) at
rows_append n (l ∷ ls) b =
    let at : n + 1 + length ls ≡ n + length (l ∷ ls) = omega arith in
    ap (λ x. cond (is_silent l) x ((n, l) ∷ x)) (rows_append (n + 1) ls b ∙ ap (λ k. rows (n + 1) ls ++ rows k b) at)
    ∙ rows_cond (is_silent l) (n, l) (rows (n + 1) ls) (rows (n + length (l ∷ ls)) b)

silent_row : (b : Bool) (p : ℕ × List ℕ) → b ≡ true → cond b [] (p ∷ []) ≡ []
silent_row true p e = refl
silent_row false p e = absurd cc

spoken_row : (b : Bool) (p : ℕ × List ℕ) → b ≡ false → cond b [] (p ∷ []) ≡ p ∷ []
spoken_row false p e = refl
spoken_row true p e = absurd cc

module _ (allowed : Allowed) (before : List (List ℕ)) (line : List ℕ) where
  rows_silent : is_silent line ≡ true → rows 1 (before ++ line ∷ []) ≡ rows 1 before
  rows_silent e =
      rows_append 1 before (line ∷ []) ∙ ap (λ x. rows 1 before ++ x) (silent_row (is_silent line) (1 + length before, line) e) ∙ append-nil (rows 1 before)

  rows_spoken : is_silent line ≡ false → rows 1 (before ++ line ∷ []) ≡ rows 1 before ++ (1 + length before, line) ∷ []
  rows_spoken e = rows_append 1 before (line ∷ []) ∙ ap (λ x. rows 1 before ++ x) (spoken_row (is_silent line) (1 + length before, line) e)

  module _ (es : List (String Global × NamedProcess)) where
    silent_more : (ss : List Step) → AreLines allowed before es ss → is_silent line ≡ true → AreLines allowed (before ++ line ∷ []) es ss
    silent_more ss h e = record {
      few = h.few;
      declared = h.declared;
      different = h.different;
      ranged = h.ranged;
      taken = h.taken;
      written = rows_silent e ∙ h.written;
    }

    step_more : (ss : List Step) (x : Step) → AreLines allowed before es ss → is_silent line ≡ false → x.line ≡ length before + 1 → line ≡ order_text (names_in es) x.order → IsInRange (length (names_in es)) x.order
        → takes allowed x.order ≡ true → AreLines allowed (before ++ line ∷ []) es (ss ++ x ∷ [])
    step_more ss x h speaks number is range may =
        let names = names_in es in
        let at : 1 + length before ≡ x.line = omega (arith, number) in
        record {
          few = h.few;
          declared = h.declared;
          different = h.different;
          ranged = all_push (λ (y : Step). IsInRange (length names) y.order) ss x h.ranged range;
          taken = all_push (λ (y : Step). takes allowed y.order ≡ true) ss x h.taken may;
          written =
              rows_spoken speaks ∙ (λ k. h.written k ++ (at k, is k) ∷ [])
              ∙ append_assoc (map process_row es) (map (step_row names) ss) (step_row names x ∷ [])
              ∙ ap (λ t. map process_row es ++ t) (sym (map_push (step_row names) ss x));
        }

    process_more : (ss : List Step) (e : String Global × NamedProcess) → AreLines allowed before es ss → is_silent line ≡ false → e.1.line ≡ length before + 1
        → line ≡ declaration_text (string_bytes e.0) (string_bytes e.1.path) → MayDeclare (names_in es) (has_begun ss) (string_bytes e.0) (string_bytes e.1.path)
        → AreLines allowed (before ++ line ∷ []) (es ++ e ∷ []) ss
    process_more (x ∷ xs) e h speaks number is may = absurd (let wrong : has_begun (x ∷ xs) ≡ true = search (rules, nat_tests) in let no_more = may.first in cc)
    process_more [] e h speaks number is may =
        let at : 1 + length before ≡ e.1.line = omega (arith, number) in
        let names = map_push (λ (y : String Global × NamedProcess). string_bytes y.0) es e in
        record {
          few = omega (arith, length-append es (e ∷ []), length-map es (λ (y : String Global × NamedProcess). string_bytes y.0), may.room);
          declared = all_push IsDeclared es e h.declared (may.named, may.pathed);
          different = subst (λ (t : List (List ℕ)). AreDifferent t) (sym names) (different_push (names_in es) (string_bytes e.0) h.different may.fresh);
          ranged = tt;
          taken = tt;
          written =
              rows_spoken speaks ∙ (λ k. (h.written ∙ append-nil (map process_row es)) k ++ (at k, is k) ∷ [])
              ∙ sym (map_push process_row es e) ∙ sym (append-nil (map process_row (es ++ e ∷ [])));
        }

-- ---- reading on

module _ (allowed : Allowed) (text : List ℕ) (here : Bor (List ℕ)) (line : List ℕ) (rest : Option (Bor (List ℕ))) (n : ℕ) (es : List (String Global × NamedProcess)) (ss : List Step)
    (h : HaveRead allowed text (Some here) n es ss) (cut : lines_of here.now ≡ line ∷ lines_left rest) where
  whole_now : lines_of text ≡ h.before ++ line ∷ lines_left rest
  whole_now = h.whole ∙ ap (λ (x : List (List ℕ)). h.before ++ x) cut

  whole_then : lines_of text ≡ (h.before ++ line ∷ []) ++ lines_left rest
  whole_then = whole_now ∙ sym (append_assoc h.before (line ∷ []) (lines_left rest))

  counted : n + 1 ≡ length (h.before ++ line ∷ [])
  counted = omega (arith, length-append h.before (line ∷ []), h.number_is)

  -- an empty line or a comment is read
  pub read_silent : is_silent line ≡ true → HaveRead allowed text rest (n + 1) es ss
  read_silent e = record { before = h.before ++ line ∷ []; whole = whole_then; number_is = counted; fine = silent_more allowed h.before line es ss h.fine e }

  -- a line of an order is read, and its step is the last
  pub read_step : (x : Step) → x.line ≡ n + 1 → is_silent line ≡ false → line ≡ order_text (names_in es) x.order → IsInRange (length (names_in es)) x.order → takes allowed x.order ≡ true → HaveRead allowed text rest (n + 1) es (ss ++ x ∷ [])
  read_step x number speaks is range may = record {
    before = h.before ++ line ∷ [];
    whole = whole_then;
    number_is = counted;
    fine = step_more allowed h.before line es ss x h.fine speaks (omega (arith, number, h.number_is)) is range may;
  }

  -- a line of a process is read, and it is the last
  pub read_process : (name path : List ℕ) (new : List (String Global × NamedProcess)) → is_silent line ≡ false → line ≡ declaration_text name path → MayDeclare (names_in es) (has_begun ss) name path
      → Declares (n + 1) name path es new → HaveRead allowed text rest (n + 1) new ss
  read_process name path new speaks is may d =
      let may_bytes = subst (λ (t : List ℕ). MayDeclare (names_in es) (has_begun ss) t (string_bytes d.entry.1.path)) (sym d.name_is)
      (subst (λ (t : List ℕ). MayDeclare (names_in es) (has_begun ss) name t) (sym d.path_is) may) in
      let is_bytes : line ≡ declaration_text (string_bytes d.entry.0) (string_bytes d.entry.1.path) = is ∙ (λ k. declaration_text (sym d.name_is k) (sym d.path_is k)) in
      record {
        before = h.before ++ line ∷ [];
        whole = whole_then;
        number_is = counted;
        fine = subst (λ (t : List (String Global × NamedProcess)). AreLines allowed (h.before ++ line ∷ []) t ss) (sym d.last)
            (process_more allowed h.before line es ss d.entry h.fine speaks (omega (arith, d.line_is, h.number_is)) is_bytes may_bytes);
      }

  -- an order that may not be here
  takes_verb : (o p : Order) → verb_of o ≡ verb_of p → takes allowed o ≡ takes allowed p
  takes_verb o p same = by allowed
    where
      by : (k : Allowed) → takes k o ≡ takes k p
      by All = refl
      by Inputs = ap is_input same

  -- a line of such an order is faulty
  pub not_taken : (o : Order) → is_silent line ≡ false → line ≡ order_text (names_in es) o → takes allowed o ≡ false → IsFaulty allowed es ss line
  not_taken o speaks is refused = record {
    speaks = speaks;
    no_process = λ name path may declares.
        other_verb (verb_of o) (one_cut 32 _ _ _ _ (verb_lacks (verb_of o)) process_lacks (sym is ∙ declares)).0;
    no_order = λ p range may orders_it.
        true≢false (sym may ∙ takes_verb p o (same_verb (names_in es) p o (sym orders_it ∙ is)) ∙ refused);
  }

  -- the first faulty line is what the text is refused for
  pub is_fault : IsFaulty allowed es ss line → IsRefusal allowed text (Line (n + 1))
  is_fault faulty = by (n + 1) (omega arith) (record {
    before = h.before;
    line = line;
    after = lines_left rest;
    whole = whole_now;
    number_is = omega (arith, h.number_is);
    entries = es;
    steps = ss;
    fine = h.fine;
    faulty = faulty;
  })
    where
      by : (m : ℕ) → 0 < m → IsFault allowed text m → IsRefusal allowed text (Line m)
      by zero lt f = absurd (omega arith)
      by (suc m) lt f = f
