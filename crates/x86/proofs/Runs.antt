-- Code runs one way.
use Rattle.std.proofs.Common.{◌≡◌, ℕ, zero, suc, ◌+◌, ◌%◌, ◌^◌, List, [], ◌∷◌, ◌++◌, length, drop, Some, sym, ap, ◌∙◌, subst, arith}
use Rattle.std.specs.Prelude.{slice_get}
use Rattle.x86.specs.declared.instruction.Instr.{Instr}
use Rattle.x86.specs.Encoding.{bytes_of}
use Rattle.x86.specs.Machine.{State, Outcome, Goes, Leaps, Returns, Stuck, by_outcome, extended, act, HasAt, Runs}
use Rattle.x86.specs.Readings.{IsPlain}
use Rattle.x86.specs.Runs.{RunOneWay}
use Rattle.x86.proofs.Forms.{tell_one}
use Rattle.x86.proofs.Plain.{plain, bytes_plain, act_plain}
use Rattle.x86.proofs.Effects.{Does, plain_is}

-- ---- bytes at a place

byte_there : (code : List ℕ) (place b : ℕ) → slice_get code place ≡ Some b → drop place code ≡ b ∷ drop (place + 1) code
byte_there [] place b e = cc
byte_there (x ∷ xs) zero b e = let f : x ≡ b = cc in ap (λ y. y ∷ xs) f
byte_there (x ∷ xs) (suc p) b e =
    let n : suc p + 1 ≡ suc (p + 1) = omega arith in
    byte_there xs p b e ∙ ap (λ k. b ∷ drop k (x ∷ xs)) (sym n)

bytes_there : (code : List ℕ) (place : ℕ) (bs : List ℕ) → HasAt code place bs → drop place code ≡ bs ++ drop (place + length bs) code
bytes_there code place [] h = let n : place + 0 ≡ place = omega arith in ap (λ k. drop k code) (sym n)
bytes_there code place (b ∷ bs) h =
    let n : place + 1 + length bs ≡ place + length (b ∷ bs) = omega arith in
    byte_there code place b h.0
    ∙ ap (λ l. b ∷ l) (bytes_there code (place + 1) bs h.1)
    ∙ ap (λ k. b ∷ bs ++ drop k code) n

-- ---- a step

module _ (code : List ℕ) (n : ℕ) (last : State) where
  -- behind so many bytes the run goes on
  abbrev Rest : State → ℕ → Outcome → Type 0
  Rest c p o =
      by_outcome o (λ c'. Runs code n p c' last) (λ d. Runs code n ((p + extended d) % 2 ^ 64) c last) ((n ≡ 0) × (last ≡ c)) ⊥

  does : (c : State) (p : ℕ) (o : Outcome) → Rest c p o → Does o
  does c p (Goes d) r = tt
  does c p (Leaps d) r = tt
  does c p Returns r = tt
  does c p Stuck r = absurd r

  record Steps (place : ℕ) (c : State) : Type 0 where
    i : Instr
    is_plain : IsPlain i
    there : HasAt code place (bytes_of i)
    rest : Rest c (place + length (bytes_of i)) (act i c)

  -- each step is one of a plain instruction
  steps : (place : ℕ) (c : State) → Runs code (suc n) place c last → Steps place c
  steps place c r =
      let i = r.0 in
      let p = place + length (bytes_of i) in
      let e = bytes_plain i in
      let s : Rest c p (act (plain i) c) = act_plain c (λ c'. Runs code n p c' last) (λ d. Runs code n ((p + extended d) % 2 ^ 64) c last) ((n ≡ 0) × (last ≡ c)) (λ d k f h. subst (λ x. Runs code n ((p + x) % 2 ^ 64) c last) f h) i r.2 in record {
        i = plain i;
        is_plain = plain_is i c (does c p (act i c) r.2);
        there = subst (HasAt code place) (sym e) r.1;
        rest = subst (λ bs. Rest c (place + length bs) (act (plain i) c)) (sym e) s;
      }

-- ---- runs

module _ (code : List ℕ) where
  -- what follows a step is one run
  rest_one : (n m p : ℕ) (c last last' : State) (o : Outcome) → ((place : ℕ) (d : State) → Runs code n place d last → Runs code m place d last' → last ≡ last') → Rest code n last c p o → Rest code m last' c p o → last ≡ last'
  rest_one n m p c last last' (Goes d) more r s = more p d r s
  rest_one n m p c last last' (Leaps d) more r s = more ((p + extended d) % 2 ^ 64) c r s
  rest_one n m p c last last' Returns more r s = r.1 ∙ sym s.1
  rest_one n m p c last last' Stuck more r s = absurd r

  runs_one : (n m place : ℕ) (c last last' : State) → Runs code n place c last → Runs code m place c last' → last ≡ last'
  runs_one zero m place c last last' r s = absurd r
  runs_one (suc n) zero place c last last' r s = absurd s
  runs_one (suc n) (suc m) place c last last' r s =
      let a = steps code n last place c r in
      let b = steps code m last' place c s in
      let e = sym (bytes_there code place (bytes_of a.i) a.there) ∙ bytes_there code place (bytes_of b.i) b.there in
      let same = (tell_one a.i b.i _ _ a.is_plain b.is_plain e).0 in
      rest_one n m (place + length (bytes_of a.i)) c last last' (act a.i c) (λ q d x y. runs_one n m q d last last' x y) a.rest (subst (λ j. Rest code m last' c (place + length (bytes_of j)) (act j c)) (sym same) b.rest)

pub run_one_way : RunOneWay
run_one_way code n m place c last last' r s = runs_one code n m place c last last' r s
