use Rattle.std.proofs.Common.{◌≡◌, ◌+◌, ◌++◌, ℕ, List, sym, ap, subst, arith}
use Rattle.std.proofs.lemmas.Result.{err_from_is_err_and}
use Rattle.packets.specs.declared.kept.Kept.{Kept}
use Rattle.packets.specs.Kept.{kept_bytes}
use Rattle.packets.proofs.Codecs.{IsBytes, IsBytes-drop}
use Rattle.node.specs.Node.{TheNode}
use Rattle.node.specs.Kept.{kept_of}
use Rattle.node.specs.Suspension.{rest_bytes}
use Rattle.node.proofs.Preservation.{kept-comes}
use Rattle.recovery.specs.declared.rest.Rest.{Rest}
use Rattle.recovery.specs.Resumption.{text_at, rest_at, rest_of}
use Rattle.recovery.proofs.Resumptions.{sum_of, text-reads, text-found, kept-is, rest-reads, rest-found, rest-wide, text-fits, fails-finds, finds-same}
use Rattle.recovery.proofs.resumption.parts_of.Goals as goal
use Rattle.recovery.proofs.resumption.parts_of.Goals.{then-rest-lt1-via-then-rest-lt1, then-rest-lt1-via-else-rest-lt1+then-rest-ge-NUMBER_LIMIT}

-- these are the parts of this node
abbrev AreOf : TheNode → Kept × Rest → Type 0
AreOf n x = (x.0 ≡ kept_of n) × (x.1 ≡ rest_of n)

pub returns-in_err-text-clause-only : goal.returns-in_err-text-clause-only
returns-in_err-text-clause-only c n is =
    let p = err_from_is_err_and c.from_residual.result c.from_residual.ensures.1 in
    let read = text-reads n c.args.bytes.now c.split_at.result.1.now is c.split_at.ensures.back in
    rw (p.1, p.2) (fails-finds (λ (x : Kept × Rest). AreOf n x) c.in_err-text.field-0.0 (text_at c.split_at.result.1.now) (kept_bytes (kept_of n), rest_bytes n ++ sum_of n) c.in_err-text.ensures read)

pub returns-in_err-kept-clause-only : goal.returns-in_err-kept-clause-only
returns-in_err-kept-clause-only c n is =
    let p = err_from_is_err_and c.from_residual-in_err-kept.result c.from_residual-in_err-kept.ensures.1 in
    let text = text-found n c.args.bytes.now c.split_at.result.1.now c.in_ok-text.text.now c.in_ok-text.after.now is c.split_at.ensures.back c.in_ok-text.ensures in
    let found = c.in_err-kept.ensures.only (kept_of n) (kept-is n c.args.bytes.now c.in_ok-text.text.now is text.0) (kept-comes n is.within) in
    rw (p.1, p.2) (finds-same (λ (k : Kept). k ≡ kept_of n) (λ (x : Kept × Rest). AreOf n x) c.in_err-kept.field-0.0 found)

pub returns-in_err-rest-clause-only : goal.returns-in_err-rest-clause-only
returns-in_err-rest-clause-only c n is =
    let p = err_from_is_err_and c.from_residual-in_err-rest.result c.from_residual-in_err-rest.ensures.1 in
    let k = c.in_ok-kept.kept in
    let after = c.in_ok-text.after.now in
    let text = text-found n c.args.bytes.now c.split_at.result.1.now c.in_ok-text.text.now after is c.split_at.ensures.back c.in_ok-text.ensures in
    let same : k ≡ kept_of n = c.in_ok-kept.ensures.only (kept_of n) (kept-is n c.args.bytes.now c.in_ok-text.text.now is text.0) (kept-comes n is.within) in
    rw (p.1, p.2) (fails-finds (λ (x : Kept × Rest). AreOf n x) c.in_err-rest.field-0.0 (rest_at (k.count + 1) after) (rest_of n, sum_of n) c.in_err-rest.ensures (rest-reads n c.args.bytes.now after k is same text.1))

pub returns-clause-only : goal.returns-clause-only
returns-clause-only c n is =
    let k = c.in_ok-kept.kept in
    let after = c.in_ok-text.after.now in
    let text = text-found n c.args.bytes.now c.split_at.result.1.now c.in_ok-text.text.now after is c.split_at.ensures.back c.in_ok-text.ensures in
    let same : k ≡ kept_of n = c.in_ok-kept.ensures.only (kept_of n) (kept-is n c.args.bytes.now c.in_ok-text.text.now is text.0) (kept-comes n is.within) in
    (same, rest-found n c.args.bytes.now after k (c.in_ok-rest.rest, c.in_ok-rest.field-0-1.now) is same text.1 c.in_ok-rest.ensures)

pub returns-then-rest-lt1-clause-only : goal.returns-then-rest-lt1-clause-only
returns-then-rest-lt1-clause-only c n is =
    let k = c.in_ok-kept.kept in
    let after = c.in_ok-text.after.now in
    let text = text-found n c.args.bytes.now c.split_at.result.1.now c.in_ok-text.text.now after is c.split_at.ensures.back c.in_ok-text.ensures in
    let same : k ≡ kept_of n = c.in_ok-kept.ensures.only (kept_of n) (kept-is n c.args.bytes.now c.in_ok-text.text.now is text.0) (kept-comes n is.within) in
    let rest : c.in_ok-rest.rest ≡ rest_of n = rest-found n c.args.bytes.now after k (c.in_ok-rest.rest, c.in_ok-rest.field-0-1.now) is same text.1 c.in_ok-rest.ensures in
    let life : c.in_ok-rest.rest.life ≡ n.life = ap (λ (r : Rest). r.life) rest in
    elim c.then-rest-lt1.branch [
      | then-rest-lt1-via-then-rest-lt1 v ↦ absurd (omega (arith, v.if-rest-lt1.true, life, is.within.alive.0))
      | then-rest-lt1-via-else-rest-lt1+then-rest-ge-NUMBER_LIMIT v ↦ absurd (omega (arith, v.if-rest-ge-NUMBER_LIMIT.true, life, is.within.alive.1))
    ]

pub returns-clause-makes : goal.returns-clause-makes
returns-clause-makes c =
    let k = c.in_ok-kept.kept in
    let fields : IsBytes c.split_at.result.1.now = subst (λ (x : List ℕ). IsBytes x) (sym c.split_at.ensures.back) (IsBytes-drop 4 c.args.bytes.now (λ i. omega (arith, c.type_inv.bytes i))) in
    let after : IsBytes c.in_ok-text.after.now = text-fits c.split_at.result.1.now (c.in_ok-text.text.now, c.in_ok-text.after.now) fields c.in_ok-text.ensures in
    let wide = rest-wide (k.count + 1) c.in_ok-text.after.now (c.in_ok-rest.rest, c.in_ok-rest.field-0-1.now) after c.in_ok-rest.ensures in
    record {
      comes = c.in_ok-kept.ensures.comes;
      short = c.in_ok-kept.ensures.fits.1;
      alive = (omega (arith, c.if-rest-lt1.false), omega (arith, c.if-rest-ge-NUMBER_LIMIT.false));
      heard_wide = omega (arith, wide.0);
      resumed_wide = omega (arith, wide.1.0);
      codes_wide = omega (arith, wide.1.1);
    }
