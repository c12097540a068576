use Rattle.std.proofs.Common.{◌≡◌, ◌≢◌, ℕ, zero, suc, ◌+◌, ◌*◌, ◌^◌, ◌<◌, ◌≤◌, List, length, refl, lit≤, arith}
use Rattle.limits.specs.declared.TheConstants.{PAYLOAD_BYTES}
use Rattle.helpers.specs.declared.effects.Who.{Who}
use Rattle.interp.specs.Words.{AreBytes}
use Rattle.x86.specs.Machine.{Flags, Word, value}
use Rattle.native.specs.Correct.{IsCalled}
use Rattle.native.specs.Worked.{called}
use Rattle.native.proofs.Reports.{le_word}
use Rattle.native.proofs.rows.calls_can_be_made.Goals as goal

module _ (who : Who) (m : ℕ) (word : ℕ → ℕ) (long : List ℕ) (flags : Flags) (mem : List ℕ) (steps : ℕ) (rest : List ℕ) (len : m ≤ PAYLOAD_BYTES) (fits : (r : ℕ) → word r < 2 ^ 64) where
  abbrev IsWord : ℕ → Type 0
  IsWord r = (n : ℕ) × (n < 2 ^ 64) × (value (called who m word long flags mem steps rest) r ≡ Word n)

  later : (r : ℕ) → IsWord (suc (suc (suc (suc (suc (suc (suc (suc r))))))))
  later zero = (word 8, fits 8, refl)
  later (suc zero) = (word 9, fits 9, refl)
  later (suc (suc zero)) = (word 10, fits 10, refl)
  later (suc (suc (suc zero))) = (word 11, fits 11, refl)
  later (suc (suc (suc (suc zero)))) = (word 12, fits 12, refl)
  later (suc (suc (suc (suc (suc zero))))) = (word 13, fits 13, refl)
  later (suc (suc (suc (suc (suc (suc zero)))))) = (word 14, fits 14, refl)
  later (suc (suc (suc (suc (suc (suc (suc zero))))))) = (word 15, fits 15, refl)
  later (suc (suc (suc (suc (suc (suc (suc (suc r)))))))) = (0, omega arith, refl)

  named : (r : ℕ) → r ≢ 6 → r ≢ 7 → IsWord r
  named zero a b = (word 0, fits 0, refl)
  named (suc zero) a b = (word 1, fits 1, refl)
  named (suc (suc zero)) a b = (m, omega arith, refl)
  named (suc (suc (suc zero))) a b = (word 3, fits 3, refl)
  named (suc (suc (suc (suc zero)))) a b = (word 4, fits 4, refl)
  named (suc (suc (suc (suc (suc zero))))) a b = (word 5, fits 5, refl)
  named (suc (suc (suc (suc (suc (suc zero)))))) a b = absurd (a refl)
  named (suc (suc (suc (suc (suc (suc (suc zero))))))) a b = absurd (b refl)
  named (suc (suc (suc (suc (suc (suc (suc (suc r)))))))) a b = later r

  is_called : who.me < 2 ^ 8 → who.from < 2 ^ 8 → who.count < 2 ^ 64 → AreBytes mem → length rest ≡ 16 + 16 * 272 → IsCalled who m (called who m word long flags mem steps rest)
  is_called me from count bytes size = record {
    sixteen = refl;
    array = refl;
    record_ = refl;
    len = refl;
    words = named;
    bytes = bytes;
    keeps = record {
      whole = omega arith;
      me_fits = me;
      from_fits = from;
      me = le_word who.me (omega arith);
      from = le_word who.from (omega arith);
      count = le_word who.count count;
      few_sends = lit≤ tt;
      few_outputs = lit≤ tt;
      sent = refl;
      output = refl;
      sends = λ k s g. cc;
      outputs = λ k p g. cc;
    };
    pushed = refl;
  }

pub returns : goal.returns
returns c who m word long flags mem steps rest me from count len fits bytes size =
    is_called who m word long flags mem steps rest len fits me from count bytes size
