-- The content of a message.
use Rattle.std.specs.Prelude.{◌≡◌, ℕ, ◌-◌, ◌≤◌, List, ◌++◌, length, take, replicate}
use Rattle.limits.specs.declared.TheConstants.{FORM_1_BYTES, PAYLOAD_BYTES}

-- what a handler of 64 bytes a message sees: the first 64 bytes, filled up with zeros
abbrev pub view64 : List ℕ → List ℕ
view64 payload = take FORM_1_BYTES (payload ++ replicate FORM_1_BYTES 0)

-- the bytes of a payload in their places, with zeros after them
abbrev pub filled : List ℕ → List ℕ
filled payload = payload ++ replicate (PAYLOAD_BYTES - length payload) 0

-- the first `len` places are used, and the others are zeros
pub record IsFilled (len : ℕ) (places : List ℕ) : Type 0 where
  pub size : length places ≡ PAYLOAD_BYTES
  pub fits : len ≤ length places
  pub filled_is : filled (take len places) ≡ places
