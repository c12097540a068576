-- REX, ModR/M and SIB read back.
use Rattle.std.proofs.Common.{◌≡◌, ℕ, ◌+◌, ◌*◌, ◌/◌, ◌%◌, ◌^◌, ◌<◌, Bool, true, false, nat_eq, List, [], ◌∷◌, ◌++◌, Some, refl, ap, ap₂, ◌∙◌, arith}
use Rattle.std.specs.Prelude.{if◌then◌else◌, ◌==◌, ◌≢◌}
use Rattle.std.proofs.lemmas.Bool.{eqb-false}
use Rattle.std.proofs.lemmas.Bool.Decides.{Decides-eqb}
use Rattle.decode.specs.declared.insn.Width.{Width}
use Rattle.decode.specs.declared.insn.Width.TheVariants.{W32, W64}
use Rattle.operations.specs.Bytes.{le_bytes}
use Rattle.x86.specs.Encoding.{rex_by, two, memory, memory_by, is_small}
use Rattle.x86.specs.Readings.{behind, width_of, reg_of, index_of, base_of, Place, Register, Memory, MemoryBy, displacement, by_sib, place_of, modrm}
use Rattle.x86.proofs.Numbers.{other, read_four, spread_small}

-- what the bits of a REX say
pub record IsRexOf (p : ℕ) (w : Width) (reg index rm : ℕ) : Type 0 where
  pub high : p / 16 ≡ 4
  pub width : width_of p ≡ w
  pub r : p / 4 % 2 ≡ reg / 8 % 2
  pub x : p / 2 % 2 ≡ index / 8 % 2
  pub b : p % 2 ≡ rm / 8 % 2

pub rex_bits : (w : Width) (reg index rm : ℕ) → IsRexOf (rex_by w reg index rm) w reg index rm
rex_bits W32 reg index rm =
    let p = 64 + 0 + 4 * (reg / 8 % 2) + 2 * (index / 8 % 2) + rm / 8 % 2 in
    let e : p / 8 % 2 ≡ 0 = omega arith in
    record { high = omega arith; width = ap (λ n. if n == 1 then W64 else W32) e; r = omega arith; x = omega arith; b = omega arith }
rex_bits W64 reg index rm =
    let p = 64 + 8 + 4 * (reg / 8 % 2) + 2 * (index / 8 % 2) + rm / 8 % 2 in
    let e : p / 8 % 2 ≡ 1 = omega arith in
    record { high = omega arith; width = ap (λ n. if n == 1 then W64 else W32) e; r = omega arith; x = omega arith; b = omega arith }

-- a place by its mode and r/m
place_at : (p m mode low : ℕ) (bs : List ℕ) → m / 64 ≡ mode → m % 8 ≡ low
    → place_of p m bs
    ≡ (if mode == 3 then Some (Register (base_of p m), bs) else if low == 4 then by_sib p mode bs
    else behind (displacement mode bs) (λ d bs. Some (Memory (base_of p m) d, bs)))
place_at p m mode low bs e f =
    ap₂ (λ x y. if x == 3 then Some (Register (base_of p m), bs) else if y == 4 then by_sib p x bs else behind (displacement x bs) (λ d bs. Some (Memory (base_of p m) d, bs))) e f

-- ---- registers

pub modrm_two : (p reg rm : ℕ) (bs : List ℕ) → p / 4 % 2 ≡ reg / 8 % 2 → p % 2 ≡ rm / 8 % 2 → reg < 16 → rm < 16
    → modrm p (two reg rm ∷ bs) ≡ Some ((reg, Register rm), bs)
modrm_two p reg rm bs r b h k =
    let m = 192 + 8 * (reg % 8) + rm % 8 in
    let mode : m / 64 ≡ 3 = omega arith in
    let n : reg_of p m ≡ reg = omega arith in
    let o : base_of p m ≡ rm = omega arith in
    ap (λ z. behind z (λ place bs. Some ((reg_of p m, place), bs))) (place_at p m 3 (m % 8) bs mode refl)
    ∙ ap₂ (λ x y. Some ((x, Register y), bs)) n o

-- ---- memory

-- a displacement by its mode
small_displacement : (v : ℕ) (rest : List ℕ) → v < 2 ^ 32 → is_small v ≡ true → displacement 1 (v % 256 ∷ rest) ≡ Some (v, rest)
small_displacement v rest h s = ap (λ n. Some (n, rest)) (spread_small v h s)

long_displacement : (v : ℕ) (rest : List ℕ) → v < 2 ^ 32 → displacement 2 (le_bytes 4 v ++ rest) ≡ Some (v, rest)
long_displacement v rest h = read_four v rest h

-- the bytes of a displacement, of 8 bits or 32
abbrev shown : Bool → ℕ → List ℕ
shown small v = if small then v % 256 ∷ [] else le_bytes 4 v

abbrev mode_of : Bool → ℕ
mode_of small = if small then 1 else 2

displaced : (small : Bool) (v : ℕ) (rest : List ℕ) → v < 2 ^ 32 → is_small v ≡ small → displacement (mode_of small) (shown small v ++ rest) ≡ Some (v, rest)
displaced true v rest h s = small_displacement v rest h s
displaced false v rest h s = long_displacement v rest h

mode_is : (small : Bool) (a b : ℕ) → a < 8 → b < 8 → ((if small then 64 else 128) + 8 * a + b) / 64 ≡ mode_of small
mode_is true a b h k = omega arith
mode_is false a b h k = omega arith

low_is : (small : Bool) (a b : ℕ) → a < 8 → b < 8 → ((if small then 64 else 128) + 8 * a + b) % 8 ≡ b
low_is true a b h k = omega arith
low_is false a b h k = omega arith

middle_is : (small : Bool) (a b : ℕ) → a < 8 → b < 8 → ((if small then 64 else 128) + 8 * a + b) / 8 % 8 ≡ a
middle_is true a b h k = omega arith
middle_is false a b h k = omega arith

not_register : {A : Type 0} (small : Bool) (x y : A) → (if mode_of small == 3 then x else y) ≡ y
not_register true x y = refl
not_register false x y = refl

-- without a SIB
plain_place : (small : Bool) (p m base disp : ℕ) (rest : List ℕ) → m / 64 ≡ mode_of small → m % 8 ≡ base % 8 → base % 8 ≢ 4 → p % 2 ≡ base / 8 % 2
    → base < 16 → disp < 2 ^ 32 → is_small disp ≡ small → place_of p m (shown small disp ++ rest) ≡ Some (Memory base disp, rest)
plain_place small p m base disp rest mode low ne b h k s =
    let bs = shown small disp ++ rest in
    let o : base_of p m ≡ base = omega arith in
    place_at p m (mode_of small) (base % 8) bs mode low
    ∙ not_register small (Some (Register (base_of p m), bs)) (if base % 8 == 4 then by_sib p (mode_of small) bs else behind (displacement (mode_of small) bs) (λ d bs. Some (Memory (base_of p m) d, bs)))
    ∙ other (base % 8) 4 (by_sib p (mode_of small) bs) (behind (displacement (mode_of small) bs) (λ d bs. Some (Memory (base_of p m) d, bs))) ne
    ∙ ap (λ z. behind z (λ d bs. Some (Memory (base_of p m) d, bs))) (displaced small disp rest k s)
    ∙ ap (λ n. Some (Memory n disp, rest)) o

-- by a SIB, whatever it says
sib_place : (small : Bool) (p m s disp : ℕ) (rest : List ℕ) → m / 64 ≡ mode_of small → m % 8 ≡ 4 → disp < 2 ^ 32 → is_small disp ≡ small
    → place_of p m (s ∷ (shown small disp ++ rest)) ≡ Some (if index_of p s == 4 then Memory (base_of p s) disp else MemoryBy (base_of p s) (index_of p s) disp, rest)
sib_place small p m s disp rest mode low k t =
    let bs = s ∷ (shown small disp ++ rest) in
    place_at p m (mode_of small) 4 bs mode low
    ∙ not_register small (Some (Register (base_of p m), bs)) (by_sib p (mode_of small) bs)
    ∙ ap (λ z. behind z (λ d bs. Some (if index_of p s == 4 then Memory (base_of p s) d else MemoryBy (base_of p s) (index_of p s) d, bs))) (displaced small disp rest k t)

-- rsp and r12 are bases by a SIB
based_place : (small : Bool) (p m base disp : ℕ) (rest : List ℕ) → m / 64 ≡ mode_of small → m % 8 ≡ base % 8 → base % 8 ≡ 4 → p / 2 % 2 ≡ 0 → p % 2 ≡ base / 8 % 2
    → base < 16 → disp < 2 ^ 32 → is_small disp ≡ small → place_of p m (36 ∷ (shown small disp ++ rest)) ≡ Some (Memory base disp, rest)
based_place small p m base disp rest mode low e x b h k s =
    let o : base_of p 36 ≡ base = omega arith in
    let i : index_of p 36 ≡ 4 = omega arith in
    sib_place small p m 36 disp rest mode (low ∙ e) k s
    ∙ ap₂ (λ u v. Some (if u == 4 then Memory v disp else MemoryBy v u disp, rest)) i o

modrm_of : (p m reg : ℕ) (place : Place) (bs rest : List ℕ) → p / 4 % 2 ≡ reg / 8 % 2 → m / 8 % 8 ≡ reg % 8 → reg < 16
    → place_of p m bs ≡ Some (place, rest) → modrm p (m ∷ bs) ≡ Some ((reg, place), rest)
modrm_of p m reg place bs rest r middle h e =
    let n : reg_of p m ≡ reg = omega arith in
    ap (λ z. behind z (λ place bs. Some ((reg_of p m, place), bs))) e ∙ ap (λ x. Some ((x, place), rest)) n

memory_at : (small sib : Bool) (p reg base disp : ℕ) (rest : List ℕ) → p / 4 % 2 ≡ reg / 8 % 2 → p / 2 % 2 ≡ 0 → p % 2 ≡ base / 8 % 2
    → reg < 16 → base < 16 → disp < 2 ^ 32 → is_small disp ≡ small → nat_eq (base % 8) 4 ≡ sib
    → modrm p ((((if small then 64 else 128) + 8 * (reg % 8) + base % 8) ∷ ((if sib then 36 ∷ [] else []) ++ shown small disp)) ++ rest) ≡ Some ((reg, Memory base disp), rest)
memory_at small true p reg base disp rest r x b h k l s t =
    let m = (if small then 64 else 128) + 8 * (reg % 8) + base % 8 in
    modrm_of p m reg (Memory base disp) (36 ∷ (shown small disp ++ rest)) rest r (middle_is small (reg % 8) (base % 8) (omega arith) (omega arith)) h
    (based_place small p m base disp rest (mode_is small (reg % 8) (base % 8) (omega arith) (omega arith)) (low_is small (reg % 8) (base % 8) (omega arith) (omega arith)) ((Decides-eqb (base % 8) 4).0 t) x b k l s)
memory_at small false p reg base disp rest r x b h k l s t =
    let m = (if small then 64 else 128) + 8 * (reg % 8) + base % 8 in
    modrm_of p m reg (Memory base disp) (shown small disp ++ rest) rest r (middle_is small (reg % 8) (base % 8) (omega arith) (omega arith)) h
    (plain_place small p m base disp rest (mode_is small (reg % 8) (base % 8) (omega arith) (omega arith)) (low_is small (reg % 8) (base % 8) (omega arith) (omega arith)) (eqb-false (base % 8) 4 t) b k l s)

pub modrm_memory : (p reg base disp : ℕ) (rest : List ℕ) → p / 4 % 2 ≡ reg / 8 % 2 → p / 2 % 2 ≡ 0 → p % 2 ≡ base / 8 % 2
    → reg < 16 → base < 16 → disp < 2 ^ 32 → modrm p (memory reg base disp ++ rest) ≡ Some ((reg, Memory base disp), rest)
modrm_memory p reg base disp rest r x b h k l = memory_at (is_small disp) (nat_eq (base % 8) 4) p reg base disp rest r x b h k l refl refl

by_at : (small : Bool) (p reg base index disp : ℕ) (rest : List ℕ) → p / 4 % 2 ≡ reg / 8 % 2 → p / 2 % 2 ≡ index / 8 % 2 → p % 2 ≡ base / 8 % 2
    → reg < 16 → base < 16 → index < 16 → index ≢ 4 → disp < 2 ^ 32 → is_small disp ≡ small
    → modrm p ((((if small then 64 else 128) + 8 * (reg % 8) + 4) ∷ (8 * (index % 8) + base % 8) ∷ shown small disp) ++ rest) ≡ Some ((reg, MemoryBy base index disp), rest)
by_at small p reg base index disp rest r x b h k i ne l s =
    let m = (if small then 64 else 128) + 8 * (reg % 8) + 4 in
    let sib = 8 * (index % 8) + base % 8 in
    let o : base_of p sib ≡ base = omega arith in
    let n : index_of p sib ≡ index = omega arith in
    modrm_of p m reg (MemoryBy base index disp) (sib ∷ (shown small disp ++ rest)) rest r (middle_is small (reg % 8) 4 (omega arith) (omega arith)) h
    (sib_place small p m sib disp rest (mode_is small (reg % 8) 4 (omega arith) (omega arith)) (low_is small (reg % 8) 4 (omega arith) (omega arith)) l s
    ∙ ap₂ (λ u v. Some (if u == 4 then Memory v disp else MemoryBy v u disp, rest)) n o
    ∙ ap (λ z. Some (z, rest)) (other index 4 (Memory base disp) (MemoryBy base index disp) ne))

pub modrm_memory_by : (p reg base index disp : ℕ) (rest : List ℕ) → p / 4 % 2 ≡ reg / 8 % 2 → p / 2 % 2 ≡ index / 8 % 2 → p % 2 ≡ base / 8 % 2
    → reg < 16 → base < 16 → index < 16 → index ≢ 4 → disp < 2 ^ 32 → modrm p (memory_by reg base index disp ++ rest) ≡ Some ((reg, MemoryBy base index disp), rest)
modrm_memory_by p reg base index disp rest r x b h k i ne l = by_at (is_small disp) p reg base index disp rest r x b h k i ne l refl
