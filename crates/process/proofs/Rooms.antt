-- A packet without entries that is in its range has room
use Rattle.std.proofs.Common.{◌≡◌, ◌<◌, ◌^◌, ℕ, List, [], ◌∷◌, length, true, false, arith}
use Rattle.std.specs.Prelude.{not, ◌&&◌, ◌==◌, nat_lt, nat_le}
use Rattle.std.specs.List.{list_all}
use Rattle.std.proofs.lemmas.Bool.Decides.{nat_tests}
use Rattle.theorems.proofs.Tests.{both}
use Rattle.packets.specs.declared.page.LoggedMessage.{LoggedMessage}
use Rattle.packets.specs.declared.page.Flags.{Flags}
use Rattle.packets.specs.declared.packet.Body.{Body}
use Rattle.packets.specs.declared.packet.Body.TheVariants.{Ask, Told, Resume}
use Rattle.packets.specs.Packet.{is_positive, is_number, goes_on, ascends, entry_before, is_entry_above, entries_in_range, in_range}
use Rattle.packets.specs.declared.packet.NodePacket.{NodePacket}
use Rattle.limits.specs.declared.TheConstants.{PROCESSES}
use Rattle.packets.specs.Format.{Fits, HasRoom, IsLong, IsPage, IsEntry}
use Rattle.process.specs.Packets.{is_brief, is_written}
use Rattle.process.proofs.Bounds.{not-true}

positive-long : (n : ℕ) → is_positive n ≡ true → IsLong n
positive-long n e = let l : nat_lt n (2 ^ 63) ≡ true = (both (nat_lt 0 n) (nat_lt n (2 ^ 63)) e).1 in let k : n < 2 ^ 63 = grind (arith, nat_tests) in omega (arith, k)

number-long : (n : ℕ) → is_number n ≡ true → IsLong n
number-long n e = let k : n < 2 ^ 63 = grind (arith, nat_tests) in omega (arith, k)

flags-small : (k : ℕ) (flags : Flags) (xs : List LoggedMessage) → entries_in_range k flags xs ≡ true → flags.bits < 256
unfolding entries_in_range
flags-small k flags xs e =
    let a = both (nat_lt flags.bits 8 && goes_on flags xs && list_all (is_entry_above k) xs) (ascends entry_before xs) e in
    let b = both (nat_lt flags.bits 8 && goes_on flags xs) (list_all (is_entry_above k) xs) a.0 in
    let d : nat_lt flags.bits 8 ≡ true = (both (nat_lt flags.bits 8) (goes_on flags xs) b.0).0 in
    let l : flags.bits < 8 = grind (arith, nat_tests) in
    omega (arith, l)

empty-page : (xs : List LoggedMessage) → (length xs == 0) ≡ true → IsPage IsEntry xs
empty-page [] e = (omega arith, tt)
empty-page (x ∷ xs) e = absurd (let z : length (x ∷ xs) ≡ 0 = grind (arith, nat_tests) in omega (arith, z))

pub brief-room : (b : Body) → is_brief b ≡ true → in_range b ≡ true → HasRoom b
brief-room (Ask i k) brief e = let t = both (is_positive i) (is_number k) e in (positive-long i t.0, number-long k t.1)
brief-room (Resume i kept s) brief e =
    let t = both (is_positive i && is_number kept) (is_number s) e in
    let u = both (is_positive i) (is_number kept) t.0 in
    (positive-long i u.0, (number-long kept u.1, number-long s t.1))
brief-room (Told i j k flags entries) brief e =
    let t = both (is_positive i && is_positive j && is_number k) (entries_in_range k flags entries) e in
    let u = both (is_positive i && is_positive j) (is_number k) t.0 in
    let v = both (is_positive i) (is_positive j) u.0 in
    (positive-long i v.0, (positive-long j v.1, (number-long k u.1, (flags-small k flags entries t.1, empty-page entries brief))))
brief-room other brief e = absurd (let z : false ≡ true = brief in cc)

-- so it can be sent
pub written-fits : (x : NodePacket) → is_written x ≡ true → Fits x
written-fits x e =
    let a = both (nat_le 1 x.count && nat_le x.count PROCESSES && nat_le x.from x.count && nat_le x.to x.count && not (x.from == x.to) && is_brief x.body) (in_range x.body) e in
    let b = both (nat_le 1 x.count && nat_le x.count PROCESSES && nat_le x.from x.count && nat_le x.to x.count && not (x.from == x.to)) (is_brief x.body) a.0 in
    let d = both (nat_le 1 x.count && nat_le x.count PROCESSES && nat_le x.from x.count && nat_le x.to x.count) (not (x.from == x.to)) b.0 in
    let f = both (nat_le 1 x.count && nat_le x.count PROCESSES && nat_le x.from x.count) (nat_le x.to x.count) d.0 in
    let g = both (nat_le 1 x.count && nat_le x.count PROCESSES) (nat_le x.from x.count) f.0 in
    let h = both (nat_le 1 x.count) (nat_le x.count PROCESSES) g.0 in
    record {
      some = (let z : nat_le 1 x.count ≡ true = h.0 in grind (arith, nat_tests));
      few = (let z : nat_le x.count PROCESSES ≡ true = h.1 in grind (arith, nat_tests));
      from = (let z : nat_le x.from x.count ≡ true = g.1 in grind (arith, nat_tests));
      to = (let z : nat_le x.to x.count ≡ true = f.1 in grind (arith, nat_tests));
      apart = (let z : (x.from == x.to) ≡ false = not-true (x.from == x.to) d.1 in grind (arith, nat_tests));
      room = brief-room x.body b.1 a.1;
      range = a.1;
    }
