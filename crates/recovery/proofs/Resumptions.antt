-- What the bytes of a suspended node are read as, and the node that they make
use Rattle.std.proofs.Common.{◌≡◌, ℕ, zero, suc, ◌+◌, ◌-◌, ◌^◌, ◌<◌, ◌≤◌, List, [], ◌∷◌, ◌++◌, length, map, replicate, take, drop, Bool, true, false, Result, Ok, Err, IfOk, refl, sym, ap, ◌∙◌, subst, append_assoc, arith}
use Rattle.std.specs.Prelude.{Option, Some, None, ◌&&◌, ◌==◌, nat_lt, nat_le, slice_index_or}
use Rattle.std.specs.List.{flat_map, list_all, AllByRecursion}
use Rattle.std.proofs.lemmas.Bool.Decides.{nat_tests}
use Rattle.std.proofs.lemmas.List.{length-map, get_or-map, nil_from_length}
use Rattle.theorems.proofs.Tests.{both}
use Rattle.rsn.specs.Receipts.{Received}
use Rattle.packets.specs.Format.{long_bytes, checksum_bytes, IsLong}
use Rattle.packets.specs.Kept.{kept_bytes, IsKept}
use Rattle.packets.specs.declared.fault.PacketError.{PacketError}
use Rattle.packets.specs.declared.fault.PacketError.TheVariants as packet
use Rattle.packets.specs.declared.fault.PacketFault.{PacketFault}
use Rattle.packets.specs.declared.kept.Kept.{Kept}
use Rattle.packets.specs.declared.kept.KeptLog.{KeptLog}
use Rattle.packets.specs.Inside.Reader.{Fails, Reader, bytes_at, byte_at, number_at, times}
use Rattle.packets.specs.Inside.Reader as reader
use Rattle.packets.proofs.Codecs.{IsBytes, bind_ok, ok_is, not_both, Codec, word_codec, byte_codec, bytes_codec, both_codec, word_then, times_codec, counted_codec}
use Rattle.packets.proofs.KeptLemmas.{one_kept}
use Rattle.node.specs.declared.limit.Limits.{Limits}
use Rattle.node.specs.declared.job.OpenJob.{OpenJob}
use Rattle.node.specs.Limit.{AreAllowed}
use Rattle.node.specs.Queue.{TheQueue, IsSmall, no_queue, released_again}
use Rattle.node.specs.Node.{TheNode, Within, log_at}
use Rattle.node.specs.Checkpoints.{counts_from}
use Rattle.node.specs.Stands.{Each}
use Rattle.node.specs.Kept.{with_own, without_own, log_of, kept_of, queue_of}
use Rattle.node.specs.Suspension.{suspension_magic, flag_byte, number_code, codes_of, codes_bytes, rest_bytes, is_sent, is_unused, IsWhole, CanSuspend, IsSuspended, woken, joined_by, number_of_code, numbered_by}
use Rattle.node.proofs.Counts.{own-again}
use Rattle.node.proofs.Preservation.{map-without}
use Rattle.node.proofs.Views.{none-is}
use Rattle.node.proofs.Suspensions.{joined-length}
use Rattle.recovery.specs.Own.{TheOwn, own_of}
use Rattle.recovery.specs.Replayed.{IsReplayed}
use Rattle.recovery.specs.declared.rest.Rest.{Rest}
use Rattle.recovery.specs.declared.resumption.Unresumed.{Unresumed}
use Rattle.recovery.specs.declared.resumption.Unresumed.TheVariants as why
use Rattle.recovery.specs.Resumption.{text_at, codes_at, rest_at, unread, Finds, is_set, rest_of, MakesNode, made, IsOneNode}
use Rattle.recovery.proofs.Lists.{each-append}
use Rattle.recovery.proofs.Preservation.{can-come, own-long, counts-low, from-own, logs-short, each-take, each-drop}

-- ---- fields

abbrev IsCodes : List ℕ → Type 0
IsCodes codes = (length codes < 2 ^ 64) × AllByRecursion IsLong codes

codes_codec : Codec (List ℕ) (λ codes. IsCodes codes) (λ codes. codes_bytes codes) codes_at
unfolding codes_at reader.counted_at
codes_codec = counted_codec 8 (λ n. long_bytes n) word_codec ℕ (λ n. IsLong n) (λ n. long_bytes n) (number_at 8) word_codec

abbrev Pieces : Type 0
Pieces = ℕ × (ℕ × (List ℕ × (List ℕ × List (List ℕ))))

abbrev of_pieces : Pieces → Rest
of_pieces x = record { life = x.0; exact = x.1.0; heard = x.1.1.0; resumed = x.1.1.1.0; codes = x.1.1.1.1 }

abbrev HasLongs : ℕ → List ℕ → Type 0
HasLongs wide xs = (length xs ≡ wide) × AllByRecursion IsLong xs

abbrev HasLogs : ℕ → List (List ℕ) → Type 0
HasLogs wide xs = (length xs ≡ wide) × AllByRecursion IsCodes xs

abbrev pieces_at : ℕ → Reader Pieces
pieces_at wide = reader.both (number_at 8) (reader.both byte_at (reader.both (times (number_at 8) wide) (reader.both (bytes_at wide) (times codes_at wide))))

pieces_codec : (wide : ℕ) → Codec Pieces (λ x. IsLong x.0 × ((x.1.0 < 256) × (HasLongs wide x.1.1.0 × ((length x.1.1.1.0 ≡ wide) × HasLogs wide x.1.1.1.1))))
    (λ x. long_bytes x.0 ++ (x.1.0 ∷ [] ++ (flat_map long_bytes x.1.1.0 ++ (x.1.1.1.0 ++ flat_map codes_bytes x.1.1.1.1)))) (pieces_at wide)
pieces_codec wide =
    word_then (ℕ × (List ℕ × (List ℕ × List (List ℕ)))) (λ x. (x.0 < 256) × (HasLongs wide x.1.0 × ((length x.1.1.0 ≡ wide) × HasLogs wide x.1.1.1)))
    (λ x. x.0 ∷ [] ++ (flat_map long_bytes x.1.0 ++ (x.1.1.0 ++ flat_map codes_bytes x.1.1.1))) (reader.both byte_at (reader.both (times (number_at 8) wide) (reader.both (bytes_at wide) (times codes_at wide))))
    (both_codec ℕ (List ℕ × (List ℕ × List (List ℕ))) (λ b. b < 256) (λ x. HasLongs wide x.0 × ((length x.1.0 ≡ wide) × HasLogs wide x.1.1)) (λ b. b ∷ [])
    (λ x. flat_map long_bytes x.0 ++ (x.1.0 ++ flat_map codes_bytes x.1.1)) byte_at (reader.both (times (number_at 8) wide) (reader.both (bytes_at wide) (times codes_at wide))) byte_codec
    (both_codec (List ℕ) (List ℕ × List (List ℕ)) (λ xs. HasLongs wide xs) (λ x. (length x.0 ≡ wide) × HasLogs wide x.1) (λ xs. flat_map long_bytes xs) (λ x. x.0 ++ flat_map codes_bytes x.1)
    (times (number_at 8) wide) (reader.both (bytes_at wide) (times codes_at wide)) (times_codec wide ℕ (λ n. IsLong n) (λ n. long_bytes n) (number_at 8) word_codec)
    (both_codec (List ℕ) (List (List ℕ)) (λ text. length text ≡ wide) (λ xs. HasLogs wide xs) (λ text. text) (λ xs. flat_map codes_bytes xs) (bytes_at wide) (times codes_at wide)
    (bytes_codec wide) (times_codec wide (List ℕ) (λ codes. IsCodes codes) (λ codes. codes_bytes codes) codes_at codes_codec))))

-- there is one of each for each peer
abbrev pub IsWide : ℕ → Rest → Type 0
IsWide wide r = (length r.heard ≡ wide) × ((length r.resumed ≡ wide) × (length r.codes ≡ wide))

pub rest-wide : (wide : ℕ) (bytes : List ℕ) (x : Rest × List ℕ) → IsBytes bytes → rest_at wide bytes ≡ Ok x → IsWide wide x.0
unfolding rest_at
rest-wide wide bytes x fits e =
    let b = bind_ok (pieces_at wide bytes) (λ y. Ok (of_pieces y.0, y.1)) x e in
    let f = ((pieces_codec wide).takes bytes b.0 fits b.1).fits in
    subst (λ (z : Rest × List ℕ). IsWide wide z.0) (ok_is (of_pieces b.0.0, b.0.1) x b.2) (f.1.1.0.0, (f.1.1.1.0, f.1.1.1.1.0))

-- ---- what a suspended node's bytes are read as

flag-low : (b : Bool) → flag_byte b < 256
flag-low true = omega arith
flag-low false = omega arith

code-long : (o : Option ℕ) → IsSmall o → IsLong (number_code o)
code-long None h = omega arith
code-long (Some k) h = omega (arith, h)

all-codes-long : (os : List (Option ℕ)) → AllByRecursion IsSmall os → AllByRecursion IsLong (map number_code os)
all-codes-long [] h = tt
all-codes-long (o ∷ os) h = (code-long o h.0, all-codes-long os h.1)

all-logs : (qs : List TheQueue) → AllByRecursion IsWhole qs → AllByRecursion IsCodes (map codes_of qs)
all-logs [] h = tt
all-logs (q ∷ qs) h = ((omega (arith, length-map q.numbers number_code, h.0.as_many, h.0.small), all-codes-long q.numbers h.0.numbered), all-logs qs h.1)

pub rest-again : (n : TheNode) (after : List ℕ) → Within n → CanSuspend n → rest_at (suc n.count) (rest_bytes n ++ after) ≡ Ok (rest_of n, after)
unfolding rest_at
rest-again n after w c =
    let x : Pieces = (n.life, (flag_byte n.exact, (n.heard, (map flag_byte n.resumed, map codes_of n.logs)))) in
    let life : IsLong n.life = omega (arith, w.alive.1) in
    rw ((pieces_codec (suc n.count)).again x after
    (life, (flag-low n.exact, ((w.heard_wide, c.fits.heard), (length-map n.resumed flag_byte ∙ w.resumed_wide, (length-map n.logs codes_of ∙ w.logs_wide, all-logs n.logs c.fits.logs)))))) refl

text-again : (text after : List ℕ) → IsLong (length text) → text_at (long_bytes (length text) ++ (text ++ after)) ≡ Ok (text, after)
unfolding text_at
text-again text after long = rw (word_codec.again (length text) (text ++ after) long) ((bytes_codec (length text)).again text after refl)

-- its checksum
abbrev pub sum_of : TheNode → List ℕ
sum_of n = checksum_bytes (suspension_magic ++ (long_bytes (length (kept_bytes (kept_of n))) ++ (kept_bytes (kept_of n) ++ rest_bytes n)))

pub parts-again : (n : TheNode) (bytes : List ℕ) → IsSuspended n bytes → text_at (drop 4 bytes) ≡ Ok (kept_bytes (kept_of n), rest_bytes n ++ sum_of n)
parts-again n bytes is =
    let kept = kept_bytes (kept_of n) in
    let len = long_bytes (length kept) in
    ap (λ (x : List ℕ). text_at (drop 4 x)) is.bytes_are
    ∙ ap text_at (append_assoc len (kept ++ rest_bytes n) (sum_of n) ∙ ap (λ (x : List ℕ). len ++ x) (append_assoc kept (rest_bytes n) (sum_of n)))
    ∙ text-again kept (rest_bytes n ++ sum_of n) is.can.fits.small

pub text-reads : (n : TheNode) (bytes fields : List ℕ) → IsSuspended n bytes → fields ≡ drop 4 bytes → text_at fields ≡ Ok (kept_bytes (kept_of n), rest_bytes n ++ sum_of n)
text-reads n bytes fields is cut = ap text_at cut ∙ parts-again n bytes is

pub text-found : (n : TheNode) (bytes fields text after : List ℕ) → IsSuspended n bytes → fields ≡ drop 4 bytes → text_at fields ≡ Ok (text, after)
    → (text ≡ kept_bytes (kept_of n)) × (after ≡ rest_bytes n ++ sum_of n)
text-found n bytes fields text after is cut read =
    let one : List ℕ × List ℕ = (text, after) in
    let other : List ℕ × List ℕ = (kept_bytes (kept_of n), rest_bytes n ++ sum_of n) in
    let same : one ≡ other = ok_is (text, after) (kept_bytes (kept_of n), rest_bytes n ++ sum_of n) (sym read ∙ text-reads n bytes fields is cut) in
    (ap (λ (x : List ℕ × List ℕ). x.0) same, ap (λ (x : List ℕ × List ℕ). x.1) same)

pub kept-is : (n : TheNode) (bytes text : List ℕ) → IsSuspended n bytes → text ≡ kept_bytes (kept_of n) → IsKept (kept_of n) text
kept-is n bytes text is e = record { fits = is.can.fits.kept; bytes_are = e }

pub rest-reads : (n : TheNode) (bytes after : List ℕ) (k : Kept) → IsSuspended n bytes → k ≡ kept_of n → after ≡ rest_bytes n ++ sum_of n → rest_at (k.count + 1) after ≡ Ok (rest_of n, sum_of n)
rest-reads n bytes after k is e a =
    let wide : k.count + 1 ≡ suc n.count = omega (arith, ap (λ (l : Kept). l.count) e) in
    ap (λ z. rest_at z after) wide ∙ ap (λ (x : List ℕ). rest_at (suc n.count) x) a ∙ rest-again n (sum_of n) is.within is.can

pub rest-found : (n : TheNode) (bytes after : List ℕ) (k : Kept) (x : Rest × List ℕ) → IsSuspended n bytes → k ≡ kept_of n → after ≡ rest_bytes n ++ sum_of n → rest_at (k.count + 1) after ≡ Ok x
    → x.0 ≡ rest_of n
rest-found n bytes after k x is e a read = ap (λ (y : Rest × List ℕ). y.0) (ok_is x (rest_of n, sum_of n) (sym read ∙ rest-reads n bytes after k is e a))

-- a step that can't fail fails by memory
pub fails-finds : {A X : Type 0} (P : X → Type 0) (e : PacketError) (read : Result A PacketFault) (x : A) → Fails e read → read ≡ Ok x → Finds P (Err (unread e))
fails-finds P packet.Memory read x h is = tt
fails-finds P (packet.Fault f) read x h is = absurd (not_both x f (sym is ∙ h))

-- nor does the other one
pub finds-same : {X Y : Type 0} (P : X → Type 0) (Q : Y → Type 0) (e : Unresumed) → Finds P (Err e) → Finds Q (Err e)
finds-same P Q why.Memory h = tt
finds-same P Q why.Bytes h = h

-- what is found is found, unless memory ran out
pub finds-ok : {X : Type 0} (P Q : X → Type 0) (r : Result X Unresumed) → ((x : X) → P x → Q x) → Finds P r → IfOk r Q
finds-ok P Q (Ok x) f h = f x h
finds-ok P Q (Err e) f h = tt

pub text-fits : (bytes : List ℕ) (x : List ℕ × List ℕ) → IsBytes bytes → text_at bytes ≡ Ok x → IsBytes x.1
unfolding text_at
text-fits bytes x fits e =
    let b = bind_ok (number_at 8 bytes) (λ len. bytes_at len.0 len.1) x e in
    let t = word_codec.takes bytes b.0 fits b.1 in
    ((bytes_codec b.0.0).takes b.0.1 x t.rest b.2).rest

-- ---- the node that they make

flag-again : (b : Bool) → is_set (flag_byte b) ≡ b
flag-again true = refl
flag-again false = refl

flags-again : (bs : List Bool) → map is_set (map flag_byte bs) ≡ bs
flags-again [] = refl
flags-again (b ∷ bs) = rw (flag-again b, flags-again bs) refl

number-again : (o : Option ℕ) → IsSmall o → number_of_code (number_code o) ≡ o
number-again None h = refl
number-again (Some k) h =
    let some : nat_lt 0 (k + 1) ≡ true = grind (arith, nat_tests) in
    let low : k + 1 ≤ 2 ^ 63 = omega (arith, h) in
    let small : nat_le (k + 1) (2 ^ 63) ≡ true = grind (arith, nat_tests) in
    let back : k + 1 - 1 ≡ k = omega arith in
    rw (some, small, back) refl

numbers-again : (os ns : List (Option ℕ)) → length ns ≡ length os → AllByRecursion IsSmall os → joined_by (λ code _. number_of_code code) (map number_code os) ns ≡ os
numbers-again [] [] e h = refl
numbers-again [] (n ∷ ns) e h = absurd (omega (arith, e))
numbers-again (o ∷ os) [] e h = absurd (omega (arith, e))
numbers-again (o ∷ os) (n ∷ ns) e h = rw (number-again o h.0, numbers-again os ns (omega (arith, e)) h.1) refl

none-long : (n : ℕ) → length (let ns : List (Option ℕ) = replicate n None in ns) ≡ n
none-long zero = refl
none-long (suc n) = ap suc (none-long n)

same-queue : (q : TheQueue) (d : ℕ) (ns : List (Option ℕ)) (r : ℕ) (h : List ℕ) → d ≡ q.dropped → ns ≡ q.numbers → r ≡ q.released → h ≡ q.held
    → (let one : TheQueue = record { dropped = d; payloads = q.payloads; numbers = ns; released = r; held = h } in one ≡ q)
same-queue q d ns r h a b e f = rw (a, b, e, f) refl

log-again : (q : TheQueue) → is_sent q ≡ true → IsWhole q → numbered_by (codes_of q) (queue_of (log_of q)) ≡ q
log-again q sent whole =
    let back : q.dropped + 1 - 1 ≡ q.dropped = omega arith in
    let all : q.released ≡ q.dropped + length q.payloads = grind (arith, nat_tests) in
    let none : q.held ≡ [] = nil_from_length q.held (omega (arith, all, whole.sent)) in
    same-queue q (q.dropped + 1 - 1) (joined_by (λ code _. number_of_code code) (codes_of q) (replicate (length q.payloads) None)) (q.dropped + 1 - 1 + length q.payloads) [] back
    (numbers-again q.numbers (replicate (length q.payloads) None) (none-long (length q.payloads) ∙ sym whole.as_many) whole.numbered) (omega (arith, back, all)) (sym none)

logs-again : (qs : List TheQueue) → list_all is_sent qs ≡ true → AllByRecursion IsWhole qs → joined_by numbered_by (map codes_of qs) (map queue_of (map log_of qs)) ≡ qs
logs-again [] sent whole = refl
logs-again (q ∷ qs) sent whole = let b = both (is_sent q) (list_all is_sent qs) sent in rw (log-again q b.0 whole.0, logs-again qs b.1 whole.1) refl

unused-is : (q : TheQueue) → is_unused q ≡ true → queue_of (log_of q) ≡ no_queue
unused-is q e =
    let b = both (q.dropped == 0) (length q.payloads == 0) e in
    let dropped : q.dropped ≡ 0 = (let z : (q.dropped == 0) ≡ true = b.0 in grind (arith, nat_tests)) in
    let none : q.payloads ≡ [] = nil_from_length q.payloads (let z : (length q.payloads == 0) ≡ true = b.1 in grind (arith, nat_tests)) in
    rw (dropped, none) refl

abbrev pub none_received : Received
none_received = record { senders = []; acknowledged = [] }

counts-none : (q : ℕ) (ks : List ℕ) → counts_from q none_received ks ≡ ks
counts-none q [] = refl
counts-none q (k ∷ ks) = let e : k + 0 ≡ k = omega arith in rw (e, counts-none (suc q) ks) refl

same-received : (r : Received) → r.senders ≡ [] → r.acknowledged ≡ [] → none_received ≡ r
same-received r a b = rw (sym a, sym b) refl

same-node : (limits : Limits) (n : TheNode) (base : ℕ) (covered : List ℕ) (received : Received) (logs : List TheQueue) (waiting : ℕ) (resumed : List Bool) (exact : Bool) (working : Option OpenJob) (frozen : Bool)
    → base ≡ n.base → covered ≡ n.covered → received ≡ n.receipts → logs ≡ n.logs → waiting ≡ n.waiting → resumed ≡ n.resumed → exact ≡ n.exact → working ≡ n.working → frozen ≡ n.frozen
    → record (woken limits n) { base = base; covered = covered; receipts = received; logs = logs; waiting = waiting; resumed = resumed; exact = exact; working = working; frozen = frozen } ≡ woken limits n
same-node limits n base covered received logs waiting resumed exact working frozen a b d e f g h i j = rw (a, b, d, e, f, g, h, i, j) refl

-- nothing was received since
pub none-since : (n : TheNode) → CanSuspend n → none_received ≡ n.receipts
none-since n c =
    let t = both ((length n.receipts.senders == 0) && list_all is_sent n.logs) (is_unused (log_at n.logs n.me)) c.covered in
    let u = both (length n.receipts.senders == 0) (list_all is_sent n.logs) t.0 in
    let few : length n.receipts.senders ≡ 0 = (let z : (length n.receipts.senders == 0) ≡ true = u.0 in grind (arith, nat_tests)) in
    same-received n.receipts (nil_from_length n.receipts.senders few) (nil_from_length n.receipts.acknowledged (c.fits.flags ∙ few))

pub made-again : (limits : Limits) (n : TheNode) → Within n → CanSuspend n → made limits (kept_of n) (rest_of n) ≡ woken limits n
made-again limits n w c =
    let t = both ((length n.receipts.senders == 0) && list_all is_sent n.logs) (is_unused (log_at n.logs n.me)) c.covered in
    let u = both (length n.receipts.senders == 0) (list_all is_sent n.logs) t.0 in
    let received : none_received ≡ n.receipts = none-since n c in
    let few : length n.receipts.senders ≡ 0 = ap (λ (r : Received). length r.senders) (sym received) in
    let counts : counts_from 0 n.receipts n.covered ≡ n.covered = ap (λ (r : Received). counts_from 0 r n.covered) (sym received) ∙ counts-none 0 n.covered in
    let covered : with_own 0 n.me (without_own n.me (counts_from 0 n.receipts n.covered)) ≡ n.covered =
    ap (λ ks. with_own 0 n.me (without_own n.me ks)) counts ∙ ap (λ z. with_own z n.me (without_own n.me n.covered)) (sym w.peers.none_own) ∙ own-again n.me n.covered 0 (omega (arith, w.wide, w.within)) in
    let queues : List TheQueue = map queue_of (map log_of n.logs) in
    let wide : length queues ≡ suc n.count = length-map (map log_of n.logs) queue_of ∙ length-map n.logs log_of ∙ w.logs_wide in
    let own : slice_index_or queues n.me no_queue ≡ no_queue =
    get_or-map queue_of (map log_of n.logs) n.me (log_of no_queue) no_queue (omega (arith, length-map n.logs log_of, w.logs_wide, w.within)) ∙ ap queue_of (get_or-map log_of n.logs n.me no_queue (log_of no_queue) (omega (arith, w.logs_wide, w.within)))
    ∙ unused-is (log_at n.logs n.me) t.1 in
    let filled : with_own no_queue n.me (map queue_of (without_own n.me (map log_of n.logs))) ≡ queues =
    ap (λ qs. with_own no_queue n.me qs) (map-without queue_of n.me (map log_of n.logs)) ∙ ap (λ q. with_own q n.me (without_own n.me queues)) (sym own) ∙ own-again n.me queues no_queue (omega (arith, wide, w.within)) in
    let logs : joined_by numbered_by (map codes_of n.logs) (with_own no_queue n.me (map queue_of (without_own n.me (map log_of n.logs)))) ≡ n.logs =
    ap (λ qs. joined_by numbered_by (map codes_of n.logs) qs) filled ∙ logs-again n.logs u.1 c.fits.logs in
    same-node limits n (n.base + length n.receipts.senders) (with_own 0 n.me (without_own n.me (counts_from 0 n.receipts n.covered))) none_received
    (joined_by numbered_by (map codes_of n.logs) (with_own no_queue n.me (map queue_of (without_own n.me (map log_of n.logs))))) 0 (map is_set (map flag_byte n.resumed)) (is_set (flag_byte n.exact)) None false
    (omega (arith, few)) covered received logs (omega (arith, w.waits, few)) (flags-again n.resumed) (flag-again n.exact) (sym (none-is n.working c.idle)) (sym c.live)

pub made-is : (limits : Limits) (k : Kept) (r : Rest) (n : TheNode) (bytes : List ℕ) → (k ≡ kept_of n) × (r ≡ rest_of n) → IsSuspended n bytes → made limits k r ≡ woken limits n
made-is limits k r n bytes e is = ap (λ (l : Kept). made limits l r) e.0 ∙ ap (λ (z : Rest). made limits (kept_of n) z) e.1 ∙ made-again limits n is.within is.can

-- ---- all that was sent is released

abbrev IsFree : TheQueue → Type 0
IsFree q = (q.released ≡ q.dropped + length q.payloads) × (q.held ≡ [])

free-kept : (ls : List KeptLog) → Each IsFree (map queue_of ls)
free-kept [] = tt
free-kept (l ∷ ls) = ((refl, refl), free-kept ls)

free-joined : (codes : List (List ℕ)) (qs : List TheQueue) → Each IsFree qs → Each IsFree (joined_by numbered_by codes qs)
free-joined [] qs h = h
free-joined (c ∷ codes) [] h = tt
free-joined (c ∷ codes) (q ∷ qs) h = (h.0, free-joined codes qs h.1)

free-again : (durable : Bool) (qs : List TheQueue) → Each IsFree qs → map (released_again durable) qs ≡ qs
free-again true [] h = refl
free-again true (q ∷ qs) h = ap (λ ps. q ∷ ps) (free-again true qs h.1)
free-again false [] h = refl
free-again false (q ∷ qs) h = rw (same-queue q q.dropped q.numbers (q.dropped + length q.payloads) [] refl refl (sym h.0.0) (sym h.0.1), free-again false qs h.1) refl

pub released-still : (durable : Bool) (codes : List (List ℕ)) (me : ℕ) (ls : List KeptLog)
    → map (released_again durable) (joined_by numbered_by codes (with_own no_queue me (map queue_of ls))) ≡ joined_by numbered_by codes (with_own no_queue me (map queue_of ls))
released-still durable codes me ls =
    let all = free-kept ls in
    free-again durable (joined_by numbered_by codes (with_own no_queue me (map queue_of ls)))
    (free-joined codes (with_own no_queue me (map queue_of ls)) (each-append IsFree (take me (map queue_of ls)) (no_queue ∷ drop me (map queue_of ls)) (each-take IsFree me (map queue_of ls) all) ((refl, refl), each-drop IsFree me (map queue_of ls) all)))

-- as long as before
pub joined-long : (codes : List (List ℕ)) (qs : List TheQueue) (d : ℕ)
    → ((log_at (joined_by numbered_by codes qs) d).dropped ≡ (log_at qs d).dropped) × ((log_at (joined_by numbered_by codes qs) d).payloads ≡ (log_at qs d).payloads)
joined-long [] qs d = (refl, refl)
joined-long (c ∷ codes) [] d = (refl, refl)
joined-long (c ∷ codes) (q ∷ qs) zero = (refl, refl)
joined-long (c ∷ codes) (q ∷ qs) (suc d) = joined-long codes qs d

-- ---- one node

pub one-node : IsOneNode
one-node limits m n bytes a b =
    let one : List ℕ × List ℕ = (kept_bytes (kept_of m), rest_bytes m ++ sum_of m) in
    let other : List ℕ × List ℕ = (kept_bytes (kept_of n), rest_bytes n ++ sum_of n) in
    let same : one ≡ other =
    ok_is (kept_bytes (kept_of m), rest_bytes m ++ sum_of m) (kept_bytes (kept_of n), rest_bytes n ++ sum_of n) (sym (parts-again m bytes a) ∙ parts-again n bytes b) in
    let texts : kept_bytes (kept_of m) ≡ kept_bytes (kept_of n) = ap (λ (x : List ℕ × List ℕ). x.0) same in
    let rests : rest_bytes m ++ sum_of m ≡ rest_bytes n ++ sum_of n = ap (λ (x : List ℕ × List ℕ). x.1) same in
    let kept : kept_of m ≡ kept_of n = one_kept (kept_of m) (kept_of n) (kept_bytes (kept_of m)) (record { fits = a.can.fits.kept; bytes_are = refl }) (record { fits = b.can.fits.kept; bytes_are = texts }) in
    let count : m.count ≡ n.count = ap (λ (k : Kept). k.count) kept in
    let read : rest_at (suc m.count) (rest_bytes m ++ sum_of m) ≡ Ok (rest_of n, sum_of n) =
    ap (λ z. rest_at (suc z) (rest_bytes m ++ sum_of m)) count ∙ ap (λ (x : List ℕ). rest_at (suc n.count) x) rests ∙ rest-again n (sum_of n) b.within b.can in
    let rest : rest_of m ≡ rest_of n = ap (λ (x : Rest × List ℕ). x.0) (ok_is (rest_of m, sum_of m) (rest_of n, sum_of n) (sym (rest-again m (sum_of m) a.within a.can) ∙ read)) in
    sym (made-again limits m a.within a.can) ∙ ap (λ (k : Kept). made limits k (rest_of m)) kept ∙ ap (λ (r : Rest). made limits (kept_of n) r) rest ∙ made-again limits n b.within b.can

-- ---- its numbers are in range

pub made-within : (limits : Limits) (k : Kept) (r : Rest) → AreAllowed limits → MakesNode k r → Within (made limits k r)
made-within limits k r allowed m =
    let t = can-come k m.comes in
    let queues : List TheQueue = with_own no_queue k.me (map queue_of k.logs) in
    record {
      allowed = allowed;
      inside = t.some;
      within = t.own;
      few = t.few;
      wide = own-long 0 k.me k.counts (omega (arith, t.own, t.counts_are)) ∙ ap suc t.counts_are;
      heard_wide = m.heard_wide;
      resumed_wide = length-map r.resumed is_set ∙ m.resumed_wide;
      logs_wide = joined-length numbered_by r.codes queues ∙ own-long no_queue k.me (map queue_of k.logs) (omega (arith, t.own, t.logs_are, length-map k.logs queue_of)) ∙ ap suc (length-map k.logs queue_of ∙ t.logs_are);
      counts = λ q. counts-low k q m.comes;
      peers = from-own k m.comes;
      young = omega (arith, t.young);
      bound = omega arith;
      room = λ e. absurd (cc);
      waits = omega arith;
      own = tt;
      numbered = tt;
      rests = λ e. absurd (cc);
      short = λ d. (let l = joined-long r.codes queues d in omega (arith, logs-short k m.comes d, l.0, ap (λ (ps : List (List ℕ)). length ps) l.1));
      alive = m.alive;
      fit = tt;
    }

-- ---- the process that is woken

abbrev pub woken-own : Limits → Kept → Rest → TheOwn
woken-own limits k r = record (own_of limits k r.life) { logs = joined_by numbered_by r.codes (with_own no_queue k.me (map queue_of k.logs)); heard = r.heard; exact = is_set r.exact }

pub woken-replayed : (limits : Limits) (k : Kept) (r : Rest) → AreAllowed limits → MakesNode k r → IsReplayed (woken-own limits k r) none_received
woken-replayed limits k r allowed m = let w = made-within limits k r allowed m in record { young = w.young; short = w.short; peers = tt }
