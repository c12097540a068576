-- A node at the opening
use Rattle.std.proofs.Common.{◌≡◌, ℕ, ◌+◌, ◌≤◌, List, [], Bool, false, refl, sym, ap, length, subst, arith}
use Rattle.std.specs.Prelude.{None, true}
use Rattle.std.proofs.lemmas.List.{get_or-replicate}
use Rattle.cluster.specs.Cluster.{durable_opening}
use Rattle.node.specs.declared.limit.Limits.{Limits}
use Rattle.node.specs.Queue.{no_queue}
use Rattle.node.specs.Node.{new_node}
use Rattle.node.specs.Stands.{StandsFirst, KeepsOf, IsShut, sent_by, freed_in, most_released}

pub stands-opened : (limits : Limits) (me count : ℕ) (state : List ℕ) → 1 ≤ me → me ≤ count → StandsFirst (new_node limits me count state) me count state
stands-opened limits me count state some low f durable firm begins =
    record {
      me = refl;
      count = refl;
      inside = (some, low);
      stage = refl;
      greeted = refl;
      phase = refl;
      works = tt;
      life = refl;
      state = begins.state_is;
      saved = refl;
      durable = firm;
      exact = refl;
      received = record {
        before = [];
        behind = [];
        joined = refl;
        ordered = tt;
        many = refl;
        covered_is = λ q l. get_or-replicate (count + 1) q 0 0 (omega (arith, l));
        senders = refl;
        in_order = tt;
        flags = refl;
        acknowledged_is = λ k l. absurd (omega (arith, l));
        below = λ k l. absurd (omega (arith, l));
        above = λ k l. refl;
      };
      waits = refl;
      logs = λ d l o. subst (λ q. KeepsOf q 0 (f.sends me [] d) (λ _. None)) (sym (get_or-replicate (count + 1) d no_queue no_queue (omega (arith, l)))) (record {
        before = [];
        many = refl;
        joined = sym (begins.sends_are d);
        dropped_is = refl;
        as_many = refl;
        numbers_are = λ i z. absurd (omega (arith, z));
        beyond = λ i z. refl;
      });
      gates = λ d l o. subst (λ q. IsShut q 0 (most_released limits.durable (durable_opening count f durable) me d) (sent_by f me [] d)) (sym (get_or-replicate (count + 1) d no_queue no_queue (omega (arith, l)))) (record { within = omega arith; waits = λ k m. omega arith });
      free = λ d. free limits.durable d;
      heard = λ q l. sym (get_or-replicate (count + 1) q 1 0 (omega (arith, l)));
      resumed = λ q l. sym (get_or-replicate (count + 1) q true true (omega (arith, l)));
      out = tt;
    }
  where
    nothing : (d : ℕ) → sent_by f me [] d 0 ≤ 0
    nothing d = let e : sent_by f me [] d 0 ≡ 0 = ap length (begins.sends_are d) in omega (arith, e)

    free : (b : Bool) (d : ℕ) → sent_by f me [] d (freed_in b (durable_opening count f durable) me) ≤ 0
    free true d = nothing d
    free false d = nothing d
