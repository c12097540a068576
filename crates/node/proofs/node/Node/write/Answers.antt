use Rattle.std.proofs.Common.{rules, ◌≡◌, ◌<◌, ◌^◌, ℕ, List, length, subst, arith}
use Rattle.std.proofs.lemmas.Grind.{common_steps}
use Rattle.node.proofs.node.Node.write.Goals as goal

pub returns-clause-fits : goal.returns-clause-fits
returns-clause-fits c =
    let n = c.args.self.now in
    let bytes = c.in_ok-kept.ensures.bytes in
    let long : length c.in_ok-kept.kept.items < 2 ^ 64 = first_of (search rules, omega (arith, c.len.ensures)) in
    let flags : length n.receipts.acknowledged ≡ length n.receipts.senders = first_of (search rules, cc, grind (arith, common_steps)) in
    record {
      kept = bytes.fits;
      small = subst (λ (x : List ℕ). length x < 2 ^ 64) bytes.bytes_are long;
      flags = flags;
      heard = c.in_ok-put_rest.ensures.fits.0;
      logs = c.in_ok-put_rest.ensures.fits.1;
    }

pub returns-clause-value : goal.returns-clause-value
returns-clause-value c = grind (arith, common_steps)
