use Rattle.std.proofs.Common.{rules}
use Rattle.verifier.specs.declared.fault.HeaderFault.TheVariants.{Magic, StateLength, SlotCount, FileLength}
use Rattle.verifier.proofs.Files.{too_short, stops, passes, starts_broken}
use Rattle.verifier.proofs.header.read_header.Goals as goal

pub returns-then-bytes-lt-HEADER-clause-refused : goal.returns-then-bytes-lt-HEADER-clause-refused
returns-then-bytes-lt-HEADER-clause-refused c = too_short _ c.args.bytes.now (search rules)

pub returns-in-None-clause-refused : goal.returns-in-None-clause-refused
returns-in-None-clause-refused c = starts_broken _ Magic _ _ _ c.header_at.ensures (stops _ _ _ _ _ _ c.header_at.ensures (search rules))

pub returns-then-header-clause-refused : goal.returns-then-header-clause-refused
returns-then-header-clause-refused c =
    starts_broken _ StateLength _ _ _ c.header_at.ensures
    (passes _ Magic _ _ _ _ _ c.header_at.ensures (search rules)
    (stops _ _ _ _ _ _ c.header_at.ensures (search rules)))

pub returns-then-header-eq0-clause-refused : goal.returns-then-header-eq0-clause-refused
returns-then-header-eq0-clause-refused c =
    starts_broken _ SlotCount _ _ _ c.header_at.ensures
    (passes _ Magic _ _ _ _ _ c.header_at.ensures (search rules)
    (passes _ StateLength _ _ _ _ _ c.header_at.ensures (search rules)
    (stops _ _ _ _ _ _ c.header_at.ensures (search rules))))

pub returns-then-code-header-clause-refused : goal.returns-then-code-header-clause-refused
returns-then-code-header-clause-refused c =
    starts_broken _ FileLength _ _ _ c.header_at.ensures
    (passes _ Magic _ _ _ _ _ c.header_at.ensures (search rules)
    (passes _ StateLength _ _ _ _ _ c.header_at.ensures (search rules)
    (passes _ SlotCount _ _ _ _ _ c.header_at.ensures (search rules)
    (stops _ _ _ _ _ _ c.header_at.ensures (search rules)))))
