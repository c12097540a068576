-- The parts of worked runs
use Rattle.std.specs.Prelude.{ℕ, List, [], ◌∷◌, ◌++◌, Option, Some, None, ◌==◌, if◌then◌else◌}
use Rattle.world.specs.declared.message.Message.{Message}
use Rattle.world.specs.Worked.{relaying}
use Rattle.theorems.specs.WorkedOverlap.{passing}
use Rattle.cluster.specs.Parcels.{Body, Delivery, Number, Ask, Told, Resume, Restored}
use Rattle.cluster.specs.Cluster.{Cluster, opening}
use Rattle.cluster.specs.Rules.{Act, Input, Puts, Arrives, Works, Dies, Opens}
use Rattle.cluster.specs.Rules.{after_run, message}

-- p sends this packet to d, which takes it
abbrev pub sends : ℕ → ℕ → Body → List Act
sends p d x = Puts p d x ∷ Arrives p d x ∷ []

-- node 1 receives the gateway's message of this SSN
abbrev pub receives : ℕ → List ℕ → List Act
receives ssn x = Input 1 x ∷ sends 0 1 (Delivery 1 ssn x) ++ Works 1 (message 0 ssn x) ∷ []

-- in incarnation i it gave that message the RSN k, which the gateway records
abbrev pub number_recorded : ℕ → ℕ → ℕ → List Act
number_recorded i ssn k = sends 1 0 (Number i ssn k)

-- p dies, and is opened in its next incarnation
abbrev pub falls : ℕ → List Act
falls p = Dies p ∷ Opens p 0 ∷ []

-- p, in incarnation i, asks q for what is above the RSN k, and q hears it
abbrev pub asks : ℕ → ℕ → ℕ → ℕ → List Act
asks p q i k = sends p q (Ask i k)

-- q, in incarnation j, tells p these entries, which are all that it has, and p collects them
abbrev pub tells : ℕ → ℕ → ℕ → ℕ → ℕ → (ℕ → Option Message) → List Act
tells p q i j k entries = sends q p (Told i j k None entries)

-- p, in incarnation i, keeps k messages and says so to q, which obeys
abbrev pub resumes : ℕ → ℕ → ℕ → ℕ → List Act
resumes p q i k = sends p q (Resume i k 0)

-- q, in incarnation j, answers p, in incarnation i, with these RSNs, which are all
abbrev pub restores : ℕ → ℕ → ℕ → ℕ → (ℕ → Option ℕ) → List Act
restores p q i j numbers = sends q p (Restored i j 0 0 None numbers)

-- no message has an RSN
abbrev pub no_numbers : ℕ → Option ℕ
no_numbers ssn = None

-- no entry is logged
abbrev pub no_entries : ℕ → Option Message
no_entries m = None

-- p sends its Resume to the gateway, which obeys and answers
abbrev pub greets : ℕ → ℕ → ℕ → List Act
greets p i k = resumes p 0 i k ++ restores p 0 i 1 no_numbers

-- the gateway's first input, which its log has with the RSN 1
abbrev pub first_entry : List ℕ → ℕ → Option Message
first_entry x m = if 1 == m then Some (message 0 1 x) else None

-- after these acts, a node that outputs what it receives; g gives its states
abbrev pub one_after : (ℕ → List Message → List ℕ) → List Act → Cluster
one_after g acts = after_run (opening 1 (relaying 0 g)) acts

-- after these acts, two nodes: the first sends what it receives to the second, which outputs it; g gives their states
abbrev pub two_after : (ℕ → List Message → List ℕ) → List Act → Cluster
two_after g acts = after_run (opening 2 (passing g)) acts
