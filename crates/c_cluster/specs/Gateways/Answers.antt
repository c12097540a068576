-- The answers of the exports (docs/EMBEDDING.md, "A gateway")
use Rattle.std.specs.Prelude.{◌≡◌, ◌⊎◌, ℕ, Option, Some, None, Result, MatchResult}
use Rattle.gateway.specs.Gateway.{TheGateway}
use Rattle.c_cluster.specs.declared.gateways.fault.GatewayFault.{GatewayFault}
use Rattle.c_cluster.specs.declared.gateways.fault.GatewayFault.TheVariants.{Memory, Handle, Payload, Room, Absent, Bytes, Early, Range}

-- the code of a fault, 15 to 23
abbrev pub fault_number : GatewayFault → ℕ
fault_number Memory = 15
fault_number Handle = 16
fault_number Payload = 18
fault_number Room = 19
fault_number Absent = 20
fault_number Bytes = 21
fault_number Early = 22
fault_number Range = 23

-- the meaning of a code, with what the handle held before and holds now: 0 means that this was done, any other number says why it was not,
-- and the handle is unchanged
abbrev pub Answers : ℕ → Option TheGateway → Option TheGateway → (Option TheGateway → Option TheGateway → Type 0)
    → (Option TheGateway → GatewayFault → Type 0) → Type 0
Answers code old new done refused = ((code ≡ 0) × done old new)
    ⊎ ((why : GatewayFault) × (code ≡ fault_number why) × refused old why × (new ≡ old))

-- the same of a result
abbrev pub Results : Result (Unit {0}) GatewayFault → Option TheGateway → Option TheGateway
    → (Option TheGateway → Option TheGateway → Type 0) → (Option TheGateway → GatewayFault → Type 0)
    → Type 0
Results result old new done refused = MatchResult result (λ u. done old new) (λ why. refused old why × (new ≡ old))

-- the same of a gateway without its handle
abbrev pub Does : Result (Unit {0}) GatewayFault → TheGateway → TheGateway → (TheGateway → TheGateway → Type 0)
    → (TheGateway → GatewayFault → Type 0) → Type 0
Does result old new done refused = MatchResult result (λ u. done old new) (λ why. refused old why × (new ≡ old))

-- the handle is open, and this holds of its gateway
abbrev pub OfOpen : Option TheGateway → (TheGateway → Type 0) → Type 0
OfOpen handle holds = (g : TheGateway) × (handle ≡ Some g) × holds g

-- an open handle's gateway was called: this holds of it before and after
abbrev pub Calls : Option TheGateway → Option TheGateway → (TheGateway → TheGateway → Type 0) → Type 0
Calls old new holds = (g h : TheGateway) × (old ≡ Some g) × (new ≡ Some h) × holds g h

-- why it was not called: the handle is closed, and nothing is written; or this holds of its gateway
abbrev pub Refuses : Option TheGateway → Type 0 → (TheGateway → GatewayFault → Type 0) → GatewayFault → Type 0
Refuses handle untouched holds why = ((why ≡ Handle) × (handle ≡ None) × untouched) ⊎ OfOpen handle (λ g. holds g why)
